use Rattle.std.proofs.Common.{sym, ap, ◌∙◌, subst, w32}
use Rattle.std.specs.Str.{IsUtf8}
use Rattle.std.proofs.lemmas.Int.{to_z-of_z}
use Rattle.level.specs.Write.{level_text}
use Rattle.level.proofs.Showing.{utf8}
use Rattle.level.proofs.text.level_text.Goals as goal

pub returns-clause-utf8 : goal.returns-clause-utf8
returns-clause-utf8 c =
    let e = c.put_text.ensures ∙ ap level_text (to_z-of_z w32 c.args.level c.ranges.level) in
    subst IsUtf8 (sym e) (utf8 c.args.level c.ranges.level)
