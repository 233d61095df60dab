use Rattle.std.proofs.Common.{sym, refl, subst, rules}
use Rattle.console.specs.declared.say.Said.TheVariants.{Opened}
use Rattle.pickbook.specs.Held.{Acts, ActsOnBook}
use Rattle.pickbook.specs.declared.held.Held.TheVariants.{Browse}
use Rattle.pickbook.specs.declared.held.Shown.{Shown}
use Rattle.pickbook.proofs.held.Held.act.Goals as goal

pub returns-in-Open : goal.returns-in-Open
returns-in-Open c =
    let shown : Shown = record { held = Browse c.open.result; said = Opened } in
    subst (λ held. Acts held c.args.act shown) (sym c.in-Book.is)
    (subst (λ act. ActsOnBook c.in-Book.book act shown) (sym c.in-Open.is) ((c.open.result, refl, search rules, c.open.ensures.opening), refl))
