use Rattle.std.proofs.Common.{sym, refl, subst}
use Rattle.pickbook.specs.Held.{ActsOnBrowse}
use Rattle.pickbook.specs.declared.held.Held.TheVariants.{Browse}
use Rattle.pickbook.specs.declared.held.Shown.{Shown}
use Rattle.pickbook.proofs.held.act_on_browse.Goals as goal

pub returns-in-Next : goal.returns-in-Next
returns-in-Next c =
    let shown : Shown = record { held = Browse c.next.new.browse; said = c.next.result } in
    subst (λ act. ActsOnBrowse c.args.browse act shown) (sym c.in-Next.is) (c.next.new.browse, refl, c.next.ensures)
