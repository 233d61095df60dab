use Rattle.std.proofs.Common.{sym, subst}
use Rattle.book_check.specs.Accepted.{Accepted}
use Rattle.book_check.proofs.Meaning.{accepted_exactly}
use Rattle.loaded.specs.Loaded.{loaded_model}
use Rattle.exported.proofs.telling.first_rows.Goals as goal

pub tell-told-requires-clause-accepted : goal.tell-told-requires-clause-accepted
tell-told-requires-clause-accepted g c =
    let held = c.args.held in
    subst (λ b. Accepted (loaded_model b)) (sym c.open-browse.ensures.parts.0) ((accepted_exactly (loaded_model held.book) held.picks).0 held.accepted).0
