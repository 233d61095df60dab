use Rattle.std.proofs.Common.{arith}
use Rattle.std.proofs.lemmas.Grind.{common_steps}
use Rattle.loaded.specs.Decode.{place_from, entry_section}
use Rattle.loaded.proofs.Cut.{rows_seen}
use Rattle.loaded.proofs.sections.read_entries.Goals as goal

pub returns-clause-seen : goal.returns-clause-seen
unfolding entry_section
returns-clause-seen c =
    let rows = rows_seen place_from c.in_ok-count.count c.in_ok-count.rest.now c.read_records.result c.read_records.ensures.seen c.read_records.ensures.whole in
    grind (arith, common_steps)
