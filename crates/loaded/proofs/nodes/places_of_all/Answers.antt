use Rattle.std.proofs.Common.{rules}
use Rattle.loaded.proofs.NodeRecords.{sum_places}
use Rattle.loaded.proofs.nodes.places_of_all.Goals as goal

pub returns : goal.returns
returns c = rw (sum_places c.args.records.now) (search rules)
