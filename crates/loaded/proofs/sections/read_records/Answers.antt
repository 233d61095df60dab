use Rattle.std.proofs.Common.{◌≡◌, Some, arith}
use Rattle.loaded.proofs.Cut.{cut_read, cut_whole}
use Rattle.loaded.proofs.sections.read_records.Goals as goal

pub as_chunks-requires : goal.as_chunks-requires
as_chunks-requires g c = (omega arith, c.requires.size.0)

pub returns-clause-seen : goal.returns-clause-seen
returns-clause-seen g c =
    let is : c.split_at_checked.result ≡ Some (c.in_ok-records.records, c.in_ok-records.rest) = cc (c.in_ok-records.ensures.ok_part) in
    let parts = rw is at c.split_at_checked.ensures.cases in
    cut_read g.row.SIZE c.args.count c.args.bytes.now c.in_ok-records.records.now c.in_ok-records.rest.now c.as_chunks.result.0.now c.requires.size.0 (omega arith) parts.1 parts.2 c.as_chunks.ensures.front

pub returns-clause-whole : goal.returns-clause-whole
returns-clause-whole g c =
    let is : c.split_at_checked.result ≡ Some (c.in_ok-records.records, c.in_ok-records.rest) = cc (c.in_ok-records.ensures.ok_part) in
    let parts = rw is at c.split_at_checked.ensures.cases in
    cut_whole g.row.SIZE c.args.count c.args.bytes.now c.in_ok-records.records.now c.in_ok-records.rest.now c.as_chunks.result.0.now c.requires.size.0 (omega arith) parts.1 parts.2 c.as_chunks.ensures.front
