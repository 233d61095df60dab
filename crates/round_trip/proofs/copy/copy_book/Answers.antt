use Rattle.std.proofs.Common.{rules}
use Rattle.round_trip.proofs.Copies.{reads_back}
use Rattle.round_trip.proofs.WrittenLoads.{written_loads}
use Rattle.round_trip.proofs.copy.copy_book.Goals as goal

pub returns-in_err-length-clause-loads : goal.returns-in_err-length-clause-loads
returns-in_err-length-clause-loads g c = written_loads

-- what was just written out is not refused
pub returns-in_err-load : goal.returns-in_err-load
returns-in_err-load g c =
    let m = g.B.Book.model c.args.book.now in
    let back = reads_back m c.args.room.now c.in_ok-length.length c.in_ok-length.ensures.answer (g.met.B.Book.shape c.args.book.now) c.write_out.new.out c.in_ok-length.ensures.bytes in
    absurd (search rules)

pub returns-clause-book : goal.returns-clause-book
returns-clause-book g c =
    let m = g.B.Book.model c.args.book.now in
    let back = reads_back m c.args.room.now c.in_ok-length.length c.in_ok-length.ensures.answer (g.met.B.Book.shape c.args.book.now) c.write_out.new.out c.in_ok-length.ensures.bytes in
    search rules

pub returns-clause-loads : goal.returns-clause-loads
returns-clause-loads g c = written_loads
