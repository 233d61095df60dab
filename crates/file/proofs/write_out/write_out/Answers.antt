use Rattle.std.proofs.Common.{◌≡◌, length, Ok, rules}
use Rattle.file.specs.Encode.{encode}
use Rattle.file.specs.Pen.{HasRoom}
use Rattle.file.specs.WriteOut.{write_out_answer, write_out_leaves}
use Rattle.file.proofs.Outcomes.{written}
use Rattle.file.proofs.write_out.write_out.Goals as goal

pub returns-clause-bytes : goal.returns-clause-bytes
returns-clause-bytes g c =
    let m = g.B.Book.model c.args.book.now in
    let xs = c.args.out.now in
    let start = c.new-pen.result in
    let bytes : start.page.now ≡ xs = search rules in
    let room : HasRoom start (encode m) = search rules in
    let answer : Ok (length (encode m)) ≡ write_out_answer m (length xs) = search rules in
    let put : c.put_picks.new.pen.page.now ≡ write_out_leaves m xs =
    written m start room c.put_nodes.ensures c.put_entries.ensures c.put_picks.ensures xs bytes c.new-pen.ensures.at answer in
    search rules
