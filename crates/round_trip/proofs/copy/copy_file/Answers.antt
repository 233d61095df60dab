use Rattle.std.proofs.Common.{◌≡◌, Ok, ◌<◌, length, arith, rules}
use Rattle.std.proofs.ByRecursion.{All-from_get_or}
use Rattle.loaded.specs.Decode.{decode}
use Rattle.loaded.specs.Loaded.{loaded_model}
use Rattle.round_trip.proofs.Copies.{same_answer, same_leaves}
use Rattle.round_trip.proofs.LoadedWrites.{kept, loaded_writes}
use Rattle.round_trip.proofs.copy.copy_file.Goals as goal

pub returns-in_err-load-clause-writes : goal.returns-in_err-load-clause-writes
returns-in_err-load-clause-writes c = loaded_writes

pub returns : goal.returns
returns c =
    let bytes = c.args.bytes.now in
    let room = c.args.room.now in
    let m = loaded_model c.load.new.self in
    let small = All-from_get_or (λ b. b < 256) bytes 0 (λ i within. omega (arith, c.type_inv.bytes i)) in
    let is : decode bytes ≡ Ok m = search rules in
    let k = kept bytes m small is in
    let answer = same_answer bytes m is k (length room) in
    let leaves = same_leaves bytes m is k room in
    record { answer = cc; bytes = cc; book = c.load.ensures.book; writes = loaded_writes }
