use Rattle.book_check.specs.declared.target.Target.TheVariants.{Pick, Child}
use Rattle.book_check.proofs.Bits.{no_mark}
use Rattle.book_check.proofs.named.Named.none.Goals as goal

pub returns : goal.returns
returns c (Pick p) = no_mark 32 p
returns c (Child k) = no_mark 8 k
