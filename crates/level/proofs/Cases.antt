-- The definitions at work.
use Rattle.std.proofs.Common.{◌≡◌, [], ◌∷◌, map, replicate, pos, negsuc, Ok, Err, codes, refl}
use lib.IntN.{suc_ℤ}
use Rattle.std.specs.Fmt.{digits}
use Rattle.refusal.specs.Told.{plain}
use Rattle.level.specs.Range.{level_least, level_most}
use Rattle.level.specs.Read.{reads}
use Rattle.level.specs.Write.{level_text, writes, written}

texts : map level_text (negsuc 34 ∷ negsuc 4 ∷ negsuc 0 ∷ pos 0 ∷ pos 99 ∷ pos 700 ∷ []) ≡ codes "-0.35" ∷ codes "-0.05" ∷ codes "-0.01" ∷ codes "0.00" ∷ codes "0.99" ∷ codes "7.00" ∷ []
unfolding digits
texts = refl

ends : map level_text (level_least ∷ level_most ∷ []) ≡ codes "-100000.00" ∷ codes "100000.00" ∷ []
unfolding digits
ends = refl

back : map reads (codes "-0.35" ∷ codes "-0.05" ∷ codes "0.00" ∷ codes "-100000.00" ∷ codes "100000.00" ∷ []) ≡ Ok (negsuc 34) ∷ Ok (negsuc 4) ∷ Ok (pos 0) ∷ Ok level_least ∷ Ok level_most ∷ []
unfolding digits reads
back = refl

refused : map reads (codes "-0.00" ∷ codes "007.00" ∷ [] ∷ codes "1.5" ∷ codes "+1.00" ∷ codes "100000.01" ∷ replicate 81 57 ∷ (255 ∷ 128 ∷ []) ∷ []) ≡ replicate 8 (Err (plain 27))
unfolding digits reads
refused = refl

-- 5 comes before 21, and what is refused leaves the bytes
answers : writes (negsuc 34) 5 ∷ writes (negsuc 34) 4 ∷ writes (suc_ℤ level_most) 0 ∷ [] ≡ Ok 5 ∷ Err (plain 21) ∷ Err (plain 5) ∷ []
unfolding digits
answers = refl

bytes : map (written (negsuc 34)) (codes "abcdefg" ∷ codes "abcd" ∷ []) ≡ codes "-0.35fg" ∷ codes "abcd" ∷ []
unfolding digits
bytes = refl
