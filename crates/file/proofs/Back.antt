-- Numbers read back from their bytes.
use Rattle.std.proofs.Common.{◌≡◌, ℕ, ◌+◌, ◌*◌, ◌/◌, ◌%◌, ◌^◌, ◌<◌, List, ◌++◌, get_or, ℤ, pos, negsuc, ◌≤ℤ◌, ap, ◌∙◌, arith, w32, SFits, to_z, of_z}
use Rattle.std.proofs.lemmas.Int.{ints, to_z-of_z}
use Rattle.geometry.specs.Range.{least_coordinate, most_coordinate}
use Rattle.geometry.specs.declared.bounds.Span.{Span}
use Rattle.file.specs.Encode.{bytes_of, le16, le32}
use Rattle.file.proofs.Bytes.{twos_complement_is}

pub short_back : (n : ℕ) (rest : List ℕ) → n < 2 ^ 16 → get_or (le16 n ++ rest) 0 0 + get_or (le16 n ++ rest) 1 0 * 256 ≡ n
unfolding bytes_of
short_back n rest small = omega arith

long : (n : ℕ) → n < 2 ^ 32 → n % 256 + n / 256 % 256 * 256 + n / 256 / 256 % 256 * 65536 + n / 256 / 256 / 256 % 256 * 16777216 ≡ n
long n small = omega arith

pub long_back : (z : ℤ) (rest : List ℕ) → SFits w32 z → to_z w32 (get_or (le32 z ++ rest) 0 0 + get_or (le32 z ++ rest) 1 0 * 256 + get_or (le32 z ++ rest) 2 0 * 65536 + get_or (le32 z ++ rest) 3 0 * 16777216) ≡ z
unfolding bytes_of
long_back z rest fits =
    let small : of_z w32 z < 2 ^ 32 = omega (arith, ints) in
    ap (to_z w32) (ap (λ n. n % 256 + n / 256 % 256 * 256 + n / 256 / 256 % 256 * 65536 + n / 256 / 256 / 256 % 256 * 16777216) (twos_complement_is z) ∙ long (of_z w32 z) small)
    ∙ to_z-of_z w32 z fits

coordinate_fits : (z : ℤ) → least_coordinate ≤ℤ z → z ≤ℤ most_coordinate → SFits w32 z
coordinate_fits (pos n) least most = record { sfits = omega (arith, ints) }
coordinate_fits (negsuc n) least most = record { sfits = omega (arith, ints) }

-- the ends of a span have room in 32 bits
pub low_fits : (s : Span) → SFits w32 s.low
low_fits s =
    let most : s.low ≤ℤ most_coordinate = omega (arith, ints, s.ordered, s.most) in
    coordinate_fits s.low s.least most

pub high_fits : (s : Span) → SFits w32 s.high
high_fits s =
    let least : least_coordinate ≤ℤ s.high = omega (arith, ints, s.ordered, s.least) in
    coordinate_fits s.high least s.most
