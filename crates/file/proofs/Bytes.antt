-- Numbers as bytes.
use Rattle.std.proofs.Common.{◌≡◌, ℕ, zero, suc, ◌/◌, ◌%◌, List, [], ◌∷◌, length, ℤ, pos, negsuc, sym, refl, ap, ◌∙◌, arith, w32, SFits, to_z, of_z}
use Rattle.std.proofs.lemmas.Int.{to_z-of_z}
use Rattle.file.specs.Encode.{bytes_of, twos_complement, le32}

pub length_bytes_of : (k n : ℕ) → length (bytes_of k n) ≡ k
unfolding bytes_of
length_bytes_of zero n = refl
length_bytes_of (suc k) n = ap suc (length_bytes_of k (n / 256))

pub twos_complement_is : (z : ℤ) → twos_complement z ≡ of_z w32 z
twos_complement_is (pos n) = refl
twos_complement_is (negsuc n) = refl

abbrev four_bytes : ℕ → List ℕ
four_bytes n = n % 256 ∷ n / 256 % 256 ∷ n / 65536 % 256 ∷ n / 16777216 % 256 ∷ []

four : (n : ℕ) → four_bytes n ≡ bytes_of 4 n
unfolding bytes_of
four n =
    let second : n / 65536 ≡ n / 256 / 256 = omega arith in
    let third : n / 16777216 ≡ n / 256 / 256 / 256 = omega arith in
    ap (λ x. n % 256 ∷ n / 256 % 256 ∷ x % 256 ∷ n / 16777216 % 256 ∷ []) second
    ∙ ap (λ x. n % 256 ∷ n / 256 % 256 ∷ n / 256 / 256 % 256 ∷ x % 256 ∷ []) third

-- what `to_le_bytes` answers of a coordinate
pub le32_is : (z : ℤ) → SFits w32 z → (bs : List ℕ) → bs ≡ four_bytes (of_z w32 (to_z w32 (of_z w32 z))) → bs ≡ le32 z
le32_is z fits bs e =
    e ∙ ap (λ y. four_bytes (of_z w32 y)) (to_z-of_z w32 z fits) ∙ four (of_z w32 z) ∙ ap (bytes_of 4) (sym (twos_complement_is z))
