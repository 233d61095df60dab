-- The file form at work.
use Rattle.std.proofs.Common.{◌≡◌, [], ◌∷◌, pos, negsuc, refl}
use Rattle.book.specs.Model.{empty_book}
use Rattle.file.specs.Encode.{bytes_of, le16, le32, encode}

pub empty_book_lem : encode empty_book ≡ 1 ∷ 0 ∷ 0 ∷ 0 ∷ 0 ∷ 0 ∷ 0 ∷ 0 ∷ 0 ∷ 0 ∷ []
unfolding bytes_of
empty_book_lem = refl

pub three_hundred : le16 300 ≡ 44 ∷ 1 ∷ []
unfolding bytes_of
three_hundred = refl

pub below_zero : le32 (negsuc 34) ≡ 221 ∷ 255 ∷ 255 ∷ 255 ∷ []
unfolding bytes_of
below_zero = refl

pub most : le32 (pos 10000000) ≡ 128 ∷ 150 ∷ 152 ∷ 0 ∷ []
unfolding bytes_of
most = refl
