-- How numbers stand in a file, and how a part of it is read: a value and the bytes after it, or a refusal.
use Rattle.std.specs.Prelude.{ℕ, zero, suc, ◌+◌, ◌*◌, Bool, cond, ◌&&◌, List, [], ◌∷◌, length, take, drop, ℤ, Ok, Err, Result, nat_le, slice_index}
use Rattle.std.specs.Int.{w32}
use Rattle.std.proofs.Common.{to_z}
use Rattle.refusal.specs.Told.{Told, plain}

-- all numbers are little-endian
abbrev pub byte_at : List ℕ → ℕ → ℕ
byte_at bytes i = slice_index bytes i

abbrev pub short_at : List ℕ → ℕ → ℕ
short_at bytes i = byte_at bytes i + byte_at bytes (i + 1) * 256

-- signed, of 32 bits
abbrev pub long_at : List ℕ → ℕ → ℤ
long_at bytes i =
    to_z w32 (byte_at bytes i + byte_at bytes (i + 1) * 256 + byte_at bytes (i + 2) * 65536 + byte_at bytes (i + 3) * 16777216)

-- what was read, and the bytes after it
pub record Read (A : Type 0) : Type 0 where
  pub value : A
  pub rest : List ℕ

abbrev pub read : {A : Type 0} → A → List ℕ → Read A
read value rest = record { value = value; rest = rest }

-- what is read next, where this was read
abbrev pub after : {A B : Type 0} → Result (Read A) Told → (A → List ℕ → Result B Told) → Result B Told
after (Ok r) next = next r.value r.rest
after (Err t) next = Err t

-- a test, the number by which it refuses, and what follows where it does not
abbrev pub tested : {B : Type 0} → ℕ → Bool → Result B Told → Result B Told
tested number test next = cond test next (Err (plain number))

-- a count: present, and within its limits
unfoldable pub count_in : ℕ → ℕ → List ℕ → Result (Read ℕ) Told
count_in least most bytes =
    tested 1 (nat_le 2 (length bytes))
    (tested 2 (nat_le least (short_at bytes 0) && nat_le (short_at bytes 0) most)
    (Ok (read (short_at bytes 0) (drop 2 bytes))))

-- the bytes of so many records of this size: present
unfoldable pub records_in : ℕ → ℕ → List ℕ → Result (Read (List ℕ)) Told
records_in count size bytes =
    tested 1 (nat_le (count * size) (length bytes))
    (Ok (read (take (count * size) bytes) (drop (count * size) bytes)))

-- records of this size, each read by itself
abbrev pub rows : {A : Type 0} → (List ℕ → A) → ℕ → ℕ → List ℕ → List A
rows one size zero bytes = []
rows one size (suc count) bytes = one (take size bytes) ∷ rows one size count (drop size bytes)
