-- What is enough for a book to be accepted.
use Rattle.std.proofs.Common.{◌≡◌, ℕ, ◌+◌, ◌<◌, ◌≤◌}
use Rattle.book.specs.Model.{Model, level_of, place_count}
use Rattle.book.specs.declared.place.Entry.{Entry}
use Rattle.book_check.specs.Targets.{target_of, root_of}
use Rattle.book.specs.Totals.{total_places}
use Rattle.book_check.specs.Accepted.{Stands, Names, InBook, Accepted}
use Rattle.book_check.specs.declared.target.Target.{Target}
use Rattle.book_check.specs.declared.target.Target.TheVariants.{Pick, Child}
use Rattle.book_check.proofs.Meaning.{Holds}

-- node k is one level lower than node n, and lies in the box of e
abbrev pub Below : Model → ℕ → Entry → ℕ → Type 0
Below m n e k = (level_of m k + 1 ≡ level_of m n) × Holds m e.bounds k

-- a place that names node k
abbrev pub NamedChild : Model → ℕ → Type 0
NamedChild m k = (n : ℕ) × (i : ℕ) × Names m n i (Child k)

pub record Enough (m : Model) : Type 0 where
  pub few : total_places m ≤ 2048
  pub filled : (n i : ℕ) → i < place_count m n → (e : Entry) × Stands m n i e × InBook m (target_of m n e)
  pub peopled : (n : ℕ) → n < root_of m → 0 < place_count m n
  pub below : (n i : ℕ) (e : Entry) (k : ℕ) → Stands m n i e → target_of m n e ≡ Child k → Below m n e k
  pub named : (k : ℕ) → k < root_of m → NamedChild m k
  pub only : (t : Target) (n i k j : ℕ) → Names m n i t → Names m k j t → (n ≡ k) × (i ≡ j)

pub accepted_by : (m : Model) → Enough m → Accepted m
accepted_by m h =
    record {
      few = h.few;
      filled = h.filled;
      peopled = h.peopled;
      parent = λ k l.
          let r = h.named k l in
          let e = r.2.0 in
          let b = h.below r.0 r.1 e k r.2.1 r.2.2 in
          record {
            node = r.0;
            place = r.1;
            entry = e;
            stands = r.2.1;
            names = r.2.2;
            only = λ n i q. h.only (Child k) n i r.0 r.1 q r.2;
            higher = b.0;
            contains = b.1;
          };
      once = λ p n i k j. h.only (Pick p) n i k j;
    }

pub same_entry : (m : Model) (n i : ℕ) (e f : Entry) → Stands m n i e → Stands m n i f → e ≡ f
same_entry m n i e f p q = cc
