-- What a lawful file is, as it is laid out: three sections, each the count of its records and then the records.
use Rattle.std.specs.Prelude.{◌≡◌, ℕ, ◌/◌, ◌%◌, ◌<◌, ◌≤◌, List, [], ◌∷◌, ◌++◌, map, length, take, Result, MatchResult, slice_index_or}
use Rattle.std.specs.List.{flat_map, AllByRecursion}
use Rattle.refusal.specs.declared.hands.FileFault.{FileFault}
use Rattle.book.specs.Kinds.{number_of}
use Rattle.book.specs.Model.{Model}
use Rattle.book.specs.declared.kind.Kind.{Kind}
use Rattle.loaded.specs.declared.record.NodeRecord.{NodeRecord}
use Rattle.loaded.specs.Tables.{book_of, places_of_all}
use Rattle.loaded.specs.Decode.{place_from}

-- the low byte first
abbrev pub short_bytes : ℕ → List ℕ
short_bytes n = n % 256 ∷ n / 256 ∷ []

-- how many records there are, and then the records
abbrev pub section : List (List ℕ) → List ℕ
section records = short_bytes (length records) ++ flat_map (λ r. r) records

abbrev pub node_bytes : NodeRecord → List ℕ
node_bytes r = r.level ∷ r.places ∷ short_bytes r.first

abbrev pub kind_bytes : Kind → List ℕ
kind_bytes k = number_of k ∷ []

-- each first entry is the sum of the places of all earlier nodes
abbrev pub FirstsAddUp : List NodeRecord → Type 0
FirstsAddUp nodes = (i : ℕ) (d : NodeRecord) → i < length nodes → (slice_index_or nodes i d).first ≡ places_of_all (take i nodes)

-- these bytes are a lawful file, and this is the book in it
pub record LawfulFile (bytes : List ℕ) (book : Model) : Type 0 where
  pub nodes : List NodeRecord
  pub entries : List (List ℕ)
  pub picks : List Kind
  pub laid_out : bytes ≡ section (map node_bytes nodes) ++ (section entries ++ section (map kind_bytes picks))
  pub some_node : 1 ≤ length nodes
  pub nodes_most : length nodes ≤ 512
  pub entries_most : length entries ≤ 2048
  pub picks_most : length picks ≤ 2048
  pub levels_most : AllByRecursion (λ (r : NodeRecord). r.level ≤ 7) nodes
  pub places_most : AllByRecursion (λ (r : NodeRecord). r.places ≤ 16) nodes
  pub first_entries : FirstsAddUp nodes
  pub places_total : places_of_all nodes ≡ length entries
  pub entry_size : AllByRecursion (λ (e : List ℕ). length e ≡ 26) entries
  pub holds : book ≡ book_of nodes (map place_from entries) picks

-- a load takes exactly the lawful files: what it took is a lawful file of the book now held, what it refused is a lawful
-- file of no book
abbrev pub TakesLawful : Result (Unit {0}) FileFault → List ℕ → Model → Type 0
TakesLawful r bytes held = MatchResult r (λ _. LawfulFile bytes held) (λ _. (book : Model) → LawfulFile bytes book → ⊥)
