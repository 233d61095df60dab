-- What the readers of the code give, as the values that the definitions speak of: their slices as lists of bytes.
use Rattle.std.specs.Prelude.{◌≡◌, ℕ, ◌≤◌, true, List, map, length, Ok, Err, Result, Option}
use Rattle.std.specs.List.{flat_map, AllByRecursion}
use Rattle.refusal.specs.Told.{Told, file_told}
use Rattle.refusal.specs.declared.hands.FileFault.{FileFault}
use Rattle.book.specs.Model.{Model}
use Rattle.book.specs.declared.kind.Kind.{Kind}
use Rattle.book.specs.declared.place.Entry.{Entry}
use Rattle.loaded.specs.declared.record.NodeRecord.{NodeRecord}
use Rattle.loaded.specs.declared.sections.Section.{Section}
use Rattle.loaded.specs.declared.sections.Sections.{Sections}
use Rattle.loaded.specs.Reading.{Read, read}
use Rattle.loaded.specs.Tables.{book_of, places_of_all, lawful_nodes}
use Rattle.loaded.specs.Decode.{node_from, place_from, kinds_from}

-- what a reader answers, its value seen as a definition has it
abbrev pub seen : {A B : Type 0} → (A → B) → Result A FileFault → Result B Told
seen view (Ok a) = Ok (view a)
seen view (Err fault) = Err (file_told fault)

-- the bytes of these records, one after another
abbrev pub joined : List (List ℕ) → List ℕ
joined records = flat_map (λ r. r) records

-- so many records, each of this size
pub record Whole (size count : ℕ) (records : List (List ℕ)) : Type 0 where
  pub long : length records ≡ count
  pub each : AllByRecursion (λ (r : List ℕ). length r ≡ size) records

abbrev pub nodes_in : Section 4 → List NodeRecord
nodes_in s = map node_from s.records.now

abbrev pub places_in : Section 26 → List (Option Entry)
places_in s = map place_from s.records.now

abbrev pub kinds_in : Section 1 → List Kind
kinds_in s = kinds_from (joined s.records.now)

abbrev pub with_rest : {size : ℕ} {A : Type 0} → (Section size → A) → Section size → Read A
with_rest view s = read (view s) s.rest.now

abbrev pub book_in : Sections → Model
book_in s = book_of (nodes_in s.nodes) (places_in s.entries) (kinds_in s.picks)

abbrev pub sections_seen : Sections → Read Model
sections_seen s = read (book_in s) s.picks.rest.now

-- what the tests of a section have shown, by which its records can be taken over untested
pub record LawfulNodes (s : Section 4) : Type 0 where
  pub least : 1 ≤ length s.records.now
  pub most : length s.records.now ≤ 512
  pub lawful : lawful_nodes (nodes_in s) ≡ true

pub record LawfulEntries (places : ℕ) (s : Section 26) : Type 0 where
  pub most : length s.records.now ≤ 2048
  pub total : length s.records.now ≡ places

pub record LawfulPicks (s : Section 1) : Type 0 where
  pub most : length (joined s.records.now) ≤ 2048

pub record LawfulSections (s : Sections) : Type 0 where
  pub nodes : LawfulNodes s.nodes
  pub entries : LawfulEntries (places_of_all (nodes_in s.nodes)) s.entries
  pub picks : LawfulPicks s.picks
