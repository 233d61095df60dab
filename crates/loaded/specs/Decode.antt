-- The book in a file, or why the file is refused.
use Rattle.std.specs.Prelude.{ℕ, ◌+◌, Bool, true, ◌&&◌, List, [], ◌∷◌, length, is_some, Some, None, Ok, Option, Result, ◌==◌}
use Rattle.refusal.specs.Told.{Told}
use Rattle.geometry.specs.Bounds.{bounds_at}
use Rattle.geometry.specs.declared.bounds.Point.{Point}
use Rattle.geometry.specs.declared.bounds.Bounds.{Bounds}
use Rattle.book.specs.Kinds.{kind_with}
use Rattle.book.specs.Model.{Model}
use Rattle.book.specs.declared.kind.Kind.{Kind}
use Rattle.book.specs.declared.place.Entry.{Entry}
use Rattle.loaded.specs.declared.record.NodeRecord.{NodeRecord}
use Rattle.loaded.specs.Reading.{byte_at, short_at, long_at, Read, read, after, tested, count_in, records_in, rows}
use Rattle.loaded.specs.Tables.{book_of, places_of_all, lawful_nodes}

-- a node record, of 4 bytes
abbrev pub node_from : List ℕ → NodeRecord
node_from bytes = record { level = byte_at bytes 0; places = byte_at bytes 1; first = short_at bytes 2 }

abbrev pub nodes_from : ℕ → List ℕ → List NodeRecord
nodes_from = rows node_from 4

-- the entry with this box, or a spoilt place where the ends make no box
abbrev pub place_with : Option Bounds → ℕ → Option Entry
place_with (Some box) target = Some (record { bounds = box; target = target })
place_with None target = None

abbrev pub point_from : List ℕ → ℕ → Point
point_from bytes at = record { easting = long_at bytes at; northing = long_at bytes (at + 4); level = long_at bytes (at + 8) }

-- an entry record, of 26 bytes: the low ends, the high ends, and the target
abbrev pub place_from : List ℕ → Option Entry
place_from bytes = place_with (bounds_at (point_from bytes 0) (point_from bytes 12)) (short_at bytes 24)

abbrev pub places_from : ℕ → List ℕ → List (Option Entry)
places_from = rows place_from 26

-- a pick record is its kind's number
abbrev pub all_kinds : List ℕ → Bool
all_kinds [] = true
all_kinds (b ∷ bs) = is_some (kind_with b) && all_kinds bs

abbrev pub with_kind : Option Kind → List Kind → List Kind
with_kind (Some kind) kinds = kind ∷ kinds
with_kind None kinds = kinds

-- the kinds with these numbers; where all are kinds, as tested, none is passed over
abbrev pub kinds_from : List ℕ → List Kind
kinds_from [] = []
kinds_from (b ∷ bs) = with_kind (kind_with b) (kinds_from bs)

unfoldable pub node_section : List ℕ → Result (Read (List NodeRecord)) Told
node_section bytes =
    after (count_in 1 512 bytes)
    (λ count rest. after (records_in count 4 rest)
    (λ records rest. tested 3 (lawful_nodes (nodes_from count records))
    (Ok (read (nodes_from count records) rest))))

-- the nodes have so many places together
unfoldable pub entry_section : ℕ → List ℕ → Result (Read (List (Option Entry))) Told
entry_section places bytes =
    after (count_in 0 2048 bytes)
    (λ count rest. tested 3 (count == places)
    (after (records_in count 26 rest)
    (λ records rest. Ok (read (places_from count records) rest))))

unfoldable pub pick_section : List ℕ → Result (Read (List Kind)) Told
pick_section bytes =
    after (count_in 0 2048 bytes)
    (λ count rest. after (records_in count 1 rest)
    (λ records rest. tested 4 (all_kinds records)
    (Ok (read (kinds_from records) rest))))

unfoldable pub three_sections : List ℕ → Result (Read Model) Told
three_sections bytes =
    after (node_section bytes)
    (λ nodes rest. after (entry_section (places_of_all nodes) rest)
    (λ places rest. after (pick_section rest)
    (λ kinds rest. Ok (read (book_of nodes places kinds) rest))))

-- three sections, and nothing after them
unfoldable pub decode : List ℕ → Result Model Told
decode bytes =
    after (three_sections bytes)
    (λ book rest. tested 1 (length rest == 0)
    (Ok book))
