-- The file form of a book: its bytes, as numbers below 256. All numbers in it are little-endian.
use Rattle.std.specs.Prelude.{ℕ, zero, suc, ◌+◌, ◌-◌, ◌/◌, ◌%◌, ◌^◌, List, [], ◌∷◌, ◌++◌, map, length, ℤ, pos, negsuc, Some, None, Option}
use Rattle.std.specs.List.{flat_map}
use Rattle.geometry.specs.Ends.{low_ends, high_ends}
use Rattle.geometry.specs.declared.bounds.Point.{Point}
use Rattle.book.specs.declared.kind.Kind.{Kind}
use Rattle.book.specs.declared.place.Entry.{Entry}
use Rattle.book.specs.Kinds.{number_of}
use Rattle.book.specs.Model.{Node, Model, node_count, pick_limit}
use Rattle.book.specs.Totals.{total_places}

-- the k lowest bytes of n, the lowest first
unfoldable pub bytes_of : ℕ → ℕ → List ℕ
bytes_of zero n = []
bytes_of (suc k) n = n % 256 ∷ bytes_of k (n / 256)

abbrev pub le16 : ℕ → List ℕ
le16 n = bytes_of 2 n

-- a number below zero counts down from 2 ^ 32
abbrev pub twos_complement : ℤ → ℕ
twos_complement (pos n) = n
twos_complement (negsuc n) = 2 ^ 32 - suc n

abbrev pub le32 : ℤ → List ℕ
le32 z = bytes_of 4 (twos_complement z)

-- level, number of places and first entry
abbrev pub node_record : ℕ → Node → List ℕ
node_record first n = n.level ∷ length n.places ∷ le16 first

-- the records of nodes of which the first has its entries from `first` on, and each later one after those before it
abbrev pub node_records : ℕ → List Node → List ℕ
node_records first [] = []
node_records first (n ∷ ns) = node_record first n ++ node_records (first + length n.places) ns

abbrev pub point_bytes : Point → List ℕ
point_bytes p = le32 p.easting ++ (le32 p.northing ++ le32 p.level)

abbrev pub entry_record : Entry → List ℕ
entry_record e = point_bytes (low_ends e.bounds) ++ (point_bytes (high_ends e.bounds) ++ le16 e.target)

-- a spoilt place has no record: such a book has no file
abbrev pub place_record : Option Entry → List ℕ
place_record (Some e) = entry_record e
place_record None = []

abbrev pub place_records : List (Option Entry) → List ℕ
place_records = flat_map place_record

abbrev pub entry_records : List Node → List ℕ
entry_records = flat_map (λ n. place_records n.places)

abbrev pub pick_records : List Kind → List ℕ
pick_records = map number_of

-- a section is its records after their number
abbrev pub node_section : Model → List ℕ
node_section m = le16 (node_count m) ++ node_records 0 m.nodes

abbrev pub entry_section : Model → List ℕ
entry_section m = le16 (total_places m) ++ entry_records m.nodes

abbrev pub pick_section : Model → List ℕ
pick_section m = le16 (pick_limit m) ++ pick_records m.kinds

abbrev pub encode : Model → List ℕ
encode m = node_section m ++ (entry_section m ++ pick_section m)
