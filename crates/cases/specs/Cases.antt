-- One list of worked cases: what a definition gives, and what it should give, both as a list of numbers.
use Rattle.std.specs.Prelude.{◌≡◌, ℕ, zero, suc, Bool, true, false, ◌&&◌, List, [], ◌∷◌, length, ℤ, pos, negsuc, Some, None, Ok, Err, codes, Option, Result, ◌==◌}
use Rattle.geometry.specs.Bounds.{bounds_at}
use Rattle.geometry.specs.Distance.{euclidean, manhattan, chessboard}
use Rattle.geometry.specs.declared.bounds.Point.{Point}
use Rattle.geometry.specs.declared.bounds.Bounds.{Bounds}
use Rattle.refusal.specs.Told.{Told}
use Rattle.level.specs.Write.{level_text}
use Rattle.book.specs.Model.{Model, node_count, pick_limit}
use Rattle.book.specs.Totals.{total_places}
use Rattle.file.specs.Encode.{encode}
use Rattle.loaded.specs.BookW.{book_w, file_w}
use Rattle.loaded.specs.Decode.{decode}
use Rattle.makes.specs.Join.{joined}
use Rattle.makes.specs.Tally.{tallied}
use Rattle.book_check.specs.Checked.{checked}
use Rattle.search.specs.Answer.{none, told, counts}
use Rattle.browse.specs.declared.answer.Row.{Row}
use Rattle.browse.specs.Tree.{Far}
use Rattle.browse.specs.Browse.{Reply, opening, next_of}
use Rattle.browse.specs.Law.{ranking}

pub record Case : Type 0 where
  pub found : List ℕ
  pub expected : List ℕ

abbrev case : List ℕ → List ℕ → Case
case f e = record { found = f; expected = e }

abbrev same : List ℕ → List ℕ → Bool
same [] [] = true
same [] (y ∷ ys) = false
same (x ∷ xs) [] = false
same (x ∷ xs) (y ∷ ys) = x == y && same xs ys

abbrev all_same : List Case → Bool
all_same [] = true
all_same (c ∷ cs) = same c.found c.expected && all_same cs

-- -n
abbrev minus : ℕ → ℤ
minus zero = pos 0
minus (suc n) = negsuc n

abbrev point : ℤ → ℤ → ℤ → Point
point e n l = record { easting = e; northing = n; level = l }

abbrev at_ground : Point
at_ground = point (pos 0) (pos 0) (pos 0)

abbrev by : (Bounds → Bounds → ℕ) → Option Bounds → Option Bounds → List ℕ
by measure (Some q) (Some b) = measure q b ∷ []
by measure (Some q) None = []
by measure None b = []

-- the distance of two points by a measure
abbrev from : (Bounds → Bounds → ℕ) → Point → Point → List ℕ
from measure p r = by measure (bounds_at p p) (bounds_at r r)

abbrev pick : Point
pick = point (pos 300) (pos 400) (minus 35)

-- a book as the bytes of its file, or the number of a refusal
abbrev written : Result Model Told → List ℕ
written (Ok m) = encode m
written (Err refusal) = refusal.number ∷ []

-- how far each box is from ground, left squared
abbrev far_from : Option Bounds → Far
far_from (Some q) b = euclidean q b
far_from None b = 0

abbrev far : Far
far = far_from (bounds_at at_ground at_ground)

-- each row as pick and distance
abbrev row_numbers : List Row → List ℕ
row_numbers [] = []
row_numbers (r ∷ rs) = r.pick ∷ r.distance ∷ row_numbers rs

-- none as the count opened; a row told as pick, distance and the count opened; a refusal as its number
abbrev answer_numbers : Reply → List ℕ
answer_numbers (Ok (none opened)) = opened ∷ []
answer_numbers (Ok (told r opened)) = r.pick ∷ r.distance ∷ opened ∷ []
answer_numbers (Ok (counts rows opened)) = rows ∷ opened ∷ []
answer_numbers (Err refusal) = refusal.number ∷ []

-- the first `next` of a browse of book W
abbrev first_next : ℕ → List ℕ
first_next limit = answer_numbers (next_of book_w far limit (opening book_w)).0

-- 17 joints of 30 feet, hanging from ground
abbrev joints : Model
joints = tallied at_ground 17 3000

abbrev string : Model
string = tallied at_ground 1000 100

abbrev two_strings : Model
two_strings = joined string string

-- the number that refuses a book, 0 where it is accepted
abbrev check_number : Result ℕ Told → ℕ
check_number (Ok picks) = 0
check_number (Err refusal) = refusal.number

abbrev pub cases : List Case
cases =
    -- the pick at (300, 400, -35), from ground
    case (from euclidean at_ground pick) (251225 ∷ [])
    ∷ case (from manhattan at_ground pick) (735 ∷ [])
    ∷ case (from chessboard at_ground pick) (400 ∷ [])
    -- a level below zero keeps its minus, also within the first foot
    ∷ case (level_text (minus 35)) (codes "-0.35")
    ∷ case (level_text (minus 5)) (codes "-0.05")
    ∷ case (level_text (pos 0)) (codes "0.00")
    -- book W: its file has 178 bytes, which load to it and are what it is written out as
    ∷ case (length file_w ∷ []) (178 ∷ [])
    ∷ case (written (decode file_w)) (encode book_w)
    ∷ case (encode book_w) file_w
    -- its ranking from ground
    ∷ case (row_numbers (ranking book_w far)) (0 ∷ 1225 ∷ 2 ∷ 251225 ∷ 3 ∷ 4250000 ∷ 1 ∷ 16000000 ∷ [])
    -- a first limit of 1,224 opens the root alone; 1,225 tells the first pick
    ∷ case (first_next 1224) (1 ∷ [])
    ∷ case (first_next 1225) (0 ∷ 1225 ∷ 2 ∷ [])
    -- 17 joints make 3 nodes and 19 places; joined to book W, 7 nodes and 21 picks
    ∷ case (node_count joints ∷ total_places joints ∷ []) (3 ∷ 19 ∷ [])
    ∷ case (node_count (joined book_w joints) ∷ pick_limit (joined book_w joints) ∷ []) (7 ∷ 21 ∷ [])
    -- two strings of 1,000 joints fit in one book of 137 nodes, which has too many places to be accepted
    ∷ case (node_count two_strings ∷ check_number (checked two_strings) ∷ []) (137 ∷ 12 ∷ [])
    ∷ []

abbrev pub AllHold : Type 0
AllHold = all_same cases ≡ true
