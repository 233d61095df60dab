-- What the tape shows of a line: a level and three distances from ground, as one record of numbers.
use Rattle.std.specs.Prelude.{ℕ, List, ℤ, pos, Ok, Err, Result, ◌++◌, codes, decimal}
use Rattle.refusal.specs.declared.hands.TypingFault.{TypingFault}
use Rattle.refusal.specs.Told.{Told, typing_told}
use Rattle.geometry.specs.Bounds.{bounds_of}
use Rattle.geometry.specs.Distance.{euclidean, manhattan, chessboard}
use Rattle.geometry.specs.declared.bounds.Point.{Point}
use Rattle.geometry.specs.declared.bounds.Bounds.{Bounds}
use Rattle.level.specs.Level.{measures}
use Rattle.level.specs.Write.{level_text}
use Rattle.line.specs.Point.{then, point_typed}
use Rattle.tape.specs.declared.reading.Reading.{Reading}

pub record Shown : Type 0 where
  pub level : ℤ
  pub euclidean : ℕ
  pub manhattan : ℕ
  pub chessboard : ℕ

abbrev pub shown : Result Reading TypingFault → Result Shown Told
shown (Ok r) = Ok (record { level = r.level.hundredths; euclidean = r.euclidean; manhattan = r.manhattan; chessboard = r.chessboard })
shown (Err fault) = Err (typing_told fault)

abbrev ground : Point
ground = record { easting = pos 0; northing = pos 0; level = pos 0 }

-- the point p seen from the ground g
unfoldable pub from_ground : Bounds → Bounds → Result Shown Told
from_ground g p =
    then (measures p.level.high) (λ l.
    Ok (record { level = l; euclidean = euclidean g p; manhattan = manhattan g p; chessboard = chessboard g p }))

-- 25 or 27 for the line, then 5 for the point
abbrev pub shows : List ℕ → Result Shown Told
shows line =
    then (point_typed line) (λ t. then (bounds_of t t) (λ p. then (bounds_of ground ground) (λ g. from_ground g p)))

-- level -0.35 euclidean 1225 manhattan 35 chessboard 35
abbrev pub reading_text : Reading → List ℕ
reading_text r =
    codes "level " ++ (level_text r.level.hundredths
    ++ (codes " euclidean " ++ (decimal r.euclidean
    ++ (codes " manhattan " ++ (decimal r.manhattan
    ++ (codes " chessboard " ++ decimal r.chessboard))))))
