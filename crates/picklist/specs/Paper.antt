-- A book on paper.
use Rattle.std.specs.Prelude.{ℕ, List, ◌++◌, Some, None, codes, decimal, Option}
use Rattle.book.specs.Kinds.{words}
use Rattle.book.specs.declared.kind.Kind.{Kind}
use Rattle.book.specs.declared.place.Entry.{Entry}
use Rattle.level.specs.Write.{level_text}

-- book of 3 nodes and 4 picks
abbrev pub book_line : ℕ → ℕ → List ℕ
book_line nodes picks =
    codes "book of " ++ (decimal nodes ++ (codes " nodes and " ++ (decimal picks ++ codes " picks")))

abbrev pub kind_words : Option Kind → List ℕ
kind_words (Some kind) = words kind
kind_words None = codes "no kind"

-- pick 0 casing top top -0.35
abbrev pub pick_line : Entry → Option Kind → List ℕ
pick_line e kind =
    codes "pick " ++ (decimal e.target ++ (codes " " ++ (kind_words kind ++ (codes " top " ++ level_text e.bounds.level.high))))
