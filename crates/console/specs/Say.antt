-- What the console says.
use Rattle.std.specs.Prelude.{ℕ, List, ◌++◌, Some, None, codes, decimal, Option}
use Rattle.refusal.specs.Told.{told}
use Rattle.refusal.specs.Line.{refused_line}
use Rattle.level.specs.Write.{level_text}
use Rattle.book.specs.Kinds.{number_of}
use Rattle.book.specs.declared.kind.Kind.{Kind}
use Rattle.browse.specs.declared.answer.Counts.{Counts}
use Rattle.browse.specs.declared.answer.Found.{Found}
use Rattle.browse.specs.declared.answer.Row.{Row}
use Rattle.console.specs.declared.say.Said.{Said}
use Rattle.console.specs.declared.say.Said.TheVariants.{Accepted, Opened, Next, Report, Closed, Refused}

-- accepted 4 picks
abbrev pub accepted_line : ℕ → List ℕ
accepted_line picks = codes "accepted " ++ (decimal picks ++ codes " picks")

-- a pick outside the book has kind 0
abbrev pub kind_number : Option Kind → ℕ
kind_number (Some kind) = number_of kind
kind_number None = 0

-- pick 0 at 1225 kind 1 top -0.35 opened 2, or none opened 1
abbrev row_line : Option Row → ℕ → Option Kind → List ℕ
row_line (Some row) opened kind =
    codes "pick " ++ (decimal row.pick
    ++ (codes " at " ++ (decimal row.distance
    ++ (codes " kind " ++ (decimal (kind_number kind)
    ++ (codes " top " ++ (level_text row.top
    ++ (codes " opened " ++ decimal opened))))))))
row_line None opened kind = codes "none opened " ++ decimal opened

abbrev pub found_line : Found → Option Kind → List ℕ
found_line found kind = row_line found.row found.opened kind

-- told 2 opened 3
abbrev pub counts_line : Counts → List ℕ
counts_line c = codes "told " ++ (decimal c.told ++ (codes " opened " ++ decimal c.opened))

abbrev pub said_line : Said → List ℕ
said_line (Accepted picks) = accepted_line picks
said_line Opened = codes "open"
said_line (Next found kind) = found_line found kind
said_line (Report counts) = counts_line counts
said_line Closed = codes "closed"
said_line (Refused refusal) = refused_line (told refusal)
