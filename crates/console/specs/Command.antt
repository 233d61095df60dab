-- Which lines are commands, and which.
use Rattle.std.specs.Prelude.{ℕ, cond, ◌&&◌, List, length, Some, None, Ok, Err, Option, Result, ◌==◌, nat_le, slice_index}
use Rattle.refusal.specs.Told.{Told, plain}
use Rattle.geometry.specs.declared.bounds.Point.{Point}
use Rattle.geometry.specs.declared.choice.Choice.{Choice}
use Rattle.geometry.specs.declared.choice.Choice.TheVariants.{Euclidean, Manhattan, Chessboard}
use Rattle.line.specs.Words.{word_of, rest_of}
use Rattle.line.specs.Point.{point_typed}
use Rattle.console.specs.Limit.{limit_of}
use Rattle.console.specs.declared.command.Command.{Command}
use Rattle.console.specs.declared.command.Command.TheVariants.{Open, Next, Report, Close}

-- a command as it is typed; its query is none where a text is no level
abbrev pub Typed : Type 0
Typed = Command (Option Point)

abbrev pub no_command : {A : Type 0} → Result A Told
no_command = Err (plain 25)

-- a command that takes nothing
abbrev pub bare : Typed → List ℕ → Result Typed Told
bare c rest = cond (length rest == 0) (Ok c) no_command

abbrev limited : Option ℕ → Result Typed Told
limited (Some limit) = Ok (Next limit)
limited None = no_command

abbrev pub next_typed : List ℕ → Result Typed Told
next_typed rest = limited (limit_of rest)

-- a text that is no level is left for later, since the state is tested before it
abbrev pub pointed : Choice → Result Point Told → Result Typed Told
pointed measure (Ok p) = Ok (Open measure (Some p))
pointed measure (Err refusal) = cond (refusal.number == 27) (Ok (Open measure None)) (Err refusal)

-- the measure by its letter, and the levels after it
abbrev pub open_by : ℕ → List ℕ → Result Typed Told
open_by letter levels =
    cond (letter == 69) (pointed Euclidean (point_typed levels))
    (cond (letter == 77) (pointed Manhattan (point_typed levels))
    (cond (letter == 67) (pointed Chessboard (point_typed levels)) no_command))

-- E, M or C, and then three levels
unfoldable pub open_typed : List ℕ → Result Typed Told
open_typed rest = cond (length (word_of rest) == 1) (open_by (slice_index (word_of rest) 0) (rest_of rest)) no_command

-- by the letter, and what stands after it
abbrev pub command_by : ℕ → List ℕ → Result Typed Told
command_by letter rest =
    cond (letter == 79) (open_typed rest)
    (cond (letter == 78) (next_typed rest)
    (cond (letter == 82) (bare Report rest)
    (cond (letter == 90) (bare Close rest) no_command)))

-- O, N, R or Z as the whole first word of a line of at most 80 bytes; anything else is 25
unfoldable pub command_of : List ℕ → Result Typed Told
command_of line =
    cond (nat_le (length line) 80 && length (word_of line) == 1)
    (command_by (slice_index (word_of line) 0) (rest_of line)) no_command
