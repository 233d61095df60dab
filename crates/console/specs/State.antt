-- What a command is answered in each state, and the state after it.
use Rattle.std.specs.Prelude.{ℕ, Bool, true, false, List, Some, None, Ok, Err, Option, Result}
use Rattle.refusal.specs.Told.{Told, plain}
use Rattle.geometry.specs.Bounds.{bounds_of}
use Rattle.geometry.specs.declared.bounds.Point.{Point}
use Rattle.geometry.specs.declared.bounds.Bounds.{Bounds}
use Rattle.geometry.specs.declared.choice.Choice.{Choice}
use Rattle.console.specs.Command.{Typed, command_of}
use Rattle.console.specs.declared.command.Command.{Command}
use Rattle.console.specs.declared.command.Command.TheVariants.{Open, Next, Report, Close}
use Rattle.console.specs.declared.state.State.{State}
use Rattle.console.specs.declared.state.State.TheVariants.{NoBook, Ready, Open as IsOpen}

-- the query box: 27 where a text is no level, then 5 where a coordinate is out of range
abbrev pub query_at : Option Point → Result Bounds Told
query_at (Some p) = bounds_of p p
query_at None = Err (plain 27)

-- what is to be done with the book or the browse
abbrev pub Act : Type 0
Act = Command Bounds

-- opening asks for a browse at this query, if it is a box
abbrev opened : Choice → Result Bounds Told → Result Act Told
opened measure (Ok query) = Ok (Open measure query)
opened measure (Err refusal) = Err refusal

abbrev pub not_now : Result Act Told
not_now = Err (plain 26)

-- opening needs a book that is ready, everything else an open browse
abbrev pub answer_in : State → Typed → Result Act Told
answer_in Ready (Open measure point) = opened measure (query_at point)
answer_in Ready (Next limit) = not_now
answer_in Ready Report = not_now
answer_in Ready Close = not_now
answer_in IsOpen (Open measure point) = not_now
answer_in IsOpen (Next limit) = Ok (Next limit)
answer_in IsOpen Report = Ok Report
answer_in IsOpen Close = Ok Close
answer_in NoBook command = not_now

abbrev open_if : Result Bounds Told → State
open_if (Ok query) = IsOpen
open_if (Err refusal) = Ready

-- only opening and closing change the state, and only where they are not refused
abbrev pub state_after : State → Typed → State
state_after Ready (Open measure point) = open_if (query_at point)
state_after Ready (Next limit) = Ready
state_after Ready Report = Ready
state_after Ready Close = Ready
state_after IsOpen (Open measure point) = IsOpen
state_after IsOpen (Next limit) = IsOpen
state_after IsOpen Report = IsOpen
state_after IsOpen Close = Ready
state_after NoBook command = NoBook

-- at first
abbrev pub state_at : Bool → State
state_at true = Ready
state_at false = NoBook

abbrev answered_to : State → Result Typed Told → Result Act Told
answered_to state (Ok command) = answer_in state command
answered_to state (Err refusal) = Err refusal

abbrev after_to : State → Result Typed Told → State
after_to state (Ok command) = state_after state command
after_to state (Err refusal) = state

-- a line is a command before it is anything else
abbrev pub line_answer : State → List ℕ → Result Act Told
line_answer state line = answered_to state (command_of line)

abbrev pub line_after : State → List ℕ → State
line_after state line = after_to state (command_of line)
