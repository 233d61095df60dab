-- What a browse answers, for every book, broken ones too.
use Rattle.std.specs.Prelude.{ℕ, ◌-◌, cond, List, [], ◌∷◌, Ok, Err, Some, None, Option, Result, nat_le}
use Rattle.refusal.specs.Told.{Told, at_node, tree_told}
use Rattle.refusal.specs.declared.hands.TreeFault.{TreeFault}
use Rattle.book.specs.Model.{Model, node_count}
use Rattle.search.specs.declared.turn.Call.{Call}
use Rattle.search.specs.declared.turn.Call.TheVariants.{Next, Report}
use Rattle.search.specs.declared.turn.Turn.{Turn}
use Rattle.search.specs.Answer as heard
use Rattle.search.specs.Glances.{Glance, done, on, follow, finish}
use Rattle.search.specs.Search.{Standing, start, tell_first, open_first}
use Rattle.search.specs.Turns.{answers_from, standing_after}
use Rattle.browse.specs.declared.answer.Row.{Row}
use Rattle.browse.specs.declared.answer.Found.{Found}
use Rattle.browse.specs.declared.answer.Counts.{Counts}
use Rattle.browse.specs.declared.answer.Answer.{Answer}
use Rattle.browse.specs.declared.answer.Answer.TheVariants.{Next as Asked, Report as Reported}
use Rattle.browse.specs.Thing.{Thing, opens}
use Rattle.browse.specs.Tree.{Far, tree_of, root_thing}
use Rattle.browse.specs.Broken.{can_open}

-- an answer, or what is told of a broken node
abbrev pub Reply : Type 0
Reply = Result (heard.Answer Row) Told

abbrev pub row : Thing → Row
row x = record { pick = x.number; distance = x.distance; top = x.top }

-- a browse just opened: the root waits
abbrev pub opening : Model → Standing Thing
opening m = start (root_thing m)

abbrev pub nothing : Standing Thing → Reply
nothing s = Ok (heard.none s.opened)

-- the node x, within the limit and before w, is opened if it can be
abbrev pub open_node : Model → Far → Standing Thing → Thing → List Thing → Glance Reply (Standing Thing)
open_node m far s x w = cond (can_open m far s x) (on (open_first (tree_of m far) s x w)) (done (Err (at_node 20 x.number)) s)

-- one glance at what waits first
abbrev pub glance_at : Model → Far → ℕ → Standing Thing → List Thing → Glance Reply (Standing Thing)
glance_at m far limit s [] = done (nothing s) s
glance_at m far limit s (x ∷ w) =
    cond (nat_le x.distance limit)
    (cond (opens x.class) (open_node m far s x w) (done (Ok (heard.told (row x) s.opened)) (tell_first s w)))
    (done (nothing s) s)

abbrev pub glance : Model → Far → ℕ → Standing Thing → Glance Reply (Standing Thing)
glance m far limit s = glance_at m far limit s s.waiting

-- Glance after glance until one answers. A book of N nodes has at most N opened.
unfoldable pub next_of : Model → Far → ℕ → Standing Thing → Reply × Standing Thing
next_of m far limit s = finish nothing (follow (glance m far limit) (node_count m - s.opened) s)

abbrev pub report_of : Standing Thing → Reply
report_of s = Ok (heard.counts s.told s.opened)

abbrev pub called : Model → Far → Standing Thing → Call → Reply × Standing Thing
called m far s (Next limit) = next_of m far limit s
called m far s Report = (report_of s, s)

-- whichever hand it is
abbrev pub turned : Model → Far → Standing Thing → Turn → Reply × Standing Thing
turned m far s u = called m far s u.call

-- what a browse that stands at s answers to a list of turns, and where it stands then
abbrev pub replies_from : Model → Far → Standing Thing → List Turn → List Reply
replies_from m far = answers_from (turned m far)

abbrev pub stands_after : Model → Far → Standing Thing → List Turn → Standing Thing
stands_after m far = standing_after (turned m far)

-- the code's answers as replies
abbrev pub row_reply : Option Row → ℕ → heard.Answer Row
row_reply (Some r) o = heard.told r o
row_reply None o = heard.none o

abbrev pub found_reply : Found → heard.Answer Row
found_reply f = row_reply f.row f.opened

abbrev pub next_reply : Result Found TreeFault → Reply
next_reply (Ok f) = Ok (found_reply f)
next_reply (Err fault) = Err (tree_told fault)

abbrev pub counts_reply : Counts → Reply
counts_reply c = Ok (heard.counts c.told c.opened)

abbrev pub reply : Answer → Reply
reply (Asked r) = next_reply r
reply (Reported c) = counts_reply c
