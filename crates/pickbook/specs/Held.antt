-- What is done with the book or the browse that is held, and what is said of it.
use Rattle.std.specs.Prelude.{◌≡◌, ℕ, Some, None, Ok, Err, Option, Result}
use Rattle.refusal.specs.Told.{Told, told}
use Rattle.refusal.specs.declared.refusal.Refusal.{Refusal}
use Rattle.refusal.specs.declared.refusal.Refusal.TheVariants.{Typing, Tree}
use Rattle.refusal.specs.declared.hands.TreeFault.{TreeFault}
use Rattle.refusal.specs.declared.hands.TypingFault.TheVariants.{State}
use Rattle.geometry.specs.Choice.{chosen}
use Rattle.geometry.specs.declared.choice.Choice.{Choice}
use Rattle.book.specs.Model.{Model, kind_of}
use Rattle.book.specs.declared.kind.Kind.{Kind}
use Rattle.loaded.specs.Loaded.{loaded_model}
use Rattle.loaded.specs.declared.loaded.Loaded.{Loaded}
use Rattle.browse.specs.declared.answer.Row.{Row}
use Rattle.browse.specs.declared.answer.Found.{Found}
use Rattle.browse.specs.declared.answer.Counts.{Counts}
use Rattle.browse.specs.declared.browse.Browse.{Browse}
use Rattle.browse.specs.Browse.{opening, next_of, next_reply, counts_reply, report_of}
use Rattle.browse.specs.Desk.{standing}
use Rattle.console.specs.State.{Act}
use Rattle.console.specs.declared.command.Command.TheVariants.{Open, Next, Report, Close}
use Rattle.console.specs.declared.say.Said.{Said}
use Rattle.console.specs.declared.say.Said.TheVariants.{Opened, Next as SaidNext, Report as SaidReport, Closed, Refused}
use Rattle.pickbook.specs.declared.held.Held.{Held}
use Rattle.pickbook.specs.declared.held.Held.TheVariants.{Book, Browse as Browsed}
use Rattle.pickbook.specs.declared.held.Shown.{Shown}

-- a browse as the program holds it
abbrev pub Browsing : Type 0
Browsing = Browse Loaded Choice

abbrev pub not_now : Said
not_now = Refused (Typing State)

-- the kind of the pick that is told, if one is
abbrev pub kind_told : Model → Option Row → Option Kind
kind_told m (Some row) = kind_of m row.pick
kind_told m None = None

abbrev pub next_said : Model → Result Found TreeFault → Said
next_said m (Ok found) = SaidNext found (kind_told m found.row)
next_said m (Err fault) = Refused (Tree fault)

-- the browse w became v by a call of `next` with this limit, of which this is said
abbrev pub Asks : Browsing → ℕ → Browsing → Said → Type 0
Asks w limit v said =
    (v.view ≡ w.view)
    × ((answer : Result Found TreeFault)
    × (next_of (loaded_model w.view.book) (chosen w.view.measure w.view.query) limit (standing w.desk) ≡ (next_reply answer, standing v.desk))
    × (said ≡ next_said (loaded_model w.view.book) answer))

-- the browse w became what is shown
abbrev pub ActsOnBrowse : Browsing → Act → Shown → Type 0
ActsOnBrowse w (Next limit) shown = (v : Browsing) × (shown.held ≡ Browsed v) × Asks w limit v shown.said
ActsOnBrowse w Report shown =
    (shown.held ≡ Browsed w) × ((counts : Counts) × (shown.said ≡ SaidReport counts) × (counts_reply counts ≡ report_of (standing w.desk)))
ActsOnBrowse w Close shown = (shown.held ≡ Book w.view.book) × (shown.said ≡ Closed)
ActsOnBrowse w (Open measure query) shown = (shown.held ≡ Browsed w) × (shown.said ≡ not_now)

-- a book is opened to be browsed, and nothing else can be done with it
abbrev pub ActsOnBook : Loaded → Act → Shown → Type 0
ActsOnBook b (Open measure query) shown =
    ((v : Browsing) × (shown.held ≡ Browsed v) × (v.view ≡ record { book = b; measure = measure; query = query }) × (standing v.desk ≡ opening (loaded_model b)))
    × (shown.said ≡ Opened)
ActsOnBook b (Next limit) shown = (shown.held ≡ Book b) × (shown.said ≡ not_now)
ActsOnBook b Report shown = (shown.held ≡ Book b) × (shown.said ≡ not_now)
ActsOnBook b Close shown = (shown.held ≡ Book b) × (shown.said ≡ not_now)

abbrev pub Acts : Held → Act → Shown → Type 0
Acts (Book b) act shown = ActsOnBook b act shown
Acts (Browsed w) act shown = ActsOnBrowse w act shown

-- a line was taken as this act, or refused
abbrev pub AnsweredBy : Result Act Told → Held → Shown → Type 0
AnsweredBy (Ok act) held shown = Acts held act shown
AnsweredBy (Err t) held shown = (shown.held ≡ held) × ((refusal : Refusal) × (shown.said ≡ Refused refusal) × (told refusal ≡ t))
