use Rattle.std.proofs.Common.{◌∙◌, arith}
use Rattle.browse.specs.Desk.{thing_of, standing}
use Rattle.browse.proofs.Opens.{none_if_all_opened, none_if_crowded, else_if_sound}
use Rattle.browse.proofs.view.View.kids_to_open.Goals as goal

pub returns-then-opened-node_count : goal.returns-then-opened-node_count
returns-then-opened-node_count g c =
    none_if_all_opened (g.B.Book.model c.args.self.now.book) (g.M.Measure.distance c.args.self.now.measure c.args.self.now.query) (standing c.args.desk.now) (thing_of c.args.first)
    (omega (arith, c.opened.ensures, c.node_count.ensures))

pub returns-then-waiting-place_count : goal.returns-then-waiting-place_count
returns-then-waiting-place_count g c =
    none_if_crowded (g.B.Book.model c.args.self.now.book) (g.M.Measure.distance c.args.self.now.measure c.args.self.now.query) (standing c.args.desk.now) (thing_of c.args.first)
    (omega (arith, c.opened.ensures, c.node_count.ensures)) (omega (arith, c.waiting.ensures, c.place_count.ensures))

pub returns : goal.returns
returns g c =
    c.sound_kids.ensures
    ∙ else_if_sound (g.B.Book.model c.args.self.now.book) (g.M.Measure.distance c.args.self.now.measure c.args.self.now.query) (standing c.args.desk.now) (thing_of c.args.first)
    (omega (arith, c.opened.ensures, c.node_count.ensures)) (omega (arith, c.waiting.ensures, c.place_count.ensures))
