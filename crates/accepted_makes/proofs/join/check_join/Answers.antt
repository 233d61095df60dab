use Rattle.accepted_makes.proofs.Joins.{joins_accepted, never_refused}
use Rattle.accepted_makes.proofs.join.check_join.Goals as goal

pub returns : goal.returns
returns g c =
    let j = c.args.join.now in
    record {
      answer = c.check.ensures.answer;
      taken = never_refused _ _ _ _ (g.met.L.Book.shape j.left) (g.met.R.Book.shape j.right) c.check.ensures.accepts;
      joins = joins_accepted;
    }
