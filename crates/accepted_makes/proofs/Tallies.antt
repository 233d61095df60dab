-- Every casing string is accepted.
use Rattle.std.proofs.Common.{◌≡◌, ℕ, ◌<◌, replicate, None, Ok, Result, sym, ◌∙◌, arith}
use Rattle.std.proofs.Math.ListN.{length-replicate}
use Rattle.std.proofs.lemmas.List.FromFn.{get_or-map-range_with_len}
use Rattle.book.specs.declared.kind.Kind.TheVariants.{Collar}
use Rattle.refusal.specs.declared.hands.TreeFault.{TreeFault}
use Rattle.book_check.specs.Accepted.{Accepted, Exactly}
use Rattle.book_check.specs.Names.{picks_named}
use Rattle.makes.specs.Tally.{collar_boxes}
use Rattle.makes.specs.declared.tally.Tally.{Tally}
use Rattle.makes.specs.Collars.{sizes_of_lem, hung_at, box_down, down_is, collar_box}
use Rattle.makes.specs.TalliesLemmas.{boxes_of, book_of, collars_count}
use Rattle.accepted_makes.specs.Tallies.{Full, TalliesAccepted}
use Rattle.accepted_makes.proofs.Sixteens.{picks_all, sixteens_accepted}

collars_full : (t : Tally) → Full (boxes_of t)
collars_full t j h =
    let k : j < t.joints.count = omega (arith, collars_count t) in
    let hung = hung_at t j k in (
      box_down t.top t.joints.length j j (omega arith) hung,
      get_or-map-range_with_len (collar_box t.top t.joints.length) 0 t.joints.count j j None k (omega arith)
          ∙ down_is t.top t.joints.length j j (omega arith) hung,
    )

pub tallies_accepted : TalliesAccepted
tallies_accepted top joints long s h =
    let t : Tally = record { top = top; joints = record { count = joints; length = long; sizes = s }; hung = h } in
    let z = sizes_of_lem joints long s in
    let c = collars_count t in
    sixteens_accepted (collar_boxes top joints long) (replicate joints Collar)
    (omega (arith, c, z.some)) (omega (arith, c, z.few)) (length-replicate joints Collar ∙ sym c) (collars_full t)

-- the answer of the check
pub tally_picks : (t : Tally) → picks_named (book_of t) ≡ t.joints.count
tally_picks t =
    let z = sizes_of_lem t.joints.count t.joints.length t.joints.sizes in
    let c = collars_count t in
    let l = length-replicate t.joints.count Collar in
    picks_all (boxes_of t) (replicate t.joints.count Collar)
    (omega (arith, c, z.some)) (omega (arith, c, z.few)) (l ∙ sym c) (collars_full t)
    ∙ l

pub tally_answer : (t : Tally) (r : Result ℕ TreeFault) → ((k : ℕ) → Exactly (r ≡ Ok k) (Accepted (book_of t) × (k ≡ picks_named (book_of t)))) → r ≡ Ok t.joints.count
tally_answer t r said =
    (said t.joints.count).1 (tallies_accepted t.top t.joints.count t.joints.length t.joints.sizes t.hung, sym (tally_picks t))
