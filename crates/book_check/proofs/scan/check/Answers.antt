use Rattle.std.proofs.Common.{◌≡◌, ◌<◌, ◌≤◌, None, Ok, Err, sym, refl, ap, ◌∙◌, inl, inr, arith}
use Rattle.std.proofs.lemmas.Result.{err_from_is_err_and}
use Rattle.refusal.specs.Told.{answered, tree_told}
use Rattle.refusal.specs.declared.hands.TreeFault.TheVariants.{TooManyPlaces}
use Rattle.book.specs.Model.{node_count, place_count}
use Rattle.book.specs.Totals.{total_places}
use Rattle.book_check.specs.Below.{count_below}
use Rattle.book_check.specs.Sound.{unless}
use Rattle.book_check.specs.Checked.{tree_fault}
use Rattle.book_check.specs.Marks.{bit_of, first_unnamed}
use Rattle.book_check.specs.declared.target.Target.TheVariants.{Pick}
use Rattle.book_check.proofs.Faults.{tree_crowded, refused, accepted, fault_parts, none_parts}
use Rattle.book_check.proofs.Meaning.{answer_exactly}
use Rattle.book_check.proofs.Trees.{answer_tree}
use Rattle.book_check.proofs.Scans.{marked_none, has_bit, place_passed, node_passed, fertile_from, stopped_barren, stopped_unsound, stopped_twice, scanned_through, count_marked}
use Rattle.book_check.proofs.scan.check.Goals as goal
use Rattle.book_check.proofs.scan.check.Goals.{then-loop-node-test+then-node-root+then-places-eq0, then-loop-node-test+else-node-root+then-loop-place-test+in-Ok+then-has, then-loop-node-test+else-node-root+then-loop-place-test+in-Err, else-loop-node-test}

pub returns-then-total_places-gt-MOST_PLACES : goal.returns-then-total_places-gt-MOST_PLACES
returns-then-total_places-gt-MOST_PLACES g c =
    let m = g.B.Book.model c.args.book.now in
    let h : 2048 < total_places m = omega (arith, c.total_places.ensures) in
    let answer = refused m _ (tree_crowded m h) in
    record { answer = answer; accepts = answer_exactly m (Err TooManyPlaces) answer; tree = answer_tree m (Err TooManyPlaces) answer }

pub loop-node-init : goal.loop-node-init
loop-node-init g c =
    (refl, marked_none (g.B.Book.model c.args.book.now) c.none-named.result c.none-named.ensures)

pub has-requires : goal.has-requires
has-requires g c =
    has_bit (g.B.Book.model c.args.book.now) c.loop-node.node c.loop-place.place c.in-Ok.target (g.met.B.Book.shape c.args.book.now) c.in-Ok.ensures

pub add-requires : goal.add-requires
add-requires g c =
    has_bit (g.B.Book.model c.args.book.now) c.loop-node.node c.loop-place.place c.in-Ok.target (g.met.B.Book.shape c.args.book.now) c.in-Ok.ensures

pub loop-place-preserved : goal.loop-place-preserved
loop-place-preserved g c =
    let m = g.B.Book.model c.args.book.now in (
      c.loop-place.invariant.0,
      place_passed m c.loop-place.named c.add.new.self c.loop-node.node c.loop-place.place c.in-Ok.target c.loop-place.invariant.1 c.in-Ok.ensures c.if-has.ensures c.add.ensures,
    )

pub loop-node-preserved : goal.loop-node-preserved
loop-node-preserved g c =
    let m = g.B.Book.model c.args.book.now in
    let n = c.loop-node.node in
    let e : c.loop-place.place ≡ place_count m n = omega (arith, c.place_count-places.ensures) in
    let f = fertile_from m n c.root_of-root.result c.place_count-places.result c.root_of-root.ensures c.place_count-places.ensures (elim c.else-node-root.either [ inl p ↦ inl p.1 | inr h ↦ inr (omega arith) ]) in
    node_passed m c.loop-place.named n c.loop-place.place f c.loop-node.invariant.0 e c.loop-place.invariant.1

pub returns-in_err-scanned : goal.returns-in_err-scanned
returns-in_err-scanned g c =
    let m = g.B.Book.model c.args.book.now in
    let few : total_places m ≤ 2048 = omega (arith, c.total_places.ensures) in
    let n = c.loop-node.node in
    let scanned = c.loop-node-test.scanned in
    let found : answered tree_told scanned ≡ unless (tree_fault m) tt =
    elim c.loop-node-test.branch [
      | then-loop-node-test+then-node-root+then-places-eq0 w ↦
          ap (answered tree_told) w.scanned-is
          ∙ sym (ap (λ f. unless f tt) (stopped_barren m n few c.loop-node.invariant.0 (omega (arith, c.node_count-nodes.ensures, w.loop-node-test.true)) (omega (arith, c.root_of-root.ensures, w.if-node-root.true)) (omega (arith, w.place_count-places.ensures, w.if-places-eq0.true))))
      | then-loop-node-test+else-node-root+then-loop-place-test+in-Ok+then-has w ↦
          ap (answered tree_told) w.scanned-is
          ∙ sym (ap (λ f. unless f tt) (stopped_twice m w.loop-place.named n w.loop-place.place w.in-Ok.target few c.loop-node.invariant.0 (omega (arith, c.node_count-nodes.ensures, w.loop-node-test.true))
          (fertile_from m n c.root_of-root.result w.place_count-places.result c.root_of-root.ensures w.place_count-places.ensures (elim w.else-node-root.either [ inl p ↦ inl p.1 | inr h ↦ inr (omega arith) ]))
          w.loop-place.invariant.1 (omega (arith, w.place_count-places.ensures, w.loop-place-test.true)) w.in-Ok.ensures w.if-has.ensures))
      | then-loop-node-test+else-node-root+then-loop-place-test+in-Err w ↦
          ap (answered tree_told) w.scanned-is
          ∙ sym (ap (λ f. unless f tt) (stopped_unsound m w.loop-place.named n w.loop-place.place _ few c.loop-node.invariant.0 (omega (arith, c.node_count-nodes.ensures, w.loop-node-test.true))
          (fertile_from m n c.root_of-root.result w.place_count-places.result c.root_of-root.ensures w.place_count-places.ensures (elim w.else-node-root.either [ inl p ↦ inl p.1 | inr h ↦ inr (omega arith) ]))
          w.loop-place.invariant.1 (omega (arith, w.place_count-places.ensures, w.loop-place-test.true)) w.in-Err.ensures))
      | else-loop-node-test w ↦
          ap (answered tree_told) w.scanned-is ∙ w.all_named-scanned.ensures
          ∙ ap (λ r. unless (first_unnamed c.loop-node.named r) tt) c.root_of-root.ensures
          ∙ ap (λ f. unless f tt) (scanned_through m c.loop-node.named n few (omega (arith, c.node_count-nodes.ensures, w.loop-node-test.false)) c.loop-node.invariant)
    ] in
    let p = err_from_is_err_and c.from_residual.result c.from_residual.ensures.1 in
    let e : c.from_residual.result ≡ Err c.in_err-scanned.field-0.0 = p.1 ∙ ap Err p.2 in
    let stopped = fault_parts _ _ (ap (answered tree_told) (sym c.in_err-scanned.was) ∙ found) in
    let answer = ap (answered tree_told) e ∙ refused m _ stopped in
    record { answer = answer; accepts = answer_exactly m c.from_residual.result answer; tree = answer_tree m c.from_residual.result answer }

pub returns : goal.returns
returns g c =
    let m = g.B.Book.model c.args.book.now in
    let few : total_places m ≤ 2048 = omega (arith, c.total_places.ensures) in
    let n = c.loop-node.node in
    let a = c.loop-node.named in
    elim c.loop-node-test.branch [
      | then-loop-node-test+then-node-root+then-places-eq0 w ↦ absurd (cc (w.scanned-is, c.in_ok-scanned.was))
      | then-loop-node-test+else-node-root+then-loop-place-test+in-Ok+then-has w ↦ absurd (cc (w.scanned-is, c.in_ok-scanned.was))
      | then-loop-node-test+else-node-root+then-loop-place-test+in-Err w ↦ absurd (cc (w.scanned-is, c.in_ok-scanned.was))
      | else-loop-node-test w ↦
          let end : n ≡ node_count m = omega (arith, c.node_count-nodes.ensures, w.loop-node-test.false) in
          let none : tree_fault m ≡ None =
          sym (scanned_through m a n few end c.loop-node.invariant)
          ∙ ap (first_unnamed a) (sym c.root_of-root.ensures)
          ∙ none_parts _ (ap (answered tree_told) (sym c.in_ok-scanned.was ∙ w.scanned-is) ∙ w.all_named-scanned.ensures) in
          let count = c.pick_count.ensures ∙ ap (λ b. count_below (λ p. bit_of b (Pick p)) 2048) w.named-is ∙ count_marked m a n (g.met.B.Book.shape c.args.book.now) end c.loop-node.invariant in
          let answer = accepted m _ none count in
          record { answer = answer; accepts = answer_exactly m (Ok c.pick_count.result) answer; tree = answer_tree m (Ok c.pick_count.result) answer }
    ]
