-- The sections of a book one after the other.
use Rattle.std.proofs.Common.{◌≡◌, ℕ, ◌+◌, List, ◌++◌, length, drop, Ok, ap, ◌∙◌, arith}
use Rattle.book.specs.Model.{Model}
use Rattle.file.specs.Encode.{node_section, entry_section, pick_section, encode}
use Rattle.file.specs.Pen.{placed, HasRoom, wrote}
use Rattle.file.specs.WriteOut.{write_out_answer, left_by, write_out_leaves}
use Rattle.file.specs.declared.pen.Pen.{Pen}
use Rattle.file.proofs.Pens.{wrote_three}

module _ (m : Model) (start : Pen) {nodes entries picks : Pen} (room : HasRoom start (encode m)) (put_nodes : nodes ≡ wrote start (node_section m)) (put_entries : entries ≡ wrote nodes (entry_section m)) (put_picks : picks ≡ wrote entries (pick_section m)) where
  all_put : picks ≡ wrote start (encode m)
  all_put = wrote_three start (node_section m) (entry_section m) (pick_section m) room put_nodes put_entries put_picks

  -- what the bytes become, where the pen began at the first of them
  pub written : (xs : List ℕ) → start.page.now ≡ xs → start.at ≡ 0 → Ok (length (encode m)) ≡ write_out_answer m (length xs) → picks.page.now ≡ write_out_leaves m xs
  written xs bytes at answer =
      let all : 0 + length (encode m) ≡ length (encode m) = omega arith in
      ap (λ (p : Pen). p.page.now) all_put
      ∙ ap (λ ys. placed ys start.at (encode m)) bytes
      ∙ ap (λ k. placed xs k (encode m)) at
      ∙ ap (λ k. encode m ++ drop k xs) all
      ∙ ap (λ a. left_by a (encode m) xs) answer
