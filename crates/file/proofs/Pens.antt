-- A pen that puts one piece after the other.
use Rattle.std.proofs.Common.{◌≡◌, ℕ, ◌+◌, List, [], ◌++◌, length, sym, refl, ap, ◌∙◌, subst, arith, length-append}
use Rattle.file.specs.Pen.{HasRoom, wrote}
use Rattle.file.specs.declared.pen.Pen.{Pen}
use Rattle.file.proofs.Placing.{placed_none, placed_placed, length_placed}

-- a pen that puts nothing stays as it is
pub wrote_none : (pen : Pen) → wrote pen [] ≡ pen
wrote_none pen =
    let at : pen.at + 0 ≡ pen.at = omega arith in
    λ i. record pen { at = at i; page = record pen.page { now = placed_none pen.page.now pen.at i } }

-- one piece, and then one behind it, are one piece
pub wrote_more : (pen : Pen) (ys zs : List ℕ) → HasRoom pen ys → wrote (wrote pen ys) zs ≡ wrote pen (ys ++ zs)
wrote_more pen ys zs room =
    let at : pen.at + length ys + length zs ≡ pen.at + length (ys ++ zs) = omega (arith, length-append ys zs) in
    λ i. record pen { at = at i; page = record pen.page { now = placed_placed pen.page.now pen.at ys zs room i } }

-- a piece of two parts, of which the first was put
module _ (start : Pen) {first : Pen} (ys zs : List ℕ) (room : HasRoom start (ys ++ zs)) (put : first ≡ wrote start ys) where
  fits : HasRoom start ys
  fits = omega (arith, room, length-append ys zs)

  pub room_behind : HasRoom first zs
  room_behind =
      let here : HasRoom (wrote start ys) zs = omega (arith, room, length-append ys zs, length_placed start.page.now start.at ys fits) in
      subst (λ p. HasRoom p zs) (sym put) here

  pub wrote_both : {last : Pen} → last ≡ wrote first zs → last ≡ wrote start (ys ++ zs)
  wrote_both e = e ∙ ap (λ p. wrote p zs) put ∙ wrote_more start ys zs fits

-- a piece of three parts
module _ (start : Pen) {first second : Pen} (ys zs ws : List ℕ) (room : HasRoom start (ys ++ (zs ++ ws))) (put : first ≡ wrote start ys) (put_more : second ≡ wrote first zs) where
  pub room_third : HasRoom second ws
  room_third = room_behind first zs ws (room_behind start ys (zs ++ ws) room put) put_more

  pub wrote_three : {last : Pen} → last ≡ wrote second ws → last ≡ wrote start (ys ++ (zs ++ ws))
  wrote_three e = wrote_both start ys (zs ++ ws) room put (wrote_both first zs ws (room_behind start ys (zs ++ ws) room put) put_more e)

-- of the piece `whole`, which `start` has to put, `now` has put all but `rest`
pub record Left (start : Pen) (whole rest : List ℕ) (now : Pen) : Type 0 where
  pub room : HasRoom now rest
  pub same : wrote now rest ≡ wrote start whole

module _ {start : Pen} {whole rest : List ℕ} {now : Pen} (left : Left start whole rest now) where
  -- the next piece has room
  pub left_room : (ys more : List ℕ) → rest ≡ ys ++ more → HasRoom now ys
  left_room ys more e = omega (arith, left.room, ap length e, length-append ys more)

  pub left_more : (ys more : List ℕ) {next : Pen} → rest ≡ ys ++ more → next ≡ wrote now ys → Left start whole more next
  left_more ys more e put =
      let room : HasRoom now (ys ++ more) = subst (HasRoom now) e left.room in
      record {
        room = room_behind now ys more room put;
        same = wrote_both now ys more room put refl ∙ ap (wrote now) (sym e) ∙ left.same;
      }

  -- a piece of no bytes
  pub left_same : (more : List ℕ) {next : Pen} → rest ≡ more → next ≡ now → Left start whole more next
  left_same more e f = subst (λ p. Left start whole more p) (sym f) (subst (λ r. Left start whole r now) e left)

  pub left_none : rest ≡ [] → now ≡ wrote start whole
  left_none e = sym (wrote_none now) ∙ ap (wrote now) (sym e) ∙ left.same
