-- The smallest box around those that there are: in any grouping, and why it is the smallest.
use Rattle.std.specs.Prelude.{◌≡◌, List, [], ◌∷◌, ◌++◌, Some, None, Option, refl}
use Rattle.std.proofs.Common.{sym, ◌∙◌, ap, subst, arith}
use Rattle.std.specs.List.{AllByRecursion}
use Rattle.geometry.specs.Around.{bounds_around}
use Rattle.geometry.specs.Within.{Inside, Within}
use Rattle.geometry.specs.declared.bounds.Bounds.{Bounds}
use Rattle.geometry.specs.declared.bounds.Span.{Span}
use Rattle.geometry.proofs.Arounds.{box_over, around_is, over_smallest, over_assoc}
use Rattle.std.proofs.lemmas.Int.{ints}
use Rattle.makes.specs.Smallest.{around_both, smallest, LiesIn, IsSmallest}

pub around_none : (a : Option Bounds) → around_both a None ≡ a
around_none (Some a) = refl
around_none None = refl

pub around_assoc : (a b c : Option Bounds) → around_both (around_both a b) c ≡ around_both a (around_both b c)
around_assoc (Some a) (Some b) (Some c) =
    ap (λ x. around_both x (Some c)) (around_is a b) ∙ around_is (box_over a b) c
    ∙ ap Some (over_assoc a b c)
    ∙ sym (ap (around_both (Some a)) (around_is b c) ∙ around_is a (box_over b c))
around_assoc (Some a) (Some b) None = around_none (bounds_around a b)
around_assoc (Some a) None c = refl
around_assoc None b c = refl

-- around two lists is around both
pub smallest_append : (xs ys : List (Option Bounds)) → smallest (xs ++ ys) ≡ around_both (smallest xs) (smallest ys)
smallest_append [] ys = refl
smallest_append (x ∷ xs) ys = ap (around_both x) (smallest_append xs ys) ∙ sym (around_assoc x (smallest xs) (smallest ys))

inside_trans : (s t u : Span) → Inside s t → Inside t u → Inside s u
inside_trans s t u p q = (omega (arith, ints), omega (arith, ints))

within_trans : (a b c : Bounds) → Within a b → Within b c → Within a c
within_trans a b c p q = (
  inside_trans a.easting b.easting c.easting p.0 q.0,
  inside_trans a.northing b.northing c.northing p.1 q.1,
  inside_trans a.level b.level c.level p.2 q.2,
)

within_self : (a : Bounds) → Within a a
within_self a = ((omega (arith, ints), omega (arith, ints)), (omega (arith, ints), omega (arith, ints)), (omega (arith, ints), omega (arith, ints)))

lies_wider : (a b : Bounds) (o : Option Bounds) → Within a b → LiesIn a o → LiesIn b o
lies_wider a b (Some x) w l = within_trans x a b l w
lies_wider a b None w l = tt

all_wider : (a b : Bounds) → Within a b → (bs : List (Option Bounds)) → AllByRecursion (LiesIn a) bs → AllByRecursion (LiesIn b) bs
all_wider a b w [] all = tt
all_wider a b w (x ∷ xs) all = (lies_wider a b x w all.0, all_wider a b w xs all.1)

none_lies : (c : Bounds) (bs : List (Option Bounds)) → AllByRecursion (λ b. b ≡ None) bs → AllByRecursion (LiesIn c) bs
none_lies c [] all = tt
none_lies c (x ∷ xs) all = (subst (LiesIn c) (sym all.0) tt, none_lies c xs all.1)

-- one more in front of what the smallest box is known of
smallest_step : (b : Option Bounds) (bs : List (Option Bounds)) (r : Option Bounds) → IsSmallest bs r → IsSmallest (b ∷ bs) (around_both b r)
smallest_step (Some a) bs (Some r) s =
    let o = over_smallest a r in
    subst (IsSmallest (Some a ∷ bs)) (sym (around_is a r))
    ((o.one, all_wider r (box_over a r) o.other bs s.0), λ c all. o.least c all.0 (s.1 c all.1))
smallest_step (Some a) bs None s = ((within_self a, none_lies a bs s), λ c all. all.0)
smallest_step None bs (Some r) s = ((tt, s.0), λ c all. s.1 c all.1)
smallest_step None bs None s = (refl, s)

pub smallest_is : (bs : List (Option Bounds)) → IsSmallest bs (smallest bs)
smallest_is [] = tt
smallest_is (b ∷ bs) = smallest_step b bs (smallest bs) (smallest_is bs)
