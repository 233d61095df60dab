-- The order of things: by distance, then nodes before picks, then by number.
use Rattle.std.proofs.Common.{◌≡◌, ℕ, ◌<◌, ◌≤◌, Bool, true, false, ltb, refl, arith}
use Rattle.std.proofs.lemmas.Bool.{true≢false, false≢true}
use Rattle.std.proofs.lemmas.Bool.Decides.{nat_tests}
use Rattle.browse.specs.declared.waiting.Class.{Class}
use Rattle.browse.specs.declared.waiting.Class.TheVariants.{Node, Pick}
use Rattle.browse.specs.Thing.{Thing, opens, rank, or_else, before}

pub same_class : (c d : Class) → rank c ≡ rank d → c ≡ d
same_class Node Node e = refl
same_class Node Pick e = absurd (omega (arith, e))
same_class Pick Node e = absurd (omega (arith, e))
same_class Pick Pick e = refl

nodes_rank_first : (c d : Class) → opens c ≡ true → opens d ≡ false → rank c < rank d
nodes_rank_first Node Node e f = absurd (true≢false f)
nodes_rank_first Node Pick e f = omega arith
nodes_rank_first Pick d e f = absurd (false≢true e)

-- an order by three numbers
abbrev lex : ℕ → ℕ → ℕ → ℕ → ℕ → ℕ → Bool
lex a b c d e f = or_else a d (or_else b e (ltb c f))

lex_oneway : (a b c d e f : ℕ) → lex a b c d e f ≡ true → lex d e f a b c ≡ false
lex_oneway a b c d e f h = grind (arith, nat_tests)

lex_chain : (a b c d e f g h i : ℕ) → lex a b c d e f ≡ false → lex d e f g h i ≡ false → lex a b c g h i ≡ false
lex_chain a b c d e f g h i p q = grind (arith, nat_tests)

lex_nearest : (a b c d e f : ℕ) → a < d → lex a b c d e f ≡ true
lex_nearest a b c d e f i = grind (arith, nat_tests)

lex_next : (a b c d e f : ℕ) → a ≤ d → b < e → lex a b c d e f ≡ true
lex_next a b c d e f i j = grind (arith, nat_tests)

lex_same : (a b c d e f : ℕ) → lex a b c d e f ≡ false → lex d e f a b c ≡ false → (b ≡ e) × (c ≡ f)
lex_same a b c d e f p q =
    let i : b ≡ e = grind (arith, nat_tests) in
    let j : c ≡ f = grind (arith, nat_tests) in
    (i, j)

pub thing_oneway : (x y : Thing) → before x y ≡ true → before y x ≡ false
thing_oneway x y h = lex_oneway x.distance (rank x.class) x.number y.distance (rank y.class) y.number h

pub thing_chain : (x y z : Thing) → before x y ≡ false → before y z ≡ false → before x z ≡ false
thing_chain x y z h k =
    lex_chain x.distance (rank x.class) x.number y.distance (rank y.class) y.number z.distance (rank z.class)
    z.number h k

pub thing_nearest : (x y : Thing) → x.distance < y.distance → before x y ≡ true
thing_nearest x y i = lex_nearest x.distance (rank x.class) x.number y.distance (rank y.class) y.number i

pub thing_nodes : (x y : Thing) → opens x.class ≡ true → opens y.class ≡ false → x.distance ≤ y.distance → before x y ≡ true
thing_nodes x y h k i =
    lex_next x.distance (rank x.class) x.number y.distance (rank y.class) y.number i
    (nodes_rank_first x.class y.class h k)

-- things that it does not tell apart have one class and one number
pub thing_same : (x y : Thing) → before x y ≡ false → before y x ≡ false → (x.class ≡ y.class) × (x.number ≡ y.number)
thing_same x y h k =
    let r = lex_same x.distance (rank x.class) x.number y.distance (rank y.class) y.number h k in
    (same_class x.class y.class r.0, r.1)
