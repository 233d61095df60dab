-- Maps over what holds of each element.
use Rattle.std.specs.Prelude.{◌≡◌, List, [], ◌∷◌, map, refl}
use Rattle.std.specs.List.{AllByRecursion}

pub map_same : {X : Type 0} (f : X → X) → ((x : X) → f x ≡ x) → (xs : List X) → map f xs ≡ xs
map_same f h [] = refl
map_same f h (x ∷ xs) = let a = h x in let b = map_same f h xs in cc

pub map_twice : {X Y Z : Type 0} (f : Y → Z) (g : X → Y) (both : X → Z) (P : X → Type 0) → ((x : X) → P x → f (g x) ≡ both x) → (xs : List X) → AllByRecursion P xs → map f (map g xs) ≡ map both xs
map_twice f g both P h [] all = refl
map_twice f g both P h (x ∷ xs) all = let a = h x all.0 in let b = map_twice f g both P h xs all.1 in cc
