-- What may be there. Our own.
use Rattle.std.specs.Prelude.{Bool, false, List, [], ◌∷◌, Option, Some, None, option_and_then, option_map}

-- there is one, and it passes
abbrev pub is_some_and : {A : Type 0} → Option A → (A → Bool) → Bool
is_some_and None p = false
is_some_and (Some x) p = p x

-- all of them, or nothing where one lacks
abbrev pub all_of : {A : Type 0} → List (Option A) → Option (List A)
all_of [] = Some []
all_of (o ∷ os) = option_and_then (λ x. option_map (λ xs. x ∷ xs) (all_of os)) o
