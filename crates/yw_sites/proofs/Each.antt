-- What holds of each of a list, of a part of it, and with others in their place.
use Rattle.std.proofs.Common.{List, [], ap, refl, ◌++◌, ◌∷◌, ◌≡◌}
use Rattle.yw_sites.specs.Idents.{Each}

pub Each-append : {A : Type 0} (Q : A → Type 0) (xs ys : List A) → Each Q xs → Each Q ys → Each Q (xs ++ ys)
Each-append Q [] ys p q = q
Each-append Q (x ∷ xs) ys p q = (p.0, Each-append Q xs ys p.1 q)

pub Each-front : {A : Type 0} (Q : A → Type 0) (xs ys : List A) → Each Q (xs ++ ys) → Each Q xs
Each-front Q [] ys p = tt
Each-front Q (x ∷ xs) ys p = (p.0, Each-front Q xs ys p.1)

pub Each-back : {A : Type 0} (Q : A → Type 0) (xs ys : List A) → Each Q (xs ++ ys) → Each Q ys
Each-back Q [] ys p = p
Each-back Q (x ∷ xs) ys p = Each-back Q xs ys p.1

-- ---- each with one other in its place
pub each_put : {A : Type 0} (Q : A → Type 0) (xs : List A) (x y : A) (zs : List A) → Each Q (xs ++ (x ∷ zs)) → Q y → Each Q (xs ++ (y ∷ zs))
each_put Q [] x y zs p q = (q, p.1)
each_put Q (w ∷ xs) x y zs p q = (p.0, each_put Q xs x y zs p.1 q)

pub each_mid : {A : Type 0} (Q : A → Type 0) (xs : List A) (x : A) (zs : List A) → Each Q (xs ++ (x ∷ zs)) → Q x
each_mid Q [] x zs p = p.0
each_mid Q (w ∷ xs) x zs p = each_mid Q xs x zs p.1

pub each_rest : {A : Type 0} (Q : A → Type 0) (xs : List A) (x : A) (zs : List A) → Each Q (xs ++ (x ∷ zs)) → Each Q zs
each_rest Q [] x zs p = p.1
each_rest Q (w ∷ xs) x zs p = each_rest Q xs x zs p.1

-- ---- lists without their middle
pub each_ends : {A : Type 0} (Q : A → Type 0) (xs ys zs : List A) → Each Q (xs ++ (ys ++ zs)) → Each Q (xs ++ zs)
each_ends Q [] ys zs h = Each-back Q ys zs h
each_ends Q (x ∷ xs) ys zs h = (h.0, each_ends Q xs ys zs h.1)

pub nil_right : {A : Type 0} (xs : List A) → xs ++ [] ≡ xs
nil_right [] = refl
nil_right (x ∷ xs) = ap (λ r. x ∷ r) (nil_right xs)
