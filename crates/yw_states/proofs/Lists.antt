-- Lists that are the same where what comes of them is.
use Rattle.std.proofs.Common.{◌≡◌, suc, List, [], ◌∷◌, length, Option, Some, inl, inr, refl, subst, sym, ap, ◌∙◌, arith}
use Rattle.std.specs.List.{All, cons_option, filter_map}
use Rattle.std.specs.Prelude.{map}
use Rattle.yw_state.proofs.Entries.{IsIn}

pub first_same : {X : Type 0} (x y : X) (xs ys : List X) → x ∷ xs ≡ y ∷ ys → x ≡ y
first_same x y xs ys e = cc

pub rest_same : {X : Type 0} (x y : X) (xs ys : List X) → x ∷ xs ≡ y ∷ ys → xs ≡ ys
rest_same x y xs ys e = cc

pub both_same : {X : Type 0} (x y : X) (xs ys : List X) → x ≡ y → xs ≡ ys → x ∷ xs ≡ y ∷ ys
both_same x y xs ys e d = cc

pub pair_same : {X Y : Type 0} (p q : X × Y) → p.0 ≡ q.0 → p.1 ≡ q.1 → p ≡ q
pair_same {X = X} {Y = Y} p q e d = ap (λ (a : X). (a, p.1)) e ∙ ap (λ (b : Y). (q.0, b)) d

-- each of the list is so
abbrev pub Each : {X : Type 0} → (X → Type 0) → List X → Type 0
Each {X = X} P xs = (x : X) → IsIn xs x → P x

-- ---- lists from which something is made

mapped_back : {X Y : Type 0} (f : X → Y) (g : Y → X) → ((x : X) → g (f x) ≡ x) → (xs : List X) → map g (map f xs) ≡ xs
mapped_back f g back [] = refl
mapped_back f g back (x ∷ xs) = both_same (g (f x)) x (map g (map f xs)) xs (back x) (mapped_back f g back xs)

pub unmapped : {X Y : Type 0} (f : X → Y) (g : Y → X) → ((x : X) → g (f x) ≡ x) → (xs ys : List X) → map f xs ≡ map f ys → xs ≡ ys
unmapped f g back xs ys e = sym (mapped_back f g back xs) ∙ ap (map g) e ∙ mapped_back f g back ys

module _ {X Y : Type 0} (P Q : X → Type 0) where
  pub same_each : (f g : X → Y) → ((x y : X) → P x → Q y → f x ≡ g y → x ≡ y) → (xs ys : List X) → Each P xs → Each Q ys → map f xs ≡ map g ys
      → xs ≡ ys
  same_each f g one [] [] ps qs e = refl
  same_each f g one [] (y ∷ ys) ps qs e = absurd (omega (arith, ap length e))
  same_each f g one (x ∷ xs) [] ps qs e = absurd (omega (arith, ap length e))
  same_each f g one (x ∷ xs) (y ∷ ys) ps qs e =
      both_same x y xs ys
      (one x y (ps x (inl refl)) (qs y (inl refl)) (first_same (f x) (g y) (map f xs) (map g ys) e))
      (same_each f g one xs ys (λ z within. ps z (inr within)) (λ z within. qs z (inr within)) (rest_same (f x) (g y) (map f xs) (map g ys) e))

  -- the same where something comes of each
  pub same_picked : (f g : X → Option Y) → ((x : X) → P x → (z : Y) × (f x ≡ Some z)) → ((y : X) → Q y → (z : Y) × (g y ≡ Some z))
      → ((x y : X) → P x → Q y → f x ≡ g y → x ≡ y) → (xs ys : List X) → Each P xs → Each Q ys → filter_map f xs ≡ filter_map g ys → xs ≡ ys
  same_picked f g left right one [] [] ps qs e = refl
  same_picked f g left right one [] (y ∷ ys) ps qs e =
      let z = right y (qs y (inl refl)) in
      absurd (omega (arith, ap length (e ∙ ap (λ (o : Option Y). cons_option o (filter_map g ys)) z.1)))
  same_picked f g left right one (x ∷ xs) [] ps qs e =
      let z = left x (ps x (inl refl)) in
      absurd (omega (arith, ap length (sym e ∙ ap (λ (o : Option Y). cons_option o (filter_map f xs)) z.1)))
  same_picked f g left right one (x ∷ xs) (y ∷ ys) ps qs e =
      let p = ps x (inl refl) in
      let q = qs y (inl refl) in
      let z = left x p in
      let w = right y q in
      let both : z.0 ∷ filter_map f xs ≡ w.0 ∷ filter_map g ys
      = sym (ap (λ (o : Option Y). cons_option o (filter_map f xs)) z.1) ∙ e ∙ ap (λ (o : Option Y). cons_option o (filter_map g ys)) w.1 in
      both_same x y xs ys
      (one x y p q (z.1 ∙ ap (λ (v : Y). Some v) (first_same z.0 w.0 (filter_map f xs) (filter_map g ys) both) ∙ sym w.1))
      (same_picked f g left right one xs ys (λ v within. ps v (inr within)) (λ v within. qs v (inr within))
      (rest_same z.0 w.0 (filter_map f xs) (filter_map g ys) both))

-- ---- what all of a list are

pub each_of_all : {X : Type 0} (P : X → Type 0) (xs : List X) → All P xs → Each P xs
each_of_all P [] all x within = absurd within
each_of_all P (y ∷ ys) all x (inl same) = subst P same (all 0 y (omega arith))
each_of_all P (y ∷ ys) all x (inr within) = each_of_all P ys (λ k d small. all (suc k) d (omega (arith, small))) x within
