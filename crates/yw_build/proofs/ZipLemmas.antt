-- Lists that grow side by side.
use Rattle.std.proofs.Common.{◌≡◌, ℕ, ◌<◌, ◌+◌, Bool, List, [], ◌∷◌, ◌++◌, length, get_or, take, All, cond, sym, ap, ◌∙◌, subst, inl, inr, append-nil}
use Rattle.std.specs.Prelude.{filter}
use Rattle.std.specs.List.{AllZip}
use Rattle.std.proofs.lemmas.Bool.{cases_Bool}
use Rattle.std.proofs.lemmas.List.{take_more}
use Rattle.std.proofs.lemmas.List.Elements.{filter-append}
use Rattle.yw_build.specs.Rows.{AddsWhere}

pub item_of : {A : Type 0} (P : A → Type 0) (xs items : List A) (i : ℕ) (x : A) → items ≡ xs → i < length items → x ≡ get_or items i x → All P xs → P x
item_of P xs items i x same lt is h = subst P (sym (is ∙ ap (λ ys. get_or ys i x) same)) (h i x (subst (λ ys. i < length ys) same lt))

pub more_of : {A : Type 0} (xs items : List A) (i : ℕ) (x : A) → items ≡ xs → i < length items → x ≡ get_or items i x → take i xs ++ x ∷ [] ≡ take (i + 1) xs
more_of xs items i x same lt is =
    ap (λ ys. take i ys ++ x ∷ []) (sym same) ∙ sym (take_more items i x lt ∙ ap (λ y. take i items ++ y ∷ []) (sym is)) ∙ ap (take (i + 1)) same

module _ {A B : Type 0} (R : A → B → Type 0) where
  pub all_zip_push : (xs : List A) (ys : List B) (x : A) (y : B) → AllZip R xs ys → R x y → AllZip R (xs ++ x ∷ []) (ys ++ y ∷ [])
  all_zip_push [] [] x y h r = (r, tt)
  all_zip_push [] (z ∷ ys) x y h r = absurd h
  all_zip_push (z ∷ xs) [] x y h r = absurd h
  all_zip_push (w ∷ xs) (z ∷ ys) x y h r = (h.0, all_zip_push xs ys x y h.1 r)

  pub zip_along : (xs zs : List A) (ys ws : List B) → xs ≡ zs → ys ≡ ws → AllZip R xs ys → AllZip R zs ws
  zip_along xs zs ys ws e f h = subst (λ vs. AllZip R zs vs) f (subst (λ vs. AllZip R vs ys) e h)

  -- a loop over items that adds one for each
  pub zip_next : (xs items : List A) (i : ℕ) (x : A) (old new : List B) (y : B) → items ≡ xs → i < length items → x ≡ get_or items i x → AllZip R (take i xs) old → new ≡ old ++ y ∷ [] → R x y → AllZip R (take (i + 1) xs) new
  zip_next xs items i x old new y same lt is h e r =
      zip_along (take i xs ++ x ∷ []) _ (old ++ y ∷ []) _ (more_of xs items i x same lt is) (sym e) (all_zip_push (take i xs) old x y h r)

-- a loop over items that adds a number for some
pub zip_some : {A : Type 0} (R : A → ℕ → Type 0) (test : A → Bool) (xs items : List A) (i : ℕ) (x : A) (old new : List ℕ) → items ≡ xs → i < length items → x ≡ get_or items i x → AllZip R (filter test (take i xs)) old → AddsWhere (test x) (R x) old new → AllZip R (filter test (take (i + 1) xs)) new
zip_some R test xs items i x old new same lt is h adds =
    let more : filter test (take i xs) ++ filter test (x ∷ []) ≡ filter test (take (i + 1) xs) = sym (filter-append test (take i xs) (x ∷ [])) ∙ ap (filter test) (more_of xs items i x same lt is) in
    elim (cases_Bool (test x)) [
      | inl hit ↦
          let (y, r, e) = adds.hit hit in
          zip_along R (filter test (take i xs) ++ x ∷ []) _ (old ++ y ∷ []) _ (sym (ap (λ b. filter test (take i xs) ++ cond b (x ∷ []) []) hit) ∙ more) (sym e) (all_zip_push R (filter test (take i xs)) old x y h r)
      | inr miss ↦
          zip_along R (filter test (take i xs)) _ old _ (sym (ap (λ b. filter test (take i xs) ++ cond b (x ∷ []) []) miss ∙ append-nil (filter test (take i xs))) ∙ more) (sym (adds.miss miss)) h
    ]
