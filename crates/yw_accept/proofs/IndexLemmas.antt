-- What is found by an index.
use Rattle.std.proofs.Common.{◌≡◌, ℕ, zero, suc, ◌||◌, Bool, true, false, List, [], ◌∷◌, ◌++◌, length, Option, Some, None, cond, refl, sym, ap, ◌∙◌, inl, inr, true≢false}
use Rattle.std.specs.Prelude.{slice_get, IsSome, is_some}
use Rattle.std.specs.BTreeMap.{get_by_text}
use Rattle.std.specs.Str.{bytes_eq}
use Rattle.std.proofs.lemmas.Bool.{cases_Bool, false_from_ne_true}
use Rattle.std.proofs.lemmas.List.Folds.{list_any-append}
use Rattle.std.proofs.lemmas.Slice.Eq.{bytes_eq-Decides}
use Rattle.yw_accept.specs.Nodes.{is_name_among}
use Rattle.yw_accept.specs.declared.index.Index.{Index}
use Rattle.yw_accept.specs.Index.{IsIndexOf}
use Rattle.yw_accept.proofs.Among.{among_get}

module _ {A : Type 0} where
  pub slice_get-left : (xs ys : List A) (k : ℕ) (x : A) → slice_get xs k ≡ Some x → slice_get (xs ++ ys) k ≡ Some x
  slice_get-left [] ys k x h = cc
  slice_get-left (y ∷ xs) ys zero x h = h
  slice_get-left (y ∷ xs) ys (suc k) x h = slice_get-left xs ys k x h

  pub slice_get-seam : (xs ys : List A) (x : A) → slice_get (xs ++ x ∷ ys) (length xs) ≡ Some x
  slice_get-seam [] ys x = refl
  slice_get-seam (y ∷ xs) ys x = slice_get-seam xs ys x

-- one text more
missed_more : (texts : List (List ℕ)) (text key : List ℕ) → is_name_among texts text ≡ false → bytes_eq text key ≡ false → is_name_among (texts ++ key ∷ []) text ≡ false
missed_more texts text key h e = list_any-append (bytes_eq text) texts (key ∷ []) ∙ ap (λ b. b || is_name_among (key ∷ []) text) h ∙ ap (λ b. b || false) e

pub not_same : (key text : List ℕ) → bytes_eq key text ≡ false → bytes_eq text key ≡ false
not_same key text h = false_from_ne_true _ (λ t. let e : text ≡ key = (bytes_eq-Decides text key).0 t in true≢false (sym ((bytes_eq-Decides key text).1 (sym e)) ∙ h))

module _ (texts : List (List ℕ)) (key : List ℕ) (n : ℕ) (old new : Index) (h : IsIndexOf texts old) (e : n ≡ length texts)
    (updates : (text : List ℕ) → get_by_text new.numbers text ≡ cond (bytes_eq key text) (Some n) (get_by_text old.numbers text)) where
  by_case : (text : List ℕ) (b : Bool) → bytes_eq key text ≡ b → get_by_text new.numbers text ≡ cond b (Some n) (get_by_text old.numbers text)
  by_case text b t = updates text ∙ ap (λ c. cond c (Some n) (get_by_text old.numbers text)) t

  found_more : (text : List ℕ) (k : ℕ) → get_by_text new.numbers text ≡ Some k → slice_get (texts ++ key ∷ []) k ≡ Some text
  found_more text k g = elim (cases_Bool (bytes_eq key text)) [
    | inl t ↦
        let is : Some n ≡ Some k = sym (by_case text true t) ∙ g in
        let at : length texts ≡ k = cc in
        let same : key ≡ text = (bytes_eq-Decides key text).0 t in
        ap (λ j. slice_get (texts ++ key ∷ []) j) (sym at) ∙ slice_get-seam texts [] key ∙ ap Some same
    | inr f ↦ slice_get-left texts (key ∷ []) k text (h.found text k (sym (by_case text false f) ∙ g))
  ]

  missed_still : (text : List ℕ) → get_by_text new.numbers text ≡ None → is_name_among (texts ++ key ∷ []) text ≡ false
  missed_still text g = elim (cases_Bool (bytes_eq key text)) [
    | inl t ↦ let is : Some n ≡ None = sym (by_case text true t) ∙ g in cc
    | inr f ↦ missed_more texts text key (h.missed text (sym (by_case text false f) ∙ g)) (not_same key text f)
  ]

  pub index_more : IsIndexOf (texts ++ key ∷ []) new
  index_more = record { found = found_more; missed = missed_still }

-- ---- what an index finds

pub index_has : (texts : List (List ℕ)) (index : Index) (text : List ℕ) (r : Option ℕ) → r ≡ get_by_text index.numbers text → IsIndexOf texts index → is_some r ≡ is_name_among texts text
index_has texts index text None e h = sym (h.missed text (sym e))
index_has texts index text (Some k) e h = sym (among_get texts text k (h.found text k (sym e)))

pub index_finds : (texts : List (List ℕ)) (index : Index) (text : List ℕ) (r : Option ℕ) → r ≡ get_by_text index.numbers text → IsIndexOf texts index → is_name_among texts text ≡ true → IsSome r
index_finds texts index text None e h g = absurd (true≢false (sym g ∙ h.missed text (sym e)))
index_finds texts index text (Some k) e h g = refl
