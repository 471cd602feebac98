-- Lists that grow, and what is made of them.
use Rattle.std.proofs.Common.{◌≡◌, ◌∙◌, ◌++◌, ◌∷◌, [], List, map, ap, append_assoc, sym}
use Rattle.std.proofs.lemmas.List.{map-append}
use Rattle.yw_sites.proofs.Each.{nil_right}

module _ {X Y : Type 0} (f : X → Y) where
  pub one_more : (old new : List X) (x : X) (ys : List Y) → new ≡ old ++ x ∷ [] → f x ∷ [] ≡ ys → map f new ≡ map f old ++ ys
  one_more old new x ys added same = ap (map f) added ∙ map-append f old (x ∷ []) ∙ ap (λ z. map f old ++ z) same

  pub none_more : (old : List X) (ys : List Y) → ys ≡ [] → map f old ≡ map f old ++ ys
  none_more old ys none = sym (ap (λ z. map f old ++ z) none ∙ nil_right (map f old))

-- one part after another
pub both_more : {E Y : Type 0} (made : List E → List Y) (es fs : List E) (a b c : List Y) → made (es ++ fs) ≡ made es ++ made fs
    → b ≡ a ++ made es → c ≡ b ++ made fs → c ≡ a ++ made (es ++ fs)
both_more made es fs a b c split first then =
    then ∙ ap (λ z. z ++ made fs) first ∙ append_assoc a (made es) (made fs) ∙ ap (λ z. a ++ z) (sym split)
