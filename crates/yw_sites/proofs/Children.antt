-- Identities that are one number longer than another, no two the same.
use Rattle.std.proofs.Common.{List, [], false, sym, true, ◌++◌, ◌∙◌, ◌∷◌, ◌≡◌}
use Rattle.yw_base.specs.Identity.{under}
use Rattle.yw_sites.proofs.Each.{Each-back, Each-front, each_ends, each_mid}
use Rattle.yw_sites.proofs.Prefix.{child_strict, not_true, other_child}
use Rattle.yw_sites.specs.Idents.{AreChildren, Distinct, Each, IsChild}
use Rattle.yw_state.proofs.Tests.{never}
use Rattle.yw_state.specs.Identity.{Ident}

distinct_front : (js ks : List Ident) → Distinct (js ++ ks) → Distinct js
distinct_front [] ks d = tt
distinct_front (j ∷ js) ks d = (Each-front (λ k. j ≡ k → ⊥) js ks d.0, distinct_front js ks d.1)

pub children_front : (i : Ident) (js ks : List Ident) → AreChildren i (js ++ ks) → AreChildren i js
children_front i js ks c = (Each-front (IsChild i) js ks c.0, distinct_front js ks c.1)

module _ (id i : Ident) where
  after_off : (j : Ident) → IsChild i j → under id j ≡ true → (ks : List Ident) → Each (IsChild i) ks → Each (λ k. j ≡ k → ⊥) ks → Each (λ k. under id k ≡ false) ks
  after_off j c l [] d n = tt
  after_off j c l (k ∷ ks) d n = (other_child id i j k c d.0 n.0 l, after_off j c l ks d.1 n.1)

  pub others_off : (js : List Ident) (j : Ident) (ks : List Ident) → AreChildren i (js ++ (j ∷ ks)) → under id j ≡ true → Each (λ k. under id k ≡ false) js × Each (λ k. under id k ≡ false) ks
  others_off [] j ks c l = (tt, after_off j c.0.0 l ks c.0.1 c.1.0)
  others_off (x ∷ js) j ks c l =
      let r = others_off js j ks (c.0.1, c.1.1) l in
      let cj = each_mid (IsChild i) js j ks c.0.1 in
      let ne = each_mid (λ k. x ≡ k → ⊥) js j ks c.1.0 in
      ((other_child id i j x cj c.0.0 (λ e. ne (sym e)) l, r.0), r.1)

-- an identity to which a child of i leads is strictly under i
pub strictly : (id i j : Ident) → IsChild i j → under id j ≡ true → under i id ≡ false
strictly id i j c l = not_true (under i id) (λ t. never (sym (child_strict id i j c t) ∙ l))

pub distinct_back : (js ks : List Ident) → Distinct (js ++ ks) → Distinct ks
distinct_back [] ks d = d
distinct_back (j ∷ js) ks d = distinct_back js ks d.1

distinct_ends : (xs ys zs : List Ident) → Distinct (xs ++ (ys ++ zs)) → Distinct (xs ++ zs)
distinct_ends [] ys zs d = distinct_back ys zs d
distinct_ends (x ∷ xs) ys zs d = (each_ends (λ k. x ≡ k → ⊥) xs ys zs d.0, distinct_ends xs ys zs d.1)

pub children_ends : (i : Ident) (xs ys zs : List Ident) → AreChildren i (xs ++ (ys ++ zs)) → AreChildren i (xs ++ zs)
children_ends i xs ys zs c = (each_ends (IsChild i) xs ys zs c.0, distinct_ends xs ys zs c.1)

-- none of the ends is one of the middle
turned : (x : Ident) (ys : List Ident) → Each (λ k. x ≡ k → ⊥) ys → Each (λ y. y ≡ x → ⊥) ys
turned x [] h = tt
turned x (y ∷ ys) h = ((λ e. h.0 (sym e)), turned x ys h.1)

each_more : (x : Ident) (ys zs : List Ident) → Each (λ y. y ≡ x → ⊥) ys → Each (λ y. Each (λ k. y ≡ k → ⊥) zs) ys → Each (λ y. Each (λ k. y ≡ k → ⊥) (x ∷ zs)) ys
each_more x [] zs h r = tt
each_more x (y ∷ ys) zs h r = ((h.0, r.0), each_more x ys zs h.1 r.1)

pub ends_differ : (xs ys zs : List Ident) → Distinct (xs ++ (ys ++ zs)) → Each (λ y. Each (λ k. y ≡ k → ⊥) (xs ++ zs)) ys
ends_differ [] [] zs d = tt
ends_differ [] (y ∷ ys) zs d = (Each-back (λ k. y ≡ k → ⊥) ys zs d.0, ends_differ [] ys zs d.1)
ends_differ (x ∷ xs) ys zs d = each_more x ys (xs ++ zs) (turned x ys (Each-front (λ k. x ≡ k → ⊥) ys zs (Each-back (λ k. x ≡ k → ⊥) xs (ys ++ zs) d.0))) (ends_differ xs ys zs d.1)
