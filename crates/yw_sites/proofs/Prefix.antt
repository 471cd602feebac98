-- Identities that begin with another.
use Rattle.std.proofs.Common.{Bool, List, [], ap, arith, eq-eqb, eqb, false, inl, inr, length, length-append, refl, subst, sym, true, ℕ, ⊎_elim, ◌&&◌, ◌++◌, ◌+◌, ◌<◌, ◌∙◌, ◌∷◌, ◌≡◌, ◌≤◌, ◌⊎◌}
use Rattle.std.proofs.Math.Dec.{T}
use Rattle.std.proofs.Math.Facts.{eqb_yes}
use Rattle.std.proofs.lemmas.Bool.{and_from, and_parts, cases_lt, eqb-true, false≢true}
use Rattle.std.proofs.lemmas.Slice.Eq.{bytes_eq-Decides}
use Rattle.std.specs.Prelude.{IsTrue, not, ◌==◌}
use Rattle.yw_base.specs.Identity.{under}
use Rattle.yw_sites.specs.Idents.{IsChild}
use Rattle.yw_state.proofs.Tests.{never}
use Rattle.yw_state.specs.Identity.{Ident, is_child, same, strictly_under}

pub and_true : (a b : Bool) → a && b ≡ true → (a ≡ true) × (b ≡ true)
and_true true b h = (refl, h)
and_true false b h = absurd (false≢true h)

pub eqb_true : (a b : ℕ) → eqb a b ≡ true → a ≡ b
eqb_true a b h = eqb_yes (subst T (sym h) tt)

pub eqb_self : (a : ℕ) → eqb a a ≡ true
eqb_self a = eq-eqb a a refl

pub under_refl : (i : List ℕ) → under i i ≡ true
under_refl [] = refl
under_refl (x ∷ i) = (λ k. eqb_self x k && under_refl i k)

pub under-append : (i s : List ℕ) → under (i ++ s) i ≡ true
under-append [] s = refl
under-append (x ∷ i) s = (λ k. eqb_self x k && under-append i s k)

-- what is under a longer identity is under the shorter one
pub under_shorter : (id i s : List ℕ) → under id (i ++ s) ≡ true → under id i ≡ true
under_shorter id [] s h = refl
under_shorter [] (x ∷ i) s h = h
under_shorter (y ∷ id) (x ∷ i) s h =
    let p = and_true (eqb x y) (under id (i ++ s)) h in
    (λ k. p.0 k && under_shorter id i s p.1 k)

pub not_true : (a : Bool) → (a ≡ true → ⊥) → a ≡ false
not_true true f = absurd (f refl)
not_true false f = refl

pub under_child : (id i j : List ℕ) → IsChild i j → under id i ≡ false → under id j ≡ false
under_child id i j c h = not_true (under id j) (λ t. false≢true (sym h ∙ under_shorter id i (c.0 ∷ []) (subst (λ z. under id z ≡ true) c.1 t)))

pub under_parent : (id i j : List ℕ) → IsChild i j → under id j ≡ true → under id i ≡ true
under_parent id i j c h = under_shorter id i (c.0 ∷ []) (subst (λ z. under id z ≡ true) c.1 h)

-- two prefixes of one length are the same
pub under_same : (id i j : List ℕ) → length i ≡ length j → under id i ≡ true → under id j ≡ true → i ≡ j
under_same id [] [] e p q = refl
under_same id [] (y ∷ j) e p q = absurd (omega arith)
under_same id (x ∷ i) [] e p q = absurd (omega arith)
under_same [] (x ∷ i) (y ∷ j) e p q = absurd (false≢true p)
under_same (z ∷ id) (x ∷ i) (y ∷ j) e p q =
    let a = and_true (eqb x z) (under id i) p in
    let b = and_true (eqb y z) (under id j) q in
    let same : x ≡ y = eqb_true x z a.0 ∙ sym (eqb_true y z b.0) in
    let rest : i ≡ j = under_same id i j (omega arith) a.1 b.1 in
    (λ k. same k ∷ rest k)

pub under_trans : (a b c : List ℕ) → under a b ≡ true → under b c ≡ true → under a c ≡ true
under_trans a b [] p q = refl
under_trans a [] (z ∷ c) p q = absurd (false≢true q)
under_trans [] (y ∷ b) (z ∷ c) p q = absurd (false≢true p)
under_trans (x ∷ a) (y ∷ b) (z ∷ c) p q =
    let m = and_true (eqb y x) (under a b) p in
    let n = and_true (eqb z y) (under b c) q in
    let e : eqb z x ≡ true = ap (λ k. eqb z k) (sym (eqb_true y x m.0)) ∙ n.0 in
    (λ k. e k && under_trans a b c m.1 n.1 k)

pub same_true : (i j : List ℕ) → same i j ≡ true → i ≡ j
same_true i j h = (bytes_eq-Decides i j).0 h

pub same_refl : (i : List ℕ) → same i i ≡ true
same_refl i = (bytes_eq-Decides i i).1 refl

-- what is not above an identity is not that identity
pub same_apart : (id j : List ℕ) → under id j ≡ false → same j id ≡ false
same_apart id j h = not_true (same j id) (λ t. false≢true (sym h ∙ subst (λ z. under z j ≡ true) (same_true j id t) (under_refl j)))

-- of two prefixes of one identity the shorter is a prefix of the longer
pub under_compare : (z i j : List ℕ) → length j ≤ length i → under z i ≡ true → under z j ≡ true → under i j ≡ true
under_compare z i [] e p q = refl
under_compare z [] (y ∷ j) e p q = absurd (omega arith)
under_compare [] (x ∷ i) (y ∷ j) e p q = absurd (false≢true p)
under_compare (c ∷ z) (x ∷ i) (y ∷ j) e p q =
    let a = and_true (eqb x c) (under z i) p in
    let b = and_true (eqb y c) (under z j) q in
    let same : eqb y x ≡ true = ap (λ k. eqb y k) (eqb_true x c a.0) ∙ b.0 in
    let rest : under i j ≡ true = under_compare z i j (omega arith) a.1 b.1 in
    (λ k. same k && rest k)

under_antisym : (i j : List ℕ) → under j i ≡ true → under i j ≡ true → i ≡ j
under_antisym [] [] p q = refl
under_antisym [] (y ∷ j) p q = absurd (false≢true q)
under_antisym (x ∷ i) [] p q = absurd (false≢true p)
under_antisym (x ∷ i) (y ∷ j) p q =
    let a = and_true (eqb x y) (under j i) p in
    let b = and_true (eqb y x) (under i j) q in
    (λ k. eqb_true x y a.0 k ∷ under_antisym i j a.1 b.1 k)

pub child_length : (i j : List ℕ) → IsChild i j → length j ≡ length i + 1
child_length i j c = ap length c.1 ∙ omega (arith, length-append i (c.0 ∷ []))

pub siblings_length : (i j l : List ℕ) → IsChild i j → IsChild i l → length j ≡ length l
siblings_length i j l a b = child_length i j a ∙ sym (child_length i l b)

pub either : (b : Bool) → (b ≡ true) ⊎ (b ≡ false)
either true = inl refl
either false = inr refl

-- what lies under a part that doesn't lead to id isn't under id
pub apart_keys : (id i j z : List ℕ) → IsChild i j → under i id ≡ false → under id j ≡ false → under z j ≡ true → under z id ≡ false
apart_keys id i j z c out off at = not_true (under z id) (λ t.
    ⊎_elim
    (λ (le : length j ≤ length id). false≢true (sym off ∙ under_compare z id j le t at))
    (λ (lt : length id < length j).
    let short : length id ≤ length i = omega (arith, child_length i j c) in
    false≢true (sym out ∙ under_compare z i id short (under_parent z i j c at) t))
    (⊎_elim (λ (lt : length id < length j). inr lt) (λ (le : length j ≤ length id). inl le) (cases_lt (length id) (length j))))

-- an identity that is under another and another one is strictly under it
pub not_above : (id j : List ℕ) → under id j ≡ true → same j id ≡ false → under j id ≡ false
not_above id j h ne = not_true (under j id) (λ t. false≢true (sym ne ∙ ap (λ z. same z id) (under_antisym j id h t) ∙ same_refl id))

-- two children of one identity don't both lead to id
pub other_child : (id i j l : List ℕ) → IsChild i j → IsChild i l → (j ≡ l → ⊥) → under id j ≡ true → under id l ≡ false
other_child id i j l a b ne h = not_true (under id l) (λ t. ne (under_same id j l (siblings_length i j l a b) h t))

pub under_length : (z j : List ℕ) → under z j ≡ true → length j ≤ length z
under_length z [] h = omega arith
under_length [] (y ∷ j) h = absurd (false≢true h)
under_length (c ∷ z) (y ∷ j) h = let r : length j ≤ length z = under_length z j (and_true (eqb y c) (under z j) h).1 in omega arith

-- an identity that is above i, or is i, isn't under a child of i
pub child_strict : (id i j : List ℕ) → IsChild i j → under i id ≡ true → under id j ≡ false
child_strict id i j c h = not_true (under id j) (λ t.
    let a : length j ≤ length id = under_length id j t in
    let b : length id ≤ length i = under_length i id h in
    let e = child_length i j c in
    absurd (omega arith))

pub under_short : (z j : List ℕ) → length z < length j → under z j ≡ false
under_short z j h = not_true (under z j) (λ t. let e : length j ≤ length z = under_length z j t in absurd (omega arith))

pub child_under : (i j : Ident) → IsChild i j → under j i ≡ true
child_under i j c = subst (λ z. under z i ≡ true) (sym c.1) (under-append i (c.0 ∷ []))

-- a child of i lies strictly under it
pub child_strictly : (q i : Ident) → is_child q i ≡ true → IsTrue (strictly_under q i)
child_strictly q i c =
    let p = and_parts (under q i) (length q == length i + 1) c in
    and_from (under q i) (not (same q i)) p.0 (not_same (same q i) refl (eqb-true (length q) (length i + 1) p.1))
  where
    not_same : (b : Bool) → same q i ≡ b → length q ≡ length i + 1 → not b ≡ true
    not_same true e l = let s : length q ≡ length i = ap length (same_true q i e) in absurd (omega arith)
    not_same false e l = refl

pub child_of : (q i : Ident) → is_child q i ≡ true → IsChild i q
child_of q i c = let p = and_parts (under q i) (length q == length i + 1) c in split q i p.0 (eqb-true (length q) (length i + 1) p.1)
  where
    split : (q i : Ident) → under q i ≡ true → length q ≡ length i + 1 → IsChild i q
    split [] [] u l = absurd (omega arith)
    split (x ∷ []) [] u l = (x, refl)
    split (x ∷ y ∷ q) [] u l = absurd (omega arith)
    split [] (m ∷ i) u l = never u
    split (x ∷ q) (m ∷ i) u l =
        let p = and_parts (m == x) (under q i) u in
        let r = split q i p.1 (omega arith) in
        (r.0, λ j. sym (eqb-true m x p.0) j ∷ r.1 j)

pub is_child_of : (q i : Ident) → IsChild i q → is_child q i ≡ true
is_child_of q i c = and_from (under q i) (length q == length i + 1) (child_under i q c) (eq-eqb (length q) (length i + 1) (child_length i q c))
