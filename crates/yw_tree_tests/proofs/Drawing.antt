-- What comes to a forest under the number that is drawn next leaves all numbers below the one behind it.
use Rattle.std.proofs.Common.{inl, inr, Bool, List, Option, Some, [], ap, arith, refl, subst, sym, true, ℕ, ◌+◌, ◌<◌, ◌∙◌, ◌∷◌, ◌≡◌, ◌&&◌}
use Rattle.std.proofs.lemmas.Bool.{and_parts, lt-ltb, ltb-true}
use Rattle.std.specs.List.{list_all}
use Rattle.std.specs.Prelude.{is_some, nat_lt}
use Rattle.yw_state.proofs.MapLemmas.{by_name, insert_stands, update_stands}
use Rattle.yw_state.proofs.Tests.{there}
use Rattle.yw_state.specs.Identity.{Ident}
use Rattle.yw_base.specs.Identity.{child}
use Rattle.yw_state.specs.Map.{get, insert}
use Rattle.yw_state.specs.State.{Site}
use Rattle.yw_tree.specs.Becomes.{Gets, GetsNet}
use Rattle.yw_tree.specs.Coming.{AreDrawn}
use Rattle.yw_tree.specs.Forest.{sites_of}
use Rattle.yw_tree.specs.declared.Forest.{Forest}
use Rattle.yw_tree.specs.declared.NetState.{NetState}

abbrev below : ℕ → Ident → Bool
below n j = list_all (λ k. nat_lt k n) j

both : (a b : Bool) → a ≡ true → b ≡ true → (a && b) ≡ true
both true b p q = q
both a b p q = subst (λ z. (z && b) ≡ true) (sym p) q

pub below_more : (n : ℕ) (j : Ident) → below n j ≡ true → below (n + 1) j ≡ true
below_more n [] h = refl
below_more n (x ∷ j) h =
    let p = and_parts (nat_lt x n) (below n j) h in
    let lt : x < n = ltb-true x n p.0 in
    both (nat_lt x (n + 1)) (below (n + 1) j) (lt-ltb x (n + 1) (omega arith)) (below_more n j p.1)

pub below_child : (n : ℕ) (i : Ident) → below n i ≡ true → below (n + 1) (child i n) ≡ true
below_child n [] h = both (nat_lt n (n + 1)) true (lt-ltb n (n + 1) (omega arith)) refl
below_child n (x ∷ i) h =
    let p = and_parts (nat_lt x n) (below n i) h in
    let lt : x < n = ltb-true x n p.0 in
    both (nat_lt x (n + 1)) (below (n + 1) (child i n)) (lt-ltb x (n + 1) (omega arith)) (below_child n i p.1)

some_stands : {A : Type 0} (o : Option A) (x : A) → o ≡ Some x → is_some o ≡ true
some_stands o x e = ap is_some e

-- one value more stands, at an identity of numbers below n + 1
pub drawn_gets : (old new : Forest) (n : ℕ) (k : Ident) (site : (ℕ → List ℕ) → Site) → AreDrawn old n → below (n + 1) k ≡ true → Gets old new k site → AreDrawn new (n + 1)
drawn_gets old new n k site drawn at gets names j h =
    let t = there (get (sites_of names new) j) h in
    let e : get (insert (sites_of names old) k (site names)) j ≡ Some t.0 = ap (λ m. get m j) (sym (gets names)) ∙ t.1 in
    elim (insert_stands by_name (sites_of names old) k (site names) j t.0 e) [
      | inl s ↦ subst (λ z. below (n + 1) z ≡ true) (sym s.0) at
      | inr s ↦ below_more n j (drawn names j (some_stands (get (sites_of names old) j) t.0 s))
    ]

-- a net stands where something stood
pub drawn_gets_net : (old new : Forest) (n : ℕ) (i : Ident) (net : NetState) → AreDrawn old n → GetsNet old new i net → AreDrawn new (n + 1)
drawn_gets_net old new n i net drawn gets names j h =
    let t = there (get (sites_of names new) j) h in
    let s = update_stands by_name (sites_of names old) i _ j t.0 (ap (λ m. get m j) (sym (gets names)) ∙ t.1) in
    below_more n j (drawn names j (some_stands (get (sites_of names old) j) s.0 s.1))
