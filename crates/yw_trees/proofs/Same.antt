-- Whether two trees are of one owner and one kind.
use Rattle.std.proofs.Common.{◌≡◌, true, [], ◌∷◌, refl, ap}
use Rattle.std.proofs.lemmas.Bool.{and_from, and_parts, eq-eqb, eqb-true}
use Rattle.std.specs.Prelude.{◌==◌, ◌&&◌}
use Rattle.yw_state.proofs.Tests.{never}
use Rattle.yw_state.proofs.TreePlaces.{one_place}
use Rattle.yw_state.specs.Judged.{case_place, kind_number}
use Rattle.yw_state.specs.declared.tree.TreeKind.{TreeKind}
use Rattle.yw_state.specs.declared.tree.TreePlace.{TreePlace}
use Rattle.yw_trees.specs.Placed.{same_owner, same_slot}
use Rattle.yw_trees.specs.declared.owner.Owner.{Owner}
use Rattle.yw_trees.specs.declared.owner.Owner.TheVariants.{Cases, Task}

owner_from : (a b : Owner) → same_owner a b ≡ true → a ≡ b
owner_from (Cases a) (Cases b) e = ap Cases (eqb-true a b e)
owner_from (Cases a) (Task k n t) e = never e
owner_from (Task a b c) (Cases k) e = never e
owner_from (Task a b c) (Task k n t) e =
    let first = and_parts (a == k) (b == n && c == t) e in
    let rest = and_parts (b == n) (c == t) first.1 in
    let x : a ≡ k = eqb-true a k first.0 in
    let y : b ≡ n = eqb-true b n rest.0 in
    let z : c ≡ t = eqb-true c t rest.1 in
    λ i. Task (x i) (y i) (z i)

owner_self : (a : Owner) → same_owner a a ≡ true
owner_self (Cases a) = eq-eqb a a refl
owner_self (Task a b c) = and_from (a == a) (b == b && c == c) (eq-eqb a a refl) (and_from (b == b) (c == c) (eq-eqb b b refl) (eq-eqb c c refl))

kind_from : (j k : TreeKind) → (kind_number j == kind_number k) ≡ true → j ≡ k
kind_from j k e =
    ap (λ (p : TreePlace). p.kind)
    (one_place (case_place [] j) (case_place [] k) (ap (λ n. [] ∷ [] ∷ [] ∷ (n ∷ []) ∷ []) (eqb-true (kind_number j) (kind_number k) e)))

pub slot_from : (a : Owner) (j : TreeKind) (b : Owner) (k : TreeKind) → same_slot a j b k ≡ true → (a ≡ b) × (j ≡ k)
slot_from a j b k e =
    let parts = and_parts (same_owner a b) (kind_number j == kind_number k) e in
    (owner_from a b parts.0, kind_from j k parts.1)

pub slot_self : (a : Owner) (j : TreeKind) → same_slot a j a j ≡ true
slot_self a j = and_from (same_owner a a) (kind_number j == kind_number j) (owner_self a) (eq-eqb (kind_number j) (kind_number j) refl)
