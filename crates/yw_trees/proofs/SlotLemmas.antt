-- A number that is put for a tree, and all others.
use Rattle.std.proofs.Common.{◌≡◌, ℕ, cond, Some, refl, sym, ap, ◌∙◌}
use Rattle.std.specs.BTreeMap as tree
use Rattle.std.specs.BTreeMap.{Updates}
use Rattle.std.specs.Cmp.{both_tied, unsigned_tied}
use Rattle.std.specs.Ordering.{is_eq, nat_cmp}
use Rattle.std.specs.Prelude.{◌==◌, ◌&&◌}
use Rattle.yw_state.specs.Judged.{kind_number}
use Rattle.yw_state.specs.declared.tree.TreeKind.{TreeKind}
use Rattle.yw_trees.specs.Placed.{same_slot}
use Rattle.yw_trees.specs.Slots.{IsPut, by_numbers, key_of}
use Rattle.yw_trees.specs.declared.owner.Owner.{Owner}
use Rattle.yw_trees.specs.declared.owner.Owner.TheVariants.{Cases, Task}
use Rattle.yw_trees.specs.declared.slots.Slots.{Slots}

numbers_tied : (a b : ℕ) → (a == b) ≡ is_eq (nat_cmp a b)
numbers_tied a b = sym (unsigned_tied a b)

-- the order tells all apart
slot_tied : (a : Owner) (j : TreeKind) (b : Owner) (k : TreeKind) → same_slot a j b k ≡ is_eq (by_numbers (key_of a j) (key_of b k))
slot_tied (Cases a) j (Cases b) k = both_tied (a == b) (kind_number j == kind_number k) _ _ (numbers_tied a b) (numbers_tied (kind_number j) (kind_number k))
slot_tied (Cases a) j (Task b n t) k = refl
slot_tied (Task a b c) j (Cases d) k = refl
slot_tied (Task a b c) j (Task d n t) k =
    both_tied (a == d && (b == n && c == t)) (kind_number j == kind_number k) _ _
    (both_tied (a == d) (b == n && c == t) _ _ (numbers_tied a d) (both_tied (b == n) (c == t) _ _ (numbers_tied b n) (numbers_tied c t)))
    (numbers_tied (kind_number j) (kind_number k))

pub put_slot : (old new : Slots) (owner : Owner) (kind : TreeKind) (number : ℕ)
    → Updates by_numbers old.numbers new.numbers (key_of owner kind) (Some number) → IsPut old new owner kind number
put_slot old new owner kind number updates o k =
    updates.0 (key_of o k)
    ∙ ap (λ b. cond b (Some number) (tree.get by_numbers old.numbers (key_of o k))) (sym (slot_tied owner kind o k))
