-- The numbers of trees, by what has them and their kinds.
use Rattle.std.specs.BTreeMap as tree
use Rattle.std.specs.Prelude.{◌≡◌, ℕ, Option, Some, if◌then◌else◌}
use Rattle.std.specs.declared.cmp.Ordering.{Ordering}
use Rattle.yw_state.specs.Judged.{kind_number}
use Rattle.yw_state.specs.declared.tree.TreeKind.{TreeKind}
use Rattle.yw_trees.specs.Placed.{same_slot}
use Rattle.yw_trees.specs.contracts.slots.KeyOrd.TheImpl as key_ord
use Rattle.yw_trees.specs.declared.owner.Owner.{Owner}
use Rattle.yw_trees.specs.declared.slots.Key.{Key}
use Rattle.yw_trees.specs.declared.slots.Slots.{Slots}

abbrev pub key_of : Owner → TreeKind → Key
key_of owner kind = record { owner = owner; kind = kind_number kind }

-- the order in which the keys stand
abbrev pub by_numbers : Key → Key → Ordering
by_numbers = (key_ord.ghosts).cmp

-- the number of the tree of this kind that it has
abbrev pub slot_at : Slots → Owner → TreeKind → Option ℕ
slot_at slots owner kind = tree.get by_numbers slots.numbers (key_of owner kind)

-- the tree has this number, and all others have the ones that they had
abbrev pub IsPut : Slots → Slots → Owner → TreeKind → ℕ → Type 0
IsPut old new owner kind number = (o : Owner) (k : TreeKind) → slot_at new o k ≡ (if same_slot owner kind o k then Some number else slot_at old o k)

-- all have the ones that they had
abbrev pub IsSame : Slots → Slots → Type 0
IsSame old new = (o : Owner) (k : TreeKind) → slot_at new o k ≡ slot_at old o k
