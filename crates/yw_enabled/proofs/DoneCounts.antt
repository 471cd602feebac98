-- How many items of a task count: by the boxes, and by the definitions.
use Rattle.std.proofs.Common.{Bool, List, [], ap, length, map, refl, subst, suc, sym, zero, ℕ, ◌∙◌, ◌∷◌, ◌≡◌}
use Rattle.std.specs.Prelude.{Vec, Some, filter, slice_get}
use Rattle.std.specs.declared.alloc.Global.{Global}
use Rattle.yw_enabled.proofs.Counted.{count_same}
use Rattle.yw_enabled.proofs.FreeItems.{all_done_there}
use Rattle.yw_enabled.specs.Free.{StandsFree}
use Rattle.yw_enabled.specs.Left.{TellsNet, TellsRight, done_count, is_done}
use Rattle.yw_spec.specs.declared.spec.Net.{Net}
use Rattle.yw_state.specs.Identity.{Ident}
use Rattle.yw_state.specs.State.{ItemPart, State, items_of}
use Rattle.yw_state.specs.Words.{done}
use Rattle.yw_task.proofs.EnterAsk.{its_items}
use Rattle.yw_tree.specs.Entries.{item_part_of}
use Rattle.yw_tree.specs.Shows.{items_in, row_or_none}
use Rattle.yw_tree.specs.declared.Forest.{Forest}
use Rattle.yw_tree.specs.declared.NetState.{NetState, out-NetState}
use Rattle.yw_tree.specs.declared.Node.{Node, out-Node}

-- ---- by the boxes

abbrev pub list_count : Vec Node Global → ℕ
list_count v = done_count v.items

each_right : (lists : List (Vec Node Global)) (t : ℕ) → TellsRight (slice_get (map list_count lists) t) (row_or_none (slice_get lists t))
each_right [] t = tt
each_right (v ∷ vs) zero = refl
each_right (v ∷ vs) (suc t) = each_right vs t

-- so many of each list tell it right
pub counts_tell : (state : NetState) (counts : List ℕ) → counts ≡ map list_count (out-NetState state).items.items → TellsNet state (Some counts)
counts_tell state counts same = λ t. subst (λ ds. TellsRight (slice_get ds t) (items_in state t)) (sym same) (each_right (out-NetState state).items.items t)

-- ---- by the definitions

module _ (names : ℕ → List ℕ) (f : Forest) (s : State) (i : Ident) (net : Net) (state : NetState) (h : StandsFree names f s i net state) where
  abbrev counts : Ident × ItemPart → Bool
  counts e = done s e.0 e.1

  abbrev with_id : Node → Ident × ItemPart
  with_id n = ((out-Node n).id, item_part_of n)

  -- as many items of task t count
  pub done_there : (t : ℕ) → length (filter (λ (e : Ident × ItemPart). done s e.0 e.1) (items_of s i t)) ≡ done_count (items_in state t)
  done_there t =
      ap (λ es. length (filter counts es)) (its_items names f s i net state h.stands t)
      ∙ count_same counts is_done with_id (items_in state t) (all_done_there names f s i net state h t)
