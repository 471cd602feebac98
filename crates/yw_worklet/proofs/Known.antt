-- What a state says of an item, by the forest.
use Rattle.std.proofs.Common.{List, Option, Some, ap, sym, true, ℕ, ◌∙◌, ◌≡◌}
use Rattle.std.specs.Prelude.{option_and_then, option_map}
use Rattle.yw_base.specs.Identity.{is_identity, parent}
use Rattle.yw_nest.proofs.Known.{site_known}
use Rattle.yw_spec.specs.declared.task.Task.{Task}
use Rattle.yw_state.proofs.Tests.{map_some, some_same, then_some}
use Rattle.yw_state.specs.ByName.{given_named, param_value}
use Rattle.yw_state.specs.Identity.{Ident}
use Rattle.yw_state.specs.State.{ItemAt, ItemPart, NetAt, Site, State, TaskAt, item_at, item_part, net_at, task_in}
use Rattle.yw_tree.specs.Entries.{item_part_of}
use Rattle.yw_tree.specs.Forest.{IsForest, item_of, sites_of}
use Rattle.yw_tree.specs.declared.Forest.{Forest}
use Rattle.yw_tree.specs.declared.Node.{Node, out-Node}
use Rattle.yw_worklet.specs.Chosen.{IsItemOf}

abbrev item_with : ItemPart → TaskAt → ItemAt
item_with y t = record { part = y; of_task = t }

abbrev in_net : ItemPart → NetAt → Option ItemAt
in_net y n = option_map (item_with y) (task_in n y.task)

-- an item with its task has the part that stands there
pub its_part : (s : State) (j : Ident) (x : ItemAt) → item_at s j ≡ Some x → item_part s j ≡ Some x.part
its_part s j x e =
    let y = then_some (λ (y : ItemPart). option_and_then (in_net y) (net_at s (parent j))) (item_part s j) x e in
    let n = then_some (in_net y.0) (net_at s (parent j)) x y.2 in
    let t = map_some (item_with y.0) (task_in n.0 y.0.task) x n.2 in
    y.1 ∙ ap (λ (z : ItemAt). Some z.part) t.2

-- an item of this task
pub its_item : (s : State) (j : Ident) (task : Task) → IsItemOf s j task → (x : ItemAt) × (item_at s j ≡ Some x) × (x.of_task.task ≡ task)
its_item s j task of = map_some (λ (x : ItemAt). x.of_task.task) (item_at s j) task of

module _ (names : ℕ → List ℕ) (f : Forest) (boxed : IsForest f) (s : State) (is : s.sites ≡ sites_of names f) where
  module _ (j : Ident) (identity : is_identity j ≡ true) (n : Node) (found : item_of f j ≡ Some n) (x : ItemAt) (at : item_at s j ≡ Some x) where
    pub part_is : x.part ≡ item_part_of n
    part_is =
        some_same x.part (item_part_of n)
        (sym (its_part s j x at) ∙ ap (option_and_then (λ (y : Site). y.item)) (site_known names f boxed s is j identity n found))

    -- what it was given
    pub given_is : (task : Task) → x.of_task.task ≡ task → given_named x ≡ param_value task.ins (out-Node n).given
    given_is task of = λ i. param_value (of i).ins (part_is i).given
