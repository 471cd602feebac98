-- What a state that is held has of persons, items and nets.
use Rattle.std.proofs.Common.{List, None, Option, Some, [], ap, false, refl, sym, true, ℕ, ◌∙◌, ◌≡◌}
use Rattle.std.specs.Prelude.{is_none, is_some, not, option_and_then, option_map, unwrap_or}
use Rattle.yw_breaks.specs.Persons.{HasRoles, lacks_role, roles_of}
use Rattle.yw_library.specs.Held.{IsHeld}
use Rattle.yw_library.specs.Holdings.{Holdings, state_of, with_library}
use Rattle.yw_spec.specs.declared.spec.Net.{Net}
use Rattle.yw_spec.specs.declared.task.Task.{Task}
use Rattle.yw_state.proofs.Tests.{by_test, never, nowhere, then_some}
use Rattle.yw_state.specs.Broken.{has_role}
use Rattle.yw_state.specs.Identity.{Ident}
use Rattle.yw_base.specs.Identity.{parent}
use Rattle.yw_state.specs.Map.{get, has_key}
use Rattle.yw_state.specs.State.{ItemAt, ItemPart, NetAt, NetPart, State, TaskAt, is_item, item_at, item_part, net_at, net_of, net_part, task_in}
use Rattle.yw_tree.specs.declared.Forest.{Forest}

not_some : {A : Type 0} (o : Option A) → not (is_some o) ≡ is_none o
not_some None = refl
not_some (Some x) = refl

none_of : {A : Type 0} (o : Option A) → is_some o ≡ false → o ≡ None
none_of None e = refl
none_of (Some x) e = never (sym e)

-- without an item there is none with its task
pub no_item : (s : State) (j : Ident) → is_item s j ≡ false → item_at s j ≡ None
no_item s j e =
    ap (option_and_then (λ (x : ItemPart). option_and_then (λ (n : NetAt). option_map (λ (t : TaskAt). let y : ItemAt = record { part = x; of_task = t } in y) (task_in n x.task)) (net_at s (parent j))))
    (none_of (item_part s j) e)

-- an item with its task is one
pub item_known : (s : State) (j : Ident) (y : ItemAt) → item_at s j ≡ Some y → is_item s j ≡ true
item_known s j y e = by_test (is_item s j) (λ t. t) (λ t. nowhere (sym (no_item s j t) ∙ e))

-- where a net is known one stands
pub net_stands : (s : State) (i : Ident) (n : NetAt) → net_at s i ≡ Some n → is_none (net_part s i) ≡ false
net_stands s i n e = ap is_none (then_some (λ (p : NetPart). option_map (λ (w : Net). let m : NetAt = record { part = p; net = w } in m) (net_of s p)) (net_part s i) n e).1

module _ (known : Holdings) (f : Forest) (s : State) (h : IsHeld known f s) where
  persons_are : s.persons ≡ (state_of known).persons
  unfolding with_library
  persons_are = ap (λ (z : State). z.persons) h.library

  -- whether nobody has the name
  pub stranger_is : (who : List ℕ) (o : Option (List (List ℕ))) → roles_of known who ≡ o → not (has_key s.persons who) ≡ is_none o
  stranger_is who o e = ap (λ m. not (has_key m who)) persons_are ∙ ap (λ (z : Option (List (List ℕ))). not (is_some z)) e ∙ not_some o

  -- whether who has these roles lacks the task's
  pub role_is : (who : List ℕ) (roles : List (List ℕ)) → HasRoles known who roles → (t : Task)
      → not (has_role (unwrap_or (get s.persons who) []) t.role) ≡ lacks_role roles t
  role_is who roles has t =
      ap (λ m. not (has_role (unwrap_or (get m who) []) t.role)) persons_are
      ∙ ap (λ (z : Option (List (List ℕ))). not (has_role (unwrap_or z []) t.role)) has
