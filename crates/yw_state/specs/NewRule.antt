-- What a new rule of a tree must keep to: the names of which its condition may speak, and what it may conclude. After the thesis; the
-- primitives and where they may stand are our own.
use Rattle.std.specs.Prelude.{ℕ, ◌==◌, ◌&&◌, ◌||◌, Bool, true, false, not, List, [], ◌∷◌, ◌++◌, map, length, Option, Some, is_none, option_map, option_and_then, unwrap_or, nat_le, nat_lt}
use Rattle.std.specs.Bool.{beq}
use Rattle.std.specs.List.{list_all, list_any}
use Rattle.yw_expr.specs.Scope.{binding}
use Rattle.yw_expr.specs.declared.scope.Binding.{Binding}
use Rattle.yw_spec.specs.declared.spec.Net.{Net}
use Rattle.yw_spec.specs.declared.spec.Spec.{Spec}
use Rattle.yw_spec.specs.declared.spec.Var.{Var}
use Rattle.yw_spec.specs.declared.task.Param.{Param}
use Rattle.yw_spec.specs.declared.task.Task.{Task}
use Rattle.yw_state.specs.Judged.{is_select, rules_at}
use Rattle.yw_state.specs.Map.{has_key}
use Rattle.yw_state.specs.Nets.{net_called, task_called, top_net}
use Rattle.yw_state.specs.RuleTree.{TreeRule}
use Rattle.yw_state.specs.State.{State}
use Rattle.yw_state.specs.declared.tree.Conclusion.{Conclusion}
use Rattle.yw_state.specs.declared.tree.Conclusion.TheVariants.{Worklet, Exlet}
use Rattle.yw_state.specs.declared.tree.Primitive.{Primitive}
use Rattle.yw_state.specs.declared.tree.Primitive.TheVariants as primitives
use Rattle.yw_state.specs.declared.tree.TreePlace.{TreePlace}

-- ---- of what conditions speak

abbrev vars_of : Net → List Binding
vars_of n = map (λ (x : Var). binding x.name x.sort) n.vars

abbrev params_of : Task → List Binding
params_of t = map (λ (p : Param). binding p.name p.sort) (t.ins ++ t.outs)

abbrev scope_in : Spec → Option (List ℕ) → Option (List ℕ) → Option (List Binding)
scope_in spec (Some net) (Some task) = option_map params_of (option_and_then (λ n. task_called n task) (net_called spec net))
scope_in spec net task = option_map vars_of (top_net spec)

-- the variables of the top net, or what the task's items are given and make
abbrev pub tree_scope : Spec → TreePlace → List Binding
tree_scope spec p = unwrap_or (scope_in spec p.net p.task) []

-- ---- sides

-- the tree of so many rules has this node, and it this side; nothing stands where node 0 is false
abbrev pub is_side : ℕ → ℕ → Bool → Bool
is_side count at side = nat_le at count && (side || nat_lt 0 at)

abbrev pub is_taken : List TreeRule → ℕ → Bool → Bool
is_taken rs at side = list_any (λ (r : TreeRule). r.at == at && beq r.side side) rs

-- ---- conclusions

abbrev pub most_primitives : ℕ
most_primitives = 16

abbrev pub is_of_item : Primitive → Bool
is_of_item primitives.SuspendItem = true
is_of_item primitives.ContinueItem = true
is_of_item primitives.RestartItem = true
is_of_item primitives.CompleteItem = true
is_of_item primitives.RemoveItem = true
is_of_item p = false

abbrev pub is_removal : Primitive → Bool
is_removal primitives.RemoveItem = true
is_removal primitives.RemoveCase = true
is_removal p = false

abbrev pub is_known : State → Primitive → Bool
is_known s (primitives.Compensate name) = has_key s.specs name
is_known s (primitives.Unknown text) = false
is_known s p = true

abbrev pub removes_last : List Primitive → Bool
removes_last [] = true
removes_last (p ∷ ps) = (length ps == 0 || not (is_removal p)) && removes_last ps

-- each is known and none is of an item where the tree is a case's; a removal is the last
abbrev pub are_fit : State → Bool → List Primitive → Bool
are_fit s of_case ps = list_all (λ p. is_known s p && not (of_case && is_of_item p)) ps && removes_last ps

-- a loaded worklet where the tree chooses worklets; else 1 to 16 primitives that are fit
abbrev pub may_conclude : State → TreePlace → Conclusion → Bool
may_conclude s p (Worklet name) = is_select p.kind && has_key s.specs name
may_conclude s p (Exlet ps) =
    not (is_select p.kind) && nat_lt 0 (length ps) && nat_le (length ps) most_primitives && are_fit s (is_none p.net) ps

abbrev pub most_rules : ℕ
most_rules = 65535

-- the tree may have one rule more
abbrev pub has_room : State → TreePlace → Bool
has_room s p = nat_lt (length (rules_at s p)) most_rules
