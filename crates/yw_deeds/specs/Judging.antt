-- What a tree that is handed over concludes at a case or an item.
use Rattle.std.specs.Option.{option_map_or}
use Rattle.std.specs.Prelude.{◌≡◌, ◌-◌, Bool, List, [], Option, Some, if◌then◌else◌, option_and_then, option_map, slice_get, ℕ}
use Rattle.yw_trees.specs.Placed.{linked}
use Rattle.yw_rdr.specs.Rules.{Kept, rules_of}
use Rattle.yw_state.specs.After.{primitives_of}
use Rattle.yw_state.specs.Allowed.{is_worklet}
use Rattle.yw_state.specs.Identity.{Ident, is_case_ident}
use Rattle.yw_state.specs.Judged.{Question, conclusion_at, item_values, judged, question}
use Rattle.yw_state.specs.Options.{is_some_and}
use Rattle.yw_state.specs.RuleTree.{concluded}
use Rattle.yw_state.specs.State.{ItemAt, NetPart, State, item_at, net_part}
use Rattle.yw_state.specs.declared.tree.Conclusion.{Conclusion}
use Rattle.yw_state.specs.declared.tree.Primitive.{Primitive}
use Rattle.yw_state.specs.declared.tree.TreeKind.{TreeKind}
use Rattle.yw_state.specs.declared.tree.TreeKind.TheVariants.{Select}

-- These are the links of the rules by which the case or item at j is judged, or there are none and it has no such rule.
abbrev pub IsTreeAt : State → Ident → TreeKind → Option (List Kept) → Type 0
IsTreeAt s j kind tree = (q : Question) → question s j kind ≡ Some q → tree ≡ linked q.rules

-- ---- over what stands there

abbrev pub over_case : List Kept → NetPart → Option ℕ
over_case ks n = concluded (rules_of ks) n.vals

abbrev pub over_item : List Kept → ItemAt → Option ℕ
over_item ks x = concluded (rules_of ks) (item_values x)

abbrev pub judged_by : State → Ident → List Kept → Option ℕ
judged_by s j ks = if is_case_ident j then option_and_then (over_case ks) (net_part s j) else option_and_then (over_item ks) (item_at s j)

-- ---- what a rule concludes

abbrev pub conclusion_in : List Kept → ℕ → Option Conclusion
conclusion_in ks k = option_map (λ (x : Kept). x.conclusion) (slice_get ks (k - 1))

abbrev pub exlet_in : List Kept → ℕ → List Primitive
exlet_in ks k = option_map_or primitives_of (conclusion_in ks k) []

-- the tree that chooses worklets concludes this one
abbrev pub is_chosen : State → Ident → List ℕ → Bool
is_chosen s j name = is_some_and (option_and_then (conclusion_at s j Select) (judged s j Select)) (is_worklet name)
