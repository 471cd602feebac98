-- What holds of every state that is reached, in six parts: numbers, nets, what things stand at, marks and checks, values and bounds,
-- and depth. The invariant is our own.
use Rattle.std.specs.Prelude.{◌≡◌, ◌≤◌, ◌<◌, ℕ, ◌+◌, ◌==◌, ◌&&◌, ◌||◌, Bool, true, not, List, [], ◌∷◌, length, Option, Some, is_some, is_none, slice_get, nat_lt, IsTrue, IsSome, IsNone, Ok, All, if◌then◌else◌}
use Rattle.std.specs.Cmp.Lexicographic.{pointwise}
use Rattle.std.specs.List.{list_all}
use Rattle.std.specs.Option.{option_map_or}
use Rattle.std.specs.Str.{bytes_eq}
use Rattle.yw_base.specs.Values.{may_hold}
use Rattle.yw_base.specs.Identity.{is_identity, number_end, case_number, child, parent}
use Rattle.yw_spec.specs.declared.spec.Spec.{Spec}
use Rattle.yw_spec.specs.declared.spec.Var.{Var}
use Rattle.yw_spec.specs.declared.task.Many.{Many}
use Rattle.yw_spec.specs.declared.task.Task.{Task}
use Rattle.yw_state.specs.Allowed.{are_roles, most_tokens}
use Rattle.yw_state.specs.Identity.{Ident, is_case_ident}
use Rattle.yw_state.specs.Judged.{has_rule, is_tree_place, place_key}
use Rattle.yw_state.specs.Map.{get}
use Rattle.yw_state.specs.Nets.{child_net, is_atomic}
use Rattle.yw_state.specs.NewRule.{are_fit, is_side, is_taken, may_conclude, most_primitives, most_rules, tree_scope}
use Rattle.yw_state.specs.Options.{is_some_and}
use Rattle.yw_state.specs.Passing.{row_fits}
use Rattle.yw_state.specs.RuleTree.{TreeRule}
use Rattle.yw_state.specs.State.{State, Site, NetPart, ItemPart, RunPart, NetAt, ItemAt, due_at, is_suspended, is_target, item_at, item_part, items_of, net_at, net_part, run_part, spec_called}
use Rattle.yw_state.specs.declared.loaded.Loaded.{Loaded}
use Rattle.yw_state.specs.Texts.{Reader}
use Rattle.yw_state.specs.Values.{Row}
use Rattle.yw_state.specs.Words.{has_check, is_completed, is_executing, is_ready}
use Rattle.yw_state.specs.declared.part.Way.{Way}
use Rattle.yw_state.specs.declared.tree.TreeKind.{TreeKind}
use Rattle.yw_state.specs.declared.tree.TreeKind.TheVariants.{Select}
use Rattle.yw_state.specs.declared.tree.TreePlace.{TreePlace}

abbrev pub Stands : State → Ident → Site → Type 0
Stands s j x = get s.sites j ≡ Some x

-- ---- 1 numbers

-- all numbers of the identity are drawn
abbrev pub is_drawn : State → Ident → Bool
is_drawn s j = list_all (λ n. nat_lt n s.next) j

-- The numbers drawn are below the counter, and no case that is over still stands.
pub record NumbersFit (s : State) : Type 0 where
  pub least : 1 ≤ s.next
  pub most : s.next ≤ number_end
  pub identities : (j : Ident) (x : Site) → Stands s j x → IsTrue (is_identity j)
  pub drawn : (j : Ident) (x : Site) → Stands s j x → IsTrue (is_drawn s j)
  pub ended_some : (n : ℕ) (way : Way) → get s.ended n ≡ Some way → 1 ≤ n
  pub ended_drawn : (n : ℕ) (way : Way) → get s.ended n ≡ Some way → n < s.next
  pub over : (j : Ident) (x : Site) → Stands s j x → IsNone (get s.ended (case_number j))

-- ---- 2 nets

-- of a loaded specification
abbrev pub is_top : State → NetPart → Bool
is_top s n = is_some_and (spec_called s n.spec) (λ (spec : Spec). n.net == spec.top)

-- the child net of the item's task
abbrev pub is_child_of : ItemAt → NetPart → Bool
is_child_of x n = is_some_and (child_net x.of_task.task) (λ k. n.net == k) && bytes_eq n.spec x.of_task.within.part.spec

abbrev pub is_composite : ItemAt → Bool
is_composite x = is_some (child_net x.of_task.task)

-- an executing item of an atomic task that nobody started
abbrev pub has_worklet : ItemAt → Bool
has_worklet x = is_atomic x.of_task.task && is_none x.part.who

abbrev pub wants_net : ItemAt → Bool
wants_net x = is_executing x.part.stage && (is_composite x || has_worklet x)

abbrev stands_at_item : State → NetPart → ItemAt → Bool
stands_at_item s n x = wants_net x && (if is_composite x then is_child_of x n else is_top s n)

-- A net stands as a case, at an item that wants one, or at a run that waits for it; and each that wants one has it.
pub record NetsStand (s : State) : Type 0 where
  pub of_case : (j : Ident) (n : NetPart) → net_part s j ≡ Some n → IsTrue (is_case_ident j) → IsTrue (is_top s n)
  pub of_item : (j : Ident) (n : NetPart) (x : ItemAt) → net_part s j ≡ Some n → item_at s j ≡ Some x → IsTrue (stands_at_item s n x)
  pub of_run : (j : Ident) (n : NetPart) (r : RunPart) → net_part s j ≡ Some n → run_part s j ≡ Some r → IsTrue (r.waiting && is_top s n)
  pub at_something : (j : Ident) (n : NetPart) → net_part s j ≡ Some n → IsTrue (is_case_ident j || is_some (item_part s j) || is_some (run_part s j))
  pub item_has : (j : Ident) (x : ItemAt) → item_at s j ≡ Some x → IsTrue (wants_net x) → IsSome (net_part s j)
  pub run_has : (j : Ident) (r : RunPart) → run_part s j ≡ Some r → IsTrue r.waiting → IsSome (net_part s j)

-- ---- 3 what things stand at

abbrev pub has_work : RunPart → Bool
has_work r = r.waiting || nat_lt 0 (length r.rest)

-- An item stands in a net that has its task, and a run at a case or an item, which has one run at most. Nothing is both.
pub record ParentsStand (s : State) : Type 0 where
  pub item_depth : (j : Ident) (x : ItemPart) → item_part s j ≡ Some x → 2 ≤ length j
  pub item_of_net : (j : Ident) (x : ItemPart) → item_part s j ≡ Some x → IsSome (item_at s j)
  pub run_depth : (j : Ident) (r : RunPart) → run_part s j ≡ Some r → 2 ≤ length j
  pub run_of_target : (j : Ident) (r : RunPart) → run_part s j ≡ Some r → IsTrue (is_target s (parent j))
  pub run_works : (j : Ident) (r : RunPart) → run_part s j ≡ Some r → IsTrue (has_work r)
  pub one_run : (j k : Ident) → IsSome (run_part s j) → IsSome (run_part s k) → parent j ≡ parent k → j ≡ k
  pub not_both : (j : Ident) → IsSome (item_part s j) → IsNone (run_part s j)
  pub something : (j : Ident) (x : Site) → Stands s j x → IsTrue (is_some x.net || is_some x.item || is_some x.run)

-- ---- 4 marks and checks

-- Cases and items are suspended and judged, by trees that have rules; a worklet is chosen for an item that is ready.
pub record MarksStand (s : State) : Type 0 where
  pub suspended : (j : Ident) → IsTrue (is_suspended s j) → IsTrue (is_target s j)
  pub due : (j : Ident) (kind : TreeKind) → IsTrue (has_check (due_at s j) kind) → IsTrue (is_target s j)
  pub due_has_rule : (j : Ident) (kind : TreeKind) → IsTrue (has_check (due_at s j) kind) → IsTrue (has_rule s j kind)
  pub select : (j : Ident) → IsTrue (has_check (due_at s j) Select) → IsTrue (is_some_and (item_part s j) (λ x. is_ready x.stage))

-- ---- 5 values and bounds

-- of the variables, one for one
abbrev pub vals_fit : List Var → Row → Bool
vals_fit = pointwise (λ (x : Var). may_hold x.sort)

abbrev pub item_limit : Option Many → ℕ
item_limit many = option_map_or (λ (m : Many). m.max) many 1

-- A net's values are of its variables, and its counts of tokens of its places.
pub record NetFits (n : NetAt) : Type 0 where
  pub vals : IsTrue (vals_fit n.net.vars n.part.vals)
  pub places : length n.part.tokens ≡ length n.net.places
  pub counts : All (λ k. k ≤ most_tokens) n.part.tokens

-- An item's values are of its task's parameters; it has made some only where it is completed, and a person only where an atomic one is begun.
pub record ItemFits (x : ItemAt) : Type 0 where
  pub given : IsTrue (row_fits x.of_task.task.ins x.part.given)
  pub made : IsTrue (is_completed x.part.stage) → IsTrue (row_fits x.of_task.task.outs x.part.made)
  pub not_made : IsTrue (not (is_completed x.part.stage)) → x.part.made ≡ []
  pub who_atomic : IsSome x.part.who → IsTrue (is_atomic x.of_task.task)
  pub who_begun : IsSome x.part.who → IsTrue (not (is_ready x.part.stage))

-- each rule stands at a side that is free when those before it stand
abbrev pub stand_free : List TreeRule → List TreeRule → Bool
stand_free before [] = true
stand_free before (r ∷ rs) = is_side (length before) r.at r.side && not (is_taken before r.at r.side) && stand_free (r ∷ before) rs

-- The rules of a tree, at the place of a loaded specification, each with the condition that its text spells.
pub record RulesFit (reader : Reader) (s : State) (key : List (List ℕ)) (rs : List TreeRule) : Type 0 where
  pub place : TreePlace
  pub spec : Spec
  pub here : place_key place ≡ key
  pub of_spec : spec_called s place.spec ≡ Some spec
  pub is_place : IsTrue (is_tree_place spec place)
  pub some : 1 ≤ length rs
  pub most : length rs ≤ most_rules
  pub free : IsTrue (stand_free [] rs)
  pub conclude : All (λ (r : TreeRule). IsTrue (may_conclude s place r.conclusion)) rs
  pub spelt : All (λ (r : TreeRule). reader.condition r.when (tree_scope spec place) (Ok r.test)) rs

-- What is kept is as its texts say, and within its bounds.
pub record ContentFits (reader : Reader) (s : State) : Type 0 where
  pub spec_text : (name : List ℕ) (l : Loaded) → get s.specs name ≡ Some l → reader.spec l.text (Ok l.spec)
  pub spec_name : (name : List ℕ) (l : Loaded) → get s.specs name ≡ Some l → l.spec.name ≡ name
  pub person : (name : List ℕ) (roles : List (List ℕ)) → get s.persons name ≡ Some roles → IsTrue (are_roles roles)
  pub of_spec : (j : Ident) (n : NetPart) → net_part s j ≡ Some n → IsSome (net_at s j)
  pub net : (j : Ident) (n : NetAt) → net_at s j ≡ Some n → NetFits n
  pub item : (j : Ident) (x : ItemAt) → item_at s j ≡ Some x → ItemFits x
  pub count : (i : Ident) (n : NetAt) (k : ℕ) (t : Task) → net_at s i ≡ Some n → slice_get n.net.tasks k ≡ Some t → length (items_of s i k) ≤ item_limit t.many
  pub run_length : (j : Ident) (r : RunPart) → run_part s j ≡ Some r → length r.rest ≤ most_primitives
  pub run_fit : (j : Ident) (r : RunPart) → run_part s j ≡ Some r → IsTrue (are_fit s (is_case_ident (parent j)) r.rest)
  pub rules : (key : List (List ℕ)) (rs : List TreeRule) → get s.rules key ≡ Some rs → RulesFit reader s key rs

-- ---- 6 depth

abbrev pub is_nested : State → Ident → Bool
is_nested s j = is_some_and (item_at s j) is_composite

-- from i, whose net is k levels down, to the end of these numbers: one level more at each item of a composite task, and the first at all else
abbrev pub level_from : State → Ident → ℕ → List ℕ → ℕ
level_from s i k [] = k
level_from s i k (n ∷ js) = level_from s (child i n) (if is_nested s (child i n) then k + 1 else 1) js

-- how many levels down from its case, its worklet or its compensation the net at j is, itself counted
abbrev pub net_level : State → Ident → ℕ
net_level s j = level_from s [] 1 j

-- a net at level k has an identity of at most 30 + k numbers
abbrev pub DepthFits : State → Type 0
DepthFits s = (j : Ident) (n : NetPart) → net_part s j ≡ Some n → length j ≤ 30 + net_level s j

-- ---- all

pub record IsWell (reader : Reader) (s : State) : Type 0 where
  pub numbers : NumbersFit s
  pub nets : NetsStand s
  pub parents : ParentsStand s
  pub marks : MarksStand s
  pub content : ContentFits reader s
  pub depth : DepthFits s
