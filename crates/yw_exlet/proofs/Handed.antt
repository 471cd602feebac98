-- What a run hands to its compensation, by the forest.
use Rattle.std.proofs.Common.{ap, arith, refl, sym, ◌∙◌}
use Rattle.std.proofs.lemmas.Bool.{eqb-true}
use Rattle.std.specs.Prelude.{◌≡◌, Bool, IsSome, List, None, Option, Some, [], ◌∷◌, false, if◌then◌else◌, is_some, length, not, option_and_then, option_map, true, ℕ}
use Rattle.yw_base.specs.Identity.{case_number, is_identity, parent}
use Rattle.yw_exlet.proofs.Stands.{target_item, target_there}
use Rattle.yw_exlet.specs.Needs.{FitsTarget, SourceStands, TakesAs, handed}
use Rattle.yw_exlet.specs.Stands.{TargetAt}
use Rattle.yw_nest.proofs.NetFound.{item_there, net_there}
use Rattle.yw_nest.specs.Values.{var_value}
use Rattle.yw_spec.specs.declared.spec.Net.{Net}
use Rattle.yw_spec.specs.declared.spec.Spec.{Spec}
use Rattle.yw_spec.specs.declared.task.Task.{Task}
use Rattle.yw_state.proofs.Tests.{map_some, never, then_some}
use Rattle.yw_state.specs.ByName.{Valuation, given_named, param_value, source_at, var_named}
use Rattle.yw_state.specs.Exlets.{case_above}
use Rattle.yw_state.specs.Identity.{Ident, is_case_ident}
use Rattle.yw_state.specs.State.{ItemAt, NetAt, NetPart, State, item_at, net_at, net_of, net_part}
use Rattle.yw_state.specs.declared.part.Checks.{Checks}
use Rattle.yw_state.specs.declared.tree.Primitive.{Primitive}
use Rattle.yw_tree.specs.Cases.{case_at}
use Rattle.yw_tree.specs.Forest.{IsForest, item_of, sites_of, top_of}
use Rattle.yw_tree.specs.Places.{net_at as net_found, net_of_run, run_of}
use Rattle.yw_tree.specs.Ways.{net_of_item}
use Rattle.yw_tree.specs.declared.Case.{Case}
use Rattle.yw_tree.specs.declared.Forest.{Forest}
use Rattle.yw_tree.specs.declared.NetState.{NetState, out-NetState}
use Rattle.yw_tree.specs.declared.Node.{Node, out-Node}
use Rattle.yw_worklet.proofs.Known.{given_is, its_item, its_part}

-- ---- whether it hangs at a case or at an item

pub at_case : (c : Bool) → false ≡ not c → c ≡ true
at_case true e = refl
at_case false e = never e

pub at_item : (c : Bool) → true ≡ not c → c ≡ false
at_item true e = never (sym e)
at_item false e = refl

-- what a run of two numbers hangs at is its case
pub parent_is_case : (r : Ident) → is_case_ident (parent r) ≡ true → parent r ≡ case_above r
parent_is_case [] e = never e
parent_is_case (n ∷ []) e = never e
parent_is_case (n ∷ m ∷ []) e = refl
parent_is_case (n ∷ m ∷ k ∷ r) e = let one = eqb-true (length (parent (n ∷ m ∷ k ∷ r))) 1 e in absurd (omega (arith, one))

-- ---- what stands there

net_there_too : (o : Option Case) → is_some o ≡ true → is_some (option_map (λ (c : Case). c.net) o) ≡ true
net_there_too None e = e
net_there_too (Some c) e = refl

pub target_net : (f : Forest) → IsForest f → (j : Ident) → is_identity j ≡ true → is_case_ident j ≡ true → TargetAt f j → IsSome (net_found f j)
target_net f boxed j identity case stands =
    let at : is_some (case_at (case_number j) f.cases) ≡ true =
    sym (ap (λ b. if b then is_some (case_at (case_number j) f.cases) else is_some (item_of f j)) case) ∙ target_there f boxed j identity stands in
    ap (λ b. is_some (if b then top_of f (case_number j) else (if is_some (item_of f j) then net_of_item (item_of f j) else net_of_run (run_of f j)))) case
    ∙ net_there_too (case_at (case_number j) f.cases) at

pub source_stands : (item : Option Task) (f : Forest) → IsForest f → (j : Ident) → is_identity j ≡ true → FitsTarget j item → TargetAt f j → SourceStands f j item
source_stands None f boxed j identity fits stands = target_net f boxed j identity (at_case (is_case_ident j) fits) stands
source_stands (Some task) f boxed j identity fits stands = target_item f boxed j identity (at_item (is_case_ident j) fits) stands

-- ---- what is handed over

abbrev by_net : Option NetAt → Valuation
by_net o name = option_and_then (λ n. var_named n name) o

abbrev by_item : Option ItemAt → Valuation
by_item o name = option_and_then (λ x. given_named x name) o

abbrev by_kind : Bool → Option NetAt → Option ItemAt → Valuation
by_kind b o x name = if b then by_net o name else by_item x name

abbrev with_net : NetPart → Net → NetAt
with_net p w = record { part = p; net = w }

pub hands_over : (top : Net) (item : Option Task) (comp : Option (Spec × ℕ)) (due : Checks) (r : Ident) (p : Primitive) (old : Forest) → IsForest old → is_identity (parent r) ≡ true → FitsTarget (parent r) item
    → (names : ℕ → List ℕ) (s : State) → s.sites ≡ sites_of names old → TakesAs top item comp due r p names s → source_at s (parent r) ≡ handed old (parent r) top item
hands_over top None comp due r p old boxed identity fits names s here needs =
    let j = parent r in
    let case = at_case (is_case_ident j) fits in
    let n = map_some (λ (n : NetAt). n.net) (net_at s (case_above r)) top needs.net in
    let stands : net_at s j ≡ Some n.0 = ap (net_at s) (parent_is_case r case) ∙ n.1 in
    let q = then_some (λ (q : NetPart). option_map (with_net q) (net_of s q)) (net_part s j) n.0 stands in
    let w = map_some (with_net q.0) (net_of s q.0) n.0 q.2 in
    let u = net_there names old boxed j identity s here q.0 q.1 in
    ap (λ b. by_kind b (net_at s j) (item_at s j)) case
    ∙ ap by_net stands
    ∙ (λ i name. var_value (n.2 i).vars (sym w.2 i).part.vals name)
    ∙ (λ i name. var_value top.vars (sym u.2 i).vals name)
    ∙ sym (λ i name. option_and_then (λ (z : NetState). var_value top.vars (out-NetState z).vals name) (u.1 i))
hands_over top (Some task) comp due r p old boxed identity fits names s here needs =
    let j = parent r in
    let x = its_item s j task needs.task in
    let n = item_there names old boxed j identity s here x.0.part (its_part s j x.0 x.1) in
    ap (λ b. by_kind b (net_at s j) (item_at s j)) (at_item (is_case_ident j) fits)
    ∙ ap by_item x.1
    ∙ given_is names old boxed s here j identity n.0 n.1 x.0 x.1 task x.2
    ∙ sym (λ i name. option_and_then (λ (z : Node). param_value task.ins (out-Node z).given name) (n.1 i))
