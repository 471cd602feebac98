-- What is read of a case or an item where a change of the map leaves its net and its item.
use Rattle.std.proofs.Common.{ap, refl, subst, ◌∙◌}
use Rattle.std.specs.Prelude.{◌≡◌, Option, None, Some, if◌then◌else◌, option_and_then, option_map, slice_get, ◌-◌, ℕ}
use Rattle.yw_base.specs.Identity.{parent}
use Rattle.yw_exlet.proofs.OwnSite.{apart, is_same}
use Rattle.yw_state.proofs.MapLemmas.{by_name, get-update_other, get-update_same}
use Rattle.yw_state.proofs.Tests.{by_test}
use Rattle.yw_state.specs.After.{change}
use Rattle.yw_state.specs.ByName.{given_named, source_at, var_named}
use Rattle.yw_state.specs.Identity.{Ident, is_case_ident, same}
use Rattle.yw_state.specs.Judged.{Question, case_place, conclusion_at, item_values, rules_at, task_place}
use Rattle.yw_state.specs.Map.{get, update}
use Rattle.yw_state.specs.RuleTree.{TreeRule}
use Rattle.yw_state.specs.State.{ItemAt, ItemPart, NetAt, NetPart, Site, Sites, State, item_at, net_at, net_of, net_part, task_in}
use Rattle.yw_state.specs.declared.tree.TreeKind.{TreeKind}

kept_part : {A : Type 0} (p : Site → Option A) (m : Sites) (r j : Ident) (g : Site → Site) → ((x : Site) → p (g x) ≡ p x) → option_and_then p (get (update m r g) j) ≡ option_and_then p (get m j)
kept_part p m r j g keeps =
    by_test (same j r)
    (λ here.
    let e = is_same j r here in
    subst (λ k. option_and_then p (get (update m k g) j) ≡ option_and_then p (get m j)) e (ap (option_and_then p) (get-update_same by_name m j g) ∙ mapped (get m j)))
    (λ other. ap (option_and_then p) (get-update_other by_name m r g j (apart j r other)))
  where
    mapped : (o : Option Site) → option_and_then p (option_map g o) ≡ option_and_then p o
    mapped None = refl
    mapped (Some x) = keeps x

module _ (s : State) (r : Ident) (g : Site → Site) (nets : (x : Site) → (g x).net ≡ x.net) (items : (x : Site) → (g x).item ≡ x.item) where
  part_kept : (j : Ident) → net_part (change s r g) j ≡ net_part s j
  part_kept j = kept_part (λ (x : Site). x.net) s.sites r j g nets

  net_kept : (j : Ident) → net_at (change s r g) j ≡ net_at s j
  net_kept j = ap (option_and_then (λ n. option_map (λ net. record { part = n; net = net }) (net_of s n))) (part_kept j)

  abbrev at_net : Option NetAt → ItemPart → Option ItemAt
  at_net o x = option_and_then (λ n. option_map (λ t. record { part = x; of_task = t }) (task_in n x.task)) o

  pub item_kept : (j : Ident) → item_at (change s r g) j ≡ item_at s j
  item_kept j =
      ap (λ o. option_and_then (at_net o) (option_and_then (λ (x : Site). x.item) (get (update s.sites r g) j))) (net_kept (parent j))
      ∙ ap (option_and_then (at_net (net_at s (parent j)))) (kept_part (λ (x : Site). x.item) s.sites r j g items)

  -- what is handed to a compensation
  pub source_kept : (j : Ident) → source_at (change s r g) j ≡ source_at s j
  source_kept j = λ i name. if is_case_ident j then option_and_then (λ n. var_named n name) (net_kept j i) else option_and_then (λ x. given_named x name) (item_kept j i)

  -- what a tree's rule concludes
  abbrev of_net : TreeKind → NetPart → Question
  of_net kind n = record { rules = rules_at s (case_place n.spec kind); row = n.vals }

  abbrev of_item : TreeKind → ItemAt → Question
  of_item kind x = record { rules = rules_at s (task_place x.of_task kind); row = item_values x }

  pub conclusion_kept : (j : Ident) (kind : TreeKind) (node : ℕ) → conclusion_at (change s r g) j kind node ≡ conclusion_at s j kind node
  conclusion_kept j kind node = λ i.
      option_and_then (λ (q : Question). option_map (λ (x : TreeRule). x.conclusion) (slice_get q.rules (node - 1)))
      (if is_case_ident j then option_map (of_net kind) (part_kept j i) else option_map (of_item kind) (item_kept j i))
