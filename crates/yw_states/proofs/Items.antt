-- Items, runs, marks and checks are the same where their rows are.
use Rattle.std.proofs.Common.{◌≡◌, ℕ, Bool, true, false, Option, None, Some, [], refl, sym, ap, ◌∙◌, subst, if◌then◌else◌}
use Rattle.std.specs.FinMap.Entries.{find}
use Rattle.std.specs.Prelude.{map, option_and_then, option_map, slice_get, unwrap_or}
use Rattle.yw_base.specs.Identity.{parent}
use Rattle.yw_sites.proofs.Picked.{find_picked}
use Rattle.yw_spec.specs.declared.spec.Net.{Net}
use Rattle.yw_spec.specs.declared.spec.Spec.{Spec}
use Rattle.yw_spec.specs.declared.task.Task.{Task}
use Rattle.yw_state.proofs.Entries.{IsIn}
use Rattle.yw_state.proofs.Tests.{map_some, nowhere, some_same, then_some, there}
use Rattle.yw_state.specs.Identity.{Ident}
use Rattle.yw_state.specs.Map.{Map, entries, get, lexical}
use Rattle.yw_state.specs.Nets.{task_number}
use Rattle.yw_state.specs.State.{ItemAt, ItemPart, NetAt, NetPart, RunPart, State, TaskAt, item_at, net_at, net_of, net_part, task_in}
use Rattle.yw_state.specs.Texts.{Reader}
use Rattle.yw_state.specs.Well.{IsWell}
use Rattle.yw_state.specs.declared.loaded.Loaded.{Loaded}
use Rattle.yw_state.specs.declared.part.Checks.{Checks}
use Rattle.yw_states.proofs.Lists.{Each, pair_same, same_each, unmapped}
use Rattle.yw_states.proofs.Nets.{net_is, part_at}
use Rattle.yw_states.specs.States.{ReadsNamed, due_of_site, due_row, item_of_site, item_row, mark_of_site, net_of_site, parts, run_of_site, run_row}
use Rattle.yw_states.specs.declared.cases.DueRow.{DueRow}
use Rattle.yw_states.specs.declared.cases.ItemRow.{ItemRow}
use Rattle.yw_states.specs.declared.cases.RunRow.{RunRow}
use Rattle.yw_within.specs.Within.{NetIsWithin}

-- ---- items

-- An item that stands, with its task in the net above.
record IsItem (s : State) (e : Ident × ItemPart) : Type 0 where
  above : NetAt
  task : Task
  spec : Spec
  in_net : net_at s (parent e.0) ≡ Some above
  of_net : slice_get above.net.tasks e.1.task ≡ Some task
  within : NetIsWithin spec above.net

abbrev task_of : NetAt → ℕ → Task → TaskAt
task_of n k t = record { number = k; task = t; within = n }

abbrev with_task : ItemPart → TaskAt → ItemAt
with_task x t = record { part = x; of_task = t }

abbrev with_net : NetPart → Net → NetAt
with_net n net = record { part = n; net = net }

item_is : (reader : Reader) → ReadsNamed reader → (s : State) → IsWell reader s → (e : Ident × ItemPart) → IsIn (parts item_of_site s.sites) e
    → IsItem s e
item_is reader named s well e within =
    let here = part_at item_of_site s e within in
    let at = there (item_at s e.0) (well.parents.item_of_net e.0 e.1 here) in
    let above = then_some (λ (n : NetAt). option_map (with_task e.1) (task_in n e.1.task)) (net_at s (parent e.0)) at.0
    (sym (ap (option_and_then (λ (x : ItemPart). option_and_then (λ (n : NetAt). option_map (with_task x) (task_in n x.task))
    (net_at s (parent e.0)))) here) ∙ at.1) in
    let of = map_some (with_task e.1) (task_in above.0 e.1.task) at.0 above.2 in
    let task = map_some (task_of above.0 e.1.task) (slice_get above.0.net.tasks e.1.task) of.0 of.1 in
    let net = then_some (λ (n : NetPart). option_map (with_net n) (net_of s n)) (net_part s (parent e.0)) above.0 above.1 in
    let is = net_is reader named s well (parent e.0) net.0 net.1 in
    let found = map_some (with_net net.0) (net_of s net.0) above.0 net.2 in
    record {
      above = above.0;
      task = task.0;
      spec = is.spec;
      in_net = above.1;
      of_net = task.1;
      within = subst (NetIsWithin is.spec)
          (some_same is.net above.0.net (sym (ap (option_and_then (λ (x : Spec). slice_get x.nets net.0.net)) is.of_spec ∙ is.of_net) ∙ found.1 ∙ ap
          (λ (x : NetAt). Some x.net) found.2))
          is.within;
    }

name_is : (s : State) (e : Ident × ItemPart) (p : IsItem s e) → (item_row s e).task ≡ p.task.name
name_is s e p =
    ap (λ (o : Option NetAt). unwrap_or (option_map (λ (t : TaskAt). t.task.name) (option_and_then (λ (n : NetAt). task_in n e.1.task) o))
    []) p.in_net
    ∙ ap (λ (o : Option Task). unwrap_or (option_map (λ (t : TaskAt). t.task.name) (option_map (task_of p.above e.1.task) o)) []) p.of_net

module _ (s t : State) (specs : s.specs ≡ t.specs) (nets : parts net_of_site s.sites ≡ parts net_of_site t.sites) where
  net_part_same : (j : Ident) → net_part s j ≡ net_part t j
  net_part_same j =
      sym (find_picked net_of_site j (entries s.sites) s.sites.sorted) ∙ ap (find lexical j) nets
      ∙ find_picked net_of_site j (entries t.sites) t.sites.sorted

  net_at_same : (j : Ident) → net_at s j ≡ net_at t j
  net_at_same j =
      ap (option_and_then (λ (n : NetPart). option_map (with_net n) (net_of s n))) (net_part_same j)
      ∙ ap (λ (m : Map lexical Loaded). option_and_then (λ (n : NetPart). option_map (with_net n)
      (option_and_then (λ (spec : Spec). slice_get spec.nets n.net) (option_map (λ (l : Loaded). l.spec) (get m n.spec)))) (net_part t j)) specs

  one_item : (x y : Ident × ItemPart) → IsItem s x → IsItem t y → item_row s x ≡ item_row t y → x ≡ y
  one_item x y p q rows =
      let ident : x.0 ≡ y.0 = ap (λ (r : ItemRow). r.ident) rows in
      let above : p.above ≡ q.above = some_same p.above q.above
      (sym p.in_net ∙ net_at_same (parent x.0) ∙ ap (λ (j : Ident). net_at t (parent j)) ident ∙ q.in_net) in
      let name : p.task.name ≡ q.task.name = sym (name_is s x p) ∙ ap (λ (r : ItemRow). r.task) rows ∙ name_is t y q in
      let number : x.1.task ≡ y.1.task
      = some_same x.1.task y.1.task (sym (p.within.tasks x.1.task p.task p.of_net) ∙ ap (λ (n : NetAt). task_number n.net p.task.name) above
      ∙ ap (task_number q.above.net) name ∙ q.within.tasks y.1.task q.task q.of_net) in
      pair_same x y ident
      (ap (λ (k : ℕ). let i : ItemPart = record { task = k; stage = x.1.stage; given = x.1.given; made = x.1.made; who = x.1.who } in i) number
      ∙ ap (λ (r : ItemRow). let i : ItemPart = record { task = y.1.task; stage = r.stage; given = r.given; made = r.made; who = r.who } in i) rows)

pub same_items : (reader : Reader) → ReadsNamed reader → (s t : State) → s.specs ≡ t.specs → parts net_of_site s.sites ≡ parts net_of_site t.sites
    → IsWell reader s → IsWell reader t
    → map (item_row s) (parts item_of_site s.sites) ≡ map (item_row t) (parts item_of_site t.sites)
    → parts item_of_site s.sites ≡ parts item_of_site t.sites
same_items reader named s t specs nets left right rows =
    same_each (IsItem s) (IsItem t) (item_row s) (item_row t) (one_item s t specs nets) (parts item_of_site s.sites) (parts item_of_site t.sites)
    (item_is reader named s left) (item_is reader named t right) rows

-- ---- runs, marks and checks

pub same_runs : (s t : State) → map run_row (parts run_of_site s.sites) ≡ map run_row (parts run_of_site t.sites)
    → parts run_of_site s.sites ≡ parts run_of_site t.sites
same_runs s t rows =
    unmapped run_row (λ (r : RunRow). let p : RunPart = record { rest = r.rest; waiting = r.waiting } in (r.ident, p))
    (λ (p : Ident × RunPart). refl) (parts run_of_site s.sites) (parts run_of_site t.sites) rows

pub same_dues : (s t : State) → map due_row (parts due_of_site s.sites) ≡ map due_row (parts due_of_site t.sites)
    → parts due_of_site s.sites ≡ parts due_of_site t.sites
same_dues s t rows = unmapped due_row (λ (r : DueRow). (r.ident, r.due)) (λ (p : Ident × Checks). refl) (parts due_of_site s.sites)
    (parts due_of_site t.sites) rows

marked : (suspended mark : Bool) → (if suspended then Some true else None) ≡ Some mark → mark ≡ true
marked true mark e = sym (some_same true mark e)
marked false mark e = nowhere e

marks_are : (s : State) → Each (λ (e : Ident × Bool). e.1 ≡ true) (parts mark_of_site s.sites)
marks_are s e within =
    let at = then_some (mark_of_site e.0) (get s.sites e.0) e.1 (part_at mark_of_site s e within) in
    marked at.0.suspended e.1 at.2

pub same_marks : (s t : State) → map (λ (e : Ident × Bool). e.0) (parts mark_of_site s.sites) ≡ map (λ (e : Ident × Bool). e.0)
    (parts mark_of_site t.sites) → parts mark_of_site s.sites ≡ parts mark_of_site t.sites
same_marks s t rows =
    same_each (λ (e : Ident × Bool). e.1 ≡ true) (λ (e : Ident × Bool). e.1 ≡ true) (λ (e : Ident × Bool). e.0) (λ (e : Ident × Bool). e.0)
    (λ x y p q e. pair_same x y e (p ∙ sym q))
    (parts mark_of_site s.sites) (parts mark_of_site t.sites) (marks_are s) (marks_are t) rows
