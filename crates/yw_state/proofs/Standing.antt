-- Where an event is allowed, something stands in its case.
use Rattle.std.specs.Prelude.{ℕ, ◌≡◌, ◌≤◌, ◌⊎◌, Bool, true, List, [], ◌∷◌, length, Option, Some, option_map, unwrap_or, IsTrue}
use Rattle.std.specs.List.{list_all}
use Rattle.std.proofs.Common.{sym, ◌∙◌, ap, subst, inl, inr}
use Rattle.std.proofs.lemmas.Bool.{eqb-true, ltb-true}
use Rattle.yw_base.specs.Identity.{is_identity, is_number, case_number}
use Rattle.yw_state.specs.Allowed.{allows}
use Rattle.yw_state.specs.Automatic.{case_of}
use Rattle.yw_state.specs.Identity.{Ident, case_ident, is_case_ident}
use Rattle.yw_state.specs.Joins.{at_output}
use Rattle.yw_state.specs.Map.{get}
use Rattle.yw_state.specs.Options.{is_some_and}
use Rattle.yw_state.specs.State.{State, Site, NetPart, ItemPart, RunPart, NetAt, ItemAt, TaskAt, due_at, is_case, is_item, is_suspended, is_target, item_at, item_part, net_at, net_part, no_checks, run_part, task_at}
use Rattle.yw_state.specs.Texts.{Said}
use Rattle.yw_state.specs.Well.{NumbersFit, ParentsStand, Stands}
use Rattle.yw_state.specs.Words.{is_first_due}
use Rattle.yw_state.specs.declared.event.Event.{Event}
use Rattle.yw_state.specs.declared.event.Event.TheVariants as events
use Rattle.yw_state.specs.declared.part.Checks.{Checks}
use Rattle.yw_state.specs.declared.tree.TreeKind.{TreeKind}
use Rattle.yw_state.specs.declared.tree.TreeKind.TheVariants as kinds
use Rattle.yw_state.proofs.Tests.{never, nowhere, some_same, by_option, and_left, and_right, or_cases, there, there_and, then_some}

nothing_due : {A : Type 0} (check : TreeKind) → is_first_due no_checks check ≡ true → A
nothing_due kinds.Pre e = never e
nothing_due kinds.Post e = never e
nothing_due kinds.Select e = never e
nothing_due kinds.External e = never e
nothing_due kinds.Timeout e = never e
nothing_due kinds.Abort e = never e

-- ---- what stands at an identity

abbrev pub Standing : State → Ident → Type 0
Standing s j = (x : Site) × Stands s j x

module _ (s : State) (j : Ident) where
  pub at_net_part : (n : NetPart) → net_part s j ≡ Some n → Standing s j
  at_net_part n e = let found = then_some (λ (x : Site). x.net) (get s.sites j) n e in (found.0, found.1)

  pub at_item_part : (x : ItemPart) → item_part s j ≡ Some x → Standing s j
  at_item_part x e = let found = then_some (λ (x : Site). x.item) (get s.sites j) x e in (found.0, found.1)

  pub at_run_part : (r : RunPart) → run_part s j ≡ Some r → Standing s j
  at_run_part r e = let found = then_some (λ (x : Site). x.run) (get s.sites j) r e in (found.0, found.1)

  pub at_net : (n : NetAt) → net_at s j ≡ Some n → Standing s j
  at_net n e = let found = then_some _ (net_part s j) n e in at_net_part found.0 found.1

  pub at_task : (t : List ℕ) (x : TaskAt) → task_at s j t ≡ Some x → Standing s j
  at_task t x e = let found = then_some _ (net_at s j) x e in at_net found.0 found.1

  pub at_item : (x : ItemAt) → item_at s j ≡ Some x → Standing s j
  at_item x e = let found = then_some _ (item_part s j) x e in at_item_part found.0 found.1

  task_stands : (t : List ℕ) (p : TaskAt → Bool) → is_some_and (task_at s j t) p ≡ true → Standing s j
  task_stands t p e = let found = there_and (task_at s j t) p e in at_task t found.0 found.1

  item_stands : (p : ItemAt → Bool) → is_some_and (item_at s j) p ≡ true → Standing s j
  item_stands p e = let found = there_and (item_at s j) p e in at_item found.0 found.1

  run_stands : (p : RunPart → Bool) → is_some_and (run_part s j) p ≡ true → Standing s j
  run_stands p e = let found = there_and (run_part s j) p e in at_run_part found.0 found.1

  case_stands : is_case s j ≡ true → Standing s j
  case_stands e = let found = there (net_part s j) (and_right (is_case_ident j) _ e) in at_net_part found.0 found.1

  target_stands : is_target s j ≡ true → Standing s j
  target_stands e = by_kind (or_cases (is_case s j) (is_item s j) e)
    where
      by_kind : (is_case s j ≡ true) ⊎ (is_item s j ≡ true) → Standing s j
      by_kind (inl e) = case_stands e
      by_kind (inr e) = let found = there (item_part s j) e in at_item_part found.0 found.1

  suspended_stands : is_suspended s j ≡ true → Standing s j
  suspended_stands e = let found = there_and (get s.sites j) (λ x. x.suspended) e in (found.0, found.1)

  output_stands : at_output s j ≡ true → Standing s j
  output_stands e = let found = there_and (net_at s j) _ e in at_net found.0 found.1

  due_stands : (check : TreeKind) → is_first_due (due_at s j) check ≡ true → Standing s j
  due_stands check e = by_option (get s.sites j) (λ none. nothing_due check (subst (λ c. is_first_due c check ≡ true) (ap as_due none) e)) (λ x some. (x, some))
    where
      as_due : Option Site → Checks
      as_due o = unwrap_or (option_map (λ (x : Site). x.due) o) no_checks

-- ---- what stands where an event is allowed

-- Something stands in the case with this number.
pub record StandsIn (s : State) (n : ℕ) : Type 0 where
  pub at : Ident
  pub site : Site
  pub stands : Stands s at site
  pub here : case_number at ≡ n

in_case : (s : State) (n : ℕ) (j : Ident) → Some (case_number j) ≡ Some n → Standing s j → (n ≡ s.next) ⊎ StandsIn s n
in_case s n j is found = inr (record { at = j; site = found.0; stands = found.1; here = some_same (case_number j) n is })

-- the case begins, or something stands in it
pub in_its_case : (s : State) (e : Event) (said : Said) (n : ℕ) → IsTrue (allows s e said) → case_of e ≡ Some n → (n ≡ s.next) ⊎ StandsIn s n
unfolding allows
in_its_case s (events.Person name roles) said n ok is = nowhere is
in_its_case s (events.Load name text) said n ok is = nowhere is
in_its_case s (events.AddRule p at side when conclusion number) said n ok is = nowhere is
in_its_case s (events.Launch m name vals) said n ok is = inl (sym (some_same m n is) ∙ eqb-true m s.next (and_left _ _ (and_left _ _ ok)))
in_its_case s (events.Enter i t places first count) said n ok is = in_case s n i is (task_stands s i t _ (and_right _ _ ok))
in_its_case s (events.Start j who) said n ok is = in_case s n j is (item_stands s j _ (and_right _ _ ok))
in_its_case s (events.Complete j out) said n ok is = in_case s n j is (item_stands s j _ (and_right _ _ ok))
in_its_case s (events.Exit i t places) said n ok is = in_case s n i is (task_stands s i t _ (and_right _ _ ok))
in_its_case s (events.Add i t value m) said n ok is = in_case s n i is (task_stands s i t _ (and_right _ _ (and_left _ _ ok)))
in_its_case s (events.Finish m) said n ok is = in_case s n (case_ident m) is (output_stands s (case_ident m) (and_right _ _ ok))
in_its_case s (events.Cancel m) said n ok is = in_case s n (case_ident m) is (case_stands s (case_ident m) ok)
in_its_case s (events.StartSub j) said n ok is = in_case s n j is (item_stands s j _ (and_right _ _ ok))
in_its_case s (events.CompleteSub j) said n ok is = in_case s n j is (output_stands s j (and_right _ _ ok))
in_its_case s (events.CompleteEmpty j) said n ok is = in_case s n j is (item_stands s j _ (and_right _ _ ok))
in_its_case s (events.Pass j check) said n ok is = in_case s n j is (due_stands s j check (and_left _ _ (and_left _ _ ok)))
in_its_case s (events.Except j check node m) said n ok is = in_case s n j is (due_stands s j check (and_left _ _ (and_right _ _ (and_left _ _ (and_left _ _ ok)))))
in_its_case s (events.Substitute j name) said n ok is = in_case s n j is (due_stands s j kinds.Select (and_left _ _ (and_left _ _ (and_left _ _ ok))))
in_its_case s (events.CompleteWorklet j) said n ok is = in_case s n j is (output_stands s j (and_right _ _ ok))
in_its_case s (events.Raise j kind node m) said n ok is = in_case s n j is (target_stands s j (and_left _ _ (and_left _ _ (and_left _ _ (and_left _ _ ok)))))
in_its_case s (events.Prim r p) said n ok is = in_case s n r is (run_stands s r _ ok)
in_its_case s (events.Compensated r) said n ok is = in_case s n r is (run_stands s r _ (and_left _ _ (and_left _ _ ok)))
in_its_case s (events.Suspend j) said n ok is = in_case s n j is (target_stands s j (and_left _ _ ok))
in_its_case s (events.Continue j) said n ok is = in_case s n j is (suspended_stands s j ok)
in_its_case s (events.Advance m) said n ok is = in_case s n (case_ident m) is (case_stands s (case_ident m) ok)

-- ---- numbers of cases

pub from_one : (j : Ident) → is_identity j ≡ true → 1 ≤ case_number j
from_one [] fit = never fit
from_one (n ∷ j) fit = ltb-true 0 n (and_left _ _ (and_left (is_number n) (list_all is_number j) (and_right _ _ fit)))

pub case_from_one : (s : State) (e : Event) (said : Said) (n : ℕ) → NumbersFit s → IsTrue (allows s e said) → case_of e ≡ Some n → 1 ≤ n
case_from_one s e said n fit ok is = by_case (in_its_case s e said n ok is)
  where
    by_case : (n ≡ s.next) ⊎ StandsIn s n → 1 ≤ n
    by_case (inl next) = subst (λ m. 1 ≤ m) (sym next) fit.least
    by_case (inr there) = subst (λ m. 1 ≤ m) there.here (from_one there.at (fit.identities there.at there.site there.stands))

pub run_is_long : (s : State) (r : Ident) (p : RunPart → Bool) → ParentsStand s → is_some_and (run_part s r) p ≡ true → 2 ≤ length r
run_is_long s r p parents e = let found = there_and (run_part s r) p e in parents.run_depth r found.0 found.1
