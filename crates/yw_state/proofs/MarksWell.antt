-- What is well stays well when a case or an item is suspended or continued, and when a check is passed.
use Rattle.std.specs.Prelude.{◌≡◌, ◌⊎◌, Bool, true, false, not, Some, option_map, unwrap_or, refl}
use Rattle.std.proofs.Common.{sym, ◌∙◌, ap, subst, inl, inr}
use Rattle.std.proofs.lemmas.Bool.{and_parts}
use Rattle.yw_state.proofs.Alike.{MayBeDue, may_be_due}
use Rattle.yw_state.proofs.ChangeWell.{MayChange, change_is_well}
use Rattle.yw_state.proofs.MapLemmas.{never}
use Rattle.yw_state.proofs.TreePlaces.{case_has_rule, case_is_target, item_has_rule, item_is_target}
use Rattle.yw_state.specs.After.{due_where, make_due, pass, without_check}
use Rattle.yw_state.specs.Allowed.{Allowed, allows}
use Rattle.yw_state.specs.Events.{after}
use Rattle.yw_state.specs.Identity.{Ident, is_case_ident}
use Rattle.yw_state.specs.Judged.{case_place, has_rule, has_rules, is_select, task_place}
use Rattle.yw_state.specs.Options.{is_some_and}
use Rattle.yw_state.specs.State.{State, Site, NetPart, ItemAt, is_suspended, is_target, item_at, item_part, net_part, no_checks}
use Rattle.yw_state.specs.Texts.{Reader, Said}
use Rattle.yw_state.specs.Well.{IsWell, MarksStand, Stands}
use Rattle.yw_state.specs.Words.{has_check, is_ready}
use Rattle.yw_state.specs.declared.event.Event.TheVariants as events
use Rattle.yw_state.specs.declared.part.Checks.{Checks}
use Rattle.yw_state.specs.declared.tree.TreeKind.{TreeKind}
use Rattle.yw_state.specs.declared.tree.TreeKind.TheVariants.{Pre, Post, Select}
use Rattle.yw_state.specs.declared.tree.TreePlace.{TreePlace}

less_due : (kind : TreeKind) (c : Checks) (k : TreeKind) → has_check (without_check kind c) k ≡ true → has_check c k ≡ true
less_due Pre c Pre e = never e
less_due Pre c Post e = e
less_due Pre c Select e = e
less_due Pre c k e = e
less_due Post c Post e = never e
less_due Post c k e = e
less_due Select c Select e = never e
less_due Select c k e = e
less_due kind c k e = e

-- a check is made due where its tree has a rule
more_due : (b : Bool) (kind : TreeKind) (c : Checks) (k : TreeKind) → has_check (due_where b kind c) k ≡ true → (has_check c k ≡ true) ⊎ ((b ≡ true) × (k ≡ kind))
more_due true Pre c Pre e = inr (refl, refl)
more_due true Pre c k e = inl e
more_due true Post c Post e = inr (refl, refl)
more_due true Post c k e = inl e
more_due true Select c Select e = inr (refl, refl)
more_due true Select c k e = inl e
more_due b kind c k e = inl e

module _ (s : State) (j : Ident) (marks : MarksStand s) where
  was_suspended : (x : Site) → Stands s j x → x.suspended ≡ true → is_target s j ≡ true
  was_suspended x stands e = marks.suspended j (ap (λ o. is_some_and o (λ (y : Site). y.suspended)) stands ∙ e)

  was_due : (x : Site) → Stands s j x → (kind : TreeKind) → has_check x.due kind ≡ true → MayBeDue s j kind
  was_due x stands kind e = may_be_due s marks j kind (ap (λ o. has_check (unwrap_or (option_map (λ (y : Site). y.due) o) no_checks) kind) stands ∙ e)

  suspend_may : is_target s j ≡ true → MayChange s j (λ x. record x { suspended = true })
  suspend_may target = record { keeps = record { net = λ x. refl; item = λ x. refl; run = λ x. refl }; suspended = λ x stands e. target; due = was_due }

  continue_may : MayChange s j (λ x. record x { suspended = false })
  continue_may = record { keeps = record { net = λ x. refl; item = λ x. refl; run = λ x. refl }; suspended = λ x stands e. never e; due = was_due }

  pass_may : (check : TreeKind) → MayChange s j (λ x. record x { due = without_check check x.due })
  pass_may check =
      record {
        keeps = record { net = λ x. refl; item = λ x. refl; run = λ x. refl };
        suspended = was_suspended;
        due = λ x stands kind e. was_due x stands kind (less_due check x.due kind e);
      }

  make_due_may : (p : TreePlace) → is_target s j ≡ true → has_rule s j p.kind ≡ has_rules s p → (p.kind ≡ Select → is_some_and (item_part s j) (λ x. is_ready x.stage) ≡ true)
      → MayChange s j (λ x. record x { due = due_where (has_rules s p) p.kind x.due })
  make_due_may p target own ready =
      record {
        keeps = record { net = λ x. refl; item = λ x. refl; run = λ x. refl };
        suspended = was_suspended;
        due = λ x stands kind e. old_or_new x stands kind (more_due (has_rules s p) p.kind x.due kind e);
      }
    where
      old_or_new : (x : Site) → Stands s j x → (kind : TreeKind) → (has_check x.due kind ≡ true) ⊎ ((has_rules s p ≡ true) × (kind ≡ p.kind)) → MayBeDue s j kind
      old_or_new x stands kind (inl old) = was_due x stands kind old
      old_or_new x stands kind (inr new) = subst (MayBeDue s j) (sym new.1) (record { target = target; rule = own ∙ new.0; ready = ready })

module _ (reader : Reader) (s : State) (j : Ident) (said : Said) (well : IsWell reader s) where
  pub suspend_keeps_well : Allowed s (events.Suspend j) said → IsWell reader (after s (events.Suspend j) said)
  unfolding allows after
  suspend_keeps_well allowed =
      change_is_well s j (λ x. record x { suspended = true }) reader (suspend_may s j well.marks (and_parts (is_target s j) (not (is_suspended s j)) allowed.0).0) well

  pub continue_keeps_well : Allowed s (events.Continue j) said → IsWell reader (after s (events.Continue j) said)
  unfolding allows after
  continue_keeps_well allowed = change_is_well s j (λ x. record x { suspended = false }) reader (continue_may s j well.marks) well

  pub pass_is_well : (check : TreeKind) → IsWell reader (pass s j check)
  pass_is_well check = change_is_well s j (λ x. record x { due = without_check check x.due }) reader (pass_may s j well.marks check) well

  pub pass_keeps_well : (check : TreeKind) → IsWell reader (after s (events.Pass j check) said)
  unfolding after
  pass_keeps_well check = pass_is_well check

-- ---- a check of a case or an item is made due

module _ (reader : Reader) (s : State) (j : Ident) (well : IsWell reader s) where
  pub case_due_is_well : (n : NetPart) → is_case_ident j ≡ true → net_part s j ≡ Some n → (kind : TreeKind) → is_select kind ≡ false → IsWell reader (make_due s j (case_place n.spec kind))
  case_due_is_well n of_case net kind other =
      change_is_well s j (λ x. record x { due = due_where (has_rules s (case_place n.spec kind)) kind x.due }) reader
      (make_due_may s j well.marks (case_place n.spec kind) (case_is_target s j n of_case net) (case_has_rule s j n of_case net kind) (λ e. never (sym other ∙ ap is_select e))) well

  -- the choice of a worklet, where the item is ready
  pub item_due_is_well : (x : ItemAt) → item_at s j ≡ Some x → (kind : TreeKind) → (kind ≡ Select → is_some_and (item_part s j) (λ y. is_ready y.stage) ≡ true)
      → IsWell reader (make_due s j (task_place x.of_task kind))
  item_due_is_well x item kind ready =
      change_is_well s j (λ y. record y { due = due_where (has_rules s (task_place x.of_task kind)) kind y.due }) reader
      (make_due_may s j well.marks (task_place x.of_task kind) (item_is_target s j x item) (item_has_rule s j x item well.parents kind) ready) well
