-- A run that doesn't wait takes its first primitive, and goes where nothing is left to do: what is well stays well.
use Rattle.std.specs.Prelude.{◌≡◌, ◌≤◌, ℕ, ◌==◌, ◌&&◌, ◌||◌, Bool, true, false, not, cond, List, [], ◌∷◌, length, Option, Some, None, is_some, option_map, option_and_then, refl, nat_lt, if◌then◌else◌}
use Rattle.std.specs.List.{list_all}
use Rattle.std.proofs.Common.{sym, ◌∙◌, ap, subst, arith, le_trans}
use Rattle.std.proofs.lemmas.Bool.{and_from, and_parts, eqb-false, lt-ltb, or_right}
use Rattle.yw_base.specs.Identity.{under, parent}
use Rattle.yw_invariant.proofs.Ancestors as ancestors
use Rattle.yw_invariant.proofs.Changes.{at_each, dropped_is_well}
use Rattle.yw_invariant.proofs.Places.{deep_is_no_case, strictly_under_other, under_itself}
use Rattle.yw_invariant.proofs.Turning.{Turns, turned_is_well, same_option}
use Rattle.yw_state.proofs.Alike.{due_test, item_in}
use Rattle.yw_state.proofs.MapLemmas.{by_name, by_option, by_test, get-remove_other, get-remove_same, get-retain, get-retain_gone, get-update_other, get-update_same, never, nowhere, same_map, some_same}
use Rattle.yw_state.specs.After.{change, with_run, with_sites}
use Rattle.yw_state.specs.Exlets.{end_if_over, is_over, taken_first, without_first}
use Rattle.yw_state.specs.Identity.{Ident, is_case_ident}
use Rattle.yw_state.specs.Map.{get, remove}
use Rattle.yw_state.specs.NewRule.{are_fit, is_known, is_of_item, is_removal, removes_last}
use Rattle.yw_state.specs.Options.{is_some_and}
use Rattle.yw_state.specs.State.{State, Site, Sites, ItemAt, ItemPart, RunPart, drop, due_at, item_at, item_part, net_at, net_part, run_part}
use Rattle.yw_state.specs.Texts.{Reader}
use Rattle.yw_state.specs.Well.{IsWell, Stands, has_work}
use Rattle.yw_state.specs.Words.{has_check, is_ready}
use Rattle.yw_state.specs.declared.tree.Primitive.{Primitive}
use Rattle.yw_state.specs.declared.tree.TreeKind.{TreeKind}
use Rattle.yw_state.specs.declared.tree.TreeKind.TheVariants.{Select}

pub no_longer : (ps : List Primitive) → length (without_first ps) ≤ length ps
no_longer [] = omega arith
no_longer (p ∷ ps) = omega arith

pub still_fit : (s : State) (of_case : Bool) (ps : List Primitive) → are_fit s of_case ps ≡ true → are_fit s of_case (without_first ps) ≡ true
still_fit s of_case [] e = e
still_fit s of_case (p ∷ ps) e =
    let parts = and_parts (list_all (λ q. is_known s q && not (of_case && is_of_item q)) (p ∷ ps)) (removes_last (p ∷ ps)) e in
    let each = and_parts (is_known s p && not (of_case && is_of_item p)) (list_all (λ q. is_known s q && not (of_case && is_of_item q)) ps) parts.0 in
    let last = and_parts (length ps == 0 || not (is_removal p)) (removes_last ps) parts.1 in
    and_from _ _ each.1 last.1

pub some_left : (n : ℕ) → (n == 0) ≡ false → nat_lt 0 n ≡ true
some_left n e = let some = eqb-false n 0 e in lt-ltb 0 n (omega (arith, some))

module _ (reader : Reader) (s : State) (well : IsWell reader s) (r : Ident) (y : RunPart) (run : run_part s r ≡ Some y) (idle : y.waiting ≡ false) where
  pub no_net : net_part s r ≡ None
  no_net =
      by_option (net_part s r)
      (λ none. none)
      (λ n some. never (sym idle ∙ (and_parts y.waiting _ (well.nets.of_run r n y some run)).0))

  pub no_item : item_part s r ≡ None
  no_item =
      by_option (item_part s r)
      (λ none. none)
      (λ x some. never (sym (well.parents.not_both r (ap is_some some)) ∙ ap is_some run))

  pub no_item_at : (x : ItemAt) → item_at s r ≡ Some x → ⊥
  no_item_at x e = nowhere (ap (λ o. item_in o (net_at s (parent r))) (sym no_item) ∙ e)

  -- no item is of a net there
  pub apart : (k : Ident) (x : ItemPart) → item_part s k ≡ Some x → ¬ (parent k ≡ r)
  apart k x e above =
      nowhere (sym no_net ∙ ap (net_part s) (sym above) ∙ there.1)
    where
      there : (n : _) × (net_part s (parent k) ≡ Some n)
      there =
          by_option (net_part s (parent k))
          (λ none. never (ap is_some (sym none) ∙ ancestors.net_of_item reader s well k x e))
          (λ n some. (n, some))

  pub is_due : (x : Site) → Stands s r x → (kind : TreeKind) → has_check x.due kind ≡ true → has_check (due_at s r) kind ≡ true
  is_due x stands kind e = due_test kind (get s.sites r) ∙ ap (λ o. is_some_and o (λ (z : Site). has_check z.due kind)) stands ∙ e

  pub never_select : (x : Site) → Stands s r x → has_check x.due Select ≡ true → {A : Type 0} → A
  never_select x stands e = never (sym (ap (λ o. is_some_and o (λ (z : ItemPart). is_ready z.stage)) no_item) ∙ well.marks.select r (is_due x stands Select e))

  abbrev taken : State
  taken = change s r (with_run taken_first)

  run_now : run_part taken r ≡ Some (taken_first y)
  run_now =
      ap (option_and_then (λ (x : Site). x.run)) (get-update_same by_name s.sites r (with_run taken_first)) ∙ mapped (get s.sites r) ∙ ap (option_map taken_first) run
    where
      mapped : (o : Option Site) → option_and_then (λ (x : Site). x.run) (option_map (with_run taken_first) o) ≡ option_map taken_first (option_and_then (λ (x : Site). x.run) o)
      mapped None = refl
      mapped (Some x) = refl

  takes : is_over (taken_first y) ≡ false → Turns s r None (with_run taken_first) (λ x. x) taken_first
  takes more =
      record {
        apart = apart;
        no_case = deep_is_no_case r (well.parents.run_depth r y run);
        stays = or_right (is_some (item_part s r)) (is_some (run_part s r)) (ap is_some run);
        to_net = λ x stands. ap (option_and_then (λ (z : Site). z.net)) (sym stands) ∙ no_net;
        to_item = λ x. same_option x.item;
        to_run = λ x. refl;
        task = λ x. refl;
        suspended = λ x stands e. well.marks.suspended r (ap (λ o. is_some_and o (λ (z : Site). z.suspended)) stands ∙ e);
        due = λ x stands kind e. (well.marks.due r kind (is_due x stands kind e), well.marks.due_has_rule r kind (is_due x stands kind e));
        select = λ x stands e. never_select x stands e;
        wants = λ x e. absurd (no_item_at x e);
        waits = λ x e. ap (λ (z : RunPart). z.waiting) (some_same x y (sym e ∙ run)) ∙ idle;
        item_fits = λ x e. absurd (no_item_at x e);
        run_fits = λ x e.
            record {
              works = subst (λ (z : RunPart). has_work (taken_first z) ≡ true) (some_same y x (sym run ∙ e)) (left more);
              most = le_trans (no_longer x.rest) (well.content.run_length r x e);
              fit = still_fit s (is_case_ident (parent r)) x.rest (well.content.run_fit r x e);
            };
        begins = λ n e. nowhere e;
      }
    where
      left : is_over (taken_first y) ≡ false → has_work (taken_first y) ≡ true
      left e = or_right y.waiting (nat_lt 0 (length (without_first y.rest))) (some_left (length (without_first y.rest)) (sym (ap (λ b. not b && length (without_first y.rest) == 0) idle) ∙ e))

  all_gone : remove taken.sites r ≡ drop s.sites r
  all_gone = same_map by_name _ _ (at_each r (λ q. get (remove taken.sites r) q ≡ get (drop s.sites r) q)
      (get-remove_same by_name taken.sites r ∙ sym (get-retain_gone by_name s.sites (λ k. not (under k r)) r (ap not (under_itself r))))
      (λ q other.
      get-remove_other by_name taken.sites r q other
      ∙ get-update_other by_name s.sites r (with_run taken_first) q other
      ∙ by_test (under q r)
      (λ lies. ancestors.none_below reader s well r y run no_net q (strictly_under_other q r other ∙ lies) ∙ sym (get-retain_gone by_name s.sites (λ k. not (under k r)) q (ap not lies)))
      (λ aside. sym (get-retain by_name s.sites (λ k. not (under k r)) q ∙ ap (λ b. cond (not b) (get s.sites q) None) aside))))

  over_or_not : (b : Bool) → is_over (taken_first y) ≡ b → IsWell reader (if b then with_sites s (remove taken.sites r) else taken)
  over_or_not true e = subst (λ (m : Sites). IsWell reader (with_sites s m)) (sym all_gone) (dropped_is_well reader s well r)
  over_or_not false e = turned_is_well s r None (with_run taken_first) (λ x. x) taken_first (takes e) well.parents reader well

  pub taken_is_well : IsWell reader (end_if_over taken r)
  taken_is_well =
      subst (λ (o : Option RunPart). IsWell reader (if is_some_and o is_over then with_sites s (remove taken.sites r) else taken)) (sym run_now) (over_or_not (is_over (taken_first y)) refl)
