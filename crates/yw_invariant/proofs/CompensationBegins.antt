-- A compensation begins at a run, or a primitive changes what isn't there: what is well stays well.
use Rattle.std.specs.Prelude.{◌≡◌, ◌<◌, ℕ, ◌==◌, Bool, true, false, List, length, Option, Some, None, is_some, option_map, option_and_then, slice_get, nat_lt, refl, if◌then◌else◌}
use Rattle.std.proofs.Common.{sym, ◌∙◌, ap, subst, arith, le_trans}
use Rattle.std.proofs.lemmas.Bool.{eq-eqb, ltb-true, or_right}
use Rattle.yw_spec.specs.declared.spec.Net.{Net}
use Rattle.yw_spec.specs.declared.spec.Spec.{Spec}
use Rattle.yw_base.specs.Values.{is_small}
use Rattle.yw_invariant.proofs.Changes.{updated_twice}
use Rattle.yw_invariant.proofs.NetsBegin.{loaded_sound, new_net_fits}
use Rattle.yw_invariant.proofs.Places.{deep_is_no_case}
use Rattle.yw_invariant.proofs.RunsGoOn as runs
use Rattle.yw_invariant.proofs.Turning.{Begins, Turns, turned_is_well, same_option}
use Rattle.yw_invariant.proofs.Values.{GivesSmall, given_small, vars_small_found}
use Rattle.yw_sound.specs.Sound.{ReadsSound}
use Rattle.yw_state.proofs.Alike.{net_by, net_in}
use Rattle.yw_state.proofs.Gone.{same_item_at}
use Rattle.yw_state.proofs.MapLemmas.{by_name, by_option, get-update_same, nowhere, some_same}
use Rattle.yw_state.proofs.Absent.{part-kept}
use Rattle.yw_state.specs.After.{change, new_net, stands, where_some, where_spec, with_run, with_sites}
use Rattle.yw_state.specs.Allowed.{depth_end}
use Rattle.yw_state.specs.ByName.{Valuation, first_values, given_named, source_at, var_named}
use Rattle.yw_state.specs.Exlets.{end_if_over, is_over, taken_first}
use Rattle.yw_state.specs.Identity.{Ident, is_case_ident}
use Rattle.yw_base.specs.Identity.{parent}
use Rattle.yw_state.specs.Map as Map
use Rattle.yw_state.specs.Map.{get, update}
use Rattle.yw_state.specs.Nets.{top_net}
use Rattle.yw_state.specs.Options.{is_some_and}
use Rattle.yw_state.specs.State.{State, Site, Sites, ItemAt, NetAt, NetPart, RunPart, item_at, item_part, net_at, net_part, run_part, spec_called, top_called}
use Rattle.yw_state.specs.Texts.{Reader}
use Rattle.yw_state.proofs.NetLevels.{level_counts}
use Rattle.yw_state.specs.Well.{IsWell, is_top}

module _ (reader : Reader) (sound : ReadsSound reader) (s : State) (well : IsWell reader s) (r : Ident) (y : RunPart) (run : run_part s r ≡ Some y) (idle : y.waiting ≡ false) where
  abbrev j : Ident
  j = parent r

  source_small : GivesSmall (source_at s j)
  source_small name v = by_kind (is_case_ident j)
    where
      of_net : (o : Option NetAt) → net_at s j ≡ o → option_and_then (λ n. var_named n name) o ≡ Some v → is_small v ≡ true
      of_net None is e = nowhere e
      of_net (Some n) is e = vars_small_found n (well.content.net j n is) name v e

      of_item : (o : Option ItemAt) → item_at s j ≡ o → option_and_then (λ x. given_named x name) o ≡ Some v → is_small v ≡ true
      of_item None is e = nowhere e
      of_item (Some x) is e = given_small x (well.content.item j x is) name v e

      by_kind : (b : Bool) → (if b then option_and_then (λ n. var_named n name) (net_at s j) else option_and_then (λ x. given_named x name) (item_at s j)) ≡ Some v → is_small v ≡ true
      by_kind true e = of_net (net_at s j) refl e
      by_kind false e = of_item (item_at s j) refl e

  abbrev waits_then : RunPart → RunPart
  waits_then z = record (taken_first z) { waiting = true }

  module _ (name : List ℕ) (spec : Spec) (net : Net) (called : spec_called s name ≡ Some spec) (top : slice_get spec.nets spec.top ≡ Some net) (short : length r < depth_end) where
    abbrev part : NetPart
    part = new_net name spec.top net (first_values (source_at s j) net)

    abbrev begun : Site → Site
    begun x = stands part (with_run (λ (z : RunPart). record z { waiting = true }) (with_run taken_first x))

    its_top : is_top s part ≡ true
    its_top = ap (λ o. is_some_and o (λ (other : Spec). spec.top == other.top)) called ∙ eq-eqb spec.top spec.top refl

    begins : Begins s r part
    begins =
        record {
          at = record { part = part; net = net };
          is = ap (net_in part) called ∙ ap (λ o. option_map (λ other. record { part = part; net = other }) o) top;
          fits = new_net_fits name spec.top net (source_at s j) source_small (loaded_sound reader sound s well name spec called spec.top net top).begins;
          of_item = λ x e. absurd (runs.no_item_at reader s well r y run idle x e);
          of_run = λ z e. its_top;
          deep = let some = level_counts s r in omega (arith, some, short);
        }

    to_waiting : (o : Option RunPart) → option_map (λ (z : RunPart). record z { waiting = true }) (option_map taken_first o) ≡ option_map waits_then o
    to_waiting None = refl
    to_waiting (Some z) = refl

    compensates : Turns s r (Some part) begun (λ x. x) waits_then
    compensates =
        record {
          apart = runs.apart reader s well r y run idle;
          no_case = deep_is_no_case r (well.parents.run_depth r y run);
          stays = or_right (is_some (item_part s r)) (is_some (run_part s r)) (ap is_some run);
          to_net = λ x here. refl;
          to_item = λ x. same_option x.item;
          to_run = λ x. to_waiting x.run;
          task = λ x. refl;
          suspended = λ x here e. well.marks.suspended r (ap (λ o. is_some_and o (λ (z : Site). z.suspended)) here ∙ e);
          due = λ x here kind e.
              (well.marks.due r kind (runs.is_due reader s well r y run idle x here kind e), well.marks.due_has_rule r kind (runs.is_due reader s well r y run idle x here kind e));
          select = λ x here e. runs.never_select reader s well r y run idle x here e;
          wants = λ x e. absurd (runs.no_item_at reader s well r y run idle x e);
          waits = λ z e. refl;
          item_fits = λ x e. absurd (runs.no_item_at reader s well r y run idle x e);
          run_fits = λ z e.
              record {
                works = refl;
                most = le_trans (runs.no_longer z.rest) (well.content.run_length r z e);
                fit = runs.still_fit s (is_case_ident j) z.rest (well.content.run_fit r z e);
              };
          begins = λ n e. subst (Begins s r) (some_same part n e) begins;
        }

    begun_is_well : IsWell reader (change s r begun)
    begun_is_well = turned_is_well s r (Some part) begun (λ x. x) waits_then compensates well.parents reader well

  -- ---- as the run takes it

  abbrev taken : State
  taken = change s r (with_run taken_first)

  net_kept : (k : Ident) → net_part taken k ≡ net_part s k
  net_kept k = part-kept (λ x. x.net) (with_run taken_first) (λ x. refl) s.sites r k

  same_source : (name : List ℕ) → source_at taken j name ≡ source_at s j name
  same_source name =
      ap (λ (o : Option NetPart). if is_case_ident j then option_and_then (λ n. var_named n name) (option_and_then (net_by s) o) else option_and_then (λ x. given_named x name) (item_at taken j)) (net_kept j)
      ∙ ap (λ o. if is_case_ident j then option_and_then (λ n. var_named n name) (net_at s j) else option_and_then (λ x. given_named x name) o) (same_item_at s r j)

  abbrev begins_with : State → List ℕ → Spec → Net → Site → Site
  begins_with t name spec net x = stands (new_net name spec.top net (first_values (source_at t j) net)) (with_run (λ (z : RunPart). record z { waiting = true }) x)

  run_waits : (name : List ℕ) (spec : Spec) (net : Net) → run_part (change s r (λ x. begins_with s name spec net (with_run taken_first x))) r ≡ Some (waits_then y)
  run_waits name spec net =
      ap (option_and_then (λ (x : Site). x.run)) (get-update_same by_name s.sites r (λ x. begins_with s name spec net (with_run taken_first x))) ∙ mapped (get s.sites r) ∙ ap (option_map waits_then) run
    where
      mapped : (o : Option Site) → option_and_then (λ (x : Site). x.run) (option_map (λ x. begins_with s name spec net (with_run taken_first x)) o) ≡ option_map waits_then (option_and_then (λ (x : Site). x.run) o)
      mapped None = refl
      mapped (Some x) = to_waiting name spec net x.run
        where
          to_waiting : (name : List ℕ) (spec : Spec) (net : Net) (o : Option RunPart) → option_map (λ (z : RunPart). record z { waiting = true }) (option_map taken_first o) ≡ option_map waits_then o
          to_waiting name spec net None = refl
          to_waiting name spec net (Some z) = refl

  with_source : (name : List ℕ) (spec : Spec) (net : Net) (source : Valuation) → ((n : List ℕ) → source n ≡ source_at s j n) → IsWell reader (end_if_over (change s r (λ x. begins_with s name spec net (with_run taken_first x))) r)
      → IsWell reader (end_if_over (with_sites s (update (update s.sites r (with_run taken_first)) r (λ x. stands (new_net name spec.top net (first_values source net)) (with_run (λ (z : RunPart). record z { waiting = true }) x)))) r)
  with_source name spec net source same w =
      subst (λ (m : Sites). IsWell reader (end_if_over (with_sites s m) r)) (sym (updated_twice s.sites r (with_run taken_first) (λ x. stands (new_net name spec.top net (first_values source net)) (with_run (λ (z : RunPart). record z { waiting = true }) x))))
      (subst (λ (f : Valuation). IsWell reader (end_if_over (change s r (λ x. stands (new_net name spec.top net (first_values f net)) (with_run (λ (z : RunPart). record z { waiting = true }) (with_run taken_first x)))) r)) (λ i n. sym (same n) i) w)

  pub compensated_is_well : (name : List ℕ)
      → IsWell reader (end_if_over (if nat_lt (length r) depth_end then where_spec taken name (λ spec net. change taken r (begins_with taken name spec net)) else taken) r)
  compensated_is_well name = by_depth (nat_lt (length r) depth_end) refl
    where
      unchanged : IsWell reader (end_if_over taken r)
      unchanged = runs.taken_is_well reader s well r y run idle

      begins_here : (spec : Spec) (net : Net) → spec_called s name ≡ Some spec → slice_get spec.nets spec.top ≡ Some net → length r < depth_end → IsWell reader (end_if_over (change taken r (begins_with taken name spec net)) r)
      begins_here spec net called top short =
          with_source name spec net (source_at taken j) same_source
          (subst (λ (o : Option RunPart). IsWell reader (if is_some_and o is_over then with_sites s (Map.remove (update s.sites r (λ x. begins_with s name spec net (with_run taken_first x))) r) else change s r (λ x. begins_with s name spec net (with_run taken_first x))))
          (sym (run_waits name spec net)) (begun_is_well name spec net called top short))

      with_top : (spec : Spec) → spec_called s name ≡ Some spec → length r < depth_end → IsWell reader (end_if_over (where_some (top_called s name) taken (λ net. change taken r (begins_with taken name spec net))) r)
      with_top spec called short =
          by_option (top_called s name)
          (λ none. subst (λ o. IsWell reader (end_if_over (where_some o taken (λ net. change taken r (begins_with taken name spec net))) r)) (sym none) unchanged)
          (λ net top. subst (λ o. IsWell reader (end_if_over (where_some o taken (λ net. change taken r (begins_with taken name spec net))) r)) (sym top)
          (begins_here spec net called (ap (option_and_then top_net) (sym called) ∙ top) short))

      by_depth : (b : Bool) → nat_lt (length r) depth_end ≡ b → IsWell reader (end_if_over (if b then where_spec taken name (λ spec net. change taken r (begins_with taken name spec net)) else taken) r)
      by_depth false e = unchanged
      by_depth true e =
          by_option (spec_called s name)
          (λ none. subst (λ o. IsWell reader (end_if_over (where_some o taken (λ spec. where_some (top_called s name) taken (λ net. change taken r (begins_with taken name spec net)))) r)) (sym none) unchanged)
          (λ spec called. subst (λ o. IsWell reader (end_if_over (where_some o taken (λ spec. where_some (top_called s name) taken (λ net. change taken r (begins_with taken name spec net)))) r)) (sym called)
          (with_top spec called (ltb-true (length r) depth_end e)))
