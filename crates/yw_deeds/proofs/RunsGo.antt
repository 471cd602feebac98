-- Runs that take their primitives, and that go on after their compensations.
use Rattle.std.proofs.Common.{ap, arith, subst, sym, ◌∙◌}
use Rattle.std.proofs.lemmas.Bool.{eqb-true}
use Rattle.std.specs.Borrow.{Bor}
use Rattle.std.specs.Option.{option_copied}
use Rattle.std.specs.Prelude.{Bool, IfSome, List, None, Option, Some, cond, false, length, option_and_then, option_map, refl, slice_get, true, ℕ, ◌&&◌, ◌∷◌, [], ◌≡◌}
use Rattle.yw_base.proofs.Parents.{identity_long}
use Rattle.yw_base.specs.Identity.{case_number, is_identity, parent}
use Rattle.yw_deeds.proofs.Deeds.{done_as, stands_all, tells_by}
use Rattle.yw_standing.proofs.Trying.{placed, placed_over}
use Rattle.yw_standing.specs.Held.{StandsHeld}
use Rattle.yw_deeds.specs.Runs.{IsOfName, Notes, is_compensated, is_same, its_net, its_task, named_in, run_part_of, takes_next}
use Rattle.yw_standing.specs.State.{state_of}
use Rattle.yw_standing.specs.Tried.{IsDone, LeadsOn, TellsLeads}
use Rattle.yw_standing.specs.declared.standing.Standing.{Standing}
use Rattle.yw_exlet.proofs.Allowed.{case_identity, ends, prim_first, prim_may}
use Rattle.yw_exlet.proofs.Stands.{target_there}
use Rattle.yw_exlet.specs.Needs.{ComesOf, Compensates, IsNamed, MayTake, Takes, TakesAs, left, named_spec, outcome_of}
use Rattle.yw_exlet.specs.Stands.{RunAt}
use Rattle.yw_exlet.specs.declared.first.Outcome.{Outcome}
use Rattle.yw_known.proofs.Items.{case_is}
use Rattle.yw_known.proofs.Standing.{kept_called, kept_named, kept_within, specs_are}
use Rattle.yw_library.specs.Holdings as library
use Rattle.yw_library.specs.Holdings.{Holdings}
use Rattle.yw_library.specs.Held.{IsHeld}
use Rattle.yw_library.specs.Names.{names_of}
use Rattle.yw_nest.specs.Does.{NeedsNothing, all_else}
use Rattle.yw_spec.specs.declared.spec.Net.{Net}
use Rattle.yw_spec.specs.declared.spec.Spec.{Spec}
use Rattle.yw_spec.specs.declared.task.Task.{Task}
use Rattle.yw_state.proofs.Standing.{at_run_part}
use Rattle.yw_state.proofs.Tests.{and_right, by_option, by_test, nowhere, some_same, there, there_and}
use Rattle.yw_state.specs.After.{with_sites}
use Rattle.yw_state.specs.Allowed.{allows, is_first, same_primitive}
use Rattle.yw_state.specs.Exlets.{case_above}
use Rattle.yw_state.specs.Identity.{Ident, is_case_ident}
use Rattle.yw_state.specs.Map.{get}
use Rattle.yw_state.specs.Options.{is_some_and}
use Rattle.yw_state.specs.State.{RunPart, Site, State, is_case, item_at, net_at, net_part, run_part}
use Rattle.yw_state.specs.declared.event.Event.TheVariants as events
use Rattle.yw_state.specs.declared.loaded.Loaded.{Loaded}
use Rattle.yw_state.specs.declared.part.Checks.{Checks}
use Rattle.yw_state.specs.declared.part.Way.{Way}
use Rattle.yw_state.specs.declared.part.Way.TheVariants.{Removed}
use Rattle.yw_state.specs.declared.tree.Primitive.{Primitive}
use Rattle.yw_state.specs.declared.tree.Primitive.TheVariants as primitives
use Rattle.yw_tree.proofs.FindLaw.{find_is, run_shown}
use Rattle.yw_tree.proofs.Parents.{identity_short}
use Rattle.yw_tree.specs.Cases.{case_at}
use Rattle.yw_tree.specs.Forest.{IsForest, item_of, sites_of}
use Rattle.yw_tree.specs.Places.{run_of}
use Rattle.yw_tree.specs.Spots.{Part, a_case, item_or_run, part_at, part_site}
use Rattle.yw_tree.specs.declared.Case.{Case}
use Rattle.yw_tree.specs.declared.Forest.{Forest}
use Rattle.yw_tree.specs.declared.Node.{Node}
use Rattle.yw_tree.specs.declared.Run.{Run}
use Rattle.yw_within.specs.Within.{IsWithin}

-- ---- primitives that are the same

pub same_so : (p q : Primitive) → is_same p q ≡ same_primitive p q
same_so primitives.SuspendItem primitives.SuspendItem = refl
same_so primitives.ContinueItem primitives.ContinueItem = refl
same_so primitives.RestartItem primitives.RestartItem = refl
same_so primitives.CompleteItem primitives.CompleteItem = refl
same_so primitives.RemoveItem primitives.RemoveItem = refl
same_so primitives.SuspendCase primitives.SuspendCase = refl
same_so primitives.ContinueCase primitives.ContinueCase = refl
same_so primitives.RemoveCase primitives.RemoveCase = refl
same_so (primitives.Compensate a) (primitives.Compensate b) = refl
same_so (primitives.Unknown a) (primitives.Unknown b) = refl
same_so p q = refl

-- ---- the first of a list

pub first_is : (p : Primitive) (ps : List Primitive) (q : Primitive) → slice_get ps 0 ≡ Some q → is_first p ps ≡ same_primitive p q
first_is p [] q e = nowhere e
first_is p (x ∷ ps) q e = ap (same_primitive p) (some_same x q e)

pub first_none : (p : Primitive) (ps : List Primitive) → slice_get ps 0 ≡ None → is_first p ps ≡ false
first_none p [] e = refl
first_none p (x ∷ ps) e = nowhere (sym e)

-- ---- the run that a state has at an identity

module _ (names : ℕ → List ℕ) (f : Forest) (boxed : IsForest f) (r : Ident) (identity : is_identity r ≡ true) (s : State) (sites : s.sites ≡ sites_of names f) where
  abbrev run_in : Option Site → Option RunPart
  run_in o = option_and_then (λ (x : Site). x.run) o

  abbrev run_in_part : Option Part → Option RunPart
  run_in_part o = run_in (option_map (part_site names) o)

  no_run_case : (o : Option Case) → run_in_part (option_map a_case o) ≡ None
  no_run_case None = refl
  no_run_case (Some c) = refl

  no_run_item : (o : Option Node) → run_in_part (item_or_run o None) ≡ None
  no_run_item None = refl
  no_run_item (Some n) = refl

  abbrev of_case : Option Part
  of_case = option_map a_case (case_at (case_number r) f.cases)

  abbrev of_rest : Option Part
  of_rest = item_or_run (item_of f r) (run_of f r)

  none_found : run_of f r ≡ None → run_in_part (part_at f r) ≡ None
  none_found e =
      by_test (is_case_ident r)
      (λ case. ap (λ b. run_in_part (cond b of_case of_rest)) case ∙ no_run_case (case_at (case_number r) f.cases))
      (λ other. ap (λ b. run_in_part (cond b of_case of_rest)) other ∙ ap (λ o. run_in_part (item_or_run (item_of f r) o)) e ∙ no_run_item (item_of f r))

  run_is : run_part s r ≡ option_map run_part_of (run_of f r)
  run_is =
      let long = identity_long r identity in
      let short = identity_short r identity in
      by_option (run_of f r)
      (λ (e : run_of f r ≡ None).
      ap (λ m. run_in (get m r)) sites ∙ ap run_in (find_is names f boxed r long (omega (arith, short))) ∙ none_found e ∙ sym (ap (option_map run_part_of) e))
      (λ (k : Run) (e : run_of f r ≡ Some k). ap (λ m. run_in (get m r)) sites ∙ ap run_in (run_shown names f boxed r long k e) ∙ sym (ap (option_map run_part_of) e))

  -- what is asked of it is asked of the one that is found
  pub run_passes : (k : Run) → run_of f r ≡ Some k → (p : RunPart → Bool) → is_some_and (run_part s r) p ≡ p (run_part_of k)
  run_passes k e p = ap (λ o. is_some_and o p) (run_is ∙ ap (option_map run_part_of) e)

  pub run_fails : run_of f r ≡ None → (p : RunPart → Bool) → is_some_and (run_part s r) p ≡ false
  run_fails e p = ap (λ o. is_some_and o p) (run_is ∙ ap (option_map run_part_of) e)

module _ (old : Standing) (held : StandsHeld old) (r : Ident) (identity : is_identity r ≡ true) where
  pub passes_so : (k : Run) → run_of old.forest r ≡ Some k → (p : RunPart → Bool) → is_some_and (run_part (state_of old) r) p ≡ p (run_part_of k)
  passes_so = run_passes (names_of old.known) old.forest held.boxed r identity (state_of old) held.sites

  pub fails_so : run_of old.forest r ≡ None → (p : RunPart → Bool) → is_some_and (run_part (state_of old) r) p ≡ false
  fails_so = run_fails (names_of old.known) old.forest held.boxed r identity (state_of old) held.sites

-- ---- whether it takes a primitive, or its compensation ends

module _ (old : Standing) (r : Ident) where
  pub tells_prim : (p : Primitive) (b : Bool) → is_some_and (run_part (state_of old) r) (takes_next p) ≡ b → TellsLeads old (events.Prim r p) b
  unfolding allows
  tells_prim p b e = tells_by old (events.Prim r p) refl tt b (λ said. e)

  pub tells_compensated : (b : Bool) → is_compensated (state_of old) r ≡ b → TellsLeads old (events.Compensated r) b
  unfolding allows
  tells_compensated b e = tells_by old (events.Compensated r) refl tt b (λ said. e)

-- ---- its compensation ends, as is allowed

module _ (old : Standing) (held : StandsHeld old) (r : Ident) (leads : LeadsOn old (events.Compensated r)) where
  pub run_stands : RunAt old.forest r
  run_stands = ends (names_of old.known) old.forest (state_of old) r leads.1.said (stands_all old held) leads.1.allowed

  pub compensated : (f : Forest) → Compensates r old.forest f → IsDone old (events.Compensated r) (record old { forest = f })
  compensated f does =
      done_as old held (λ names. events.Compensated r) NeedsNothing all_else (events.Compensated r) (record old { forest = f }) leads does tt refl (placed old f)

-- ---- what a primitive names

module _ (known : Holdings) (f : Forest) (s : State) (h : IsHeld known f s) where
  loaded_so : (name : List ℕ) (found : Option (Bor Spec × ℕ)) → IsOfName known (Some name) found → IsNamed (names_of known) s (primitives.Compensate name) (option_map named_spec found)
  loaded_so name None none =
      ap (λ z. option_map (λ (l : Loaded). l.spec) (get z name)) (specs_are known f s h) ∙ ap (option_map (λ (l : Loaded). l.spec)) none
  loaded_so name (Some e) kept = (kept_named known f s h name e.0.now e.1 kept, kept_called known f s h name e.0.now e.1 kept)

  pub named_so : (p : Primitive) (found : Option (Bor Spec × ℕ)) → IsOfName known (named_in p) found → IsNamed (names_of known) s p (option_map named_spec found)
  named_so (primitives.Compensate name) found is = loaded_so name found is
  named_so p found is = tt

pub within_so : (known : Holdings) (o : Option (List ℕ)) (found : Option (Bor Spec × ℕ)) → IsOfName known o found → IfSome found (λ e. IsWithin e.0.now)
within_so known o None is = tt
within_so known None (Some e) is = nowhere (sym is)
within_so known (Some name) (Some e) kept = kept_within known name e.0.now e.1 kept

-- ---- the run takes a primitive, as is allowed

module _ (old : Standing) (held : StandsHeld old) (r : Ident) (p : Primitive) (leads : LeadsOn old (events.Prim r p)) where
  -- the run stands, so its identity isn't a case's
  pub run_below : is_case_ident r ≡ false
  unfolding allows
  run_below =
      let x = there_and (run_part (state_of old) r) _ leads.1.allowed.0 in
      let deep = held.well.parents.run_depth r x.0 x.1 in
      by_test (is_case_ident r) (λ case. let one = eqb-true (length r) 1 case in absurd (omega (arith, deep, one))) (λ other. other)

  pub run_may : (item : Option Task) → item ≡ option_map its_task (item_at (state_of old) (parent r)) → MayTake old.forest item r
  run_may item is = prim_may (names_of old.known) old.forest (state_of old) r p item leads.1.said (stands_all old held) (sym is) leads.1.allowed

  -- the case in which it runs has a net
  pub case_found : (o : Option (Bor Net)) → o ≡ None → option_copied o ≡ option_map its_net (net_at (state_of old) (case_above r)) → ⊥
  unfolding allows
  case_found o none is =
      let x = there_and (run_part (state_of old) r) _ leads.1.allowed.0 in
      let at = at_run_part (state_of old) r x.0 x.1 in
      let identity = case_identity r (held.well.numbers.identities r at.0 at.1) in
      let may = run_may (option_map its_task (item_at (state_of old) (parent r))) refl in
      let stands = target_there old.forest held.boxed (case_above r) identity may.case in
      let case : is_case (state_of old) (case_above r) ≡ true = case_is old.known old.forest (state_of old) held (case_number r) ∙ stands in
      let part = there (net_part (state_of old) (case_above r)) (and_right (is_case_ident (case_above r)) _ case) in
      let net = there (net_at (state_of old) (case_above r)) (held.well.content.of_spec (case_above r) part.0 part.1) in
      nowhere (ap option_copied (sym none) ∙ is ∙ ap (option_map its_net) net.1)

  module _ (f : Forest) (es : List (ℕ × Way)) where
    abbrev over : Standing
    over = record old { forest = f; ended = es }

    none_over : (outcome : Option Outcome) → outcome ≡ None → Notes outcome (case_number r) old.ended es → with_sites (state_of old) (sites_of (names_of old.known) f) ≡ state_of over
    none_over outcome none notes =
        let same : es ≡ old.ended = subst (λ o. Notes o (case_number r) old.ended es) none notes in
        placed old f ∙ ap (λ (z : List (ℕ × Way)). let h : Standing = record old { forest = f; ended = z } in state_of h) (sym same)

    left_over : (q : Primitive) (outcome : Option Outcome) → outcome ≡ outcome_of q → Notes outcome (case_number r) old.ended es
        → with_sites (left r q (state_of old)) (sites_of (names_of old.known) f) ≡ state_of over
    left_over primitives.RemoveCase outcome comes notes =
        placed_over old f es (case_number r) Removed (subst (λ o. Notes o (case_number r) old.ended es) comes notes)
    left_over q outcome comes notes = none_over outcome comes notes

    pub taken : (top : Net) (item : Option Task) (comp : Option (Spec × ℕ)) (due : Checks) (outcome : Option Outcome)
        → TakesAs top item comp due r p (names_of old.known) (state_of old) → Takes top item comp due r old.forest f → ComesOf old.forest r outcome
        → Notes outcome (case_number r) old.ended es → IsDone old (events.Prim r p) over
    taken top item comp due outcome wants takes comes notes =
        let first = prim_first (names_of old.known) old.forest (state_of old) r p leads.1.said (stands_all old held) leads.1.allowed in
        done_as old held (λ names. events.Prim r p) (TakesAs top item comp due r p) (left r p) (events.Prim r p) over leads (takes p first) wants refl
        (left_over p outcome (comes p first) notes)
