-- Checks that pass, and exlets that begin.
use Rattle.std.proofs.Common.{ap, arith, sym, ◌+◌, ◌∙◌}
use Rattle.std.proofs.lemmas.Bool.{eqb-true, leb-true}
use Rattle.std.specs.Option.{option_map_or}
use Rattle.std.specs.Prelude.{Bool, List, None, Option, Some, [], false, if◌then◌else◌, length, option_and_then, option_map, refl, true, unwrap_or, ℕ, ◌==◌, ◌≡◌, ◌<◌, ◌≤◌}
use Rattle.yw_accepted.proofs.Loaded.{accepted_are_sound}
use Rattle.yw_base.specs.Identity.{most_numbers, number_end, parent}
use Rattle.yw_deeds.proofs.Deeds.{done_as, stands_all, tells_by}
use Rattle.yw_deeds.proofs.JudgedSo.{judged_node, none_judges}
use Rattle.yw_standing.proofs.Trying.{next_is, placed, placed_next}
use Rattle.yw_deeds.specs.Exlets.{excepts, passes, raises}
use Rattle.yw_standing.specs.Held.{StandsHeld}
use Rattle.yw_deeds.specs.Judging.{IsTreeAt}
use Rattle.yw_standing.specs.State.{state_of}
use Rattle.yw_standing.specs.Tried.{IsDone, LeadsOn, TellsLeads}
use Rattle.yw_standing.specs.declared.standing.Standing.{Standing}
use Rattle.yw_exlet.proofs.Allowed as exlet
use Rattle.yw_exlet.specs.Begins.{Concludes, Excepts, Raises, RunMayBegin}
use Rattle.yw_exlet.specs.Changes.{Passes}
use Rattle.yw_invariant.proofs.Levels as levels
use Rattle.yw_invariant.proofs.Places.{shorter}
use Rattle.yw_invariant.proofs.ReadyItems as items
use Rattle.yw_invariant.proofs.Tasks as tasks
use Rattle.yw_library.specs.Names.{names_of}
use Rattle.yw_nest.specs.Does.{NeedsNothing, all_else}
use Rattle.yw_state.proofs.Alike.{case_asks, item_asks}
use Rattle.yw_state.proofs.Tests.{and_left, and_right, by_option, by_test, never, nowhere}
use Rattle.yw_state.specs.After.{primitives_of, with_next}
use Rattle.yw_state.specs.Allowed.{allows, concludes, is_next, none_is_left}
use Rattle.yw_state.specs.Identity.{Ident, is_case_ident}
use Rattle.yw_state.specs.Judged.{Question, conclusion_at}
use Rattle.yw_state.specs.Map.{get}
use Rattle.yw_state.specs.Options.{is_some_and}
use Rattle.yw_state.specs.RuleTree.{concluded}
use Rattle.yw_state.specs.State.{ItemAt, Site, State, due_at, item_at, net_part, no_checks}
use Rattle.yw_state.specs.declared.event.Event.TheVariants as events
use Rattle.yw_state.specs.declared.part.Checks.{Checks}
use Rattle.yw_state.specs.declared.tree.Primitive.{Primitive}
use Rattle.yw_state.specs.declared.tree.TreeKind.{TreeKind}
use Rattle.yw_texts.specs.Texts.{reader}
use Rattle.yw_tree.specs.Coming.{TargetStands}
use Rattle.yw_tree.specs.declared.Forest.{Forest}

-- ---- what is due

abbrev due_in : Option Site → Checks
due_in o = unwrap_or (option_map (λ (x : Site). x.due) o) no_checks

pub due_there : (s : State) (j : Ident) (x : Site) → get s.sites j ≡ Some x → x.due ≡ due_at s j
due_there s j x here = sym (ap due_in here)

pub none_due : (s : State) (j : Ident) → get s.sites j ≡ None → no_checks ≡ due_at s j
none_due s j none = sym (ap due_in none)

-- ---- numbers

pub left_is : (h : Standing) → (h.next == number_end) ≡ none_is_left (state_of h)
left_is h = ap (λ k. k == number_end) (sym (next_is h))

-- ---- whether it may be

module _ (old : Standing) (j : Ident) (kind : TreeKind) where
  pub tells_pass : (b : Bool) → passes (state_of old) j kind ≡ b → TellsLeads old (events.Pass j kind) b
  unfolding allows
  tells_pass b e = tells_by old (events.Pass j kind) refl tt b (λ said. e)

  pub tells_except : (node n : ℕ) (b : Bool) → excepts (state_of old) j kind node n ≡ b → TellsLeads old (events.Except j kind node n) b
  unfolding allows
  tells_except node n b e = tells_by old (events.Except j kind node n) refl tt b (λ said. e)

  pub tells_raise : (node n : ℕ) (b : Bool) → raises (state_of old) j kind node n ≡ b → TellsLeads old (events.Raise j kind node n) b
  unfolding allows
  tells_raise node n b e = tells_by old (events.Raise j kind node n) refl tt b (λ said. e)

-- ---- a check passes, as is allowed

module _ (old : Standing) (held : StandsHeld old) (j : Ident) (check : TreeKind) (leads : LeadsOn old (events.Pass j check)) where
  pub pass_stands : TargetStands old.forest j
  pass_stands = exlet.passes (names_of old.known) old.forest (state_of old) j check leads.1.said (stands_all old held) leads.1.allowed

  pub passed : (f : Forest) → Passes j check old.forest f → IsDone old (events.Pass j check) (record old { forest = f })
  passed f does =
      done_as old held (λ names. events.Pass j check) NeedsNothing all_else (events.Pass j check) (record old { forest = f }) leads does tt refl (placed old f)

-- ---- an exlet begins, as is allowed

module _ (old : Standing) (held : StandsHeld old) (j : Ident) (kind : TreeKind) (node n : ℕ) where
  abbrev concludes_at : Bool → Option ItemAt → Bool
  concludes_at of_case o =
      is_some_and
      (option_and_then (λ (q : Question). concluded q.rules q.row)
      (if of_case then case_asks (state_of old) kind (net_part (state_of old) j) else item_asks (state_of old) kind o))
      (λ k. k == node)

  -- trees are judged at cases and items alone
  short : concludes (state_of old) j kind node ≡ true → length j < most_numbers
  short e =
      by_test (is_case_ident j)
      (λ case. let one = eqb-true (length j) 1 case in omega (arith, one))
      (λ no_case.
      by_option (item_at (state_of old) j)
      (λ none. never (ap (concludes_at false) (sym none) ∙ ap (λ b. concludes_at b (item_at (state_of old) j)) (sym no_case) ∙ e))
      (λ x item.
      let few = levels.net_is_short reader (state_of old) held.well accepted_are_sound (parent j) x.of_task.within (tasks.of_net (state_of old) j x item).within in
      let deep = items.deep reader (state_of old) held.well j x item in
      let more = shorter j (omega (arith, deep)) in
      omega (arith, few, more)))

  -- where there is no tree, none is concluded
  wanted : {A : Type 0} → concludes (state_of old) j kind node ≡ true → IsTreeAt (state_of old) j kind None → A
  wanted e tree = nowhere (sym (none_judges (state_of old) j kind tree) ∙ judged_node (state_of old) j kind node e)

  fits : is_next (state_of old) n ≡ true → n + 1 ≤ number_end
  fits e = leb-true (n + 1) number_end (and_right (n == (state_of old).next) _ e)

  module _ (leads : LeadsOn old (events.Except j kind node n)) where
    pub except_concludes : concludes (state_of old) j kind node ≡ true
    unfolding allows
    except_concludes = and_right _ _ (and_left _ _ leads.1.allowed.0)

    pub except_fits : n + 1 ≤ number_end
    unfolding allows
    except_fits = fits (and_right _ _ leads.1.allowed.0)

    pub except_wanted : {A : Type 0} → IsTreeAt (state_of old) j kind None → A
    except_wanted = wanted except_concludes

    pub except_may : RunMayBegin old.forest j n
    except_may =
        exlet.excepts (names_of old.known) old.forest (state_of old) j kind node n leads.1.said (stands_all old held) (short except_concludes) leads.1.allowed

    pub excepted : (f : Forest) (ps : List Primitive) → ps ≡ option_map_or primitives_of (conclusion_at (state_of old) j kind node) []
        → Excepts j kind node n ps old.forest f → IsDone old (events.Except j kind node n) (record old { forest = f; next = n + 1 })
    excepted f ps is does =
        done_as old held (λ names. events.Except j kind node n) (Concludes j kind node ps) (λ s. with_next s (n + 1)) (events.Except j kind node n)
        (record old { forest = f; next = n + 1 }) leads does is refl (placed_next old f (n + 1))

  module _ (leads : LeadsOn old (events.Raise j kind node n)) where
    pub raise_concludes : concludes (state_of old) j kind node ≡ true
    unfolding allows
    raise_concludes = and_right _ _ (and_left _ _ leads.1.allowed.0)

    pub raise_fits : n + 1 ≤ number_end
    unfolding allows
    raise_fits = fits (and_right _ _ leads.1.allowed.0)

    pub raise_wanted : {A : Type 0} → IsTreeAt (state_of old) j kind None → A
    raise_wanted = wanted raise_concludes

    pub raise_may : RunMayBegin old.forest j n
    raise_may =
        exlet.raises (names_of old.known) old.forest (state_of old) j kind node n leads.1.said (stands_all old held) (short raise_concludes) leads.1.allowed

    pub raised : (f : Forest) (ps : List Primitive) → ps ≡ option_map_or primitives_of (conclusion_at (state_of old) j kind node) []
        → Raises j kind node n ps old.forest f → IsDone old (events.Raise j kind node n) (record old { forest = f; next = n + 1 })
    raised f ps is does =
        done_as old held (λ names. events.Raise j kind node n) (Concludes j kind node ps) (λ s. with_next s (n + 1)) (events.Raise j kind node n)
        (record old { forest = f; next = n + 1 }) leads does is refl (placed_next old f (n + 1))
