-- Cases and items that are suspended, and that go on.
use Rattle.std.proofs.Common.{ap, arith, subst, sym, ◌∙◌}
use Rattle.std.specs.Prelude.{Bool, List, None, Option, Some, false, if◌then◌else◌, is_some, not, option_and_then, option_map, refl, true, ℕ, ◌&&◌, ◌||◌, ◌≡◌}
use Rattle.yw_base.proofs.Parents.{identity_long}
use Rattle.yw_base.specs.Identity.{case_number, is_identity}
use Rattle.yw_deeds.proofs.Deeds.{done_as, stands_all, tells_by}
use Rattle.yw_standing.proofs.Trying.{placed}
use Rattle.yw_standing.specs.Held.{StandsHeld}
use Rattle.yw_deeds.specs.Marks.{mark_at, mark_of}
use Rattle.yw_standing.specs.State.{state_of}
use Rattle.yw_standing.specs.Tried.{IsDone, LeadsOn, TellsLeads}
use Rattle.yw_standing.specs.declared.standing.Standing.{Standing}
use Rattle.yw_exlet.proofs.Allowed.{resumes, suspends}
use Rattle.yw_exlet.specs.Changes.{Continues, Suspends}
use Rattle.yw_library.specs.Names.{names_of}
use Rattle.yw_nest.specs.Does.{NeedsNothing, all_else}
use Rattle.yw_state.proofs.Tests.{by_test}
use Rattle.yw_state.specs.Allowed.{allows}
use Rattle.yw_state.specs.Identity.{Ident, is_case_ident}
use Rattle.yw_state.specs.Map.{get}
use Rattle.yw_state.specs.Options.{is_some_and}
use Rattle.yw_state.specs.State.{Site, State, is_suspended, is_target}
use Rattle.yw_state.specs.Texts.{Said}
use Rattle.yw_state.specs.declared.event.Event.TheVariants as events
use Rattle.yw_tree.proofs.FindLaw.{find_is}
use Rattle.yw_tree.proofs.Parents.{identity_short}
use Rattle.yw_tree.specs.Cases.{case_at}
use Rattle.yw_tree.specs.Coming.{TargetStands}
use Rattle.yw_tree.specs.Forest.{IsForest, item_of, sites_of}
use Rattle.yw_tree.specs.Places.{run_of}
use Rattle.yw_tree.specs.Spots.{Part, a_case, a_run, an_item, item_or_run, part_at, part_site}
use Rattle.yw_tree.specs.declared.Case.{Case}
use Rattle.yw_tree.specs.declared.Forest.{Forest}
use Rattle.yw_tree.specs.declared.Node.{Node}
use Rattle.yw_tree.specs.declared.Run.{Run}

-- ---- what the map has at an identity

abbrev has_net : Option Site → Bool
has_net o = is_some (option_and_then (λ (x : Site). x.net) o)

abbrev has_item : Option Site → Bool
has_item o = is_some (option_and_then (λ (x : Site). x.item) o)

abbrev has_mark : Option Site → Bool
has_mark o = is_some_and o (λ (x : Site). x.suspended)

-- a case or an item stands there; `top` says that it is a case's identity
abbrev stands_as : Bool → Option Site → Bool
stands_as top o = top && has_net o || has_item o

-- and it isn't suspended
abbrev may_be_marked : Bool → Option Site → Bool
may_be_marked top o = stands_as top o && not (has_mark o)

module _ (names : ℕ → List ℕ) where
  abbrev site_of : Option Part → Option Site
  site_of = option_map (part_site names)

  case_unmarked : (o : Option Case) → may_be_marked true (site_of (option_map a_case o)) ≡ is_some_and (option_and_then mark_of (option_map a_case o)) not
  case_unmarked None = refl
  case_unmarked (Some c) = refl

  rest_unmarked : (o : Option Node) (u : Option Run) → may_be_marked false (site_of (item_or_run o u)) ≡ is_some_and (option_and_then mark_of (item_or_run o u)) not
  rest_unmarked None None = refl
  rest_unmarked None (Some r) = refl
  rest_unmarked (Some n) u = refl

  case_stands : (o : Option Case) → stands_as true (site_of (option_map a_case o)) ≡ is_some (option_and_then mark_of (option_map a_case o))
  case_stands None = refl
  case_stands (Some c) = refl

  rest_stands : (o : Option Node) (u : Option Run) → stands_as false (site_of (item_or_run o u)) ≡ is_some (option_and_then mark_of (item_or_run o u))
  rest_stands None None = refl
  rest_stands None (Some r) = refl
  rest_stands (Some n) u = refl

  part_marked : (o : Option Part) → has_mark (site_of o) ≡ is_some_and (option_and_then mark_of o) (λ b. b)
  part_marked None = refl
  part_marked (Some (a_case c)) = refl
  part_marked (Some (an_item n)) = refl
  part_marked (Some (a_run r)) = refl

  module _ (f : Forest) (boxed : IsForest f) (j : Ident) (identity : is_identity j ≡ true) (s : State) (sites : s.sites ≡ sites_of names f) where
    site_is : get s.sites j ≡ site_of (part_at f j)
    site_is = let short = identity_short j identity in ap (λ m. get m j) sites ∙ find_is names f boxed j (identity_long j identity) (omega (arith, short))

    abbrev of_case : Option Part
    of_case = option_map a_case (case_at (case_number j) f.cases)

    abbrev of_rest : Option Part
    of_rest = item_or_run (item_of f j) (run_of f j)

    -- at a part that is found so
    abbrev unmarked_for : Bool → Type 0
    unmarked_for top = may_be_marked top (site_of (if top then of_case else of_rest)) ≡ is_some_and (option_and_then mark_of (if top then of_case else of_rest)) not

    part_unmarked : unmarked_for (is_case_ident j)
    part_unmarked =
        by_test (is_case_ident j)
        (λ case. subst unmarked_for (sym case) (case_unmarked (case_at (case_number j) f.cases)))
        (λ other. subst unmarked_for (sym other) (rest_unmarked (item_of f j) (run_of f j)))

    abbrev target_for : Bool → Type 0
    target_for top = stands_as top (site_of (if top then of_case else of_rest)) ≡ is_some (option_and_then mark_of (if top then of_case else of_rest))

    part_target : target_for (is_case_ident j)
    part_target =
        by_test (is_case_ident j)
        (λ case. subst target_for (sym case) (case_stands (case_at (case_number j) f.cases)))
        (λ other. subst target_for (sym other) (rest_stands (item_of f j) (run_of f j)))

    pub target_is : is_target s j ≡ is_some (mark_at f j)
    target_is = ap (stands_as (is_case_ident j)) site_is ∙ part_target

    pub unmarked_is : (is_target s j && not (is_suspended s j)) ≡ is_some_and (mark_at f j) not
    unmarked_is = ap (may_be_marked (is_case_ident j)) site_is ∙ part_unmarked

    pub marked_is : is_suspended s j ≡ is_some_and (mark_at f j) (λ b. b)
    marked_is = ap has_mark site_is ∙ part_marked (part_at f j)

-- ---- whether it may be

module _ (old : Standing) (held : StandsHeld old) (j : Ident) where
  module _ (identity : is_identity j ≡ true) where
    suspend_as : (said : Said) → allows (state_of old) (events.Suspend j) said ≡ is_some_and (mark_at old.forest j) not
    unfolding allows
    suspend_as said = unmarked_is (names_of old.known) old.forest held.boxed j identity (state_of old) held.sites

    continue_as : (said : Said) → allows (state_of old) (events.Continue j) said ≡ is_some_and (mark_at old.forest j) (λ b. b)
    unfolding allows
    continue_as said = marked_is (names_of old.known) old.forest held.boxed j identity (state_of old) held.sites

    pub tells_suspend : (b : Bool) → is_some_and (mark_at old.forest j) not ≡ b → TellsLeads old (events.Suspend j) b
    tells_suspend b e = tells_by old (events.Suspend j) refl tt b (λ said. suspend_as said ∙ e)

    pub tells_continue : (b : Bool) → is_some_and (mark_at old.forest j) (λ z. z) ≡ b → TellsLeads old (events.Continue j) b
    tells_continue b e = tells_by old (events.Continue j) refl tt b (λ said. continue_as said ∙ e)

  -- ---- where it is allowed

  module _ (leads : LeadsOn old (events.Suspend j)) where
    pub suspend_stands : TargetStands old.forest j
    suspend_stands = suspends (names_of old.known) old.forest (state_of old) j leads.1.said (stands_all old held) leads.1.allowed

    pub suspended : (f : Forest) → Suspends j old.forest f → IsDone old (events.Suspend j) (record old { forest = f })
    suspended f does = done_as old held (λ names. events.Suspend j) NeedsNothing all_else (events.Suspend j) (record old { forest = f }) leads does tt refl (placed old f)

  module _ (leads : LeadsOn old (events.Continue j)) where
    pub continue_stands : TargetStands old.forest j
    continue_stands = resumes (names_of old.known) old.forest (state_of old) j leads.1.said (stands_all old held) leads.1.allowed

    pub continued : (f : Forest) → Continues j old.forest f → IsDone old (events.Continue j) (record old { forest = f })
    continued f does = done_as old held (λ names. events.Continue j) NeedsNothing all_else (events.Continue j) (record old { forest = f }) leads does tt refl (placed old f)
