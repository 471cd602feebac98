-- What a call supposes of a forest, where its event is allowed in the state.
use Rattle.std.proofs.Common.{Box, Global, arith, ap, inl, inr, refl, sym, ◌∙◌}
use Rattle.std.proofs.lemmas.Bool.{and_from, eqb-true, leb-true, lt-ltb, ltb-true}
use Rattle.std.proofs.lemmas.Slice.Eq.{bytes_eq-Decides}
use Rattle.std.specs.List.{list_all}
use Rattle.std.specs.Prelude.{◌≡◌, ◌≤◌, ◌<◌, ◌+◌, ◌++◌, ◌&&◌, ◌==◌, ◌∷◌, Bool, IsSome, List, None, Option, Some, [], false, if◌then◌else◌, is_some, length, nat_le, nat_lt, not, option_and_then, option_map, slice_get, true, ℕ}
use Rattle.yw_base.proofs.Parents.{identity_long}
use Rattle.yw_base.specs.Identity.{case_number, child, is_identity, is_number, most_numbers, number_end, parent}
use Rattle.yw_exlet.proofs.OwnSite.{run_is}
use Rattle.yw_exlet.proofs.Stands.{there_target}
use Rattle.yw_exlet.specs.Begins.{RunMayBegin}
use Rattle.yw_exlet.specs.Needs.{FitsTarget, MayTake}
use Rattle.yw_exlet.specs.Stands.{BareRunAt, RunAt, first_at, is_bare_run, is_run}
use Rattle.yw_nest.proofs.NetFound.{item_there, net_there}
use Rattle.yw_sites.proofs.Prefix.{child_length}
use Rattle.yw_spec.specs.declared.task.Task.{Task}
use Rattle.yw_state.proofs.Standing.{at_item_part, at_net_part, at_run_part}
use Rattle.yw_state.proofs.Tests.{and_left, and_right, by_option, by_test, is_not, map_some, never, nowhere, or_cases, some_same, then_some, there, there_and}
use Rattle.yw_state.specs.Allowed.{Allowed, allows, is_first, is_next, same_primitive}
use Rattle.yw_state.specs.Exlets.{case_above}
use Rattle.yw_state.specs.Identity.{Ident, is_case_ident}
use Rattle.yw_state.specs.Map.{get}
use Rattle.yw_state.specs.Options.{is_some_and}
use Rattle.yw_state.specs.State.{ItemAt, ItemPart, RunPart, Site, State, due_at, is_case, is_item, is_target, item_at, item_part, net_part, run_part}
use Rattle.yw_state.specs.Texts.{Said}
use Rattle.yw_state.specs.Words.{busy, has_check, is_first_due}
use Rattle.yw_state.specs.declared.event.Event.TheVariants as events
use Rattle.yw_state.specs.declared.part.Checks.{Checks}
use Rattle.yw_state.specs.declared.tree.Primitive.{Primitive}
use Rattle.yw_state.specs.declared.tree.Primitive.TheVariants as primitives
use Rattle.yw_state.specs.declared.tree.TreeKind.{TreeKind}
use Rattle.yw_state.specs.declared.tree.TreeKind.TheVariants.{Abort, External, Post, Pre, Select, Timeout}
use Rattle.yw_tree.proofs.BusyLaw.{busy_is}
use Rattle.yw_tree.proofs.FindLaw.{find_is, run_shown}
use Rattle.yw_tree.proofs.ItemWith.{no_case}
use Rattle.yw_tree.proofs.Parents.{identity_short}
use Rattle.yw_tree.proofs.RunFound.{run_at_case, run_at_item}
use Rattle.yw_tree.proofs.Stood.{found_in_map}
use Rattle.yw_tree.specs.Cases.{case_at}
use Rattle.yw_tree.specs.Coming.{TargetStands}
use Rattle.yw_tree.specs.Entries.{net_part_of, run_site}
use Rattle.yw_tree.specs.Forest.{item_of, item_of_case}
use Rattle.yw_tree.specs.Places.{hung_at, net_of_run, run_of, run_of_case, run_of_item}
use Rattle.yw_tree.specs.Ways.{net_of_item}
use Rattle.yw_tree.specs.Spots.{Part, a_case, a_run, an_item, part_at, part_site}
use Rattle.yw_tree.specs.declared.Case.{Case}
use Rattle.yw_tree.specs.declared.Forest.{Forest}
use Rattle.yw_tree.specs.declared.NetState.{NetState}
use Rattle.yw_tree.specs.declared.Run.{Run, out-Run}
use Rattle.yw_worklet.proofs.Known.{its_part}
use Rattle.yw_worklet.specs.Stands.{StandsAll}

-- ---- tests

first_is_due : (c : Checks) (kind : TreeKind) → is_first_due c kind ≡ true → has_check c kind ≡ true
first_is_due c Pre e = e
first_is_due c Select e = and_left c.select _ e
first_is_due c Post e = and_left c.post _ (and_left _ _ e)
first_is_due c External e = e
first_is_due c Timeout e = e
first_is_due c Abort e = e

none_from : {A : Type 0} (o : Option A) → is_some o ≡ false → o ≡ None
none_from None e = refl
none_from (Some x) e = never (sym e)

last_passes : (p : ℕ → Bool) (j : Ident) (n : ℕ) → list_all p (j ++ n ∷ []) ≡ true → p n ≡ true
last_passes p [] n e = and_left (p n) true e
last_passes p (k ∷ j) n e = last_passes p j n (and_right (p k) _ e)

same_is : (p q : Primitive) → same_primitive p q ≡ true → q ≡ p
same_is primitives.SuspendItem primitives.SuspendItem e = refl
same_is primitives.ContinueItem primitives.ContinueItem e = refl
same_is primitives.RestartItem primitives.RestartItem e = refl
same_is primitives.CompleteItem primitives.CompleteItem e = refl
same_is primitives.RemoveItem primitives.RemoveItem e = refl
same_is primitives.SuspendCase primitives.SuspendCase e = refl
same_is primitives.ContinueCase primitives.ContinueCase e = refl
same_is primitives.RemoveCase primitives.RemoveCase e = refl
same_is (primitives.Compensate a) (primitives.Compensate b) e = ap primitives.Compensate (sym ((bytes_eq-Decides a b).0 e))
same_is (primitives.Unknown a) (primitives.Unknown b) e = ap primitives.Unknown (sym ((bytes_eq-Decides a b).0 e))
same_is p q e = never e

first_is : (p : Primitive) (ps : List Primitive) → is_first p ps ≡ true → slice_get ps 0 ≡ Some p
first_is p [] e = never e
first_is p (q ∷ ps) e = ap Some (same_is p q e)

-- ---- identities

pub first_number : (r : Ident) → is_identity r ≡ true → is_number (case_number r) ≡ true
first_number [] i = never i
first_number (n ∷ r) i = and_left (is_number n) _ (and_right _ _ i)

pub case_identity : (r : Ident) → is_identity r ≡ true → is_identity (case_above r) ≡ true
case_identity r i = and_from true (is_number (case_number r) && true) refl (and_from (is_number (case_number r)) true (first_number r i) refl)

above_it : (r : Ident) → is_case_ident r ≡ false → 1 ≤ length r → case_number (parent r) ≡ case_number r
above_it [] below long = absurd (omega (arith, long))
above_it (n ∷ []) below long = never (sym below)
above_it (n ∷ m ∷ r) below long = refl

-- ---- cases and items

module _ (names : ℕ → List ℕ) (f : Forest) (s : State) (h : StandsAll names f s) where
  case_stands : (j : Ident) → is_case s j ≡ true → (is_identity j ≡ true) × TargetStands f j
  case_stands j e =
      let case = and_left (is_case_ident j) _ e in
      let p = there (net_part s j) (and_right (is_case_ident j) _ e) in
      let at = at_net_part s j p.0 p.1 in
      let i = h.numbers.identities j at.0 at.1 in
      let u = net_there names f h.boxed j i s h.sites p.0 p.1 in
      let c = map_some (λ (c : Case). c.net) (case_at (case_number j) f.cases) u.0
      (sym (ap (λ b. if b then option_map (λ (c : Case). c.net) (case_at (case_number j) f.cases) else net_below f j) case) ∙ u.1) in
      (i, ap (λ b. if b then is_some (case_at (case_number j) f.cases) else is_some (item_of f j)) case ∙ ap is_some c.1)
    where
      net_below : Forest → Ident → Option NetState
      net_below f j = if is_some (item_of f j) then net_of_item (item_of f j) else net_of_run (run_of f j)

  item_stands : (j : Ident) (y : ItemPart) → item_part s j ≡ Some y → (is_identity j ≡ true) × (is_case_ident j ≡ false) × TargetStands f j
  item_stands j y e =
      let at = at_item_part s j y e in
      let i = h.numbers.identities j at.0 at.1 in
      let n = item_there names f h.boxed j i s h.sites y e in
      let below = no_case f h.boxed j n.0 n.1 in
      (i, below, ap (λ b. if b then is_some (case_at (case_number j) f.cases) else is_some (item_of f j)) below ∙ ap is_some n.1)

  target_is : (j : Ident) → is_target s j ≡ true → (is_identity j ≡ true) × TargetStands f j
  target_is j e = elim (or_cases (is_case s j) (is_item s j) e) [
    | inl t ↦ case_stands j t
    | inr t ↦ (let y = there (item_part s j) t in let g = item_stands j y.0 y.1 in (g.0, g.2))
  ]

  -- ---- a run begins

  module _ (j : Ident) (n : ℕ) (room : length j < most_numbers) (target : is_target s j ≡ true) (idle : not (busy s j) ≡ true) (next : is_next s n ≡ true) where
    identity : is_identity j ≡ true
    identity = (target_is j target).0

    counter : n ≡ s.next
    counter = eqb-true n s.next (and_left _ (nat_le (n + 1) number_end) next)

    hangs_none : hung_at f j ≡ None
    hangs_none = none_from (hung_at f j) (sym (busy_is f h.boxed j (identity_long j identity) (identity_short j identity) names s h.sites) ∙ is_not (busy s j) idle)

    vacant : part_at f (child j n) ≡ None
    vacant =
        let k = child j n in
        let long = child_length j k (n, λ i. k) in
        let none : get s.sites k ≡ None = by_option (get s.sites k) (λ e. e)
        (λ x stands.
        let below : n < s.next = ltb-true n s.next (last_passes (λ m. nat_lt m s.next) j n (h.numbers.drawn k x stands)) in
        absurd (omega (arith, below, counter))) in
        none_from (part_at f k)
        (found_in_map f h.boxed k (omega (arith, long)) names (omega (arith, long, room)) ∙ ap is_some (sym (ap (λ m. get m k) h.sites) ∙ none))

    begins : RunMayBegin f j n
    begins =
        let least = h.numbers.least in
        let most : n + 1 ≤ number_end = leb-true (n + 1) number_end (and_right (n == s.next) _ next) in
        record {
          target = (target_is j target).1;
          idle = hangs_none;
          room = room;
          number = and_from (nat_lt 0 n) (nat_lt n number_end) (lt-ltb 0 n (omega (arith, least, counter))) (lt-ltb n number_end (omega (arith, most)));
          vacant = vacant;
        }

  -- ---- a run

  module _ (r : Ident) (x : RunPart) (at : run_part s r ≡ Some x) where
    run_identity : is_identity r ≡ true
    run_identity = let stands = at_run_part s r x at in h.numbers.identities r stands.0 stands.1

    long : 1 ≤ length r
    long = identity_long r run_identity

    found_run : (o : Option Part) → part_at f r ≡ o → option_and_then (λ (z : Site). z.run) (option_map (part_site names) o) ≡ Some x → IsSome (run_of f r)
    found_run None e t = nowhere t
    found_run (Some (a_case c)) e t = nowhere t
    found_run (Some (an_item n)) e t = nowhere t
    found_run (Some (a_run k)) e t = run_is f r k e

    run : (k : Run) × (run_of f r ≡ Some k)
    run =
        let short = identity_short r run_identity in
        there (run_of f r)
        (found_run (part_at f r) refl
        (sym (ap (option_and_then (λ (z : Site). z.run)) (find_is names f h.boxed r long (omega (arith, short)))) ∙ sym (ap (λ m. option_and_then (λ (z : Site). z.run) (get m r)) h.sites) ∙ at))

    pub runs : RunAt f r
    runs = λ others. ap (λ o. is_some_and o is_run) (run_shown others f h.boxed r long run.0 run.1)

    site_is : get s.sites r ≡ Some (run_site names run.0)
    site_is = ap (λ m. get m r) h.sites ∙ run_shown names f h.boxed r long run.0 run.1

    part_is : record { rest = (out-Run run.0).rest; waiting = (out-Run run.0).waiting } ≡ x
    part_is = some_same _ x (sym (ap (option_and_then (λ (z : Site). z.run)) site_is) ∙ at)

    pub takes_first : (p : Primitive) → is_first p x.rest ≡ true → first_at f r ≡ Some p
    takes_first p first =
        ap (option_and_then (λ (k : Run). slice_get (out-Run k).rest 0)) run.1 ∙ ap (λ (z : RunPart). slice_get z.rest 0) part_is ∙ first_is p x.rest first

    net_gone : (o : Option (Box NetState Global)) → net_part_of names o ≡ None → o ≡ None
    net_gone None e = refl
    net_gone (Some b) e = nowhere (sym e)

    bare : not x.waiting ≡ true → BareRunAt f r
    bare works =
        let none : net_part s r ≡ None = by_option (net_part s r) (λ e. e) (λ n e. never (sym (is_not x.waiting works) ∙ and_left x.waiting _ (h.nets.of_run r n x e at))) in
        let gone : (out-Run run.0).net ≡ None = net_gone (out-Run run.0).net (sym (ap (option_and_then (λ (z : Site). z.net)) site_is) ∙ none) in
        λ others. ap (λ o. is_some_and o is_bare_run) (run_shown others f h.boxed r long run.0 run.1) ∙ ap (λ o. not (is_some (net_part_of others o))) gone

    below : is_case_ident r ≡ false
    below = by_test (is_case_ident r) (λ t. let deep = h.parents.run_depth r x at in let one = eqb-true (length r) 1 t in absurd (omega (arith, deep, one))) (λ e. e)

    case_there : is_some (case_at (case_number r) f.cases) ≡ true
    case_there =
        by_test (is_case_ident (parent r))
        (λ case. ap is_some (then_some (run_of_case r) (case_at (case_number r) f.cases) run.0 (sym (run_at_case f r below case) ∙ run.1)).1)
        (λ other.
        let n = then_some (run_of_item r) (item_of f (parent r)) run.0 (sym (run_at_item f r below other) ∙ run.1) in
        let c = then_some (item_of_case (parent r)) (case_at (case_number (parent r)) f.cases) n.0 n.1 in
        ap (λ k. is_some (case_at k f.cases)) (sym (above_it r below long)) ∙ ap is_some c.1)

    fits : (item : Option Task) → option_map (λ (z : ItemAt). z.of_task.task) (item_at s (parent r)) ≡ item → FitsTarget (parent r) item
    fits item of = elim (or_cases (is_case s (parent r)) (is_item s (parent r)) (h.parents.run_of_target r x at)) [
      | inl t ↦
          (let case = and_left (is_case_ident (parent r)) _ t in
          let none : item_at s (parent r) ≡ None = by_option (item_at s (parent r)) (λ e. e)
          (λ z e.
          let deep = h.parents.item_depth (parent r) z.part (its_part s (parent r) z e) in
          let one = eqb-true (length (parent r)) 1 case in
          absurd (omega (arith, deep, one))) in
          sym (ap is_some of) ∙ ap (λ o. is_some (option_map (λ (z : ItemAt). z.of_task.task) o)) none ∙ sym (ap not case))
      | inr t ↦
          (let y = there (item_part s (parent r)) t in
          let z = there (item_at s (parent r)) (h.parents.item_of_net (parent r) y.0 y.1) in
          sym (ap is_some of) ∙ ap (λ o. is_some (option_map (λ (z : ItemAt). z.of_task.task) o)) z.1 ∙ sym (ap not (item_stands (parent r) y.0 y.1).1))
    ]

    pub may_take : (item : Option Task) → option_map (λ (z : ItemAt). z.of_task.task) (item_at s (parent r)) ≡ item → not x.waiting ≡ true → MayTake f item r
    may_take item of works =
        let target = target_is (parent r) (h.parents.run_of_target r x at) in
        record {
          runs = bare works;
          target = there_target f h.boxed (parent r) target.0 target.1;
          case = there_target f h.boxed (case_above r) (case_identity r run_identity) case_there;
          fits = fits item of;
        }

-- ---- where the event is allowed

module _ (names : ℕ → List ℕ) (f : Forest) (s : State) where
  pub suspends : (j : Ident) (said : Said) → StandsAll names f s → Allowed s (events.Suspend j) said → TargetStands f j
  unfolding allows
  suspends j said h allowed = (target_is names f s h j (and_left (is_target s j) _ allowed.0)).1

  pub resumes : (j : Ident) (said : Said) → StandsAll names f s → Allowed s (events.Continue j) said → TargetStands f j
  unfolding allows
  resumes j said h allowed = (target_is names f s h j (h.marks.suspended j allowed.0)).1

  pub passes : (j : Ident) (check : TreeKind) (said : Said) → StandsAll names f s → Allowed s (events.Pass j check) said → TargetStands f j
  unfolding allows
  passes j check said h allowed = (target_is names f s h j (h.marks.due j check (first_is_due (due_at s j) check (and_left _ _ (and_left _ _ allowed.0))))).1

  pub raises : (j : Ident) (kind : TreeKind) (node n : ℕ) (said : Said) → StandsAll names f s → length j < most_numbers → Allowed s (events.Raise j kind node n) said → RunMayBegin f j n
  unfolding allows
  raises j kind node n said h room allowed =
      let most = and_left _ _ (and_left _ _ allowed.0) in
      begins names f s h j n room (and_left _ _ (and_left _ _ most)) (and_right _ _ most) (and_right _ _ allowed.0)

  pub excepts : (j : Ident) (check : TreeKind) (node n : ℕ) (said : Said) → StandsAll names f s → length j < most_numbers → Allowed s (events.Except j check node n) said → RunMayBegin f j n
  unfolding allows
  excepts j check node n said h room allowed =
      let comes = and_right _ _ (and_left _ _ (and_left _ _ allowed.0)) in
      begins names f s h j n room (h.marks.due j check (first_is_due (due_at s j) check (and_left _ _ comes))) (and_right _ _ comes) (and_right _ _ allowed.0)

  pub prim_may : (r : Ident) (p : Primitive) (item : Option Task) (said : Said) → StandsAll names f s → option_map (λ (z : ItemAt). z.of_task.task) (item_at s (parent r)) ≡ item
      → Allowed s (events.Prim r p) said → MayTake f item r
  unfolding allows
  prim_may r p item said h of allowed = let x = there_and (run_part s r) _ allowed.0 in may_take names f s h r x.0 x.1 item of (and_left _ _ x.2)

  pub prim_first : (r : Ident) (p : Primitive) (said : Said) → StandsAll names f s → Allowed s (events.Prim r p) said → first_at f r ≡ Some p
  unfolding allows
  prim_first r p said h allowed = let x = there_and (run_part s r) _ allowed.0 in takes_first names f s h r x.0 x.1 p (and_right _ _ x.2)

  pub ends : (r : Ident) (said : Said) → StandsAll names f s → Allowed s (events.Compensated r) said → RunAt f r
  unfolding allows
  ends r said h allowed = let x = there_and (run_part s r) _ (and_left _ _ (and_left _ _ allowed.0)) in runs names f s h r x.0 x.1
