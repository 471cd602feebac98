-- Under an item that is done nothing stands, and nothing is open there; so an exit whose items are all done, and which empties no other task, leaves
-- all open work standing.
use Rattle.std.specs.Prelude.{◌≡◌, ◌≤◌, ◌⊎◌, ℕ, zero, suc, ◌==◌, ◌&&◌, ◌||◌, Bool, true, false, not, List, [], ◌∷◌, length, None, Option, Some, is_none, is_some, option_and_then, refl, if◌then◌else◌}
use Rattle.std.specs.List.{list_all, list_any}
use Rattle.std.proofs.Common.{sym, ◌∙◌, ap, inl, inr, arith}
use Rattle.std.proofs.lemmas.Bool.{and_from, and_parts, eq-eqb, eqb-true, false_from_ne_true, or_left, or_right}
use Rattle.yw_base.proofs.Parents.{identity_long}
use Rattle.yw_base.specs.Identity.{parent, under}
use Rattle.yw_idle.proofs.Parts.{part_kept}
use Rattle.yw_moved.proofs.Parents.{is_same, itself_or_above, same_itself, under_itself}
use Rattle.yw_state.proofs.Clear.{some_stands}
use Rattle.yw_state.proofs.Entries.{IsIn, comes_from, find-entry, mapped_in}
use Rattle.yw_state.proofs.MapLemmas.{by_name}
use Rattle.yw_state.proofs.Standing.{Standing, at_item, at_item_part, at_net, at_net_part, at_task}
use Rattle.yw_state.proofs.Tests.{and_left, by_option, by_test, is_not, map_some, never, nowhere, or_cases, some_same, then_some, there, there_and}
use Rattle.yw_state.proofs.Under.{shorter, under_parent}
use Rattle.yw_state.specs.Allowed.{Allowed}
use Rattle.yw_state.specs.Events.{after}
use Rattle.yw_state.specs.Gone.{exit_removes, removes, under_item}
use Rattle.yw_state.specs.Identity.{Ident, is_case_ident, is_child, same}
use Rattle.yw_state.specs.Map.{entries, get}
use Rattle.yw_state.specs.Nets.{is_atomic}
use Rattle.yw_state.specs.Options.{is_some_and}
use Rattle.yw_state.specs.State.{State, Site, ItemAt, ItemPart, RunPart, TaskAt, if_of_task, is_case, is_item, item_at, item_of_task, item_part, items_of, net_at, net_part, run_part, task_at, task_in}
use Rattle.yw_state.specs.Texts.{Reader, Said}
use Rattle.yw_state.specs.Well.{IsWell, Stands}
use Rattle.yw_state.specs.Words.{busy, done, is_completed, is_executing, is_ready}
use Rattle.yw_state.specs.declared.answer.What.{What}
use Rattle.yw_state.specs.declared.answer.What.TheVariants.{Enter, Start, Complete}
use Rattle.yw_state.specs.declared.event.Event.{Event}
use Rattle.yw_state.specs.declared.event.Event.TheVariants as events
use Rattle.yw_state.specs.declared.part.Stage.{Stage}
use Rattle.yw_state.specs.declared.part.Stage.TheVariants.{Ready, Executing, Completed}
use Rattle.yw_spec.specs.declared.spec.Place.{Place}
use Rattle.yw_work.proofs.Entry.{open_stands}
use Rattle.yw_work.specs.Exits.{exits_done}
use Rattle.yw_work.specs.Open.{IsOpen}
use Rattle.yw_work.specs.declared.open.By.{By}

not_completed : (stage : Stage) → is_completed stage ≡ true → (is_ready stage ≡ true) ⊎ (is_executing stage ≡ true) → ⊥
not_completed Ready over other = never over
not_completed Executing over other = never over
not_completed Completed over (inl ready) = never ready
not_completed Completed over (inr runs) = never runs

module _ {reader : Reader} (s : State) (well : IsWell reader s) where
  -- ---- what stands, stands in or at something

  above_item : (j : Ident) → is_some (item_part s j) ≡ true → Standing s (parent j)
  above_item j some =
      let (part, is) = there (item_part s j) some in
      let (x, at) = there (item_at s j) (well.parents.item_of_net j part is) in
      let (p, here, inner) = then_some _ (item_part s j) x at in
      let (n, found, made) = then_some _ (net_at s (parent j)) x inner in at_net s (parent j) n found

  above_run : (j : Ident) (r : RunPart) → run_part s j ≡ Some r → Standing s (parent j)
  above_run j r is = elim (or_cases (is_case s (parent j)) (is_item s (parent j)) (well.parents.run_of_target j r is)) [
    | inl case ↦ let (n, here) = there (net_part s (parent j)) (and_parts (is_case_ident (parent j)) _ case).1 in at_net_part s (parent j) n here
    | inr item ↦ let (p, here) = there (item_part s (parent j)) item in at_item_part s (parent j) p here
  ]

  -- an item, a run, or the case's own net stands at j
  kinds_at : (j : Ident) (x : Site) → Stands s j x → (is_case_ident j || is_some (item_part s j) || is_some (run_part s j)) ≡ true
  kinds_at j x stands = elim (or_cases (is_some x.net || is_some x.item) (is_some x.run) (well.parents.something j x stands)) [
    | inl most ↦ elim (or_cases (is_some x.net) (is_some x.item) most) [
      | inl net ↦
          let (n, is) = there x.net net in
          well.nets.at_something j n (ap (option_and_then (λ (y : Site). y.net)) stands ∙ is)
      | inr item ↦
          or_left _ _ (or_right (is_case_ident j) _
          (ap (λ (o : Option Site). is_some (option_and_then (λ (y : Site). y.item) o)) stands ∙ item))
    ]
    | inr run ↦
        or_right (is_case_ident j || is_some (item_part s j)) _
        (ap (λ (o : Option Site). is_some (option_and_then (λ (y : Site). y.run) o)) stands ∙ run)
  ]

  above_stands : (j : Ident) (x : Site) → Stands s j x → is_case_ident j ≡ false → Standing s (parent j)
  above_stands j x stands no_case =
      elim (or_cases (is_case_ident j || is_some (item_part s j)) (is_some (run_part s j)) (kinds_at j x stands)) [
        | inl most ↦ elim (or_cases (is_case_ident j) (is_some (item_part s j)) most) [ inl case ↦ never (sym no_case ∙ case) | inr item ↦ above_item j item ]
        | inr run ↦ let (r, is) = there (run_part s j) run in above_run j r is
      ]

  top_of_case : (j : Ident) → is_case_ident j ≡ true → parent j ≡ []
  top_of_case [] one = never one
  top_of_case (n ∷ []) one = refl
  top_of_case (n ∷ m ∷ j) one = let long = eqb-true (length (n ∷ m ∷ j)) 1 one in absurd (omega (arith, long))

  no_more : (q : Ident) → 1 ≤ length q → under [] q ≡ true → ⊥
  no_more [] some up = absurd (omega (arith, some))
  no_more (n ∷ q) some up = never up

  none_left : (j q : Ident) → length j ≤ 0 → 1 ≤ length q → under j q ≡ true → ⊥
  none_left [] q short some lies = no_more q some lies
  none_left (n ∷ j) q short some lies = absurd (omega (arith, short))

  one_shorter : (j : Ident) (steps : ℕ) → length j ≤ suc steps → length (parent j) ≤ steps
  one_shorter [] steps short = omega arith
  one_shorter (n ∷ j) steps short = let less = shorter (n ∷ j) (omega arith) in omega (arith, less, short)

  -- where something stands below q, something stands directly below it
  reached : (steps : ℕ) (q j : Ident) (x : Site) → length j ≤ steps → Stands s j x → under j q ≡ true → same j q ≡ false → 1 ≤ length q
      → (c : Ident) × Standing s c × (parent c ≡ q)
  reached zero q j x short stands lies other some = absurd (none_left j q short some lies)
  reached (suc steps) q j x short stands lies other some = elim (itself_or_above j q lies) [
    | inl is ↦ never (sym other ∙ ap (λ i. same i q) is ∙ same_itself q)
    | inr up ↦ by_test (same (parent j) q)
        (λ here. (j, (x, stands), is_same (parent j) q here))
        (λ further. by_test (is_case_ident j)
        (λ case. absurd (no_more q some (ap (λ i. under i q) (sym (top_of_case j case)) ∙ up)))
        (λ no_case.
        let above = above_stands j x stands no_case in
        reached steps q (parent j) above.0 (one_shorter j steps short) above.1 up further some))
  ]

  -- ---- an item that is done

  module _ (q : Ident) (p : ItemPart) (here : item_part s q ≡ Some p) (over : done s q p ≡ true) where
    completed : is_completed p.stage ≡ true
    completed = (and_parts _ _ (and_parts (is_completed p.stage && not (busy s q)) _ over).0).0

    not_busy : busy s q ≡ false
    not_busy = is_not (busy s q) (and_parts (is_completed p.stage) _ (and_parts (is_completed p.stage && not (busy s q)) _ over).0).1

    -- the item with its task has this part
    its_part : (y : ItemAt) → item_at s q ≡ Some y → y.part ≡ p
    its_part y at =
        let (r, is, inner) = then_some _ (item_part s q) y at in
        let (n, found, made) = then_some _ (net_at s (parent q)) y inner in
        let (t, of_task, whole) = map_some _ (task_in n r.task) y made in
        ap (λ (z : ItemAt). z.part) (sym whole) ∙ some_same r p (sym is ∙ here)

    other_stage : (y : ItemAt) → item_at s q ≡ Some y → (is_ready y.part.stage ≡ true) ⊎ (is_executing y.part.stage ≡ true) → ⊥
    other_stage y at other = not_completed y.part.stage (ap (λ (z : ItemPart). is_completed z.stage) (its_part y at) ∙ completed) other

    no_net : net_part s q ≡ None
    no_net =
        by_option (net_part s q) (λ none. none)
        (λ n has.
        let (y, at) = there (item_at s q) (well.parents.item_of_net q p here) in
        absurd (other_stage y at (inr (and_left _ _ (and_left _ _ (well.nets.of_item q n y has at))))))

    no_child : (c : Ident) (x : Site) → Stands s c x → parent c ≡ q → is_case_ident c ≡ false → ⊥
    no_child c x stands up no_case =
        elim (or_cases (is_case_ident c || is_some (item_part s c)) (is_some (run_part s c)) (kinds_at c x stands)) [
          | inl most ↦ elim (or_cases (is_case_ident c) (is_some (item_part s c)) most) [ inl case ↦ never (sym no_case ∙ case) | inr item ↦ no_item item ]
          | inr run ↦ no_run run
        ]
      where
        no_item : is_some (item_part s c) ≡ true → ⊥
        no_item some =
            let (part, is) = there (item_part s c) some in
            let (y, at) = there (item_at s c) (well.parents.item_of_net c part is) in
            let (r, its, inner) = then_some _ (item_part s c) y at in
            let (n, found, made) = then_some _ (net_at s (parent c)) y inner in
            let (m, has, of_spec) = then_some _ (net_part s (parent c)) n found in
            nowhere (sym no_net ∙ ap (net_part s) (sym up) ∙ has)

        below_parent : (c : Ident) → 1 ≤ length c → is_child c (parent c) ≡ true
        below_parent c some = and_from _ _ (under_parent c (parent c) (under_itself (parent c))) (eq-eqb (length c) _ (shorter c some))

        child_of : (c : Ident) (x : Site) → Stands s c x → parent c ≡ q → is_child c q ≡ true
        child_of c x stands up = ap (is_child c) (sym up) ∙ below_parent c (identity_long c (well.numbers.identities c x stands))

        no_run : is_some (run_part s c) ≡ true → ⊥
        no_run some =
            never (sym not_busy
            ∙ some_stands s (λ r z. is_some z.run && is_child r q) c x stands
            (and_from _ _ (ap (λ (o : Option Site). is_some (option_and_then (λ (z : Site). z.run) o)) (sym stands) ∙ some) (child_of c x stands up)))

    two_long : 2 ≤ length q
    two_long = well.parents.item_depth q p here

    bare_below : (j : Ident) (x : Site) → Stands s j x → under j q ≡ true → same j q ≡ true
    bare_below j x stands lies =
        by_test (same j q) (λ here. here)
        (λ other.
        let (c, standing, up) = reached (length j) q j x (omega arith) stands lies other (let long = two_long in omega (arith, long)) in
        absurd (no_child c standing.0 standing.1 up
        (false_from_ne_true _ (λ case. let long = two_long in absurd (too_short q long (sym up ∙ top_of_case c case))))))
      where
        too_short : (q : Ident) → 2 ≤ length q → q ≡ [] → ⊥
        too_short q long is = let none = ap length is in omega (arith, long, none)

    -- nothing is open there
    pub none_open : (j : Ident) (name : List ℕ) (what : What) (by : By) → under j q ≡ true → IsOpen s j name what by → ⊥
    none_open j name Enter by lies o =
        let (x, stands) = at_task s j name o.of_task o.here in
        let is = is_same j q (bare_below j x stands lies) in
        let (n, found, inner) = then_some _ (net_at s j) o.of_task o.here in
        let (m, has, of_spec) = then_some _ (net_part s j) n found in nowhere (sym no_net ∙ ap (net_part s) (sym is) ∙ has)
    none_open j name Start by lies o =
        let (x, stands) = at_item s j o.item o.here in
        let is = is_same j q (bare_below j x stands lies) in
        let can = and_parts (is_ready o.item.part.stage) _ (and_parts (is_atomic o.item.of_task.task) _ o.may).1 in
        other_stage o.item (ap (item_at s) (sym is) ∙ o.here) (inl can.0)
    none_open j name Complete by lies o =
        let (x, stands) = at_item s j o.item o.here in
        let is = is_same j q (bare_below j x stands lies) in
        let can = and_parts (is_none (net_part s j)) _ (and_parts (is_atomic o.item.of_task.task) _ o.may).1 in
        other_stage o.item (ap (item_at s) (sym is) ∙ o.here) (inr (and_parts (is_executing o.item.part.stage) _ can.1).0)

  -- ---- the exit

  module _ (i : Ident) (t : List ℕ) (places : List Place) (said : Said) (ok : Allowed s (events.Exit i t places) said)
      (all : is_some_and (task_at s i t) (exits_done s i) ≡ true) (j : Ident) where
    abbrev exit : Event
    exit = events.Exit i t places

    abbrev is_there : Site → Option Bool
    is_there x = Some true

    stays_there : removes s exit j ≡ false → Standing s j → get (after s exit said).sites j ≡ None → ⊥
    stays_there stays (x, stands) gone =
        nowhere (sym (ap (option_and_then is_there) gone)
        ∙ part_kept is_there (record { net = λ y n. refl; item = λ y z. refl; due = λ y c. refl; run = λ y f. refl }) j s exit said ok
        (inl refl) stays refl refl
        ∙ ap (option_and_then is_there) stands)

    none_of : (ks : List ℕ) → (length ks == 0) ≡ true → list_any (under_item s i j) ks ≡ false
    none_of [] empty = refl
    none_of (k ∷ ks) empty = let zero = eqb-true (length (k ∷ ks)) 0 empty in absurd (omega (arith, zero))

    first_only : (a b : Bool) → b ≡ false → (a || b) ≡ true → a ≡ true
    first_only true b none some = refl
    first_only false b none some = never (sym none ∙ some)

    under_done : (x : TaskAt) → exits_done s i x ≡ true → under_item s i j x.number ≡ true
        → (q : Ident) × (p : ItemPart) × (item_part s q ≡ Some p) × (done s q p ≡ true) × (under j q ≡ true)
    under_done x fits some =
        let (e, y, within, is, above) = comes_from (λ (d : Ident × Site). item_of_task i x.number d.0 d.1) (λ (d : Ident × ItemPart). under j d.0)
        (entries s.sites) some in
        let stands : Stands s e.0 e.1 = find-entry by_name (entries s.sites) e s.sites.sorted within in
        let (p, has, made) = item_in (is_child e.0 i) e.0 x.number e.1.item y is in
        let is_done = all_in (λ (d : Ident × ItemPart). done s d.0 d.1) (items_of s i x.number) y
        (and_parts (length x.task.drop_tasks == 0) _ fits).1 (mapped_in _ (entries s.sites) e y within is) in (
          e.0,
          p,
          ap (option_and_then (λ (z : Site). z.item)) stands ∙ has,
          ap (λ (d : Ident × ItemPart). done s d.0 d.1) made ∙ is_done,
          ap (λ (d : Ident × ItemPart). under j d.0) made ∙ above,
        )
      where
        of_number : (k : ℕ) (q : Ident) (p : ItemPart) (y : Ident × ItemPart) → if_of_task k q p ≡ Some y → (q, p) ≡ y
        of_number k q p y is = by_test (p.task == k)
            (λ same_task. some_same (q, p) y (sym (ap (λ b. if b then Some (q, p) else None) same_task) ∙ is))
            (λ other. nowhere (sym (ap (λ b. if b then Some (q, p) else None) other) ∙ is))

        item_in : (b : Bool) (q : Ident) (k : ℕ) (o : Option ItemPart) (y : Ident × ItemPart)
            → (if b then option_and_then (if_of_task k q) o else None) ≡ Some y → (p : ItemPart) × (o ≡ Some p) × ((q, p) ≡ y)
        item_in true q k o y is = let (p, has, inner) = then_some (if_of_task k q) o y is in (p, has, of_number k q p y inner)
        item_in false q k o y is = nowhere is

        all_in : {A : Type 0} (f : A → Bool) (xs : List A) (x : A) → list_all f xs ≡ true → IsIn xs x → f x ≡ true
        all_in f [] x each within = absurd within
        all_in f (z ∷ xs) x each (inl here) = ap f (sym here) ∙ (and_parts (f z) (list_all f xs) each).0
        all_in f (z ∷ xs) x each (inr later) = all_in f xs x (and_parts (f z) (list_all f xs) each).1 later

    not_removed : (name : List ℕ) (what : What) (by : By) → IsOpen s j name what by → removes s exit j ≡ true → ⊥
    unfolding removes
    not_removed name what by o goes =
        let (x, found, some) = there_and (task_at s i t) (exit_removes s i j) goes in
        let fits : exits_done s i x ≡ true = ap (λ o. is_some_and o (exits_done s i)) (sym found) ∙ all in
        let own = first_only _ _ (none_of x.task.drop_tasks (and_parts (length x.task.drop_tasks == 0) _ fits).0) some in
        let (q, p, here, over, lies) = under_done x fits own in none_open q p here over j name what by lies o

    pub leaves_open : (name : List ℕ) (what : What) (by : By) → IsOpen s j name what by → get (after s exit said).sites j ≡ None → ⊥
    leaves_open name what by o gone =
        by_test (removes s exit j)
        (λ goes. not_removed name what by o goes)
        (λ stays. stays_there stays (open_stands s j name what by o) gone)
