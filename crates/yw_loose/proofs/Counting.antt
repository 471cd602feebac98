-- The counts that are kept are right: by the boxes, once some are made, and behind an event.
use Rattle.std.proofs.Common.{List, None, Option, Some, [], add-zero, ap, arith, cond, false, inl, inr, length, refl, subst, suc, sym, true, ℕ, ◌+◌, ◌∙◌, ◌∷◌, ◌≡◌, ◌≤◌}
use Rattle.std.proofs.Math.Bool.{and-false}
use Rattle.std.proofs.lemmas.Bool.{and_parts, eqb-true, false_from_ne_true, ltb-false}
use Rattle.std.proofs.lemmas.List.{nil_from_length}
use Rattle.std.specs.List.{list_any}
use Rattle.std.specs.Prelude.{Bool, Vec, filter, is_some, nat_lt, not, option_and_then, option_map, slice_get, ◌==◌, ◌&&◌, ◌||◌}
use Rattle.std.specs.declared.alloc.Global.{Global}
use Rattle.yw_base.proofs.Parents.{identity_long}
use Rattle.yw_base.specs.Identity.{is_identity, case_number, under}
use Rattle.yw_enabled.proofs.Counted.{count_same}
use Rattle.yw_enabled.proofs.FreeItems.{item_stands}
use Rattle.yw_enabled.specs.Left.{TellsNet, TellsRight, done_count, is_done, told_of}
use Rattle.yw_idle.specs.Warms.{warms}
use Rattle.yw_known.proofs.Items.{no_item_here}
use Rattle.yw_known.proofs.Names.{spec_behind}
use Rattle.yw_library.specs.Held.{IsHeld}
use Rattle.yw_library.specs.Holdings.{Holdings}
use Rattle.yw_library.specs.Names.{names_of}
use Rattle.yw_loose.proofs.Within.{exlet_there}
use Rattle.yw_loose.specs.Counts.{AreRight, Exits, Follows, LosesCase, Puts, RightBehind, counts_at, is_done_item}
use Rattle.yw_loose.specs.Moved.{exlet_at}
use Rattle.yw_loose.specs.declared.counts.Counts.{Counts}
use Rattle.yw_nest.proofs.Known.{part_known}
use Rattle.yw_plain.specs.Plain.{is_plain_event}
use Rattle.yw_progress.proofs.Behind.{behind}
use Rattle.yw_progress.specs.Progress.{CountsBehind, completed_by, completes_done, done_in, goes, is_anew, is_done_of, left_by}
use Rattle.yw_sites.specs.Idents.{Each}
use Rattle.yw_spec.specs.declared.spec.Net.{Net}
use Rattle.yw_spec.specs.declared.spec.Spec.{Spec}
use Rattle.yw_state.proofs.Standing.{at_net_part}
use Rattle.yw_state.proofs.Tests.{and_right, by_option, by_test, never, nowhere, or_cases, there}
use Rattle.yw_state.specs.Events.{Leads}
use Rattle.yw_state.specs.Identity.{Ident, is_child, same}
use Rattle.yw_state.specs.Map.{get}
use Rattle.yw_state.specs.Options.{is_some_and}
use Rattle.yw_state.specs.State.{ItemPart, Site, State, item_part, items_of, net_part}
use Rattle.yw_state.specs.Well.{IsWell}
use Rattle.yw_state.specs.Words.{active, done, is_completed}
use Rattle.yw_state.specs.declared.event.Event.{Event}
use Rattle.yw_state.specs.declared.event.Event.TheVariants as events
use Rattle.yw_state.specs.declared.loaded.Loaded.{Loaded}
use Rattle.yw_task.proofs.EnterAsk.{its_active, its_items}
use Rattle.yw_task.proofs.ItemLaw.{its_busy, its_site}
use Rattle.yw_task.specs.Asked.{is_active}
use Rattle.yw_task.specs.Standing.{ItemStands, NetStands}
use Rattle.yw_texts.specs.Texts.{reader}
use Rattle.yw_tree.proofs.FindLaw.{item_shown}
use Rattle.yw_tree.proofs.ForestLaw.{item_found}
use Rattle.yw_tree.specs.Entries.{item_part_of, item_site, net_part as its_part}
use Rattle.yw_tree.specs.Forest.{item_of}
use Rattle.yw_tree.specs.Places.{net_at}
use Rattle.yw_tree.specs.Shows.{items_in, row_or_none}
use Rattle.yw_tree.specs.Ways.{item_in_row}
use Rattle.yw_tree.specs.declared.Forest.{Forest}
use Rattle.yw_tree.specs.declared.NetState.{NetState, out-NetState}
use Rattle.yw_tree.specs.declared.Node.{Node, out-Node}
use Rattle.yw_walk.specs.Finds.{TellsAt}

child_long : (j i : Ident) → is_child j i ≡ true → 1 ≤ length j
child_long j i below =
    let long : length j ≡ length i + 1 = eqb-true (length j) (length i + 1) (and_parts (under j i) (length j == length i + 1) below).1 in omega arith

each_at : {A : Type 0} (Q : A → Type 0) (xs : List A) → ((k : ℕ) (x : A) → slice_get xs k ≡ Some x → Q x) → Each Q xs
each_at Q [] h = tt
each_at Q (x ∷ xs) h = (h 0 x refl, each_at Q xs (λ k y e. h (suc k) y e))

in_row : (o : Option (Vec Node Global)) (k : ℕ) (n : Node) → slice_get (row_or_none o) k ≡ Some n → item_in_row o k ≡ Some n
in_row None k n e = nowhere e
in_row (Some v) k n e = e

-- ---- by the boxes

-- an item is done by the definitions where it is by its box
done_there : (names : ℕ → List ℕ) (f : Forest) (s : State) (n : Node) → ItemStands names f s n → done s (out-Node n).id (item_part_of n) ≡ is_done n
unfolding is_done
done_there names f s n stands =
    λ j. is_completed (out-Node n).stage && not (its_busy names f s n stands j) && not (is_some_and (its_site names f s n stands j) (λ (x : Site). x.suspended))

module _ (known : Holdings) (f : Forest) (s : State) (held : IsHeld known f s) (i : Ident) (identity : is_identity i ≡ true) where
  module _ (state : NetState) (found : net_at f i ≡ Some state) where
    part : net_part s i ≡ Some (its_part (names_of known) state)
    part = part_known (names_of known) f held.boxed s held.sites i (identity_long i identity) state found

    net_stands : (net : Net) × NetStands (names_of known) f s i net state
    net_stands =
        let o = spec_behind s held.well i (its_part (names_of known) state) part in (
          o.net,
          record {
            boxed = held.boxed;
            sites = held.sites;
            identity = identity;
            found = found;
            known = ap (λ l. option_and_then (λ (z : Spec). slice_get z.nets (out-NetState state).net) (option_map (λ (x : Loaded). x.spec) l)) o.at ∙ o.of_spec;
          },
        )

    each_done : (t : ℕ) → Each (λ n. done s (out-Node n).id (item_part_of n) ≡ is_done n) (items_in state t)
    each_done t =
        each_at (λ n. done s (out-Node n).id (item_part_of n) ≡ is_done n) (items_in state t)
        (λ k n e.
        done_there (names_of known) f s n
        (item_stands (names_of known) f s held.boxed held.sites held.well.numbers i identity state found t k n
        (in_row (slice_get (out-NetState state).items.items t) k n e)))

    as_counted : (t : ℕ) → done_in s i t ≡ done_count (items_in state t)
    as_counted t =
        ap (λ es. length (filter (λ (e : Ident × ItemPart). done s e.0 e.1) es)) (its_items (names_of known) f s i net_stands.0 state net_stands.1 t)
        ∙ count_same (λ (e : Ident × ItemPart). done s e.0 e.1) is_done (λ (n : Node). ((out-Node n).id, item_part_of n)) (items_in state t) (each_done t)

  -- what is told by counts that are right is right
  pub tells : (c : Counts) → AreRight s c → (told : Option (List ℕ)) → told ≡ option_map (λ (v : Vec ℕ Global). v.items) (counts_at c i) → TellsAt f i told
  tells c right told same = λ state found t.
      subst (λ o. TellsRight (told_of o t) (items_in state t)) (sym same)
      (by_option (counts_at c i)
      (λ none. subst (λ (o : Option (Vec ℕ Global)). TellsRight (told_of (option_map (λ (v : Vec ℕ Global). v.items) o) t) (items_in state t)) (sym none) tt)
      (λ v at.
      subst (λ (o : Option (Vec ℕ Global)). TellsRight (told_of (option_map (λ (v : Vec ℕ Global). v.items) o) t) (items_in state t)) (sym at)
      (by_option (slice_get v.items t)
      (λ none. subst (λ o. TellsRight o (items_in state t)) (sym none) tt)
      (λ d one. subst (λ o. TellsRight o (items_in state t)) (sym one) (right.right i v at (ap is_some (part state found)) t d one ∙ as_counted state found t)))))

  -- counts that are made of the boxes are right
  pub put_right : (old new : Counts) (v : Vec ℕ Global) (state : NetState) → net_at f i ≡ Some state → TellsNet state (Some v.items) → Puts old new i v
      → AreRight s old → AreRight s new
  put_right old new v state found tells puts was =
      record {
        right = λ j w at stands k d one. elim (puts.each j w at) [
          | inl had ↦ was.right j w had stands k d one
          | inr here ↦
              subst (λ (l : Ident). d ≡ done_in s l k) (sym here.0)
              (subst (λ o. TellsRight o (items_in state k)) (ap (λ (x : Vec ℕ Global). slice_get x.items k) (sym here.1) ∙ one) (tells k) ∙ sym (as_counted state found k))
        ];
      }

-- ---- an event

module _ (known : Holdings) (f : Forest) (t : State) (held : IsHeld known f t) (i : Ident) (k : ℕ) where
  abbrev in_box : Node → Bool
  in_box n = (out-Node n).task == k && is_done n

  abbrev in_state : Ident → ItemPart → Bool
  in_state j x = is_child j i && x.task == k && done t j x

  -- an item stands in the state as it does in its box
  part_there : (j : Ident) (n : Node) → 1 ≤ length j → item_of f j ≡ Some n → item_part t j ≡ Some (item_part_of n)
  part_there j n long found =
      ap (λ m. option_and_then (λ (x : Site). x.item) (get m j)) held.sites
      ∙ ap (option_and_then (λ (x : Site). x.item)) (item_shown (names_of known) f held.boxed j long n found)

  its_done : (j : Ident) (n : Node) → 1 ≤ length j → item_of f j ≡ Some n → done t j (item_part_of n) ≡ is_done n
  its_done j n long found =
      let same_id : (out-Node n).id ≡ j = (item_found f j n held.boxed found).0 in
      let site : get t.sites j ≡ Some (item_site (names_of known) n) =
      ap (λ m. get m j) held.sites ∙ item_shown (names_of known) f held.boxed j long n found in
      subst (λ (q : Ident). done t q (item_part_of n) ≡ is_done n) same_id
      (done_there (names_of known) f t n
      (record {
        boxed = held.boxed;
        sites = held.sites;
        identity = ap is_identity same_id ∙ held.well.numbers.identities j (item_site (names_of known) n) site;
        found = ap (item_of f) same_id ∙ found;
      }))

  regrouped : (a b c : Bool) → (a && b && c) ≡ (a && (b && c))
  regrouped true b c = refl
  regrouped false b c = refl

  below_same : (j : Ident) → is_child j i ≡ true → is_done_of t i k j ≡ is_done_item f i j k
  below_same j below =
      by_option (item_of f j)
      (λ none.
      by_option (item_part t j)
      (λ lacks. ap (λ o. is_some_and o (in_state j)) lacks ∙ sym (ap (λ o. is_child j i && is_some_and o in_box) none ∙ and-false (is_child j i)))
      (λ x some. never (sym (no_item_here known f t held j none) ∙ ap is_some some)))
      (λ n found.
      let long = child_long j i below in
      ap (λ o. is_some_and o (in_state j)) (part_there j n long found)
      ∙ ap (λ b. is_child j i && (out-Node n).task == k && b) (its_done j n long found)
      ∙ regrouped (is_child j i) ((out-Node n).task == k) (is_done n)
      ∙ sym (ap (λ o. is_child j i && is_some_and o in_box) found))

  apart_same : (j : Ident) → is_child j i ≡ false → is_done_of t i k j ≡ is_done_item f i j k
  apart_same j out =
      by_option (item_part t j)
      (λ none. ap (λ o. is_some_and o (in_state j)) none)
      (λ x some. ap (λ o. is_some_and o (in_state j)) some ∙ ap (λ b. b && x.task == k && done t j x) out)
      ∙ sym (ap (λ b. b && is_some_and (item_of f j) in_box) out)

  completes_there : (e : Event) → completes_done t e i k ≡ is_some_and (completed_by e) (λ (j : Ident). is_done_item f i j k)
  completes_there e =
      by_option (completed_by e)
      (λ none. ap (λ o. is_some_and o (is_done_of t i k)) none ∙ sym (ap (λ o. is_some_and o (λ (j : Ident). is_done_item f i j k)) none))
      (λ j some.
      ap (λ o. is_some_and o (is_done_of t i k)) some
      ∙ by_test (is_child j i) (below_same j) (apart_same j)
      ∙ sym (ap (λ o. is_some_and o (λ (l : Ident). is_done_item f i l k)) some))

-- what the definitions say of a net that has counts behind an event
goes_on : (known : Holdings) (f : Forest) (s t : State) (e : Event) → IsWell reader s → IsHeld known f t → Leads reader s e t → (i : Ident)
    → is_some (net_part t i) ≡ true → goes e i ≡ false → CountsBehind s t e i
goes_on known f s t e well held leads i stands old =
    subst (λ u. CountsBehind s u e i) (sym leads.then)
    (behind s e leads.said i well leads.allowed (subst (λ u. is_some (net_part u i) ≡ true) leads.then stands) old)

identity_of : (t : State) (i : Ident) → IsWell reader t → is_some (net_part t i) ≡ true → is_identity i ≡ true
identity_of t i well stands =
    let part = there (net_part t i) stands in
    let site = at_net_part t i part.0 part.1 in well.numbers.identities i site.0 site.1

-- ---- an event of no exlet

-- none of these is warmed for what is kept of a net
warms_no_net : (e : Event) (i : Ident) → exlet_at e ≡ None → (not (is_plain_event e) && list_any (same i) (warms e)) ≡ false
warms_no_net (events.Pass j check) i off = nowhere (sym off)
warms_no_net (events.Except j check node n) i off = nowhere (sym off)
warms_no_net (events.Substitute j worklet) i off = nowhere (sym off)
warms_no_net (events.CompleteWorklet j) i off = nowhere (sym off)
warms_no_net (events.Raise j kind node n) i off = nowhere (sym off)
warms_no_net (events.Prim r p) i off = nowhere (sym off)
warms_no_net (events.Compensated r) i off = nowhere (sym off)
warms_no_net (events.Suspend j) i off = nowhere (sym off)
warms_no_net (events.Continue j) i off = nowhere (sym off)
warms_no_net e i off = refl

stays_kept : (e : Event) (i : Ident) → exlet_at e ≡ None → is_anew e i ≡ false → goes e i ≡ false
stays_kept e i off old =
    ap (λ b. b || (not (is_plain_event e) && list_any (same i) (warms e))) old ∙ warms_no_net e i off

-- counts that follow an event by which no task exits are right behind it
pub followed_right : (f : Forest) (e : Event) (old new : Counts) → exlet_at e ≡ None → left_by e ≡ None → Follows f e old new → RightBehind f e old new
followed_right f e old new off stays follows = λ known s t well held leads was.
    record {
      right = λ i v at stands k d one.
          let identity = identity_of t i held.well stands in
          let on = goes_on known f s t e well held leads i stands (stays_kept e i off (follows.stays i v identity at)) in
          let (w, had, more) = follows.was i v identity at in
          let (b, before, sum) = more.each k d one in
          elim (on.as_many k) [
            | inl same_sum ↦
                sum
                ∙ ap (λ n. n + cond (is_some_and (completed_by e) (λ (j : Ident). is_done_item f i j k)) 1 0) (was.right i w had on.stood k b before)
                ∙ ap (λ c. done_in s i k + cond c 1 0) (sym (completes_there known f t held i k e))
                ∙ sym same_sum
            | inr exits ↦ never (sym (ap (λ o. is_some_and o (same i)) stays) ∙ exits.0)
          ];
    }

-- ---- an event of an exlet

no_net_begins : (e : Event) (at i : Ident) → exlet_at e ≡ Some at → is_anew e i ≡ false
no_net_begins (events.Launch n spec vals) at i is = nowhere is
no_net_begins (events.StartSub j) at i is = nowhere is
no_net_begins (events.CompleteSub j) at i is = nowhere is
no_net_begins e at i is = refl

completes_nothing : (e : Event) (at : Ident) → exlet_at e ≡ Some at → (completed_by e ≡ None) × (left_by e ≡ None)
completes_nothing (events.Complete j out) at is = nowhere is
completes_nothing (events.CompleteSub j) at is = nowhere is
completes_nothing (events.CompleteEmpty j) at is = nowhere is
completes_nothing (events.Exit i t places) at is = nowhere is
completes_nothing e at is = (refl, refl)

-- counts of nets of other cases are right behind it
pub exlet_right : (f : Forest) (e : Event) (at : Ident) (old new : Counts) → exlet_at e ≡ Some at → is_identity at ≡ true → LosesCase (case_number at) old new
    → RightBehind f e old new
exlet_right f e at old new is at_identity loses = λ known s t well held leads was.
    record {
      right = λ i v here stands k d one.
          let identity = identity_of t i held.well stands in
          let stays : goes e i ≡ false = false_from_ne_true _ (λ gone.
          elim (or_cases (is_anew e i) (not (is_plain_event e) && list_any (same i) (warms e)) gone) [
            | inl anew ↦ never (sym (no_net_begins e at i is) ∙ anew)
            | inr warm ↦ loses.others i v here (exlet_there e at is at_identity i identity (and_right (not (is_plain_event e)) _ warm))
          ]) in
          let on = goes_on known f s t e well held leads i stands stays in
          let (nothing, no_exit) = completes_nothing e at is in
          was.right i v (loses.had i v here) on.stood k d one
          ∙ elim (on.as_many k) [
            | inl same_sum ↦
                sym (same_sum ∙ ap (λ o. done_in s i k + cond (is_some_and o (is_done_of t i k)) 1 0) nothing ∙ add-zero (done_in s i k))
            | inr exits ↦ never (sym (ap (λ o. is_some_and o (same i)) no_exit) ∙ exits.0)
          ];
    }

-- ---- a task exits

completes_none : (e : Event) (at : Ident) → left_by e ≡ Some at → (t : State) (i : Ident) (k : ℕ) → completes_done t e i k ≡ false
completes_none (events.Exit j name places) at is t i k = refl
completes_none e at is t i k = nowhere is

stays_old : (e : Event) (at : Ident) → left_by e ≡ Some at → (i : Ident) → goes e i ≡ false
stays_old (events.Exit j name places) at is i = refl
stays_old e at is i = nowhere is

nothing_in : {A : Type 0} (xs : List A) → nat_lt 0 (length xs) ≡ false → xs ≡ []
nothing_in xs none = let few : length xs ≤ 0 = ltb-false 0 (length xs) none in nil_from_length xs (omega arith)

pub exited_right : (f : Forest) (e : Event) (at : Ident) (old new : Counts) → left_by e ≡ Some at → Exits f at old new → RightBehind f e old new
exited_right f e at old new left_at exits = λ known s t well held leads was.
    record {
      right = λ i v here stands k d one.
          let identity = identity_of t i held.well stands in
          let on = goes_on known f s t e well held leads i stands (stays_old e at left_at i) in
          let same_sum : done_in s i k ≡ done_in s i k + cond (completes_done t e i k) 1 0 =
          sym (ap (λ c. done_in s i k + cond c 1 0) (completes_none e at left_at t i k) ∙ add-zero (done_in s i k)) in
          elim (exits.each i v here) [
            | inl other ↦
                was.right i v other.0 on.stood k d one
                ∙ elim (on.as_many k) [
                  | inl as_many ↦ same_sum ∙ sym as_many
                  | inr gone ↦ never (sym (ap (λ o. is_some_and o (same i)) left_at ∙ other.1) ∙ gone.0)
                ]
            | inr own ↦
                let l = own.1 in
                let (b, before, left_is) = l.left.each k d one in
                let net = net_stands known f t held i identity l.net l.stands in
                let active_is : active t i k ≡ is_active l.net k = its_active (names_of known) f t i net.0 l.net net.1 k in
                by_test (is_active l.net k)
                (λ some.
                left_is ∙ ap {B = ℕ} (λ c. cond c b 0) some ∙ was.right i l.before l.had on.stood k b before
                ∙ elim (on.as_many k) [
                  | inl as_many ↦ same_sum ∙ sym as_many
                  | inr gone ↦ never (sym (ap (λ es. nat_lt 0 (length es)) gone.1) ∙ active_is ∙ some)
                ])
                (λ none.
                left_is ∙ ap {B = ℕ} (λ c. cond c b 0) none
                ∙ sym (ap (λ es. length (filter (λ (x : Ident × ItemPart). done t x.0 x.1) es)) (nothing_in (items_of t i k) (active_is ∙ none))))
          ];
    }
