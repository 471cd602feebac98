-- What an event leaves idle: all but where it changes what stands, and directly above that.
use Rattle.std.specs.Prelude.{◌≡◌, ℕ, ◌==◌, ◌&&◌, Bool, true, false, not, [], cond, filter, length, map, None, Some, is_some, option_and_then, refl, unwrap_or, if◌then◌else◌}
use Rattle.std.specs.List.{filter_map, list_any}
use Rattle.std.proofs.Common.{◌∙◌, ap, sym, inl, inr}
use Rattle.std.proofs.lemmas.Bool.{false_from_ne_true, or_left, or_parts}
use Rattle.std.proofs.lemmas.List.Folds.{list_any-append}
use Rattle.yw_base.specs.Identity.{is_identity, parent}
use Rattle.yw_moved.proofs.Above.{above_kind, kind_at}
use Rattle.yw_moved.proofs.Nets.{StaysLoaded, net_same, stage_same, stays_loaded}
use Rattle.yw_moved.proofs.Parents.{parent_of_child}
use Rattle.yw_moved.specs.Moved.{done_at}
use Rattle.yw_plain.specs.Plain.{is_plain_event}
use Rattle.yw_state.proofs.Apart.{leaves_other_cases}
use Rattle.yw_state.proofs.Drawing.{next-rises}
use Rattle.yw_state.proofs.Gone.{removed-gone}
use Rattle.yw_state.proofs.MapLemmas.{by_name, get-retain, same_list}
use Rattle.yw_state.proofs.Tests.{by_option, by_test, never, nowhere, then_some, there}
use Rattle.yw_state.specs.Allowed.{Allowed}
use Rattle.yw_state.specs.Automatic.{case_of}
use Rattle.yw_state.specs.Events.{after}
use Rattle.yw_state.specs.Gone.{removes}
use Rattle.yw_state.specs.Identity.{Ident, is_child, same}
use Rattle.yw_state.specs.Judged.{place_key, task_place}
use Rattle.yw_state.specs.Map.{entries, get, retain}
use Rattle.yw_state.specs.Nets.{is_atomic}
use Rattle.yw_state.specs.Options.{is_some_and}
use Rattle.yw_state.specs.State.{State, Site, ItemPart, NetPart, if_of_task, item_of_task, item_part, items_of, is_suspended, net_at, net_part, run_part}
use Rattle.yw_state.specs.Texts.{Reader, Said, a_spec}
use Rattle.yw_state.specs.Well.{IsWell, ParentsStand, Stands}
use Rattle.yw_state.specs.Words.{busy, done, is_completed}
use Rattle.yw_state.specs.declared.event.Event.{Event}
use Rattle.yw_state.specs.declared.event.Event.TheVariants as events
use Rattle.yw_state.specs.declared.tree.TreeKind.TheVariants as kinds
use Rattle.yw_still.proofs.OtherCases.{mapped_kept}
use Rattle.yw_idle.proofs.Goes.{goes_down, goes_up}
use Rattle.yw_idle.proofs.NetAbove.{kind_stays}
use Rattle.yw_idle.proofs.Runs.{busy_same, run_kept}
use Rattle.yw_idle.proofs.Same.{compensation_same, idle_stays}
use Rattle.yw_idle.proofs.Sites.{left_alone}
use Rattle.yw_idle.proofs.Warm.{parents}
use Rattle.yw_idle.specs.Idle.{StaysIdle}
use Rattle.yw_idle.specs.Looked.{SeesSame}
use Rattle.yw_idle.specs.Warms.{changes, is_rule, warms}

-- ---- what was loaded stays, and rules

case_or_plain : (e : Event) → is_rule e ≡ false → is_plain_event e ≡ false → (n : ℕ) × (case_of e ≡ Some n)
case_or_plain (events.Pass j check) rule plain = (_, refl)
case_or_plain (events.Except j check node n) rule plain = (_, refl)
case_or_plain (events.Substitute j worklet) rule plain = (_, refl)
case_or_plain (events.CompleteWorklet j) rule plain = (_, refl)
case_or_plain (events.Raise j kind node n) rule plain = (_, refl)
case_or_plain (events.Prim r p) rule plain = (_, refl)
case_or_plain (events.Compensated r) rule plain = (_, refl)
case_or_plain (events.Suspend j) rule plain = (_, refl)
case_or_plain (events.Continue j) rule plain = (_, refl)
case_or_plain (events.AddRule p at side when conclusion number) rule plain = never (sym rule)
case_or_plain e rule plain = never (sym plain)

module _ {reader : Reader} (s : State) (e : Event) (said : Said) (well : IsWell reader s) (ok : Allowed s e said) (no_rule : is_rule e ≡ false) where
  loaded_stays : StaysLoaded s (after s e said)
  loaded_stays = by_test (is_plain_event e)
      (λ plain. stays_loaded s e said well.numbers well.parents plain ok)
      (λ other. let (n, of_case) = case_or_plain e no_rule other in
      λ name loaded. ap (λ m. get m name) (leaves_other_cases n s e said well.numbers well.parents ok of_case).specs)

-- an event of no case that adds no rule leaves them
caseless_rules : (s : State) (e : Event) (said : Said) → is_rule e ≡ false → case_of e ≡ None → (after s e said).rules ≡ s.rules
unfolding after
caseless_rules s (events.Person name roles) said rule none = refl
caseless_rules s (events.Load name text) (a_spec spec) rule none = refl
caseless_rules s (events.Load name text) said rule none = refl
caseless_rules s (events.AddRule p at side when conclusion number) said rule none = never (sym rule)
caseless_rules s e said rule none = nowhere (sym none)

-- ---- where an event of neither a rule tree nor an exlet is done, it changes what stands

done_changes : (e : Event) (j : Ident) → is_some_and (done_at e) (same j) ≡ true → list_any (same j) (changes e) ≡ true
done_changes (events.Enter i t places first count) j at = or_left _ _ at
done_changes (events.Start i who) j at = or_left _ _ at
done_changes (events.Complete i out) j at = or_left _ _ at
done_changes (events.Exit i t places) j at = or_left _ _ at
done_changes (events.Add i t value n) j at = or_left _ _ at
done_changes (events.StartSub i) j at = or_left _ _ at
done_changes (events.CompleteSub i) j at = or_left _ _ at
done_changes (events.CompleteEmpty i) j at = or_left _ _ at
done_changes e j at = never at

-- an item that stands, stands in a net
in_net : (s : State) (j : Ident) (y : ItemPart) → ParentsStand s → item_part s j ≡ Some y → (n : NetPart) × (net_part s (parent j) ≡ Some n)
in_net s j y parents_stand item =
    let (x, at) = there _ (parents_stand.item_of_net j y item) in
    let (part, is, in_it) = then_some _ (item_part s j) x at in
    let (net, found, of_task) = then_some _ (net_at s (parent j)) x in_it in
    let (n, has, of_spec) = then_some _ (net_part s (parent j)) net found in (n, has)

module _ {reader : Reader} (s : State) (e : Event) (said : Said) (j : Ident) (x : Site) (well : IsWell reader s) (ok : Allowed s e said)
    (no_rule : is_rule e ≡ false)
    (stands : Stands (after s e said) j x) (cold : list_any (same j) (warms e) ≡ false) where
  abbrev t : State
  t = after s e said

  two : (list_any (same j) (changes e) ≡ false) × (list_any (same j) (map parent (changes e)) ≡ false)
  two =
      or_parts (list_any (same j) (changes e)) (list_any (same j) (map parent (changes e)))
      (sym (list_any-append (same j) (changes e) (map parent (changes e))) ∙ cold)

  stays : removes s e j ≡ false
  stays = false_from_ne_true _ (λ gone. nowhere (sym (removed-gone j s e said ok gone) ∙ stands))

  here : get t.sites j ≡ get s.sites j
  here = left_alone j s e said ok stays two.0

  stood : Stands s j x
  stood = sym here ∙ stands

  some : j ≡ [] → ⊥
  some top = never (ap is_identity (sym top) ∙ well.numbers.identities j x stood)

  -- ---- directly below

  module _ (k : Ident) (lies : is_child k j ≡ true) where
    up : parent k ≡ j
    up = parent_of_child k j lies

    below_unchanged : list_any (same k) (changes e) ≡ false
    below_unchanged = false_from_ne_true _ (λ is. never (sym two.1 ∙ ap (λ i. list_any (same i) (map parent (changes e))) (sym up) ∙ parents (changes e) k is))

    below_stays : removes s e k ≡ false
    below_stays = false_from_ne_true _ (λ gone. elim (goes_up s e k (λ top. some (sym up ∙ top)) gone) [
      | inl goes ↦ never (sym stays ∙ ap (removes s e) (sym up) ∙ goes)
      | inr changed ↦ never (sym two.0 ∙ ap (λ i. list_any (same i) (changes e)) (sym up) ∙ changed)
    ])

    below_same : get t.sites k ≡ get s.sites k
    below_same = left_alone k s e said ok below_stays below_unchanged

    -- and what hangs there
    hung_same : (r : Ident) → is_child r k ≡ true → is_some (run_part t r) ≡ is_some (run_part s r)
    hung_same r hangs =
        let above : parent r ≡ k = parent_of_child r k hangs in
        let some_above : parent r ≡ [] → ⊥ = λ top. some (sym up ∙ ap parent (sym above ∙ top)) in
        let unchanged_above = ap (λ i. list_any (same i) (changes e)) above ∙ below_unchanged in
        by_test (removes s e r)
        (λ gone. elim (goes_up s e r some_above gone) [
          | inl goes ↦ never (sym below_stays ∙ ap (removes s e) (sym above) ∙ goes)
          | inr changed ↦ never (sym unchanged_above ∙ changed)
        ])
        (λ kept. run_kept r some_above s e said ok kept unchanged_above)

    busy_below : busy t k ≡ busy s k
    busy_below = busy_same s t k hung_same

    suspended_below : is_suspended t k ≡ is_suspended s k
    suspended_below = ap (λ o. is_some_and o (λ (z : Site). z.suspended)) below_same

    done_below : (y : ItemPart) → done t k y ≡ done s k y
    done_below y =
        ap (λ b. is_completed y.stage && not b && not (is_suspended t k)) busy_below ∙ ap (λ b. is_completed y.stage && not (busy s k) && not b) suspended_below

  busy_here : busy t j ≡ busy s j
  busy_here = busy_same s t j (λ k lies. ap (λ o. is_some (option_and_then (λ (z : Site). z.run) o)) (below_same k lies))

  abbrev lies_below : Ident → Bool
  lies_below k = is_child k j

  list_same : filter (λ f. lies_below f.0) (entries t.sites) ≡ filter (λ f. lies_below f.0) (entries s.sites)
  list_same =
      same_list by_name (retain t.sites lies_below) (retain s.sites lies_below)
      (λ q. get-retain by_name t.sites lies_below q ∙ either q ∙ sym (get-retain by_name s.sites lies_below q))
    where
      either : (q : Ident) → cond (lies_below q) (get t.sites q) None ≡ cond (lies_below q) (get s.sites q) None
      either q = by_test (lies_below q)
          (λ yes. ap (λ o. cond (lies_below q) o None) (below_same q yes))
          (λ out. ap (λ b. cond b (get t.sites q) None) out ∙ sym (ap (λ b. cond b (get s.sites q) None) out))

  items_same : (k : ℕ) → items_of t j k ≡ items_of s j k
  items_same k =
      mapped_kept (λ f. lies_below f.0) (λ f. item_of_task j k f.0 f.1) none (entries t.sites)
      ∙ ap (filter_map (λ f. item_of_task j k f.0 f.1)) list_same
      ∙ sym (mapped_kept (λ f. lies_below f.0) (λ f. item_of_task j k f.0 f.1) none (entries s.sites))
    where
      none : (f : Ident × Site) → lies_below f.0 ≡ false → item_of_task j k f.0 f.1 ≡ None
      none f out = ap (λ b. if b then option_and_then (if_of_task k f.0) f.1.item else None) out

  -- ---- the net above an item

  above_stays : removes s e (parent j) ≡ false
  above_stays = false_from_ne_true _ (λ gone. elim (goes_down s e j gone) [ inl goes ↦ never (sym stays ∙ goes) | inr changed ↦ never (sym two.0 ∙ changed) ])

  above_same : (y : ItemPart) → item_part s j ≡ Some y → (n : NetPart) × (net_part s (parent j) ≡ Some n) × (kind_at t (parent j) ≡ kind_at s (parent j))
  above_same y item =
      let (n, has) = in_net s j y well.parents item in (
        n,
        has,
        by_test (is_plain_event e)
            (λ plain. above_kind s e said j x n well.numbers well.nets plain ok stood has stays above_stays
            (false_from_ne_true _ (λ at. never (sym two.0 ∙ done_changes e j at))))
            (λ other. kind_stays s j x n well stood has e said other ok stays above_stays two.0),
      )

  rules_same : t.rules ≡ s.rules
  rules_same = by_option (case_of e)
      (λ none. caseless_rules s e said no_rule none)
      (λ n of_case. (leaves_other_cases n s e said well.numbers well.parents ok of_case).rules)

  sees_same : SeesSame s t j
  sees_same =
      let loaded = loaded_stays s e said well ok no_rule in
      record {
        run = ap (option_and_then (λ (y : Site). y.run)) here;
        item = stage_same s t loaded well.content.of_spec j (ap (option_and_then (λ (y : Site). y.item)) here) above_same;
        part = ap (option_and_then (λ (y : Site). y.net)) here;
        net = net_same s t loaded well.content.of_spec j (ap (option_and_then (λ (y : Site). y.net)) here);
        items = items_same;
        done = λ i y below. done_below i below y;
        manual = λ y. ap (λ m. is_atomic y.task && length (unwrap_or (get m (place_key (task_place y kinds.Select))) []) == 0) rules_same;
        busy = busy_here;
        next = next-rises s e said ok.0;
      }

  pub stays_idle : StaysIdle s t j
  stays_idle = record { stood = (x, stood); site = here; idle = idle_stays s t j sees_same; compensation = compensation_same s t j sees_same; sees = sees_same }
