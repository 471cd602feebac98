-- A task exits: what is well stays well. Each part of it keeps what is well, and where the net still stands then, it is the one before.
use Rattle.std.specs.Prelude.{◌≡◌, ◌≤◌, ◌<◌, ◌&&◌, ◌||◌, ℕ, Bool, true, false, not, List, [], ◌∷◌, fold, length, Option, Some, None, is_some, nat_eq, nat_lt, option_and_then, slice_get, unwrap_or, refl, if◌then◌else◌}
use Rattle.std.specs.Cmp.Lexicographic.{pointwise}
use Rattle.std.specs.List.{list_all}
use Rattle.std.proofs.Common.{sym, ◌∙◌, ap, subst, arith}
use Rattle.std.proofs.lemmas.Bool.{and_parts, eqb-true}
use Rattle.yw_base.specs.Identity.{under}
use Rattle.yw_base.specs.Values.{most_elements}
use Rattle.yw_base.specs.declared.gate.Gate.{Gate}
use Rattle.yw_base.specs.declared.gate.Gate.TheVariants.{And, Xor, Or}
use Rattle.yw_invariant.proofs.Ancestors as ancestors
use Rattle.yw_invariant.proofs.Assigned.{kept_fit}
use Rattle.yw_invariant.proofs.Changes.{dropped_is_well}
use Rattle.yw_invariant.proofs.MadeRows.{made_rows_few, made_rows_fit}
use Rattle.yw_invariant.proofs.NetGoesOn.{KeepsNet, goes_on_is_well, net_here_now, rebased}
use Rattle.yw_invariant.proofs.Tasks.{OfTask, net_sound, of_spec, part_of, task_there}
use Rattle.yw_invariant.proofs.TokensFit.{apart_where, count, given_few, given_length, none_on, one_on, room_once_wiped, wiped_few, wiped_length}
use Rattle.yw_sound.specs.Sound.{ReadsSound, TaskIsSound, are_apart}
use Rattle.yw_spec.specs.declared.spec.Place.{Place}
use Rattle.yw_spec.specs.declared.task.Task.{Task}
use Rattle.yw_state.proofs.Absent.{idents_of}
use Rattle.yw_state.proofs.Alike.{net_by}
use Rattle.yw_state.proofs.MapLemmas.{by_name, by_option, by_test, get-retain_gone, get-retain_kept, never, nowhere, some_same}
use Rattle.yw_state.proofs.MarksWell.{case_due_is_well}
use Rattle.yw_state.proofs.Tests.{same_numbers, then_some, there, there_and}
use Rattle.yw_state.specs.After.{change, exit, exit_to, items_gone, make_due, post_at_output, region_emptied, values_assigned, where_some, with_net, with_sites, without_items}
use Rattle.yw_state.specs.Allowed.{Allowed, allows, exit_values, has_room_for, may_exit, may_leave, most_tokens, place_numbers, puts_on}
use Rattle.yw_state.specs.Events.{after}
use Rattle.yw_state.specs.Identity.{Ident, is_case_ident}
use Rattle.yw_state.specs.Judged.{case_place}
use Rattle.yw_state.specs.Map.{get}
use Rattle.yw_state.specs.Nets.{is_among}
use Rattle.yw_state.specs.Options.{is_some_and}
use Rattle.yw_state.specs.Passing.{made_rows, split_places}
use Rattle.yw_state.specs.State.{State, Site, Sites, NetAt, NetPart, TaskAt, drop, drop_all, items_of, net_at, net_part, task_at, tokens_on}
use Rattle.yw_state.specs.Texts.{Reader, Said}
use Rattle.yw_state.specs.Values.{Row}
use Rattle.yw_state.specs.Well.{IsWell, NetFits}
use Rattle.yw_state.specs.Words.{active, clear}
use Rattle.yw_state.specs.declared.event.Event.TheVariants as events
use Rattle.yw_state.specs.declared.tree.TreeKind.TheVariants.{Post}

-- ---- items go, with all under them

dropped_all_is_well : (reader : Reader) (js : List Ident) (s : State) → IsWell reader s → IsWell reader (with_sites s (drop_all s.sites js))
dropped_all_is_well reader [] s well = well
dropped_all_is_well reader (j ∷ js) s well = dropped_all_is_well reader js (with_sites s (drop s.sites j)) (dropped_is_well reader s well j)

without_each_is_well : (reader : Reader) (i : Ident) (ks : List ℕ) (s : State) → IsWell reader s → IsWell reader (fold (without_items i) s ks)
without_each_is_well reader i [] s well = well
without_each_is_well reader i (k ∷ ks) s well = without_each_is_well reader i ks (without_items i s k) (dropped_all_is_well reader (idents_of s i k) s well)

-- a net that stands then stood there before
net_before_drop : (s : State) (i j : Ident) (n : NetAt) → net_at (with_sites s (drop s.sites j)) i ≡ Some n → net_at s i ≡ Some n
net_before_drop s i j n e =
    by_test (not (under i j))
    (λ kept. ap in_site (sym (get-retain_kept by_name s.sites (λ k. not (under k j)) i kept)) ∙ e)
    (λ gone. nowhere (ap in_site (sym (get-retain_gone by_name s.sites (λ k. not (under k j)) i gone)) ∙ e))
  where
    in_site : Option Site → Option NetAt
    in_site o = option_and_then (net_by s) (option_and_then (λ (x : Site). x.net) o)

net_before_drops : (i : Ident) (js : List Ident) (s : State) (n : NetAt) → net_at (with_sites s (drop_all s.sites js)) i ≡ Some n → net_at s i ≡ Some n
net_before_drops i [] s n e = e
net_before_drops i (j ∷ js) s n e = net_before_drop s i j n (net_before_drops i js (with_sites s (drop s.sites j)) n e)

net_before_each : (i : Ident) (ks : List ℕ) (s : State) (n : NetAt) → net_at (fold (without_items i) s ks) i ≡ Some n → net_at s i ≡ Some n
net_before_each i [] s n e = e
net_before_each i (k ∷ ks) s n e = net_before_drops i (idents_of s i k) s n (net_before_each i ks (without_items i s k) n e)

-- ---- the places to which a task goes on

-- a split goes to no place twice
split_apart : (t : Task) (row : Row) → are_apart t.after ≡ true → are_apart (split_places t row) ≡ true
split_apart t row once = by_gate t.split
  where
    by_gate : (gate : Gate) → are_apart (split_places (record t { split = gate }) row) ≡ true
    by_gate And = once
    by_gate Xor = apart_where _ t.after once
    by_gate Or = apart_where _ t.after once

each_passes : (p : ℕ → Bool) (cs : List ℕ) → list_all p cs ≡ true → (c : ℕ) → is_among cs c ≡ true → p c ≡ true
each_passes p [] all c within = never within
each_passes p (d ∷ cs) all c within =
    let parts = and_parts (p d) (list_all p cs) all in
    by_test (nat_eq c d)
    (λ here. ap p (eqb-true c d here) ∙ parts.0)
    (λ other. each_passes p cs parts.1 c (ap (λ b. b || is_among cs c) (sym other) ∙ within))

-- ---- a case's check behind its end

post_is_well : (reader : Reader) (s : State) (i : Ident) (n : NetAt) (cs : List ℕ) → ((p : NetPart) → net_part s i ≡ Some p → p.spec ≡ n.part.spec) → IsWell reader s → IsWell reader (post_at_output s i n cs)
post_is_well reader s i n cs same well = elsewhere (is_case_ident i) refl (is_among cs n.net.output)
  where
    -- where nothing stands, nothing changes
    due : is_case_ident i ≡ true → IsWell reader (make_due s i (case_place n.part.spec Post))
    due case =
        by_option (get s.sites i)
        (λ none. subst (λ (m : Sites). IsWell reader (with_sites s m)) (sym (unchanged none)) well)
        (λ x some.
        let (p, net) = there (net_part s i) (ancestors.net_of_case reader s well i (ap is_some some) case) in
        subst (λ name. IsWell reader (make_due s i (case_place name Post))) (same p net) (case_due_is_well reader s i well p case net Post refl))
      where
        unchanged : get s.sites i ≡ None → (make_due s i (case_place n.part.spec Post)).sites ≡ s.sites
        unchanged none = rw none refl

    elsewhere : (b : Bool) → is_case_ident i ≡ b → (c : Bool) → IsWell reader (if b && c then make_due s i (case_place n.part.spec Post) else s)
    elsewhere true case true = due case
    elsewhere true case false = well
    elsewhere false case c = well

-- ---- all of it

module _ (reader : Reader) (sound : ReadsSound reader) (s : State) (well : IsWell reader s) (i : Ident) (x : TaskAt) (of : OfTask s i x) (cs : List ℕ) (puts : puts_on s i x cs ≡ true) where
  right : TaskIsSound (of_spec s i x.within of.within).spec x.within.net x.task
  right = (net_sound reader sound s well i x.within of.within).tasks x.number x.task of.task

  before_fits : NetFits x.within
  before_fits = well.content.net i x.within of.within

  -- ---- the items have gone, and the assignments are made

  abbrev left : State
  left = items_gone s i x

  left_is_well : IsWell reader left
  left_is_well = dropped_all_is_well reader (idents_of s i x.number) s well

  net_left : (n : NetAt) → net_at left i ≡ Some n → x.within ≡ n
  net_left n e = some_same x.within n (sym of.within ∙ net_before_drops i (idents_of s i x.number) s n e)

  rows_few : length (made_rows (items_of s i x.number)) ≤ most_elements
  rows_few =
      let all = made_rows_few reader s well i x.within x.number x.task of.within of.task in
      let most = right.few in
      omega (arith, all, most)

  abbrev new_values : NetPart → NetPart
  new_values n = record n { vals = exit_values s i x }

  new_values_keep : KeepsNet new_values
  new_values_keep = record { spec = λ n. refl; net = λ n. refl }

  new_values_fit : NetFits (rebased new_values x.within)
  new_values_fit =
      record {
        vals = kept_fit x.task (made_rows (items_of s i x.number)) rows_few right.gathers (made_rows_fit reader s well i x.within x.number x.task of.within of.task) x.within.net x.within.part.vals right.assigns right.constants before_fits.vals;
        places = before_fits.places;
        counts = before_fits.counts;
      }

  left_fits : (n : NetAt) → net_at left i ≡ Some n → NetFits (rebased new_values n)
  left_fits n e = subst (λ (m : NetAt). NetFits (rebased new_values m)) (net_left n e) new_values_fit

  abbrev assigned : State
  assigned = values_assigned s i x

  assigned_is_well : IsWell reader assigned
  assigned_is_well = goes_on_is_well left i new_values new_values_keep left_fits reader left_is_well

  net_assigned : (n : NetAt) → net_at assigned i ≡ Some n → rebased new_values x.within ≡ n
  net_assigned n e =
      let (m, stood, is) = net_here_now left i new_values new_values_keep left_fits n e in ap (rebased new_values) (net_left m stood) ∙ is

  -- ---- the removal set is emptied

  abbrev without_tokens : NetPart → NetPart
  without_tokens n = record n { tokens = fold none_on n.tokens x.task.drop_places }

  without_tokens_keep : KeepsNet without_tokens
  without_tokens_keep = record { spec = λ n. refl; net = λ n. refl }

  assigned_fits : (n : NetAt) → net_at assigned i ≡ Some n → NetFits (rebased without_tokens n)
  assigned_fits n e =
      let fits = assigned_is_well.content.net i n e in
      record {
        vals = fits.vals;
        places = wiped_length x.task.drop_places n.part.tokens ∙ fits.places;
        counts = wiped_few x.task.drop_places n.part.tokens fits.counts;
      }

  abbrev wiped : State
  wiped = change assigned i (with_net without_tokens)

  wiped_is_well : IsWell reader wiped
  wiped_is_well = goes_on_is_well assigned i without_tokens without_tokens_keep assigned_fits reader assigned_is_well

  abbrev emptied : State
  emptied = region_emptied s i x

  emptied_is_well : IsWell reader emptied
  emptied_is_well = without_each_is_well reader i x.task.drop_tasks wiped wiped_is_well

  abbrev within_emptied : NetAt
  within_emptied = rebased without_tokens (rebased new_values x.within)

  net_emptied : (n : NetAt) → net_at emptied i ≡ Some n → within_emptied ≡ n
  net_emptied n e =
      let (m, stood, is) = net_here_now assigned i without_tokens without_tokens_keep assigned_fits n (net_before_each i x.task.drop_tasks wiped n e) in
      ap (rebased without_tokens) (net_assigned m stood) ∙ is

  -- ---- each of the places gets a token

  chosen : (pointwise nat_eq cs (split_places x.task (exit_values s i x)) ≡ true) × (list_all (has_room_for s i x) cs ≡ true)
  chosen = let parts = and_parts (pointwise nat_eq cs (split_places x.task (exit_values s i x))) (list_all (has_room_for s i x) cs) puts in (parts.0, parts.1)

  places_apart : are_apart cs ≡ true
  places_apart = ap are_apart (same_numbers cs (split_places x.task (exit_values s i x)) chosen.0) ∙ split_apart x.task (exit_values s i x) right.apart

  counted : (c : ℕ) → tokens_on s i c ≡ count x.within.part.tokens c
  counted c =
      let (part, there, made) = then_some (net_by s) (net_part s i) x.within of.within in
      ap (λ o. unwrap_or (option_and_then (λ (n : NetPart). slice_get n.tokens c) o) 0) there ∙ ap (λ (n : NetPart). count n.tokens c) (sym (part_of s part x.within made))

  room : (n : NetAt) → net_at emptied i ≡ Some n → (c : ℕ) → is_among cs c ≡ true → count n.part.tokens c < most_tokens
  room n e c within =
      subst (λ (y : NetAt). count y.part.tokens c < most_tokens) (net_emptied n e)
      (room_once_wiped x.task.drop_places x.within.part.tokens c
      (ap (λ k. is_among x.task.drop_places c || nat_lt k most_tokens) (sym (counted c)) ∙ each_passes (has_room_for s i x) cs chosen.1 c within))

  abbrev one_more : NetPart → NetPart
  one_more n = record n { tokens = fold one_on n.tokens cs }

  emptied_fits : (n : NetAt) → net_at emptied i ≡ Some n → NetFits (rebased one_more n)
  emptied_fits n e =
      let fits = emptied_is_well.content.net i n e in
      record {
        vals = fits.vals;
        places = given_length cs n.part.tokens ∙ fits.places;
        counts = given_few cs n.part.tokens places_apart (room n e) fits.counts;
      }

  abbrev given : State
  given = change emptied i (with_net one_more)

  one_more_keep : KeepsNet one_more
  one_more_keep = record { spec = λ n. refl; net = λ n. refl }

  given_is_well : IsWell reader given
  given_is_well = goes_on_is_well emptied i one_more one_more_keep emptied_fits reader emptied_is_well

  net_given : (n : NetAt) → net_at given i ≡ Some n → rebased one_more within_emptied ≡ n
  net_given n e =
      let (m, stood, is) = net_here_now emptied i one_more one_more_keep emptied_fits n e in ap (rebased one_more) (net_emptied m stood) ∙ is

  -- where the net still stands, it is of the same specification
  same_spec : (p : NetPart) → net_part given i ≡ Some p → p.spec ≡ x.within.part.spec
  same_spec p net =
      let (n, at) = there (net_at given i) (given_is_well.content.of_spec i p net) in
      let of_part = part_of given p n (ap (option_and_then (net_by given)) (sym net) ∙ at) in
      ap (λ (q : NetPart). q.spec) (sym of_part) ∙ ap (λ (y : NetAt). y.part.spec) (sym (net_given n at))

  exited_is_well : IsWell reader (exit_to s i x cs)
  exited_is_well = post_is_well reader given i x.within cs same_spec given_is_well

module _ (reader : Reader) (sound : ReadsSound reader) (s : State) (i : Ident) (t : List ℕ) (places : List Place) (said : Said) (well : IsWell reader s) where
  exit_is_well : (x : TaskAt) → task_at s i t ≡ Some x → is_some_and (place_numbers x.within.net places) (puts_on s i x) ≡ true → IsWell reader (exit s i places x)
  exit_is_well x is puts =
      let (cs, numbers, fit) = there_and (place_numbers x.within.net places) (puts_on s i x) puts in
      subst (λ o. IsWell reader (exit_to s i x (unwrap_or o []))) (sym numbers) (exited_is_well reader sound s well i x (task_there s i t x is) cs fit)

  pub exit_keeps_well : Allowed s (events.Exit i t places) said → IsWell reader (after s (events.Exit i t places) said)
  unfolding allows after
  exit_keeps_well allowed =
      let parts = and_parts (clear s i) (is_some_and (task_at s i t) (may_exit s i places)) allowed.0 in
      let (x, is, may) = there_and (task_at s i t) (may_exit s i places) parts.1 in
      subst (λ o. IsWell reader (where_some o s (exit s i places))) (sym is)
      (exit_is_well x is (and_parts (active s i x.number && may_leave s i x) (is_some_and (place_numbers x.within.net places) (puts_on s i x)) may).1)
