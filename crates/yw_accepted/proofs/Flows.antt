-- What flows tell of a task of an accepted document: which places stand before and after it, and that one stands before it.
use Rattle.std.specs.Prelude.{◌≡◌, ◌≤◌, ◌<◌, ◌||◌, ℕ, zero, suc, Bool, true, List, [], ◌∷◌, ◌++◌, map, filter, length, get_or, cond, None, refl, if◌then◌else◌}
use Rattle.std.specs.List.{All, AllZip, list_all, list_any}
use Rattle.std.specs.Str.{bytes_eq}
use Rattle.std.proofs.Common.{sym, ◌∙◌, ap, subst, arith}
use Rattle.std.proofs.lemmas.Bool.{and_from, and_parts, or_right}
use Rattle.std.proofs.lemmas.List.{get_or_default}
use Rattle.std.proofs.lemmas.List.Elements.{All-cons, All-contains, All-head, All-nil, All-tail}
use Rattle.std.proofs.lemmas.Slice.Eq.{bytes_eq-Decides}
use Rattle.yw_accept.proofs.Among.{among_contains, among_right, usable_among}
use Rattle.yw_accept.proofs.FactsLemmas.{order_all}
use Rattle.yw_accept.specs.Built.{IsPlaceOf, flows_to, place_of, places_of}
use Rattle.yw_accept.specs.Facts.{NetIsNamed, NetLeads}
use Rattle.yw_accept.specs.Graph.{IsOnPath, NodeIsOnPath, PathsFit}
use Rattle.yw_accept.specs.Names.{is_usable}
use Rattle.yw_accept.specs.Nodes.{HasFlow, is_name_among, is_implicit, is_task, named_places, nodes, task_names}
use Rattle.yw_accept.specs.Order.{InOrder}
use Rattle.yw_accept.specs.Verdict.{IsVerdict}
use Rattle.yw_base.specs.Spelling.{is_name}
use Rattle.yw_reach.specs.Walks.{WalkAlong}
use Rattle.yw_read.specs.declared.raw.RawFlow.{RawFlow}
use Rattle.yw_read.specs.declared.raw.RawNet.{RawNet}
use Rattle.yw_read.specs.declared.raw.RawSpec.{RawSpec}
use Rattle.yw_spec.specs.declared.spec.Place.TheVariants as places
use Rattle.yw_state.proofs.Tests.{by_test, never}
use Rattle.yw_within.specs.Within.{has_number, is_named_place}
use Rattle.yw_accepted.proofs.Numbered.{all_append, all_made, has_it}

-- ---- names

pub usable_is_name : (name : List ℕ) → is_usable name ≡ true → is_name name ≡ true
usable_is_name name e = (and_parts (is_name name) _ e).0

pub names_all : {A : Type 0} (name : A → List ℕ) (xs : List A) → All (λ n. is_usable n ≡ true) (map name xs) → list_all (λ x. is_name (name x)) xs ≡ true
names_all name [] all = refl
names_all name (x ∷ xs) all =
    and_from _ _ (usable_is_name (name x) (All-head (λ n. is_usable n ≡ true) (name x) (map name xs) all)) (names_all name xs (All-tail (λ n. is_usable n ≡ true) (name x) (map name xs) all))

module _ (net : RawNet) where
  named_are_named : (ns : List (List ℕ)) → All (λ n. is_usable n ≡ true) ns → list_all is_named_place (map places.Named ns) ≡ true
  named_are_named [] all = refl
  named_are_named (n ∷ ns) all =
      and_from _ _ (usable_is_name n (All-head (λ m. is_usable m ≡ true) n ns all)) (named_are_named ns (All-tail (λ m. is_usable m ≡ true) n ns all))

  -- an implicit place is named by its ends, which are nodes
  between : (flow : RawFlow) → is_implicit net flow ≡ true → is_name flow.from ≡ true → is_name flow.to ≡ true → is_named_place (place_of net flow) ≡ true
  between flow implicit from to =
      ap (λ b. is_named_place (if b then places.Between flow.from flow.to else if is_task net flow.from then places.Named flow.to else places.Named flow.from)) implicit ∙ and_from _ _ from to

  betweens : (flows : List RawFlow) → All (λ (f : RawFlow). is_name_among (nodes net) f.from ≡ true) flows → All (λ (f : RawFlow). is_name_among (nodes net) f.to ≡ true) flows
      → All (λ n. is_usable n ≡ true) (nodes net) → list_all is_named_place (map (place_of net) (filter (is_implicit net) flows)) ≡ true
  betweens [] from to usable = refl
  betweens (f ∷ fs) from to usable =
      let From = λ (g : RawFlow). is_name_among (nodes net) g.from ≡ true in
      let To = λ (g : RawFlow). is_name_among (nodes net) g.to ≡ true in
      let rest = betweens fs (All-tail From f fs from) (All-tail To f fs to) usable in
      by_test (is_implicit net f)
      (λ yes.
      ap (λ b. list_all is_named_place (map (place_of net) (cond b (f ∷ filter (is_implicit net) fs) (filter (is_implicit net) fs)))) yes
      ∙ and_from _ _ (between f yes (usable_is_name f.from (usable_among (nodes net) f.from usable (All-head From f fs from))) (usable_is_name f.to (usable_among (nodes net) f.to usable (All-head To f fs to)))) rest)
      (λ els. ap (λ b. list_all is_named_place (map (place_of net) (cond b (f ∷ filter (is_implicit net) fs) (filter (is_implicit net) fs)))) els ∙ rest)

  all_left : {A : Type 0} (P : A → Type 0) (xs ys : List A) → All P (xs ++ ys) → All P xs
  all_left P [] ys all = All-nil P
  all_left P (x ∷ xs) ys all = All-cons P x xs (All-head P x (xs ++ ys) all) (all_left P xs ys (All-tail P x (xs ++ ys) all))

  pub places_named : NetIsNamed net → NetLeads net → list_all is_named_place (places_of net) ≡ true
  places_named named leads =
      all_append is_named_place (map places.Named (named_places net)) (map (place_of net) (filter (is_implicit net) net.flows))
      (named_are_named (named_places net) (all_left (λ n. is_usable n ≡ true) (named_places net) (task_names net.task) named.nodes_are.usable))
      (betweens net.flows leads.from leads.to named.nodes_are.usable)

  -- ---- places before and after a task

  pub flows_within : (fs : List RawFlow) (cs : List ℕ) → AllZip (IsPlaceOf net) fs cs → list_all (has_number (places_of net)) cs ≡ true
  flows_within fs cs zip = all_made (IsPlaceOf net) (has_number (places_of net)) (λ f c at. has_it (places_of net) c (place_of net f) at) fs cs zip

  -- ---- a way from the input leads to the task by a flow

  kept : (p : RawFlow → Bool) (flows : List RawFlow) → list_any p flows ≡ true → 1 ≤ length (filter p flows)
  kept p [] some = never some
  kept p (f ∷ fs) some =
      by_test (p f)
      (λ yes. subst (λ b. 1 ≤ length (cond b (f ∷ filter p fs) (filter p fs))) (sym yes) (omega arith))
      (λ els. subst (λ b. 1 ≤ length (cond b (f ∷ filter p fs) (filter p fs))) (sym els) (kept p fs (sym (ap (λ b. b || (list_any p fs)) els) ∙ some)))

  flow_there : (from to : List ℕ) → HasFlow net from to → 1 ≤ length (flows_to net to)
  flow_there from to (k, lt, at) = kept (λ (f : RawFlow). bytes_eq f.to to) net.flows (any_contains net.flows k lt at)
    where
      any_contains : (fs : List RawFlow) (k : ℕ) → k < length fs → get_or fs k (record { from = from; to = to }) ≡ record { from = from; to = to } → list_any (λ (f : RawFlow). bytes_eq f.to to) fs ≡ true
      any_contains [] k lt at = absurd (omega (arith, lt))
      any_contains (f ∷ fs) zero lt at = ap (λ b. b || (list_any (λ (g : RawFlow). bytes_eq g.to to) fs)) ((bytes_eq-Decides f.to to).1 (ap (λ (g : RawFlow). g.to) at))
      any_contains (f ∷ fs) (suc k) lt at = or_right (bytes_eq f.to to) _ (any_contains fs k (omega (arith, lt)) at)

  walk_there : (n : ℕ) (to : List ℕ) → (net.input ≡ to → ⊥) → WalkAlong (HasFlow net) net.input to n → 1 ≤ length (flows_to net to)
  walk_there zero to other walk = absurd (other walk)
  walk_there (suc n) to other (from, walk, flow) = flow_there from to flow

  same_count : (fs : List RawFlow) (cs : List ℕ) → AllZip (IsPlaceOf net) fs cs → 1 ≤ length fs → 1 ≤ length cs
  same_count [] [] zip some = some
  same_count [] (c ∷ cs) zip some = absurd zip
  same_count (f ∷ fs) [] zip some = absurd zip
  same_count (f ∷ fs) (c ∷ cs) zip some = omega arith

  -- no task has the name of the input
  not_input : NetIsNamed net → (name : List ℕ) → is_name_among (task_names net.task) name ≡ true → net.input ≡ name → ⊥
  not_input named name task same =
      let rest = net.output ∷ net.conditions ++ task_names net.task in
      let (k, lt, at) = among_contains rest name (among_right (net.output ∷ net.conditions) (task_names net.task) name task) in
      let here : get_or rest k [] ≡ name = get_or_default rest k [] name lt ∙ at in
      let first = named.nodes_are.distinct 0 (suc k) (omega arith) (omega (arith, lt)) (same ∙ sym here) in
      omega (arith, first)

  -- so a place stands before each task
  pub some_before : NetIsNamed net → All (IsOnPath net) (nodes net) → (name : List ℕ) → is_name_among (task_names net.task) name ≡ true → (cs : List ℕ) → AllZip (IsPlaceOf net) (flows_to net name) cs → 1 ≤ length cs
  some_before named paths name task cs zip =
      let here = among_contains (nodes net) name (among_right (named_places net) (task_names net.task) name task) in
      let (steps, walk) = (All-contains (IsOnPath net) (nodes net) name paths here).0 in
      same_count (flows_to net name) cs zip (walk_there steps name (not_input named name task) walk)

pub paths_fit : (raw : RawSpec) → IsVerdict raw None → All (λ (net : RawNet). All (IsOnPath net) (nodes net)) raw.net
unfolding IsVerdict PathsFit
paths_fit raw verdict k d lt = order_all (NodeIsOnPath (get_or raw.net k d)) (nodes (get_or raw.net k d)) (order_all (λ (net : RawNet). InOrder (NodeIsOnPath net) (nodes net)) raw.net verdict.1.1.0 k d lt)
