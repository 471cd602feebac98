-- What is found where specifications are within.
use Rattle.std.specs.Prelude.{Option, Contains, None, ◌≡◌, ◌<◌, ℕ, zero, suc, true, List, [], ◌∷◌, length, map, Some, option_and_then, option_map, slice_get, refl}
use Rattle.std.specs.Option.{option_map_or}
use Rattle.std.proofs.Common.{◌∙◌, ap, subst, arith}
use Rattle.std.proofs.lemmas.Bool.{and_parts, ltb-true}
use Rattle.std.proofs.lemmas.List.Elements.{All-contains}
use Rattle.std.proofs.lemmas.List.Sums.{AllPass-from_list_all}
use Rattle.yw_spec.specs.Net as flows
use Rattle.yw_spec.specs.declared.spec.Net.{Net}
use Rattle.yw_spec.specs.declared.spec.Place.{Place}
use Rattle.yw_spec.specs.declared.spec.Spec.{Spec}
use Rattle.yw_spec.specs.declared.task.Task.{Task}
use Rattle.yw_state.proofs.Tests.{map_some, then_some}
use Rattle.yw_state.specs.Allowed.{place_numbers}
use Rattle.yw_state.specs.Identity.{Ident}
use Rattle.yw_state.specs.Map.{get}
use Rattle.yw_state.specs.Nets.{place_number, task_number}
use Rattle.yw_state.specs.Options.{all_of}
use Rattle.yw_state.specs.State.{State, NetAt, NetPart, TaskAt, net_at, net_of, net_part, spec_called, task_at, task_in}
use Rattle.yw_state.specs.Texts.{Reader}
use Rattle.yw_state.specs.Well.{IsWell}
use Rattle.yw_state.specs.declared.loaded.Loaded.{Loaded}
use Rattle.yw_within.specs.Within.{HoldsWithin, IsWithin, NetIsWithin, ReadsWithin, are_places, has_number}

pub element_at : {A : Type 0} (xs : List A) (k : ℕ) → k < length xs → (x : A) × (slice_get xs k ≡ Some x)
element_at [] k within = absurd (omega (arith, within))
element_at (x ∷ xs) zero within = (x, refl)
element_at (x ∷ xs) (suc k) within = element_at xs k (omega (arith, within))

-- these are the numbers of places that have names
abbrev pub HasNames : Net → List ℕ → Type 0
HasNames net cs = (ps : List Place) × (place_numbers net ps ≡ Some cs)

pub places_are_named : (spec : Spec) (net : Net) → NetIsWithin spec net → (cs : List ℕ) → are_places net cs ≡ true → HasNames net cs
places_are_named spec net within [] all = ([], refl)
places_are_named spec net within (c ∷ cs) all =
    let parts = and_parts (has_number net.places c) (are_places net cs) all in
    let (p, at) = element_at net.places c (ltb-true c (length net.places) parts.0) in
    let (ps, are) = places_are_named spec net within cs parts.1 in (
      p ∷ ps,
      ap (option_and_then (λ (x : ℕ). option_map (λ xs. x ∷ xs) (all_of (map (place_number net) ps)))) (within.places c p at)
          ∙ ap (option_map (λ (xs : List ℕ). c ∷ xs)) are,
    )

-- what is loaded in a state that is well is what texts say
pub well_holds_within : (reader : Reader) (s : State) → ReadsWithin reader → IsWell reader s → HoldsWithin s
well_holds_within reader s reads well name spec called =
    let (l, at, is) = map_some (λ (l : Loaded). l.spec) (get s.specs name) spec called in
    subst IsWithin is (reads l.text l.spec (well.content.spec_text name l at))

-- ---- a task of a net that stands

-- the task is of the net at i
pub record OfTask (s : State) (i : Ident) (x : TaskAt) : Type 0 where
  pub stands : net_at s i ≡ Some x.within
  pub task : slice_get x.within.net.tasks x.number ≡ Some x.task

pub numbered_of : (s : State) (i : Ident) (k : ℕ) (x : TaskAt) → option_and_then (λ n. task_in n k) (net_at s i) ≡ Some x → OfTask s i x
numbered_of s i k x e =
    let (n, stands, found) = then_some (λ (n : NetAt). task_in n k) (net_at s i) x e in
    let (task, at, made) = map_some (λ (u : Task). record { number = k; task = u; within = n }) (slice_get n.net.tasks k) x found in
    subst (OfTask s i) made (record { stands = stands; task = at })

pub named_of : (s : State) (i : Ident) (t : List ℕ) (x : TaskAt) → task_at s i t ≡ Some x → OfTask s i x
named_of s i t x e =
    let (n, stands, found) = then_some (λ (n : NetAt). option_and_then (task_in n) (task_number n.net t)) (net_at s i) x e in
    let (k, number, in_net) = then_some (task_in n) (task_number n.net t) x found in
    let (task, at, made) = map_some (λ (u : Task). record { number = k; task = u; within = n }) (slice_get n.net.tasks k) x in_net in
    subst (OfTask s i) made (record { stands = stands; task = at })

module _ (s : State) (holds : HoldsWithin s) (i : Ident) where
  pub net_within : (n : NetAt) → net_at s i ≡ Some n → (spec : Spec) × NetIsWithin spec n.net
  net_within n e =
      let (part, stands, found) = then_some (λ (p : NetPart). option_map (λ (net : Net). record { part = p; net = net }) (net_of s p)) (net_part s i) n e in
      let (net, of, made) = map_some (λ (m : Net). record { part = part; net = m }) (net_of s part) n found in
      let (spec, called, at) = then_some (λ (sp : Spec). slice_get sp.nets part.net) (spec_called s part.spec) net of in
      (spec, subst (λ (m : NetAt). NetIsWithin spec m.net) made ((holds part.spec spec called).nets part.net net at))

  -- the task at its own name
  pub task_found : (x : TaskAt) → OfTask s i x → task_at s i x.task.name ≡ Some x
  task_found x of =
      let (spec, within) = net_within x.within of.stands in
      ap (option_and_then (λ (n : NetAt). option_and_then (task_in n) (task_number n.net x.task.name))) of.stands
      ∙ ap (option_and_then (task_in x.within)) (within.tasks x.number x.task of.task)
      ∙ ap (option_map (λ (t : Task). record { number = x.number; task = t; within = x.within })) of.task

-- ---- flows

-- what is among numbers of places is a number of one
place_below : (net : Net) (cs : List ℕ) (c : ℕ) → are_places net cs ≡ true → Contains cs c → c < length net.places
place_below net cs c all among =
    ltb-true c (length net.places) (All-contains (λ k. has_number net.places k ≡ true) cs c (AllPass-from_list_all (has_number net.places) cs all) among)

-- of the task with this number, if there is one
flows_below : (net : Net) (flows : Task → List ℕ) (o : Option Task) → ((t : Task) → o ≡ Some t → are_places net (flows t) ≡ true) → (c : ℕ) → Contains (option_map_or flows o []) c → c < length net.places
flows_below net flows None all c among = absurd (no_element c among)
  where
    no_element : (c : ℕ) → Contains [] c → ⊥
    no_element c (k, lt, at) = omega (arith, lt)
flows_below net flows (Some t) all c among = place_below net (flows t) c (all t refl) among

module _ (spec : Spec) (net : Net) (within : NetIsWithin spec net) (t c : ℕ) where
  pub before_within : Contains (flows.places_before net t) c → c < length net.places
  before_within among = flows_below net (λ (x : Task). x.before) (slice_get net.tasks t) (λ x at. (within.each_task t x at).before) c among

  pub after_within : Contains (flows.places_after net t) c → c < length net.places
  after_within among = flows_below net (λ (x : Task). x.after) (slice_get net.tasks t) (λ x at. (within.each_task t x at).after) c among
