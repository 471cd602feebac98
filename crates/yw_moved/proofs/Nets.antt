-- A net that stands is found with the same net of its specification, and an item with the same task, where the specifications that were loaded stay.
use Rattle.std.specs.Prelude.{◌≡◌, ℕ, true, false, List, Option, Some, None, is_some, option_map, option_and_then, slice_get, refl, IsSome}
use Rattle.std.specs.Str.{bytes_eq}
use Rattle.std.proofs.Common.{sym, ◌∙◌, ap}
use Rattle.yw_moved.proofs.Above.{kind, kind_at}
use Rattle.yw_plain.specs.Plain.{is_plain_event}
use Rattle.yw_spec.specs.declared.spec.Net.{Net}
use Rattle.yw_spec.specs.declared.spec.Spec.{Spec}
use Rattle.yw_spec.specs.declared.task.Task.{Task}
use Rattle.yw_state.proofs.Alike.{item_in, net_by, net_in}
use Rattle.yw_state.proofs.Apart.{leaves_other_cases}
use Rattle.yw_state.proofs.MapLemmas.{by_name, get-insert_other}
use Rattle.yw_state.proofs.Tests.{and_right, by_option, is_not, never, nowhere}
use Rattle.yw_state.specs.Allowed.{Allowed, allows}
use Rattle.yw_state.specs.Automatic.{case_of}
use Rattle.yw_state.specs.Events.{after}
use Rattle.yw_state.specs.Identity.{Ident}
use Rattle.yw_base.specs.Identity.{parent}
use Rattle.yw_state.specs.Map.{get, has_key}
use Rattle.yw_state.specs.State.{State, ItemAt, ItemPart, NetAt, NetPart, item_part, net_at, net_part, spec_called}
use Rattle.yw_state.specs.Texts.{Said, a_spec}
use Rattle.yw_state.specs.Well.{NumbersFit, ParentsStand}
use Rattle.yw_state.specs.declared.event.Event.{Event}
use Rattle.yw_state.specs.declared.event.Event.TheVariants as events
use Rattle.yw_state.specs.declared.loaded.Loaded.{Loaded}
use Rattle.yw_state.specs.declared.part.Stage.{Stage}
use Rattle.yw_still.specs.Looked.{stage_and_task}

-- ---- what was loaded stays

abbrev pub StaysLoaded : State → State → Type 0
StaysLoaded s t = (name : List ℕ) → is_some (get s.specs name) ≡ true → get t.specs name ≡ get s.specs name

-- an event of no case
caseless_stays : (s : State) (e : Event) (said : Said) → is_plain_event e ≡ true → case_of e ≡ None → Allowed s e said
    → StaysLoaded s (after s e said)
unfolding after allows
caseless_stays s (events.Person other roles) said is none ok name loaded = refl
caseless_stays s (events.Load other text) (a_spec spec) is none ok name loaded =
    let new : has_key s.specs other ≡ false = is_not _ (and_right (bytes_eq spec.name other) _ ok.0) in
    get-insert_other by_name s.specs other _ name (λ here. never (sym new ∙ ap (has_key s.specs) (sym here) ∙ loaded))
caseless_stays s (events.Load other text) said is none ok name loaded = never ok.0
caseless_stays s (events.AddRule p at side when conclusion number) said is none ok name loaded = never is
caseless_stays s e said is none ok name loaded = nowhere (sym none)

pub stays_loaded : (s : State) (e : Event) (said : Said) → NumbersFit s → ParentsStand s → is_plain_event e ≡ true → Allowed s e said
    → StaysLoaded s (after s e said)
stays_loaded s e said numbers parents is ok name loaded =
    by_option (case_of e)
    (λ none. caseless_stays s e said is none ok name loaded)
    (λ n of_case. ap (λ m. get m name) (leaves_other_cases n s e said numbers parents ok of_case).specs)

-- ---- a net, and an item's task

-- the stage of item x and its task in the net
abbrev in_net : ItemPart → Option Net → Option (Stage × Task)
in_net x o = option_map (λ t. (x.stage, t)) (option_and_then (λ (net : Net). slice_get net.tasks x.task) o)

-- in net k of the specification
abbrev in_spec : ItemPart → ℕ → Option Spec → Option (Stage × Task)
in_spec x k o = in_net x (option_and_then (λ (spec : Spec). slice_get spec.nets k) o)

-- in a net of this kind
abbrev in_kind : State → ItemPart → Option (List ℕ × ℕ) → Option (Stage × Task)
in_kind s x o = option_and_then (λ e. in_spec x e.1 (spec_called s e.0)) o

-- as `stage_and_task` has it
abbrev looked : Option ItemPart → Option NetAt → Option (Stage × Task)
looked part net = option_map (λ (x : ItemAt). (x.part.stage, x.of_task.task)) (item_in part net)

mapped_thrice : {A B C D : Type 0} (f : C → D) (g : B → C) (h : A → B) (o : Option A)
    → option_map f (option_map g (option_map h o)) ≡ option_map (λ a. f (g (h a))) o
mapped_thrice f g h None = refl
mapped_thrice f g h (Some a) = refl

by_kind : (s : State) (x : ItemPart) (o : Option NetPart) → looked (Some x) (option_and_then (net_by s) o) ≡ in_kind s x (option_map kind o)
by_kind s x None = refl
by_kind s x (Some n) = by_spec (spec_called s n.spec)
  where
    by_net : (o : Option Net) → looked (Some x) (option_map (λ net. record { part = n; net = net }) o) ≡ in_net x o
    by_net None = refl
    by_net (Some net) = mapped_thrice _ _ _ (slice_get net.tasks x.task)

    by_spec : (o : Option Spec) → looked (Some x) (net_in n o) ≡ in_spec x n.net o
    by_spec None = refl
    by_spec (Some spec) = by_net (slice_get spec.nets n.net)

stage_read : (s : State) (j : Ident) (x : ItemPart) → item_part s j ≡ Some x → stage_and_task s j ≡ in_kind s x (kind_at s (parent j))
stage_read s j x item = ap (λ o. looked o (net_at s (parent j))) item ∙ by_kind s x (net_part s (parent j))

module _ (s t : State) (stays : StaysLoaded s t) (of_spec : (j : Ident) (n : NetPart) → net_part s j ≡ Some n → IsSome (net_at s j)) where
  spec_same : (j : Ident) (n : NetPart) → net_part s j ≡ Some n → spec_called t n.spec ≡ spec_called s n.spec
  spec_same j n has =
      let found : is_some (net_by s n) ≡ true = ap (λ o. is_some (option_and_then (net_by s) o)) (sym has) ∙ of_spec j n has in
      ap (option_map (λ (l : Loaded). l.spec))
      (stays n.spec
      (by_option (get s.specs n.spec)
      (λ none. never (sym (ap (λ o. is_some (net_in n (option_map (λ (l : Loaded). l.spec) o))) none) ∙ found))
      (λ l some. ap is_some some)))

  pub net_same : (j : Ident) → net_part t j ≡ net_part s j → net_at t j ≡ net_at s j
  net_same j part =
      ap (option_and_then (net_by t)) part
      ∙ by_option (net_part s j)
      (λ none. ap (option_and_then (net_by t)) none ∙ sym (ap (option_and_then (net_by s)) none))
      (λ n has. ap (option_and_then (net_by t)) has ∙ ap (net_in n) (spec_same j n has) ∙ sym (ap (option_and_then (net_by s)) has))

  -- an item in a net of the same kind
  pub stage_same : (j : Ident) → item_part t j ≡ item_part s j
      → ((x : ItemPart) → item_part s j ≡ Some x → (n : NetPart) × (net_part s (parent j) ≡ Some n) × (kind_at t (parent j) ≡ kind_at s (parent j)))
      → stage_and_task t j ≡ stage_and_task s j
  stage_same j part above =
      by_option (item_part s j)
      (λ none. ap (λ o. looked o (net_at t (parent j))) (part ∙ none) ∙ sym (ap (λ o. looked o (net_at s (parent j))) none))
      (λ x item.
      let (n, has, same_kind) = above x item in
      stage_read t j x (part ∙ item)
      ∙ ap (in_kind t x) (same_kind ∙ ap (option_map kind) has)
      ∙ ap (in_spec x n.net) (spec_same (parent j) n has)
      ∙ sym (stage_read s j x item ∙ ap (λ o. in_kind s x (option_map kind o)) has))
