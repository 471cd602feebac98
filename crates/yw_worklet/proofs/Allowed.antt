-- What a call supposes of a forest, where its event is allowed in the state.
use Rattle.std.proofs.Common.{List, None, Option, Some, ap, refl, sym, true, ℕ, ◌∙◌, ◌≡◌}
use Rattle.std.specs.Prelude.{option_and_then, option_map, is_some, slice_get, ◌&&◌}
use Rattle.yw_base.proofs.Parents.{identity_long}
use Rattle.yw_base.specs.Identity.{is_identity}
use Rattle.yw_nest.proofs.Known.{part_known}
use Rattle.yw_nest.proofs.NetFound.{item_there, net_there}
use Rattle.yw_nest.specs.Items.{IsNetOf}
use Rattle.yw_spec.specs.declared.spec.Net.{Net}
use Rattle.yw_spec.specs.declared.spec.Spec.{Spec}
use Rattle.yw_state.proofs.Standing.{at_item_part}
use Rattle.yw_state.proofs.Tests.{and_left, and_right, by_option, map_some, never, some_same, then_some, there, there_and}
use Rattle.yw_state.specs.Allowed.{Allowed, allows}
use Rattle.yw_state.specs.Identity.{Ident}
use Rattle.yw_state.specs.State.{ItemAt, ItemPart, NetAt, NetPart, State, item_at, item_part, net_at, net_of, net_part, spec_called}
use Rattle.yw_state.specs.Texts.{Said}
use Rattle.yw_state.specs.Well.{wants_net}
use Rattle.yw_state.specs.Words.{is_executing, is_ready}
use Rattle.yw_state.specs.declared.event.Event.TheVariants as events
use Rattle.yw_state.specs.declared.part.Stage.{Stage}
use Rattle.yw_state.specs.declared.part.Stage.TheVariants.{Completed, Executing, Ready}
use Rattle.yw_tree.specs.Entries.{net_part as its_net}
use Rattle.yw_tree.specs.Places.{net_at as net_found}
use Rattle.yw_tree.specs.declared.Forest.{Forest}
use Rattle.yw_within.specs.Within.{IsWithin}
use Rattle.yw_worklet.proofs.Known.{its_part}
use Rattle.yw_worklet.specs.Chosen.{MayChoose}
use Rattle.yw_worklet.specs.Ends.{MayEnd}
use Rattle.yw_worklet.specs.Stands.{StandsAll}

not_yet : {A : Type 0} (stage : Stage) → is_ready stage ≡ true → is_executing stage ≡ true → A
not_yet Ready ready executing = never executing
not_yet Executing ready executing = never ready
not_yet Completed ready executing = never ready

abbrev with_net : NetPart → Net → NetAt
with_net p w = record { part = p; net = w }

module _ (names : ℕ → List ℕ) (f : Forest) (s : State) (h : StandsAll names f s) (j : Ident) where
  -- an item that is ready has no net
  module _ (y : ItemPart) (at : item_part s j ≡ Some y) where
    pub identity : is_identity j ≡ true
    identity = let stands = at_item_part s j y at in h.numbers.identities j stands.0 stands.1

    vacant : is_ready y.stage ≡ true → net_found f j ≡ None
    vacant ready =
        by_option (net_found f j)
        (λ none. none)
        (λ u some.
        let x = there (item_at s j) (h.parents.item_of_net j y at) in
        let same : x.0.part ≡ y = some_same x.0.part y (sym (its_part s j x.0 x.1) ∙ at) in
        let net = part_known names f h.boxed s h.sites j (identity_long j identity) u some in
        let wants : wants_net x.0 ≡ true = and_left (wants_net x.0) _ (h.nets.of_item j (its_net names u) x.0 net x.1) in
        not_yet y.stage ready (sym (ap (λ (z : ItemPart). is_executing z.stage) same) ∙ and_left (is_executing x.0.part.stage) _ wants))

    pub chooses : (worklet : Spec) → IsWithin worklet → is_ready y.stage ≡ true → MayChoose f worklet j
    chooses worklet within ready = record {
      within = within;
      stands = ap is_some (item_there names f h.boxed j identity s h.sites y at).1;
      vacant = vacant ready;
    }

  pub ends : (worklet : Spec) → IsNetOf s j worklet → (x : ItemAt) → item_at s j ≡ Some x → (n : NetAt) → net_at s j ≡ Some n → MayEnd f worklet j
  ends worklet of x at n stands =
      let y = its_part s j x at in
      let q = then_some (λ (q : NetPart). option_map (with_net q) (net_of s q)) (net_part s j) n stands in
      let w = map_some (with_net q.0) (net_of s q.0) n q.2 in
      let called : spec_called s q.0.spec ≡ Some worklet = sym (ap (option_and_then (λ (z : NetPart). spec_called s z.spec)) q.1) ∙ of in
      let item = item_there names f h.boxed j (identity x.part y) s h.sites x.part y in
      let u = net_there names f h.boxed j (identity x.part y) s h.sites q.0 q.1 in
      record {
        item = item.0;
        inner = u.0;
        net = w.0;
        found = item.1;
        stands = u.1;
        of_net = ap (λ (p : NetPart). slice_get worklet.nets p.net) u.2 ∙ sym (ap (option_and_then (λ (z : Spec). slice_get z.nets q.0.net)) called) ∙ w.1;
      }

pub may_choose : (names : ℕ → List ℕ) (f : Forest) (s : State) (worklet : Spec) (j : Ident) (name : List ℕ) (said : Said) → StandsAll names f s → IsWithin worklet
    → Allowed s (events.Substitute j name) said → MayChoose f worklet j
unfolding allows
may_choose names f s worklet j name said h within allowed =
    let next = and_left _ _ (and_left _ _ allowed.0) in
    let due = and_left _ _ (and_left _ _ next) in
    let y = there_and (item_part s j) _ (h.marks.select j due) in
    chooses names f s h j y.0 y.1 worklet within y.2

pub may_end : (names : ℕ → List ℕ) (f : Forest) (s : State) (worklet : Spec) (j : Ident) (said : Said) → StandsAll names f s → IsNetOf s j worklet
    → Allowed s (events.CompleteWorklet j) said → MayEnd f worklet j
unfolding allows
may_end names f s worklet j said h of allowed =
    let x = there_and (item_at s j) _ (and_right _ _ (and_left _ _ allowed.0)) in
    let n = there_and (net_at s j) _ (and_right _ _ allowed.0) in
    ends names f s h j worklet of x.0 x.1 n.0 n.1
