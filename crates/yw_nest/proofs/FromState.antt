-- What a call supposes of a forest, from the state.
use Rattle.std.proofs.Common.{Bool, List, Option, Some, ap, arith, refl, subst, sym, true, ℕ, ◌+◌, ◌<◌, ◌∙◌, ◌≡◌, ◌≤◌}
use Rattle.std.proofs.lemmas.Bool.{and_from, and_parts, eqb-true, leb-true, lt-ltb, ltb-true}
use Rattle.std.specs.Prelude.{IsSome, is_some, nat_le, nat_lt, option_and_then, option_map, slice_get, ◌==◌, if◌then◌else◌}
use Rattle.std.specs.Str.{bytes_eq}
use Rattle.yw_base.specs.Identity.{is_identity, number_end, parent}
use Rattle.yw_nest.proofs.Known.{part_known}
use Rattle.yw_nest.proofs.NetFound.{item_there, net_there}
use Rattle.yw_nest.specs.Cases.{CaseMayBegin}
use Rattle.yw_nest.specs.Items.{IsNetOf, IsOfTask, SubMayEnd, SubMayStart}
use Rattle.yw_nest.specs.Stands.{StandsWell}
use Rattle.yw_sites.proofs.Prefix.{same_true}
use Rattle.yw_spec.specs.declared.spec.Net.{Net}
use Rattle.yw_spec.specs.declared.spec.Spec.{Spec}
use Rattle.yw_spec.specs.declared.task.Task.{Task}
use Rattle.yw_state.proofs.Standing.{at_item, at_net}
use Rattle.yw_state.proofs.Tests.{and_left, and_right, by_option, map_some, never, then_some, there_and}
use Rattle.yw_state.specs.Allowed.{Allowed, allows, launch_fits}
use Rattle.yw_state.specs.Identity.{Ident, case_ident}
use Rattle.yw_state.specs.Map.{get}
use Rattle.yw_state.specs.Nets.{child_net}
use Rattle.yw_state.specs.Options.{is_some_and}
use Rattle.yw_state.specs.State.{ItemAt, ItemPart, NetAt, NetPart, State, TaskAt, item_at, item_part, net_at, net_of, net_part, spec_called, task_in, top_called}
use Rattle.yw_state.specs.Texts.{Said}
use Rattle.yw_state.specs.Values.{Row}
use Rattle.yw_state.specs.Well.{is_child_of, is_top, wants_net}
use Rattle.yw_state.specs.Words.{is_executing, is_ready}
use Rattle.yw_state.specs.declared.event.Event.TheVariants as events
use Rattle.yw_state.specs.declared.part.Stage.{Stage}
use Rattle.yw_state.specs.declared.part.Stage.TheVariants.{Completed, Executing, Ready}
use Rattle.yw_tree.proofs.FindLaw.{case_shown}
use Rattle.yw_base.proofs.Parents.{identity_long}
use Rattle.yw_tree.specs.Cases.{case_at}
use Rattle.yw_tree.specs.Entries.{case_site, net_part as its_part}
use Rattle.yw_tree.specs.Forest.{item_of}
use Rattle.yw_tree.specs.Places.{net_at as net_found}
use Rattle.yw_tree.specs.declared.Forest.{Forest}
use Rattle.yw_within.specs.Within.{IsWithin}

-- ---- a case begins

pub case_begins : (names : ℕ → List ℕ) (f : Forest) (s : State) (spec : Spec) (n : ℕ) (name : List ℕ) (vals : Row) (said : Said) → StandsWell names f s → IsWithin spec
    → Allowed s (events.Launch n name vals) said → CaseMayBegin f spec n
unfolding allows
case_begins names f s spec n name vals said h within allowed =
    let next = and_left _ (is_some_and (top_called s name) (λ (net : Net). launch_fits net.vars vals)) allowed.0 in
    let same : n ≡ s.next = eqb-true n s.next (and_left _ (nat_le (n + 1) number_end) next) in
    let room : n + 1 ≤ number_end = leb-true (n + 1) number_end (and_right (n == s.next) _ next) in
    let long : 1 ≤ n = subst (λ k. 1 ≤ k) (sym same) h.numbers.least in
    record {
      within = within;
      number = and_from (nat_lt 0 n) (nat_lt n number_end) (lt-ltb 0 n (omega arith)) (lt-ltb n number_end (omega arith));
      fresh = by_option (case_at n f.cases)
          (λ none. none)
          (λ c some.
          let stands : get s.sites (case_ident n) ≡ Some (case_site names c) = ap (λ m. get m (case_ident n)) h.sites ∙ case_shown names f h.boxed (case_ident n) (omega arith) refl c some in
          let below : n < s.next = ltb-true n s.next (and_left _ true (h.numbers.drawn (case_ident n) (case_site names c) stands)) in
          absurd (omega arith));
    }

-- ---- an item

abbrev item_with : ItemPart → TaskAt → ItemAt
item_with y t = record { part = y; of_task = t }

abbrev task_with : NetAt → ℕ → Task → TaskAt
task_with n k t = record { number = k; task = t; within = n }

abbrev net_with : NetPart → Net → NetAt
net_with p w = record { part = p; net = w }

not_yet : {A : Type 0} (stage : Stage) → is_ready stage ≡ true → is_executing stage ≡ true → A
not_yet Ready ready executing = never executing
not_yet Executing ready executing = never ready
not_yet Completed ready executing = never ready

module _ (names : ℕ → List ℕ) (f : Forest) (s : State) (h : StandsWell names f s) (j : Ident) (x : ItemAt) (known : item_at s j ≡ Some x) where
  identity : is_identity j ≡ true
  identity = let stands = at_item s j x known in h.numbers.identities j stands.0 stands.1

  abbrev with_task : ItemPart → NetAt → Option ItemAt
  with_task y n = option_map (item_with y) (task_in n y.task)

  part : (y : ItemPart) × (item_part s j ≡ Some y) × (option_and_then (with_task y) (net_at s (parent j)) ≡ Some x)
  part = then_some (λ (y : ItemPart). option_and_then (with_task y) (net_at s (parent j))) (item_part s j) x known

  outer : (n : NetAt) × (net_at s (parent j) ≡ Some n) × (with_task part.0 n ≡ Some x)
  outer = then_some (with_task part.0) (net_at s (parent j)) x part.2

  pub item_stands : IsSome (item_of f j)
  item_stands = ap is_some (item_there names f h.boxed j identity s h.sites part.0 part.1).1

  -- the task of which it is
  tasked : (t : TaskAt) × (task_in outer.0 part.0.task ≡ Some t) × (item_with part.0 t ≡ x)
  tasked = map_some (item_with part.0) (task_in outer.0 part.0.task) x outer.2

  the_task : (t : Task) × (slice_get outer.0.net.tasks part.0.task ≡ Some t) × (task_with outer.0 part.0.task t ≡ tasked.0)
  the_task = map_some (task_with outer.0 part.0.task) (slice_get outer.0.net.tasks part.0.task) tasked.0 tasked.1

  -- the net in which it stands is of this specification
  module _ (spec : Spec) (of : IsNetOf s (parent j) spec) where
    whole : (p : NetPart) × (net_part s (parent j) ≡ Some p) × (option_map (net_with p) (net_of s p) ≡ Some outer.0)
    whole = then_some (λ (p : NetPart). option_map (net_with p) (net_of s p)) (net_part s (parent j)) outer.0 outer.1

    called : spec_called s whole.0.spec ≡ Some spec
    called = sym (ap (option_and_then (λ (n : NetPart). spec_called s n.spec)) whole.1) ∙ of

    the_net : (w : Net) × (net_of s whole.0 ≡ Some w) × (net_with whole.0 w ≡ outer.0)
    the_net = map_some (net_with whole.0) (net_of s whole.0) outer.0 whole.2

    outer_net : slice_get spec.nets whole.0.net ≡ Some outer.0.net
    outer_net = sym (ap (option_and_then (λ (z : Spec). slice_get z.nets whole.0.net)) called) ∙ the_net.1 ∙ ap (λ (n : NetAt). Some n.net) the_net.2

    abbrev place : IsOfTask f spec j
    place =
        let n = item_there names f h.boxed j identity s h.sites part.0 part.1 in
        let stands = at_net s (parent j) outer.0 outer.1 in
        let u = net_there names f h.boxed (parent j) (h.numbers.identities (parent j) stands.0 stands.1) s h.sites whole.0 whole.1 in
        record {
          item = n.0;
          outer = u.0;
          net = outer.0.net;
          task = x.of_task.task;
          found = n.1;
          stands_in = u.1;
          of_net = ap (λ (p : NetPart). slice_get spec.nets p.net) u.2 ∙ outer_net;
          of_task = ap (λ (y : ItemPart). slice_get outer.0.net.tasks y.task) n.2 ∙ the_task.1 ∙ ap (λ (t : TaskAt). Some t.task) the_task.2 ∙ ap (λ (y : ItemAt). Some y.of_task.task) tasked.2;
        }

    pub starts : IsWithin spec → is_ready x.part.stage ≡ true → is_some (child_net x.of_task.task) ≡ true → SubMayStart f spec j
    starts within ready composite =
        record {
          within = within;
          place = place;
          composite = composite;
          vacant = by_option (net_found f j)
              (λ none. none)
              (λ v some.
              let there = part_known names f h.boxed s h.sites j (identity_long j identity) v some in
              let wants : wants_net x ≡ true = and_left (wants_net x) _ (h.nets.of_item j (its_part names v) x there known) in
              not_yet x.part.stage ready (and_left (is_executing x.part.stage) _ wants));
        }

    -- its own net
    module _ (composite : is_some (child_net x.of_task.task) ≡ true) (n : NetAt) (at : net_at s j ≡ Some n) where
      own : (p : NetPart) × (net_part s j ≡ Some p) × (option_map (net_with p) (net_of s p) ≡ Some n)
      own = then_some (λ (p : NetPart). option_map (net_with p) (net_of s p)) (net_part s j) n at

      -- is of the same specification
      same_spec : own.0.spec ≡ whole.0.spec
      same_spec =
          let stood = and_right (wants_net x) _ (h.nets.of_item j own.0 x own.1 known) in
          let child : is_child_of x own.0 ≡ true = sym (ap (λ (b : Bool). if b then is_child_of x own.0 else is_top s own.0) composite) ∙ stood in
          same_true own.0.spec x.of_task.within.part.spec (and_right _ (bytes_eq own.0.spec x.of_task.within.part.spec) child)
          ∙ sym (ap (λ (y : NetAt). y.part.spec) the_net.2 ∙ ap (λ (t : TaskAt). t.within.part.spec) the_task.2 ∙ ap (λ (y : ItemAt). y.of_task.within.part.spec) tasked.2)

      called_there : spec_called s own.0.spec ≡ Some spec
      called_there = ap (spec_called s) same_spec ∙ called

      pub inner_of : IsNetOf s j spec
      inner_of = ap (option_and_then (λ (p : NetPart). spec_called s p.spec)) own.1 ∙ called_there

      pub ends : SubMayEnd f spec j
      ends =
          let u = net_there names f h.boxed j identity s h.sites own.0 own.1 in
          let w = map_some (net_with own.0) (net_of s own.0) n own.2 in
          record {
            place = place;
            inner = u.0;
            child = w.0;
            stands = u.1;
            of_child = ap (λ (p : NetPart). slice_get spec.nets p.net) u.2 ∙ sym (ap (option_and_then (λ (z : Spec). slice_get z.nets own.0.net)) called_there) ∙ w.1;
          }

-- ---- where the event is allowed

pub empty_stands : (names : ℕ → List ℕ) (f : Forest) (s : State) (j : Ident) (said : Said) → StandsWell names f s → Allowed s (events.CompleteEmpty j) said → IsSome (item_of f j)
unfolding allows
empty_stands names f s j said h allowed =
    let found = there_and (item_at s j) _ (and_right _ _ allowed.0) in
    item_stands names f s h j found.0 found.1

pub sub_starts : (names : ℕ → List ℕ) (f : Forest) (s : State) (spec : Spec) (j : Ident) (said : Said) → StandsWell names f s → IsWithin spec → IsNetOf s (parent j) spec
    → Allowed s (events.StartSub j) said → SubMayStart f spec j
unfolding allows
sub_starts names f s spec j said h within of allowed =
    let found = there_and (item_at s j) _ (and_right _ _ allowed.0) in
    let x : ItemAt = found.0 in
    let both = and_parts (is_ready x.part.stage) (is_some (child_net x.of_task.task)) found.2 in
    starts names f s h j x found.1 spec of within both.0 both.1

-- what an end that is allowed finds
abbrev EndFound : State → Ident → Type 0
EndFound s j = (x : ItemAt) × (item_at s j ≡ Some x) × (is_some (child_net x.of_task.task) ≡ true) × ((n : NetAt) × (net_at s j ≡ Some n))

end_found : (s : State) (j : Ident) (said : Said) → Allowed s (events.CompleteSub j) said → EndFound s j
unfolding allows
end_found s j said allowed =
    let first = and_left _ _ allowed.0 in
    let found = there_and (item_at s j) _ (and_right _ _ first) in
    let net = there_and (net_at s j) _ (and_right _ _ allowed.0) in
    let x : ItemAt = found.0 in
    (x, found.1, and_right (is_executing x.part.stage) (is_some (child_net x.of_task.task)) found.2, (net.0, net.1))

pub sub_ends : (names : ℕ → List ℕ) (f : Forest) (s : State) (spec : Spec) (j : Ident) (said : Said) → StandsWell names f s → IsNetOf s (parent j) spec
    → Allowed s (events.CompleteSub j) said → SubMayEnd f spec j
sub_ends names f s spec j said h of allowed = let e = end_found s j said allowed in ends names f s h j e.0 e.1 spec of e.2 e.3.0 e.3.1

pub inner_is : (names : ℕ → List ℕ) (f : Forest) (s : State) (spec : Spec) (j : Ident) (said : Said) → StandsWell names f s → IsNetOf s (parent j) spec
    → Allowed s (events.CompleteSub j) said → IsNetOf s j spec
inner_is names f s spec j said h of allowed = let e = end_found s j said allowed in inner_of names f s h j e.0 e.1 spec of e.2 e.3.0 e.3.1
