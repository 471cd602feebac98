-- What a state that is well tells of an item, of a task and of the net in which they stand, where specifications are sound.
use Rattle.std.specs.Prelude.{◌≡◌, ◌⊎◌, ◌&&◌, ◌||◌, ℕ, Bool, true, false, List, [], length, Option, Some, None, is_some, nat_lt, option_and_then, option_map, slice_get, unwrap_or, refl}
use Rattle.std.proofs.Common.{sym, ◌∙◌, ap, subst, inl, inr}
use Rattle.yw_spec.specs.declared.spec.Net.{Net}
use Rattle.yw_spec.specs.declared.spec.Spec.{Spec}
use Rattle.yw_spec.specs.declared.task.Kind.{Kind}
use Rattle.yw_spec.specs.declared.task.Kind.TheVariants as kinds
use Rattle.yw_spec.specs.declared.task.Task.{Task}
use Rattle.yw_invariant.proofs.NetsBegin.{loaded_sound}
use Rattle.yw_sound.specs.Sound.{NetIsSound, ReadsSound, TaskIsSound}
use Rattle.yw_state.proofs.Alike.{net_by}
use Rattle.yw_state.proofs.MapLemmas.{by_option, never, some_same}
use Rattle.yw_state.proofs.Tests.{map_some, or_cases, then_some}
use Rattle.yw_state.proofs.TreePlaces.{item_has_rule, one_place}
use Rattle.yw_state.specs.Identity.{Ident}
use Rattle.yw_base.specs.Identity.{parent}
use Rattle.yw_state.specs.Judged.{has_rule, has_rules, is_tree_place, place_key, task_place}
use Rattle.yw_state.specs.Map.{get}
use Rattle.yw_state.specs.Nets.{child_net, is_atomic, is_empty, task_called, task_number}
use Rattle.yw_state.specs.Options.{is_some_and}
use Rattle.yw_state.specs.RuleTree.{TreeRule}
use Rattle.yw_state.specs.State.{State, ItemAt, ItemPart, NetAt, NetPart, TaskAt, item_at, item_part, net_at, spec_called, task_at, task_in}
use Rattle.yw_state.specs.Texts.{Reader}
use Rattle.yw_state.specs.Well.{IsWell}
use Rattle.yw_state.specs.declared.tree.TreeKind.TheVariants.{Select}
use Rattle.yw_state.specs.declared.tree.TreePlace.{TreePlace}

abbrev pub net_number : Spec → ℕ → Option Net
net_number spec k = slice_get spec.nets k

abbrev pub net_by_part : State → NetPart → Option NetAt
net_by_part = net_by

pub part_of : (s : State) (part : NetPart) (n : NetAt) → net_by s part ≡ Some n → n.part ≡ part
part_of s part n e = let (net, net_is, made) = map_some (λ net. record { part = part; net = net }) _ n e in ap (λ (x : NetAt). x.part) (sym made)

-- the net stands there, with this specification
pub record OfSpec (s : State) (n : NetAt) : Type 0 where
  pub spec : Spec
  pub called : spec_called s n.part.spec ≡ Some spec
  pub at : slice_get spec.nets n.part.net ≡ Some n.net

pub of_spec : (s : State) (i : Ident) (n : NetAt) → net_at s i ≡ Some n → OfSpec s n
of_spec s i n e =
    let (part, part_is, found) = then_some (net_by s) _ n e in
    let (net, net_is, made) = map_some (λ net. record { part = part; net = net }) _ n found in
    let (spec, called, at) = then_some (λ (x : Spec). slice_get x.nets part.net) (spec_called s part.spec) net net_is in
    subst (OfSpec s) made (record { spec = spec; called = called; at = at })

-- the item is of a task of the net in which it stands
pub record OfNet (s : State) (j : Ident) (x : ItemAt) : Type 0 where
  pub within : net_at s (parent j) ≡ Some x.of_task.within
  pub at : slice_get x.of_task.within.net.tasks x.of_task.number ≡ Some x.of_task.task

pub of_net : (s : State) (j : Ident) (x : ItemAt) → item_at s j ≡ Some x → OfNet s j x
of_net s j x e =
    let (part, part_is, found) = then_some (λ (y : ItemPart). option_and_then (λ n. option_map (λ t. record { part = y; of_task = t }) (task_in n y.task)) (net_at s (parent j))) (item_part s j) x e in
    let (n, within, in_net) = then_some (λ n. option_map (λ t. record { part = part; of_task = t }) (task_in n part.task)) (net_at s (parent j)) x found in
    let (t, of_task, made) = map_some (λ (t : TaskAt). record { part = part; of_task = t }) (task_in n part.task) x in_net in
    let (task, at, task_made) = map_some (λ (u : Task). record { number = part.task; task = u; within = n }) (slice_get n.net.tasks part.task) t of_task in
    subst (OfNet s j) {x = record { part = part; of_task = t }} made (subst (λ (u : TaskAt). OfNet s j (record { part = part; of_task = u })) {x = record { number = part.task; task = task; within = n }} task_made (record { within = within; at = at }))

-- the task is of the net at i
pub record OfTask (s : State) (i : Ident) (x : TaskAt) : Type 0 where
  pub within : net_at s i ≡ Some x.within
  pub task : slice_get x.within.net.tasks x.number ≡ Some x.task

pub task_there : (s : State) (i : Ident) (t : List ℕ) (x : TaskAt) → task_at s i t ≡ Some x → OfTask s i x
task_there s i t x e =
    let (n, within, found) = then_some (λ (n : NetAt). option_and_then (task_in n) (task_number n.net t)) (net_at s i) x e in
    let (k, number, in_net) = then_some (task_in n) (task_number n.net t) x found in
    let (task, at, made) = map_some (λ (u : Task). record { number = k; task = u; within = n }) (slice_get n.net.tasks k) x in_net in
    subst (OfTask s i) made (record { within = within; task = at })

pub part_of_item : (s : State) (j : Ident) (x : ItemAt) (y : ItemPart) → item_at s j ≡ Some x → item_part s j ≡ Some y → x.part ≡ y
part_of_item s j x y e is =
    let (part, part_is, found) = then_some (λ (z : ItemPart). option_and_then (λ n. option_map (λ t. record { part = z; of_task = t }) (task_in n z.task)) (net_at s (parent j))) (item_part s j) x e in
    let (n, within, in_net) = then_some (λ n. option_map (λ t. record { part = part; of_task = t }) (task_in n part.task)) (net_at s (parent j)) x found in
    let (t, of_task, made) = map_some (λ (t : TaskAt). record { part = part; of_task = t }) (task_in n part.task) x in_net in
    ap (λ (z : ItemAt). z.part) (sym made) ∙ some_same part y (sym part_is ∙ is)

-- an atomic task has no child net, and isn't empty
pub atomic_has_no_child : (t : Task) → is_atomic t ≡ true → child_net t ≡ None
atomic_has_no_child t = by_kind t.kind
  where
    by_kind : (kind : Kind) → is_atomic (record t { kind = kind }) ≡ true → child_net (record t { kind = kind }) ≡ None
    by_kind kinds.Atomic e = refl
    by_kind kinds.Empty e = refl
    by_kind (kinds.Sub k) e = never e

pub atomic_is_not_empty : (t : Task) → is_atomic t ≡ true → is_empty t ≡ true → {A : Type 0} → A
atomic_is_not_empty t = by_kind t.kind
  where
    by_kind : (kind : Kind) → is_atomic (record t { kind = kind }) ≡ true → is_empty (record t { kind = kind }) ≡ true → {A : Type 0} → A
    by_kind kinds.Atomic e f = never f
    by_kind kinds.Empty e f = never e
    by_kind (kinds.Sub k) e f = never e

module _ (reader : Reader) (sound : ReadsSound reader) (s : State) (well : IsWell reader s) where
  pub net_sound : (i : Ident) (n : NetAt) (e : net_at s i ≡ Some n) → NetIsSound (of_spec s i n e).spec n.net
  net_sound i n e = let of = of_spec s i n e in loaded_sound reader sound s well n.part.spec of.spec of.called n.part.net n.net of.at

  module _ (j : Ident) (x : ItemAt) (item : item_at s j ≡ Some x) where
    abbrev pub of : OfNet s j x
    of = of_net s j x item

    pub task_sound : TaskIsSound (of_spec s (parent j) x.of_task.within of.within).spec x.of_task.within.net x.of_task.task
    task_sound = (net_sound (parent j) x.of_task.within of.within).tasks x.of_task.number x.of_task.task of.at

    only_atomic : (t : Task) → (is_atomic t || is_some (child_net t) && false) ≡ true → is_atomic t ≡ true
    only_atomic t e = either (or_cases (is_atomic t) (is_some (child_net t) && false) e)
      where
        no_second : (b : Bool) → (b && false) ≡ true → {A : Type 0} → A
        no_second true e = never e
        no_second false e = never e

        either : (is_atomic t ≡ true) ⊎ ((is_some (child_net t) && false) ≡ true) → is_atomic t ≡ true
        either (inl e) = e
        either (inr e) = no_second (is_some (child_net t)) e

    -- worklets are chosen for atomic tasks alone
    pub select_is_atomic : has_rule s j Select ≡ true → is_atomic x.of_task.task ≡ true
    select_is_atomic e =
        by_option (get s.rules (place_key place))
        (λ none. never (ap (λ (o : Option (List TreeRule)). nat_lt 0 (length (unwrap_or o []))) (sym none) ∙ some_rule))
        (λ rs some.
        let fit = well.content.rules (place_key place) rs some in
        let same = one_place fit.place place fit.here in
        let found = of_spec s (parent j) x.of_task.within of.within in
        let one : fit.spec ≡ found.spec = some_same fit.spec found.spec (sym fit.of_spec ∙ ap (λ (p : TreePlace). spec_called s p.spec) same ∙ found.called) in
        let here = ap (λ (p : TreePlace). is_tree_place found.spec p) (sym same) ∙ ap (λ (sp : Spec). is_tree_place sp fit.place) (sym one) ∙ fit.is_place in
        only_atomic x.of_task.task
        (sym
        (ap (λ o. is_some_and (option_and_then (λ n. task_called n x.of_task.task.name) o) (λ t. is_atomic t || is_some (child_net t) && false)) (net_sound (parent j) x.of_task.within of.within).found
        ∙ ap (λ o. is_some_and o (λ t. is_atomic t || is_some (child_net t) && false)) task_sound.found)
        ∙ here))
      where
        place : TreePlace
        place = task_place x.of_task Select

        some_rule : has_rules s place ≡ true
        some_rule = sym (item_has_rule s j x item well.parents Select) ∙ e
