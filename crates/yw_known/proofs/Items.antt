-- The item that a state has at an identity, by what is known and the forest; and whether it is a case's.
use Rattle.std.proofs.Common.{List, None, Option, Some, [], ap, arith, false, length, refl, sym, true, ℕ, ◌<◌, ◌∙◌, ◌∷◌, ◌≡◌, ◌≤◌, Bor, get_or}
use Rattle.std.specs.Option.{option_copied}
use Rattle.std.specs.Prelude.{is_some, option_and_then, option_map, slice_get}
use Rattle.yw_base.specs.Identity.{is_identity, parent}
use Rattle.yw_library.specs.Held.{IsHeld}
use Rattle.yw_known.specs.Here.{IsItemHere, IsNetHere, as_net_at}
use Rattle.yw_library.specs.Names.{names_of}
use Rattle.yw_known.specs.declared.here.ItemHere.{ItemHere}
use Rattle.yw_known.specs.declared.here.NetHere.{NetHere}
use Rattle.yw_library.specs.Holdings.{Holdings}
use Rattle.yw_nest.proofs.Known.{item_known, no_case}
use Rattle.yw_nest.proofs.Outer.{parent_identity}
use Rattle.yw_spec.specs.declared.task.Task.{Task}
use Rattle.yw_state.proofs.Standing.{at_item_part}
use Rattle.yw_state.proofs.Tests.{by_option, by_test, never, there}
use Rattle.yw_state.specs.Identity.{Ident}
use Rattle.yw_state.specs.Map.{get}
use Rattle.yw_state.specs.State.{ItemAt, ItemPart, NetAt, Site, State, TaskAt, is_case, is_item, item_at, item_part, net_at, task_in}
use Rattle.yw_tree.proofs.AbsentLaw.{item_is}
use Rattle.yw_tree.proofs.FindLaw.{find_is}
use Rattle.yw_tree.proofs.ForestLaw.{identity_in_case, item_found}
use Rattle.yw_tree.proofs.Parents.{identity_short}
use Rattle.yw_tree.specs.Cases.{case_at}
use Rattle.yw_tree.specs.Entries.{item_part_of}
use Rattle.yw_tree.specs.Forest.{item_of}
use Rattle.yw_tree.specs.Spots.{a_case, part_site}
use Rattle.yw_tree.specs.declared.Case.{Case}
use Rattle.yw_tree.specs.declared.Forest.{Forest}
use Rattle.yw_tree.specs.declared.Node.{Node, out-Node}

abbrev with_task : ItemPart → NetAt → Option ItemAt
with_task x w = option_map (λ (t : TaskAt). let y : ItemAt = record { part = x; of_task = t } in y) (task_in w x.task)

module _ (known : Holdings) (f : Forest) (s : State) (h : IsHeld known f s) (j : Ident) (identity : is_identity j ≡ true) where
  part_is : item_part s j ≡ option_map item_part_of (item_of f j)
  part_is =
      ap (λ m. option_and_then (λ (x : Site). x.item) (get m j)) h.sites
      ∙ item_is (names_of known) j f h.boxed (identity_in_case j identity) (identity_short j identity)

  none_here : item_of f j ≡ None → is_item s j ≡ false
  none_here e = ap is_some (part_is ∙ ap (option_map item_part_of) e)

  -- nor does one where no identity is above
  pub none_above : (is_identity (parent j) ≡ true → ⊥) → is_item s j ≡ false
  none_above off =
      by_option (item_of f j)
      (λ none. none_here none)
      (λ n some. absurd (off (parent_identity j identity (no_case f h.boxed j n some))))

  module _ (n : Node) (found : item_of f j ≡ Some n) where
    part : item_part s j ≡ Some (item_part_of n)
    part = part_is ∙ ap (option_map item_part_of) found

    not_none : item_at s j ≡ None → ⊥
    not_none none = never (sym (ap is_some none) ∙ h.well.parents.item_of_net j (item_part_of n) part)

    at_is : item_at s j ≡ option_and_then (with_task (item_part_of n)) (net_at s (parent j))
    at_is = ap (option_and_then (λ (x : ItemPart). option_and_then (with_task x) (net_at s (parent j)))) part

    -- an identity is above it
    pub above_identity : is_identity (parent j) ≡ true
    above_identity = parent_identity j identity (no_case f h.boxed j n found)

    -- the net in which it stands has its task
    pub task_wanted : (w : NetHere) → IsNetHere known f s (parent j) w → slice_get w.net.now.tasks (out-Node n).task ≡ None → ⊥
    task_wanted w at none =
        not_none (at_is ∙ ap (option_and_then (with_task (item_part_of n))) at.at
        ∙ ap (λ o. option_map (λ (t : TaskAt). let y : ItemAt = record { part = item_part_of n; of_task = t } in y) (option_map (λ (t : Task). let z : TaskAt = record { number = (out-Node n).task; task = t; within = as_net_at known w } in z) o)) none)

  pub item_is_here : (x : ItemHere) → item_of f j ≡ Some x.item.now → IsNetHere known f s (parent j) x.outer
      → slice_get x.outer.net.now.tasks (out-Node x.item.now).task ≡ Some x.task.now → IsItemHere known f s j x
  item_is_here x found outer of_net =
      let n = x.item.now in
      let same : (out-Node n).id ≡ j = (item_found f j n h.boxed found).0 in
      record {
        identity = same;
        found = found;
        stands = record {
          boxed = h.boxed;
          sites = h.sites;
          identity = ap is_identity same ∙ identity;
          found = ap (item_of f) same ∙ found;
        };
        outer = outer;
        of_net = of_net;
        at = item_known (names_of known) f h.boxed s h.sites j identity n found x.outer.state.now outer.stands.found x.outer.spec.now outer.of_state x.outer.net.now outer.of_spec x.task.now of_net;
      }

-- where none is found, none stands
pub no_item_here : (known : Holdings) (f : Forest) (s : State) → IsHeld known f s → (j : Ident) → item_of f j ≡ None → is_item s j ≡ false
no_item_here known f s h j e =
    by_test (is_item s j)
    (λ t.
    let p = there (item_part s j) t in
    let at = at_item_part s j p.0 p.1 in
    none_here known f s h j (h.well.numbers.identities j at.0 at.1) e)
    (λ t. t)

-- ---- cases

case_has_net : (names : ℕ → List ℕ) (o : Option Case) → is_some (option_and_then (λ (x : Site). x.net) (option_map (part_site names) (option_map a_case o))) ≡ is_some o
case_has_net names None = refl
case_has_net names (Some c) = refl

pub case_is : (known : Holdings) (f : Forest) (s : State) → IsHeld known f s → (k : ℕ) → is_case s (k ∷ []) ≡ is_some (case_at k f.cases)
case_is known f s h k =
    let j : Ident = k ∷ [] in
    ap (λ m. is_some (option_and_then (λ (x : Site). x.net) (get m j))) h.sites
    ∙ ap (λ o. is_some (option_and_then (λ (x : Site). x.net) o)) (find_is (names_of known) f h.boxed j (omega arith) (omega arith))
    ∙ case_has_net (names_of known) (case_at k f.cases)

-- an identity of one number
pub one_number : (j : Ident) → 1 ≤ length j → length j < 2 → j ≡ get_or j 0 0 ∷ []
one_number [] long short = absurd (omega (arith, long))
one_number (n ∷ []) long short = refl
one_number (n ∷ m ∷ ms) long short = absurd (omega (arith, short))

pub copied_there : {A : Type 0} (o : Option (Bor A)) → is_some (option_copied o) ≡ is_some o
copied_there None = refl
copied_there (Some x) = refl
