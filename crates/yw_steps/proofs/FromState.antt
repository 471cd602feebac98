-- What a call supposes of a forest and needs of a state, from a state that is well.
use Rattle.std.proofs.Common.{Bool, List, Option, Some, [], ap, arith, length, refl, subst, suc, sym, true, zero, ℕ, ◌++◌, ◌<◌, ◌∙◌, ◌∷◌, ◌≡◌, ◌≤◌}
use Rattle.std.proofs.lemmas.Bool.{and_parts, ltb-true}
use Rattle.std.specs.FinMap.Entries.{find}
use Rattle.std.specs.List.{list_all}
use Rattle.std.specs.Prelude.{IsSome, Vec, is_some, nat_lt, option_and_then, option_map, slice_get}
use Rattle.std.specs.declared.alloc.Global.{Global}
use Rattle.yw_base.specs.Identity.{is_identity, most_numbers, child, parent}
use Rattle.yw_nest.proofs.FromState.{item_stands}
use Rattle.yw_nest.proofs.NetFound.{item_there, net_there}
use Rattle.yw_nest.specs.Stands.{StandsWell}
use Rattle.yw_sites.proofs.Each.{Each-back, Each-front}
use Rattle.yw_sites.proofs.Prefix.{child_strictly, is_child_of}
use Rattle.yw_sites.specs.Entries.{Entries}
use Rattle.yw_sites.specs.Idents.{Each, IsChild}
use Rattle.yw_spec.specs.declared.spec.Net.{Net}
use Rattle.yw_spec.specs.declared.task.Task.{Task}
use Rattle.yw_state.proofs.Standing.{at_item, at_net}
use Rattle.yw_state.proofs.Tests.{by_option, map_some, then_some, there, there_and}
use Rattle.yw_state.specs.Allowed.{Allowed, allows}
use Rattle.yw_state.specs.Identity.{Ident}
use Rattle.yw_state.specs.Map.{get, lexical}
use Rattle.yw_state.specs.State.{ItemAt, ItemPart, NetAt, NetPart, Sites, State, TaskAt, item_at, item_part, items_of, net_at, net_of, net_part, task_in}
use Rattle.yw_state.specs.Texts.{Reader, Said}
use Rattle.yw_state.specs.Well.{IsWell, NumbersFit, item_limit}
use Rattle.yw_state.specs.declared.event.Event.TheVariants as events
use Rattle.yw_state.specs.declared.part.Checks.{Checks}
use Rattle.yw_steps.specs.Completes.{IsItemIn, ItemIs}
use Rattle.yw_steps.specs.Stands.{ComeBefore, MayGetItems, NetIs, TaskMayGrow}
use Rattle.yw_task.specs.Due.{AreDue}
use Rattle.yw_task.specs.Items.{NothingFrom}
use Rattle.yw_tree.proofs.Keys.{ids_are, kids, kids-append}
use Rattle.yw_tree.proofs.NetAt.{net_here}
use Rattle.yw_base.proofs.Parents.{identity_long}
use Rattle.yw_tree.proofs.Removed.{within}
use Rattle.yw_tree.proofs.Stand.{all_known, each_with}
use Rattle.yw_tree.specs.Boxed.{ids}
use Rattle.yw_tree.specs.Entries.{net_entries, row_nodes}
use Rattle.yw_tree.specs.Forest.{item_of}
use Rattle.yw_tree.specs.Places.{net_at as net_found}
use Rattle.yw_tree.specs.Shows.{row_or_none}
use Rattle.yw_tree.specs.declared.Forest.{Forest}
use Rattle.yw_tree.specs.declared.NetState.{NetState, out-NetState}
use Rattle.yw_tree.specs.declared.Node.{Node, out-Node}
use Rattle.yw_within.proofs.Finding.{net_within}
use Rattle.yw_within.specs.Within.{HoldsWithin}

abbrev item_with : ItemPart → TaskAt → ItemAt
item_with p t = record { part = p; of_task = t }

abbrev task_with : NetAt → ℕ → Task → TaskAt
task_with w k t = record { number = k; task = t; within = w }

abbrev net_with : NetPart → Net → NetAt
net_with p w = record { part = p; net = w }

abbrev with_task : ItemPart → NetAt → Option ItemAt
with_task p w = option_map (item_with p) (task_in w p.task)

-- ---- a net

abbrev pub net_is : (s : State) → HoldsWithin s → (i : Ident) (n : NetAt) → net_at s i ≡ Some n → NetIs s i n.net
net_is s holds i n at = let w = net_within s holds i n at in record { there = n; stands = at; same = refl; spec = w.0; within = w.1 }

last_passes : (p : ℕ → Bool) (xs : List ℕ) (n : ℕ) → list_all p (xs ++ n ∷ []) ≡ true → p n ≡ true
last_passes p [] n e = (and_parts (p n) true e).0
last_passes p (x ∷ xs) n e = last_passes p xs n (and_parts (p x) (list_all p (xs ++ n ∷ [])) e).1

-- what stands directly under an identity has a number that is drawn
number_drawn : (s : State) → NumbersFit s → (i : Ident) (n : ℕ) → is_some (get s.sites (child i n)) ≡ true → n < s.next
number_drawn s numbers i n stands =
    let (x, some) = there (get s.sites (child i n)) stands in
    ltb-true n s.next (last_passes (λ k. nat_lt k s.next) i n (numbers.drawn (child i n) x some))

pub nothing_from : (s : State) → NumbersFit s → (i : Ident) → NothingFrom s.sites i s.next
nothing_from s numbers i = λ n l.
    by_option (get s.sites (child i n))
    (λ none. none)
    (λ x some. let below = number_drawn s numbers i n (ap is_some some) in absurd (omega arith))

pub may_get : (s : State) → NumbersFit s → HoldsWithin s → (i : Ident) (n : NetAt) (task : Task) (due : Checks) → net_at s i ≡ Some n → AreDue s i task.name due → MayGetItems n.net i s.next due task s
may_get s numbers holds i n task due at checks = record { net_is = net_is s holds i n at; next = refl; fresh = nothing_from s numbers i; due_are = checks }

-- ---- the items of a task are among those of the net

each_item : (Q : Ident → Type 0) (ns : List Node) → Each Q (kids ns) → Each (λ n. Q (out-Node n).id) ns
each_item Q [] e = tt
each_item Q (n ∷ ns) e = (e.0, each_item Q ns e.1)

each_in_row : (Q : Ident → Type 0) (vs : List (Vec Node Global)) (t : ℕ) → Each Q (kids (row_nodes vs)) → Each (λ n. Q (out-Node n).id) (row_or_none (slice_get vs t))
each_in_row Q [] t e = tt
each_in_row Q (v ∷ vs) zero e = each_item Q v.items (Each-front Q (kids v.items) (kids (row_nodes vs)) (subst (Each Q) (kids-append v.items (row_nodes vs)) e))
each_in_row Q (v ∷ vs) (suc t) e = each_in_row Q vs t (Each-back Q (kids v.items) (kids (row_nodes vs)) (subst (Each Q) (kids-append v.items (row_nodes vs)) e))

-- one number behind i, which is drawn
abbrev HasDrawn : State → Ident → Ident → Type 0
HasDrawn s i j = (k : ℕ) × (k < s.next) × (j ≡ child i k)

module _ (names : ℕ → List ℕ) (f : Forest) (s : State) (h : StandsWell names f s) where
  -- the net that a state has is found
  found_net : (i : Ident) (n : NetAt) → net_at s i ≡ Some n → (u : NetState) × (net_found f i ≡ Some u)
  found_net i n at =
      let p = then_some (λ (p : NetPart). option_map (net_with p) (net_of s p)) (net_part s i) n at in
      let stands = at_net s i n at in
      let u = net_there names f h.boxed i (h.numbers.identities i stands.0 stands.1) s h.sites p.0 p.1 in
      (u.0, u.1)

  pub net_stands : (i : Ident) (n : NetAt) → net_at s i ≡ Some n → IsSome (net_found f i)
  net_stands i n at = ap is_some (found_net i n at).1

  pub may_grow : (i : Ident) (n : NetAt) (t : ℕ) → net_at s i ≡ Some n → t < length n.net.tasks → length i < most_numbers → TaskMayGrow f n.net i t
  may_grow i n t at few room = let u = found_net i n at in record { state = u.0; found = u.1; task = few; room = room }

  -- each item of the net has a number that is drawn
  drawn_there : (i : Ident) → 1 ≤ length i → (u : NetState) → net_found f i ≡ Some u → Each (HasDrawn s i) (ids u)
  drawn_there i long u found =
      let here = net_here f i u h.boxed long found in
      let es : Entries = (net_entries names u).1 ++ here.beside names in
      Each-front (HasDrawn s i) (ids u) here.others
      (each_with (IsChild i) (λ j. is_some (find lexical j es) ≡ true) (HasDrawn s i)
      (λ j (k, same) known.
      let at : is_some (get s.sites j) ≡ true =
      ap (λ (m : Sites). is_some (get m j)) h.sites ∙ ap is_some ((here.shows names).below j (child_strictly j i (is_child_of j i (k, same)))) ∙ known in
      (k, number_drawn s h.numbers i k (ap (λ z. is_some (get s.sites z)) (sym same) ∙ at), same))
      (ids u ++ here.others) here.here.0 (all_known names u (here.beside names) here.others (here.known names)))

  -- and so has each of a task
  pub come_before : (i : Ident) (n : NetAt) (t : ℕ) → net_at s i ≡ Some n → ComeBefore f i t s.next
  come_before i n t at = λ u found.
      let stands = at_net s i n at in
      let long = identity_long i (h.numbers.identities i stands.0 stands.1) in
      each_in_row (HasDrawn s i) (out-NetState u).items.items t (subst (Each (HasDrawn s i)) (ids_are u) (drawn_there i long u found))

  -- ---- an item

  pub item_found : (j : Ident) (x : ItemAt) → item_at s j ≡ Some x → IsSome (item_of f j)
  item_found j x known = item_stands names f s h j x known

  module _ (j : Ident) (x : ItemAt) (known : item_at s j ≡ Some x) where
    identity : is_identity j ≡ true
    identity = let stands = at_item s j x known in h.numbers.identities j stands.0 stands.1

    part : (y : ItemPart) × (item_part s j ≡ Some y) × (option_and_then (with_task y) (net_at s (parent j)) ≡ Some x)
    part = then_some (λ (y : ItemPart). option_and_then (with_task y) (net_at s (parent j))) (item_part s j) x known

    outer : (n : NetAt) × (net_at s (parent j) ≡ Some n) × (with_task part.0 n ≡ Some x)
    outer = then_some (with_task part.0) (net_at s (parent j)) x part.2

    tasked : (t : TaskAt) × (task_in outer.0 part.0.task ≡ Some t) × (item_with part.0 t ≡ x)
    tasked = map_some (item_with part.0) (task_in outer.0 part.0.task) x outer.2

    the_task : (t : Task) × (slice_get outer.0.net.tasks part.0.task ≡ Some t) × (task_with outer.0 part.0.task t ≡ tasked.0)
    the_task = map_some (task_with outer.0 part.0.task) (slice_get outer.0.net.tasks part.0.task) tasked.0 tasked.1

    same_net : outer.0.net ≡ x.of_task.within.net
    same_net = ap (λ (t : TaskAt). t.within.net) the_task.2 ∙ ap (λ (y : ItemAt). y.of_task.within.net) tasked.2

    pub item_in : IsItemIn f x.of_task.within.net j
    item_in =
        let n = item_there names f h.boxed j identity s h.sites part.0 part.1 in
        let u = found_net (parent j) outer.0 outer.1 in
        let number : part.0.task ≡ (out-Node n.0).task = sym (ap (λ (y : ItemPart). y.task) n.2) in
        let at : slice_get x.of_task.within.net.tasks (out-Node n.0).task ≡ Some the_task.0 = sym (λ i. slice_get (same_net i).tasks (number i)) ∙ the_task.1 in
        record { item = n.0; outer = u.0; found = n.1; stands_in = u.1; task = within x.of_task.within.net.tasks (out-Node n.0).task the_task.0 at }

    pub item_is : (reader : Reader) → IsWell reader s → ItemIs s j x.of_task.within.net
    item_is reader well =
        let few = well.content.count (parent j) outer.0 part.0.task the_task.0 outer.1 the_task.1 in
        let k : part.0.task ≡ x.part.task = ap (λ (y : ItemAt). y.part.task) tasked.2 in
        let t : the_task.0 ≡ x.of_task.task = ap (λ (z : TaskAt). z.task) the_task.2 ∙ ap (λ (y : ItemAt). y.of_task.task) tasked.2 in
        record {
          there = x;
          known = known;
          net_is = refl;
          few = subst (λ (z : Task). length (items_of s (parent j) x.part.task) ≤ item_limit z.many) t (subst (λ n. length (items_of s (parent j) n) ≤ item_limit the_task.0.many) k few);
        }

-- ---- where the event is allowed

pub start_found : (names : ℕ → List ℕ) (f : Forest) (s : State) → StandsWell names f s → (j : Ident) (who : List ℕ) (said : Said) → Allowed s (events.Start j who) said → IsSome (item_of f j)
unfolding allows
start_found names f s h j who said allowed = let x = there_and (item_at s j) _ (and_parts _ _ allowed.0).1 in item_found names f s h j x.0 x.1
