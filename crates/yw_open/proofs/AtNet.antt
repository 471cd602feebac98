-- What is open where a net stands: the entries of its tasks.
use Rattle.std.proofs.Common.{◌≡◌, ◌∙◌, ◌<◌, ℕ, true, List, [], ◌∷◌, Some, ap, length, map, refl, subst, sym}
use Rattle.std.proofs.lemmas.Bool.{and_from, and_parts}
use Rattle.std.proofs.lemmas.List.Quantifiers.{position-Some}
use Rattle.std.proofs.lemmas.List.Sorted.{Contains-permutation, IsPermutation-sym}
use Rattle.std.proofs.lemmas.Option.{get_or_from_slice_get, slice_get_within}
use Rattle.std.proofs.lemmas.Slice.Eq.{bytes_eq-Decides}
use Rattle.std.specs.List.Sorted.{IsPermutation, IsSortedBy}
use Rattle.std.specs.Prelude.{is_none, option_and_then, slice_get}
use Rattle.std.specs.Str.{bytes_eq}
use Rattle.yw_idle.proofs.NetAbove.{no_both}
use Rattle.yw_known.specs.Here.{as_net_at}
use Rattle.yw_known.specs.declared.here.NetHere.{NetHere}
use Rattle.yw_library.specs.Holdings.{Holdings}
use Rattle.yw_library.specs.Names.{names_of}
use Rattle.yw_open.specs.Entries.{IsEntryBelow, ListsBelow, StandsHere, TellsNet, entry_of, name_of}
use Rattle.yw_open.specs.Opens.{name_before}
use Rattle.yw_shown.proofs.Elements.{contained, found_in}
use Rattle.yw_shown.proofs.Rising.{Rises, after_sort}
use Rattle.yw_spec.specs.declared.task.Task.{Task}
use Rattle.yw_state.proofs.MapLemmas.{by_name}
use Rattle.yw_state.proofs.Tests.{and_left, map_some, never, some_same, then_some}
use Rattle.yw_state.specs.Answers.{rises}
use Rattle.yw_state.specs.Identity.{Ident}
use Rattle.yw_state.specs.Nets.{is_atomic, task_number}
use Rattle.yw_state.specs.State.{NetAt, State, TaskAt, net_at, net_part, task_at, task_in}
use Rattle.yw_state.specs.Words.{is_ready}
use Rattle.yw_state.specs.declared.answer.What.{What}
use Rattle.yw_state.specs.declared.answer.What.TheVariants.{Complete, Enter, Start}
use Rattle.yw_task.proofs.EnterAsk.{its_net_part}
use Rattle.yw_tree.specs.Entries.{net_part as part_of}
use Rattle.yw_tree.specs.declared.Forest.{Forest}
use Rattle.yw_within.proofs.Finding.{named_of}
use Rattle.yw_work.specs.Open.{IsOpen}
use Rattle.yw_work.specs.declared.open.By.{By}
use Rattle.yw_work.specs.declared.open.Open.{Open}

-- ---- a task by its name

-- the task that is found by a name has it
named_so : (s : State) (i : Ident) (name : List ℕ) (x : TaskAt) → task_at s i name ≡ Some x → x.task.name ≡ name
named_so s i name x here =
    let (n, stands, found) = then_some (λ (n : NetAt). option_and_then (task_in n) (task_number n.net name)) (net_at s i) x here in
    let (k, number, in_net) = then_some (task_in n) (task_number n.net name) x found in
    let (task, at, made) = map_some (λ (u : Task). record { number = k; task = u; within = n }) (slice_get n.net.tasks k) x in_net in
    let first = position-Some (λ (u : Task). bytes_eq u.name name) n.net.tasks k task number in
    let read = get_or_from_slice_get n.net.tasks k task task at in
    ap (λ (y : TaskAt). y.task.name) (sym made)
    ∙ (bytes_eq-Decides task.name name).0 (ap (λ (u : Task). bytes_eq u.name name) (sym read) ∙ first.1)

-- ---- what is open

module _ (known : Holdings) (f : Forest) (s : State) (i : Ident) (h : NetHere) (w : StandsHere known f s i h) where
  part : net_part s i ≡ Some (part_of (names_of known) h.state.now)
  part = its_net_part (names_of known) f s i h.net.now h.state.now w.here.stands

  abbrev count : ℕ
  count = length h.net.now.tasks

  entry_opens : (o : Open) → IsEntryBelow s i count o → IsOpen s i o.task o.what o.by
  entry_opens o e =
      subst (λ (p : Open). IsOpen s i p.task p.what p.by) e.is
      (record { of_task = e.of_task; here = e.here; may = e.may.may; goes = e.may.goes; whom = refl })

  -- nothing else is
  is_entry : (task : List ℕ) (what : What) (by : By) → IsOpen s i task what by
      → IsEntryBelow s i count (record { task = task; what = what; by = by })
  is_entry task Enter by o =
      let x = o.of_task in
      let called = named_so s i task x o.here in
      let of = named_of s i task x o.here in
      let net = some_same x.within (as_net_at known h) (sym of.stands ∙ w.here.at) in
      let within = slice_get_within x.within.net.tasks x.number x.task of.task in
      let made : entry_of x.task ≡ record { task = task; what = Enter; by = by } =
      λ k. record { task = called k; what = Enter; by = sym o.whom k } in
      record {
        of_task = x;
        here = ap (task_at s i) called ∙ o.here;
        below = subst (λ (n : NetAt). x.number < length n.net.tasks) net within;
        may = record { may = o.may; goes = o.goes };
        is = made;
      }
  is_entry task Start by o =
      let can = and_parts (is_ready o.item.part.stage) _ (and_parts (is_atomic o.item.of_task.task) _ o.may).1 in
      let runs = and_left _ _ (and_left _ _ (w.asked.held.well.nets.of_item i (part_of (names_of known) h.state.now) o.item part o.here)) in
      absurd (no_both o.item.part.stage can.0 runs)
  is_entry task Complete by o =
      let can = and_parts (is_none (net_part s i)) _ (and_parts (is_atomic o.item.of_task.task) _ o.may).1 in
      never (sym (ap is_none part) ∙ can.0)

-- ---- in order

rises_by_name : (opens : List Open) → Rises by_name (map name_of opens) → rises name_before opens ≡ true
rises_by_name [] up = refl
rises_by_name (a ∷ []) up = refl
rises_by_name (a ∷ b ∷ opens) up = and_from _ _ up.0.0 (rises_by_name (b ∷ opens) up.1)

pub sorted_tells : (h : NetHere) (opens sorted : List Open) → ListsBelow h (length h.net.now.tasks) opens → IsPermutation opens sorted
    → IsSortedBy name_before sorted → TellsNet h sorted
sorted_tells h opens sorted lists moved up = λ known f s i w.
    let are = lists known f s i w in
    record {
      exact = λ o. (
        λ has.
            let had = Contains-permutation sorted opens o (IsPermutation-sym opens sorted moved) has in
            entry_opens known f s i h w o ((are.exact o).0 (found_in opens o had)),
        λ is. Contains-permutation opens sorted o moved (contained opens o ((are.exact o).1 (is_entry known f s i h w o.task o.what o.by is))),
      );
      named = rises_by_name sorted (after_sort by_name name_of opens sorted moved up are.apart);
    }
