-- A task of a net that stands, found by its name.
use Rattle.std.proofs.Common.{ap, subst, sym, ◌∙◌}
use Rattle.std.proofs.lemmas.List.Quantifiers.{position-Some}
use Rattle.std.proofs.lemmas.Option.{get_or_from_slice_get}
use Rattle.std.proofs.lemmas.Slice.Eq.{bytes_eq-Decides}
use Rattle.std.specs.Prelude.{List, MatchOption, None, Option, Some, option_and_then, option_map, slice_get, true, ℕ, ◌≡◌}
use Rattle.std.specs.Str.{bytes_eq}
use Rattle.yw_known.specs.Here.{IsNetHere, as_net_at}
use Rattle.yw_known.specs.declared.here.NetHere.{NetHere}
use Rattle.yw_known.specs.declared.known.KnownNet.{KnownNet}
use Rattle.yw_spec.specs.declared.spec.Net.{Net}
use Rattle.yw_spec.specs.declared.task.Task.{Task}
use Rattle.yw_standing.proofs.HereLaw.{no_net}
use Rattle.yw_standing.specs.Here.{IsNetKnown, with_state}
use Rattle.yw_standing.specs.State.{state_of}
use Rattle.yw_standing.specs.declared.standing.Standing.{Standing}
use Rattle.yw_state.proofs.Tests.{by_option, nowhere, some_same}
use Rattle.yw_state.specs.Identity.{Ident}
use Rattle.yw_state.specs.Nets.{task_number}
use Rattle.yw_state.specs.State.{NetAt, State, TaskAt, net_part, task_at, task_in}
use Rattle.yw_still.specs.Still.{task_numbered}

module _ (s : State) (i : Ident) (name : List ℕ) where
  pub no_net_no_task : net_part s i ≡ None → task_at s i name ≡ None
  no_net_no_task none = ap (option_and_then (λ (n : NetAt). option_and_then (task_in n) (task_number n.net name))) (no_net s i none)

module _ (old : Standing) (i : Ident) (w : NetHere) (here : IsNetHere old.known old.forest (state_of old) i w) (name : List ℕ) where
  abbrev of_number : ℕ → Task → TaskAt
  of_number t task = record { number = t; task = task; within = as_net_at old.known w }

  pub no_name_no_task : task_number w.net.now name ≡ None → task_at (state_of old) i name ≡ None
  no_name_no_task none =
      ap (option_and_then (λ (n : NetAt). option_and_then (task_in n) (task_number n.net name))) here.at ∙ ap (option_and_then (task_in (as_net_at old.known w))) none

  module _ (t : ℕ) (number : task_number w.net.now name ≡ Some t) where
    by_number : task_at (state_of old) i name ≡ task_in (as_net_at old.known w) t
    by_number =
        ap (option_and_then (λ (n : NetAt). option_and_then (task_in n) (task_number n.net name))) here.at ∙ ap (option_and_then (task_in (as_net_at old.known w))) number

    pub no_number_no_task : slice_get w.net.now.tasks t ≡ None → task_at (state_of old) i name ≡ None
    no_number_no_task none = by_number ∙ ap (option_map (of_number t)) none

    module _ (task : Task) (of_net : slice_get w.net.now.tasks t ≡ Some task) where
      abbrev pub its : TaskAt
      its = record { number = t; task = task; within = as_net_at old.known w }

      pub named : task_at (state_of old) i name ≡ Some its
      named = by_number ∙ ap (option_map (of_number t)) of_net

      pub numbered : task_numbered (state_of old) i t ≡ Some its
      numbered = ap (option_and_then (λ (n : NetAt). task_in n t)) here.at ∙ ap (option_map (of_number t)) of_net

-- the number of a task of this name is the one by which the net has it
module _ (old : Standing) (i : Ident) (w : NetHere) (here : IsNetHere old.known old.forest (state_of old) i w) (name : List ℕ) (y : TaskAt)
    (there : task_at (state_of old) i name ≡ Some y) where
  pub numbered_by : (t : ℕ) → y.number ≡ t → task_number w.net.now name ≡ Some t
  numbered_by t is =
      by_option (task_number w.net.now name)
      (λ none. nowhere (sym (no_name_no_task old i w here name none) ∙ there))
      (λ k number. by_option (slice_get w.net.now.tasks k)
      (λ none. nowhere (sym (no_number_no_task old i w here name k number none) ∙ there))
      (λ task of_net.
      let same = some_same y (its old i w here name k number task of_net) (sym there ∙ named old i w here name k number task of_net) in
      number ∙ ap (λ n. Some n) (sym (ap (λ (z : TaskAt). z.number) same) ∙ is)))

-- it has the name by which it is found
pub named_so : (net : Net) (t : ℕ) (task : Task) (name : List ℕ) → slice_get net.tasks t ≡ Some task → task_number net name ≡ Some t → task.name ≡ name
named_so net t task name at number =
    let passes = (position-Some (λ (u : Task). bytes_eq u.name name) net.tasks t task number).1 in
    (bytes_eq-Decides task.name name).0 (subst (λ (u : Task). bytes_eq u.name name ≡ true) (get_or_from_slice_get net.tasks t task task at) passes)

-- ---- where a task of this name is there, by what is known of its net

module _ (old : Standing) (i : Ident) (name : List ℕ) (y : TaskAt) (there : task_at (state_of old) i name ≡ Some y) where
  abbrev KnownIs : Option KnownNet → Type 0
  KnownIs o = MatchOption o (net_part (state_of old) i ≡ None) (IsNetKnown old.known old.forest (state_of old) i)

  pub net_known : {A : Type 0} (o : Option KnownNet) → o ≡ None → KnownIs o → A
  net_known o is found =
      let none : net_part (state_of old) i ≡ None = subst KnownIs is found in
      nowhere (sym (no_net_no_task (state_of old) i name none) ∙ there)

  module _ (w : KnownNet) (known : IsNetKnown old.known old.forest (state_of old) i w) where
    pub task_known : (t : ℕ) → task_number w.net.now name ≡ Some t → (task : Task) × (slice_get w.net.now.tasks t ≡ Some task)
    task_known t number =
        by_option (slice_get w.net.now.tasks t)
        (λ none. nowhere (sym (no_number_no_task old i (with_state w known.state) known.here name t number none) ∙ there))
        (λ task of_net. (task, of_net))

    pub number_known : (t : ℕ) → y.number ≡ t → task_number w.net.now name ≡ Some t
    number_known t is = numbered_by old i (with_state w known.state) known.here name y there t is
