-- What a state has at an identity, by what is known of it.
use Rattle.std.proofs.Common.{ap, arith, sym, ◌∙◌}
use Rattle.std.specs.Prelude.{None, Some, length, option_and_then, option_map, slice_get, true, ℕ, ◌∷◌, ◌≡◌, ◌≤◌}
use Rattle.yw_base.specs.Identity.{is_identity, parent}
use Rattle.yw_standing.proofs.HereLaw.{no_item, no_net}
use Rattle.yw_deeds.specs.Runs.{its_net, its_task}
use Rattle.yw_known.proofs.Items.{no_item_here, task_wanted}
use Rattle.yw_known.proofs.Standing.{kept_called, kept_named, no_net_here, numbered}
use Rattle.yw_known.specs.Here.{IsNetHere}
use Rattle.yw_known.specs.Known.{IsKnownNet, net_numbered}
use Rattle.yw_known.specs.declared.here.NetHere.{NetHere}
use Rattle.yw_known.specs.declared.known.KnownNet.{KnownNet}
use Rattle.yw_library.specs.Held.{IsHeld}
use Rattle.yw_library.specs.Holdings.{AreNamed, Holdings}
use Rattle.yw_library.specs.Names.{names_of}
use Rattle.yw_nest.proofs.Known.{item_known, net_known, part_known}
use Rattle.yw_nest.specs.Items.{IsNetOf}
use Rattle.yw_spec.specs.declared.task.Task.{Task}
use Rattle.yw_state.proofs.Standing.{at_net_part}
use Rattle.yw_state.proofs.Tests.{by_option}
use Rattle.yw_state.specs.Identity.{Ident, case_ident}
use Rattle.yw_state.specs.State.{NetPart, State, item_at, net_at, net_part, spec_called}
use Rattle.yw_tree.specs.Cases.{case_at}
use Rattle.yw_tree.specs.Entries.{net_part as its_part}
use Rattle.yw_tree.specs.Forest.{item_of}
use Rattle.yw_tree.specs.Places.{net_at as net_found}
use Rattle.yw_tree.specs.declared.Case.{Case}
use Rattle.yw_tree.specs.declared.Forest.{Forest}
use Rattle.yw_tree.specs.declared.NetState.{out-NetState}
use Rattle.yw_tree.specs.declared.Node.{Node, out-Node}

module _ (known : Holdings) (f : Forest) (s : State) (h : IsHeld known f s) where
  -- ---- the task of an item

  module _ (j : Ident) where
    pub no_task : item_of f j ≡ None → None ≡ option_map its_task (item_at s j)
    no_task none = sym (ap (option_map its_task) (no_item s j (no_item_here known f s h j none)))

    pub task_there : (identity : is_identity j ≡ true) (n : Node) (found : item_of f j ≡ Some n) (w : NetHere) → IsNetHere known f s (parent j) w
        → slice_get w.net.now.tasks (out-Node n).task ≡ option_map its_task (item_at s j)
    task_there identity n found w outer =
        by_option (slice_get w.net.now.tasks (out-Node n).task)
        (λ none. absurd (task_wanted known f s h j identity n found w outer none))
        (λ (task : Task) some.
        some
        ∙ sym (ap (option_map its_task)
        (item_known (names_of known) f h.boxed s h.sites j identity n found w.state.now outer.stands.found w.spec.now outer.of_state w.net.now outer.of_spec task some)))

  -- ---- the net of a case

  module _ (n : ℕ) where
    abbrev i : Ident
    i = case_ident n

    pub case_gone : None ≡ case_at n f.cases → net_part s i ≡ None
    case_gone none =
        let gone : net_found f i ≡ None = ap (option_map (λ (c : Case). c.net)) (sym none) in
        no_net_here known f s h i gone

    pub no_case : None ≡ case_at n f.cases → None ≡ option_map its_net (net_at s i)
    no_case none = sym (ap (option_map its_net) (no_net s i (case_gone none)))

    module _ (c : Case) (found : case_at n f.cases ≡ Some c) where
      top : net_found f i ≡ Some c.net
      top = ap (option_map (λ (z : Case). z.net)) found

      long : 1 ≤ length i
      long = omega arith

      pub case_part : net_part s i ≡ Some (its_part (names_of known) c.net)
      case_part = part_known (names_of known) f h.boxed s h.sites i long c.net top

      identity : is_identity i ≡ true
      identity = let at = at_net_part s i (its_part (names_of known) c.net) case_part in h.well.numbers.identities i at.0 at.1

      pub case_wanted : AreNamed known → net_numbered known (out-NetState c.net).spec (out-NetState c.net).net ≡ None → ⊥
      case_wanted named none = numbered known f s h i identity c.net top named none

      pub case_net : (w : KnownNet) → IsKnownNet known (out-NetState c.net).spec (out-NetState c.net).net w → Some w.net.now ≡ option_map its_net (net_at s i)
      case_net w is =
          let spec = w.spec.now in
          let k = (out-NetState c.net).spec in
          let named : names_of known k ≡ spec.name = kept_named known f s h spec.name spec k is.kept in
          let called : spec_called s (names_of known k) ≡ Some spec = ap (spec_called s) named ∙ kept_called known f s h spec.name spec k is.kept in
          let of : IsNetOf s i spec = ap (option_and_then (λ (p : NetPart). spec_called s p.spec)) case_part ∙ called in
          sym (ap (option_map its_net) (net_known (names_of known) f h.boxed s h.sites i long c.net top spec of w.net.now is.of_spec))
