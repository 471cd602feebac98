-- A net that stands in a forest goes on: what the whole map is then.
use Rattle.std.proofs.Common.{List, Some, ap, refl, subst, sym, ℕ, ◌∙◌, ◌≡◌}
use Rattle.std.specs.Prelude.{fold, option_map, slice_get}
use Rattle.yw_spec.specs.declared.spec.Net.{Net}
use Rattle.yw_spec.specs.declared.task.Task.{Task}
use Rattle.yw_state.proofs.Tests.{some_same}
use Rattle.yw_state.specs.After.{change, empty_region, no_more, with_net, with_sites, without_items}
use Rattle.yw_state.specs.Identity.{Ident}
use Rattle.yw_state.specs.Map.{get}
use Rattle.yw_state.specs.State.{NetPart, State}
use Rattle.yw_task.proofs.EnterAsk.{here, shown}
use Rattle.yw_task.proofs.TurnLaw.{own_part, own_turns, turns_both}
use Rattle.yw_task.specs.Leaving.{EmptiesRegion, HasNet}
use Rattle.yw_task.specs.Standing.{NetStands}
use Rattle.yw_task.specs.Turning.{HasCome, StaysBeside, Turns}
use Rattle.yw_tree.proofs.NetHere.{same_part}
use Rattle.yw_tree.specs.Boxed.{ids}
use Rattle.yw_tree.specs.Entries.{net_part}
use Rattle.yw_tree.specs.declared.Forest.{Forest}
use Rattle.yw_tree.specs.declared.NetState.{NetState, out-NetState}

module _ (names : ℕ → List ℕ) (f : Forest) (s : State) (i : Ident) (net : Net) (old : NetState) (h : NetStands names f s i net old) where
  -- what stands beside it may stand beside what the net becomes
  pub its_beside : StaysBeside i (here names f s i net old h).others ((here names f s i net old h).beside names)
  its_beside = λ w fits. (here names f s i net old h).stands_with (ids w) fits names

  -- it has come to itself
  pub it_stands : HasCome names i (here names f s i net old h).others ((here names f s i net old h).beside names) s s old
  it_stands =
      let k = here names f s i net old h in
      let there = shown names f s i net old h in
      record {
        boxed = k.boxed;
        children = k.here;
        shows = there;
        own = sym (same_part (net_part names old) (get s.sites i) there.part);
        outside = λ q u. refl;
        rest = refl;
      }

  -- what it came to is the map of the forest with what it is now
  pub has_net : (t : State) (w : NetState) → HasCome names i (here names f s i net old h).others ((here names f s i net old h).beside names) s t w → HasNet names f s t i w
  has_net t w n =
      let k = here names f s i net old h in
      let own = n.own ∙ ap (λ m. option_map (with_net (λ _. net_part names w)) (get m i)) h.sites in
      let r = k.lift w n.boxed n.children names t.sites n.shows own (λ q u. n.outside q u ∙ ap (λ m. get m q) h.sites) in
      record { map = n.rest ∙ ap (with_sites s) (sym r.0); kept = r.1 }

-- ---- a removal set

pub region_turns : (a b c : NetState) (task : Task) → out-NetState b ≡ record (out-NetState a) { marks = fold no_more (out-NetState a).marks task.drop_places }
    → Turns b c (λ i s. fold (without_items i) s task.drop_tasks) → Turns a c (λ i s. empty_region s i task)
region_turns a b c task is then =
    let marks : List ℕ = fold no_more (out-NetState a).marks task.drop_places in
    let wipe : NetPart → NetPart = λ n. record n { tokens = fold no_more n.tokens task.drop_places } in
    turns_both a b c (λ i s. change s i (with_net wipe)) (λ i s. fold (without_items i) s task.drop_tasks)
    (own_turns a b marks (out-NetState a).vals is wipe (own_part a b marks (out-NetState a).vals is)) then

pub empties : (net : Net) (t : ℕ) (old new : NetState) (task : Task) → slice_get net.tasks t ≡ Some task → Turns old new (λ i s. empty_region s i task) → EmptiesRegion net t old new
empties net t old new task at turns = λ names f s i u h is.
    let k = here names f s i net old h in
    let made = turns names i k.others (k.beside names) s s (its_beside names f s i net old h) (it_stands names f s i net old h) in
    let same : task ≡ u = some_same task u (sym at ∙ is) in
    has_net names f s i net old h (empty_region s i u) new (subst (λ (v : Task). HasCome names i k.others (k.beside names) s (empty_region s i v) new) same made)
