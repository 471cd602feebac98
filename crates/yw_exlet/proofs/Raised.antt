-- A run that begins, as an event.
use Rattle.std.proofs.Common.{ap, arith, refl, sym, ◌∙◌}
use Rattle.std.specs.Option.{option_map_or}
use Rattle.std.specs.Prelude.{◌≡◌, ◌+◌, List, [], length, option_map, ℕ}
use Rattle.yw_base.specs.Identity.{child}
use Rattle.yw_exlet.proofs.Kept.{conclusion_kept}
use Rattle.yw_exlet.proofs.OwnSite.{apart, is_same}
use Rattle.yw_exlet.specs.Begins.{Excepts, Raises, RunMayBegin}
use Rattle.yw_exlet.specs.Changes.{Changes, passed}
use Rattle.yw_exlet.specs.Stands.{TargetAt, is_no_run}
use Rattle.yw_sites.proofs.Prefix.{child_length, is_child_of}
use Rattle.yw_state.proofs.MapLemmas.{by_name, get-insert_other, get-insert_same, get-update_other, get-update_same, same_map}
use Rattle.yw_state.proofs.Tests.{by_test}
use Rattle.yw_state.specs.After.{new_run, pass, primitives_of, put, with_next, with_sites}
use Rattle.yw_state.specs.Events.{after}
use Rattle.yw_state.specs.Identity.{Ident, same}
use Rattle.yw_state.specs.Map.{get, insert, update}
use Rattle.yw_state.specs.Options.{is_some_and}
use Rattle.yw_state.specs.State.{Site, Sites, State}
use Rattle.yw_state.specs.declared.tree.Primitive.{Primitive}
use Rattle.yw_state.specs.declared.tree.TreeKind.{TreeKind}
use Rattle.yw_tree.specs.Becomes.{Gets}
use Rattle.yw_tree.specs.Begins.{BeginsRun}
use Rattle.yw_tree.specs.Coming.{RunMayCome}
use Rattle.yw_tree.specs.Entries.{run_site}
use Rattle.yw_tree.specs.Forest.{IsForest, sites_of}
use Rattle.yw_tree.specs.Spots.{part_at}
use Rattle.yw_tree.specs.declared.Forest.{Forest}
use Rattle.yw_tree.specs.declared.Run.{Run, out-Run}

-- a run has another identity than what it hangs at
pub below_it : (j : Ident) (n : ℕ) → child j n ≡ j → ⊥
below_it j n e = let l = child_length j (child j n) (n, λ i. child j n) in let m : length (child j n) ≡ length j = ap length e in absurd (omega (arith, l, m))

-- what comes at k, and a change at j
swapped : (m : Sites) (k j : Ident) (x : Site) (g : Site → Site) → (k ≡ j → ⊥) → insert (update m j g) k x ≡ update (insert m k x) j g
swapped m k j x g differ = same_map by_name _ _ (λ q.
    by_test (same q k)
    (λ here.
    let e = is_same q k here in
    ap (get (insert (update m j g) k x)) e
    ∙ get-insert_same by_name (update m j g) k x
    ∙ sym (ap (get (update (insert m k x) j g)) e ∙ get-update_other by_name (insert m k x) j g k differ ∙ get-insert_same by_name m k x))
    (λ other.
    get-insert_other by_name (update m j g) k x q (apart q k other)
    ∙ by_test (same q j)
    (λ here.
    let e = is_same q j here in
    ap (get (update m j g)) e
    ∙ get-update_same by_name m j g
    ∙ sym (ap (get (update (insert m k x) j g)) e ∙ get-update_same by_name (insert m k x) j g ∙ ap (option_map g) (get-insert_other by_name m k x j (λ z. differ (sym z)))))
    (λ away.
    get-update_other by_name m j g q (apart q j away)
    ∙ sym (get-update_other by_name (insert m k x) j g q (apart q j away) ∙ get-insert_other by_name m k x q (apart q k other)))))

module _ (j : Ident) (n : ℕ) (kind : TreeKind) (node : ℕ) (exlet : List Primitive) (run : Run) (begins : BeginsRun (child j n) exlet run) where
  pub raised : (old new : Forest) → IsForest new → Gets old new (out-Run run).id (λ names. run_site names run) → Raises j kind node n exlet old new
  unfolding after
  raised old new boxed gets = record {
    leads = λ names s said here needs.
        ap (λ ps. with_next (put s (child j n) (new_run ps)) (n + 1)) (sym needs)
        ∙ ap (λ k. with_next (put s k (new_run exlet)) (n + 1)) (sym begins.id)
        ∙ ap (λ x. with_next (put s (out-Run run).id x) (n + 1)) (sym (begins.site names))
        ∙ ap (λ m. with_sites (with_next s (n + 1)) (insert m (out-Run run).id (run_site names run))) here
        ∙ ap (with_sites (with_next s (n + 1))) (sym (gets names));
    boxed = boxed;
  }

  pub excepted : (old mid new : Forest) → IsForest new → Gets old mid (out-Run run).id (λ names. run_site names run) → Changes mid new j (passed kind) → Excepts j kind node n exlet old new
  unfolding after
  excepted old mid new boxed gets changes = record {
    leads = λ names s said here needs.
        let t : State = pass s j kind in
        ap (λ o. with_next (put t (child j n) (new_run (option_map_or primitives_of o []))) (n + 1)) (conclusion_kept s j (passed kind) (λ x. refl) (λ x. refl) j kind node)
        ∙ ap (λ ps. with_next (put t (child j n) (new_run ps)) (n + 1)) (sym needs)
        ∙ ap (with_sites (with_next s (n + 1)))
        (swapped s.sites (child j n) j (new_run exlet) (passed kind) (below_it j n)
        ∙ ap (λ k. update (insert s.sites k (new_run exlet)) j (passed kind)) (sym begins.id)
        ∙ ap (λ x. update (insert s.sites (out-Run run).id x) j (passed kind)) (sym (begins.site names))
        ∙ ap (λ m. update (insert m (out-Run run).id (run_site names run)) j (passed kind)) here
        ∙ ap (λ m. update m j (passed kind)) (sym (gets names))
        ∙ sym (changes names));
    boxed = boxed;
  }

-- ---- what is supposed where it comes

pub may_come : (f : Forest) (j : Ident) (n : ℕ) (exlet : List Primitive) (run : Run) → RunMayBegin f j n → BeginsRun (child j n) exlet run → RunMayCome f j run
may_come f j n exlet run may begins = record {
  target = may.target;
  idle = may.idle;
  child = is_child_of (out-Run run).id j (n, begins.id);
  vacant = ap (part_at f) begins.id ∙ may.vacant;
  without_net = begins.without_net;
}

-- what it hangs at stays
pub target_stays : (old mid : Forest) (j k : Ident) (site : (ℕ → List ℕ) → Site) → (k ≡ j → ⊥) → Gets old mid k site → TargetAt old j → TargetAt mid j
target_stays old mid j k site differ gets stands = λ names.
    ap (λ m. is_some_and (get m j) is_no_run) (gets names)
    ∙ ap (λ o. is_some_and o is_no_run) (get-insert_other by_name (sites_of names old) k (site names) j (λ z. differ (sym z)))
    ∙ stands names
