-- A run loses its first primitive, something is done, and the run goes if it is over.
use Rattle.std.proofs.Common.{ap, refl, sym, ◌∙◌}
use Rattle.std.specs.Prelude.{◌≡◌, List, None, Option, Some, false, if◌then◌else◌, not, option_and_then, option_map, true, ℕ}
use Rattle.yw_base.specs.Identity.{under}
use Rattle.yw_exlet.specs.Changes.{Changes, EndsIfOver}
use Rattle.yw_exlet.specs.Needs.{Compensates}
use Rattle.yw_exlet.specs.Takes.{Change, TakesBy, begins, drops}
use Rattle.yw_sites.proofs.Twice.{updated_twice}
use Rattle.yw_state.proofs.MapLemmas.{by_name, get-retain_gone, get-update_same}
use Rattle.yw_state.specs.After.{change, stands, with_run, with_sites}
use Rattle.yw_state.specs.Events.{after}
use Rattle.yw_state.specs.Exlets.{going_on, is_over, taken_first, waiting}
use Rattle.yw_state.specs.Identity.{Ident}
use Rattle.yw_state.specs.Map.{get, remove, update}
use Rattle.yw_state.specs.Options.{is_some_and}
use Rattle.yw_state.specs.State.{NetPart, RunPart, Site, Sites, State, bare, drop, run_part}
use Rattle.yw_tree.specs.Becomes.{Bares, Drops, GetsNet}
use Rattle.yw_tree.specs.Entries.{net_part}
use Rattle.yw_tree.specs.Forest.{IsForest, sites_of}
use Rattle.yw_tree.specs.declared.Forest.{Forest}
use Rattle.yw_tree.specs.declared.NetState.{NetState}

module _ (r : Ident) (old mid : Forest) (steps : Changes old mid r (with_run taken_first)) where
  pub taken_by : (f : Change) (last done : Forest) → ((names : ℕ → List ℕ) → sites_of names last ≡ f names (sites_of names mid)) → EndsIfOver r last done → TakesBy r f old done
  taken_by f last done does ends = λ names s here.
      ends names (with_sites s (f names (update s.sites r (with_run taken_first))))
      (ap (λ z. f names (update z r (with_run taken_first))) here ∙ ap (f names) (sym (steps names)) ∙ sym (does names))

  -- what stands above the run takes it along
  pub taken_away : (j : Ident) (done : Forest) → Drops mid done j → under r j ≡ true → TakesBy r (drops j) old done
  taken_away j done away lies = λ names s here.
      let m : Sites = drop (update s.sites r (with_run taken_first)) j in
      let gone : run_part (with_sites s m) r ≡ None = ap (option_and_then (λ (x : Site). x.run)) (get-retain_gone by_name (update s.sites r (with_run taken_first)) _ r (ap not lies)) in
      ap (λ o. if is_some_and o is_over then with_sites (with_sites s m) (remove m r) else with_sites s m) gone
      ∙ ap (λ z. with_sites s (drop (update z r (with_run taken_first)) j)) here
      ∙ ap (λ z. with_sites s (drop z j)) (sym (steps names))
      ∙ ap (with_sites s) (sym (away names))

  -- a run that waits isn't over
  not_over : (o : Option Site) (n : NetPart) → is_some_and (option_and_then (λ (x : Site). x.run) (option_map (λ x. stands n (with_run waiting x)) o)) is_over ≡ false
  not_over None n = refl
  not_over (Some x) n = waits x.run
    where
      waits : (u : Option RunPart) → is_some_and (option_map waiting u) is_over ≡ false
      waits None = refl
      waits (Some p) = refl

  pub waits_for : (net : NetState) (with_it done : Forest) → GetsNet mid with_it r net → Changes with_it done r (with_run waiting) → TakesBy r (begins r net) old done
  waits_for net with_it done gets waits = λ names s here.
      let n = net_part names net in
      let m : Sites = update s.sites r (with_run taken_first) in
      let t : State = with_sites s (update m r (λ x. stands n (with_run waiting x))) in
      ap (λ b. if b then with_sites t (remove t.sites r) else t)
      (ap (λ o. is_some_and (option_and_then (λ (x : Site). x.run) o) is_over) (get-update_same by_name m r (λ x. stands n (with_run waiting x))) ∙ not_over (get m r) n)
      ∙ ap (with_sites s)
      (sym (updated_twice m r (stands n) (with_run waiting))
      ∙ ap (λ z. update (update (update z r (with_run taken_first)) r (stands n)) r (with_run waiting)) here
      ∙ ap (λ z. update (update z r (stands n)) r (with_run waiting)) (sym (steps names))
      ∙ ap (λ z. update z r (with_run waiting)) (sym (gets names))
      ∙ sym (waits names))

-- a run's net goes, and the run goes on
pub compensated : (r : Ident) (old mid going new : Forest) → IsForest new → Bares old mid r → Changes mid going r (with_run going_on) → EndsIfOver r going new → Compensates r old new
unfolding after
compensated r old mid going new boxed bares goes ends = record {
  leads = λ names s said here needs.
      ends names (change (with_sites s (bare s.sites r)) r (with_run going_on))
      (ap (λ z. update (bare z r) r (with_run going_on)) here ∙ ap (λ z. update z r (with_run going_on)) (sym (bares names)) ∙ sym (goes names));
  boxed = boxed;
}
