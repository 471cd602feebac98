-- How many items are done behind any event: where it is of a rule tree or of an exlet, as many in each net that it doesn't warm.
use Rattle.std.specs.Prelude.{◌≡◌, ◌+◌, ◌&&◌, ℕ, true, false, not, cond, [], filter, length, None, is_some, refl}
use Rattle.std.specs.List.{list_any}
use Rattle.std.proofs.Common.{add-zero, inl, sym, ◌∙◌, ap}
use Rattle.std.proofs.lemmas.Bool.{or_parts}
use Rattle.yw_base.specs.Identity.{is_identity}
use Rattle.yw_idle.proofs.Staying.{stays_idle}
use Rattle.yw_idle.specs.Warms.{is_rule, warms}
use Rattle.yw_moved.proofs.Parents.{is_same}
use Rattle.yw_plain.specs.Plain.{is_plain_event}
use Rattle.yw_progress.proofs.Agreeing.{counts_now, counts_then, is_free}
use Rattle.yw_progress.proofs.Counting.{same_filter}
use Rattle.yw_progress.proofs.Following.{plain_counts}
use Rattle.yw_progress.proofs.Items.{item_among}
use Rattle.yw_progress.proofs.Staying.{neither, net_of_task, stood}
use Rattle.yw_progress.specs.Progress.{CountsBehind, completed_by, completes_done, done_in, goes, is_anew, is_done_of, is_left}
use Rattle.yw_state.proofs.Apart.{leaves_cases}
use Rattle.yw_state.proofs.Tests.{and_right, by_test, never, then_some, there, there_and}
use Rattle.yw_state.specs.After.{with_sites}
use Rattle.yw_state.specs.Allowed.{Allowed, allows}
use Rattle.yw_state.specs.Events.{after}
use Rattle.yw_state.specs.Identity.{Ident, same}
use Rattle.yw_state.specs.Map.{get}
use Rattle.yw_state.specs.Options.{is_some_and}
use Rattle.yw_state.specs.State.{State, Site, items_of, net_part, task_at}
use Rattle.yw_state.specs.Texts.{Reader, Said}
use Rattle.yw_state.specs.Well.{IsWell}
use Rattle.yw_state.specs.Words.{done}
use Rattle.yw_state.specs.declared.event.Event.{Event}
use Rattle.yw_state.specs.declared.event.Event.TheVariants as events

-- it completes no item but by a primitive, or at the end of a worklet
completes_none : (e : Event) → is_plain_event e ≡ false → completed_by e ≡ None
completes_none (events.Complete j out) other = never (sym other)
completes_none (events.CompleteSub j) other = never (sym other)
completes_none (events.CompleteEmpty j) other = never (sym other)
completes_none e other = refl

module _ (s t : State) (e : Event) (i : Ident) (other : is_plain_event e ≡ false) where
  none_more : (k : ℕ) → done_in t i k ≡ done_in s i k → done_in t i k ≡ done_in s i k + cond (completes_done t e i k) 1 0
  none_more k same_count =
      same_count ∙ sym (add-zero (done_in s i k)) ∙ ap {B = ℕ} (λ b. done_in s i k + cond b 1 0) (sym (ap (λ o. is_some_and o (is_done_of t i k)) (completes_none e other)))

-- a rule leaves what stands
rule_counts : (s : State) (e : Event) (said : Said) (i : Ident) → is_rule e ≡ true → is_some (net_part (after s e said) i) ≡ true
    → CountsBehind s (after s e said) e i
rule_counts s (events.AddRule p at side when conclusion number) said i is has =
    let e : Event = events.AddRule p at side when conclusion number in
    let same_sites = (leaves_cases s e said refl).sites in
    record {
      stood = ap (λ m. is_some (net_part (with_sites s m) i)) (sym same_sites) ∙ has;
      as_many = λ k. inl (none_more s (after s e said) e i refl k (ap (λ m. done_in (with_sites s m) i k) same_sites));
    }
rule_counts s e said i is has = never is

-- a net that a task leaves stands before
exit_net : (s : State) (e : Event) (said : Said) (i : Ident) → Allowed s e said → is_left e i ≡ true → is_some (net_part s i) ≡ true
unfolding allows
exit_net s (events.Exit j name places) said i ok here =
    let (x, found, may) = there_and (task_at s j name) _ (and_right _ _ ok.0) in
    ap (λ l. is_some (net_part s l)) (is_same i j here) ∙ net_of_task s j name x found
exit_net s e said i ok here = never here

module _ {reader : Reader} (s : State) (e : Event) (said : Said) (i : Ident) (well : IsWell reader s) (ok : Allowed s e said)
    (has : is_some (net_part (after s e said) i) ≡ true) where
  abbrev t : State
  t = after s e said

  -- ---- an event of a rule tree or of an exlet

  cold_counts : is_plain_event e ≡ false → is_rule e ≡ false → list_any (same i) (warms e) ≡ false → CountsBehind s t e i
  cold_counts other no_rule cold =
      let (n, part) = there (net_part t i) has in
      let (x, stands, of_net) = then_some (λ (x : Site). x.net) (get t.sites i) n part in
      let sees = (stays_idle s e said i x well ok no_rule stands cold).sees in
      record {
        stood = ap is_some (sym sees.part) ∙ has;
        as_many = λ k. inl (none_more s t e i other k
            (ap (λ es. length (filter (λ d. done t d.0 d.1) es)) (sees.items k)
            ∙ ap length (same_filter (λ d. done t d.0 d.1) (λ d. done s d.0 d.1) (items_of s i k)
            (λ d within. sees.done d.0 d.1 (item_among s i k d within).0))));
      }

  -- ---- any other

  net_before : is_plain_event e ≡ true → is_anew e i ≡ false → is_some (net_part s i) ≡ true
  net_before is old =
      by_test (is_left e i) (λ left. exit_net s e said i ok left) (λ stays. stood s e said i well is ok has (neither e i old stays))

  some_number : is_some (net_part s i) ≡ true → i ≡ [] → ⊥
  some_number net top =
      let (n, part) = there (net_part s i) net in
      let (x, stands, of_net) = then_some (λ (x : Site). x.net) (get s.sites i) n part in
      never (ap is_identity (sym top) ∙ well.numbers.identities i x stands)

  pub behind : goes e i ≡ false → CountsBehind s t e i
  behind stays =
      let parts = or_parts (is_anew e i) (not (is_plain_event e) && list_any (same i) (warms e)) stays in
      by_test (is_plain_event e)
      (λ is.
      plain_counts s e said i (is_free s) well (counts_now s i) (counts_then s e said well is ok i (some_number (net_before is parts.0))) is ok has parts.0)
      (λ other. by_test (is_rule e)
      (λ rule. rule_counts s e said i rule has)
      (λ no_rule. cold_counts other no_rule (ap (λ b. not b && list_any (same i) (warms e)) (sym other) ∙ parts.1)))
