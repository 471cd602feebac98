-- Behind an event a run stands exactly where one stood, but where its target is changed; so what isn't changed is as busy as it was.
use Rattle.std.specs.Prelude.{◌≡◌, ℕ, ◌&&◌, ◌||◌, [], Bool, true, false, Option, Some, None, is_some, option_and_then, option_map, refl}
use Rattle.std.specs.List.{list_any, range_with_len}
use Rattle.std.proofs.Common.{◌∙◌, ap, sym, inr}
use Rattle.std.proofs.lemmas.Bool.{and_from, and_parts, false_from_ne_true, or_parts}
use Rattle.yw_base.specs.Identity.{child, parent}
use Rattle.yw_idle.proofs.Among.{child_made}
use Rattle.yw_idle.proofs.Parts.{Ignores, is_run_of, part_kept}
use Rattle.yw_idle.specs.Warms.{changes, makes}
use Rattle.yw_moved.proofs.Parents.{is_same, parent_child, same_itself}
use Rattle.yw_state.proofs.Clear.{some_stands}
use Rattle.yw_state.proofs.Entries.{find-entry, passing}
use Rattle.yw_state.proofs.MapLemmas.{by_name}
use Rattle.yw_state.proofs.Tests.{by_test, never, then_some, there}
use Rattle.yw_state.specs.Allowed.{Allowed}
use Rattle.yw_state.specs.Events.{after}
use Rattle.yw_state.specs.Gone.{removes}
use Rattle.yw_state.specs.Identity.{Ident, case_ident, is_child, same}
use Rattle.yw_state.specs.Map.{entries, get}
use Rattle.yw_state.specs.State.{State, Site, RunPart, run_part}
use Rattle.yw_state.specs.Texts.{Said}
use Rattle.yw_state.specs.Well.{Stands}
use Rattle.yw_state.specs.Words.{busy}
use Rattle.yw_state.specs.declared.event.Event.{Event}
use Rattle.yw_state.specs.declared.event.Event.TheVariants as events

-- ---- whether a run stands there

abbrev runs_at : Site → Option Bool
runs_at x = option_map (λ (r : RunPart). true) x.run

mapped : (f : RunPart → RunPart) (o : Option RunPart) → option_map (λ (r : RunPart). true) (option_map f o) ≡ option_map (λ (r : RunPart). true) o
mapped f None = refl
mapped f (Some r) = refl

runs_ignored : Ignores runs_at
runs_ignored = record { net = λ x n. refl; item = λ x y. refl; due = λ x c. refl; run = λ x f. mapped f x.run }

run_of : (o : Option Site) → is_some (option_and_then (λ (x : Site). x.run) o) ≡ is_some (option_and_then runs_at o)
run_of None = refl
run_of (Some x) = by_run x.run
  where
    by_run : (o : Option RunPart) → is_some o ≡ is_some (option_map (λ (r : RunPart). true) o)
    by_run None = refl
    by_run (Some r) = refl

pub run_there : (s : State) (e : Event) (said : Said) (k : Ident) → Allowed s e said → removes s e k ≡ false → list_any (same k) (makes e) ≡ false
    → is_run_of e k ≡ false → is_some (run_part (after s e said) k) ≡ is_some (run_part s k)
run_there s e said k ok stays new other =
    run_of (get (after s e said).sites k)
    ∙ ap is_some (part_kept runs_at runs_ignored k s e said ok (inr (λ x b. refl)) stays new other)
    ∙ sym (run_of (get s.sites k))

-- ---- where the target isn't changed

module _ (k : Ident) (some : parent k ≡ [] → ⊥) where
  not_child : (i : Ident) (n : ℕ) → same (parent k) i ≡ false → same k (child i n) ≡ false
  not_child i n other =
      false_from_ne_true _ (λ here.
      never (sym other ∙ ap (λ q. same q i) (ap parent (is_same k (child i n) here) ∙ parent_child i n) ∙ same_itself i))

  not_made : (e : Event) → list_any (same (parent k)) (changes e) ≡ false → list_any (same k) (makes e) ≡ false
  not_made (events.Launch n name vals) none =
      ap (λ b. b || false) (false_from_ne_true _ (λ here. some (ap parent (is_same k (case_ident n) here))))
  not_made (events.Enter i t places first count) none =
      false_from_ne_true _ (λ made.
      never (sym (or_parts (same (parent k) i) _ none).0
      ∙ ap (λ q. same q i) (child_made i k (range_with_len first count) made) ∙ same_itself i))
  not_made (events.Add i t value n) none = ap (λ b. b || false) (not_child i n (or_parts (same (parent k) i) _ none).0)
  not_made (events.Except j check node n) none = ap (λ b. b || false) (not_child j n (or_parts (same (parent k) j) _ none).0)
  not_made (events.Raise j kind node n) none = ap (λ b. b || false) (not_child j n (or_parts (same (parent k) j) _ none).0)
  not_made e none = refl

  not_run : (e : Event) → list_any (same (parent k)) (changes e) ≡ false → is_run_of e k ≡ false
  not_run (events.Prim r p) none =
      let above = or_parts (same (parent k) (parent r)) _ (or_parts (same (parent k) r) _ none).1 in
      false_from_ne_true _ (λ here. never (sym above.0 ∙ ap (λ q. same (parent q) (parent r)) (is_same k r here) ∙ same_itself (parent r)))
  not_run (events.Compensated r) none =
      let above = or_parts (same (parent k) (parent r)) _ (or_parts (same (parent k) r) _ none).1 in
      false_from_ne_true _ (λ here. never (sym above.0 ∙ ap (λ q. same (parent q) (parent r)) (is_same k r here) ∙ same_itself (parent r)))
  not_run e none = refl

  pub run_kept : (s : State) (e : Event) (said : Said) → Allowed s e said → removes s e k ≡ false → list_any (same (parent k)) (changes e) ≡ false
      → is_some (run_part (after s e said) k) ≡ is_some (run_part s k)
  run_kept s e said ok stays none = run_there s e said k ok stays (not_made e none) (not_run e none)

-- ---- as busy as before

busy_too : (s t : State) (j : Ident) → ((k : Ident) → is_child k j ≡ true → is_some (run_part s k) ≡ true → is_some (run_part t k) ≡ true)
    → busy s j ≡ true → busy t j ≡ true
busy_too s t j same_runs some =
    let (f, within, is) = passing (λ (f : Ident × Site). is_some f.1.run && is_child f.0 j) (entries s.sites) some in
    let parts = and_parts (is_some f.1.run) (is_child f.0 j) is in
    let stands : Stands s f.0 f.1 = find-entry by_name (entries s.sites) f s.sites.sorted within in
    let has : is_some (run_part s f.0) ≡ true =
    ap (λ (o : Option Site). is_some (option_and_then (λ (x : Site). x.run) o)) stands ∙ parts.0 in
    let (r, at) = there (run_part t f.0) (same_runs f.0 parts.1 has) in
    let (y, there_is, run_is) = then_some (λ (x : Site). x.run) (get t.sites f.0) r at in
    some_stands t (λ q x. is_some x.run && is_child q j) f.0 y there_is (and_from _ _ (ap is_some run_is) parts.1)

pub busy_same : (s t : State) (j : Ident) → ((k : Ident) → is_child k j ≡ true → is_some (run_part t k) ≡ is_some (run_part s k)) → busy t j ≡ busy s j
busy_same s t j alike = by_test (busy s j)
    (λ some. busy_too s t j (λ k below has. alike k below ∙ has) some ∙ sym some)
    (λ none. false_from_ne_true _ (λ some. never (sym none ∙ busy_too t s j (λ k below has. sym (alike k below) ∙ has) some)) ∙ sym none)
