-- What is idle, or held, is still where nothing is urgent.
use Rattle.std.specs.Prelude.{◌≡◌, ◌⊎◌, ℕ, ◌==◌, ◌&&◌, ◌||◌, Bool, true, false, not, Option, option_and_then, option_map, unwrap_or, refl}
use Rattle.std.proofs.Common.{◌∙◌, ap, sym, inl, inr}
use Rattle.std.proofs.lemmas.Bool.{eqb-true}
use Rattle.yw_state.proofs.Entries.{find-entry, passing}
use Rattle.yw_state.proofs.MapLemmas.{by_name}
use Rattle.yw_state.proofs.Tests.{by_test, never}
use Rattle.yw_state.specs.Identity.{Ident, is_case_ident}
use Rattle.yw_base.specs.Identity.{case_number}
use Rattle.yw_state.specs.Joins.{at_output}
use Rattle.yw_state.specs.Map.{entries}
use Rattle.yw_state.specs.State.{State, Site, no_checks, some_site}
use Rattle.yw_state.specs.Well.{Stands}
use Rattle.yw_state.specs.Words.{any_due, busy, clear, is_at_work, urgent}
use Rattle.yw_still.specs.Still.{CaseIsStill, IsStill, check_waits, run_is_at_work}
use Rattle.yw_idle.specs.Idle.{IsIdle, IsParked, NoneUrgent, RestsAll, compensation_would_end, is_urgent_at, item_would_go_on}

-- ---- tests

no_or : (a b : Bool) → (a || b) ≡ false → (a ≡ false) × (b ≡ false)
no_or true b e = never (sym e)
no_or false b e = (refl, e)

second_fails : (a b : Bool) → b ≡ false → (a && b) ≡ false
second_fails true b e = e
second_fails false b e = refl

first_fails : (a b : Bool) → a ≡ false → (a && b) ≡ false
first_fails true b e = never (sym e)
first_fails false b e = refl

-- one test more, in front
one_more : (c a p q : Bool) → (a && p && q) ≡ false → (c && a && p && q) ≡ false
one_more true a p q e = e
one_more false a p q e = refl

between : (i c b o : Bool) → (i && b && o) ≡ false → (i && c && b && o) ≡ false
between true true b o e = e
between true false b o e = refl
between false c b o e = refl

held_back : (c a p q : Bool) → c ≡ false → (c && a && p && q) ≡ false
held_back true a p q e = never (sym e)
held_back false a p q e = refl

held_between : (i c b o : Bool) → c ≡ false → (i && c && b && o) ≡ false
held_between true true b o e = never (sym e)
held_between true false b o e = refl
held_between false c b o e = refl

enters : (m c a h r : Bool) → (m && (c && a && h && r)) ≡ true → (c ≡ true) × ((m && (a && h && r)) ≡ true)
enters true true a h r e = (refl, e)
enters true false a h r e = never e
enters false c a h r e = never e

-- ---- nothing that stands passes

none_pass : (s : State) (p : Ident → Site → Bool) → ((j : Ident) (x : Site) → Stands s j x → p j x ≡ false) → some_site s p ≡ false
none_pass s p fails =
    by_test (some_site s p)
    (λ some. let (e, within, is) = passing (λ e. p e.0 e.1) (entries s.sites) some in
    never (sym (fails e.0 e.1 (find-entry by_name (entries s.sites) e s.sites.sorted within)) ∙ is))
    (λ e. e)

module _ (s : State) (n : ℕ) (cold : NoneUrgent s n) where
  not_urgent : urgent s n ≡ false
  not_urgent = none_pass s _ (λ j x at. by_test (case_number j == n)
      (λ e. second_fails (case_number j == n) _ (read j x at ∙ cold j x at (eqb-true (case_number j) n e)))
      (λ e. first_fails (case_number j == n) _ e))
    where
      read : (j : Ident) (x : Site) → Stands s j x → (any_due x.due && not (busy s j) || is_at_work x.run) ≡ is_urgent_at s j
      read j x at =
          ap (λ (o : Option Site). any_due (unwrap_or (option_map (λ (y : Site). y.due) o) no_checks) && not (busy s j) || is_at_work
          (option_and_then (λ (y : Site). y.run) o)) (sym at)

  module _ (rests : RestsAll s n) where
    pub still : CaseIsStill s n
    still j x at here = by (rests j x at here)
      where
        calm : urgent s (case_number j) ≡ false
        calm = ap (urgent s) here ∙ not_urgent

        no : (check_waits s j ≡ false) × (run_is_at_work s j ≡ false)
        no = no_or (check_waits s j) (run_is_at_work s j) (cold j x at here)

        by : IsIdle s j ⊎ IsParked s j → IsStill s j
        by (inl idle) = record {
          check = no.0;
          run = no.1;
          compensation = first_fails (compensation_would_end s j) (not (urgent s (case_number j))) idle.compensation;
          item = second_fails (clear s j) (item_would_go_on s j) idle.item;
          case = between (is_case_ident j) (clear s j) (not (busy s j)) (at_output s j) idle.case;
          left = λ k t is. one_more (clear s j) _ _ _ (idle.left k t is);
          entered = λ k t is e. idle.entered k t is (enters _ (clear s j) _ _ _ e).1;
        }
        by (inr parked) =
            let stopped : clear s j ≡ false = ap (λ b. not b && not (urgent s (case_number j))) parked.held in
            record {
              check = no.0;
              run = no.1;
              compensation = first_fails (compensation_would_end s j) (not (urgent s (case_number j))) parked.compensation;
              item = first_fails (clear s j) (item_would_go_on s j) stopped;
              case = held_between (is_case_ident j) (clear s j) (not (busy s j)) (at_output s j) stopped;
              left = λ k t is. held_back (clear s j) _ _ _ stopped;
              entered = λ k t is e. never (sym stopped ∙ (enters _ (clear s j) _ _ _ e).0);
            }
