-- What is known of a plain state is calm, and a case that is calm and in which all rests is quiet.
use Rattle.std.proofs.Common.{Option, ap, false, sym, true, ℕ, ◌∙◌, ◌≡◌}
use Rattle.std.proofs.lemmas.Bool.{and_from, eq-eqb}
use Rattle.std.specs.Prelude.{not, option_and_then, option_map, unwrap_or, ◌&&◌, ◌==◌, ◌||◌}
use Rattle.yw_base.specs.Identity.{case_number}
use Rattle.yw_idle.proofs.Resting.{still}
use Rattle.yw_idle.specs.Idle.{NoneUrgent, RestsAll, is_urgent_at}
use Rattle.yw_library.specs.Held.{IsHeld}
use Rattle.yw_library.specs.Holdings.{Holdings}
use Rattle.yw_plain.proofs.Words.{words}
use Rattle.yw_plain.specs.Plain.{IsPlain}
use Rattle.yw_state.proofs.Clear.{some_stands}
use Rattle.yw_state.proofs.Tests.{by_test, never}
use Rattle.yw_state.specs.Automatic.{IsQuiet}
use Rattle.yw_state.specs.Joins.{at_output}
use Rattle.yw_state.specs.Options.{is_some_and}
use Rattle.yw_state.specs.State.{RunPart, Site, State, no_checks}
use Rattle.yw_state.specs.Words.{any_due, busy, is_at_work, urgent}
use Rattle.yw_still.proofs.Quiet.{quiet}
use Rattle.yw_tree.specs.declared.Forest.{Forest}
use Rattle.yw_walk.specs.Finds.{StandsCalm}

pub plain_is_calm : (known : Holdings) (f : Forest) (next n : ℕ) (s : State) → IsHeld known f s → IsPlain s → s.next ≡ next
    → StandsCalm known f next n s
plain_is_calm known f next n s held plain drawn =
    let w = words s plain in
    record {
      held = held;
      calm = w.urgent n;
      compensation = λ j here. ap (λ o. is_some_and o (λ (x : RunPart). x.waiting) && at_output s j) (w.run j);
      manual = w.manual;
      drawn = drawn;
    }

-- where a case isn't urgent, nothing in it is
pub none_urgent : (s : State) (n : ℕ) → urgent s n ≡ false → NoneUrgent s n
none_urgent s n calm j x at here =
    by_test (is_urgent_at s j)
    (λ is.
    let due : (any_due x.due && not (busy s j) || is_at_work x.run) ≡ true =
    ap (λ (o : Option Site). any_due (unwrap_or (option_map (λ (y : Site). y.due) o) no_checks) && not (busy s j) || is_at_work
    (option_and_then (λ (y : Site). y.run) o)) (sym at) ∙ is in
    never (sym calm ∙ some_stands s (λ k y. case_number k == n && (any_due y.due && not (busy s k) || is_at_work y.run)) j x at
    (and_from _ _ (eq-eqb (case_number j) n here) due)))
    (λ no. no)

pub rests_quiet : (s : State) (n : ℕ) → urgent s n ≡ false → RestsAll s n → IsQuiet s n
rests_quiet s n calm rests = quiet s n (still s n (none_urgent s n calm) rests)
