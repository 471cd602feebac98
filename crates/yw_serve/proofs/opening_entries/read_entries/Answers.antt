use Rattle.std.proofs.Common.{◌≡◌, ◌+◌, ℕ, List, [], ◌∷◌, ◌++◌, IsTrue, None, Result, Ok, Err, drop, sym, ap, ◌∙◌, subst, rules, length-append}
use Rattle.yw_outside.specs.declared.desk.File.{File}
use Rattle.yw_outside.specs.declared.image.Image.{Image}
use Rattle.yw_engine.specs.Held as engine
use Rattle.yw_state.specs.State.{State}
use Rattle.yw_serve.specs.Opening.{HasFaultCause, HasOpenCause, IsClosedHere, IsDamagedAt, IsReached}
use Rattle.yw_serve.specs.declared.opening.StartFault.{StartFault}
use Rattle.yw_serve.specs.declared.opening_entries.Tail.{Tail}
use Rattle.yw_serve.specs.Window.{Shows}
use Rattle.yw_serve.proofs.OpenLooked.{fault_further, looked_on, none_case, some_case, still_at_hand}
use Rattle.yw_serve.proofs.opening_entries.read_entries.Goals as goal

pub returns-in_err-next-clause-cause : goal.returns-in_err-next-clause-cause
returns-in_err-next-clause-cause g c =
    let D = g.D.Desk in
    let old = c.args.desk.now in
    let mid = c.loop-next.desk in
    let new = c.next_entry.new.desk in
    let inv = c.loop-next.invariant in
    let s : State = engine.state_of c.args.engine.now in
    let t : State = engine.state_of c.loop-next.engine in
    let whole = λ (f : File) (place : ℕ). IsTrue (D.tells old) → IsReached (D.state old).a 29 [] s → IsDamagedAt (D.state old).a f place in
    let found = λ (records : List (List ℕ)) (f : File) (place : ℕ). IsTrue (D.tells mid) → IsReached (D.state mid).a c.loop-next.gate records t → IsDamagedAt (D.state mid).a f place in
    let fault : StartFault = c.in_err-next.field-0.0 in
    let is : c.from_residual.result ≡ Err fault = search rules in
    let cause : HasFaultCause whole (D.disk_faults old) (D.disk_faults new) fault =
    fault_further found whole (D.disk_faults old) (D.disk_faults mid) (D.disk_faults new) fault c.in_err-next.ensures.cause []
    (λ f place all tells start.
    let reached = inv.reached tells start in
    subst (λ (i : Image). IsDamagedAt i.a f place) inv.looked.same
    (all reached.0 (inv.looked.telling ∙ tells) (subst (λ (i : Image). IsReached i.a c.loop-next.gate reached.0 t) (sym inv.looked.same) reached.1)))
    inv.none_failed in
    subst (λ (r : Result Tail StartFault). HasOpenCause D r whole old new) (sym is) cause

pub next_entry-requires-clause-at_hand : goal.next_entry-requires-clause-at_hand
next_entry-requires-clause-at_hand g c =
    let inv = c.loop-next.invariant in
    still_at_hand g.D.Desk c.args.desk.now c.loop-next.desk c.args.len c.loop-next.window c.loop-next.piece inv.looked.same inv.looked.telling inv.at_hand

pub loop-next-preserved : goal.loop-next-preserved
loop-next-preserved g c =
    let D = g.D.Desk in
    let old = c.args.desk.now in
    let mid = c.loop-next.desk in
    let new = c.next_entry.new.desk in
    let inv = c.loop-next.invariant in
    let s : State = engine.state_of c.args.engine.now in
    let t : State = engine.state_of c.loop-next.engine in
    let u : State = engine.state_of c.next_entry.new.engine in
    record {
      looked = looked_on D old mid new inv.looked c.in_ok-next.ensures.looked;
      none_failed = c.in_ok-next.ensures.cause [] ∙ inv.none_failed;
      low = search rules;
      within = search rules;
      few = search rules;
      at_hand = record {
        size = inv.at_hand.size;
        fits = c.in_ok-next.ensures.at_hand.fits;
        shows = λ tells.
            subst (λ (i : Image). Shows i.a c.next_entry.new.piece c.next_entry.new.window) inv.looked.same (c.in_ok-next.ensures.at_hand.shows (inv.looked.telling ∙ tells));
      };
      reached = λ tells start.
          let reached = inv.reached tells start in
          let next = c.in_ok-next.ensures.reached (inv.looked.telling ∙ tells) reached.0 (subst (λ (i : Image). IsReached i.a c.loop-next.gate reached.0 t) (sym inv.looked.same) reached.1) in
          let here = some_case c.in_ok-next.field-0 c.in-Some.next (IsClosedHere (drop c.loop-next.gate (D.state mid).a))
          (λ (after : ℕ). (bytes : List ℕ) × IsReached (D.state mid).a after (reached.0 ++ bytes ∷ []) u) c.in-Some.is next in (
            reached.0 ++ here.0 ∷ [],
            subst (λ (i : Image). IsReached i.a c.in-Some.next (reached.0 ++ here.0 ∷ []) u) inv.looked.same here.1,
            length-append reached.0 (here.0 ∷ []) ∙ ap (λ (n : ℕ). n + 1) reached.2,
          );
    }

pub returns-clause-reached : goal.returns-clause-reached
returns-clause-reached g c = λ tells start.
    let D = g.D.Desk in
    let mid = c.loop-next.desk in
    let inv = c.loop-next.invariant in
    let t : State = engine.state_of c.loop-next.engine in
    let u : State = engine.state_of c.next_entry.new.engine in
    let reached = inv.reached tells start in
    let none : c.in_ok-next.field-0 ≡ None = search rules in
    let next = c.in_ok-next.ensures.reached (inv.looked.telling ∙ tells) reached.0 (subst (λ (i : Image). IsReached i.a c.loop-next.gate reached.0 t) (sym inv.looked.same) reached.1) in
    let here = none_case c.in_ok-next.field-0 (IsClosedHere (drop c.loop-next.gate (D.state mid).a))
    (λ (after : ℕ). (bytes : List ℕ) × IsReached (D.state mid).a after (reached.0 ++ bytes ∷ []) u) none next in
    let same : c.next_entry.new.engine ≡ c.loop-next.engine = c.in_ok-next.ensures.same (ap Ok none) in
    let as_before : t ≡ u = ap engine.state_of (sym same) in (
      subst (λ (i : Image). IsClosedHere (drop c.loop-next.gate i.a)) inv.looked.same here,
      (reached.0, subst (λ (p : State). IsReached (D.state c.args.desk.now).a c.loop-next.gate reached.0 p) as_before reached.1, reached.2),
    )

pub returns-clause-cause : goal.returns-clause-cause
returns-clause-cause g c = c.in_ok-next.ensures.cause [] ∙ c.loop-next.invariant.none_failed
