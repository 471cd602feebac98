use Rattle.std.proofs.Common.{◌≡◌, ◌<◌, ◌+◌, ◌*◌, ◌-◌, List, ℕ, true, length, get_or, subst, sym, ◌∙◌, MatchOption, lit<, arith}
use Rattle.std.proofs.lemmas.List.{length_push}
use Rattle.yw_base.specs.Identity.{SpellsIdentity, dotted, is_identity}
use Rattle.yw_base.proofs.DottedLemmas.{is_next-from, no_next-from, stops_without_number, stops_at_most, stops_without_digit, past_a_dot, past_a_digit, small-from, ends_without_number, ends_with_number}
use Rattle.yw_base.proofs.ident.read_numbers.Goals as goal
use Rattle.yw_base.proofs.ident.read_numbers.Goals.{then-number-eq0-via-then-number-eq0, then-number-eq0-via-else-number-eq0+then-len-ge-MOST_NUMBERS, then-byte-eq46+else-number-eq0+else-len-ge-MOST_NUMBERS, else-byte-eq46+in_ok-number}

abbrev Fails : List ℕ → Type 0
Fails text = SpellsIdentity text → ⊥

pub returns-then-number-eq0 : goal.returns-then-number-eq0
returns-then-number-eq0 c =
    let text = c.as_bytes-byte-items.result.now in
    let walk = c.loop-byte in
    let none : Fails text =
    elim c.then-number-eq0.branch [
      | then-number-eq0-via-then-number-eq0 w ↦ stops_without_number text walk.numbers walk.number walk.byte-index walk.invariant.same c.loop-byte-test.true c.if-byte-eq46.true w.if-number-eq0.true
      | then-number-eq0-via-else-number-eq0+then-len-ge-MOST_NUMBERS w ↦ stops_at_most text walk.numbers walk.number walk.byte-index walk.invariant.same c.loop-byte-test.true c.if-byte-eq46.true (omega (arith, w.len.ensures))
    ] in
    subst Fails c.as_bytes-byte-items.ensures.value none

pub returns-in_err-number : goal.returns-in_err-number
returns-in_err-number c =
    let text = c.as_bytes-byte-items.result.now in
    let walk = c.loop-byte in
    let byte = get_or text walk.byte-index 0 in
    let none : Fails text = stops_without_digit text walk.numbers walk.number walk.byte-index walk.invariant.same c.loop-byte-test.true c.if-byte-eq46.false (no_next-from walk.number byte c.in_err-number.ensures) in
    subst (λ r. MatchOption r (Fails c.args.text.now) (λ numbers. (is_identity numbers ≡ true) × (c.args.text.now ≡ dotted numbers))) (sym c.from_residual.ensures) (subst Fails c.as_bytes-byte-items.ensures.value none)

pub loop-byte-preserved : goal.loop-byte-preserved
loop-byte-preserved c =
    let text = c.as_bytes-byte-items.result.now in
    let walk = c.loop-byte in
    elim c.if-byte-eq46.branch [
      | then-byte-eq46+else-number-eq0+else-len-ge-MOST_NUMBERS w ↦
          let few : length walk.numbers + 1 < 40 = omega (arith, w.len.ensures) in
          let some : 0 < walk.number = omega (arith, w.if-number-eq0.false) in
          let same = past_a_dot text walk.numbers walk.number walk.byte-index walk.invariant.same c.loop-byte-test.true w.if-byte-eq46.true some few in
          record {
            few = rw (w.numbers-is, w.push.ensures, length_push) few;
            small = rw w.number-is (lit< tt);
            same = rw (w.number-is, w.numbers-is, w.push.ensures) same;
          }
      | else-byte-eq46+in_ok-number w ↦
          let h = w.in_ok-number.ensures in
          let byte = get_or text walk.byte-index 0 in
          let is = is_next-from walk.number byte h.0 in
          let same = past_a_digit text walk.numbers walk.number walk.byte-index walk.invariant.same c.loop-byte-test.true w.if-byte-eq46.false is in
          record {
            few = rw w.numbers-is walk.invariant.few;
            small = rw (w.number-is, h.1) (small-from (walk.number * 10 + (byte - 48)) h.0.2);
            same = rw (w.number-is, w.numbers-is, h.1) same;
          }
    ]

pub returns-then-number-eq0-2 : goal.returns-then-number-eq0-2
returns-then-number-eq0-2 c =
    let text = c.as_bytes-byte-items.result.now in
    let walk = c.loop-byte in
    subst Fails c.as_bytes-byte-items.ensures.value (ends_without_number text walk.numbers walk.number walk.byte-index walk.invariant.same c.loop-byte-test.false c.if-number-eq0-2.true)

pub returns : goal.returns
returns c =
    let text = c.as_bytes-byte-items.result.now in
    let walk = c.loop-byte in
    let found = ends_with_number text walk.numbers walk.number walk.byte-index walk.invariant.same c.loop-byte-test.false (omega (arith, c.if-number-eq0-2.false)) in
    (rw c.push-2.ensures found.0, rw c.push-2.ensures (sym c.as_bytes-byte-items.ensures.value ∙ found.1))
