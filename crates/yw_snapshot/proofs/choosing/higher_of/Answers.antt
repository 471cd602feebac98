use Rattle.std.proofs.Common.{◌==◌, refl}
use Rattle.std.proofs.lemmas.Bool.{false_from_ne_true, eqb-true}
use Rattle.yw_snapshot.proofs.Fronts.{both_same, first_higher, same_eq, second_higher, same_err}
use Rattle.yw_snapshot.proofs.choosing.higher_of.Goals as goal

pub returns-then-first-second-clause-err : goal.returns-then-first-second-clause-err
returns-then-first-second-clause-err c = λ i ra rb place e.
    same_err i 5 place _ _ refl refl e (both_same i c.args.a.now c.args.b.now c.in-Some-Some.a c.in-Some-Some.b c.in-Some-Some.is-0 c.in-Some-Some.is-1 ra rb
    c.u64_in-first.result c.u64_in-second.result c.u64_in-first.ensures c.u64_in-second.ensures (same_eq c.u64_in-first.result c.u64_in-second.result c.if-first-second.true))

pub returns-then-second-first-clause-none : goal.returns-then-second-first-clause-none
returns-then-second-first-clause-none c = λ i ra rb.
    first_higher i c.args.a.now c.args.b.now c.in-Some-Some.a c.in-Some-Some.b c.in-Some-Some.is-0 c.in-Some-Some.is-1 ra rb
    c.u64_in-first.result c.u64_in-second.result c.u64_in-first.ensures c.u64_in-second.ensures
    (false_from_ne_true (c.u64_in-first.result == c.u64_in-second.result) (λ e. c.if-first-second.false (eqb-true c.u64_in-first.result c.u64_in-second.result e))) c.if-second-first.true

pub returns-else-second-first-clause-none : goal.returns-else-second-first-clause-none
returns-else-second-first-clause-none c = λ i ra rb.
    second_higher i c.args.a.now c.args.b.now c.in-Some-Some.a c.in-Some-Some.b c.in-Some-Some.is-0 c.in-Some-Some.is-1 ra rb
    c.u64_in-first.result c.u64_in-second.result c.u64_in-first.ensures c.u64_in-second.ensures
    (false_from_ne_true (c.u64_in-first.result == c.u64_in-second.result) (λ e. c.if-first-second.false (eqb-true c.u64_in-first.result c.u64_in-second.result e))) c.if-second-first.false
