use Rattle.std.proofs.Common.{ℕ, ◌+◌, List, length, drop, inl, refl, sym, subst, arith}
use Rattle.yw_outside.specs.Image.{file_in}
use Rattle.yw_journal.specs.FileLaws.{held, beside_lesser, made_has, made_or_before}
use Rattle.yw_journal.specs.Files.{IsLesser}
use Rattle.yw_journal.specs.Calls.{IsMadeOver}
use Rattle.yw_journal.specs.Journal.{IsBeforeOrMade, IsBeforeShutOrMade, made}
use Rattle.yw_journal.proofs.Images.{settled_is}
use Rattle.yw_journal.proofs.Passing.{started, weakened}
use Rattle.yw_journal.proofs.journal.Journal.make.Goals as goal

pub returns-then-end-limit-clause-any_moment : goal.returns-then-end-limit-clause-any_moment
returns-then-end-limit-clause-any_moment g c = λ tells content snapshot beside is.
    let D = g.D.Desk in
    let old = c.args.desk.now in
    let P = IsBeforeOrMade c.args.file content (made c.args.generation c.args.number snapshot) (D.state old) in
    let only = settled_is (D.state old) (D.may_leave old) (c.requires.settled tells) (g.met.D.Desk.said_by_now old) in
    started D old P
    (λ i left. subst P (sym (only i (g.met.D.Desk.only_now old i left))) (record { holds = inl (held c.args.file content (D.state old) beside); other = refl; said = refl }))

pub returns-in_default-clause-any_moment : goal.returns-in_default-clause-any_moment
returns-in_default-clause-any_moment g c = λ tells content snapshot beside is.
    let D = g.D.Desk in
    let f = c.args.file in
    let framed = c.args.framed_state.now in
    let old = c.args.desk.now in
    weakened D old c.make_of.new.desk (IsBeforeShutOrMade f c.header.result framed (D.state old))
    (IsBeforeOrMade f content (made c.args.generation c.args.number snapshot) (D.state old)) (c.make_of.ensures.any_moment tells)
    (λ i b. made_or_before f content (D.state old) beside c.args.generation c.args.number snapshot framed c.requires.some c.requires.small c.requires.few is (c.requires.above tells) i
    (subst (λ (h : List ℕ). IsBeforeShutOrMade f h framed (D.state old) i) c.header.ensures b))

pub returns-clause-any_moment : goal.returns-clause-any_moment
returns-clause-any_moment g c = λ tells content snapshot beside is.
    let D = g.D.Desk in
    let f = c.args.file in
    let framed = c.args.framed_state.now in
    let old = c.args.desk.now in
    weakened D old c.make_of.new.desk (IsBeforeShutOrMade f c.header.result framed (D.state old))
    (IsBeforeOrMade f content (made c.args.generation c.args.number snapshot) (D.state old)) (c.make_of.ensures.any_moment tells)
    (λ i b. made_or_before f content (D.state old) beside c.args.generation c.args.number snapshot framed c.requires.some c.requires.small c.requires.few is (c.requires.above tells) i
    (subst (λ (h : List ℕ). IsBeforeShutOrMade f h framed (D.state old) i) c.header.ensures b))

pub returns-clause-made : goal.returns-clause-made
returns-clause-made g c = λ tells snapshot is.
    let D = g.D.Desk in
    let f = c.args.file in
    let framed = c.args.framed_state.now in
    let old = file_in f (D.state c.args.desk.now) in
    let new = file_in f (D.state c.make_of.new.desk) in
    made_has c.args.generation c.args.number snapshot framed new c.requires.some c.requires.small c.requires.few is
    (drop (21 + length framed) old, subst (λ (h : List ℕ). IsMadeOver h framed old new) c.header.ensures (c.in-Ok.ensures.rewrites tells).bytes)

pub returns-clause-current : goal.returns-clause-current
returns-clause-current g c = λ tells content snapshot beside is.
    let D = g.D.Desk in
    let f = c.args.file in
    record {
      holds = record {
        file = returns-clause-made g c tells snapshot is;
        other = subst (λ (l : List ℕ). IsLesser c.args.generation l) (sym (c.in-Ok.ensures.rewrites tells).other) (beside_lesser f content (D.state c.args.desk.now) beside c.args.generation (c.requires.above tells));
      };
      generation = refl;
      number = omega arith;
    }
