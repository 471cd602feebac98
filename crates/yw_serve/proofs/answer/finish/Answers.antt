use Rattle.std.proofs.Common.{◌≡◌, ◌<◌, ℕ, List, [], length, refl, sym, ◌∷◌, arith, vec_len}
use Rattle.std.proofs.lemmas.Bool.{eqb-true, eqb-false}
use Rattle.std.proofs.lemmas.Result.{IfOk-weaker, IfErr-weaker}
use Rattle.yw_serve.proofs.Going.{ends_without_line, ends_with_line, stops_in_last}
use Rattle.yw_serve.proofs.answer.finish.Goals as goal

none : (xs : List ℕ) → length xs ≡ 0 → xs ≡ []
none [] e = refl
none (x ∷ xs) e = absurd (omega arith)

pub returns-then-is_empty-clause-ok : goal.returns-then-is_empty-clause-ok
returns-then-is_empty-clause-ok g c = λ tells content taken current at.
    let D = g.D.Desk in
    let desk = c.args.desk.now in
    let line = c.args.session.now.line in
    let empty : line.items ≡ [] = none _ (omega (arith, line.ok.0, eqb-true (vec_len line) 0 (sym c.if-is_empty.ensures))) in
    ends_without_line D content c.args.session.now taken at desk
    (record { settled = c.requires.settled tells; said = g.met.D.Desk.said_by_now desk; only = g.met.D.Desk.only_now desk; current = current }) empty

pub returns-clause-ok : goal.returns-clause-ok
returns-clause-ok g c =
    let D = g.D.Desk in
    let desk = c.args.desk.now in
    let line = c.args.session.now.line in
    let some : 0 < length line.items = omega (arith, line.ok.0, eqb-false (vec_len line) 0 (sym c.if-is_empty.ensures)) in
    IfOk-weaker c.line.result _ _ (λ x e tells content taken current at.
    ends_with_line D content c.args.session.now taken at desk
    (record { settled = c.requires.settled tells; said = g.met.D.Desk.said_by_now desk; only = g.met.D.Desk.only_now desk; current = current })
    c.deref.result.now c.deref.ensures.value some c.line.new.desk _ (e tells content current)) c.line.ensures.ok

pub returns-clause-err : goal.returns-clause-err
returns-clause-err g c =
    let D = g.D.Desk in
    let desk = c.args.desk.now in
    let line = c.args.session.now.line in
    let some : 0 < length line.items = omega (arith, line.ok.0, eqb-false (vec_len line) 0 (sym c.if-is_empty.ensures)) in
    IfErr-weaker c.line.result _ _ (λ stop e tells content taken current at.
    stops_in_last D content c.args.session.now taken at desk
    (record { settled = c.requires.settled tells; said = g.met.D.Desk.said_by_now desk; only = g.met.D.Desk.only_now desk; current = current })
    c.deref.result.now c.deref.ensures.value some c.line.new.desk stop (e tells content current)) c.line.ensures.err
