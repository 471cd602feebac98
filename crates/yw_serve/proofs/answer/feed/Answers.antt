use Rattle.std.proofs.Common.{◌≡◌, ◌+◌, ℕ, List, [], ◌∷◌, ◌++◌, length, refl, sym, ap, ◌∙◌, subst, append_assoc, arith, length-append}
use Rattle.std.proofs.lemmas.List.{append-nil}
use Rattle.std.proofs.lemmas.Result.{IfOk-weaker, IfErr-weaker}
use Rattle.yw_lines.specs.Lines.{newline, whole_lines}
use Rattle.yw_lines.proofs.LinesLemmas.{whole_lines-part}
use Rattle.yw_serve.specs.declared.server.Server.{Server}
use Rattle.yw_serve.specs.declared.server.Stop.{Stop}
use Rattle.yw_serve.specs.declared.server.Stop.TheVariants.{Memory}
use Rattle.yw_journal.specs.Journal.{IsCurrent}
use Rattle.yw_serve.specs.Session.{GoesOn, StopsWithin, with_steps}
use Rattle.yw_serve.proofs.FaultLemmas.{faults_as, faults_of_memory, if_err_as, none_then, stop_then}
use Rattle.yw_serve.proofs.Going.{IsReadyAt, goes_nowhere, goes_by_part, goes_further, stops_further, stops_short, stops_before}
use Rattle.yw_serve.proofs.answer.feed.Goals as goal

-- a piece as what is taken of it, a line and what is after it
regrouped : (taken prefix rest piece part after : List ℕ) → piece ≡ prefix ++ rest → rest ≡ part ++ newline ∷ after → taken ++ piece ≡ ((taken ++ prefix) ++ (part ++ newline ∷ [])) ++ after
regrouped taken prefix rest piece part after e f =
    ap (λ (p : List ℕ). taken ++ p) (e ∙ ap (λ (r : List ℕ). prefix ++ r) f) ∙ sym (simp append_assoc)

pub loop-part-init : goal.loop-part-init
loop-part-init g c =
    let D = g.D.Desk in
    let desk = c.args.desk.now in
    record {
      stands = c.requires.stands;
      keeps = record { file = refl; limit = refl; counts = record { telling = refl; disk = omega arith; say = omega arith } };
      none = record { disk = refl; say = refl };
      count = omega arith;
      went = (
        [],
        refl,
        λ tells content taken current at. goes_nowhere D content c.args.session.now taken desk
            (record { settled = c.requires.stands.settled tells; said = g.met.D.Desk.said_by_now desk; only = g.met.D.Desk.only_now desk; current = current }) at,
      );
    }

pub returns-in_err-take_line-clause-err : goal.returns-in_err-take_line-clause-err
returns-in_err-take_line-clause-err g c = if_err_as c.from_residual.result c.in_err-take_line.field-0.0 _ c.from_residual.ensures.1 (λ tells content taken current at.
    let D = g.D.Desk in
    let inv = c.loop-part.invariant in
    let went = inv.went in
    let stop = c.in_err-take_line.field-0.0 in
    let first = went.2 tells content taken current at in
    let cut = c.in_err-take_line.ensures.err (inv.keeps.counts.telling ∙ tells) (with_steps content first.answers.steps) (taken ++ went.0) first.answers.are_done.file first.at in
    let e = regrouped taken went.0 c.loop-part.rest.now c.args.piece.now c.in-Some.part.now c.in-Some.after.now went.1 c.in-Some.ensures.1 in
    stops_short D content stop c.args.session.now (whole_lines taken) _ c.in-Some.after.now (taken ++ c.args.piece.now) c.args.desk.now c.take_line.new.desk e
    (stops_further D content c.args.session.now c.loop-part.session taken went.0 c.args.desk.now c.loop-part.desk c.take_line.new.desk inv.keeps.file inv.keeps.limit first stop _ cut))

pub returns-in_err-take_line-clause-faults : goal.returns-in_err-take_line-clause-faults
returns-in_err-take_line-clause-faults g c =
    let D = g.D.Desk in
    let old = c.args.desk.now in
    let new = c.take_line.new.desk in
    let stop = c.in_err-take_line.field-0.0 in
    faults_as D old new c.from_residual.result stop c.from_residual.ensures.1 (stop_then D old c.loop-part.desk new c.loop-part.invariant.none stop c.in_err-take_line.ensures.faults)

pub loop-part-preserved : goal.loop-part-preserved
loop-part-preserved g c =
    let D = g.D.Desk in
    let inv = c.loop-part.invariant in
    let went = inv.went in
    let line : List ℕ = c.in-Some.part.now ++ newline ∷ [] in
    let made = c.in_ok-take_line.ensures in
    let shorter : length c.loop-part.rest.now ≡ length c.in-Some.part.now + (length c.in-Some.after.now + 1) =
    ap length c.in-Some.ensures.1 ∙ length-append c.in-Some.part.now (newline ∷ c.in-Some.after.now) ∙ omega arith in
    record {
      stands = made.stands;
      keeps = record {
        file = made.keeps.file ∙ inv.keeps.file;
        limit = made.keeps.limit ∙ inv.keeps.limit;
        counts = record {
          telling = made.keeps.counts.telling ∙ inv.keeps.counts.telling;
          disk = omega (arith, inv.keeps.counts.disk, made.keeps.counts.disk);
          say = omega (arith, inv.keeps.counts.say, made.keeps.counts.say);
        };
      };
      none = none_then D c.args.desk.now c.loop-part.desk c.take_line.new.desk inv.none made.faults;
      count = omega (arith, inv.count, made.number, shorter);
      went = (
        went.0 ++ line,
        went.1 ∙ ap (λ (r : List ℕ). went.0 ++ r) c.in-Some.ensures.1 ∙ sym (simp append_assoc),
        λ tells content taken current at.
            let first = went.2 tells content taken current at in
            goes_further D content c.args.session.now c.loop-part.session taken went.0 c.args.desk.now c.loop-part.desk c.take_line.new.desk inv.keeps.file inv.keeps.limit first
            c.take_line.new.session line made.keeps.file made.keeps.limit (made.ok (inv.keeps.counts.telling ∙ tells) (with_steps content first.answers.steps) (taken ++ went.0) first.answers.are_done.file first.at),
      );
    }

pub returns-clause-ok : goal.returns-clause-ok
returns-clause-ok g c =
    let D = g.D.Desk in
    let inv = c.loop-part.invariant in
    let went = inv.went in
    let desk = c.loop-part.desk in
    IfOk-weaker c.take_part.result _ _ (λ x made tells content taken current at.
    let first = went.2 tells content taken current at in
    let there = inv.keeps.counts.telling ∙ tells in
    let same = c.take_part.ensures.server in
    let current_there = subst (λ (x : Server). IsCurrent x.journal (with_steps content first.answers.steps) (D.state desk)) (sym same) first.answers.are_done.file in
    let ready : IsReadyAt D (with_steps content first.answers.steps) c.take_part.new.session.server.journal desk =
    record { settled = inv.stands.settled there; said = g.met.D.Desk.said_by_now desk; only = g.met.D.Desk.only_now desk; current = current_there } in
    let next = goes_by_part D (with_steps content first.answers.steps) c.loop-part.session (taken ++ went.0) c.loop-part.rest.now first.at c.in_default.ensures
    c.take_part.new.session desk made same c.take_part.ensures.number ready in
    subst (λ (p : List ℕ). GoesOn D content c.args.session.now c.take_part.new.session taken p c.args.desk.now desk) (sym went.1)
    (goes_further D content c.args.session.now c.loop-part.session taken went.0 c.args.desk.now desk desk inv.keeps.file inv.keeps.limit first c.take_part.new.session c.loop-part.rest.now (ap (λ (x : Server). x.journal.file) same) (ap (λ (x : Server). x.journal.limit) same) next))
    c.take_part.ensures.ok

pub returns-clause-err : goal.returns-clause-err
returns-clause-err g c =
    let D = g.D.Desk in
    let inv = c.loop-part.invariant in
    let went = inv.went in
    let desk = c.loop-part.desk in
    IfErr-weaker c.take_part.result _ _ (λ stop is tells content taken current at.
    let first = went.2 tells content taken current at in
    let same : whole_lines (taken ++ c.args.piece.now) ≡ whole_lines (taken ++ went.0) =
    ap (λ (p : List ℕ). whole_lines (taken ++ p)) went.1 ∙ ap whole_lines (sym (append_assoc taken went.0 c.loop-part.rest.now)) ∙ whole_lines-part (taken ++ went.0) c.loop-part.rest.now c.in_default.ensures in
    subst (λ (s : Stop). StopsWithin D content s c.args.session.now (whole_lines taken) (whole_lines (taken ++ c.args.piece.now)) c.args.desk.now desk) (sym is)
    (stops_further D content c.args.session.now c.loop-part.session taken went.0 c.args.desk.now desk desk inv.keeps.file inv.keeps.limit first Memory (whole_lines (taken ++ c.args.piece.now))
    (stops_before D (with_steps content first.answers.steps) c.loop-part.session (whole_lines (taken ++ went.0)) _ [] desk
    (record { settled = inv.stands.settled (inv.keeps.counts.telling ∙ tells); said = g.met.D.Desk.said_by_now desk; only = g.met.D.Desk.only_now desk; current = first.answers.are_done.file })
    (same ∙ sym (append-nil (whole_lines (taken ++ went.0)))))))
    c.take_part.ensures.memory

pub returns-clause-faults : goal.returns-clause-faults
returns-clause-faults g c = faults_of_memory g.D.Desk c.args.desk.now c.loop-part.desk c.take_part.result c.take_part.ensures.memory c.loop-part.invariant.none
