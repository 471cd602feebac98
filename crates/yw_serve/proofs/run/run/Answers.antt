use Rattle.std.proofs.Common.{ℕ, refl, ◌∙◌, subst, arith}
use Rattle.yw_serve.specs.Ends.{EndsAs}
use Rattle.yw_serve.specs.Session.{state_of}
use Rattle.yw_serve.specs.declared.run.Ending.TheVariants.{Past}
use Rattle.yw_serve.proofs.FaultLemmas.{ending_then, none_then}
use Rattle.yw_serve.proofs.Reading.{read_nothing, read_past}
use Rattle.yw_serve.proofs.run.run.Goals as goal

pub loop-taken-init : goal.loop-taken-init
loop-taken-init g c =
    let D = g.D.Desk in
    let desk = c.args.desk.now in
    record {
      small = omega arith;
      number = omega (arith, c.requires.number);
      stands = c.requires.stands;
      keeps = record { file = refl; limit = refl; counts = record { telling = refl; disk = omega arith; say = omega arith } };
      none = record { disk = refl; say = refl };
      read = refl;
      went = λ tells content bytes well current e. read_nothing D content _ desk c.args.session.now c.args.limit bytes _ e c.requires.line c.requires.number refl
          (record { settled = c.requires.stands.settled tells; said = g.met.D.Desk.said_by_now desk; only = g.met.D.Desk.only_now desk; current = current });
    }

pub returns-in-Some-clause-ends : goal.returns-in-Some-clause-ends
returns-in-Some-clause-ends g c = λ tells content bytes well current e.
    let D = g.D.Desk in
    let inv = c.loop-taken.invariant in
    subst (λ (n : ℕ). EndsAs D c.in-Some.ending content (state_of c.args.session.now) n c.args.limit bytes (g.S.Source.left c.turn.new.source) (g.S.Source.piece c.turn.new.source) c.args.desk.now c.turn.new.desk)
    inv.keeps.limit (c.in-Some.ensures.ends (inv.keeps.counts.telling ∙ tells) content (state_of c.args.session.now) bytes c.args.desk.now well (inv.went tells content bytes well current e))

pub loop-taken-preserved : goal.loop-taken-preserved
loop-taken-preserved g c =
    let D = g.D.Desk in
    let inv = c.loop-taken.invariant in
    let made = c.in_default.ensures in
    let on = made.progress refl in
    record {
      small = on.within;
      number = on.counted;
      stands = made.stands refl;
      keeps = record {
        file = made.keeps.file ∙ inv.keeps.file;
        limit = made.keeps.limit ∙ inv.keeps.limit;
        counts = record {
          telling = made.keeps.counts.telling ∙ inv.keeps.counts.telling;
          disk = omega (arith, inv.keeps.counts.disk, made.keeps.counts.disk);
          say = omega (arith, inv.keeps.counts.say, made.keeps.counts.say);
        };
      };
      none = none_then D c.args.desk.now c.loop-taken.desk c.turn.new.desk inv.none made.faults.1;
      read = made.faults.0 ∙ inv.read;
      went = λ tells content bytes well current e.
          made.ends (inv.keeps.counts.telling ∙ tells) content (state_of c.args.session.now) bytes c.args.desk.now well (inv.went tells content bytes well current e);
    }

pub returns-clause-ends : goal.returns-clause-ends
returns-clause-ends g c = λ tells content bytes well current e.
    let D = g.D.Desk in
    let inv = c.loop-taken.invariant in
    subst (λ (n : ℕ). EndsAs D Past content (state_of c.args.session.now) n c.args.limit bytes (g.S.Source.left c.loop-taken.source) (g.S.Source.piece c.loop-taken.source) c.args.desk.now c.loop-taken.desk)
    inv.keeps.limit
    (read_past D content (state_of c.args.session.now) c.args.desk.now c.loop-taken.session _ _ bytes _ c.loop-taken.desk (inv.went tells content bytes well current e) c.loop-taken-test.false inv.small)

pub returns-in-Some-clause-faults : goal.returns-in-Some-clause-faults
returns-in-Some-clause-faults g c =
    let D = g.D.Desk in
    let inv = c.loop-taken.invariant in
    ending_then D c.args.desk.now c.loop-taken.desk c.turn.new.desk inv.none c.in-Some.ending _ _ _ inv.read c.in-Some.ensures.faults
