use Rattle.std.proofs.Common.{◌≡◌, [], IsTrue, inl, inr, refl, sym, ◌∙◌, subst, rules}
use Rattle.yw_outside.specs.declared.desk.File.{File}
use Rattle.yw_outside.specs.declared.desk.File.TheVariants.{A}
use Rattle.yw_journal.specs.Files as files
use Rattle.yw_journal.specs.Journal.{IsCurrent, IsBeforeOrMade}
use Rattle.yw_journal.proofs.Passing.{weakened}
use Rattle.yw_journal.specs.declared.journal.Journal.{Journal}
use Rattle.yw_state.specs.State.{State, opening}
use Rattle.yw_serve.specs.Damage.{HoldNow}
use Rattle.yw_serve.specs.Desks.{Stands}
use Rattle.yw_serve.specs.Opening.{LeftAfterSyncs, begun}
use Rattle.yw_serve.specs.Session.{server_state}
use Rattle.yw_serve.proofs.OpenHeld.{framed_nothing, none_live, held_nothing, held_begun, left_by_making}
use Rattle.yw_serve.proofs.opening.begin.Goals as goal

pub make-requires-clause-framed : goal.make-requires-clause-framed
make-requires-clause-framed g c = ([], framed_nothing)

pub returns-in-Ok-clause-opened : goal.returns-in-Ok-clause-opened
returns-in-Ok-clause-opened g c = λ tells.
    let i = g.D.Desk.state c.args.desk.now in
    let j = g.D.Desk.state c.make.new.desk in
    let chosen = c.requires.chosen tells in
    let here = c.in-Ok.ensures in
    let current : IsCurrent c.in-Ok.journal begun j = here.current tells files.opening [] (inl (none_live i chosen, refl)) framed_nothing in
    let made = c.new.ensures in
    let a : c.in-Ok.journal.file ≡ A = search rules in
    let holds : files.Holds A begun c.in-Ok.journal.end j = subst (λ (f : File). files.Holds f begun c.in-Ok.journal.end j) a current.holds in
    let nobody : server_state c.new.result ≡ opening = made.state ∙ c.opening-office.ensures.state in
    record {
      before = files.opening;
      held = subst (λ (s : State). HoldNow files.opening s i) (sym nobody) (held_nothing i chosen);
      now = begun;
      holds = subst (λ (s : State). HoldNow begun s j) (sym nobody) (held_begun i chosen j c.in-Ok.journal.end (here.rewrites tells).other holds);
      current = subst (λ (x : Journal). IsCurrent x begun j) (sym made.journal) current;
      content = inr (refl, refl);
      other = (here.rewrites tells).other;
      said = (here.rewrites tells).said;
    }

pub returns-in-Ok-clause-stands : goal.returns-in-Ok-clause-stands
returns-in-Ok-clause-stands g c =
    let here = c.in-Ok.ensures in
    let back = λ (t : IsTrue (g.D.Desk.tells c.make.new.desk)). sym here.counts.tells ∙ t in
    subst (λ (x : Journal). Stands g.D.Desk x c.make.new.desk) (sym c.new.ensures.journal) (record {
      ready = here.ready;
      current = λ tells. (begun, here.current (back tells) files.opening [] (inl (none_live (g.D.Desk.state c.args.desk.now) (c.requires.chosen (back tells)), refl)) framed_nothing);
      settled = λ tells. (here.rewrites (back tells)).settled;
    })

pub returns-in-Ok-clause-any_moment : goal.returns-in-Ok-clause-any_moment
returns-in-Ok-clause-any_moment g c = λ tells.
    let D = g.D.Desk in
    let i = D.state c.args.desk.now in
    let chosen = c.requires.chosen tells in
    weakened D c.args.desk.now c.make.new.desk (IsBeforeOrMade A files.opening begun i) (LeftAfterSyncs i)
    (c.in-Ok.ensures.any_moment tells files.opening [] (inl (none_live i chosen, refl)) framed_nothing)
    (left_by_making i chosen)

pub returns-in-Err-Disk-clause-any_moment : goal.returns-in-Err-Disk-clause-any_moment
returns-in-Err-Disk-clause-any_moment g c = λ tells.
    let D = g.D.Desk in
    let i = D.state c.args.desk.now in
    let chosen = c.requires.chosen tells in
    weakened D c.args.desk.now c.make.new.desk (IsBeforeOrMade A files.opening begun i) (LeftAfterSyncs i)
    (c.in-Err-Disk.ensures.any_moment tells files.opening [] (inl (none_live i chosen, refl)) framed_nothing)
    (left_by_making i chosen)
