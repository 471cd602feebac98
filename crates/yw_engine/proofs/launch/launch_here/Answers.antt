use Rattle.std.proofs.Common.{Ok, Option, subst}
use Rattle.yw_engine.proofs.Commands.{launch_asked, launch_breaks, launch_numbered}
use Rattle.yw_engine.proofs.launch.launch_here.Goals as goal
use Rattle.yw_engine.specs.Decides.{BreaksNow, Makes}
use Rattle.yw_known.proofs.Standing.{kept_within}
use Rattle.yw_state.specs.declared.command.Command.TheVariants as commands
use Rattle.yw_state.specs.declared.rule.Refusal.{Refusal}

pub launch_rest-requires : goal.launch_rest-requires
launch_rest-requires c =
    kept_within c.args.work.now.standing.known c.args.name.now c.args.asked.now.spec.now c.args.asked.now.number c.requires.kept

pub returns-in-Some : goal.returns-in-Some
returns-in-Some c =
    let h = c.args.work.now.standing in
    let name = c.args.name.now in
    let gs = c.args.given.now in
    subst (λ (o : Option Refusal). BreaksNow h (commands.Launch name gs) o) c.in-Some.is
    (launch_breaks h c.requires.stands name gs c.next-next.result c.next-next.ensures c.in_ok-refusal.field-0
    (c.in_ok-refusal.ensures h.known name (record { number = c.args.asked.now.number; kept = c.requires.kept })))

pub launch_event-requires : goal.launch_event-requires
launch_event-requires c =
    kept_within c.args.work.now.standing.known c.args.name.now c.args.asked.now.spec.now c.args.asked.now.number c.requires.kept

pub returns : goal.returns
returns c =
    let h = c.args.work.now.standing in
    let name = c.args.name.now in
    let gs = c.args.given.now in
    let k = c.args.asked.now.number in
    let unbroken = subst (λ (o : Option Refusal). BreaksNow h (commands.Launch name gs) o) c.in_default.is
    (launch_breaks h c.requires.stands name gs c.next-next.result c.next-next.ensures c.in_ok-refusal.field-0
    (c.in_ok-refusal.ensures h.known name (record { number = k; kept = c.requires.kept }))) in
    let makes : Makes h (commands.Launch name gs) (Ok c.in_ok-event.event) = (
      unbroken,
      launch_asked h c.requires.stands name gs c.next-next.result c.next-next.ensures c.in_ok-event.event
          (c.in_ok-event.ensures h.known (record { number = k; kept = c.requires.kept })),
    ) in
    (makes, launch_numbered h c.requires.stands name gs c.in_ok-event.event makes k (record { spec = c.args.asked.now.spec.now; kept = c.requires.kept }))
