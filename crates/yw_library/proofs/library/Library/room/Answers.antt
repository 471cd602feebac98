use Rattle.std.proofs.Common.{sym, ◌∙◌}
use Rattle.std.proofs.lemmas.Result.{err_from_is_err_and}
use Rattle.yw_library.proofs.RoomLemmas as room
use Rattle.yw_library.proofs.RoomLemmas.{asked_so}
use Rattle.yw_library.proofs.SpecNames.{accepted_names}
use Rattle.yw_library.proofs.library.Library.room.Goals as goal
use Rattle.yw_state.specs.declared.rule.Rule.TheVariants.{BadConclusion, Numbers, UnknownPlace, UnknownSpec}

pub returns-in_default-clause-refused : goal.returns-in_default-clause-refused
returns-in_default-clause-refused c =
    room.refused_for c.args.self.now c.args.wanted.now c.args.conclusion.now c.refused.result UnknownSpec c.refused.ensures
    (room.no_spec c.args.self.now c.args.wanted.now c.args.conclusion.now c.in_default.ensures)

pub returns-in_default-owner_in-clause-refused : goal.returns-in_default-owner_in-clause-refused
returns-in_default-owner_in-clause-refused c =
    room.refused_for c.args.self.now c.args.wanted.now c.args.conclusion.now c.refused-in_default-owner_in.result UnknownPlace
    c.refused-in_default-owner_in.ensures
    (room.no_place c.args.self.now c.args.wanted.now c.args.conclusion.now c.in-Some.spec.now c.in-Some.number c.in-Some.ensures
    (sym c.in_default-owner_in.ensures))

pub condition-requires : goal.condition-requires
condition-requires c = accepted_names c.in-Some.ensures.text c.in-Some.spec.now c.in-Some.ensures.accepted

pub returns-in-Some-side_rule-clause-refused : goal.returns-in-Some-side_rule-clause-refused
returns-in-Some-side_rule-clause-refused c =
    let broken = c.in-Some-side_rule.rule in
    let asked = asked_so c.args.self.now c.args.wanted.now c.args.conclusion.now c.in-Some-owner_in.owner _ c.ask-fault.result c.trees-kept.ensures.same c.ask-fault.ensures in
    room.refused_for c.args.self.now c.args.wanted.now c.args.conclusion.now c.refused-in-Some-side_rule.result broken c.refused-in-Some-side_rule.ensures
    (room.bad_side c.args.self.now c.args.wanted.now c.args.conclusion.now c.in-Some.spec.now c.in-Some.number c.in-Some.ensures c.trees-kept.ensures.owned c.in-Some-owner_in.owner (sym c.in-Some-owner_in.ensures) c.ask-fault.result asked broken
    (sym c.in-Some-side_rule.ensures))

pub returns-in_err-test-clause-refused : goal.returns-in_err-test-clause-refused
returns-in_err-test-clause-refused c =
    let p = err_from_is_err_and c.from_residual.result c.from_residual.ensures.1 in
    let asked = asked_so c.args.self.now c.args.wanted.now c.args.conclusion.now c.in-Some-owner_in.owner _ c.ask-fault.result c.trees-kept.ensures.same c.ask-fault.ensures in
    rw (p.1, p.2)
    (room.bad_text c.args.self.now c.args.wanted.now c.args.conclusion.now c.in-Some.spec.now c.in-Some.number c.in-Some.ensures c.trees-kept.ensures.owned c.in-Some-owner_in.owner (sym c.in-Some-owner_in.ensures) c.ask-fault.result asked
    (sym c.in_default-side_rule.ensures) _ c.in_err-test.ensures.refused)

pub returns-then-not-may_conclude-clause-refused : goal.returns-then-not-may_conclude-clause-refused
returns-then-not-may_conclude-clause-refused c =
    let asked = asked_so c.args.self.now c.args.wanted.now c.args.conclusion.now c.in-Some-owner_in.owner _ c.ask-fault.result c.trees-kept.ensures.same c.ask-fault.ensures in
    room.refused_for c.args.self.now c.args.wanted.now c.args.conclusion.now c.refused-then-not-may_conclude.result BadConclusion c.refused-then-not-may_conclude.ensures
    (room.bad_conclusion c.args.self.now c.args.wanted.now c.args.conclusion.now c.in-Some.spec.now c.in-Some.number c.in-Some.ensures c.trees-kept.ensures.owned c.in-Some-owner_in.owner (sym c.in-Some-owner_in.ensures) c.ask-fault.result asked
    (sym c.in_default-side_rule.ensures) c.in_ok-test.test c.in_ok-test.ensures.ok (sym c.may_conclude.ensures ∙ c.if-not-may_conclude.true))

pub returns-then-is_some-clause-refused : goal.returns-then-is_some-clause-refused
returns-then-is_some-clause-refused c =
    let asked = asked_so c.args.self.now c.args.wanted.now c.args.conclusion.now c.in-Some-owner_in.owner _ c.ask-fault.result c.trees-kept.ensures.same c.ask-fault.ensures in
    room.refused_for c.args.self.now c.args.wanted.now c.args.conclusion.now c.refused-then-is_some.result Numbers c.refused-then-is_some.ensures
    (room.full c.args.self.now c.args.wanted.now c.args.conclusion.now c.in-Some.spec.now c.in-Some.number c.in-Some.ensures c.trees-kept.ensures.owned c.in-Some-owner_in.owner (sym c.in-Some-owner_in.ensures) c.ask-fault.result asked
    (sym c.in_default-side_rule.ensures) c.in_ok-test.test c.in_ok-test.ensures.ok (sym c.may_conclude.ensures ∙ c.if-not-may_conclude.false)
    (sym c.is_some.ensures ∙ c.if-is_some.true))

pub returns-clause-ok : goal.returns-clause-ok
returns-clause-ok c =
    let asked = asked_so c.args.self.now c.args.wanted.now c.args.conclusion.now c.in-Some-owner_in.owner _ c.ask-fault.result c.trees-kept.ensures.same c.ask-fault.ensures in
    room.has_room c.args.self.now c.args.wanted.now c.args.conclusion.now c.in-Some.spec.now c.in-Some.number c.in-Some.ensures c.trees-kept.ensures.owned c.in-Some-owner_in.owner (sym c.in-Some-owner_in.ensures) c.ask-fault.result asked
    (sym c.in_default-side_rule.ensures) c.in_ok-test.test c.in_ok-test.ensures.ok (sym c.may_conclude.ensures ∙ c.if-not-may_conclude.false)
    (sym c.is_some.ensures ∙ c.if-is_some.false)
