use Rattle.std.proofs.Common.{ap, subst, sym}
use Rattle.std.specs.Option.{option_copied}
use Rattle.std.specs.Prelude.{OnOk, option_map}
use Rattle.yw_exlet.proofs.ByKind.{names_none}
use Rattle.yw_exlet.proofs.first.compensate.Goals as goal
use Rattle.yw_exlet.specs.Needs.{MayCompensate, named_spec}

pub returns-in-Some-clause-ok : goal.returns-in-Some-clause-ok
returns-in-Some-clause-ok c =
    subst (λ o. OnOk c.compensate_by.result (MayCompensate c.args.top.now (option_copied c.args.item) o c.args.r.now c.args.j.now c.args.forest.now c.compensate_by.new.forest))
    (sym (ap (option_map named_spec) c.in-Some.is)) c.compensate_by.ensures.ok

pub returns-in-None-clause-ok : goal.returns-in-None-clause-ok
returns-in-None-clause-ok c = λ name due is.
    names_none c.args.top.now (option_copied c.args.item) (option_map named_spec c.args.comp) due c.args.r.now c.args.forest.now c.take_none.new.forest c.take_none.ensures.boxed name
    (ap (option_map named_spec) c.in-None.is) c.take_none.ensures.takes
