use Rattle.std.proofs.lemmas.Result.{IfOk-weaker}
use Rattle.yw_library.proofs.Answering.{grown_so}
use Rattle.yw_library.proofs.library.Library.keep_rule.Goals as goal

pub grow-requires-clause-owns : goal.grow-requires-clause-owns
grow-requires-clause-owns c = record { is = c.requires.is; may = c.requires.may }

pub grow-requires-clause-takes : goal.grow-requires-clause-takes
grow-requires-clause-takes c = c.requires.takes

pub returns-clause-ok : goal.returns-clause-ok
returns-clause-ok c =
    IfOk-weaker c.grow.result _ _
    (grown_so c.args.self.now c.grow.new.self c.args.room c.args.wanted.now c.args.conclusion c.in_ok-copy_of.field-0 c.in_ok-copy_of.ensures)
    c.grow.ensures.ok
