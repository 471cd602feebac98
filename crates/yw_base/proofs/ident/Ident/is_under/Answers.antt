use Rattle.yw_base.proofs.DottedLemmas.{starts_with-under}
use Rattle.yw_base.proofs.ident.Ident.is_under.Goals as goal

pub returns : goal.returns
returns c = let e = starts_with-under c.args.self.now c.args.top.now in cc
