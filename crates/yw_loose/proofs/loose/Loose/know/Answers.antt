use Rattle.std.proofs.Common.{ap, refl}
use Rattle.std.specs.BTreeMap.{is_at}
use Rattle.std.specs.List.{list_any}
use Rattle.std.specs.Ordering.{nat_cmp}
use Rattle.yw_loose.proofs.Knowing.{has_rested, listed}
use Rattle.yw_loose.proofs.Rested.{same_rested}
use Rattle.yw_loose.proofs.loose.Loose.know.Goals as goal

pub returns-in_err-add_case-clause-rested : goal.returns-in_err-add_case-clause-rested
returns-in_err-add_case-clause-rested c = λ names s boxed sites rested.
    has_rested s c.args.self.now c.add_case.new.self _ c.in_err-add_case.ensures.err rested

pub returns-in_err-insert-clause-rested : goal.returns-in_err-insert-clause-rested
returns-in_err-insert-clause-rested c = λ names s boxed sites rested.
    let all = c.in_ok-add_case.ensures.ok.has names s boxed sites in
    let mid = c.add_case.new.self in
    same_rested mid (record mid { known = c.insert.new.self })
    (record { known = λ n. ap (list_any (is_at (nat_cmp n))) c.in_err-insert.ensures.err; loose = λ j. refl; counts = refl }) s
    (has_rested s c.args.self.now mid all.0 all.2 rested)

pub returns-clause-rested : goal.returns-clause-rested
returns-clause-rested c = λ names s boxed sites rested.
    let all = c.in_ok-add_case.ensures.ok.has names s boxed sites in
    listed s c.args.self.now c.add_case.new.self all.0 all.2 c.args.n all.1 c.insert.new.self c.in_ok-insert.ensures.updates rested
