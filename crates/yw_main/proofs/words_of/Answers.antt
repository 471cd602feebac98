use Rattle.std.proofs.Common.{ap, ◌∙◌}
use Rattle.std.specs.Vec.Iter.{into_iter_items, into_iter_len}
use Rattle.std.proofs.lemmas.Iterator.{items_from_collect}
use Rattle.std.proofs.lemmas.Iterator.Adapters.{YieldsList-from_skip, YieldsList-from_vec}
use Rattle.yw_main.proofs.words_of.Goals as goal

pub returns : goal.returns
returns c =
    let items = ap into_iter_items c.skip.ensures.source in
    let len = ap into_iter_len c.skip.ensures.source ∙ c.args.args.rest.ok.0 in
    let all = YieldsList-from_vec (into_iter_items c.args.args) items len in
    items_from_collect c.collect.result c.collect.ensures.ran (YieldsList-from_skip 1 all c.skip.ensures.count)
