use Rattle.std.proofs.Common.{subst}
use Rattle.yw_tree.proofs.OnResults.{on_ok}
use Rattle.yw_worklist.proofs.Placing.{none_placed, put_seen}
use Rattle.yw_worklist.proofs.lists.Lists.put.Goals as goal
use Rattle.yw_worklist.specs.Lists.{PutsPlace}
use Rattle.yw_worklist.specs.Offers.{Turns, came, left}

pub place-requires : goal.place-requires
place-requires c = none_placed c.args.self.now.places c.take-before.new.places c.args.at.now c.take-before.ensures.gone

pub returns : goal.returns
returns c =
    let old = c.args.self.now in
    let at = c.args.at.now in
    let before = c.take-before.result in
    let seen = c.args.seen in
    let turns = subst (λ xs. Turns old.offers c.change.new.self at (λ b t. came xs seen.opens b (left xs seen.opens b t))) c.as_slice.ensures
    (subst (λ ys. Turns old.offers c.change.new.self at (λ b t. came c.as_slice.result.now ys b (left c.as_slice.result.now ys b t))) c.as_slice-2.ensures
    c.in_ok-change.ensures) in
    on_ok c.place.result _ _ c.place.ensures
    (λ places. let puts = subst (PutsPlace c.take-before.new.places c.place.new.places at seen.opens) c.is_marked-marked.ensures places in
    put_seen old c.take-before.new.places c.place.new.places c.change.new.self c.put.new.self c.put-2.new.self at seen before
    c.take-before.ensures.value c.take-before.ensures.gone turns puts c.in_ok-put.ensures c.in_ok-put-2.ensures)
