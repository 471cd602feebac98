use Rattle.std.proofs.Common.{◌++◌, ap, append_assoc, subst, sym, ◌∙◌}
use Rattle.std.proofs.lemmas.Map.Iter.{rest_all, rest_more}
use Rattle.std.specs.List.{flat_map}
use Rattle.std.specs.Prelude.{is_some}
use Rattle.yw_idents.specs.Idents.{lent}
use Rattle.yw_sites.proofs.Each.{nil_right}
use Rattle.yw_state.specs.Answers.{IsWorkList}
use Rattle.yw_worklist.proofs.Keys.{ascending}
use Rattle.yw_worklist.proofs.Listing.{WorkLaws, all_rows}
use Rattle.yw_worklist.proofs.lists.Lists.rows.Goals as goal
use Rattle.yw_worklist.specs.Rows.{rows_at}

pub loop-at-preserved : goal.loop-at-preserved
loop-at-preserved c =
    let f = rows_at c.args.self.now c.in-Some.roles.now c.args.who.now in
    let rows = c.loop-at.rows in
    let turn = rest_more (λ e. e) c.loop-at.at-iterator c.next.new.self c.next.result _ c.in-Some-at.is c.next.ensures.steps in
    ap (λ z. z ++ flat_map f (lent c.next.new.self)) c.in_ok-push_rows.ensures
    ∙ append_assoc rows _ (flat_map f (lent c.next.new.self)) ∙ ap (λ z. rows ++ flat_map f (lent z)) (sym turn) ∙ c.loop-at.invariant

pub returns : goal.returns
returns c = λ s listed.
    let laws : WorkLaws = record { work = c.work_is_open.ensures; held = c.held_is.ensures; ordered = c.rows_are_ordered.ensures } in
    let f = rows_at c.args.self.now c.in-Some.roles.now c.args.who.now in
    let none = rest_all (λ e. e) c.loop-at.at-iterator c.next.new.self c.next.result c.in-None.is c.next.ensures.steps in
    let gives = c.into_iter-at-iterator.ensures.into_iter_gives in
    let ids = c.in_ok-at-items.at-items.keys in
    let are = sym (nil_right c.loop-at.rows) ∙ ap (λ z. c.loop-at.rows ++ flat_map f (lent z)) (sym none) ∙ c.loop-at.invariant
    ∙ ap (λ z. z ++ flat_map f (lent c.into_iter-at-iterator.result)) c.new-rows.ensures ∙ ap (λ z. flat_map f (lent z)) gives.0 in
    let known = c.in-Some.ensures ∙ listed.people c.args.who.now in (
      ap is_some (sym known),
      subst (IsWorkList s c.args.who.now) (sym are)
          (all_rows laws s c.args.self.now c.args.who.now listed c.in-Some.roles.now (lent ids) known (ascending ids gives.4) c.in_ok-at-items.ensures),
    )

pub returns-in_default : goal.returns-in_default
returns-in_default c = λ s listed. ap is_some (sym (c.in_default.ensures ∙ listed.people c.args.who.now))
