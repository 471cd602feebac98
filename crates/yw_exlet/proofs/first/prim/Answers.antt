use Rattle.std.proofs.Common.{false, refl, subst, true}
use Rattle.std.specs.Option.{option_copied}
use Rattle.std.specs.Prelude.{option_map}
use Rattle.yw_exlet.proofs.ByKind.{continues_case, continues_item, knows_none, removes_case, removes_item, suspends_case, suspends_item}
use Rattle.yw_exlet.proofs.Stands.{run_below}
use Rattle.yw_exlet.proofs.Whichever.{it_takes, under_target}
use Rattle.yw_exlet.proofs.first.prim.Goals as goal
use Rattle.yw_exlet.proofs.first.prim.Goals.{in-SuspendItem, in-ContinueItem, in-SuspendCase, in-ContinueCase, in-RestartItem, in-CompleteItem+in_ok-complete_item-in-CompleteItem, in-RemoveItem, in-Compensate+in_ok-compensate-in-Compensate, in-Unknown}
use Rattle.yw_exlet.specs.Needs.{named_spec}
use Rattle.yw_exlet.specs.Takes.{TakesBy, drops, marks}
use Rattle.yw_state.specs.declared.tree.Primitive.TheVariants.{CompleteItem, Compensate, ContinueCase, ContinueItem, RemoveCase, RemoveItem, RestartItem, SuspendCase, SuspendItem, Unknown}

pub target_of-requires : goal.target_of-requires
target_of-requires c = run_below c.args.forest.now c.requires.boxed c.args.r.now c.numbers-run.ensures.identity c.requires.may.runs

pub take_removal-requires-clause-above : goal.take_removal-requires-clause-above
take_removal-requires-clause-above c = under_target c.args.r.now c.in_ok-j.j c.numbers-run.ensures.identity c.in_ok-j.ensures

pub returns-in-RemoveCase-clause-ok : goal.returns-in-RemoveCase-clause-ok
returns-in-RemoveCase-clause-ok c =
    let f = c.args.forest.now in
    let r = c.args.r.now in
    let top = c.args.top.now in
    let item = option_copied c.args.item in
    let comp = option_map named_spec c.args.comp in
    let due = c.args.due in
    let new = c.take_removal-in-RemoveCase.new.forest in
    it_takes f r RemoveCase c.in-Some.first.now c.in-Some.ensures c.in-RemoveCase.is top item comp due new new refl
    (removes_case top item comp due r f new c.take_removal-in-RemoveCase.ensures.boxed
    (subst (λ k. TakesBy r (drops k) f new) c.in_ok-case.ensures c.take_removal-in-RemoveCase.ensures.takes))

pub returns-clause-ok : goal.returns-clause-ok
returns-clause-ok c =
    let f = c.args.forest.now in
    let r = c.args.r.now in
    let top = c.args.top.now in
    let item = option_copied c.args.item in
    let comp = option_map named_spec c.args.comp in
    let due = c.args.due in
    elim c.match-first.branch [
      | in-SuspendItem w ↦ it_takes f r SuspendItem c.in-Some.first.now c.in-Some.ensures w.in-SuspendItem.is top item comp due w.take_mark.new.forest
          c.match-first.forest w.forest-is
          (suspends_item top item comp due r f w.take_mark.new.forest w.take_mark.ensures.boxed
          (subst (λ k. TakesBy r (marks k true) f w.take_mark.new.forest) c.in_ok-j.ensures w.take_mark.ensures.takes))
      | in-ContinueItem w ↦ it_takes f r ContinueItem c.in-Some.first.now c.in-Some.ensures w.in-ContinueItem.is top item comp due
          w.take_mark-in-ContinueItem.new.forest c.match-first.forest w.forest-is
          (continues_item top item comp due r f w.take_mark-in-ContinueItem.new.forest w.take_mark-in-ContinueItem.ensures.boxed
          (subst (λ k. TakesBy r (marks k false) f w.take_mark-in-ContinueItem.new.forest) c.in_ok-j.ensures w.take_mark-in-ContinueItem.ensures.takes))
      | in-SuspendCase w ↦ it_takes f r SuspendCase c.in-Some.first.now c.in-Some.ensures w.in-SuspendCase.is top item comp due
          w.take_mark-in-SuspendCase.new.forest c.match-first.forest w.forest-is
          (suspends_case top item comp due r f w.take_mark-in-SuspendCase.new.forest w.take_mark-in-SuspendCase.ensures.boxed
          (subst (λ k. TakesBy r (marks k true) f w.take_mark-in-SuspendCase.new.forest) c.in_ok-case.ensures w.take_mark-in-SuspendCase.ensures.takes))
      | in-ContinueCase w ↦ it_takes f r ContinueCase c.in-Some.first.now c.in-Some.ensures w.in-ContinueCase.is top item comp due
          w.take_mark-in-ContinueCase.new.forest c.match-first.forest w.forest-is
          (continues_case top item comp due r f w.take_mark-in-ContinueCase.new.forest w.take_mark-in-ContinueCase.ensures.boxed
          (subst (λ k. TakesBy r (marks k false) f w.take_mark-in-ContinueCase.new.forest) c.in_ok-case.ensures w.take_mark-in-ContinueCase.ensures.takes))
      | in-RestartItem w ↦ it_takes f r RestartItem c.in-Some.first.now c.in-Some.ensures w.in-RestartItem.is top item comp due w.restart_item.new.forest
          c.match-first.forest w.forest-is
          (w.restart_item.ensures top comp c.in_ok-j.ensures)
      | in-CompleteItem+in_ok-complete_item-in-CompleteItem w ↦ it_takes f r CompleteItem c.in-Some.first.now c.in-Some.ensures w.in-CompleteItem.is top
          item comp due w.complete_item.new.forest c.match-first.forest w.forest-is
          (w.in_ok-complete_item-in-CompleteItem.ensures.ok top comp due c.in_ok-j.ensures)
      | in-RemoveItem w ↦ it_takes f r RemoveItem c.in-Some.first.now c.in-Some.ensures w.in-RemoveItem.is top item comp due w.take_removal.new.forest
          c.match-first.forest w.forest-is
          (removes_item top item comp due r f w.take_removal.new.forest w.take_removal.ensures.boxed
          (subst (λ k. TakesBy r (drops k) f w.take_removal.new.forest) c.in_ok-j.ensures w.take_removal.ensures.takes))
      | in-Compensate+in_ok-compensate-in-Compensate w ↦ it_takes f r (Compensate w.in-Compensate._name) c.in-Some.first.now c.in-Some.ensures
          w.in-Compensate.is top item comp due w.compensate.new.forest c.match-first.forest w.forest-is
          (w.in_ok-compensate-in-Compensate.ensures.ok w.in-Compensate._name due c.in_ok-j.ensures)
      | in-Unknown w ↦ it_takes f r (Unknown w.in-Unknown._text) c.in-Some.first.now c.in-Some.ensures w.in-Unknown.is top item comp due
          w.take_none.new.forest c.match-first.forest w.forest-is
          (knows_none top item comp due r f w.take_none.new.forest w.take_none.ensures.boxed w.in-Unknown._text w.take_none.ensures.takes)
    ]
