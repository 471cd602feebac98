use Rattle.std.proofs.Common.{◌≡◌, ℕ, List, [], None, Some, true, false, subst, sym, ap, ◌∙◌}
use Rattle.std.specs.Prelude.{option_and_then}
use Rattle.yw_sites.proofs.OnTests.{of_false, of_true, on_false, on_true}
use Rattle.yw_base.specs.Identity.{parent}
use Rattle.yw_state.proofs.Tests.{by_test}
use Rattle.yw_tree.specs.Forest.{IsForest, item_of, item_replaced, sites_of}
use Rattle.yw_tree.specs.Places.{run_of_item}
use Rattle.yw_tree.specs.declared.Node.{out-Node, roll-Node, roll-out-Node}
use Rattle.yw_tree.proofs.Parents.{parent_there}
use Rattle.yw_tree.proofs.PutBack.{put_back}
use Rattle.yw_tree.proofs.RunBack.{hung_there}
use Rattle.yw_tree.proofs.RunCut.{run_cut_from_item}
use Rattle.yw_tree.proofs.cut.cut_run_of_item.Goals as goal

pub item_by-requires : goal.item_by-requires
item_by-requires c = rw c.parent.ensures (parent_there c.args.id.now c.requires.long c.requires.below)

pub returns-in-Some-clause-sites : goal.returns-in-Some-clause-sites
returns-in-Some-clause-sites c = λ same. on_true c.end_run_of_item.result _ (λ t names.
    let f = c.args.forest.now in
    let id = c.args.id.now in
    let n = c.in-Some.node.now in
    let w = c.end_run_of_item.new.node in
    let e : item_of f (parent id) ≡ Some n = ap (item_of f) (sym c.parent.ensures) ∙ sym (rw c.in-Some.is at c.item_by.ensures.value) in
    let r = hung_there id (out-Node n).run (sym c.end_run_of_item.ensures.stood ∙ t) in
    let gone : w ≡ roll-Node (record (out-Node n) { run = None }) = sym (roll-out-Node w) ∙ ap roll-Node (of_true c.end_run_of_item.result _ c.end_run_of_item.ensures.gone t) in
    let now : item_replaced f c.parent.result.now w ≡ item_replaced f (parent id) (roll-Node (record (out-Node n) { run = None })) = λ j. item_replaced f (c.parent.ensures j) (gone j) in
    ap (sites_of names) now ∙ (run_cut_from_item names f c.requires.boxed id r.0 (same ∙ ap (option_and_then (run_of_item id)) e ∙ r.1) c.requires.long c.requires.below n e r.1).0)

pub returns-in-Some-clause-kept : goal.returns-in-Some-clause-kept
returns-in-Some-clause-kept c = λ same.
    let f = c.args.forest.now in
    let id = c.args.id.now in
    let n = c.in-Some.node.now in
    let w = c.end_run_of_item.new.node in
    let names : ℕ → List ℕ = λ k. [] in
    let e : item_of f (parent id) ≡ Some n = ap (item_of f) (sym c.parent.ensures) ∙ sym (rw c.in-Some.is at c.item_by.ensures.value) in
    by_test c.end_run_of_item.result
    (λ (t : c.end_run_of_item.result ≡ true).
    let r = hung_there id (out-Node n).run (sym c.end_run_of_item.ensures.stood ∙ t) in
    let gone : w ≡ roll-Node (record (out-Node n) { run = None }) = sym (roll-out-Node w) ∙ ap roll-Node (of_true c.end_run_of_item.result _ c.end_run_of_item.ensures.gone t) in
    let now : item_replaced f c.parent.result.now w ≡ item_replaced f (parent id) (roll-Node (record (out-Node n) { run = None })) = λ j. item_replaced f (c.parent.ensures j) (gone j) in
    subst IsForest (sym now) (run_cut_from_item names f c.requires.boxed id r.0 (same ∙ ap (option_and_then (run_of_item id)) e ∙ r.1) c.requires.long c.requires.below n e r.1).1)
    (λ (t : c.end_run_of_item.result ≡ false).
    let stays : w ≡ n = of_false c.end_run_of_item.result _ c.end_run_of_item.ensures.stays t in
    let now : item_replaced f c.parent.result.now w ≡ f = (λ j. item_replaced f (c.parent.ensures j) (stays j)) ∙ put_back (parent id) n f e in
    subst IsForest (sym now) c.requires.boxed)

pub returns-in-Some-clause-stays : goal.returns-in-Some-clause-stays
returns-in-Some-clause-stays c = on_false c.end_run_of_item.result _ (λ t.
    let f = c.args.forest.now in
    let id = c.args.id.now in
    let n = c.in-Some.node.now in
    let e : item_of f (parent id) ≡ Some n = ap (item_of f) (sym c.parent.ensures) ∙ sym (rw c.in-Some.is at c.item_by.ensures.value) in
    let stays : c.end_run_of_item.new.node ≡ n = of_false c.end_run_of_item.result _ c.end_run_of_item.ensures.stays t in
    (λ j. item_replaced f (c.parent.ensures j) (stays j)) ∙ put_back (parent id) n f e)
