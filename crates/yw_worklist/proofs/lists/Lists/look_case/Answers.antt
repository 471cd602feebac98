use Rattle.std.proofs.Common.{subst, sym}
use Rattle.yw_idents.proofs.Listed.{all_listed, none_stands}
use Rattle.yw_idents.specs.Idents.{AreAllIn, lent}
use Rattle.yw_library.specs.Names.{names_of}
use Rattle.yw_tree.proofs.OnResults.{on_ok}
use Rattle.yw_worklist.proofs.Looking.{case_looked, no_case_looked}
use Rattle.yw_worklist.proofs.lists.Lists.look_case.Goals as goal

pub returns-in_ok-idents_in-in-Some : goal.returns-in_ok-idents_in-in-Some
returns-in_ok-idents_in-in-Some c =
    let known = c.args.known.now in
    let f = c.args.forest.now in
    let js = lent c.in_ok-idents_in-in-Some.field-0.items in
    on_ok c.look_each.result _ _ c.look_each.ensures
    (case_looked known f c.args.self.now c.look_each.new.self c.args.n js
    (λ s held. subst (AreAllIn s c.args.n) (sym (c.in_ok-idents_in-in-Some.ensures (names_of known)))
    (all_listed (names_of known) f held.held.boxed s held.held.sites c.args.n c.in-Some.case.now (sym c.in-Some.ensures))))

pub returns-in-None : goal.returns-in-None
returns-in-None c =
    let known = c.args.known.now in
    let f = c.args.forest.now in
    no_case_looked known f c.args.self.now c.args.n
    (λ s held j x stands number. none_stands (names_of known) f held.held.boxed s held.held.sites c.args.n (sym c.in-None.ensures) j x stands number)
