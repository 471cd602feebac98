use Rattle.std.proofs.Common.{◌≡◌, ◌≤◌, None, true, false, length, subst, sym, ap, ◌∙◌, arith}
use Rattle.yw_sites.proofs.OnTests.{not_there, of_false, of_true}
use Rattle.yw_state.proofs.Tests.{by_test}
use Rattle.yw_state.specs.Map.{get}
use Rattle.yw_state.specs.State.{drop}
use Rattle.yw_tree.specs.Forest.{sites_of}
use Rattle.yw_tree.specs.Places.{something_stands}
use Rattle.yw_tree.proofs.Parents.{identity_short}
use Rattle.yw_base.proofs.Parents.{identity_long}
use Rattle.yw_tree.proofs.Rooted.{nothing_dropped}
use Rattle.yw_tree.proofs.Stood.{found_in_map, something_found}
use Rattle.yw_tree.proofs.Forest.cut.Goals as goal

pub returns-clause-found : goal.returns-clause-found
returns-clause-found c =
    let f = c.args.self.now in
    let id = c.args.id.now in
    let l = identity_short id c.numbers.ensures.identity in
    let fits : length id ≤ 41 = omega arith in
    c.cut_by.ensures.stood ∙ ap (something_stands f) c.numbers.ensures.numbers ∙ something_found f c.requires id (identity_long id c.numbers.ensures.identity) fits

pub returns-clause-stood : goal.returns-clause-stood
returns-clause-stood c = λ names.
    let f = c.args.self.now in
    let id = c.args.id.now in
    let l = identity_short id c.numbers.ensures.identity in
    let fits : length id ≤ 41 = omega arith in
    let long = identity_long id c.numbers.ensures.identity in
    c.cut_by.ensures.stood ∙ ap (something_stands f) c.numbers.ensures.numbers ∙ something_found f c.requires id long fits ∙ found_in_map f c.requires id long names fits

pub returns-clause-sites : goal.returns-clause-sites
returns-clause-sites c = λ names.
    let f = c.args.self.now in
    let g = c.cut_by.new.forest in
    let id = c.args.id.now in
    let i = c.numbers.ensures.identity in
    let l = identity_short id i in
    let fits : length id ≤ 41 = omega arith in
    let long = identity_long id i in
    by_test c.cut_by.result
    (λ (t : c.cut_by.result ≡ true). subst (λ z. sites_of names g ≡ drop (sites_of names f) z) c.numbers.ensures.numbers (of_true c.cut_by.result _ c.cut_by.ensures.sites t names))
    (λ (t : c.cut_by.result ≡ false).
    let same : g ≡ f = of_false c.cut_by.result _ c.cut_by.ensures.stays t in
    let none : get (sites_of names f) id ≡ None =
    not_there (get (sites_of names f) id) (sym (c.cut_by.ensures.stood ∙ ap (something_stands f) c.numbers.ensures.numbers ∙ something_found f c.requires id long fits ∙ found_in_map f c.requires id long names fits) ∙ t) in
    ap (sites_of names) same ∙ nothing_dropped names id f c.requires long none)
