use Rattle.std.proofs.Common.{◌||◌, not, bytes_eq}
use Rattle.yw_read.specs.declared.raw.RawOut.{RawOut}
use Rattle.yw_accept.specs.Scopes.{is_same_sort}
use Rattle.yw_check_sorts.proofs.NamedLemmas.{all_is, all_isnt}
use Rattle.yw_check_sorts.proofs.ParameterLemmas.{out_in}
use Rattle.yw_check_sorts.proofs.parameters.agrees.Goals as goal

pub returns-in-Some : goal.returns-in-Some
returns-in-Some c =
    let p = c.args.input.now in
    all_is (λ (q : RawOut). q.name) c.as_str.result.now (λ (q : RawOut). not (bytes_eq p.name q.name) || is_same_sort p.sort q.sort) (λ (q : RawOut). is_same_sort p.sort q.sort) (out_in p c.as_str.result.now c.as_str.ensures)
    c.args.outs.now c.requires.distinct c.find_named.result c.find_named.ensures c.in-Some.out c.in-Some.is c.is_same_sort.result c.is_same_sort.ensures

pub returns-in-None : goal.returns-in-None
returns-in-None c =
    let p = c.args.input.now in
    all_isnt (λ (q : RawOut). q.name) c.as_str.result.now (λ (q : RawOut). not (bytes_eq p.name q.name) || is_same_sort p.sort q.sort) (λ (q : RawOut). is_same_sort p.sort q.sort) (out_in p c.as_str.result.now c.as_str.ensures)
    c.args.outs.now c.requires.distinct c.find_named.result c.find_named.ensures c.in-None.is
