use Rattle.std.proofs.Common.{◌&&◌}
use Rattle.yw_read.specs.declared.raw.RawVar.{RawVar}
use Rattle.yw_base.specs.Usages.{goes_out}
use Rattle.yw_accept.specs.Scopes.{is_out_var, is_same_sort}
use Rattle.yw_check_sorts.proofs.NamedLemmas.{any_is, any_isnt}
use Rattle.yw_check_sorts.proofs.ParameterLemmas.{out_var}
use Rattle.yw_check_sorts.proofs.children.is_given_back.Goals as goal

pub returns-in-Some : goal.returns-in-Some
returns-in-Some c =
    let q = c.args.out.now in
    any_is (λ (v : RawVar). v.name) c.as_str.result.now (is_out_var q) (λ (v : RawVar). goes_out v.usage && is_same_sort q.sort v.sort) (out_var q c.as_str.result.now c.as_str.ensures)
    c.args.vars.now c.requires.distinct c.find_named.result c.find_named.ensures c.in-Some.var c.in-Some.is c.gives_sort.result c.gives_sort.ensures

pub returns-in-None : goal.returns-in-None
returns-in-None c =
    let q = c.args.out.now in
    any_isnt (λ (v : RawVar). v.name) c.as_str.result.now (is_out_var q) (λ (v : RawVar). goes_out v.usage && is_same_sort q.sort v.sort) (out_var q c.as_str.result.now c.as_str.ensures)
    c.args.vars.now c.requires.distinct c.find_named.result c.find_named.ensures c.in-None.is
