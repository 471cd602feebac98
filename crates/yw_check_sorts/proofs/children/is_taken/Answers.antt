use Rattle.std.proofs.Common.{◌&&◌}
use Rattle.yw_read.specs.declared.raw.RawVar.{RawVar}
use Rattle.yw_base.specs.Usages.{comes_in}
use Rattle.yw_accept.specs.Scopes.{is_in_var, is_same_sort}
use Rattle.yw_check_sorts.proofs.NamedLemmas.{any_is, any_isnt}
use Rattle.yw_check_sorts.proofs.ParameterLemmas.{in_var}
use Rattle.yw_check_sorts.proofs.children.is_taken.Goals as goal

pub returns-in-Some : goal.returns-in-Some
returns-in-Some c =
    let p = c.args.input.now in
    any_is (λ (v : RawVar). v.name) c.as_str.result.now (is_in_var p) (λ (v : RawVar). comes_in v.usage && is_same_sort p.sort v.sort) (in_var p c.as_str.result.now c.as_str.ensures)
    c.args.vars.now c.requires.distinct c.find_named.result c.find_named.ensures c.in-Some.var c.in-Some.is c.takes_sort.result c.takes_sort.ensures

pub returns-in-None : goal.returns-in-None
returns-in-None c =
    let p = c.args.input.now in
    any_isnt (λ (v : RawVar). v.name) c.as_str.result.now (is_in_var p) (λ (v : RawVar). comes_in v.usage && is_same_sort p.sort v.sort) (in_var p c.as_str.result.now c.as_str.ensures)
    c.args.vars.now c.requires.distinct c.find_named.result c.find_named.ensures c.in-None.is
