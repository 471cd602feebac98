use Rattle.std.proofs.Common.{◌≡◌, ◌&&◌, true, sym, ◌∙◌}
use Rattle.std.specs.List.{list_any}
use Rattle.yw_read.specs.declared.raw.RawIn.{RawIn}
use Rattle.yw_base.specs.Usages.{comes_in}
use Rattle.yw_accept.specs.Scopes.{is_in_var, is_same_sort}
use Rattle.yw_check_sorts.proofs.NamedLemmas.{any_is, any_isnt}
use Rattle.yw_check_sorts.proofs.ParameterLemmas.{both_taken, var_in, where_taken}
use Rattle.yw_check_sorts.proofs.children.is_handed.Goals as goal

pub returns-in-Some : goal.returns-in-Some
returns-in-Some c =
    let v = c.args.var.now in
    let taken : comes_in v.usage ≡ true = sym c.comes_in.ensures ∙ c.if-not-comes_in.false in
    where_taken (comes_in v.usage) (list_any (λ (p : RawIn). is_in_var p v) c.args.ins.now) c.is_same_sort.result taken
    (any_is (λ (p : RawIn). p.name) c.as_str.result.now (λ (p : RawIn). is_in_var p v) (λ (p : RawIn). comes_in v.usage && is_same_sort p.sort v.sort) (var_in v c.as_str.result.now c.as_str.ensures)
    c.args.ins.now c.requires.distinct c.find_named.result c.find_named.ensures c.in-Some.input c.in-Some.is c.is_same_sort.result
    (both_taken (comes_in v.usage) _ c.is_same_sort.result taken c.is_same_sort.ensures))

pub returns-in-None : goal.returns-in-None
returns-in-None c =
    let v = c.args.var.now in
    let taken : comes_in v.usage ≡ true = sym c.comes_in.ensures ∙ c.if-not-comes_in.false in
    where_taken (comes_in v.usage) (list_any (λ (p : RawIn). is_in_var p v) c.args.ins.now) _ taken
    (any_isnt (λ (p : RawIn). p.name) c.as_str.result.now (λ (p : RawIn). is_in_var p v) (λ (p : RawIn). comes_in v.usage && is_same_sort p.sort v.sort) (var_in v c.as_str.result.now c.as_str.ensures)
    c.args.ins.now c.requires.distinct c.find_named.result c.find_named.ensures c.in-None.is)
