use Rattle.std.proofs.Common.{◌≡◌, ℕ, List, true, sym, subst}
use Rattle.std.specs.List.{list_any}
use Rattle.std.specs.Str.{bytes_eq}
use Rattle.yw_read.specs.declared.raw.RawVar.{RawVar}
use Rattle.yw_build.proofs.parameters.assign_of.Goals as goal

pub var_called-var-requires-clause-is : goal.var_called-var-requires-clause-is
var_called-var-requires-clause-is c =
    let P : List ℕ → Type 0 = λ name. list_any (λ (v : RawVar). bytes_eq name v.name) c.args.numbers.now.said.now.vars ≡ true in
    subst P (sym c.as_str.ensures) c.requires.ready.var
