use Rattle.std.proofs.Common.{ap, sym, ◌∙◌}
use Rattle.std.specs.Prelude.{option_and_then, option_map, slice_get, zip}
use Rattle.std.specs.Str.{bytes_eq}
use Rattle.yw_base.specs.Usages.{goes_out}
use Rattle.yw_base.specs.declared.value.Value.{Value}
use Rattle.yw_nest.proofs.Zipped.{found_beside}
use Rattle.yw_spec.specs.declared.spec.Var.{Var}
use Rattle.yw_worklet.proofs.Filtered.{find_filtered}
use Rattle.yw_worklet.proofs.names.handed_back.Goals as goal
use Rattle.yw_worklet.specs.Named.{is_handed_back}

pub returns-in-Some : goal.returns-in-Some
returns-in-Some c =
    c.get.ensures
    ∙ ap (option_and_then (slice_get c.args.values.now)) c.in-Some.ensures
    ∙ found_beside (is_handed_back c.args.name.now) c.args.vars.now c.args.values.now
    ∙ ap (option_map (λ (e : Var × Value). e.1)) (sym (find_filtered (λ (e : Var × Value). bytes_eq e.0.name c.args.name.now) (λ (e : Var × Value). goes_out e.0.usage) (zip c.args.vars.now c.args.values.now)))

pub returns-in-None : goal.returns-in-None
returns-in-None c =
    ap (option_and_then (slice_get c.args.values.now)) c.in-None.ensures
    ∙ found_beside (is_handed_back c.args.name.now) c.args.vars.now c.args.values.now
    ∙ ap (option_map (λ (e : Var × Value). e.1)) (sym (find_filtered (λ (e : Var × Value). bytes_eq e.0.name c.args.name.now) (λ (e : Var × Value). goes_out e.0.usage) (zip c.args.vars.now c.args.values.now)))
