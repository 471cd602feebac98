use Rattle.std.proofs.Common.{ap, ◌∙◌}
use Rattle.std.specs.Prelude.{option_and_then, slice_get}
use Rattle.std.specs.Str.{bytes_eq}
use Rattle.yw_nest.proofs.Zipped.{found_beside}
use Rattle.yw_worklet.proofs.names.param_value.Goals as goal

pub returns-in-Some : goal.returns-in-Some
returns-in-Some c = c.get.ensures ∙ ap (option_and_then (slice_get c.args.values.now)) c.in-Some.ensures ∙ found_beside (λ p. bytes_eq p.name c.args.name.now) c.args.params.now c.args.values.now

pub returns-in-None : goal.returns-in-None
returns-in-None c = ap (option_and_then (slice_get c.args.values.now)) c.in-None.ensures ∙ found_beside (λ p. bytes_eq p.name c.args.name.now) c.args.params.now c.args.values.now
