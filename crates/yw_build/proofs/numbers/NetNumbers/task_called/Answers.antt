use Rattle.std.proofs.Common.{◌∙◌, sym, refl}
use Rattle.std.proofs.lemmas.Option.{slice_get-map}
use Rattle.yw_read.specs.declared.raw.RawTask.{RawTask}
use Rattle.yw_accept.specs.Nodes.{task_names}
use Rattle.yw_build.proofs.numbers.NetNumbers.task_called.Goals as goal

pub returns : goal.returns
returns c =
    let net = c.args.self.now.said.now in
    sym (slice_get-map (λ (t : RawTask). t.name) net.task c.in-Some.number) ∙ c.in-Some.ensures.found (task_names net.task) c.requires.numbers.tasks c.in-Some.number refl
