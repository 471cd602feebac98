use Rattle.std.proofs.Common.{◌∙◌, sym, refl}
use Rattle.std.proofs.lemmas.Option.{slice_get-map}
use Rattle.yw_read.specs.declared.raw.RawNet.{RawNet}
use Rattle.yw_accept.specs.Nodes.{net_names}
use Rattle.yw_build.proofs.kinds.net_called.Goals as goal

pub returns : goal.returns
returns c =
    let nets = c.args.spec.now.said.now.net in
    sym (slice_get-map (λ (net : RawNet). net.name) nets c.in-Some.number) ∙ c.in-Some.ensures.found (net_names nets) c.requires.nets c.in-Some.number refl
