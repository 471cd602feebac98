use Rattle.std.proofs.Common.{◌∙◌, sym, ap}
use Rattle.std.specs.List.{list_any}
use Rattle.std.specs.Str.{bytes_eq}
use Rattle.yw_read.specs.declared.raw.RawNet.{RawNet}
use Rattle.yw_accept.proofs.Lists.{list_any_of_map}
use Rattle.yw_check_names.proofs.names.is_net.Goals as goal

pub returns : goal.returns
returns c =
    let nets = c.args.raw.now.net in
    c.has_name.ensures
    ∙ ap (λ name. list_any (λ (net : RawNet). bytes_eq name net.name) c.as_slice.result.now) c.as_str.ensures
    ∙ ap (λ nets. list_any (λ (net : RawNet). bytes_eq c.args.name.now net.name) nets) c.as_slice.ensures
    ∙ sym (list_any_of_map (bytes_eq c.args.name.now) (λ (net : RawNet). net.name) nets)
