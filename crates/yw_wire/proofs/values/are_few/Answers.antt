use Rattle.std.proofs.Common.{nat_le, sym, ap}
use Rattle.serde_json.proofs.Views.{items_len-items_view}
use Rattle.yw_base.specs.Values.{most_elements}
use Rattle.yw_wire.proofs.values.are_few.Goals as goal

pub returns : goal.returns
returns c = ap (λ n. nat_le n most_elements) (sym (items_len-items_view c.args.values.now))
