use Rattle.std.proofs.Common.{◌∙◌, sym, ap, Some, length, arith}
use Rattle.std.specs.Prelude.{string_bytes}
use Rattle.std.proofs.lemmas.Map.Text.{btree_map_updates_text}
use Rattle.yw_expr.specs.Scope.{binding}
use Rattle.yw_expr.proofs.Layers.{places_added}
use Rattle.yw_expr.proofs.scope.Bindings.add.Goals as goal

pub invariant_of-self-2 : goal.invariant_of-self-2
invariant_of-self-2 c =
    let bytes = string_bytes c.in_ok-key.key in
    let room = c.reserve.new.self in
    places_added c.self.inside.places c.insert.new.self c.self.inside.list.items c.push.new.self.items (binding c.in_ok-name.name c.args.sort) bytes c.len.result
    c.self.invariant
    (c.in_ok-key.ensures.ok ∙ sym c.in_ok-name.ensures)
    (omega (arith, ap length c.in_ok-reserve.ensures.items))
    (grind arith)
    (grind arith)
    (btree_map_updates_text bytes c.self.inside.places c.insert.new.self (Some c.len.result) c.in_ok-insert.ensures.updates)
