use Rattle.std.proofs.Common.{◌≡◌, ℕ, List, [], get_or, sym, ap, ◌∙◌}
use Rattle.std.specs.List.{list_any}
use Rattle.yw_mark.specs.Tokens.{is_marked}
use Rattle.yw_path.proofs.upstream.Upstream.has_marked_input.Goals as goal

pub returns-in-Some : goal.returns-in-Some
returns-in-Some c =
    let read : get_or c.args.self.now.inputs.items c.args.u [] ≡ c.in-Some.places.now =
    ap (λ ls. get_or ls c.args.u []) (sym c.deref.ensures.value) ∙ sym (c.in-Some.ensures.lookup.3.1 []) in
    c.is_any_marked.ensures ∙ ap (list_any (is_marked c.args.marks.now)) (c.as_slice.ensures ∙ sym read)
