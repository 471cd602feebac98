use Rattle.std.proofs.Common.{ap, sym, nat_eq, ℕ, ◌∙◌}
use Rattle.serde_json.proofs.Views.{members_len-members_view}
use Rattle.yw_wire.proofs.fields.has_members.Goals as goal

pub returns-in-Some : goal.returns-in-Some
returns-in-Some c =
    rw (← c.in-Some.ensures) (ap (λ (k : ℕ). nat_eq k c.args.n) (c.len.ensures.len ∙ sym (members_len-members_view c.in-Some.map.now.entries)))
