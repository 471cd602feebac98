use Rattle.std.proofs.Common.{ap, sym, nat_eq, ℕ, ◌∙◌}
use Rattle.serde_json.proofs.Views.{members_len-members_view}
use Rattle.yw_proof.proofs.shape.has_three.Goals as goal

pub returns-in-Some : goal.returns-in-Some
returns-in-Some c =
    rw (← c.in-Some.ensures) (ap (λ (k : ℕ). nat_eq k 3) (c.len.ensures.len ∙ sym (members_len-members_view c.in-Some.members.now.entries)))
