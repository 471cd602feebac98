use Rattle.std.proofs.Common.{not, rules, ℕ}
use Rattle.std.proofs.lemmas.Map.Made.{filter_same_pairs}
use Rattle.std.specs.Prelude.{Vec, ◌==◌}
use Rattle.std.specs.declared.alloc.Global.{Global}
use Rattle.yw_base.specs.Identity.{case_number}
use Rattle.yw_loose.proofs.Following.{case_out}
use Rattle.yw_loose.proofs.counts.Counts.forget_case.Goals as goal
use Rattle.yw_loose.specs.declared.counts.Counts.{Counts}
use Rattle.yw_state.specs.Identity.{Ident}

pub returns : goal.returns
returns c =
    let new : Counts = record { nets = c.retain.new.self } in
    case_out c.args.n c.args.self.now new
    (filter_same_pairs _ (λ (e : Ident × Vec ℕ Global). not (case_number e.0 == c.args.n)) _ (λ k v b w f' t. search rules) _ _ c.retain.ensures.filtered)
