-- What is asked of links is so of rules.
use Rattle.std.proofs.Common.{◌≡◌, ℕ, List, [], ◌∷◌, Bool, map, length, refl, sym, ap}
use Rattle.std.proofs.lemmas.List.{length-map}
use Rattle.std.specs.Bool.{beq}
use Rattle.std.specs.Prelude.{◌||◌, ◌&&◌, ◌==◌}
use Rattle.yw_rdr.specs.Rules as rdr
use Rattle.yw_rdr.specs.Rules.{kept_of}
use Rattle.yw_state.specs.NewRule.{is_taken}
use Rattle.yw_state.specs.RuleTree.{TreeRule}

pub as_many : (rs : List TreeRule) → length rs ≡ length (map kept_of rs)
as_many rs = sym (length-map rs kept_of)

-- the texts aren't looked at
pub as_taken : (rs : List TreeRule) (at : ℕ) (side : Bool) → is_taken rs at side ≡ is_taken (rdr.rules_of (map kept_of rs)) at side
as_taken [] at side = refl
as_taken (r ∷ rs) at side = ap (λ b. (r.at == at && beq r.side side) || b) (as_taken rs at side)
