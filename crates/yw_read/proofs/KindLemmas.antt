-- What lists of values say.
use Rattle.std.proofs.Common.{◌≡◌, List, [], ◌∷◌, length, None, refl}
use Rattle.toml.specs.View.{items_view}
use Rattle.toml.specs.declared.value.Value.{Value}
use Rattle.yw_read.specs.Kinds.{flow_in}

-- too few or too many values are no flow
pub flow_in-other : (vs : List Value) → (length vs ≡ 2 → ⊥) → None ≡ flow_in (items_view vs)
flow_in-other [] h = refl
flow_in-other (a ∷ []) h = refl
flow_in-other (a ∷ b ∷ []) h = absurd (h refl)
flow_in-other (a ∷ b ∷ c ∷ vs) h = refl
