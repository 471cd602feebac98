-- What it is that bytes are all those of a value.
use Rattle.std.proofs.Common.{◌≡◌, ◌<◌, ◌∙◌, ℕ, List, [], length, Bool, true, sym, ap, arith}
use Rattle.std.proofs.lemmas.List.{append-nil}
use Rattle.yw_codec.specs.Forms.{Stands, NoneStands, AreApart}

-- The value is in its range, and these are its bytes.
pub record IsWhole {X : Type 0} (is : X → Bool) (bytes : X → List ℕ) (whole : List ℕ) (value : X) : Type 0 where
  pub in_range : is value ≡ true
  pub same : whole ≡ bytes value

module _ {X : Type 0} (is : X → Bool) (bytes : X → List ℕ) (whole : List ℕ) where
  pub stands_whole : (v : X) → IsWhole is bytes whole v → Stands is bytes whole v []
  stands_whole v w = record { in_range = w.in_range; split = w.same ∙ sym (append-nil (bytes v)) }

  pub none_whole : NoneStands is bytes whole → (v : X) → IsWhole is bytes whole v → ⊥
  none_whole none v w = none v [] (stands_whole v w)

  -- bytes after a value make them no whole one's
  pub more_after : AreApart is bytes → (v : X) (rest : List ℕ) → Stands is bytes whole v rest → 0 < length rest → (w : X) → IsWhole is bytes whole w
      → ⊥
  more_after apart v rest s some w is = omega (arith, some, ap length (apart v w whole rest [] s (stands_whole w is)).1)

  -- whole bytes are one value's
  pub whole_once : AreApart is bytes → (v w : X) → IsWhole is bytes whole v → IsWhole is bytes whole w → v ≡ w
  whole_once apart v w a b = (apart v w whole [] [] (stands_whole v a) (stands_whole w b)).0
