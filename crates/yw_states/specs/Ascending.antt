-- Rows whose keys ascend, none twice.
use Rattle.std.proofs.Common.{◌≡◌, ◌&&◌, ◌≤◌, ◌∙◌, ℕ, List, [], ◌∷◌, length, Bool, true, false, ap, refl, arith}
use Rattle.std.specs.Ordering.{is_lt}
use Rattle.yw_codec.specs.Fields.{is_list, list_bytes}
use Rattle.yw_codec.specs.FieldLaws.{and_left, and_right}
use Rattle.yw_codec.specs.Forms.{Stands, NoneStands, AreApart}
use Rattle.yw_codec.specs.ListLaws.{list_apart}
use Rattle.yw_state.specs.Map.{lexical}

-- each comes before the next
abbrev pub ascend : {X : Type 0} → (X → X → Bool) → List X → Bool
ascend before [] = true
ascend before (x ∷ []) = true
ascend before (x ∷ y ∷ ys) = before x y && ascend before (y ∷ ys)

abbrev pub is_ascending : {X : Type 0} → (X → Bool) → (X → X → Bool) → List X → Bool
is_ascending is before xs = is_list is xs && ascend before xs

-- number by number, a front first
abbrev pub ident_before : List ℕ → List ℕ → Bool
ident_before i j = is_lt (lexical i j)

module _ {X : Type 0} (is : X → Bool) (bytes : X → List ℕ) (before : X → X → Bool) where
  pub listed : (whole rest : List ℕ) (xs : List X) → Stands (is_ascending is before) (list_bytes bytes) whole xs rest
      → Stands (is_list is) (list_bytes bytes) whole xs rest
  listed whole rest xs s = record { in_range = and_left (is_list is xs) (ascend before xs) s.in_range; split = s.split }

  pub ascending_apart : AreApart is bytes → AreApart (is_ascending is before) (list_bytes bytes)
  ascending_apart apart xs ys whole a b sx sy = list_apart is bytes apart xs ys whole a b (listed whole a xs sx) (listed whole b ys sy)

  pub none_listed : (whole : List ℕ) → NoneStands (is_list is) (list_bytes bytes) whole → NoneStands (is_ascending is before) (list_bytes bytes) whole
  none_listed whole none xs rest s = none xs rest (listed whole rest xs s)

  -- the one list that stands doesn't ascend
  pub none_ascends : (whole rest : List ℕ) (xs : List X) → AreApart is bytes → Stands (is_list is) (list_bytes bytes) whole xs rest
      → ascend before xs ≡ false
      → NoneStands (is_ascending is before) (list_bytes bytes) whole
  none_ascends whole rest xs apart read falls ys end s =
      let same = list_apart is bytes apart xs ys whole rest end read (listed whole end ys s) in
      not_both (ascend before xs) falls (ap (ascend before) same.0 ∙ and_right (is_list is ys) (ascend before ys) s.in_range)
    where
      not_both : (b : Bool) → b ≡ false → b ≡ true → ⊥
      not_both b e d = cc

-- one alone ascends
pub few_ascend : {X : Type 0} (before : X → X → Bool) (xs : List X) → length xs ≤ 1 → ascend before xs ≡ true
few_ascend before [] few = refl
few_ascend before (x ∷ []) few = refl
few_ascend before (x ∷ y ∷ ys) few = absurd (omega (arith, few))
