-- When no rule is attached. Our own.
use Rattle.std.specs.Prelude.{◌≡◌, ◌≤◌, ◌<◌, ◌++◌, ◌∷◌, ℕ, Bool, true, false, List, [], length, Option, Some, None, Result, Ok, Err}
use Rattle.yw_rdr.specs.Rules.{Kept, rules_of}
use Rattle.yw_rdr.specs.declared.fault.RdrFault.{RdrFault}
use Rattle.yw_rdr.specs.declared.fault.RdrFault.TheVariants as faults
use Rattle.yw_state.specs.NewRule.{is_side, is_taken, most_rules}

-- the side isn't there; it is taken; the tree is full: the first of these, in this order
abbrev pub Refuses : RdrFault → List Kept → ℕ → Bool → Type 0
Refuses faults.UnknownPlace ks at side = is_side (length ks) at side ≡ false
Refuses faults.PlaceTaken ks at side = (is_side (length ks) at side ≡ true) × (is_taken (rules_of ks) at side ≡ true)
Refuses faults.Many ks at side = (is_side (length ks) at side ≡ true) × (is_taken (rules_of ks) at side ≡ false) × (most_rules ≤ length ks)
Refuses faults.Memory ks at side = Unit {0}

-- The side is there and free, and the tree has room.
pub record Takes (ks : List Kept) (at : ℕ) (side : Bool) : Type 0 where
  pub there : is_side (length ks) at side ≡ true
  pub free : is_taken (rules_of ks) at side ≡ false
  pub room : length ks < most_rules

-- this is why no rule is attached, or one may be
abbrev pub IfFault : Option RdrFault → List Kept → ℕ → Bool → Type 0
IfFault (Some faults.Memory) ks at side = ⊥
IfFault (Some fault) ks at side = Refuses fault ks at side
IfFault None ks at side = Takes ks at side

-- where the answer is a fault, this is why
abbrev pub OnFault : Result ℕ RdrFault → List Kept → ℕ → Bool → Type 0
OnFault (Ok number) ks at side = Unit {0}
OnFault (Err fault) ks at side = Refuses fault ks at side

-- After the rules stands this one, with the next number.
pub record IsAdded (old new : List Kept) (rule : Kept) (number : ℕ) : Type 0 where
  pub behind : new ≡ old ++ rule ∷ []
  pub next : number ≡ length new
