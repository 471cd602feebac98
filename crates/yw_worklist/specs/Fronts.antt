-- Identities that are found by the fronts of others. Our own.
use Rattle.std.specs.List.{list_any}
use Rattle.std.specs.Ordering.{is_eq}
use Rattle.std.specs.Prelude.{◌≡◌, ℕ, Bool, cond, List, Vec}
use Rattle.std.specs.declared.alloc.Global.{Global}
use Rattle.yw_state.specs.Identity.{Ident}
use Rattle.yw_state.specs.Map.{lexical}
use Rattle.yw_worklist.specs.Offers.{is_here}
use Rattle.yw_worklist.specs.declared.fronts.Fronts.{Fronts}

abbrev pub Numbers : Type 0
Numbers = Vec ℕ Global

-- the identity of some of these is j
abbrev pub has_numbers : List Numbers → Ident → Bool
has_numbers ks j = list_any (λ k. is_eq (lexical j k.items)) ks

abbrev pub has_front : Fronts → Ident → Bool
has_front f j = has_numbers f.set.keys j

-- the same but for this identity, which is in it or isn't
abbrev pub SetsFront : Fronts → Fronts → Ident → Bool → Type 0
SetsFront old new id b = (j : Ident) → has_front new j ≡ cond (is_here id j) b (has_front old j)
