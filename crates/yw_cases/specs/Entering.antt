-- What is asked before the entry of a task.
use Rattle.std.specs.Cmp.Lexicographic.{pointwise}
use Rattle.std.specs.Prelude.{Bool, List, MatchOption, Option, [], false, filter, nat_eq, true, unwrap_or, ℕ, ◌&&◌, ◌≡◌, ◌∷◌}
use Rattle.yw_base.specs.declared.gate.Gate.{Gate}
use Rattle.yw_base.specs.declared.gate.Gate.TheVariants.{And, Or, Xor}
use Rattle.yw_mark.specs.Tokens.{is_marked}
use Rattle.yw_mark.specs.declared.join.Taken.{Taken}
use Rattle.yw_mark.specs.declared.join.Taken.TheVariants.{All, Marked, One}
use Rattle.yw_spec.specs.declared.spec.Net.{Net}
use Rattle.yw_spec.specs.declared.spec.Place.{Place}
use Rattle.yw_spec.specs.declared.task.Task.{Task}
use Rattle.yw_state.specs.Allowed.{place_numbers}
use Rattle.yw_state.specs.Nets.{is_among, place_number}
use Rattle.yw_state.specs.Options.{is_some_and}

abbrev pub first_number : Net → List Place → ℕ
first_number net [] = 0
first_number net (p ∷ ps) = unwrap_or (place_number net p) 0

-- the choice of a join that may stand for these places
abbrev pub candidate : Gate → Net → List Place → Taken
candidate And net places = All
candidate Xor net places = One (first_number net places)
candidate Or net places = Marked

-- the choice stands for exactly these places
abbrev pub stands_for : Net → List ℕ → List ℕ → List Place → Taken → Bool
stands_for net marks before places All = is_some_and (place_numbers net places) (λ cs. pointwise nat_eq cs before)
stands_for net marks before places (One c) =
    is_marked marks c && is_among before c && is_some_and (place_numbers net places) (λ cs. pointwise nat_eq cs (c ∷ []))
stands_for net marks before places Marked = is_some_and (place_numbers net places) (λ cs. pointwise nat_eq cs (filter (is_marked marks) before))

-- The choice is the one that may stand for these places, and stands for exactly them.
pub record IsChoice (net : Net) (marks : List ℕ) (task : Task) (places : List Place) (taken : Taken) : Type 0 where
  pub is : taken ≡ candidate task.join net places
  pub stands : stands_for net marks task.before places (candidate task.join net places) ≡ true

-- so it does, or none does
abbrev pub FindsChoice : Net → List ℕ → Task → List Place → Option Taken → Type 0
FindsChoice net marks task places found =
    MatchOption found (stands_for net marks task.before places (candidate task.join net places) ≡ false) (IsChoice net marks task places)
