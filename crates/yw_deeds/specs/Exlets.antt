-- Whether a check that is due, or what happens outside, begins an exlet.
use Rattle.std.specs.Prelude.{◌&&◌, ◌||◌, Bool, is_none, not, ℕ}
use Rattle.yw_state.specs.Allowed.{begins_exlet, cannot_begin, comes_next, concludes, is_next, is_raised}
use Rattle.yw_state.specs.Identity.{Ident}
use Rattle.yw_state.specs.Judged.{judged}
use Rattle.yw_state.specs.State.{State, is_target}
use Rattle.yw_state.specs.Words.{busy}
use Rattle.yw_state.specs.declared.tree.TreeKind.{TreeKind}

-- the check concludes nothing, or what it concludes can't be begun
abbrev pub ends_in_nothing : State → Ident → TreeKind → Bool
ends_in_nothing s j check = is_none (judged s j check) || cannot_begin s j check

-- it comes next
abbrev pub passes : State → Ident → TreeKind → Bool
passes s j check = comes_next s j check && ends_in_nothing s j check

-- the check comes next, and concludes this exlet
abbrev pub excepts : State → Ident → TreeKind → ℕ → ℕ → Bool
excepts s j check node n = begins_exlet check && comes_next s j check && concludes s j check node && is_next s n

-- what happens outside concludes this exlet at a case or an item, at which none is at work
abbrev pub raises : State → Ident → TreeKind → ℕ → ℕ → Bool
raises s j kind node n = is_target s j && is_raised kind && not (busy s j) && concludes s j kind node && is_next s n
