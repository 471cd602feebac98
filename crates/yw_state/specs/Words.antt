-- The words in which the state is spoken of. Active is the paper's: a task is active in a net while items of it stand there. Held,
-- busy, urgent and clear say when an exlet holds work back; they are our own.
use Rattle.std.specs.Prelude.{ℕ, ◌==◌, ◌&&◌, ◌||◌, Bool, true, false, not, length, Option, is_some, nat_lt}
use Rattle.yw_base.specs.Identity.{under, case_number}
use Rattle.yw_state.specs.Identity.{Ident, strictly_under, is_child}
use Rattle.yw_state.specs.Options.{is_some_and}
use Rattle.yw_state.specs.State.{State, ItemPart, RunPart, is_suspended, items_of, some_site}
use Rattle.yw_state.specs.declared.part.Checks.{Checks}
use Rattle.yw_state.specs.declared.part.Stage.{Stage}
use Rattle.yw_state.specs.declared.part.Stage.TheVariants.{Ready, Executing, Completed}
use Rattle.yw_state.specs.declared.tree.TreeKind.{TreeKind}
use Rattle.yw_state.specs.declared.tree.TreeKind.TheVariants.{Pre, Select, Post}

-- ---- stages

abbrev pub is_ready : Stage → Bool
is_ready Ready = true
is_ready stage = false

abbrev pub is_executing : Stage → Bool
is_executing Executing = true
is_executing stage = false

abbrev pub is_completed : Stage → Bool
is_completed Completed = true
is_completed stage = false

-- ---- checks: pre, then select, then post

abbrev pub any_due : Checks → Bool
any_due c = c.pre || c.select || c.post

-- a kind that is no check is never due
abbrev pub has_check : Checks → TreeKind → Bool
has_check c Pre = c.pre
has_check c Select = c.select
has_check c Post = c.post
has_check c kind = false

abbrev pub is_first_due : Checks → TreeKind → Bool
is_first_due c Pre = c.pre
is_first_due c Select = c.select && not c.pre
is_first_due c Post = c.post && not c.pre && not c.select
is_first_due c kind = false

-- ---- words on identities

-- an item of task k stands in the net at i
abbrev pub active : State → Ident → ℕ → Bool
active s i k = nat_lt 0 (length (items_of s i k))

-- a run stands directly under j
abbrev pub busy : State → Ident → Bool
busy s j = some_site s (λ r x. is_some x.run && is_child r j)

-- a run stands under i, with j in it: work in a compensation isn't held by its own target's suspension
abbrev pub shielded : State → Ident → Ident → Bool
shielded s j i = some_site s (λ r x. is_some x.run && strictly_under r i && under j r)

-- what stands at j, or something above it, is suspended
abbrev pub held : State → Ident → Bool
held s j = some_site s (λ i x. x.suspended && under j i && not (shielded s j i))

abbrev pub is_at_work : Option RunPart → Bool
is_at_work run = is_some_and run (λ r. not r.waiting)

-- in case n a check is due at something that isn't busy, or a run doesn't wait
abbrev pub urgent : State → ℕ → Bool
urgent s n = some_site s (λ j x. case_number j == n && (any_due x.due && not (busy s j) || is_at_work x.run))

abbrev pub clear : State → Ident → Bool
clear s j = not (held s j) && not (urgent s (case_number j))

-- the item at j counts where its task exits
abbrev pub done : State → Ident → ItemPart → Bool
done s j x = is_completed x.stage && not (busy s j) && not (is_suspended s j)
