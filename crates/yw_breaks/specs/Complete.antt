-- What a completion breaks first behind the check that the case is quiet, by what stands at the item; an assignment that is undefined isn't
-- looked at.
use Rattle.std.specs.Prelude.{◌≡◌, ◌||◌, ℕ, Bool, List, Option, Some, is_some, not, option_map, if◌then◌else◌}
use Rattle.yw_breaks.specs.Finds.{ByHeld}
use Rattle.yw_known.specs.declared.here.ItemHere.{ItemHere}
use Rattle.yw_state.specs.Broken.{placed, placeless}
use Rattle.yw_state.specs.Given.{misfit}
use Rattle.yw_state.specs.Nets.{is_atomic}
use Rattle.yw_state.specs.declared.command.Given.{Given}
use Rattle.yw_state.specs.declared.rule.Refusal.{Refusal}
use Rattle.yw_state.specs.declared.rule.Rule.TheVariants as rules
use Rattle.yw_task.specs.Asked.{complete_fault}
use Rattle.yw_task.specs.Completes.{or_else}
use Rattle.yw_tree.specs.declared.Forest.{Forest}
use Rattle.yw_tree.specs.declared.Node.{out-Node}

-- persons don't do it, or a net stands for it
abbrev pub is_by_itself : ItemHere → Bool
is_by_itself h = not (is_atomic h.task.now) || is_some (out-Node h.item.now).net

-- by whether work at the item is held
abbrev pub most_broken : List ℕ → List Given → ItemHere → Bool → Option Refusal
most_broken who gs h held =
    if is_by_itself h then Some (placeless rules.ByItself) else
    (if held then Some (placeless rules.Held) else
    or_else (option_map (placed rules.Output) (misfit h.task.now.outs gs)) (complete_fault h.item.now who))

-- in each state that is held
abbrev pub FindsMost : Forest → List ℕ → List Given → ItemHere → Option Refusal → Type 0
FindsMost f who gs h found = ByHeld f (out-Node h.item.now).id (λ held. found ≡ most_broken who gs h held)
