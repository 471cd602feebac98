-- What a rule that is added is answered, and a command.
use Rattle.std.proofs.Common.{◌≡◌, ℕ, List, Option, Some, Err, subst}
use Rattle.yw_library.specs.Accepts.{Answers, IfRefused}
use Rattle.yw_library.specs.Adding.{AlwaysRefuses, IsGrown, rule_of}
use Rattle.yw_library.specs.Holdings.{Holdings, with_holdings}
use Rattle.yw_library.specs.declared.fault.LibraryFault.{LibraryFault}
use Rattle.yw_library.specs.declared.fault.LibraryFault.TheVariants as faults
use Rattle.yw_library.specs.declared.trees.Room.{Room}
use Rattle.yw_library.specs.declared.trees.Wanted.{Wanted}
use Rattle.yw_state.proofs.OneRule.{command-breaks-one}
use Rattle.yw_state.specs.Broken.{Breaks}
use Rattle.yw_state.specs.RuleTree.{TreeRule}
use Rattle.yw_state.specs.State.{State}
use Rattle.yw_state.specs.declared.command.Command.{Command}
use Rattle.yw_state.specs.declared.rule.Refusal.{Refusal}
use Rattle.yw_state.specs.declared.tree.Conclusion.{Conclusion}
use Rattle.yw_texts.proofs.ReadingOnce.{reads_one}
use Rattle.yw_texts.specs.Texts.{reader}

-- with a copy of its text
pub grown_so : (old new : Holdings) (room : Room) (w : Wanted) (c : Conclusion) (text : List ℕ) → text ≡ w.when.now → (number : ℕ)
    → IsGrown old new room.owner w.place.now (record { at = w.at; side = w.side; when = text; test = room.test; conclusion = c }) number
    → IsGrown old new room.owner w.place.now (rule_of w room.test c) number
grown_so old new room w c text same number grown =
    subst
    (λ t.
    let r : TreeRule = record { at = w.at; side = w.side; when = t; test = room.test; conclusion = c } in
    IsGrown old new room.owner w.place.now r number)
    same grown

-- a refusal is the same said of another answer
pub refused_as : (A B : Type 0) (fault : LibraryFault) (P : Refusal → Type 0) → IfRefused {A = A} (Err fault) P → IfRefused {A = B} (Err fault) P
refused_as A B (faults.Refused refusal) P is = is
refused_as A B faults.Memory P is = tt

pub only_refused : (known : Holdings) (c : Command) (fault : LibraryFault)
    → IfRefused {A = Room} (Err fault) (λ refusal. AlwaysRefuses known c (Some refusal))
    → (s : State) (found : Option Refusal) → Breaks reader (with_holdings s known) c found → Answers {A = ℕ} (Err fault) found
only_refused known c (faults.Refused refusal) breaks s found h =
    command-breaks-one reader reads_one (with_holdings s known) c found (Some refusal) h (breaks s)
only_refused known c faults.Memory breaks s found h = tt
