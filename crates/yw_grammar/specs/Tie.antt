-- What the code's values are as the machine's.
use Rattle.std.specs.Prelude.{◌≡◌, ℕ, List, [], ◌∷◌, ◌++◌, Option, Some, None, Result, Ok, Err}
use Rattle.yw_grammar.specs.declared.tree.SyntaxTree.{SyntaxTree}
use Rattle.yw_grammar.specs.declared.stack.Frame.{Frame}
use Rattle.yw_grammar.specs.declared.stack.Frame.TheVariants as frames
use Rattle.yw_grammar.specs.declared.parser.Hand.{Hand}
use Rattle.yw_grammar.specs.declared.parser.Hand.TheVariants as hands
use Rattle.yw_grammar.specs.declared.tree.SyntaxFault.{SyntaxFault}
use Rattle.yw_grammar.specs.declared.tree.SyntaxFault.TheVariants as faults
use Rattle.yw_grammar.specs.Grammar.{Form}
use Rattle.yw_grammar.specs.SyntaxTree.{form_of}
use Rattle.yw_grammar.specs.Machine.{Begun, side, before, group, function, place, State, want, have, bracket, literal, digits, listed}

abbrev pub begun_of : Frame → Begun
begun_of (frames.Side op at x) = side op at (form_of x)
begun_of (frames.Before op at) = before op at
begun_of frames.Group = group
begun_of (frames.Function f at) = function f at
begun_of (frames.Place at x) = place at (form_of x)

-- a stack whose top is last, from the top
abbrev pub tops : List Frame → List Begun
tops [] = []
tops (f ∷ fs) = tops fs ++ begun_of f ∷ []

abbrev pub state_of : List Frame → Hand → State
state_of fs hands.Wanted = want (tops fs)
state_of fs (hands.Held t) = have (tops fs) (form_of t)
state_of fs (hands.Bracket f at) = bracket f at (tops fs)
state_of fs (hands.Literal at v) = literal at v.items (tops fs)
state_of fs (hands.Digits at v) = digits at v.items (tops fs)
state_of fs (hands.Listed at v) = listed at v.items (tops fs)

-- what a step returned is what the machine's step gives, unless memory ran out
abbrev pub Fails : SyntaxFault → ℕ → Option State → Type 0
Fails faults.Memory at next = Unit {0}
Fails (faults.At p) at next = (next ≡ None) × (p ≡ at)

abbrev pub Gives : Result Hand SyntaxFault → List Frame → ℕ → Option State → Type 0
Gives (Ok hand) fs at next = next ≡ Some (state_of fs hand)
Gives (Err e) fs at next = Fails e at next

abbrev pub FailsAtEnd : SyntaxFault → Option Form → ℕ → Type 0
FailsAtEnd faults.Memory e end = Unit {0}
FailsAtEnd (faults.At at) e end = (e ≡ None) × (at ≡ end)

abbrev pub Finishes : Result SyntaxTree SyntaxFault → Option Form → ℕ → Type 0
Finishes (Ok t) e end = e ≡ Some (form_of t)
Finishes (Err f) e end = FailsAtEnd f e end
