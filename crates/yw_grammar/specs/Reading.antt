-- What the parser's answer says of the lexemes.
use Rattle.std.specs.Prelude.{◌≡◌, ℕ, List, Result, Ok, Err}
use Rattle.yw_grammar.specs.declared.symbol.Lexeme.{Lexeme}
use Rattle.yw_grammar.specs.declared.tree.SyntaxTree.{SyntaxTree}
use Rattle.yw_grammar.specs.declared.tree.SyntaxFault.{SyntaxFault}
use Rattle.yw_grammar.specs.declared.tree.SyntaxFault.TheVariants as faults
use Rattle.yw_grammar.specs.Grammar.{Form, AreAll, IsSyntaxFault}
use Rattle.yw_grammar.specs.SyntaxTree.{form_of}

abbrev pub IsFault : SyntaxFault → List Lexeme → ℕ → Type 0
IsFault faults.Memory ts end = Unit {0}
IsFault (faults.At p) ts end = IsSyntaxFault ts end p

-- the expression that the lexemes spell, or the first fault in them, unless memory ran out
abbrev pub Reads : Result SyntaxTree SyntaxFault → List Lexeme → ℕ → Type 0
Reads (Ok t) ts end = AreAll ts (form_of t)
Reads (Err f) ts end = IsFault f ts end

abbrev pub IsNoFault : SyntaxFault → Type 0
IsNoFault faults.Memory = Unit {0}
IsNoFault (faults.At p) = ⊥

-- nothing else was read, and no fault was found, unless memory ran out
abbrev pub IsOnly : Result SyntaxTree SyntaxFault → Form → Type 0
IsOnly (Ok t) e = form_of t ≡ e
IsOnly (Err f) e = IsNoFault f

abbrev pub IsPlace : SyntaxFault → ℕ → Type 0
IsPlace faults.Memory at = Unit {0}
IsPlace (faults.At p) at = p ≡ at

-- the fault was found, and in no other place, unless memory ran out
abbrev pub IsOnlyFault : Result SyntaxTree SyntaxFault → ℕ → Type 0
IsOnlyFault (Ok t) at = ⊥
IsOnlyFault (Err f) at = IsPlace f at
