-- What is read is spelled, and what is begun can be ended.
use Rattle.std.proofs.Common.{◌≡◌, ℕ, ◌≤◌, true, false, List, [], ◌∷◌, ◌++◌, Option, Some, None, refl, sym, ap, ◌∙◌, subst, append_assoc, arith, lit≤}
use Rattle.std.proofs.lemmas.List.{append-nil}
use Rattle.std.proofs.lemmas.Bool.{leb-true}
use Rattle.std.specs.Prelude.{nat_le, cond}
use Rattle.yw_grammar.specs.declared.symbol.Infix.{Infix}
use Rattle.yw_grammar.specs.declared.symbol.Infix.TheVariants.{Or, And, Equal, NotEqual, Less, LessOrEqual, Greater, GreaterOrEqual, Plus, Minus, Times, Divide, Remainder}
use Rattle.yw_grammar.specs.declared.symbol.Prefix.{Prefix}
use Rattle.yw_grammar.specs.declared.symbol.Prefix.TheVariants.{Not, Negate}
use Rattle.yw_grammar.specs.declared.symbol.Symbol.{Symbol}
use Rattle.yw_grammar.specs.declared.symbol.Symbol.TheVariants.{Atom, Operator, NotWord, Function, LeftParen, RightParen, LeftBracket, RightBracket, Comma}
use Rattle.yw_grammar.specs.declared.symbol.Leaf.TheVariants.{Number, Text}
use Rattle.yw_grammar.specs.declared.symbol.Literal.{Literal}
use Rattle.yw_grammar.specs.declared.symbol.Literal.TheVariants.{Plain, Negative}
use Rattle.yw_grammar.specs.declared.symbol.Call.{Call}
use Rattle.yw_grammar.specs.declared.symbol.Lexeme.{Lexeme}
use Rattle.yw_grammar.specs.Grammar.{Form, leaf, list, call, two, one, item, level_of, left_of, before_of, symbol_of, lexeme, IsLiteral, plain, negative, a_text, AreLiterals, last, then, Spells, looser, a_leaf, a_list, a_call, a_group, an_item, with_one, with_two, Begins, AreAll}
use Rattle.yw_grammar.specs.Machine.{Begun, side, before, group, function, place, State, want, have, bracket, literal, digits, listed, need, fold_top, begin_with, begin, sign_after, right_after, shut_after, go_on, enter, in_literal, in_digits, in_listed, step, run_on, whole, finish}
use Rattle.yw_grammar.proofs.Complete.{run_append, run_none, read}

-- these tokens are what is begun
abbrev pub Opens : List Begun → List Lexeme → Type 0
Opens [] ts = ts ≡ []
Opens (side op at x ∷ stack) ts = (front : List Lexeme) × (xs : List Lexeme) × (ts ≡ front ++ (xs ++ lexeme (Operator op) at ∷ [])) × Opens stack front × Spells (left_of op) xs x × (need stack ≤ level_of op)
Opens (before op at ∷ stack) ts = (front : List Lexeme) × (ts ≡ front ++ lexeme (symbol_of op) at ∷ []) × Opens stack front × (need stack ≤ before_of op)
Opens (group ∷ stack) ts = (front : List Lexeme) × (at : ℕ) × (ts ≡ front ++ lexeme LeftParen at ∷ []) × Opens stack front
Opens (function f at ∷ stack) ts = (front : List Lexeme) × (p : ℕ) × (ts ≡ front ++ lexeme (Function f) at ∷ lexeme LeftParen p ∷ []) × Opens stack front
Opens (place at x ∷ stack) ts = (front : List Lexeme) × (xs : List Lexeme) × (ts ≡ front ++ (xs ++ lexeme LeftBracket at ∷ [])) × Opens stack front × Spells 7 xs x

-- the literals of a list before one is wanted
pub data Before : List Lexeme → List Literal → Type 0 where
  nothing : Before [] []
  some : (p : ℕ) (xs : List Lexeme) (items : List Literal) → AreLiterals xs items → Before (xs ++ lexeme Comma p ∷ []) items

add_literal : {xs ys : List Lexeme} {items : List Literal} {y : Literal} → AreLiterals xs items → (p : ℕ) → IsLiteral ys y → AreLiterals (xs ++ lexeme Comma p ∷ ys) (items ++ y ∷ [])
add_literal {ys} {y} (last xs x r) p q = then p xs ys x (y ∷ []) r (last ys y q)
add_literal {ys} {y} (then m xs zs x rest r k) p q =
    subst (λ l. AreLiterals l (x ∷ (rest ++ y ∷ []))) (sym (append_assoc xs (lexeme Comma m ∷ zs) (lexeme Comma p ∷ ys)))
    (then m xs (zs ++ lexeme Comma p ∷ ys) x (rest ++ y ∷ []) r (add_literal k p q))

one_more : {xs ys : List Lexeme} {items : List Literal} {y : Literal} → Before xs items → IsLiteral ys y → AreLiterals (xs ++ ys) (items ++ y ∷ [])
one_more {ys} {y} nothing r = last ys y r
one_more {ys} {y} (some p xs items q) r = subst (λ l. AreLiterals l (items ++ y ∷ [])) (sym (append_assoc xs (lexeme Comma p ∷ []) ys)) (add_literal q p r)

-- these tokens led here, where what is at hand is of this level
abbrev pub At : ℕ → State → List Lexeme → Type 0
At l (want stack) ts = Opens stack ts
At l (have stack e) ts = (front : List Lexeme) × (xs : List Lexeme) × (ts ≡ front ++ xs) × Opens stack front × Spells l xs e
At l (bracket f at stack) ts = (front : List Lexeme) × (ts ≡ front ++ lexeme (Function f) at ∷ []) × Opens stack front
At l (literal at items stack) ts = (front : List Lexeme) × (xs : List Lexeme) × (ts ≡ front ++ (lexeme LeftBracket at ∷ xs)) × Opens stack front × Before xs items
At l (digits at items stack) ts = (front : List Lexeme) × (xs : List Lexeme) × (p : ℕ) × (ts ≡ front ++ (lexeme LeftBracket at ∷ xs ++ lexeme (Operator Minus) p ∷ [])) × Opens stack front × Before xs items
At l (listed at items stack) ts = (front : List Lexeme) × (xs : List Lexeme) × (ts ≡ front ++ (lexeme LeftBracket at ∷ xs)) × Opens stack front × AreLiterals xs items

-- the tokens that end all that is begun
abbrev pub closing : List Begun → List Lexeme
closing [] = []
closing (side op at x ∷ stack) = closing stack
closing (before op at ∷ stack) = closing stack
closing (group ∷ stack) = lexeme RightParen 0 ∷ closing stack
closing (function f at ∷ stack) = lexeme RightParen 0 ∷ closing stack
closing (place at x ∷ stack) = lexeme RightBracket 0 ∷ closing stack

-- what is put together from these tokens
abbrev pub Some_spelled : List Lexeme → Type 0
Some_spelled ts = (f : Form) × Spells 0 ts f

need_seven : (stack : List Begun) → need stack ≤ 7
need_seven [] = lit≤ tt
need_seven (side Or at x ∷ stack) = lit≤ tt
need_seven (side And at x ∷ stack) = lit≤ tt
need_seven (side Equal at x ∷ stack) = lit≤ tt
need_seven (side NotEqual at x ∷ stack) = lit≤ tt
need_seven (side Less at x ∷ stack) = lit≤ tt
need_seven (side LessOrEqual at x ∷ stack) = lit≤ tt
need_seven (side Greater at x ∷ stack) = lit≤ tt
need_seven (side GreaterOrEqual at x ∷ stack) = lit≤ tt
need_seven (side Plus at x ∷ stack) = lit≤ tt
need_seven (side Minus at x ∷ stack) = lit≤ tt
need_seven (side Times at x ∷ stack) = lit≤ tt
need_seven (side Divide at x ∷ stack) = lit≤ tt
need_seven (side Remainder at x ∷ stack) = lit≤ tt
need_seven (before Not at ∷ stack) = lit≤ tt
need_seven (before Negate at ∷ stack) = lit≤ tt
need_seven (group ∷ stack) = lit≤ tt
need_seven (function f at ∷ stack) = lit≤ tt
need_seven (place at x ∷ stack) = lit≤ tt

need_eight : (stack : List Begun) → need stack ≤ 8
need_eight stack = let h = need_seven stack in omega arith

regroup_two : (a b : List Lexeme) (t : Lexeme) (xs c : List Lexeme) → (a ++ (b ++ t ∷ [])) ++ (xs ++ c) ≡ a ++ ((b ++ t ∷ xs) ++ c)
regroup_two a b t xs c = simp append_assoc

regroup_one : (a : List Lexeme) (t : Lexeme) (xs c : List Lexeme) → (a ++ t ∷ []) ++ (xs ++ c) ≡ a ++ ((t ∷ xs) ++ c)
regroup_one a t xs c = simp append_assoc

regroup_group : (a : List Lexeme) (t u : Lexeme) (xs c : List Lexeme) → (a ++ t ∷ []) ++ (xs ++ u ∷ c) ≡ a ++ ((t ∷ xs ++ u ∷ []) ++ c)
regroup_group a t u xs c = simp append_assoc

regroup_call : (a : List Lexeme) (t v u : Lexeme) (xs c : List Lexeme) → (a ++ t ∷ v ∷ []) ++ (xs ++ u ∷ c) ≡ a ++ ((t ∷ v ∷ xs ++ u ∷ []) ++ c)
regroup_call a t v u xs c = simp append_assoc

regroup_item : (a b : List Lexeme) (t u : Lexeme) (xs c : List Lexeme) → (a ++ (b ++ t ∷ [])) ++ (xs ++ u ∷ c) ≡ a ++ ((b ++ t ∷ xs ++ u ∷ []) ++ c)
regroup_item a b t u xs c = simp append_assoc

-- what is at hand ends what is begun: with the closing tokens all is an expression
pub closes : (stack : List Begun) (front xs : List Lexeme) (e : Form) (l : ℕ) → Opens stack front → Spells l xs e → need stack ≤ l → Some_spelled (front ++ (xs ++ closing stack))
closes [] front xs e l o r h = (e, subst (λ t. Spells 0 t e) (sym (ap (λ f. f ++ (xs ++ [])) o ∙ append-nil xs)) (looser (omega arith) r))
closes (side op at x ∷ stack) front xs e l (a, b, eq, o, rx, n) r h =
    subst Some_spelled (sym (ap (λ f. f ++ (xs ++ closing stack)) eq ∙ regroup_two a b (lexeme (Operator op) at) xs (closing stack)))
    (closes stack a (b ++ lexeme (Operator op) at ∷ xs) (two op at x e) (level_of op) o (with_two op at b xs rx (looser h r)) n)
closes (before op at ∷ stack) front xs e l (a, eq, o, n) r h =
    subst Some_spelled (sym (ap (λ f. f ++ (xs ++ closing stack)) eq ∙ regroup_one a (lexeme (symbol_of op) at) xs (closing stack)))
    (closes stack a (lexeme (symbol_of op) at ∷ xs) (one op at e) (before_of op) o (with_one op at (looser h r)) n)
closes (group ∷ stack) front xs e l (a, at, eq, o) r h =
    subst Some_spelled (sym (ap (λ f. f ++ (xs ++ closing (group ∷ stack))) eq ∙ regroup_group a (lexeme LeftParen at) (lexeme RightParen 0) xs (closing stack)))
    (closes stack a (lexeme LeftParen at ∷ xs ++ lexeme RightParen 0 ∷ []) e 8 o (a_group at 0 xs (looser h r)) (need_eight stack))
closes (function f at ∷ stack) front xs e l (a, p, eq, o) r h =
    subst Some_spelled (sym (ap (λ f. f ++ (xs ++ closing (group ∷ stack))) eq ∙ regroup_call a (lexeme (Function f) at) (lexeme LeftParen p) (lexeme RightParen 0) xs (closing stack)))
    (closes stack a (lexeme (Function f) at ∷ lexeme LeftParen p ∷ xs ++ lexeme RightParen 0 ∷ []) (call f at e) 8 o (a_call f at p 0 xs (looser h r)) (need_eight stack))
closes (place at x ∷ stack) front xs e l (a, b, eq, o, rx) r h =
    subst Some_spelled (sym (ap (λ f. f ++ (xs ++ closing (place at x ∷ stack))) eq ∙ regroup_item a b (lexeme LeftBracket at) (lexeme RightBracket 0) xs (closing stack)))
    (closes stack a (b ++ lexeme LeftBracket at ∷ xs ++ lexeme RightBracket 0 ∷ []) (item at x e) 7 o (an_item at 0 b xs rx (looser h r)) (need_seven stack))

joined_two : (a b : List Lexeme) (t : Lexeme) (xs : List Lexeme) → (a ++ (b ++ t ∷ [])) ++ xs ≡ a ++ (b ++ t ∷ xs)
joined_two a b t xs = simp append_assoc

joined_one : (a : List Lexeme) (t : Lexeme) (xs : List Lexeme) → (a ++ t ∷ []) ++ xs ≡ a ++ t ∷ xs
joined_one a t xs = simp append_assoc

joined_group : (a : List Lexeme) (t u : Lexeme) (xs : List Lexeme) → ((a ++ t ∷ []) ++ xs) ++ u ∷ [] ≡ a ++ (t ∷ xs ++ u ∷ [])
joined_group a t u xs = simp append_assoc

joined_call : (a : List Lexeme) (t v u : Lexeme) (xs : List Lexeme) → ((a ++ t ∷ v ∷ []) ++ xs) ++ u ∷ [] ≡ a ++ (t ∷ v ∷ xs ++ u ∷ [])
joined_call a t v u xs = simp append_assoc

joined_item : (a b : List Lexeme) (t u : Lexeme) (xs : List Lexeme) → ((a ++ (b ++ t ∷ [])) ++ xs) ++ u ∷ [] ≡ a ++ (b ++ t ∷ xs ++ u ∷ [])
joined_item a b t u xs = simp append_assoc

-- An operand ends what is begun down to this level, and is then of this level.
pub folds : (l : ℕ) (stack : List Begun) (front xs : List Lexeme) (e : Form) (h : ℕ) → Opens stack front → Spells h xs e → need stack ≤ h → l ≤ h → At l (fold_top l stack e) (front ++ xs)
folds l [] front xs e h o r n k = (front, xs, refl, o, looser k r)
folds l (side op at x ∷ stack) front xs e h (a, b, eq, o, rx, m) r n k =
    elim (nat_le l (level_of op)) as (λ c. nat_le l (level_of op) ≡ c → At l (cond c (fold_top l stack (two op at x e)) (have (side op at x ∷ stack) e)) (front ++ xs)) [
      | true ↦ λ y. subst (At l (fold_top l stack (two op at x e))) (sym (ap (λ f. f ++ xs) eq ∙ joined_two a b (lexeme (Operator op) at) xs))
          (folds l stack a (b ++ lexeme (Operator op) at ∷ xs) (two op at x e) (level_of op) o (with_two op at b xs rx (looser n r)) m (leb-true _ _ y))
      | false ↦ λ y. (front, xs, refl, (a, b, eq, o, rx, m), looser k r)
    ] refl
folds l (before op at ∷ stack) front xs e h (a, eq, o, m) r n k =
    elim (nat_le l (before_of op)) as (λ c. nat_le l (before_of op) ≡ c → At l (cond c (fold_top l stack (one op at e)) (have (before op at ∷ stack) e)) (front ++ xs)) [
      | true ↦ λ y. subst (At l (fold_top l stack (one op at e))) (sym (ap (λ f. f ++ xs) eq ∙ joined_one a (lexeme (symbol_of op) at) xs))
          (folds l stack a (lexeme (symbol_of op) at ∷ xs) (one op at e) (before_of op) o (with_one op at (looser n r)) m (leb-true _ _ y))
      | false ↦ λ y. (front, xs, refl, (a, eq, o, m), looser k r)
    ] refl
folds l (group ∷ stack) front xs e h o r n k = (front, xs, refl, o, looser k r)
folds l (function f at ∷ stack) front xs e h o r n k = (front, xs, refl, o, looser k r)
folds l (place at x ∷ stack) front xs e h o r n k = (front, xs, refl, o, looser k r)

-- whatever it is, it is so
abbrev pub If_any : {A : Type 0} → Option A → (A → Type 0) → Type 0
If_any None p = Unit {0}
If_any (Some x) p = p x

any_is : {A : Type 0} {o : Option A} {x : A} (p : A → Type 0) → o ≡ Some x → If_any o p → p x
any_is {A} p e h = let q : Option A → Type 0 = λ o. If_any o p in subst q e h

begins_with : (op : Prefix) (at : ℕ) (stack : List Begun) (ts : List Lexeme) → Opens stack ts → If_any (begin_with op at stack) (λ s. At 7 s (ts ++ lexeme (symbol_of op) at ∷ []))
begins_with op at stack ts o =
    elim (nat_le (need stack) (before_of op)) as (λ c. nat_le (need stack) (before_of op) ≡ c → If_any (cond c (Some (want (before op at ∷ stack))) None) (λ s. At 7 s (ts ++ lexeme (symbol_of op) at ∷ []))) [
      | true ↦ λ y. (ts, refl, o, leb-true _ _ y)
      | false ↦ λ y. tt
    ] refl

begins : (sy : Symbol) (at : ℕ) (stack : List Begun) (ts : List Lexeme) → Opens stack ts → If_any (begin sy at stack) (λ s. At 7 s (ts ++ lexeme sy at ∷ []))
begins (Atom x) at stack ts o = (ts, lexeme (Atom x) at ∷ [], refl, o, looser (lit≤ tt) (a_leaf x at))
begins (Operator Minus) at stack ts o = begins_with Negate at stack ts o
begins (Operator op) at stack ts o = tt
begins NotWord at stack ts o = begins_with Not at stack ts o
begins LeftParen at stack ts o = (ts, at, refl, o)
begins RightParen at stack ts o = tt
begins (Function f) at stack ts o = (ts, refl, o)
begins LeftBracket at stack ts o = (ts, [], refl, o, nothing)
begins Comma at stack ts o = tt
begins RightBracket at stack ts o = tt

signs : (op : Infix) (at : ℕ) (s : State) (ts : List Lexeme) → At (left_of op) s ts → If_any (sign_after op at s) (λ z. At 7 z (ts ++ lexeme (Operator op) at ∷ []))
signs op at (have stack e) ts (a, xs, eq, o, r) =
    elim (nat_le (need stack) (level_of op)) as (λ c. nat_le (need stack) (level_of op) ≡ c → If_any (cond c (Some (want (side op at e ∷ stack))) None) (λ z. At 7 z (ts ++ lexeme (Operator op) at ∷ []))) [
      | true ↦ λ y. (a, xs, ap (λ f. f ++ lexeme (Operator op) at ∷ []) eq ∙ append_assoc a xs (lexeme (Operator op) at ∷ []), o, r, leb-true _ _ y)
      | false ↦ λ y. tt
    ] refl
signs op at s ts h = tt

rights : (at : ℕ) (s : State) (ts : List Lexeme) → At 0 s ts → If_any (right_after s) (λ z. At 7 z (ts ++ lexeme RightParen at ∷ []))
rights at (have (group ∷ stack) e) ts (f, xs, eq, (a, p, eq2, o), r) =
    (a, lexeme LeftParen p ∷ xs ++ lexeme RightParen at ∷ [], ap (λ l. l ++ lexeme RightParen at ∷ []) (eq ∙ ap (λ l. l ++ xs) eq2) ∙ joined_group a (lexeme LeftParen p) (lexeme RightParen at) xs, o, looser (lit≤ tt) (a_group p at xs r))
rights at (have (function g q ∷ stack) e) ts (f, xs, eq, (a, p, eq2, o), r) =
    (a, lexeme (Function g) q ∷ lexeme LeftParen p ∷ xs ++ lexeme RightParen at ∷ [], ap (λ l. l ++ lexeme RightParen at ∷ []) (eq ∙ ap (λ l. l ++ xs) eq2) ∙ joined_call a (lexeme (Function g) q) (lexeme LeftParen p) (lexeme RightParen at) xs, o, looser (lit≤ tt) (a_call g q p at xs r))
rights at s ts h = tt

shuts : (at : ℕ) (s : State) (ts : List Lexeme) → At 0 s ts → If_any (shut_after s) (λ z. At 7 z (ts ++ lexeme RightBracket at ∷ []))
shuts at (have (place p x ∷ stack) e) ts (f, xs, eq, (a, b, eq2, o, rx), r) =
    (a, b ++ lexeme LeftBracket p ∷ xs ++ lexeme RightBracket at ∷ [], ap (λ l. l ++ lexeme RightBracket at ∷ []) (eq ∙ ap (λ l. l ++ xs) eq2) ∙ joined_item a b (lexeme LeftBracket p) (lexeme RightBracket at) xs, o, an_item p at b xs rx r)
shuts at s ts h = tt

left_le : (op : Infix) → left_of op ≤ 7
left_le Or = lit≤ tt
left_le And = lit≤ tt
left_le Equal = lit≤ tt
left_le NotEqual = lit≤ tt
left_le Less = lit≤ tt
left_le LessOrEqual = lit≤ tt
left_le Greater = lit≤ tt
left_le GreaterOrEqual = lit≤ tt
left_le Plus = lit≤ tt
left_le Minus = lit≤ tt
left_le Times = lit≤ tt
left_le Divide = lit≤ tt
left_le Remainder = lit≤ tt

-- what an operand at hand ends, from the tokens so far
folded : (l : ℕ) (stack : List Begun) (e : Form) (ts : List Lexeme) → l ≤ 7 → At 7 (have stack e) ts → At l (fold_top l stack e) ts
folded l stack e ts k (a, xs, eq, o, r) = subst (At l (fold_top l stack e)) (sym eq) (folds l stack a xs e 7 o r (need_seven stack) k)

goes_on : (sy : Symbol) (at : ℕ) (stack : List Begun) (e : Form) (ts : List Lexeme) → At 7 (have stack e) ts → If_any (go_on sy at stack e) (λ s. At 7 s (ts ++ lexeme sy at ∷ []))
goes_on (Atom x) at stack e ts h = tt
goes_on (Function f) at stack e ts h = tt
goes_on Comma at stack e ts h = tt
goes_on (Operator op) at stack e ts h = signs op at (fold_top (left_of op) stack e) ts (folded (left_of op) stack e ts (left_le op) h)
goes_on NotWord at stack e ts h = tt
goes_on LeftParen at stack e ts h = tt
goes_on RightParen at stack e ts h = rights at (fold_top 0 stack e) ts (folded 0 stack e ts (lit≤ tt) h)
goes_on LeftBracket at stack e ts (a, xs, eq, o, r) = (a, xs, ap (λ f. f ++ lexeme LeftBracket at ∷ []) eq ∙ append_assoc a xs (lexeme LeftBracket at ∷ []), o, r)
goes_on RightBracket at stack e ts h = shuts at (fold_top 0 stack e) ts (folded 0 stack e ts (lit≤ tt) h)

enters : (f : Call) (at : ℕ) (stack : List Begun) (sy : Symbol) (p : ℕ) (ts : List Lexeme) → At 7 (bracket f at stack) ts → If_any (enter f at stack sy) (λ s. At 7 s (ts ++ lexeme sy p ∷ []))
enters f at stack LeftParen p ts (a, eq, o) = (a, p, ap (λ l. l ++ lexeme LeftParen p ∷ []) eq ∙ append_assoc a (lexeme (Function f) at ∷ []) (lexeme LeftParen p ∷ []), o)
enters f at stack sy p ts h = tt

grown : (ts a : List Lexeme) (u t : Lexeme) (xs : List Lexeme) → ts ≡ a ++ u ∷ xs → ts ++ t ∷ [] ≡ a ++ u ∷ (xs ++ t ∷ [])
grown ts a u t xs eq = ap (λ l. l ++ t ∷ []) eq ∙ append_assoc a (u ∷ xs) (t ∷ [])

grown_more : (ts a : List Lexeme) (u m t : Lexeme) (xs : List Lexeme) → ts ≡ a ++ (u ∷ xs ++ m ∷ []) → ts ++ t ∷ [] ≡ a ++ u ∷ (xs ++ m ∷ t ∷ [])
grown_more ts a u m t xs eq = ap (λ l. l ++ t ∷ []) eq ∙ simp append_assoc

literals : (at : ℕ) (items : List Literal) (stack : List Begun) (sy : Symbol) (p : ℕ) (ts : List Lexeme) → At 7 (literal at items stack) ts → If_any (in_literal at items stack sy) (λ s. At 7 s (ts ++ lexeme sy p ∷ []))
literals at items stack (Atom (Number n)) p ts (a, xs, eq, o, b) = (a, xs ++ lexeme (Atom (Number n)) p ∷ [], grown ts a (lexeme LeftBracket at) (lexeme (Atom (Number n)) p) xs eq, o, one_more b (plain n p))
literals at items stack (Atom (Text span)) p ts (a, xs, eq, o, b) = (a, xs ++ lexeme (Atom (Text span)) p ∷ [], grown ts a (lexeme LeftBracket at) (lexeme (Atom (Text span)) p) xs eq, o, one_more b (a_text span p))
literals at items stack (Operator Minus) p ts (a, xs, eq, o, b) = (a, xs, p, grown ts a (lexeme LeftBracket at) (lexeme (Operator Minus) p) xs eq, o, b)
literals at items stack sy p ts h = tt

digit : (at : ℕ) (items : List Literal) (stack : List Begun) (sy : Symbol) (p : ℕ) (ts : List Lexeme) → At 7 (digits at items stack) ts → If_any (in_digits at items stack sy) (λ s. At 7 s (ts ++ lexeme sy p ∷ []))
digit at items stack (Atom (Number n)) p ts (a, xs, m, eq, o, b) = (a, xs ++ lexeme (Operator Minus) m ∷ lexeme (Atom (Number n)) p ∷ [], grown_more ts a (lexeme LeftBracket at) (lexeme (Operator Minus) m) (lexeme (Atom (Number n)) p) xs eq, o, one_more b (negative n m p))
digit at items stack sy p ts h = tt

lists : (at : ℕ) (items : List Literal) (stack : List Begun) (sy : Symbol) (p : ℕ) (ts : List Lexeme) → At 7 (listed at items stack) ts → If_any (in_listed at items stack sy) (λ s. At 7 s (ts ++ lexeme sy p ∷ []))
lists at items stack Comma p ts (a, xs, eq, o, r) = (a, xs ++ lexeme Comma p ∷ [], grown ts a (lexeme LeftBracket at) (lexeme Comma p) xs eq, o, some p xs items r)
lists at items stack RightBracket p ts (a, xs, eq, o, r) = (a, lexeme LeftBracket at ∷ xs ++ lexeme RightBracket p ∷ [], grown ts a (lexeme LeftBracket at) (lexeme RightBracket p) xs eq, o, looser (lit≤ tt) (a_list at p xs items r))
lists at items stack sy p ts h = tt

steps : (s : State) (t : Lexeme) (ts : List Lexeme) → At 7 s ts → If_any (step s t) (λ z. At 7 z (ts ++ t ∷ []))
steps (want stack) t ts h = begins t.symbol t.at stack ts h
steps (have stack e) t ts h = goes_on t.symbol t.at stack e ts h
steps (bracket f at stack) t ts h = enters f at stack t.symbol t.at ts h
steps (literal at items stack) t ts h = literals at items stack t.symbol t.at ts h
steps (digits at items stack) t ts h = digit at items stack t.symbol t.at ts h
steps (listed at items stack) t ts h = lists at items stack t.symbol t.at ts h

runs : (o : Option State) (ts front : List Lexeme) → If_any o (λ s. At 7 s front) → If_any (run_on o ts) (λ s. At 7 s (front ++ ts))
runs o [] front h = let p : List Lexeme → Type 0 = λ l. If_any o (λ s. At 7 s l) in subst p (sym (append-nil front)) h
runs None (t ∷ ts) front h = tt
runs (Some s) (t ∷ ts) front h = let p : List Lexeme → Type 0 = λ l. If_any (run_on (step s t) ts) (λ z. At 7 z l) in subst p (joined_one front t ts) (runs (step s t) ts (front ++ t ∷ []) (steps s t front h))

-- what begins with one lexeme more begins without it
begins_less : (ts : List Lexeme) (t : Lexeme) → Begins (ts ++ t ∷ []) → Begins ts
begins_less ts t (more, e, r) = (t ∷ more, e, subst (λ l. Spells 0 l e) (append_assoc ts (t ∷ []) more) r)

-- whatever the tokens so far led to, more tokens make an expression of it
has : (stack : List Begun) (e : Form) (ts : List Lexeme) → At 7 (have stack e) ts → Begins ts
has stack e ts (a, xs, eq, o, r) =
    let (f, q) = closes stack a xs e 7 o r (need_seven stack) in
    (closing stack, f, subst (λ l. Spells 0 l f) (sym (ap (λ l. l ++ closing stack) eq ∙ append_assoc a xs (closing stack))) q)

wants : (stack : List Begun) (ts : List Lexeme) → At 7 (want stack) ts → Begins ts
wants stack ts h = let t = lexeme (Atom (Number 0)) 0 in begins_less ts t (has stack (leaf 0 (Number 0)) (ts ++ t ∷ []) (steps (want stack) t ts h))

lists_end : (at : ℕ) (items : List Literal) (stack : List Begun) (ts : List Lexeme) → At 7 (listed at items stack) ts → Begins ts
lists_end at items stack ts h = let t = lexeme RightBracket 0 in begins_less ts t (has stack (list at items) (ts ++ t ∷ []) (steps (listed at items stack) t ts h))

pub completes : (s : State) (ts : List Lexeme) → At 7 s ts → Begins ts
completes (want stack) ts h = wants stack ts h
completes (have stack e) ts h = has stack e ts h
completes (bracket f at stack) ts h = let t = lexeme LeftParen 0 in begins_less ts t (wants (function f at ∷ stack) (ts ++ t ∷ []) (steps (bracket f at stack) t ts h))
completes (literal at items stack) ts h = let t = lexeme (Atom (Number 0)) 0 in begins_less ts t (lists_end at (items ++ Plain 0 ∷ []) stack (ts ++ t ∷ []) (steps (literal at items stack) t ts h))
completes (digits at items stack) ts h = let t = lexeme (Atom (Number 0)) 0 in begins_less ts t (lists_end at (items ++ Negative 0 ∷ []) stack (ts ++ t ∷ []) (steps (digits at items stack) t ts h))
completes (listed at items stack) ts h = lists_end at items stack ts h

wholes : (s : State) (ts : List Lexeme) → At 0 s ts → If_any (whole s) (λ e. Spells 0 ts e)
wholes (have [] e) ts (a, xs, eq, o, r) = subst (λ l. Spells 0 l e) (sym (eq ∙ ap (λ f. f ++ xs) o)) r
wholes s ts h = tt

finishes : (s : State) (ts : List Lexeme) → At 7 s ts → If_any (finish s) (λ e. Spells 0 ts e)
finishes (have stack e) ts h = wholes (fold_top 0 stack e) ts (folded 0 stack e ts (lit≤ tt) h)
finishes s ts h = tt

-- the five facts about a run from the start

at_end : (ts : List Lexeme) (s : State) → run_on (Some (want [])) ts ≡ Some s → At 7 s ts
at_end ts s e = any_is (λ z. At 7 z ts) e (runs (Some (want [])) ts [] refl)

pub sound : (ts : List Lexeme) (s : State) (e : Form) → run_on (Some (want [])) ts ≡ Some s → finish s ≡ Some e → AreAll ts e
sound ts s e h k = any_is (λ f. AreAll ts f) k (finishes s ts (at_end ts s h))

pub begins_if : (ts : List Lexeme) (s : State) → run_on (Some (want [])) ts ≡ Some s → Begins ts
begins_if ts s h = completes s ts (at_end ts s h)

pub begins_not : (ts : List Lexeme) → run_on (Some (want [])) ts ≡ None → Begins ts → ⊥
begins_not ts h (more, e, r) =
    let (s, k, f) = read r in
    let n : run_on (Some (want [])) (ts ++ more) ≡ None = run_append (Some (want [])) ts more ∙ ap (λ o. run_on o more) h ∙ run_none more in
    cc

pub all_not : (ts : List Lexeme) (s : State) → run_on (Some (want [])) ts ≡ Some s → finish s ≡ None → (e : Form) → AreAll ts e → ⊥
all_not ts s h k e r = let (z, j, f) = read r in cc

pub one_tree : {ts : List Lexeme} {e f : Form} → AreAll ts e → AreAll ts f → e ≡ f
one_tree r q = let (s, k, f) = read r in let (z, j, g) = read q in cc
