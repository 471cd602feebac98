-- What is spelled is read.
use Rattle.std.proofs.Common.{◌≡◌, ℕ, ◌≤◌, ◌<◌, true, false, List, [], ◌∷◌, ◌++◌, Option, Some, None, refl, sym, ap, ◌∙◌, append_assoc, arith, le-leb, lit<, lit≤}
use Rattle.std.proofs.lemmas.Bool.{lt-leb}
use Rattle.std.specs.Prelude.{cond}
use Rattle.yw_grammar.specs.declared.symbol.Infix.{Infix}
use Rattle.yw_grammar.specs.declared.symbol.Infix.TheVariants.{Or, And, Equal, NotEqual, Less, LessOrEqual, Greater, GreaterOrEqual, Plus, Minus, Times, Divide, Remainder}
use Rattle.yw_grammar.specs.declared.symbol.Prefix.{Prefix}
use Rattle.yw_grammar.specs.declared.symbol.Prefix.TheVariants.{Not, Negate}
use Rattle.yw_grammar.specs.declared.symbol.Symbol.TheVariants.{Operator, RightParen, LeftBracket, RightBracket, Comma}
use Rattle.yw_grammar.specs.declared.symbol.Literal.{Literal}
use Rattle.yw_grammar.specs.declared.symbol.Lexeme.{Lexeme}
use Rattle.yw_grammar.specs.Grammar.{Form, leaf, list, call, item, level_of, left_of, right_of, before_of, symbol_of, lexeme, IsLiteral, plain, negative, a_text, AreLiterals, last, then, Spells, looser, a_leaf, a_list, a_call, a_group, an_item, with_one, with_two}
use Rattle.yw_grammar.specs.Machine.{Begun, side, before, group, function, place, State, want, have, literal, listed, need, ends, joined, fold_top, begin_with, begin, sign_after, right_after, shut_after, step, run_on, whole, finish}

-- a run over two lists is one over the first and then one over the second
pub run_append : (s : Option State) (a b : List Lexeme) → run_on s (a ++ b) ≡ run_on (run_on s a) b
run_append s [] b = refl
run_append None (t ∷ a) [] = refl
run_append None (t ∷ a) (u ∷ b) = refl
run_append (Some s) (t ∷ a) b = run_append (step s t) a b

pub run_none : (a : List Lexeme) → run_on None a ≡ None
run_none [] = refl
run_none (t ∷ a) = refl

-- After these tokens the stack and what is at hand are as good as the stack from before with e at hand, where
-- what follows ends what is of level l or tighter.
pub record Holds (l : ℕ) (stack : List Begun) (e : Form) (ts : List Lexeme) : Type 0 where
  pub after : List Begun
  pub hand : Form
  pub runs : run_on (Some (want stack)) ts ≡ Some (have after hand)
  pub good : (m : ℕ) → m ≤ l → fold_top m after hand ≡ fold_top m stack e

-- a sign's own level is looser than what stands to its right, and not tighter than what stands to its left
level_right : (f : Infix) → level_of f < right_of f
level_right Or = lit< tt
level_right And = lit< tt
level_right Equal = lit< tt
level_right NotEqual = lit< tt
level_right Less = lit< tt
level_right LessOrEqual = lit< tt
level_right Greater = lit< tt
level_right GreaterOrEqual = lit< tt
level_right Plus = lit< tt
level_right Minus = lit< tt
level_right Times = lit< tt
level_right Divide = lit< tt
level_right Remainder = lit< tt

pub level_left : (f : Infix) → level_of f ≤ left_of f
level_left Or = lit≤ tt
level_left And = lit≤ tt
level_left Equal = lit≤ tt
level_left NotEqual = lit≤ tt
level_left Less = lit≤ tt
level_left LessOrEqual = lit≤ tt
level_left Greater = lit≤ tt
level_left GreaterOrEqual = lit≤ tt
level_left Plus = lit≤ tt
level_left Minus = lit≤ tt
level_left Times = lit≤ tt
level_left Divide = lit≤ tt
level_left Remainder = lit≤ tt

pub level_right_le : (f : Infix) → level_of f ≤ right_of f
level_right_le f = let h = level_right f in omega arith

left_seven : (f : Infix) → level_of f < 7
left_seven Or = lit< tt
left_seven And = lit< tt
left_seven Equal = lit< tt
left_seven NotEqual = lit< tt
left_seven Less = lit< tt
left_seven LessOrEqual = lit< tt
left_seven Greater = lit< tt
left_seven GreaterOrEqual = lit< tt
left_seven Plus = lit< tt
left_seven Minus = lit< tt
left_seven Times = lit< tt
left_seven Divide = lit< tt
left_seven Remainder = lit< tt

before_seven : (f : Prefix) → before_of f < 7
before_seven Not = lit< tt
before_seven Negate = lit< tt

-- no sign before an operand has the level of a sign between two
before_left : (f : Prefix) (op : Infix) → before_of f ≤ level_of op → before_of f < left_of op
before_left Not Or h = omega arith
before_left Not And h = omega arith
before_left Not Equal h = omega arith
before_left Not NotEqual h = omega arith
before_left Not Less h = omega arith
before_left Not LessOrEqual h = omega arith
before_left Not Greater h = omega arith
before_left Not GreaterOrEqual h = omega arith
before_left Not Plus h = omega arith
before_left Not Minus h = omega arith
before_left Not Times h = omega arith
before_left Not Divide h = omega arith
before_left Not Remainder h = omega arith
before_left Negate Or h = omega arith
before_left Negate And h = omega arith
before_left Negate Equal h = omega arith
before_left Negate NotEqual h = omega arith
before_left Negate Less h = omega arith
before_left Negate LessOrEqual h = omega arith
before_left Negate Greater h = omega arith
before_left Negate GreaterOrEqual h = omega arith
before_left Negate Plus h = omega arith
before_left Negate Minus h = omega arith
before_left Negate Times h = omega arith
before_left Negate Divide h = omega arith
before_left Negate Remainder h = omega arith

-- what is open where nothing ends stays as it is
not_ended : (l : ℕ) (b : Begun) (stack : List Begun) (e : Form) → ends l b ≡ false → fold_top l (b ∷ stack) e ≡ have (b ∷ stack) e
not_ended l b stack e h = ap (λ c. cond c (fold_top l stack (joined b e)) (have (b ∷ stack) e)) h

ended : (l : ℕ) (b : Begun) (stack : List Begun) (e : Form) → ends l b ≡ true → fold_top l (b ∷ stack) e ≡ fold_top l stack (joined b e)
ended l b stack e h = ap (λ c. cond c (fold_top l stack (joined b e)) (have (b ∷ stack) e)) h

-- a sign that may go on after a stack ends nothing on it
kept : (op : Infix) (stack : List Begun) (e : Form) → need stack ≤ level_of op → fold_top (left_of op) stack e ≡ have stack e
kept op [] e h = refl
kept op (side f at x ∷ stack) e h = not_ended (left_of op) (side f at x) stack e (let p = level_right f in let q = level_left op in lt-leb _ _ (omega arith))
kept op (before f at ∷ stack) e h = not_ended (left_of op) (before f at) stack e (lt-leb _ _ (before_left f op h))
kept op (group ∷ stack) e h = refl
kept op (function f at ∷ stack) e h = refl
kept op (place at x ∷ stack) e h = refl

-- an open bracket ends nothing
all_kept : (stack : List Begun) (e : Form) → fold_top 7 stack e ≡ have stack e
all_kept [] e = refl
all_kept (side f at x ∷ stack) e = not_ended 7 (side f at x) stack e (lt-leb _ _ (left_seven f))
all_kept (before f at ∷ stack) e = not_ended 7 (before f at) stack e (lt-leb _ _ (before_seven f))
all_kept (group ∷ stack) e = refl
all_kept (function f at ∷ stack) e = refl
all_kept (place at x ∷ stack) e = refl

begun_with : (op : Prefix) (at : ℕ) (stack : List Begun) → need stack ≤ before_of op → begin_with op at stack ≡ Some (want (before op at ∷ stack))
begun_with op at stack h = ap (λ c. cond c (Some (want (before op at ∷ stack))) None) (le-leb _ _ h)

begun : (op : Prefix) (at : ℕ) (stack : List Begun) → need stack ≤ before_of op → begin (symbol_of op) at stack ≡ Some (want (before op at ∷ stack))
begun Not at stack h = begun_with Not at stack h
begun Negate at stack h = begun_with Negate at stack h

signed : (op : Infix) (at : ℕ) (stack : List Begun) (e : Form) → need stack ≤ level_of op → sign_after op at (have stack e) ≡ Some (want (side op at e ∷ stack))
signed op at stack e h = ap (λ c. cond c (Some (want (side op at e ∷ stack))) None) (le-leb _ _ h)

literal_read : {xs : List Lexeme} {x : Literal} → IsLiteral xs x → (at : ℕ) (items : List Literal) (stack : List Begun) → run_on (Some (literal at items stack)) xs ≡ Some (listed at (items ++ x ∷ []) stack)
literal_read (plain n p) at items stack = refl
literal_read (negative n p q) at items stack = refl
literal_read (a_text span p) at items stack = refl

literals_read : {ts : List Lexeme} {more : List Literal} → AreLiterals ts more → (at : ℕ) (items : List Literal) (stack : List Begun) → run_on (Some (literal at items stack)) ts ≡ Some (listed at (items ++ more) stack)
literals_read (last xs x r) at items stack = literal_read r at items stack
literals_read (then p xs ys x rest r q) at items stack =
    run_append (Some (literal at items stack)) xs (lexeme Comma p ∷ ys)
    ∙ ap (λ s. run_on s (lexeme Comma p ∷ ys)) (literal_read r at items stack)
    ∙ literals_read q at (items ++ x ∷ []) stack
    ∙ ap (λ l. Some (listed at l stack)) (append_assoc items (x ∷ []) rest)

pub held : {l : ℕ} {ts : List Lexeme} {e : Form} → Spells l ts e → (stack : List Begun) → need stack ≤ l → Holds l stack e ts
held (looser le r) stack h =
    let i = held r stack (omega arith) in
    record { after = i.after; hand = i.hand; runs = i.runs; good = λ m k. i.good m (omega arith) }
held (a_leaf x at) stack h = record { after = stack; hand = leaf at x; runs = refl; good = λ m k. refl }
held (a_list p q ts items r) stack h =
    record {
      after = stack;
      hand = list p items;
      runs = run_append (Some (literal p [] stack)) ts (lexeme RightBracket q ∷ []) ∙ ap (λ s. run_on s (lexeme RightBracket q ∷ [])) (literals_read r p [] stack);
      good = λ m k. refl;
    }
held (a_call f at p q ts {e} r) stack h =
    let i = held r (function f at ∷ stack) (omega arith) in
    record {
      after = stack;
      hand = call f at e;
      runs = run_append (Some (want (function f at ∷ stack))) ts (lexeme RightParen q ∷ []) ∙ ap (λ s. run_on s (lexeme RightParen q ∷ [])) i.runs ∙ ap right_after (i.good 0 (omega arith));
      good = λ m k. refl;
    }
held (a_group p q ts {e} r) stack h =
    let i = held r (group ∷ stack) (omega arith) in
    record {
      after = stack;
      hand = e;
      runs = run_append (Some (want (group ∷ stack))) ts (lexeme RightParen q ∷ []) ∙ ap (λ s. run_on s (lexeme RightParen q ∷ [])) i.runs ∙ ap right_after (i.good 0 (omega arith));
      good = λ m k. refl;
    }
held (an_item p q xs ks {x} {k} rx rk) stack h =
    let i = held rx stack h in
    let j = held rk (place p x ∷ stack) (omega arith) in
    let same : have i.after i.hand ≡ have stack x = sym (all_kept i.after i.hand) ∙ i.good 7 (omega arith) ∙ all_kept stack x in
    record {
      after = stack;
      hand = item p x k;
      runs = run_append (Some (want stack)) (xs ++ lexeme LeftBracket p ∷ ks) (lexeme RightBracket q ∷ [])
          ∙ ap (λ s. run_on s (lexeme RightBracket q ∷ []))
          (run_append (Some (want stack)) xs (lexeme LeftBracket p ∷ ks)
          ∙ ap (λ s. run_on s (lexeme LeftBracket p ∷ ks)) i.runs
          ∙ ap (λ s. run_on (Some s) (lexeme LeftBracket p ∷ ks)) same
          ∙ j.runs)
          ∙ ap shut_after (j.good 0 (omega arith));
      good = λ m c. refl;
    }
held (with_one op at {xs} {x} r) stack h =
    let i = held r (before op at ∷ stack) (omega arith) in
    record {
      after = i.after;
      hand = i.hand;
      runs = ap (λ s. run_on s xs) (begun op at stack h) ∙ i.runs;
      good = λ m k. i.good m k ∙ ended m (before op at) stack x (le-leb _ _ k);
    }
held (with_two op at xs ys {x} {y} rx ry) stack h =
    let a = level_left op in
    let b = level_right op in
    let i = held rx stack (omega arith) in
    let j = held ry (side op at x ∷ stack) (omega arith) in
    record {
      after = j.after;
      hand = j.hand;
      runs = run_append (Some (want stack)) xs (lexeme (Operator op) at ∷ ys)
          ∙ ap (λ s. run_on s (lexeme (Operator op) at ∷ ys)) i.runs
          ∙ ap (λ s. run_on (sign_after op at s) ys) (i.good (left_of op) (omega arith) ∙ kept op stack x h)
          ∙ ap (λ s. run_on s ys) (signed op at stack x h)
          ∙ j.runs;
      good = λ m k. j.good m (omega arith) ∙ ended m (side op at x) stack y (le-leb _ _ k);
    }

-- what is spelled is read, and so is spelled by no other tree
pub read : {ts : List Lexeme} {e : Form} → Spells 0 ts e → (s : State) × (run_on (Some (want [])) ts ≡ Some s) × (finish s ≡ Some e)
read r = let i = held r [] (omega arith) in (have i.after i.hand, i.runs, ap whole (i.good 0 (omega arith)))
