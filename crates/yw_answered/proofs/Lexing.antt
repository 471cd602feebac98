-- No text lacks its tokens, or the place where no token begins: at each place the longest front that is a token is found, or that there is none.
use Rattle.std.specs.Prelude.{◌≡◌, ◌⊎◌, ◌≤◌, ◌<◌, ℕ, zero, suc, ◌+◌, true, List, [], ◌∷◌, length, take, drop}
use Rattle.std.proofs.Common.{⊎_elim, inl, inr, arith, length-drop, subst}
use Rattle.std.proofs.lemmas.Bool.{cases_lt}
use Rattle.yw_lex.proofs.KindLemmas.{not_empty}
use Rattle.yw_lex.specs.Spelling.{IsToken}
use Rattle.yw_lex.specs.Tokens as tokens
use Rattle.yw_lex.specs.Tokens.{AreTokens, HasNoFront, IsLongestToken, StopsAt, is_blank, token}
use Rattle.yw_lex.specs.declared.token.Token.{Token}
use Rattle.yw_lex.specs.declared.token.Word.{Word}
use Rattle.yw_texts.proofs.Lacking.{decided, follows, here}
use Rattle.yw_texts.specs.Lacking.{CannotLack}
use Rattle.yw_state.proofs.Tests.{by_test}

-- ---- the longest token at the front

abbrev HasLongest : List ℕ → Type 0
HasLongest bytes = (word : Word) × (len : ℕ) × IsLongestToken word bytes len

-- no front that is longer than this is a token
abbrev NoneAbove : List ℕ → ℕ → Type 0
NoneAbove bytes k = (len : ℕ) → k < len → len ≤ length bytes → IsToken (take len bytes) → ⊥

abbrev LongestOrNone : List ℕ → Type 0
LongestOrNone bytes = HasLongest bytes ⊎ HasNoFront IsToken bytes

-- the front of this length is the longest token, or one that is shorter is
is_longest : (bytes : List ℕ) (k : ℕ) → k ≤ length bytes → NoneAbove bytes k → IsToken (take k bytes) → LongestOrNone bytes
is_longest bytes k within above is = inl (is.0, k, record { spelled = is.1; longest = record { within = within; here = is; longest = above } })

none_above : (bytes : List ℕ) (k : ℕ) → NoneAbove bytes (suc k) → (IsToken (take (suc k) bytes) → ⊥) → NoneAbove bytes k
none_above bytes k above els len lt within is = ⊎_elim
    (λ (more : suc k < len). above len more within is)
    (λ (same : len ≡ suc k). els (subst (λ n. IsToken (take n bytes)) same is))
    (split k len lt)
  where
    split : (k len : ℕ) → k < len → (suc k < len) ⊎ (len ≡ suc k)
    split k len lt = elim (cases_lt (suc k) len) [ inl more ↦ inl more | inr le ↦ inr (omega (arith, lt, le)) ]

longest_up_to : (bytes : List ℕ) (k : ℕ) → k ≤ length bytes → NoneAbove bytes k → CannotLack (LongestOrNone bytes)
longest_up_to bytes zero within above =
    follows (decided (IsToken (take zero bytes))) (λ d. here (⊎_elim
    (λ (is : IsToken (take zero bytes)). is_longest bytes zero within above is)
    (λ (els : IsToken (take zero bytes) → ⊥). inr (none_at bytes above els))
    d))
  where
    none_at : (bytes : List ℕ) → NoneAbove bytes zero → (IsToken (take zero bytes) → ⊥) → HasNoFront IsToken bytes
    none_at bytes above els zero within is = els is
    none_at bytes above els (suc len) within is = above (suc len) (omega arith) within is
longest_up_to bytes (suc k) within above =
    let rest = λ (els : IsToken (take (suc k) bytes) → ⊥). longest_up_to bytes k (omega (arith, within)) (none_above bytes k above els) in
    follows (decided (IsToken (take (suc k) bytes))) (λ d. ⊎_elim (λ (is : IsToken (take (suc k) bytes)). here (is_longest bytes (suc k) within above is)) rest d)

longest_or_none : (bytes : List ℕ) → CannotLack (LongestOrNone bytes)
longest_or_none bytes = longest_up_to bytes (length bytes) (omega arith) (λ len lt within is. omega (arith, lt, within))

-- a token has a byte
some_byte : (bytes : List ℕ) (longest : HasLongest bytes) → 0 < longest.1
some_byte bytes (word, zero, is) = absurd (not_empty word is.spelled)
some_byte bytes (word, suc len, is) = omega arith

-- ---- all tokens

abbrev pub IsLexed : ℕ → List ℕ → Type 0
IsLexed at bytes = ((ts : List Token) × AreTokens at bytes ts) ⊎ ((place : ℕ) × StopsAt at bytes place)

past_blank : (at byte : ℕ) (bytes : List ℕ) → is_blank byte ≡ true → IsLexed (suc at) bytes → IsLexed at (byte ∷ bytes)
past_blank at byte bytes blank (inl (ts, are)) = inl (ts, tokens.blank blank are)
past_blank at byte bytes blank (inr (place, stops)) = inr (place, tokens.after_blank blank stops)

past_token : (at : ℕ) (bytes : List ℕ) (longest : HasLongest bytes) → IsLexed (at + longest.1) (drop longest.1 bytes) → IsLexed at bytes
past_token at bytes (word, len, is) (inl (ts, are)) = inl (token word at (at + len) ∷ ts, tokens.next word len is are)
past_token at bytes (word, len, is) (inr (place, stops)) = inr (place, tokens.after_token word len is stops)

lexed_within : (room at : ℕ) (bytes : List ℕ) → length bytes ≤ room → CannotLack (IsLexed at bytes)
lexed_within room at [] short = here (inl ([], tokens.none))
lexed_within zero at (byte ∷ bytes) short = absurd (omega (arith, short))
lexed_within (suc room) at (byte ∷ bytes) short =
    let behind = λ (longest : HasLongest (byte ∷ bytes)). lexed_within room (at + longest.1) (drop longest.1 (byte ∷ bytes)) (dropped (byte ∷ bytes) longest room short) in
    by_test (is_blank byte)
    (λ blank. follows (lexed_within room (suc at) bytes (omega (arith, short))) (λ rest. here (past_blank at byte bytes blank rest)))
    (λ els. follows (longest_or_none (byte ∷ bytes)) (λ d. ⊎_elim
    (λ (longest : HasLongest (byte ∷ bytes)). follows (behind longest) (λ rest. here (past_token at (byte ∷ bytes) longest rest)))
    (λ (no_front : HasNoFront IsToken (byte ∷ bytes)). here (inr (at, tokens.here els no_front)))
    d))
  where
    dropped : (bytes : List ℕ) (longest : HasLongest bytes) (room : ℕ) → length bytes ≤ suc room → length (drop longest.1 bytes) ≤ room
    dropped bytes longest room short = let some = some_byte bytes longest in let fewer = length-drop longest.1 bytes in omega (arith, short, some, fewer)

pub is_lexed : (text : List ℕ) → CannotLack (IsLexed 0 text)
is_lexed text = lexed_within (length text) 0 text (omega arith)
