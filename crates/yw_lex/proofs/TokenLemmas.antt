-- A text has one list of tokens or one place where it stops; and the lexer's loop.
use Rattle.std.proofs.Common.{◌≡◌, ℕ, zero, suc, ◌+◌, ◌-◌, ◌<◌, ◌≤◌, true, false, List, [], ◌∷◌, ◌++◌, length, get_or, take, drop, Result, Ok, Err, ◌⊎◌, inl, inr, refl, sym, ap, ◌∙◌, subst, append_assoc, add-one, zero-add, arith, drop-cons, length-drop}
use Rattle.std.specs.Prelude.{IfOk, MatchResult, slice_range}
use Rattle.std.specs.List.{All}
use Rattle.std.proofs.lemmas.Bool.{cases_order, false≢true}
use Rattle.std.proofs.lemmas.List.{append-nil, drop-drop, drop_all, take_rest}
use Rattle.std.proofs.lemmas.List.Elements.{All-cons, All-nil}
use Rattle.yw_lex.specs.Spelling.{IsToken, Spells}
use Rattle.yw_lex.specs.Tokens.{AreInOrder, AreTokens, HasNoFront, IsFault, IsLongestToken, StandsIn, StopsAt, is_blank, token, none, blank, next, here, after_blank, after_token}
use Rattle.yw_lex.specs.declared.token.LexFault.{LexFault}
use Rattle.yw_lex.specs.declared.token.LexFault.TheVariants.{At, Memory}
use Rattle.yw_lex.specs.declared.token.Token.{Token}
use Rattle.yw_lex.specs.declared.token.Word.{Word}
use Rattle.yw_lex.proofs.KindLemmas.{blank_is_no_token, first_of_front, not_empty, same_word}

-- ---- one longest token
not_longer : (first second : Word) (bytes : List ℕ) (len longer : ℕ) → IsLongestToken first bytes len → IsLongestToken second bytes longer → len < longer → ⊥
not_longer first second bytes len longer l m more = l.longest.longest longer more m.longest.within (second, m.spelled)

same_len : (first second : Word) (bytes : List ℕ) (len other : ℕ) → IsLongestToken first bytes len → IsLongestToken second bytes other → len ≡ other
same_len first second bytes len other l m =
    elim (cases_order len other) [
      | inl same ↦ same
      | inr (inl less) ↦ absurd (not_longer first second bytes len other l m less)
      | inr (inr more) ↦ absurd (not_longer second first bytes other len m l more)
    ]

same_kind : (first second : Word) (bytes : List ℕ) (len other : ℕ) → IsLongestToken first bytes len → IsLongestToken second bytes other → first ≡ second
same_kind first second bytes len other l m =
    same_word first second (take len bytes) l.spelled (subst (λ n. Spells second (take n bytes)) (sym (same_len first second bytes len other l m)) m.spelled)

some_len : (word : Word) (bytes : List ℕ) (len : ℕ) → IsLongestToken word bytes len → 0 < len
some_len word bytes zero l = absurd (not_empty word l.spelled)
some_len word bytes (suc len) l = omega arith

at_blank : (word : Word) (byte : ℕ) (bytes : List ℕ) (len : ℕ) → is_blank byte ≡ true → IsLongestToken word (byte ∷ bytes) len → ⊥
at_blank word byte bytes len is l =
    blank_is_no_token word (take len (byte ∷ bytes)) (ap is_blank (first_of_front word (byte ∷ bytes) len l.spelled) ∙ is) l.spelled

pub at_end : (word : Word) (len : ℕ) → IsLongestToken word [] len → ⊥
at_end word len l = let some = some_len word [] len l in let within = l.longest.within in omega arith

-- ---- one list of tokens
tokens_at_end : {at : ℕ} {ts : List Token} → AreTokens at [] ts → ts ≡ []
tokens_at_end none = refl
tokens_at_end (next word len l p) = absurd (at_end word len l)

tokens_after_blank : {at byte : ℕ} {bytes : List ℕ} {ts : List Token} → is_blank byte ≡ true → AreTokens at (byte ∷ bytes) ts → AreTokens (suc at) bytes ts
tokens_after_blank is (blank b p) = p
tokens_after_blank {byte = byte} {bytes = bytes} is (next word len l p) = absurd (at_blank word byte bytes len is l)

-- the tokens begin with this one
record BeginsWith (word : Word) (at len : ℕ) (bytes : List ℕ) (ts : List Token) : Type 0 where
  rest : List Token
  whole : ts ≡ token word at (at + len) ∷ rest
  are : AreTokens (at + len) (drop len bytes) rest

begins_with : {at : ℕ} {bytes : List ℕ} {ts : List Token} (word : Word) (len : ℕ) → IsLongestToken word bytes len → AreTokens at bytes ts → BeginsWith word at len bytes ts
begins_with word len l none = absurd (at_end word len l)
begins_with word len l (blank {byte = byte} {bytes = bytes} b p) = absurd (at_blank word byte bytes len b l)
begins_with {at = at} {bytes = bytes} word len l (next other other_len {tokens = rest} m p) =
    let same_n : other_len ≡ len = same_len other word bytes other_len len m l in
    let same_w : other ≡ word = same_kind other word bytes other_len len m l in
    record {
      rest = rest;
      whole = ap (λ n. token other at (at + n) ∷ rest) same_n ∙ ap (λ w. token w at (at + len) ∷ rest) same_w;
      are = subst (λ n. AreTokens (at + n) (drop n bytes) rest) same_n p;
    }

pub same_tokens : {at : ℕ} {bytes : List ℕ} {ts us : List Token} → AreTokens at bytes ts → AreTokens at bytes us → us ≡ ts
same_tokens none q = tokens_at_end q
same_tokens (blank b p) q = same_tokens p (tokens_after_blank b q)
same_tokens {at = at} (next word len l p) q =
    let b = begins_with word len l q in
    b.whole ∙ ap (λ rest. token word at (at + len) ∷ rest) (same_tokens p b.are)

-- ---- one place, or tokens
stops_after_blank : {at byte place : ℕ} {bytes : List ℕ} → is_blank byte ≡ true → StopsAt at (byte ∷ bytes) place → StopsAt (suc at) bytes place
stops_after_blank is (here b n) = absurd (false≢true (sym b ∙ is))
stops_after_blank is (after_blank b s) = s
stops_after_blank {byte = byte} {bytes = bytes} is (after_token word len l s) = absurd (at_blank word byte bytes len is l)

stops_after_token : {at place : ℕ} {bytes : List ℕ} (word : Word) (len : ℕ) → IsLongestToken word bytes len → StopsAt at bytes place → StopsAt (at + len) (drop len bytes) place
stops_after_token word len l (here b n) = absurd (n len l.longest.within (word, l.spelled))
stops_after_token word len l (after_blank {byte = byte} {bytes = bytes} b s) = absurd (at_blank word byte bytes len b l)
stops_after_token {at = at} {place = place} {bytes = bytes} word len l (after_token other other_len m s) =
    subst (λ n. StopsAt (at + n) (drop n bytes) place) (same_len other word bytes other_len len m l) s

stops_not_at_end : {at place : ℕ} → StopsAt at [] place → ⊥
stops_not_at_end (after_token word len l s) = at_end word len l

pub tokens_or_stop : {at place : ℕ} {bytes : List ℕ} {ts : List Token} → AreTokens at bytes ts → StopsAt at bytes place → ⊥
tokens_or_stop none s = stops_not_at_end s
tokens_or_stop (blank b p) s = tokens_or_stop p (stops_after_blank b s)
tokens_or_stop (next word len l p) s = tokens_or_stop p (stops_after_token word len l s)

stops_here : {at byte place : ℕ} {bytes : List ℕ} → is_blank byte ≡ false → HasNoFront IsToken (byte ∷ bytes) → StopsAt at (byte ∷ bytes) place → place ≡ at
stops_here no_blank no_token (here b n) = refl
stops_here no_blank no_token (after_blank b s) = absurd (false≢true (sym no_blank ∙ b))
stops_here no_blank no_token (after_token word len l s) = absurd (no_token len l.longest.within (word, l.spelled))

pub same_place : {at first second : ℕ} {bytes : List ℕ} → StopsAt at bytes first → StopsAt at bytes second → second ≡ first
same_place (here b n) s = stops_here b n s
same_place (after_blank b p) s = same_place p (stops_after_blank b s)
same_place (after_token word len l p) s = same_place p (stops_after_token word len l s)

-- ---- where tokens stand
sooner : (low at end : ℕ) (ts : List Token) → low ≤ at → AreInOrder at ts end → AreInOrder low ts end
sooner low at end [] h order = omega arith
sooner low at end (t ∷ ts) h order = (omega (arith, order.0), order.1, order.2)

pub in_order : {at : ℕ} {bytes : List ℕ} {ts : List Token} → AreTokens at bytes ts → AreInOrder at ts (at + length bytes)
in_order none = omega arith
in_order {at = at} (blank {bytes = bytes} {tokens = ts} b p) =
    let same : suc at + length bytes ≡ at + suc (length bytes) = omega arith in
    sooner at (suc at) (at + suc (length bytes)) ts (omega arith) (subst (AreInOrder (suc at) ts) same (in_order p))
in_order {at = at} {bytes = bytes} (next word len {tokens = ts} l p) =
    let some = some_len word bytes len l in
    let within = l.longest.within in
    let same : at + len + length (drop len bytes) ≡ at + length bytes = omega (arith, length-drop len bytes) in
    (omega arith, omega arith, subst (AreInOrder (at + len) ts) same (in_order p))

pub stands_in : (text : List ℕ) {at : ℕ} {bytes : List ℕ} {ts : List Token} → AreTokens at bytes ts → bytes ≡ drop at text → All (StandsIn text) ts
stands_in text none e = All-nil (StandsIn text)
stands_in text {at = at} (blank b p) e = stands_in text p (ap (drop 1) e ∙ drop-drop 1 at text ∙ ap (λ n. drop n text) (add-one at))
stands_in text {at = at} {bytes = bytes} (next word len {tokens = ts} l p) e =
    let some = some_len word bytes len l in
    let within = l.longest.within in
    let count : len ≡ at + len - at = omega arith in
    let slice : take len bytes ≡ slice_range text at (at + len) = ap (take len) e ∙ ap (λ n. take n (drop at text)) count in
    let this : StandsIn text (token word at (at + len)) =
    record {
      some = omega arith;
      within = omega (arith, ap length e, length-drop at text);
      spelled = subst (Spells word) slice l.spelled;
    } in
    All-cons (StandsIn text) (token word at (at + len)) ts this (stands_in text p (ap (drop len) e ∙ drop-drop len at text))

-- ---- the lexer's loop: whatever the rest from a place on is, so is the whole
pub record IsFront (bytes : List ℕ) (at : ℕ) (ts : List Token) : Type 0 where
  pub within : at ≤ length bytes
  pub tokens : (rest : List Token) → AreTokens at (drop at bytes) rest → AreTokens 0 bytes (ts ++ rest)
  pub stops : (place : ℕ) → StopsAt at (drop at bytes) place → StopsAt 0 bytes place

pub front_begins : (bytes : List ℕ) → IsFront bytes 0 []
front_begins bytes = record { within = omega arith; tokens = λ rest p. p; stops = λ place s. s }

module _ (bytes : List ℕ) (at : ℕ) (ts : List Token) (front : IsFront bytes at ts) where
  pub past_blank : at < length bytes → is_blank (get_or bytes at 0) ≡ true → IsFront bytes (at + 1) ts
  past_blank h is = record {
    within = omega arith;
    tokens = λ rest p.
        let q = subst (λ n. AreTokens n (drop n bytes) rest) (add-one at) p in
        front.tokens rest (subst (λ l. AreTokens at l rest) (sym (drop-cons bytes at 0 h)) (blank is q));
    stops = λ place s.
        let q = subst (λ n. StopsAt n (drop n bytes) place) (add-one at) s in
        front.stops place (subst (λ l. StopsAt at l place) (sym (drop-cons bytes at 0 h)) (after_blank is q));
  }

  pub past_token : (word : Word) (len : ℕ) → IsLongestToken word (drop at bytes) len → IsFront bytes (at + len) (ts ++ token word at (at + len) ∷ [])
  past_token word len l =
      let inside = l.longest.within in
      record {
        within = let w = front.within in omega (arith, length-drop at bytes);
        tokens = λ rest p.
            let q = subst (λ d. AreTokens (at + len) d rest) (sym (drop-drop len at bytes)) p in
            subst (AreTokens 0 bytes) (sym (append_assoc ts (token word at (at + len) ∷ []) rest)) (front.tokens (token word at (at + len) ∷ rest) (next word len l q));
        stops = λ place s.
            let q = subst (λ d. StopsAt (at + len) d place) (sym (drop-drop len at bytes)) s in
            front.stops place (after_token word len l q);
      }

  pub stuck_here : at < length bytes → is_blank (get_or bytes at 0) ≡ false → HasNoFront IsToken (drop at bytes) → StopsAt 0 bytes at
  stuck_here h is nothing =
      let e = drop-cons bytes at 0 h in
      front.stops at (subst (λ l. StopsAt at l at) (sym e) (here is (subst (HasNoFront IsToken) e nothing)))

  pub ends_here : length bytes ≤ at → AreTokens 0 bytes ts
  ends_here h =
      let empty : drop at bytes ≡ [] = drop_all at bytes h in
      subst (AreTokens 0 bytes) (append-nil ts) (front.tokens [] (subst (λ l. AreTokens at l []) (sym empty) none))

pub from_place : (bytes : List ℕ) (at : ℕ) → take (length bytes - at) (drop at bytes) ≡ drop at bytes
from_place bytes at = take_rest bytes at

-- ---- what the lexer answers
module _ (text : List ℕ) where
  abbrev pub IsAnswer : Result (List Token) LexFault → Type 0
  IsAnswer r = MatchResult r (AreTokens 0 text) (IsFault text)

  pub found_tokens : (r : Result (List Token) LexFault) → IsAnswer r → IfOk r (AreTokens 0 text)
  found_tokens (Ok ts) h = h
  found_tokens (Err e) h = tt

  pub found_slices : (r : Result (List Token) LexFault) → IsAnswer r → IfOk r (All (StandsIn text))
  found_slices (Ok ts) h = stands_in text h refl
  found_slices (Err e) h = tt

  pub found_order : (r : Result (List Token) LexFault) → IsAnswer r → IfOk r (λ ts. AreInOrder 0 ts (length text))
  found_order (Ok ts) h = subst (AreInOrder 0 ts) (zero-add (length text)) (in_order h)
  found_order (Err e) h = tt

  pub found_only : (r : Result (List Token) LexFault) → IsAnswer r → (ts : List Token) → AreTokens 0 text ts → MatchResult r (λ found. found ≡ ts) (λ fault. fault ≡ Memory)
  found_only (Ok found) h ts p = same_tokens p h
  found_only (Err (At place)) h ts p = absurd (tokens_or_stop p h)
  found_only (Err Memory) h ts p = refl

  pub stops_where : (r : Result (List Token) LexFault) → IsAnswer r → (place : ℕ) → r ≡ Err (At place) → StopsAt 0 text place
  stops_where r h place e = subst IsAnswer e h

  pub stops_only : (r : Result (List Token) LexFault) → IsAnswer r → (place : ℕ) → StopsAt 0 text place → (r ≡ Err (At place)) ⊎ (r ≡ Err Memory)
  stops_only (Ok found) h place s = absurd (tokens_or_stop h s)
  stops_only (Err (At other)) h place s = inl (ap (λ p. Err (At p)) (same_place s h))
  stops_only (Err Memory) h place s = inr refl
