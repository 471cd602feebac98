-- Which tokens a text has.
use Rattle.std.specs.Prelude.{◌≡◌, ℕ, suc, ◌+◌, ◌<◌, ◌≤◌, ◌==◌, ◌||◌, Bool, true, false, List, [], ◌∷◌, length, take, drop, slice_range}
use Rattle.yw_lex.specs.Spelling.{Spells, IsToken}
use Rattle.yw_lex.specs.declared.token.LexFault.{LexFault}
use Rattle.yw_lex.specs.declared.token.LexFault.TheVariants.{At, Memory}
use Rattle.yw_lex.specs.declared.token.Token.{Token}
use Rattle.yw_lex.specs.declared.token.Word.{Word}

-- space, tab and newline
abbrev pub is_blank : ℕ → Bool
is_blank byte = byte == 32 || byte == 9 || byte == 10

-- a front of this length is such, and no longer one is
pub record IsLongest (Is : List ℕ → Type 0) (bytes : List ℕ) (len : ℕ) : Type 0 where
  pub within : len ≤ length bytes
  pub here : Is (take len bytes)
  pub longest : (longer : ℕ) → len < longer → longer ≤ length bytes → Is (take longer bytes) → ⊥

-- no front is such
abbrev pub HasNoFront : (List ℕ → Type 0) → List ℕ → Type 0
HasNoFront Is bytes = (len : ℕ) → len ≤ length bytes → Is (take len bytes) → ⊥

-- the longest token at the front of the bytes
pub record IsLongestToken (word : Word) (bytes : List ℕ) (len : ℕ) : Type 0 where
  pub spelled : Spells word (take len bytes)
  pub longest : IsLongest IsToken bytes len

abbrev pub token : Word → ℕ → ℕ → Token
token word from to = record { word = word; from = from; to = to }

-- the bytes from a place on are these tokens, each the longest at its place, and blanks between them
pub data AreTokens : ℕ → List ℕ → List Token → Type 0 where
  none : {at : ℕ} → AreTokens at [] []
  blank : {at byte : ℕ} {bytes : List ℕ} {tokens : List Token} → is_blank byte ≡ true → AreTokens (suc at) bytes tokens → AreTokens at (byte ∷ bytes) tokens
  next : {at : ℕ} (word : Word) (len : ℕ) {bytes : List ℕ} {tokens : List Token} → IsLongestToken word bytes len → AreTokens (at + len) (drop len bytes) tokens → AreTokens at bytes (token word at (at + len) ∷ tokens)

-- the bytes from a place on are tokens and blanks up to this place, where no token begins
pub data StopsAt : ℕ → List ℕ → ℕ → Type 0 where
  here : {at byte : ℕ} {bytes : List ℕ} → is_blank byte ≡ false → HasNoFront IsToken (byte ∷ bytes) → StopsAt at (byte ∷ bytes) at
  after_blank : {at byte place : ℕ} {bytes : List ℕ} → is_blank byte ≡ true → StopsAt (suc at) bytes place → StopsAt at (byte ∷ bytes) place
  after_token : {at place : ℕ} (word : Word) (len : ℕ) {bytes : List ℕ} → IsLongestToken word bytes len → StopsAt (at + len) (drop len bytes) place → StopsAt at bytes place

-- why a text has no tokens, where it isn't want of memory
abbrev pub IsFault : List ℕ → LexFault → Type 0
IsFault text (At place) = StopsAt 0 text place
IsFault text Memory = Unit {0}

-- the token is a part of the text, which spells it
pub record StandsIn (text : List ℕ) (t : Token) : Type 0 where
  pub some : t.from < t.to
  pub within : t.to ≤ length text
  pub spelled : Spells t.word (slice_range text t.from t.to)

-- no token overlaps another, from the place at on, and none goes past the end
abbrev pub AreInOrder : ℕ → List Token → ℕ → Type 0
AreInOrder at [] end = at ≤ end
AreInOrder at (t ∷ tokens) end = (at ≤ t.from) × (t.from < t.to) × AreInOrder t.to tokens end
