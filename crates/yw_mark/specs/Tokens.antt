-- The tokens of one net, as a count for each of its places: the paper's marking.
use Rattle.std.specs.Prelude.{◌≡◌, ◌-◌, ℕ, Bool, List, count_by, fold, length, nat_eq, nat_lt}
use Rattle.yw_state.specs.After.{count_on, one_less}
use Rattle.yw_state.specs.Identity.{Ident}
use Rattle.yw_state.specs.State.{State, tokens_on}

-- a token is on the place
abbrev pub is_marked : List ℕ → ℕ → Bool
is_marked marks c = nat_lt 0 (count_on marks c)

-- the net at i has these tokens
abbrev pub HasMarks : State → Ident → List ℕ → Type 0
HasMarks s i marks = (c : ℕ) → tokens_on s i c ≡ count_on marks c

-- A token was taken from each of these places, as often as it stands among them and has one; no other count has changed.
pub record TakesEach (places old new : List ℕ) : Type 0 where
  pub less : new ≡ fold one_less old places
  pub counts : (c : ℕ) → count_on new c ≡ count_on old c - count_by (nat_eq c) places
  pub len : length new ≡ length old
