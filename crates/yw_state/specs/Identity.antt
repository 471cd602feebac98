-- How identities lie to each other. The first number of an identity is its case's, and what stands in a net, at an item or at a
-- run has the identity of that with one number behind. Identities from one counter are our own.
use Rattle.std.specs.Prelude.{ℕ, ◌+◌, ◌==◌, ◌&&◌, Bool, not, List, [], ◌∷◌, ◌++◌, length}
use Rattle.std.specs.Str.{bytes_eq}
use Rattle.yw_base.specs.Identity.{under}

abbrev pub Ident : Type 0
Ident = List ℕ

abbrev pub same : Ident → Ident → Bool
same = bytes_eq

-- j is under i, and isn't i
abbrev pub strictly_under : Ident → Ident → Bool
strictly_under j i = under j i && not (same j i)

-- j is i with one number behind
abbrev pub is_child : Ident → Ident → Bool
is_child j i = under j i && length j == length i + 1

abbrev pub case_ident : ℕ → Ident
case_ident n = n ∷ []

abbrev pub is_case_ident : Ident → Bool
is_case_ident j = length j == 1
