-- What is written one after the other.
use Rattle.std.proofs.Common.{◌≡◌, ◌++◌, ◌∙◌, ℕ, List, ap, append_assoc}

-- one part more, with the rest after it
pub onto : (old part new rest : List ℕ) → new ≡ old ++ part → new ++ rest ≡ old ++ (part ++ rest)
onto old part new rest e = ap (λ (l : List ℕ). l ++ rest) e ∙ append_assoc old part rest
