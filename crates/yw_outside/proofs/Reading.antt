-- What a read does to the bytes that a source still has.
use Rattle.std.proofs.Common.{◌≡◌, ℕ, List, [], ◌++◌, take, Option, None, Some, refl, ap, ◌∙◌, subst}
use Rattle.std.specs.Io.KnownBytes.{Consumes, Keeps, IsAtEnd}

consumed_from : (rest bs : List ℕ) (new : Option (List ℕ)) → Consumes (Some rest) new bs → (later : List ℕ) × (new ≡ Some later) × (rest ≡ bs ++ later)
consumed_from rest bs None h = absurd h
consumed_from rest bs (Some later) h = (later, refl, h)

-- what is left after bytes were taken
pub consumed : (rest bs : List ℕ) (old new : Option (List ℕ)) → old ≡ Some rest → Consumes old new bs → (later : List ℕ) × (new ≡ Some later) × (rest ≡ bs ++ later)
consumed rest bs old new e h = consumed_from rest bs new (subst (λ (o : Option (List ℕ)). Consumes o new bs) e h)

-- a read of no bytes
pub consumes_none : (old new : Option (List ℕ)) (room : List ℕ) (n : ℕ) → n ≡ 0 → Consumes old new (take n room) → Consumes old new []
consumes_none old new room n zero c = subst (λ (bs : List ℕ). Consumes old new bs) (ap (λ k. take k room) zero) c

kept_from : (rest : List ℕ) (new : Option (List ℕ)) → Keeps (Some rest) new → new ≡ Some rest
kept_from rest None h = absurd h
kept_from rest (Some later) h = ap Some h

-- nothing was taken
pub still_left : (rest : List ℕ) (old new : Option (List ℕ)) → old ≡ Some rest → Keeps old new → new ≡ Some rest
still_left rest old new e h = kept_from rest new (subst (λ (o : Option (List ℕ)). Keeps o new) e h)

pub at_end : (later : List ℕ) (new : Option (List ℕ)) → new ≡ Some later → IsAtEnd new → later ≡ []
at_end later None e h = cc
at_end later (Some l) e h = let same : later ≡ l = cc in same ∙ h
