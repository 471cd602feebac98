-- What is asked at each thing that stands.
use Rattle.std.proofs.Common.{◌≡◌, ◌&&◌, Bool, true, false, List, [], ◌∷◌, inl, inr, refl, sym, ap, ◌∙◌}
use Rattle.std.specs.List.{list_all}
use Rattle.yw_state.proofs.Entries.{IsIn, entry-found, find-entry}
use Rattle.yw_state.proofs.MapLemmas.{by_name}
use Rattle.yw_state.specs.Identity.{Ident}
use Rattle.yw_state.specs.Map.{entries}
use Rattle.yw_state.specs.State.{Site, State}
use Rattle.yw_state.specs.Well.{Stands}
use Rattle.yw_decided.specs.Decided.{each_site, implies}

pub and_left : (p q : Bool) → (p && q) ≡ true → p ≡ true
and_left true q e = refl
and_left false q e = cc

pub and_right : (p q : Bool) → (p && q) ≡ true → q ≡ true
and_right true q e = e
and_right false q e = cc

pub both : (p q : Bool) → p ≡ true → q ≡ true → (p && q) ≡ true
both p q e d = cc

pub from_implies : (p q : Bool) → implies p q ≡ true → p ≡ true → q ≡ true
from_implies true q e d = e
from_implies false q e d = cc

pub to_implies : (p q : Bool) → (p ≡ true → q ≡ true) → implies p q ≡ true
to_implies true q f = f refl
to_implies false q f = refl

pub of_all : {X : Type 0} (p : X → Bool) (xs : List X) (x : X) → list_all p xs ≡ true → IsIn xs x → p x ≡ true
of_all p [] x all within = absurd within
of_all p (y ∷ ys) x all (inl same) = ap p (sym same) ∙ and_left (p y) (list_all p ys) all
of_all p (y ∷ ys) x all (inr rest) = of_all p ys x (and_right (p y) (list_all p ys) all) rest

pub all_of : {X : Type 0} (p : X → Bool) (xs : List X) → ((x : X) → IsIn xs x → p x ≡ true) → list_all p xs ≡ true
all_of p [] each = refl
all_of p (y ∷ ys) each = both (p y) (list_all p ys) (each y (inl refl)) (all_of p ys (λ x within. each x (inr within)))

module _ (s : State) (p : Ident → Site → Bool) where
  pub at_each : each_site s p ≡ true → (j : Ident) (x : Site) → Stands s j x → p j x ≡ true
  at_each all j x there = of_all (λ (e : Ident × Site). p e.0 e.1) (entries s.sites) (j, x) all (entry-found by_name (entries s.sites) j x there)

  pub from_each : ((j : Ident) (x : Site) → Stands s j x → p j x ≡ true) → each_site s p ≡ true
  from_each each =
      all_of (λ (e : Ident × Site). p e.0 e.1) (entries s.sites) (λ e within. each e.0 e.1 (find-entry by_name (entries s.sites) e s.sites.sorted within))
