-- A loop that tries one thing after another beside those seen.
use Rattle.std.proofs.Common.{◌≡◌, ℕ, ◌+◌, ◌<◌, List, [], ◌∷◌, ◌++◌, length, get_or, take, Option, Some, None, refl, sym, ap, ◌∙◌, subst, append_assoc}
use Rattle.std.proofs.lemmas.List.{take_more}
use Rattle.yw_accept.specs.declared.broken.Broken.{Broken}
use Rattle.yw_accept.specs.Order.{Check}
use Rattle.yw_accept.proofs.Loops.{SoFarInTurn, turn_goes_on, turn_stops}
use Rattle.yw_check_names.specs.Seen.{NameSet, Tries, TriesAll}

-- a result that isn't a fault is none
pub none_found : (found : Option Broken) → ((broken : Broken) → found ≡ Some broken → ⊥) → found ≡ None
none_found None no_fault = refl
none_found (Some broken) no_fault = absurd (no_fault broken refl)

module _ {A : Type 0} (Has : NameSet → List A → Type 0) (check : List A → A → Check) where
  -- the first i are tried, and nothing is at fault
  pub record TriedSoFar (old now : NameSet) (xs : List A) (i : ℕ) : Type 0 where
    pub so_far : (seen : List A) → Has old seen → SoFarInTurn check seen xs i (seen ++ take i xs)
    pub knows : (seen : List A) → Has old seen → Has now (seen ++ take i xs)

  module _ (old : NameSet) (xs : List A) where
    module _ (now new : NameSet) (i : ℕ) (x : A) (lt : i < length xs) (is : x ≡ get_or xs i x) (tried : TriedSoFar old now xs i) (found : Option Broken) (tries : Tries Has check now new x found) where
      seen-push : (seen : List A) → (seen ++ take i xs) ++ x ∷ [] ≡ seen ++ take (i + 1) xs
      seen-push seen =
          append_assoc seen (take i xs) (x ∷ [])
          ∙ ap (λ y. seen ++ (take i xs ++ y ∷ [])) is
          ∙ ap (λ ys. seen ++ ys) (sym (take_more xs i x lt))

      pub tried_more : found ≡ None → TriedSoFar old new xs (i + 1)
      tried_more none = record {
        so_far = λ seen has.
            let Q : Option Broken → Type 0 = λ r. check (seen ++ take i xs) x r in
            subst (SoFarInTurn check seen xs (i + 1)) (seen-push seen)
            (turn_goes_on check seen xs i (seen ++ take i xs) x x lt is (tried.so_far seen has) (subst Q none (tries.finds (seen ++ take i xs) (tried.knows seen has))));
        knows = λ seen has. subst (Has new) (seen-push seen) (tries.knows (seen ++ take i xs) (tried.knows seen has) none);
      }

      pub tried_stops : (broken : Broken) → found ≡ Some broken → TriesAll Has check old new xs (Some broken)
      tried_stops broken some = record {
        finds = λ seen has.
            let Q : Option Broken → Type 0 = λ r. check (seen ++ take i xs) x r in
            turn_stops check seen xs i (seen ++ take i xs) x x broken lt is (tried.so_far seen has) (subst Q some (tries.finds (seen ++ take i xs) (tried.knows seen has)));
        knows = λ seen has none. absurd (cc none);
      }
