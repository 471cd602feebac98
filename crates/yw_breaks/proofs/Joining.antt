-- The first broken check of a table, by that of its parts.
use Rattle.std.proofs.Common.{List, None, Option, Some, [], false, inl, inr, refl, subst, sym, true, ◌++◌, ◌∷◌, ◌≡◌}
use Rattle.std.specs.Option.{option_or}
use Rattle.std.specs.Prelude.{option_map}
use Rattle.yw_breaks.specs.Tables.{Joins}
use Rattle.yw_state.proofs.Tests.{nowhere}
use Rattle.yw_state.specs.Broken.{Check, First, checks, fact, fact_at, fault, placeless, test, test_at}
use Rattle.yw_state.specs.Identity.{Ident}
use Rattle.yw_base.specs.Identity.{case_number}
use Rattle.yw_state.specs.State.{State}
use Rattle.yw_state.specs.Texts.{Reader}
use Rattle.yw_state.specs.declared.command.Command.{Command}
use Rattle.yw_state.specs.declared.rule.Refusal.{Refusal}
use Rattle.yw_state.specs.declared.rule.Rule.{Rule}
use Rattle.yw_state.specs.declared.rule.Rule.TheVariants.{NotQuiet}
use Rattle.yw_still.specs.Still.{SomethingComes}
use Rattle.yw_task.specs.Completes.{or_else}

-- what is broken in front is the first
pub in_front : (front rest : List Check) (refusal : Refusal) → First front (Some refusal) → First (front ++ rest) (Some refusal)
in_front [] rest refusal f = nowhere (sym f)
in_front (test true r ∷ cs) rest refusal f = f
in_front (test false r ∷ cs) rest refusal f = in_front cs rest refusal f
in_front (fact P r ∷ cs) rest refusal (inl f) = inl f
in_front (fact P r ∷ cs) rest refusal (inr f) = inr (f.0, in_front cs rest refusal f.1)
in_front (test_at (Some at) r ∷ cs) rest refusal f = f
in_front (test_at None r ∷ cs) rest refusal f = in_front cs rest refusal f
in_front (fact_at P r ∷ cs) rest refusal (inl f) = inl f
in_front (fact_at P r ∷ cs) rest refusal (inr f) = inr (f.0, in_front cs rest refusal f.1)
in_front (fault P ∷ cs) rest refusal (inl f) = inl f
in_front (fault P ∷ cs) rest refusal (inr f) = inr (f.0, in_front cs rest refusal f.1)

-- where nothing is, what is broken first behind it is the first
pub behind : (front rest : List Check) (found : Option Refusal) → First front None → First rest found → First (front ++ rest) found
behind [] rest found f g = g
behind (test true r ∷ cs) rest found f g = nowhere f
behind (test false r ∷ cs) rest found f g = behind cs rest found f g
behind (fact P r ∷ cs) rest found (inl f) g = nowhere f.1
behind (fact P r ∷ cs) rest found (inr f) g = inr (f.0, behind cs rest found f.1 g)
behind (test_at (Some at) r ∷ cs) rest found f g = nowhere f
behind (test_at None r ∷ cs) rest found f g = behind cs rest found f g
behind (fact_at P r ∷ cs) rest found (inl f) g = nowhere f.2
behind (fact_at P r ∷ cs) rest found (inr f) g = inr (f.0, behind cs rest found f.1 g)
behind (fault P ∷ cs) rest found (inl f) g = nowhere f.2
behind (fault P ∷ cs) rest found (inr f) g = inr (f.0, behind cs rest found f.1 g)

-- where nothing is broken, nothing is in front
pub front_none : (front rest : List Check) → First (front ++ rest) None → First front None
front_none [] rest f = refl
front_none (test true r ∷ cs) rest f = f
front_none (test false r ∷ cs) rest f = front_none cs rest f
front_none (fact P r ∷ cs) rest (inl f) = inl f
front_none (fact P r ∷ cs) rest (inr f) = inr (f.0, front_none cs rest f.1)
front_none (test_at (Some at) r ∷ cs) rest f = f
front_none (test_at None r ∷ cs) rest f = front_none cs rest f
front_none (fact_at P r ∷ cs) rest (inl f) = inl f
front_none (fact_at P r ∷ cs) rest (inr f) = inr (f.0, front_none cs rest f.1)
front_none (fault P ∷ cs) rest (inl f) = inl f
front_none (fault P ∷ cs) rest (inr f) = inr (f.0, front_none cs rest f.1)

-- where all that is found in front has no place
pub then_rest : (front rest : List Check) (o : Option Rule) (found : Option Refusal) → First front (option_map placeless o) → (o ≡ None → First rest found)
    → First (front ++ rest) (or_else found o)
then_rest front rest (Some r) found f g = in_front front rest (placeless r) f
then_rest front rest None found f g = behind front rest found f (g refl)

-- nor what is found behind
pub then_or : (front rest : List Check) (o p : Option Rule) → First front (option_map placeless o) → First rest (option_map placeless p)
    → First (front ++ rest) (option_map placeless (option_or o p))
then_or front rest (Some r) p f g = in_front front rest (placeless r) f
then_or front rest None p f g = behind front rest (option_map placeless p) f g

-- a table with the check that the case is quiet between its parts
module _ (reader : Reader) (s : State) (c : Command) (j : Ident) (front rest : List Check) where
  abbrev quiet_and_rest : List Check
  quiet_and_rest = fact (SomethingComes s (case_number j)) NotQuiet ∷ rest

  pub joined : checks reader s c ≡ front ++ quiet_and_rest → Joins reader s c j front rest
  joined whole = record {
    in_front = λ refusal f. subst (λ cs. First cs (Some refusal)) (sym whole) (in_front front quiet_and_rest refusal f);
    moving = λ f moves. subst (λ cs. First cs (Some (placeless NotQuiet))) (sym whole) (behind front quiet_and_rest (Some (placeless NotQuiet)) f (inl (moves, refl)));
    behind = λ found f quiet g. subst (λ cs. First cs found) (sym whole) (behind front quiet_and_rest found f (inr (λ moves. quiet moves.0 moves.1, g)));
  }
