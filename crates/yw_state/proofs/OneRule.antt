-- A table of checks breaks one rule first, or none.
use Rattle.std.specs.Prelude.{◌≡◌, ℕ, true, false, List, [], ◌∷◌, Option, Some, None, Err}
use Rattle.std.proofs.Common.{sym, ◌∙◌, subst, inl, inr}
use Rattle.yw_spec.specs.declared.spec.Spec.{Spec}
use Rattle.yw_state.specs.Broken.{Breaks, Check, First, QueryBreaks, checks, fact, fact_at, fault, query_checks, test, test_at}
use Rattle.yw_state.specs.NewRule.{tree_scope}
use Rattle.yw_state.specs.State.{State, spec_called}
use Rattle.yw_state.specs.Texts.{IsOne, Reader}
use Rattle.yw_state.specs.declared.command.Command.{Command}
use Rattle.yw_state.specs.declared.command.Command.TheVariants as commands
use Rattle.yw_state.specs.declared.command.Query.{Query}
use Rattle.yw_state.specs.declared.command.Query.TheVariants as queries
use Rattle.yw_state.specs.declared.rule.Refusal.{Refusal}
use Rattle.yw_state.specs.declared.tree.TreePlace.{TreePlace}

IsAlone : {A : Type 0} → (A → Type 0) → Type 0
IsAlone {A} P = (a b : A) → P a → P b → a ≡ b

-- a fact is at one place at most, and a text has one fault
abbrev FindsOne : Check → Type 0
FindsOne (fact_at P r) = IsAlone P
FindsOne (fault P) = IsAlone P
FindsOne c = Unit {0}

abbrev AllFindOne : List Check → Type 0
AllFindOne [] = Unit {0}
AllFindOne (c ∷ cs) = FindsOne c × AllFindOne cs

first_one : (cs : List Check) → AllFindOne cs → (a b : Option Refusal) → First cs a → First cs b → a ≡ b
unfolding IsAlone
first_one [] ones a b p q = p ∙ sym q
first_one (test true r ∷ cs) ones a b p q = p ∙ sym q
first_one (test false r ∷ cs) ones a b p q = first_one cs ones.1 a b p q
first_one (fact P r ∷ cs) ones a b (inl p) (inl q) = p.1 ∙ sym q.1
first_one (fact P r ∷ cs) ones a b (inl p) (inr q) = absurd (q.0 p.0)
first_one (fact P r ∷ cs) ones a b (inr p) (inl q) = absurd (p.0 q.0)
first_one (fact P r ∷ cs) ones a b (inr p) (inr q) = first_one cs ones.1 a b p.1 q.1
first_one (test_at (Some place) r ∷ cs) ones a b p q = p ∙ sym q
first_one (test_at None r ∷ cs) ones a b p q = first_one cs ones.1 a b p q
first_one (fact_at P r ∷ cs) ones a b (inl p) (inl q) = let e = ones.0 p.0 q.0 p.1 q.1 in cc
first_one (fact_at P r ∷ cs) ones a b (inl p) (inr q) = absurd (q.0 p.0 p.1)
first_one (fact_at P r ∷ cs) ones a b (inr p) (inl q) = absurd (p.0 q.0 q.1)
first_one (fact_at P r ∷ cs) ones a b (inr p) (inr q) = first_one cs ones.1 a b p.1 q.1
first_one (fault P ∷ cs) ones a b (inl p) (inl q) = let e = ones.0 p.0 q.0 p.1 q.1 in cc
first_one (fault P ∷ cs) ones a b (inl p) (inr q) = absurd (q.0 p.0 p.1)
first_one (fault P ∷ cs) ones a b (inr p) (inl q) = absurd (p.0 q.0 q.1)
first_one (fault P ∷ cs) ones a b (inr p) (inr q) = first_one cs ones.1 a b p.1 q.1

-- ---- the tables

-- the condition of a rule has one fault at most
misspelt-one : (reader : Reader) → IsOne reader → (s : State) (p : TreePlace) (when : List ℕ) →
    IsAlone (λ (at : List ℕ). (spec : Spec) × (spec_called s p.spec ≡ Some spec) × reader.condition when (tree_scope spec p) (Err at))
unfolding IsAlone
misspelt-one reader one s p when a b (x, here, xs) (y, there, ys) =
    let same : x ≡ y = cc in
    let both = one.condition when (tree_scope x p) (Err a) (Err b) xs (subst (λ (z : Spec). reader.condition when (tree_scope z p) (Err b)) (sym same) ys) in
    cc

checks-one : (reader : Reader) → IsOne reader → (s : State) (c : Command) → AllFindOne (checks reader s c)
unfolding IsAlone checks
checks-one reader one s (commands.Person name roles) = tt
checks-one reader one s (commands.Load toml) = (λ a b p q. let both = one.spec toml (Err a) (Err b) p q in cc, (tt, tt))
checks-one reader one s (commands.Rule spec net task kind at side when conclusion) =
    (tt, (tt, (tt, (misspelt-one reader one s (record { spec = spec; net = net; task = task; kind = kind }) when, (tt, (tt, tt))))))
checks-one reader one s (commands.Launch spec gs) = search
checks-one reader one s (commands.Enter who i t) = search
checks-one reader one s (commands.Start who j) = search
checks-one reader one s (commands.Complete who j gs) = search
checks-one reader one s (commands.Add who i t value) = search
checks-one reader one s (commands.Raise j kind) = search
checks-one reader one s (commands.Suspend j) = search
checks-one reader one s (commands.Continue j) = search
checks-one reader one s (commands.Cancel j) = search
checks-one reader one s (commands.Advance j) = search

query_checks-one : (s : State) (q : Query) → AllFindOne (query_checks s q)
unfolding query_checks
query_checks-one s (queries.List who) = (tt, tt)
query_checks-one s (queries.Show j) = (tt, tt)
query_checks-one s (queries.Ended j) = (tt, tt)
query_checks-one s queries.Specs = tt

-- ---- the laws

pub command-breaks-one : (reader : Reader) → IsOne reader → (s : State) (c : Command) (a b : Option Refusal) → Breaks reader s c a → Breaks reader s c b → a ≡ b
command-breaks-one reader one s c = first_one (checks reader s c) (checks-one reader one s c)

pub query-breaks-one : (s : State) (q : Query) (a b : Option Refusal) → QueryBreaks s q a → QueryBreaks s q b → a ≡ b
query-breaks-one s q = first_one (query_checks s q) (query_checks-one s q)
