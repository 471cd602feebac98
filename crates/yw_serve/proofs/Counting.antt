-- What steps come to, one after another.
use Rattle.std.proofs.Common.{◌≡◌, ◌+◌, ◌<◌, ◌≤◌, ℕ, Bool, true, false, List, [], ◌∷◌, ◌++◌, length, get_or, take, cond, refl, sym, ap, ◌∙◌, subst, arith, length-append}
use Rattle.std.specs.Prelude.{◌==◌, count_by}
use Rattle.std.proofs.lemmas.List.{append-nil}
use Rattle.std.proofs.lemmas.List.Sums.{sum_by_more, sum_by_push}
use Rattle.yw_model.proofs.RunLemmas.{taken_by-append}
use Rattle.yw_model.specs.Run.{Entry, Step, taken_by}
use Rattle.yw_serve.proofs.Written.{taken_none}
use Rattle.yw_serve.specs.Plans.{Does, entry_of}
use Rattle.yw_serve.specs.Summary.{HasFew, finished_in, high_in, summary_by, summary_of, takes_nothing, with_entry, with_plan}
use Rattle.yw_serve.specs.declared.plan.Plan.{Plan}
use Rattle.yw_serve.specs.declared.plan.Plan.TheVariants.{Say, Accept}
use Rattle.yw_serve.specs.declared.summary.Summary.{Summary}

same_counts : (a b : Summary) → a.accepted ≡ b.accepted → a.ended ≡ b.ended → a.events ≡ b.events → a.high ≡ b.high → a.refused ≡ b.refused → a ≡ b
same_counts a b p q r s t = λ i. record { accepted = p i; ended = q i; events = r i; high = s i; refused = t i }

entry_more : (es : List Entry) (e : Entry) (refused : ℕ) → with_entry (summary_by es refused) e.events ≡ summary_by (es ++ e ∷ []) refused
entry_more es e refused = same_counts (with_entry (summary_by es refused) e.events) (summary_by (es ++ e ∷ []) refused)
    (sym (length-append es (e ∷ [])))
    (sym (sum_by_push (λ (x : Entry). finished_in x.events) es e))
    (sym (sum_by_push (λ (x : Entry). length x.events) es e))
    (sym (sum_by_push (λ (x : Entry). high_in x.events) es e))
    refl

-- a step more that takes nothing, or that takes an entry
refused_more : (steps : List Step) (step : Step) → step.taken ≡ [] → count_by takes_nothing (steps ++ step ∷ []) ≡ count_by takes_nothing steps + 1
refused_more steps step e =
    sum_by_push (λ (x : Step). cond (takes_nothing x) 1 0) steps step
    ∙ ap (λ (es : List Entry). count_by takes_nothing steps + cond (length es == 0) 1 0) e

none_more : (n : ℕ) → n + 0 ≡ n
none_more n = omega arith

taken_more : (steps : List Step) (step : Step) (entry : Entry) → step.taken ≡ entry ∷ []
    → count_by takes_nothing (steps ++ step ∷ []) ≡ count_by takes_nothing steps
taken_more steps step entry e =
    sum_by_push (λ (x : Step). cond (takes_nothing x) 1 0) steps step
    ∙ ap (λ (es : List Entry). count_by takes_nothing steps + cond (length es == 0) 1 0) e
    ∙ none_more (count_by takes_nothing steps)

-- what steps come to, with a step more that a plan does
pub summary_more : (steps : List Step) (plan : Plan) (buffer : List ℕ) (step : Step) → Does plan buffer step
    → with_plan (summary_of steps) plan ≡ summary_of (steps ++ step ∷ [])
summary_more steps (Say reply) buffer step d =
    let taken : taken_by (steps ++ step ∷ []) ≡ taken_by steps =
    taken_by-append steps (step ∷ []) ∙ ap (λ (es : List Entry). taken_by steps ++ es) (taken_none step d.0) ∙ append-nil (taken_by steps) in
    ap (summary_by (taken_by steps)) (sym (refused_more steps step d.0))
    ∙ ap (λ (es : List Entry). summary_by es (count_by takes_nothing (steps ++ step ∷ []))) (sym taken)
summary_more steps (Accept decided reply) buffer step d =
    let taken : taken_by (steps ++ step ∷ []) ≡ taken_by steps ++ entry_of decided ∷ [] =
    taken_by-append steps (step ∷ []) ∙ ap (λ (es : List Entry). taken_by steps ++ es) (append-nil step.taken ∙ d.taken)
    ∙ ap (λ (e : Entry). taken_by steps ++ e ∷ []) d.is in
    entry_more (taken_by steps) (entry_of decided) (count_by takes_nothing steps)
    ∙ ap (summary_by (taken_by steps ++ entry_of decided ∷ [])) (sym (taken_more steps step d.entry d.taken))
    ∙ ap (λ (es : List Entry). summary_by es (count_by takes_nothing (steps ++ step ∷ []))) (sym taken)

-- a plan that is done has no more events than an entry may have
pub does_few : (plan : Plan) (buffer : List ℕ) (step : Step) → Does plan buffer step → HasFew plan
does_few (Say reply) buffer step d = tt
does_few (Accept decided reply) buffer step d = subst (λ (e : Entry). length e.events ≤ 4097) d.is d.has.written.few

-- ---- a count in a loop

pub one_small : (passes : Bool) (one : ℕ) → one ≡ cond passes 1 0 → one ≤ 1
one_small true one e = omega (arith, e)
one_small false one e = omega (arith, e)

pub one_more : {A : Type 0} (p : A → Bool) (xs : List A) (i : ℕ) (x : A) (count one : ℕ) (passes : Bool) → i < length xs → x ≡ get_or xs i x
    → count ≡ count_by p (take i xs) → passes ≡ p x → one ≡ cond passes 1 0 → count + one ≡ count_by p (take (i + 1) xs)
one_more p xs i x count one passes within here so_far is e =
    let now : one ≡ cond (p (get_or xs i x)) 1 0 = e ∙ ap (λ (b : Bool). cond b 1 0) (is ∙ ap p here) in
    omega (arith, so_far, now, sum_by_more (λ y. cond (p y) 1 0) xs i x within)
