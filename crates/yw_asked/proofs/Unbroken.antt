-- What is known of a state in which a command breaks no rule.
use Rattle.std.specs.Prelude.{◌≡◌, ℕ, ◌+◌, ◌==◌, Bool, true, false, not, List, [], ◌∷◌, Option, Some, None, is_none, is_some, nat_lt, option_map, refl}
use Rattle.std.proofs.Common.{sym, ◌∙◌, ap, inl, inr, subst}
use Rattle.std.proofs.lemmas.Bool.{and_from, eq-eqb, le-leb, ltb-false}
use Rattle.yw_base.specs.Identity.{number_end, case_number}
use Rattle.yw_state.proofs.Tests.{by_test, never, nowhere}
use Rattle.yw_state.specs.Allowed.{Allowed, is_next}
use Rattle.yw_state.specs.Broken.{Check, First, fact, fact_at, fault, test, test_at}
use Rattle.yw_state.specs.Events.{after}
use Rattle.yw_state.specs.Identity.{Ident}
use Rattle.yw_state.specs.Legal.{IsAsked}
use Rattle.yw_state.specs.Options.{is_some_and}
use Rattle.yw_state.specs.State.{State}
use Rattle.yw_state.specs.Texts.{EventText, Reader, TextSays, no_text, nothing, text_of}
use Rattle.yw_state.specs.Well.{IsWell}
use Rattle.yw_state.specs.Words.{clear, held, urgent}
use Rattle.yw_state.specs.declared.command.Command.{Command}
use Rattle.yw_state.specs.declared.event.Event.{Event}
use Rattle.yw_state.specs.declared.rule.Refusal.{Refusal}
use Rattle.yw_still.proofs.Urgent.{urgent_moves}
use Rattle.yw_still.specs.Still.{SomethingComes}
use Rattle.yw_asked.specs.Asked.{HasEvent}

-- ---- what may be there

-- a test of what is there
pub known : {A : Type 0} {o : Option A} {x : A} {b : Bool} → o ≡ Some x → (p : A → Bool) → is_some_and o p ≡ b → p x ≡ b
known is p e = ap (λ o. is_some_and o p) (sym is) ∙ e

pub passes : {A : Type 0} {o : Option A} {x : A} → o ≡ Some x → (p : A → Bool) → p x ≡ true → is_some_and o p ≡ true
passes is p e = ap (λ o. is_some_and o p) is ∙ e

pub some_of : {A : Type 0} (o : Option A) → is_none o ≡ false → (x : A) × (o ≡ Some x)
some_of None e = never (sym e)
some_of (Some x) e = (x, refl)

pub none_of : {A : Type 0} (o : Option A) → is_some o ≡ false → is_none o ≡ true
none_of None e = refl
none_of (Some x) e = never (sym e)

pub unmapped : {A B : Type 0} (f : A → B) (o : Option A) → option_map f o ≡ None → o ≡ None
unmapped f None e = refl
unmapped f (Some x) e = nowhere (sym e)

-- ---- tables of checks

-- no check of the table is broken
abbrev pub NoneBroken : List Check → Type 0
NoneBroken [] = Unit {0}
NoneBroken (test b r ∷ cs) = (b ≡ false) × NoneBroken cs
NoneBroken (fact P r ∷ cs) = (P → ⊥) × NoneBroken cs
NoneBroken (test_at o r ∷ cs) = (o ≡ None) × NoneBroken cs
NoneBroken (fact_at P r ∷ cs) = ((at : List ℕ) → P at → ⊥) × NoneBroken cs
NoneBroken (fault P ∷ cs) = ((refusal : Refusal) → P refusal → ⊥) × NoneBroken cs

pub none_broken : (cs : List Check) → First cs None → NoneBroken cs
none_broken [] f = tt
none_broken (test true r ∷ cs) f = nowhere f
none_broken (test false r ∷ cs) f = (refl, none_broken cs f)
none_broken (fact P r ∷ cs) (inl f) = nowhere f.1
none_broken (fact P r ∷ cs) (inr f) = (f.0, none_broken cs f.1)
none_broken (test_at None r ∷ cs) f = (refl, none_broken cs f)
none_broken (test_at (Some at) r ∷ cs) f = nowhere f
none_broken (fact_at P r ∷ cs) (inl f) = nowhere f.2
none_broken (fact_at P r ∷ cs) (inr f) = (f.0, none_broken cs f.1)
none_broken (fault P ∷ cs) (inl f) = nowhere f.2
none_broken (fault P ∷ cs) (inr f) = (f.0, none_broken cs f.1)

-- ---- an event

-- an event without a text leads to the state after it
pub event_without_text : (reader : Reader) (s : State) (c : Command) (e : Event) → text_of e ≡ no_text → IsAsked reader s c e → Allowed s e nothing → HasEvent reader s c
event_without_text reader s c e none asked allowed =
    (e, after s e nothing, asked, record { said = nothing; says = subst (λ (x : EventText). TextSays reader s x nothing) (sym none) refl; allowed = allowed; then = refl })

-- ---- a case that nothing moves

-- nothing is still to come
abbrev pub NotMoving : State → Ident → Type 0
NotMoving s j = SomethingComes s (case_number j) → ⊥

pub is_clear : (reader : Reader) (s : State) (j : Ident) → IsWell reader s → NotMoving s j → held s j ≡ false → clear s j ≡ true
is_clear reader s j well still loose = and_from _ _ (ap not loose) (ap not calm)
  where
    calm : urgent s (case_number j) ≡ false
    calm = by_test (urgent s (case_number j))
        (λ hurry. absurd (still (urgent_moves reader s well (case_number j) hurry)))
        (λ e. e)

-- ---- a number that is left

pub one_left : (s : State) → nat_lt number_end (s.next + 1) ≡ false → is_next s s.next ≡ true
one_left s left = and_from (s.next == s.next) _ (eq-eqb s.next s.next refl) (le-leb (s.next + 1) number_end (ltb-false number_end (s.next + 1) left))
