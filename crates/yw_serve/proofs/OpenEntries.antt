-- An entry's bytes lead from a state to one other, if to any.
use Rattle.std.proofs.Common.{◌≡◌, ◌≢◌, ◌≤◌, ℕ, List, [], ◌∷◌, ◌++◌, length, take, Bool, true, false, refl, sym, ap, ◌∙◌, subst, arith, length-take}
use Rattle.std.proofs.lemmas.List.{append-nil, take_all}
use Rattle.std.specs.Prelude.{◌&&◌}
use Rattle.std.specs.Bool.{MatchBool}
use Rattle.std.specs.List.{list_all}
use Rattle.yw_codec.specs.Entries.{IsEntry}
use Rattle.yw_codec.proofs.Counts.{same_entry}
use Rattle.yw_texts.specs.Texts.{reader}
use Rattle.yw_texts.proofs.ReadingOnce.{reads_one}
use Rattle.yw_built.specs.Built.{is_built}
use Rattle.yw_state.specs.Events.{LeadAll}
use Rattle.yw_state.specs.State.{State}
use Rattle.yw_state.proofs.LeadsOne.{leads_one, lead_all_one}
use Rattle.yw_state.specs.declared.event.Event.{Event}
use Rattle.yw_serve.specs.Damage.{EntryLeads}
use Rattle.yw_serve.specs.Opening.{AreApplied, IsApplied}

-- bytes are the entry of the same events alone
pub one_entry : (es fs : List Event) (bytes : List ℕ) → IsEntry es bytes → IsEntry fs bytes → es ≡ fs
one_entry es fs bytes is_es is_fs = (same_entry es fs bytes bytes [] [] is_es is_fs refl).0

pub leads_once : (s : State) (bytes : List ℕ) (t u : State) → EntryLeads s bytes t → EntryLeads s bytes u → t ≡ u
leads_once s bytes t u a b =
    lead_all_one reader reads_one a.events s t u a.lead (subst (λ (es : List Event). LeadAll reader s es u) (one_entry b.events a.events bytes b.is a.is) b.lead)

-- the whole bytes are an entry, whose events lead on or don't
pub whole_leads : (s t : State) (bytes : List ℕ) (size : ℕ) (es : List Event) → IsEntry es (take size bytes) → size ≡ length bytes → LeadAll reader s es t → EntryLeads s bytes t
whole_leads s t bytes size es is all lead = record { events = es; is = subst (IsEntry es) (take_all size bytes (omega arith)) is; lead = lead }

pub whole_stops : (s : State) (bytes : List ℕ) (size : ℕ) (es : List Event) → IsEntry es (take size bytes) → size ≡ length bytes → ((u : State) → LeadAll reader s es u → ⊥) → (t : State) → EntryLeads s bytes t → ⊥
whole_stops s bytes size es is all not t leads =
    not t (subst (λ (fs : List Event). LeadAll reader s fs t) (one_entry leads.events es bytes leads.is (subst (IsEntry es) (take_all size bytes (omega arith)) is)) leads.lead)

-- bytes after an entry make them none
pub part_stops : (s : State) (bytes : List ℕ) (size : ℕ) → size ≤ length bytes → size ≢ length bytes
    → ((es : List Event) (entry rest : List ℕ) → IsEntry es entry → bytes ≡ entry ++ rest → entry ≡ take size bytes) → (t : State) → EntryLeads s bytes t → ⊥
part_stops s bytes size within part only t leads =
    let cut : bytes ≡ take size bytes = only leads.events bytes [] leads.is (sym (append-nil bytes)) in
    part (omega (arith, ap length cut, length-take size bytes))

-- and so does a prefix that is none
pub none_stops : (s : State) (bytes : List ℕ) → ((es : List Event) (entry rest : List ℕ) → IsEntry es entry → bytes ≡ entry ++ rest → ⊥) → (t : State) → EntryLeads s bytes t → ⊥
none_stops s bytes none t leads = none leads.events bytes [] leads.is (sym (append-nil bytes))

-- what comes of an entry's events comes of its bytes
pub by_answer : (s t : State) (bytes : List ℕ) (size : ℕ) (es : List Event) → IsEntry es (take size bytes) → size ≡ length bytes → (allowed : Bool) → AreApplied s es allowed t
    → MatchBool allowed (EntryLeads s bytes t) ((u : State) → EntryLeads s bytes u → ⊥)
by_answer s t bytes size es is all true applied = whole_leads s t bytes size es is all applied
by_answer s t bytes size es is all false applied = whole_stops s bytes size es is all applied

-- what comes of a first event and of the further ones comes of all
pub first_stops : (s : State) (e : Event) (es : List Event) (t : State) → IsApplied s e false t → AreApplied s (e ∷ es) false t
first_stops s e es t not = λ u lead. not lead.0 lead.1

pub first_applied : (s mid : State) (e : Event) (es : List Event) (allowed : Bool) (t : State) → IsApplied s e true mid → AreApplied mid es allowed t → AreApplied s (e ∷ es) allowed t
first_applied s mid e es true t one others = (mid, one, others)
first_applied s mid e es false t one others =
    λ u lead. others u (subst (λ (m : State). LeadAll reader m es u) (leads_one reader reads_one s e lead.0 mid lead.1 one) lead.2)

pub none_left : {A : Type 0} (xs : List A) → length xs ≡ 0 → xs ≡ []
none_left [] e = refl
none_left (x ∷ xs) e = cc

-- each of the further events is built where all are
pub further_events : (e : Event) (es fs : List Event) → fs ≡ e ∷ es → list_all is_built fs ≡ true → list_all is_built es ≡ true
further_events e es fs is all = right_of (is_built e) (list_all is_built es) (ap (list_all is_built) (sym is) ∙ all)
  where
    right_of : (p q : Bool) → (p && q) ≡ true → q ≡ true
    right_of true q h = h
    right_of false q h = cc

pub first_event : (e : Event) (es fs : List Event) → fs ≡ e ∷ es → list_all is_built fs ≡ true → is_built e ≡ true
first_event e es fs is all = left_of (is_built e) (list_all is_built es) (ap (list_all is_built) (sym is) ∙ all)
  where
    left_of : (p q : Bool) → (p && q) ≡ true → p ≡ true
    left_of true q h = refl
    left_of false q h = cc
