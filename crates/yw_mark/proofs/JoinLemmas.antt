-- What joins take, wherever a net has these tokens.
use Rattle.std.proofs.Common.{◌≡◌, ℕ, Bool, true, false, cond, List, [], ◌∷◌, length, refl, sym, ap, ◌∙◌, subst, inl, inr, Option, Some, arith}
use Rattle.std.specs.Prelude.{◌&&◌, ◌||◌, IfSome, filter, find, is_some, nat_eq, nat_lt}
use Rattle.std.specs.Bool.{then_some}
use Rattle.std.specs.Cmp.Lexicographic.{pointwise}
use Rattle.std.specs.List.{list_any}
use Rattle.std.proofs.lemmas.Bool.{and_from, cases_Bool, eq-eqb, lt-ltb, or_left, or_right}
use Rattle.std.proofs.lemmas.List.Elements.{filter_agree}
use Rattle.yw_mark.specs.Tokens.{HasMarks, is_marked}
use Rattle.yw_state.specs.Identity.{Ident}
use Rattle.yw_base.specs.declared.gate.Gate.{Gate}
use Rattle.yw_base.specs.declared.gate.Gate.TheVariants.{Xor, Or}
use Rattle.yw_mark.specs.Taking.{Chooses, HasTokens, IsOfGate, taken_places}
use Rattle.yw_mark.specs.declared.join.Taken.{Taken}
use Rattle.yw_mark.specs.declared.join.Taken.TheVariants.{One, Marked}
use Rattle.yw_spec.specs.declared.task.Task.{Task}
use Rattle.yw_state.specs.Joins.{has_tokens, joins, marked}
use Rattle.yw_state.specs.Nets.{is_among}
use Rattle.yw_state.specs.State.{State}

-- a place is marked by these counts exactly where it is in the net
pub marked-same : (s : State) (i : Ident) (marks : List ℕ) → HasMarks s i marks → (c : ℕ) → marked s i c ≡ is_marked marks c
marked-same s i marks h c = ap (nat_lt 0) (h c)

list_any_agree : (p q : ℕ → Bool) → ((c : ℕ) → p c ≡ q c) → (cs : List ℕ) → list_any p cs ≡ list_any q cs
list_any_agree p q same [] = refl
list_any_agree p q same (c ∷ cs) = ap (λ b. b || list_any p cs) (same c) ∙ ap (λ b. q c || b) (list_any_agree p q same cs)

is_some-find : (p : ℕ → Bool) (cs : List ℕ) → is_some (find p cs) ≡ list_any p cs
is_some-find p [] = refl
is_some-find p (c ∷ cs) = elim (cases_Bool (p c)) [
  | inl met ↦ ap (λ b. is_some (cond b (Some c) (find p cs))) met ∙ ap (λ b. b || list_any p cs) (sym met)
  | inr unmet ↦ ap (λ b. is_some (cond b (Some c) (find p cs))) unmet ∙ is_some-find p cs ∙ ap (λ b. b || list_any p cs) (sym unmet)
]

-- what is found is there, and passes
pub found-there : (p : ℕ → Bool) (cs : List ℕ) (c : ℕ) → find p cs ≡ Some c → (is_among cs c ≡ true) × (p c ≡ true)
found-there p [] c e = cc
found-there p (x ∷ cs) c e = elim (cases_Bool (p x)) [
  | inl met ↦
      let is : x ≡ c = let f : Some x ≡ Some c = sym (ap (λ b. cond b (Some x) (find p cs)) met) ∙ e in cc in
      (or_left (nat_eq c x) (is_among cs c) (eq-eqb c x (sym is)), ap p (sym is) ∙ met)
  | inr unmet ↦
      let rest = found-there p cs c (sym (ap (λ b. cond b (Some x) (find p cs)) unmet) ∙ e) in
      (or_right (nat_eq c x) (is_among cs c) rest.0, rest.1)
]

pub pointwise-self : (cs : List ℕ) → pointwise nat_eq cs cs ≡ true
pointwise-self [] = refl
pointwise-self (c ∷ cs) = and_from (nat_eq c c) (pointwise nat_eq cs cs) (eq-eqb c c refl) (pointwise-self cs)

-- what passes is kept
kept-some : (p : ℕ → Bool) (cs : List ℕ) → list_any p cs ≡ true → nat_lt 0 (length (filter p cs)) ≡ true
kept-some p [] e = cc
kept-some p (c ∷ cs) e = elim (cases_Bool (p c)) [
  | inl met ↦ ap (λ b. nat_lt 0 (length (cond b (c ∷ filter p cs) (filter p cs)))) met ∙ lt-ltb 0 (length (c ∷ filter p cs)) (omega arith)
  | inr unmet ↦ ap (λ b. nat_lt 0 (length (cond b (c ∷ filter p cs) (filter p cs)))) unmet ∙ kept-some p cs (sym (ap (λ b. b || list_any p cs) unmet) ∙ e)
]

module _ (s : State) (i : Ident) (marks : List ℕ) (has : HasMarks s i marks) where
  pub any_marked : (before : List ℕ) → list_any (marked s i) before ≡ list_any (is_marked marks) before
  any_marked before = list_any_agree (marked s i) (is_marked marks) (marked-same s i marks has) before

  -- an XOR-join takes from the first marked place
  pub first_joins : (before : List ℕ) (c : ℕ) → find (is_marked marks) before ≡ Some c → joins Xor s i before (c ∷ []) ≡ true
  first_joins before c e =
      let there = found-there (is_marked marks) before c e in
      and_from (is_among before c && true) (marked s i c && true)
      (and_from (is_among before c) true there.0 refl)
      (and_from (marked s i c) true (marked-same s i marks has c ∙ there.1) refl)

  -- an OR-join takes from all marked places, where one is
  pub marked_join : (before : List ℕ) → list_any (is_marked marks) before ≡ true → joins Or s i before (filter (is_marked marks) before) ≡ true
  marked_join before some =
      let same = filter_agree (marked s i) (is_marked marks) (marked-same s i marks has) before in
      let kept = filter (is_marked marks) before in
      and_from (pointwise nat_eq kept (filter (marked s i) before)) (nat_lt 0 (length kept))
      (ap (pointwise nat_eq kept) same ∙ pointwise-self kept)
      (kept-some (is_marked marks) before some)

-- what a join chooses is of its kind, and it takes from there
chosen : (gate : Gate) (marks : List ℕ) (task : Task) (taken : Taken) → IsOfGate gate marks task.before taken → ((s : State) (i : Ident) → HasMarks s i marks → joins gate s i task.before (taken_places marks task.before taken) ≡ true) → Chooses marks (record task { join = gate }) taken
chosen gate marks task taken kind joins = record { kind = kind; joins = joins }

pub xor_chooses : (marks : List ℕ) (task : Task) (c : ℕ) → task.join ≡ Xor → find (is_marked marks) task.before ≡ Some c → Chooses marks task (One c)
xor_chooses marks task c is e =
    let P : Gate → Type 0 = λ gate. Chooses marks (record task { join = gate }) (One c) in
    subst P (sym is) (chosen Xor marks task (One c) e (λ s i has. first_joins s i marks has task.before c e))

pub or_chooses : (marks : List ℕ) (task : Task) → task.join ≡ Or → list_any (is_marked marks) task.before ≡ true → Chooses marks task Marked
or_chooses marks task is some =
    let P : Gate → Type 0 = λ gate. Chooses marks (record task { join = gate }) Marked in
    subst P (sym is) (chosen Or marks task Marked tt (λ s i has. marked_join s i marks has task.before some))

-- an XOR-join has the tokens that it needs exactly where a marked input place is found
pub xor_has : (marks : List ℕ) (task : Task) (found : Option ℕ) → task.join ≡ Xor → found ≡ find (is_marked marks) task.before → HasTokens marks task (is_some found)
xor_has marks task found is e s i has =
    let P : Gate → Type 0 = λ gate. has_tokens gate s i task.before ≡ is_some found in
    subst P (sym is) (any_marked s i marks has task.before ∙ sym (is_some-find (is_marked marks) task.before) ∙ ap is_some (sym e))

-- an OR-join chooses all marked places, where one is
pub or_answer : (marks : List ℕ) (task : Task) (some : Bool) → task.join ≡ Or → some ≡ list_any (is_marked marks) task.before → IfSome (then_some some Marked) (Chooses marks task)
or_answer marks task true is e = or_chooses marks task is (sym e)
or_answer marks task false is e = tt
