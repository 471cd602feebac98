-- Behind an event what it may have set moving is loose, or nothing is known of its case any more.
use Rattle.std.specs.BTreeSet.{contains}
use Rattle.std.specs.List.{list_all, list_any, range_with_len}
use Rattle.std.specs.Prelude.{◌≡◌, ◌+◌, ◌++◌, ◌∷◌, ◌&&◌, ◌||◌, ◌<◌, ◌^◌, ℕ, Bool, IfSome, List, [], Option, Some, None, SomeIff, false, map, nat_lt, true}
use Rattle.std.proofs.Common.{ap, arith, inl, inr, refl, subst, sym, ◌∙◌}
use Rattle.std.proofs.Math.Bool.{or-false}
use Rattle.std.proofs.lemmas.Bool.{and_parts, ltb-true, or_left, or_right}
use Rattle.std.proofs.lemmas.List.Folds.{list_all-append, list_any-append}
use Rattle.std.proofs.lemmas.List.FromFn.{map-range_with_len_more}
use Rattle.std.proofs.lemmas.Slice.Eq.{bytes_eq-Decides}
use Rattle.yw_base.specs.Identity.{is_identity, is_number, number_end, case_number, child, parent}
use Rattle.yw_loose.proofs.Within.{done_there}
use Rattle.yw_loose.specs.Loose.{Forgets, Gains, Loosens, is_known, is_loose}
use Rattle.yw_loose.specs.Moved.{done_at, is_moved, made_by}
use Rattle.yw_loose.specs.declared.loose.Loose.{Loose}
use Rattle.yw_moved.proofs.Parents.{parent_child}
use Rattle.yw_state.proofs.Tests.{never, or_cases}
use Rattle.yw_state.specs.Identity.{Ident, same}
use Rattle.yw_state.specs.Map.{lexical}
use Rattle.yw_state.specs.declared.event.Event.{Event}
use Rattle.yw_state.specs.declared.event.Event.TheVariants as events

-- ---- one after another

pub one_more : (old new : Loose) (id : Ident) → Gains old new id → Loosens old new (λ j. same j id)
one_more old new id gains = record {
  known = λ n e. sym (gains.known n) ∙ e;
  was = λ j known e. gains.loose j ∙ or_right (same j id) (is_loose old j) e;
  passing = λ j identity known e. gains.loose j ∙ or_left (same j id) (is_loose old j) e;
  counts = gains.counts;
}

pub then : (old mid new : Loose) (p q : Ident → Bool) → Loosens old mid p → Loosens mid new q → Loosens old new (λ j. p j || q j)
then old mid new p q first second = record {
  known = λ n e. first.known n (second.known n e);
  was = λ j known e. second.was j known (first.was j (second.known (case_number j) known) e);
  passing = λ j identity known e. elim (or_cases (p j) (q j) e) [
    | inl here ↦ second.was j known (first.passing j identity (second.known (case_number j) known) here)
    | inr there ↦ second.passing j identity known there
  ];
  counts = second.counts ∙ first.counts;
}

-- by another test that only those pass
fewer : (old new : Loose) (p q : Ident → Bool) → Loosens old new p → ((j : Ident) → is_identity j ≡ true → q j ≡ true → p j ≡ true) → Loosens old new q
fewer old new p q loosens implies = record {
  known = loosens.known;
  was = loosens.was;
  passing = λ j identity known e. loosens.passing j identity known (implies j identity e);
  counts = loosens.counts;
}

-- what is no identity needn't be loose
pub no_identity : (l : Loose) (id : Ident) → (is_identity id ≡ true → ⊥) → Loosens l l (λ j. same j id)
no_identity l id none = record {
  known = λ n e. e;
  was = λ j known e. e;
  passing = λ j identity known e. absurd (none (subst (λ i. is_identity i ≡ true) ((bytes_eq-Decides j id).0 e) identity));
  counts = refl;
}

-- and one item more, by its number
pub item_more : (old mid new : Loose) (net : Ident) (first k : ℕ) → Loosens old mid (λ j. list_any (same j) (map (child net) (range_with_len first k)))
    → Loosens mid new (λ j. same j (child net (first + k))) → Loosens old new (λ j. list_any (same j) (map (child net) (range_with_len first (k + 1))))
item_more old mid new net first k those that =
    fewer old new (λ j. list_any (same j) (map (child net) (range_with_len first k)) || same j (child net (first + k)))
    (λ j. list_any (same j) (map (child net) (range_with_len first (k + 1))))
    (then old mid new (λ j. list_any (same j) (map (child net) (range_with_len first k))) (λ j. same j (child net (first + k))) those that)
    (λ j identity e. sym (apart j) ∙ e)
  where
    apart : (j : Ident)
        → list_any (same j) (map (child net) (range_with_len first (k + 1)))
        ≡ (list_any (same j) (map (child net) (range_with_len first k)) || same j (child net (first + k)))
    apart j =
        ap (list_any (same j)) (map-range_with_len_more (child net) first k (first + k) refl)
        ∙ list_any-append (same j) (map (child net) (range_with_len first k)) (child net (first + k) ∷ [])
        ∙ ap (λ b. list_any (same j) (map (child net) (range_with_len first k)) || b) (or-false (same j (child net (first + k))))

-- where an identity is found exactly where it is one
pub found_more : (old new : Loose) (found : Option Ident) (x : Ident) → found ≡ Some x → Gains old new x → (id : Ident)
    → SomeIff found (is_identity id ≡ true) id → Loosens old new (λ j. same j id)
found_more old new found x is gains id iff =
    subst (λ (i : Ident). Loosens old new (λ j. same j i)) (subst (λ o. SomeIff o (is_identity id ≡ true) id) is iff).1 (one_more old new x gains)

pub none_more : (l : Loose) (found : Option Ident) → found ≡ None → (id : Ident) → SomeIff found (is_identity id ≡ true) id → Loosens l l (λ j. same j id)
none_more l found is id iff = no_identity l id (subst (λ o. SomeIff o (is_identity id ≡ true) id) is iff)

-- a number past 64 bits is in no identity
pub too_large : (net : Ident) (number : ℕ) → ¬ (number < 2 ^ 64) → ¬ (is_identity (child net number) ≡ true)
too_large net number large identity =
    let all = and_parts _ (list_all is_number (net ++ number ∷ [])) identity in
    let last = and_parts (list_all is_number net) (is_number number && true) (sym (list_all-append is_number net (number ∷ [])) ∙ all.1) in
    let number_is = and_parts (is_number number) true last.1 in
    let small : number < number_end = ltb-true number number_end (and_parts (nat_lt 0 number) (nat_lt number number_end) number_is.0).1 in
    large (omega (arith, small))

-- ---- where an event is done at a net or an item, or suspends something

around_one : (a b : Bool) → (a || (b || false)) ≡ true → (a || b) ≡ true
around_one true b e = refl
around_one false b e = sym (or-false b) ∙ e

above_items : (i j : Ident) (ks : List ℕ) → list_any (same j) (map parent (map (child i) ks)) ≡ true → same j i ≡ true
above_items i j [] e = never e
above_items i j (k ∷ ks) e = elim (or_cases (same j (parent (child i k))) (list_any (same j) (map parent (map (child i) ks))) e) [
  | inl here ↦ ap (same j) (sym (parent_child i k)) ∙ here
  | inr rest ↦ above_items i j ks rest
]

-- j is the net or directly above it, or is one of these items
items_moved : (i j : Ident) (ks : List ℕ) → (same j i || list_any (same j) (map (child i) ks ++ (parent i ∷ map parent (map (child i) ks)))) ≡ true
    → (list_any (same j) (map (child i) ks) || (same j i || same j (parent i))) ≡ true
items_moved i j ks e =
    let made : Bool = list_any (same j) (map (child i) ks) in
    let around : Bool = same j i || same j (parent i) in
    elim (or_cases (same j i) (list_any (same j) (map (child i) ks ++ (parent i ∷ map parent (map (child i) ks)))) e) [
      | inl here ↦ or_right made around (or_left (same j i) (same j (parent i)) here)
      | inr rest ↦
          elim (or_cases made (list_any (same j) (parent i ∷ map parent (map (child i) ks)))
          (sym (list_any-append (same j) (map (child i) ks) (parent i ∷ map parent (map (child i) ks))) ∙ rest)) [
            | inl come ↦ or_left made around come
            | inr high ↦
                elim (or_cases (same j (parent i)) (list_any (same j) (map parent (map (child i) ks))) high) [
                  | inl above ↦ or_right made around (or_right (same j i) (same j (parent i)) above)
                  | inr theirs ↦ or_right made around (or_left (same j i) (same j (parent i)) (above_items i j ks theirs))
                ]
          ]
    ]

-- j is made by the event, or is i or directly above it
abbrev pub is_made_or_around : Event → Ident → Ident → Bool
is_made_or_around e j i = list_any (same j) (made_by e) || (same j i || same j (parent i))

moved_there : (e : Event) (j : Ident) → is_moved e j ≡ true → IfSome (done_at e) (λ i. is_made_or_around e j i ≡ true)
moved_there (events.Enter i t places first count) j moved = items_moved i j (range_with_len first count) moved
moved_there (events.Add i t value n) j moved = items_moved i j (n ∷ []) moved
moved_there (events.Start i who) j moved = around_one (same j i) (same j (parent i)) moved
moved_there (events.Complete i out) j moved = around_one (same j i) (same j (parent i)) moved
moved_there (events.Exit i t places) j moved = around_one (same j i) (same j (parent i)) moved
moved_there (events.StartSub i) j moved = around_one (same j i) (same j (parent i)) moved
moved_there (events.CompleteSub i) j moved = around_one (same j i) (same j (parent i)) moved
moved_there (events.CompleteEmpty i) j moved = around_one (same j i) (same j (parent i)) moved
moved_there (events.Suspend i) j moved = around_one (same j i) (same j (parent i)) moved
moved_there e j moved = tt

pub moved_at : (old new : Loose) (e : Event) (i : Ident) → done_at e ≡ Some i → Loosens old new (λ j. is_made_or_around e j i) → Loosens old new (is_moved e)
moved_at old new e i is loosens =
    fewer old new (λ j. is_made_or_around e j i) (is_moved e) loosens
    (λ j identity moved. subst (λ o. IfSome o (λ (k : Ident). is_made_or_around e j k ≡ true)) is (moved_there e j moved))

-- ---- in the case of an event nothing is known any more

pub forgotten : (old new : Loose) (e : Event) (n : ℕ) → ((j : Ident) → is_identity j ≡ true → is_moved e j ≡ true → case_number j ≡ n) → Forgets old new n
    → Loosens old new (is_moved e)
forgotten old new e n within forgets = record {
  known = forgets.known;
  was = λ j known e. ap (λ ids. contains lexical ids j) forgets.idents ∙ e;
  passing = λ j identity known moved. never (sym (ap (is_known new) (within j identity moved) ∙ forgets.gone) ∙ known);
  counts = forgets.counts;
}

-- or nothing was
pub unknown : (l : Loose) (e : Event) (i : Ident) → done_at e ≡ Some i → is_identity i ≡ true → is_known l (case_number i) ≡ false → Loosens l l (is_moved e)
unknown l e i is identity none =
    forgotten l l e (case_number i) (done_there e i is identity)
    (record { gone = none; known = λ m known. known; others = λ m other. refl; idents = refl; counts = refl })

-- or it sets nothing moving
pub unmoved : (l : Loose) (e : Event) → ((j : Ident) → is_moved e j ≡ false) → Loosens l l (is_moved e)
unmoved l e none = record {
  known = λ n known. known;
  was = λ j known loose. loose;
  passing = λ j identity known moved. never (sym (none j) ∙ moved);
  counts = refl;
}
