-- Work at an identity is held by what is suspended at it or above it, with no run between. Along entries that go down to the identity,
-- each strictly under those before it, this is found by one walk: what is suspended holds, and a run lets go.
use Rattle.std.proofs.Common.{Bool, List, [], ap, cond, false, refl, sym, true, ◌++◌, ◌∙◌, ◌∷◌, ◌≡◌}
use Rattle.std.proofs.lemmas.Bool.{and_parts, false_from_ne_true, not-true}
use Rattle.std.specs.List.{list_any}
use Rattle.std.specs.Prelude.{IsTrue, if◌then◌else◌, is_some, not, ◌&&◌, ◌||◌}
use Rattle.yw_base.specs.Identity.{under}
use Rattle.yw_sites.proofs.Each.{Each-append}
use Rattle.yw_sites.proofs.Prefix.{not_above, same_refl, same_true}
use Rattle.yw_sites.specs.Entries.{Entries, Entry}
use Rattle.yw_sites.specs.Idents.{Each}
use Rattle.yw_state.proofs.Tests.{by_test, never}
use Rattle.yw_state.specs.Identity.{Ident, same, strictly_under}
use Rattle.yw_state.specs.State.{Site}

-- ---- tests
pub and_none : (a : Bool) → (a && false) ≡ false
and_none true = refl
and_none false = refl

pub and_all : (a : Bool) → (a && true) ≡ a
and_all true = refl
and_all false = refl

pub any_same : {X : Type 0} (p q : X → Bool) (xs : List X) → Each (λ x. p x ≡ q x) xs → list_any p xs ≡ list_any q xs
any_same p q [] h = refl
any_same p q (x ∷ xs) h = λ j. h.0 j || any_same p q xs h.1 j

pub each_of : {X : Type 0} (P : X → Type 0) → ((x : X) → P x) → (xs : List X) → Each P xs
each_of P h [] = tt
each_of P h (x ∷ xs) = (h x, each_of P h xs)

pub each_by : {X : Type 0} (P Q : X → Type 0) → ((x : X) → P x → Q x) → (xs : List X) → Each P xs → Each Q xs
each_by P Q h [] p = tt
each_by P Q h (x ∷ xs) p = (h x p.0, each_by P Q h xs p.1)

-- one identity is strictly under another, or the other under it, or neither
not_itself : (i : Ident) → strictly_under i i ≡ false
not_itself i = ap (λ z. under i i && not z) (same_refl i) ∙ and_none (under i i)

not_turned : (q i : Ident) → strictly_under q i ≡ true → strictly_under i q ≡ false
not_turned q i h =
    let p = and_parts (under q i) (not (same q i)) h in
    let differ : same i q ≡ false = false_from_ne_true _ (λ t. never (sym (not-true (same q i) p.1) ∙ ap (λ z. same z i) (sym (same_true i q t)) ∙ same_refl i)) in
    ap (λ z. z && not (same i q)) (not_above q i p.0 differ)

-- s: suspended here; r: a run here; a: held from above; m: a run further down; h: held further down
joins : (s r m a h : Bool) → ((((not r && a) || s) && not m) || h) ≡ ((a && not (r || m)) || ((s && not m) || h))
joins true true true true h = refl
joins true true true false h = refl
joins true true false true h = refl
joins true true false false h = refl
joins true false true true h = refl
joins true false true false h = refl
joins true false false true h = refl
joins true false false false h = refl
joins false true true true h = refl
joins false true true false h = refl
joins false true false true h = refl
joins false true false false h = refl
joins false false true true h = refl
joins false false true false h = refl
joins false false false true h = refl
joins false false false false h = refl

alone : (a : Bool) → a ≡ ((a && not false) || false)
alone true = refl
alone false = refl

module _ (id : Ident) where
  -- ---- the walk
  abbrev pub held_step : Bool → Entry → Bool
  held_step above e = if under id e.0 then (not (is_some e.1.run) && above) || e.1.suspended else above

  abbrev pub held_along : Entries → Bool → Bool
  held_along [] above = above
  held_along (e ∷ es) above = held_along es (held_step above e)

  pub held_along-append : (xs ys : Entries) (above : Bool) → held_along (xs ++ ys) above ≡ held_along ys (held_along xs above)
  held_along-append [] ys above = refl
  held_along-append (x ∷ xs) ys above = held_along-append xs ys (held_step above x)

  -- none leads there
  abbrev pub IsOff : Entries → Type 0
  IsOff es = Each (λ (e : Entry). under id e.0 ≡ false) es

  pub held_off : (es : Entries) (above : Bool) → IsOff es → held_along es above ≡ above
  held_off [] above h = refl
  held_off (e ∷ es) above h = ap (λ z. held_along es (cond z ((not (is_some e.1.run) && above) || e.1.suspended) above)) h.0 ∙ held_off es above h.1

  -- ---- of those that lead there each stands strictly under those before it
  abbrev pub GoesDown : Entries → Type 0
  GoesDown [] = Unit {0}
  GoesDown (e ∷ es) = (under id e.0 ≡ true → Each (λ (f : Entry). under id f.0 ≡ true → IsTrue (strictly_under f.0 e.0)) es) × GoesDown es

  pub off_goes_down : (es : Entries) → IsOff es → GoesDown es
  off_goes_down [] h = tt
  off_goes_down (e ∷ es) h = ((λ u. never (sym h.0 ∙ u)), off_goes_down es h.1)

  pub down_behind : (xs ys : Entries) → IsOff xs → GoesDown ys → GoesDown (xs ++ ys)
  down_behind [] ys h d = d
  down_behind (x ∷ xs) ys h d = ((λ u. never (sym h.0 ∙ u)), down_behind xs ys h.1 d)

  pub down_before : (xs ys : Entries) → GoesDown xs → IsOff ys → GoesDown (xs ++ ys)
  down_before [] ys d h = off_goes_down ys h
  down_before (x ∷ xs) ys d h = (
    (λ u. Each-append (λ (f : Entry). under id f.0 ≡ true → IsTrue (strictly_under f.0 x.0)) xs ys (d.0 u)
        (each_by (λ (f : Entry). under id f.0 ≡ false) (λ (f : Entry). under id f.0 ≡ true → IsTrue (strictly_under f.0 x.0)) (λ f off on. never (sym off ∙ on)) ys h)),
    down_before xs ys d.1 h,
  )

  -- ---- what the walk finds
  abbrev pub runs_on : Entries → Bool
  runs_on es = list_any (λ (r : Entry). is_some r.1.run && under id r.0) es

  abbrev pub shields : Entries → Ident → Bool
  shields es i = list_any (λ (r : Entry). is_some r.1.run && strictly_under r.0 i && under id r.0) es

  abbrev pub held_among : Entries → Entries → Bool
  held_among all es = list_any (λ (e : Entry). e.1.suspended && under id e.0 && not (shields all e.0)) es

  module _ (e : Entry) (es : Entries) where
    abbrev holds_by : Entries → Entry → Bool
    holds_by all f = f.1.suspended && under id f.0 && not (shields all f.0)

    -- an entry that doesn't lead there changes nothing
    module _ (u : under id e.0 ≡ false) where
      off_shields : (i : Ident) → shields (e ∷ es) i ≡ shields es i
      off_shields i = ap (λ z. (is_some e.1.run && strictly_under e.0 i && z) || shields es i) u ∙ ap (λ z. z || shields es i) (and_none (is_some e.1.run && strictly_under e.0 i))

      off_runs : runs_on (e ∷ es) ≡ runs_on es
      off_runs = ap (λ z. (is_some e.1.run && z) || runs_on es) u ∙ ap (λ z. z || runs_on es) (and_none (is_some e.1.run))

      off_held : held_among (e ∷ es) (e ∷ es) ≡ held_among es es
      off_held =
          ap (λ z. (e.1.suspended && z && not (shields (e ∷ es) e.0)) || held_among (e ∷ es) es) u
          ∙ ap (λ z. (z && not (shields (e ∷ es) e.0)) || held_among (e ∷ es) es) (and_none e.1.suspended)
          ∙ any_same (holds_by (e ∷ es)) (holds_by es) es (each_of (λ f. holds_by (e ∷ es) f ≡ holds_by es f) (λ f. ap (λ z. f.1.suspended && under id f.0 && not z) (off_shields f.0)) es)

    -- one that does, with the others strictly under it
    module _ (u : under id e.0 ≡ true) (down : Each (λ (f : Entry). under id f.0 ≡ true → IsTrue (strictly_under f.0 e.0)) es) where
      on_runs : runs_on (e ∷ es) ≡ (is_some e.1.run || runs_on es)
      on_runs = ap (λ z. (is_some e.1.run && z) || runs_on es) u ∙ ap (λ z. z || runs_on es) (and_all (is_some e.1.run))

      own_shields : shields (e ∷ es) e.0 ≡ runs_on es
      own_shields =
          ap (λ z. (is_some e.1.run && z && under id e.0) || shields es e.0) (not_itself e.0)
          ∙ ap (λ z. (z && under id e.0) || shields es e.0) (and_none (is_some e.1.run))
          ∙ any_same (λ (r : Entry). is_some r.1.run && strictly_under r.0 e.0 && under id r.0) (λ (r : Entry). is_some r.1.run && under id r.0) es
          (each_by (λ (f : Entry). under id f.0 ≡ true → IsTrue (strictly_under f.0 e.0)) (λ (r : Entry). (is_some r.1.run && strictly_under r.0 e.0 && under id r.0) ≡ (is_some r.1.run && under id r.0)) same_run es down)
        where
          same_run : (r : Entry) → (under id r.0 ≡ true → IsTrue (strictly_under r.0 e.0)) → (is_some r.1.run && strictly_under r.0 e.0 && under id r.0) ≡ (is_some r.1.run && under id r.0)
          same_run r h =
              by_test (under id r.0)
              (λ (t : under id r.0 ≡ true). ap (λ z. is_some r.1.run && z && under id r.0) (h t) ∙ ap (λ z. z && under id r.0) (and_all (is_some r.1.run)))
              (λ (t : under id r.0 ≡ false).
              ap (λ z. is_some r.1.run && strictly_under r.0 e.0 && z) t ∙ and_none (is_some r.1.run && strictly_under r.0 e.0)
              ∙ sym (ap (λ z. is_some r.1.run && z) t ∙ and_none (is_some r.1.run)))

      on_held : held_among (e ∷ es) (e ∷ es) ≡ ((e.1.suspended && not (runs_on es)) || held_among es es)
      on_held =
          ap (λ z. (e.1.suspended && z && not (shields (e ∷ es) e.0)) || held_among (e ∷ es) es) u
          ∙ ap (λ z. (z && not (shields (e ∷ es) e.0)) || held_among (e ∷ es) es) (and_all e.1.suspended)
          ∙ ap (λ z. (e.1.suspended && not z) || held_among (e ∷ es) es) own_shields
          ∙ ap (λ z. (e.1.suspended && not (runs_on es)) || z)
          (any_same (holds_by (e ∷ es)) (holds_by es) es (each_by (λ (f : Entry). under id f.0 ≡ true → IsTrue (strictly_under f.0 e.0)) (λ f. holds_by (e ∷ es) f ≡ holds_by es f) same_held es down))
        where
          same_held : (f : Entry) → (under id f.0 ≡ true → IsTrue (strictly_under f.0 e.0)) → holds_by (e ∷ es) f ≡ holds_by es f
          same_held f h =
              by_test (under id f.0)
              (λ (t : under id f.0 ≡ true).
              ap (λ z. f.1.suspended && under id f.0 && not z)
              (ap (λ z. (is_some e.1.run && z && under id e.0) || shields es f.0) (not_turned f.0 e.0 (h t)) ∙ ap (λ z. (z && under id e.0) || shields es f.0) (and_none (is_some e.1.run))))
              (λ (t : under id f.0 ≡ false).
              ap (λ z. f.1.suspended && z && not (shields (e ∷ es) f.0)) t ∙ ap (λ z. z && not (shields (e ∷ es) f.0)) (and_none f.1.suspended)
              ∙ sym (ap (λ z. f.1.suspended && z && not (shields es f.0)) t ∙ ap (λ z. z && not (shields es f.0)) (and_none f.1.suspended)))

  pub along_is : (es : Entries) (above : Bool) → GoesDown es → held_along es above ≡ ((above && not (runs_on es)) || held_among es es)
  along_is [] above d = alone above
  along_is (e ∷ es) above d =
      let here = (not (is_some e.1.run) && above) || e.1.suspended in
      by_test (under id e.0)
      (λ (u : under id e.0 ≡ true).
      ap (λ z. held_along es (cond z here above)) u
      ∙ along_is es here d.1
      ∙ joins e.1.suspended (is_some e.1.run) (runs_on es) above (held_among es es)
      ∙ (λ j. (above && not (sym (on_runs e es u (d.0 u)) j)) || sym (on_held e es u (d.0 u)) j))
      (λ (u : under id e.0 ≡ false).
      ap (λ z. held_along es (cond z here above)) u
      ∙ along_is es above d.1
      ∙ (λ j. (above && not (sym (off_runs e es u) j)) || sym (off_held e es u) j))
