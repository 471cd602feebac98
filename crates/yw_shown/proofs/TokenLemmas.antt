-- Rows by the texts of their places: one more, and all of a net.
use Rattle.std.proofs.Common.{◌≡◌, ◌∙◌, ◌≤◌, zero, suc, List, [], ◌∷◌, ◌++◌, string_bytes, ap, arith, inl, inr, refl, subst, sym}
use Rattle.std.specs.BTreeMap.{insert_entry}
use Rattle.yw_spec.specs.Net.{place_text}
use Rattle.yw_state.proofs.Entries.{IsIn}
use Rattle.yw_state.specs.Identity.{Ident}
use Rattle.yw_state.specs.declared.answer.TokenRow.{TokenRow}
use Rattle.yw_shown.proofs.Elements.{from_map, in_left, in_one, in_right}
use Rattle.yw_shown.proofs.Inserted.{from_insert, new_value, old_values}
use Rattle.yw_shown.specs.Tokens.{AreMarked, Counted, KnownByText, PutsMarked, Text, row_of, rows_of, text_cmp}

abbrev Placed : Type 0
Placed = Text × TokenRow

-- ---- one more place

module _ (i : Ident) (ps : List Counted) (p : Counted) where
  abbrev more : List Counted
  more = ps ++ (p ∷ [])

  last_in : IsIn more p
  last_in = in_right ps (p ∷ []) p (inl refl)

  known_front : KnownByText more → KnownByText ps
  known_front known q r a b e = known q r (in_left ps (p ∷ []) q a) (in_left ps (p ∷ []) r b) e

  without_row : (es : List Placed) → p.1 ≡ 0 → AreMarked i ps es → AreMarked i more es
  without_row es none are = record {
    named = are.named;
    each = λ e within. let old = are.each e within in (old.0, in_left ps (p ∷ []) old.0 old.1, old.2, old.3);
    there = λ known q within some. elim (in_one ps (p ∷ []) q within) [
      | inl old ↦ are.there (known_front known) q old some
      | inr new ↦ elim new [ inl same ↦ absurd (omega (arith, some, none, ap (λ (z : Counted). z.1) same)) | inr never ↦ absurd never ]
    ];
  }

  with_row : (es : List Placed) (k : Text) → string_bytes k ≡ place_text p.0 → 1 ≤ p.1 → AreMarked i ps es → AreMarked i more (insert_entry text_cmp es k (row_of i p))
  with_row es k text one are = record {
    named = λ e within. elim (from_insert string_bytes es k (row_of i p) e within) [
      | inl new ↦ new.1 ∙ text ∙ ap (λ (r : TokenRow). place_text r.place) (sym new.0)
      | inr old ↦ are.named e old
    ];
    each = λ e within. elim (from_insert string_bytes es k (row_of i p) e within) [
      | inl new ↦ (p, last_in, one, new.0)
      | inr old ↦ let is = are.each e old in (is.0, in_left ps (p ∷ []) is.0 is.1, is.2, is.3)
    ];
    there = λ known q within some. elim (in_one ps (p ∷ []) q within) [
      | inl old ↦
          let e = from_map (λ (z : Placed). z.1) es (row_of i q) (are.there (known_front known) q old some) in
          elim (old_values string_bytes es k (row_of i p) e.0 e.1) [
            | inl there ↦ subst (IsIn (rows_of (insert_entry text_cmp es k (row_of i p)))) e.2 there
            | inr tie ↦
                let text_is : place_text p.0 ≡ place_text q.0 = sym text ∙ tie ∙ are.named e.0 e.1 ∙ ap (λ (r : TokenRow). place_text r.place) e.2 in
                let same : p ≡ q = known p q last_in within text_is in
                subst (λ z. IsIn (rows_of (insert_entry text_cmp es k (row_of i p))) (row_of i z)) same (new_value string_bytes es k (row_of i p))
          ]
      | inr new ↦ elim new [
        | inl same ↦ subst (λ z. IsIn (rows_of (insert_entry text_cmp es k (row_of i p))) (row_of i z)) same (new_value string_bytes es k (row_of i p))
        | inr never ↦ absurd never
      ]
    ];
  }

  pub marked_more : (old new : List Placed) → PutsMarked i p old new → AreMarked i ps old → AreMarked i more new
  marked_more old new puts are =
      elim p.1 as (λ n. p.1 ≡ n → AreMarked i more new) [
        | zero ↦ λ none. subst (AreMarked i more) (sym (puts.none none)) (without_row old none are)
        | suc n ↦ λ some.
            let one : 1 ≤ p.1 = omega (arith, some) in
            let put = puts.some one in
            subst (AreMarked i more) (sym put.2) (with_row old put.0 put.1 one are)
      ] refl

pub none_marked : (i : Ident) → AreMarked i [] []
none_marked i = record { named = λ e within. absurd within; each = λ e within. absurd within; there = λ known p within some. absurd within }
