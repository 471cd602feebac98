-- What each write of an append leaves.
use Rattle.std.proofs.Common.{◌≡◌, ◌⊎◌, ◌==◌, ℕ, ◌+◌, ◌≤◌, List, [], ◌∷◌, ◌++◌, length, take, drop, get_or, true, false, inl, inr, refl, sym, ap, ◌∙◌, arith, append_assoc, length-append, take-append-drop}
use Rattle.std.proofs.lemmas.List.{take_at, drop_at, drop_more, append-nil}
use Rattle.std.proofs.lemmas.Bool.{eqb-true, eqb-false}
use Rattle.yw_outside.specs.Image.{Holds, Torn}
use Rattle.yw_journal.specs.Records.{IsFrame, AreOpen, IsAt, HasRecords, IsFramed}

pub AreOpen-push : (opened : List ℕ) (records : List (List ℕ)) (frame bytes : List ℕ) → AreOpen opened records → IsFrame frame bytes → AreOpen (opened ++ 1 ∷ frame) (records ++ bytes ∷ [])
AreOpen-push opened [] frame bytes are is =
    (frame, [], ap (λ (l : List ℕ). l ++ 1 ∷ frame) are ∙ ap (λ (l : List ℕ). 1 ∷ l) (sym (append-nil frame)), is, refl)
AreOpen-push opened (r ∷ rs) frame bytes are is = (
  are.0,
  are.1 ++ 1 ∷ frame,
  ap (λ (l : List ℕ). l ++ 1 ∷ frame) are.2 ∙ ap (λ (l : List ℕ). 1 ∷ l) (append_assoc are.0 are.1 (1 ∷ frame)),
  are.3,
  AreOpen-push are.1 rs frame bytes are.4 is,
)

module _ (head : List ℕ) (records : List (List ℕ)) (bytes : List ℕ) (end : ℕ) (file framed : List ℕ) (at : IsAt head records end file) (whole : IsFramed framed bytes) where
  front : List ℕ
  front = head ++ at.opened

  place : length (head ++ at.opened) + 1 ≡ end
  place = at.place

  -- up to the closed gate
  up_to_gate : take end file ≡ (head ++ at.opened) ++ at.gate ∷ []
  up_to_gate =
      ap (take end) (at.split ∙ sym (append_assoc (head ++ at.opened) (at.gate ∷ []) at.behind))
      ∙ take_at ((head ++ at.opened) ++ at.gate ∷ []) at.behind end (length-append (head ++ at.opened) (at.gate ∷ []) ∙ at.place)

  -- the closed gate stands in each outcome of the first write
  pub first_torn : (c : List ℕ) → Torn end (length framed) file c → IsAt head records end c
  first_torn c torn = record {
    opened = at.opened;
    gate = at.gate;
    behind = drop end c;
    split = sym (take-append-drop end c) ∙ ap (λ (l : List ℕ). l ++ drop end c) (torn.before ∙ up_to_gate) ∙ append_assoc (head ++ at.opened) (at.gate ∷ []) (drop end c);
    are_open = at.are_open;
    closed = at.closed;
    place = at.place;
  }

  -- the file when the frame stands behind the gate
  abbrev pub staged : List ℕ → List ℕ
  staged behind = (head ++ at.opened) ++ at.gate ∷ (framed ++ behind)

  pub first_written : (c : List ℕ) → Holds file end framed c → (behind : List ℕ) × (c ≡ staged behind)
  first_written c holds = (
    drop (end + length framed) file,
    holds ∙ ap (λ (l : List ℕ). l ++ framed ++ drop (end + length framed) file) up_to_gate
        ∙ append_assoc ((head ++ at.opened) ++ at.gate ∷ []) framed (drop (end + length framed) file)
        ∙ append_assoc (head ++ at.opened) (at.gate ∷ []) (framed ++ drop (end + length framed) file),
  )

  opened_is : (behind : List ℕ) (c : List ℕ) → c ≡ (head ++ at.opened) ++ 1 ∷ (framed ++ behind) → IsAt head (records ++ bytes ∷ []) (end + length framed) c
  opened_is behind c e = record {
    opened = at.opened ++ 1 ∷ whole.frame;
    gate = whole.gate;
    behind = behind;
    split = e ∙ ap (λ (l : List ℕ). (head ++ at.opened) ++ 1 ∷ (l ++ behind)) whole.split ∙ regrouped whole.frame;
    are_open = AreOpen-push at.opened records whole.frame bytes at.are_open whole.is_frame;
    closed = whole.closed;
    place = counted whole.frame;
  }
    where
      regrouped : (frame : List ℕ) → (head ++ at.opened) ++ 1 ∷ ((frame ++ whole.gate ∷ []) ++ behind) ≡ (head ++ (at.opened ++ 1 ∷ frame)) ++ whole.gate ∷ behind
      regrouped frame = simp append_assoc

      counted : (frame : List ℕ) → length (head ++ (at.opened ++ 1 ∷ whole.frame)) + 1 ≡ end + length framed
      counted frame = omega (arith, length-append head (at.opened ++ 1 ∷ whole.frame), length-append at.opened (1 ∷ whole.frame), length-append head at.opened, at.place, ap length whole.split, length-append whole.frame (whole.gate ∷ []))

  pub either_gate : (g : ℕ) (behind c : List ℕ) → c ≡ (head ++ at.opened) ++ g ∷ (framed ++ behind) → HasRecords head records c ⊎ HasRecords head (records ++ bytes ∷ []) c
  either_gate g behind c e =
      elim (g == 1) as (λ b. (g == 1) ≡ b → HasRecords head records c ⊎ HasRecords head (records ++ bytes ∷ []) c) [
        | true ↦ λ open_.
            let one : g ≡ 1 = eqb-true g 1 open_ in
            inr (end + length framed, opened_is behind c (e ∙ ap (λ (x : ℕ). (head ++ at.opened) ++ x ∷ (framed ++ behind)) one))
        | false ↦ λ shut. inl (end, record { opened = at.opened; gate = g; behind = framed ++ behind; split = e; are_open = at.are_open; closed = eqb-false g 1 shut; place = at.place })
      ] refl

  -- the frame stands whole in each outcome of the second write
  second_torn : (q : ℕ) → q + 1 ≡ end → (behind c : List ℕ) → Torn q 1 (staged behind) c → (g : ℕ) × (c ≡ (head ++ at.opened) ++ g ∷ (framed ++ behind))
  second_torn q qe behind c torn =
      let size : length (head ++ at.opened) ≡ q = omega (arith, at.place) in
      let whole_size : length (staged behind) ≡ q + 1 + length (framed ++ behind) = omega (arith, length-append (head ++ at.opened) (at.gate ∷ (framed ++ behind)), size) in
      let before : take q c ≡ head ++ at.opened = torn.before ∙ take_at (head ++ at.opened) (at.gate ∷ (framed ++ behind)) q size in
      let after : drop (q + 1) c ≡ framed ++ behind =
      torn.after ∙ ap (drop (q + 1)) (sym (append_assoc (head ++ at.opened) (at.gate ∷ []) (framed ++ behind)))
      ∙ drop_at ((head ++ at.opened) ++ at.gate ∷ []) (framed ++ behind) (q + 1) (omega (arith, length-append (head ++ at.opened) (at.gate ∷ []), size)) in (
        get_or c q 0,
        sym (take-append-drop q c) ∙ ap (λ (l : List ℕ). l ++ drop q c) before
            ∙ ap (λ (l : List ℕ). (head ++ at.opened) ++ l) (drop_more c q 0 (omega (arith, torn.no_shorter, whole_size)) ∙ ap (λ (l : List ℕ). get_or c q 0 ∷ l) after),
      )

  pub second_either : (q : ℕ) → q + 1 ≡ end → (behind c : List ℕ) → Torn q 1 (staged behind) c → HasRecords head records c ⊎ HasRecords head (records ++ bytes ∷ []) c
  second_either q qe behind c torn = let t = second_torn q qe behind c torn in either_gate t.0 behind c t.1

  pub second_written : (q : ℕ) → q + 1 ≡ end → (behind c : List ℕ) → Holds (staged behind) q (1 ∷ []) c → IsAt head (records ++ bytes ∷ []) (end + length framed) c
  second_written q qe behind c holds =
      let size : length (head ++ at.opened) ≡ q = omega (arith, at.place) in
      let before : take q (staged behind) ≡ head ++ at.opened = take_at (head ++ at.opened) (at.gate ∷ (framed ++ behind)) q size in
      let after : drop (q + 1) (staged behind) ≡ framed ++ behind =
      ap (drop (q + 1)) (sym (append_assoc (head ++ at.opened) (at.gate ∷ []) (framed ++ behind)))
      ∙ drop_at ((head ++ at.opened) ++ at.gate ∷ []) (framed ++ behind) (q + 1) (omega (arith, length-append (head ++ at.opened) (at.gate ∷ []), size)) in
      opened_is behind c (holds
      ∙ ap (λ (l : List ℕ). l ++ (1 ∷ []) ++ drop (q + 1) (staged behind)) before
      ∙ ap (λ (l : List ℕ). ((head ++ at.opened) ++ 1 ∷ []) ++ l) after
      ∙ append_assoc (head ++ at.opened) (1 ∷ []) (framed ++ behind))

  -- the gate that the second write opens stands within the file
  pub staged_size : (q : ℕ) → q + 1 ≡ end → (behind c : List ℕ) → c ≡ staged behind → q ≤ length c
  staged_size q qe behind c is = omega (arith, at.place, ap length is, length-append (head ++ at.opened) (at.gate ∷ (framed ++ behind)))
