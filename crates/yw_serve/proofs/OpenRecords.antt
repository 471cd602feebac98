-- How the reading of the records goes on, and where it stops.
use Rattle.std.proofs.Common.{◌≡◌, ℕ, ◌+◌, ◌≤◌, List, [], ◌∷◌, ◌++◌, length, take, drop, inl, inr, refl, sym, ap, ◌∙◌, subst, arith, append_assoc, length-append, length-take, length-drop, take-append-drop}
use Rattle.std.proofs.lemmas.List.{append-nil, drop-drop}
use Rattle.yw_journal.proofs.Appending.{AreOpen-push}
use Rattle.yw_outside.specs.declared.desk.File.TheVariants.{A}
use Rattle.yw_journal.specs.Files.{Meaning, LeadsTo, Reaches, head_of, snapshot_of, snapshot_size_of}
use Rattle.yw_journal.specs.Records.{IsFrame, IsAt}
use Rattle.yw_state.specs.State.{State, opening}
use Rattle.yw_serve.specs.Damage.{EntryLeads, IsSnapshot, meaning}
use Rattle.yw_serve.specs.Opening.{IsClosedHere, IsCutHere, IsDamagedAt, IsOpenHere, IsReached}

-- entries and then more
pub LeadsTo-append : {S : Type 0} (m : Meaning S) (s : S) (xs : List (List ℕ)) (mid : S) (ys : List (List ℕ)) (t : S) → LeadsTo m s xs mid → LeadsTo m mid ys t → LeadsTo m s (xs ++ ys) t
LeadsTo-append m s [] mid ys t first next = subst (λ x. LeadsTo m x ys t) first next
LeadsTo-append m s (x ∷ xs) mid ys t first next = (first.0, first.1, LeadsTo-append m first.0 xs mid ys t first.2 next)

-- the record behind an open gate
pub record IsFrameHere (size : ℕ) (rest : List ℕ) : Type 0 where
  pub frame : List ℕ
  pub split : rest ≡ 1 ∷ frame ++ drop (5 + size) rest
  pub is_frame : IsFrame frame (take size (drop 5 rest))
  pub all : length frame ≡ 4 + size

pub frame_here : (size : ℕ) (rest : List ℕ) → IsOpenHere size rest → IsFrameHere size rest
frame_here size rest is =
    let field = take 4 (drop 1 rest) in
    let bytes = take size (drop 5 rest) in
    let four : length field ≡ 4 = omega (arith, is.within, length-take 4 (drop 1 rest), length-drop 1 rest) in
    let many : length bytes ≡ size = omega (arith, is.within, length-take size (drop 5 rest), length-drop 5 rest) in
    let behind_length : drop 1 rest ≡ field ++ drop 5 rest = sym (take-append-drop 4 (drop 1 rest)) ∙ ap (λ (l : List ℕ). field ++ l) (drop-drop 4 1 rest) in
    let behind_bytes : drop 5 rest ≡ bytes ++ drop (5 + size) rest = sym (take-append-drop size (drop 5 rest)) ∙ ap (λ (l : List ℕ). bytes ++ l) (drop-drop size 5 rest) in
    record {
      frame = field ++ bytes;
      split = sym (take-append-drop 1 rest) ∙ ap (λ (l : List ℕ). l ++ drop 1 rest) is.gate
          ∙ ap (λ (l : List ℕ). 1 ∷ l) (behind_length ∙ ap (λ (l : List ℕ). field ++ l) behind_bytes ∙ sym (append_assoc field bytes (drop (5 + size) rest)));
      is_frame = record { field = field; split = refl; four = four; value = is.value ∙ sym many };
      all = omega (arith, length-append field bytes, four, many);
    }

module _ (file : List ℕ) (at : ℕ) (records : List (List ℕ)) (s : State) (is : IsReached file at records s) where
  ends : 29 + snapshot_size_of file ≤ length file
  ends = omega (arith, is.long, is.no_snapshot)

  head : head_of file ≡ take 29 file
  head = ap (λ (n : ℕ). take (29 + n) file) is.no_snapshot

  meant : Reaches meaning (snapshot_of file) records s
  meant = (opening, subst (λ (n : ℕ). IsSnapshot (take n (drop 29 file)) opening) (sym is.no_snapshot) refl, is.state)

  placed : length (head_of file ++ is.opened) ≡ at
  placed = ap (λ (l : List ℕ). length (l ++ is.opened)) head ∙ is.place

  in_file : (rest : List ℕ) → drop at file ≡ rest → file ≡ (head_of file ++ is.opened) ++ rest
  in_file rest e = is.split ∙ ap (λ (l : List ℕ). (l ++ is.opened) ++ drop at file) (sym head) ∙ ap (λ (l : List ℕ). (head_of file ++ is.opened) ++ l) e

  -- the gate is missing, or its record passes the end
  pub cut_at : IsCutHere (drop at file) → IsDamagedAt file A at
  cut_at cut = record {
    which = refl;
    here = inl (record {
      records = records;
      ends = ends;
      state = s;
      meant = meant;
      cut = record { opened = is.opened; rest = drop at file; split = in_file (drop at file) refl; are_open = is.are_open; cut = cut; at = placed };
    });
  }

  -- the record has no meaning
  pub none_at : (size : ℕ) → IsFrameHere size (drop at file) → ((t : State) → EntryLeads s (take size (drop 5 (drop at file))) t → ⊥) → IsDamagedAt file A at
  none_at size here none = record {
    which = refl;
    here = inr (record {
      records = records;
      ends = ends;
      state = s;
      meant = meant;
      opened = is.opened;
      frame = here.frame;
      bytes = take size (drop 5 (drop at file));
      behind = drop (5 + size) (drop at file);
      split = in_file (1 ∷ here.frame ++ drop (5 + size) (drop at file)) here.split ∙ sym (append_assoc (head_of file ++ is.opened) (1 ∷ here.frame) (drop (5 + size) (drop at file)));
      are_open = is.are_open;
      is_frame = here.is_frame;
      none = none;
      at = placed;
    });
  }

  -- the record has its meaning
  pub reached_further : (size : ℕ) (t : State) → IsFrameHere size (drop at file) → EntryLeads s (take size (drop 5 (drop at file))) t
      → IsReached file (at + 5 + size) (records ++ take size (drop 5 (drop at file)) ∷ []) t
  reached_further size t here some =
      let bytes = take size (drop 5 (drop at file)) in
      record {
        long = is.long;
        no_snapshot = is.no_snapshot;
        opened = is.opened ++ 1 ∷ here.frame;
        split = is.split ∙ ap (λ (l : List ℕ). (take 29 file ++ is.opened) ++ l) here.split
            ∙ sym (append_assoc (take 29 file ++ is.opened) (1 ∷ here.frame) (drop (5 + size) (drop at file)))
            ∙ ap (λ (l : List ℕ). l ++ drop (5 + size) (drop at file)) (append_assoc (take 29 file) is.opened (1 ∷ here.frame))
            ∙ ap (λ (l : List ℕ). (take 29 file ++ (is.opened ++ 1 ∷ here.frame)) ++ l) (drop-drop (5 + size) at file ∙ ap (λ (n : ℕ). drop n file) (omega arith));
        are_open = AreOpen-push is.opened records here.frame bytes is.are_open here.is_frame;
        place = omega (arith, is.place, here.all, length-append (take 29 file) (is.opened ++ 1 ∷ here.frame), length-append is.opened (1 ∷ here.frame), length-append (take 29 file) is.opened);
        state = LeadsTo-append meaning opening records s (bytes ∷ []) t is.state (t, some, refl);
      }

  -- a closed gate ends them
  pub ends_at : IsClosedHere (drop at file) → IsAt (take 29 file) records (at + 1) file
  ends_at closed = record {
    opened = is.opened;
    gate = closed.0;
    behind = closed.1;
    split = is.split ∙ ap (λ (l : List ℕ). (take 29 file ++ is.opened) ++ l) closed.2;
    are_open = is.are_open;
    closed = closed.3;
    place = omega (arith, is.place);
  }

-- before the first record
pub reached_none : (file : List ℕ) → 30 ≤ length file → snapshot_size_of file ≡ 0 → IsReached file 29 [] opening
reached_none file long empty = record {
  long = long;
  no_snapshot = empty;
  opened = [];
  split = sym (take-append-drop 29 file) ∙ ap (λ (l : List ℕ). l ++ drop 29 file) (sym (append-nil (take 29 file)));
  are_open = refl;
  place = omega (arith, ap length (append-nil (take 29 file)), length-take 29 file);
  state = refl;
}
