-- How the reading of records goes on.
use Rattle.std.proofs.Common.{◌≡◌, ℕ, ◌+◌, ◌≤◌, List, [], ◌∷◌, ◌++◌, length, take, drop, refl, sym, ap, ◌∙◌, subst, arith, append_assoc, length-append, length-take, length-drop, take-append-drop}
use Rattle.std.proofs.lemmas.List.{append-nil, drop-drop}
use Rattle.yw_journal.proofs.Appending.{AreOpen-push}
use Rattle.yw_journal.specs.Files.{head_of, snapshot_size_of}
use Rattle.yw_journal.specs.Records.{IsFrame}
use Rattle.yw_snapshot.specs.Reading.{IsOpenHere, IsRead}

-- the record behind an open gate
pub record IsFrameHere (size : ℕ) (rest : List ℕ) : Type 0 where
  pub frame : List ℕ
  pub split : rest ≡ 1 ∷ frame ++ drop (5 + size) rest
  pub is_frame : IsFrame frame (take size (drop 5 rest))
  pub all : length frame ≡ 4 + size

pub frame_here : (size : ℕ) (rest : List ℕ) → IsOpenHere size rest → IsFrameHere size rest
frame_here size rest is =
    let field = take 4 (drop 1 rest) in
    let bytes = take size (drop 5 rest) in
    let four : length field ≡ 4 = omega (arith, is.within, length-take 4 (drop 1 rest), length-drop 1 rest) in
    let many : length bytes ≡ size = omega (arith, is.within, length-take size (drop 5 rest), length-drop 5 rest) in
    let behind_length : drop 1 rest ≡ field ++ drop 5 rest = sym (take-append-drop 4 (drop 1 rest)) ∙ ap (λ (l : List ℕ). field ++ l) (drop-drop 4 1 rest) in
    let behind_bytes : drop 5 rest ≡ bytes ++ drop (5 + size) rest = sym (take-append-drop size (drop 5 rest)) ∙ ap (λ (l : List ℕ). bytes ++ l) (drop-drop size 5 rest) in
    record {
      frame = field ++ bytes;
      split = sym (take-append-drop 1 rest) ∙ ap (λ (l : List ℕ). l ++ drop 1 rest) is.gate
          ∙ ap (λ (l : List ℕ). 1 ∷ l) (behind_length ∙ ap (λ (l : List ℕ). field ++ l) behind_bytes ∙ sym (append_assoc field bytes (drop (5 + size) rest)));
      is_frame = record { field = field; split = refl; four = four; value = is.value ∙ sym many };
      all = omega (arith, length-append field bytes, four, many);
    }

-- before the first record
pub read_none : (file : List ℕ) → 29 + snapshot_size_of file ≤ length file → IsRead file (29 + snapshot_size_of file) []
read_none file ends = record {
  ends = ends;
  opened = [];
  split = sym (take-append-drop (29 + snapshot_size_of file) file) ∙ ap (λ (l : List ℕ). l ++ drop (29 + snapshot_size_of file) file) (sym (append-nil (head_of file)));
  are_open = refl;
  place = omega (arith, ap length (append-nil (head_of file)), length-take (29 + snapshot_size_of file) file, ends);
}

-- one record more
pub read_further : (file : List ℕ) (at : ℕ) (records : List (List ℕ)) (size : ℕ) → IsRead file at records → IsOpenHere size (drop at file)
    → IsRead file (at + 5 + size) (records ++ take size (drop 5 (drop at file)) ∷ [])
read_further file at records size is open_ =
    let here = frame_here size (drop at file) open_ in
    let bytes = take size (drop 5 (drop at file)) in
    record {
      ends = is.ends;
      opened = is.opened ++ 1 ∷ here.frame;
      split = is.split ∙ ap (λ (l : List ℕ). (head_of file ++ is.opened) ++ l) here.split
          ∙ sym (append_assoc (head_of file ++ is.opened) (1 ∷ here.frame) (drop (5 + size) (drop at file)))
          ∙ ap (λ (l : List ℕ). l ++ drop (5 + size) (drop at file)) (append_assoc (head_of file) is.opened (1 ∷ here.frame))
          ∙ ap (λ (l : List ℕ). (head_of file ++ (is.opened ++ 1 ∷ here.frame)) ++ l) (drop-drop (5 + size) at file ∙ ap (λ (n : ℕ). drop n file) (omega arith));
      are_open = AreOpen-push is.opened records here.frame bytes is.are_open here.is_frame;
      place = omega (arith, is.place, here.all, length-append (head_of file) (is.opened ++ 1 ∷ here.frame), length-append is.opened (1 ∷ here.frame), length-append (head_of file) is.opened);
    }

pub read_here : (file : List ℕ) (at : ℕ) (records : List (List ℕ)) (size n : ℕ) (bytes : List ℕ) → IsRead file at records → IsOpenHere size (drop at file) → n ≡ size
    → bytes ≡ take size (drop (at + 5) file) → IsRead file (at + (5 + n)) (records ++ bytes ∷ [])
read_here file at records size n bytes is open_ e d =
    subst (λ (k : ℕ). IsRead file k (records ++ bytes ∷ [])) (omega (arith, e))
    (subst (λ (l : List ℕ). IsRead file (at + 5 + size) (records ++ l ∷ [])) (sym (d ∙ ap (take size) (sym (drop-drop 5 at file)))) (read_further file at records size is open_))
