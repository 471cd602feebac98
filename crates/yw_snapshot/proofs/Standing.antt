-- An opening that stands in the files, before and after a record is read.
use Rattle.std.proofs.Common.{◌≡◌, ◌≤◌, ℕ, ◌+◌, List, [], ◌∷◌, ◌++◌, length, take, drop, Bool, true, false, Some, Ok, refl, sym, ap, ◌∙◌, subst, arith, length-append}
use Rattle.std.proofs.lemmas.List.{drop-drop}
use Rattle.yw_outside.specs.Image.{file_in}
use Rattle.yw_outside.specs.declared.desk.File.{File}
use Rattle.yw_outside.specs.declared.image.Image.{Image}
use Rattle.yw_journal.specs.Files.{choice, count_of, generation_of, snapshot_size_of}
use Rattle.yw_journal.specs.Journal.{IsCurrent}
use Rattle.yw_journal.specs.Records.{IsFrame}
use Rattle.yw_snapshot.specs.Found.{content_of}
use Rattle.yw_snapshot.specs.Reading.{HasAtHand, HasEnded, HasPassed, IsClosedHere, IsOpenHere, IsRead, IsRecordHere, StandsIn, StaysAt, journal_of, passed, record_of}
use Rattle.yw_snapshot.specs.Window.{Shows, part_of, room_of}
use Rattle.yw_snapshot.specs.declared.opening.Opening.{Opening}
use Rattle.yw_snapshot.specs.declared.window.Window.{Window}
use Rattle.yw_snapshot.proofs.FoundLaws.{holds_at}
use Rattle.yw_snapshot.proofs.ReadFurther.{frame_here, read_here, read_none}
use Rattle.yw_snapshot.proofs.WindowLemmas.{part_shown}

not_true : {X : Type 0} (b : Bool) → b ≡ false → b ≡ true → X
not_true b e d = absurd (wrong e d)
  where
    wrong : b ≡ false → b ≡ true → ⊥
    wrong e d = cc

-- Before the same gate it stands so with another part of the file at hand.
pub stands_with : (o : Opening) (window : Window) (i : Image) (records : List (List ℕ)) → Shows (file_in o.file i) window → StandsIn o i records
    → StandsIn (record o { size = 0; done = false; window = window }) i records
stands_with o window i records shows is = record {
  chosen = is.chosen;
  size = is.size;
  generation = is.generation;
  count = is.count;
  first = is.first;
  read = is.read;
  number = is.number;
  window = shows;
  done = λ (yes : false ≡ true). not_true false refl yes;
}

-- Before the first record it stands in the file that was found.
pub stands_first : (o : Opening) (i : Image) → choice i ≡ Ok (Some o.file) → o.len ≡ length (file_in o.file i) → o.generation ≡ generation_of (file_in o.file i)
    → o.count ≡ count_of (file_in o.file i) → o.first ≡ 29 + snapshot_size_of (file_in o.file i) → 29 + snapshot_size_of (file_in o.file i) ≤ length (file_in o.file i)
    → o.at ≡ o.first → o.number ≡ o.count → Shows (file_in o.file i) o.window → o.done ≡ false → StandsIn o i []
stands_first o i chosen size generation count first ends at number shows done = record {
  chosen = chosen;
  size = size;
  generation = generation;
  count = count;
  first = first;
  read = subst (λ (n : ℕ). IsRead (file_in o.file i) n []) (sym (at ∙ first)) (read_none (file_in o.file i) ends);
  number = number ∙ omega arith;
  window = shows;
  done = λ yes. not_true o.done done yes;
}

-- A window that has nothing shows any file.
pub shows_nothing : (file : List ℕ) (window : Window) → window.count ≡ 0 → Shows file window
shows_nothing file window none = ap (λ (n : ℕ). take n (room_of window)) none ∙ ap (λ (n : ℕ). take n (drop window.at file)) (sym none)

-- A record that is at hand is passed.
module _ (o : Opening) (i : Image) (records : List (List ℕ)) (size : ℕ) (is : StandsIn o i records) (not_done : o.done ≡ false)
    (open_ : IsOpenHere size (drop o.at (file_in o.file i))) (here : HasAtHand o size) where
  abbrev file : List ℕ
  file = file_in o.file i

  -- the record is that of the file
  pub at_hand : part_of o.window (o.at + 5) size ≡ take size (drop (o.at + 5) file)
  at_hand = part_shown file o.window (o.at + 5) size here.covers is.window

  pub in_file : take size (drop (o.at + 5) file) ≡ take size (drop 5 (drop o.at file))
  in_file = ap (take size) (sym (drop-drop 5 o.at file))

  pub record_passed : record_of (passed o size) ≡ take size (drop (o.at + 5) file)
  record_passed = ap (λ (n : ℕ). part_of o.window n size) (omega arith) ∙ at_hand

  pub passed_here : (bytes : List ℕ) → bytes ≡ take size (drop (o.at + 5) file) → IsRecordHere (drop o.at file) bytes
  passed_here bytes e =
      let frame = frame_here size (drop o.at file) open_ in
      record {
        frame = frame.frame;
        behind = drop (5 + size) (drop o.at file);
        split = frame.split;
        is_frame = subst (λ (l : List ℕ). IsFrame frame.frame l) (sym (e ∙ in_file)) frame.is_frame;
      }

  pub stands_passed : (bytes : List ℕ) → bytes ≡ take size (drop (o.at + 5) file) → StandsIn (passed o size) i (records ++ bytes ∷ [])
  stands_passed bytes e = record {
    chosen = is.chosen;
    size = is.size;
    generation = is.generation;
    count = is.count;
    first = is.first;
    read = read_here file o.at records size size bytes is.read open_ refl e;
    number = omega (arith, is.number, length-append records (bytes ∷ []));
    window = is.window;
    done = λ yes. not_true o.done not_done yes;
  }

-- The record is read.
pub passes : (old o new : Opening) (i : Image) (records : List (List ℕ)) (size : ℕ) (bytes : List ℕ) → StaysAt old o → new ≡ passed o size → StandsIn o i records
    → IsOpenHere size (drop old.at (file_in old.file i)) → HasAtHand o size → bytes ≡ take size (drop (o.at + 5) (file_in o.file i)) → HasPassed old new i records bytes
passes old o new i records size bytes stays e is open_ here same =
    let moved : IsOpenHere size (drop o.at (file_in o.file i)) =
    subst (λ (f : File). IsOpenHere size (drop o.at (file_in f i))) (sym stays.file.file) (subst (λ (n : ℕ). IsOpenHere size (drop n (file_in old.file i))) (sym stays.gate.at) open_) in
    record {
      here = subst (λ (f : File). IsRecordHere (drop old.at (file_in f i)) bytes) stays.file.file
          (subst (λ (n : ℕ). IsRecordHere (drop n (file_in o.file i)) bytes) stays.gate.at (passed_here o i records size is stays.done moved here bytes same));
      stands = subst (λ (x : Opening). StandsIn x i (records ++ bytes ∷ [])) (sym e) (stands_passed o i records size is stays.done moved here bytes same);
    }

-- and lent
pub passes_last : (old o new : Opening) (i : Image) (records : List (List ℕ)) (size : ℕ) → StaysAt old o → new ≡ passed o size → StandsIn o i records
    → IsOpenHere size (drop old.at (file_in old.file i)) → HasAtHand o size → HasPassed old new i records (record_of new)
passes_last old o new i records size stays e is open_ here =
    let moved : IsOpenHere size (drop o.at (file_in o.file i)) =
    subst (λ (f : File). IsOpenHere size (drop o.at (file_in f i))) (sym stays.file.file) (subst (λ (n : ℕ). IsOpenHere size (drop n (file_in old.file i))) (sym stays.gate.at) open_) in
    passes old o new i records size (record_of new) stays e is open_ here (ap record_of e ∙ record_passed o i records size is stays.done moved here)

-- The gate is closed.
pub ends : (old o : Opening) (i : Image) (records : List (List ℕ)) → StaysAt old o → StandsIn o i records → IsClosedHere (drop old.at (file_in old.file i))
    → HasEnded old (record o { done = true }) i records
ends old o i records stays is closed = record {
  closed = closed;
  stands = record {
    chosen = is.chosen;
    size = is.size;
    generation = is.generation;
    count = is.count;
    first = is.first;
    read = is.read;
    number = is.number;
    window = is.window;
    done = λ yes. subst (λ (f : File). IsClosedHere (drop o.at (file_in f i))) (sym stays.file.file)
        (subst (λ (n : ℕ). IsClosedHere (drop n (file_in old.file i))) (sym stays.gate.at) closed);
  };
}

-- Before the first record again it stands so.
pub stands_again : (o : Opening) (i : Image) (records : List (List ℕ)) → StandsIn o i records
    → StandsIn (record o { at = o.first; gate = o.first; number = o.count; size = 0; done = false }) i []
stands_again o i records is = record {
  chosen = is.chosen;
  size = is.size;
  generation = is.generation;
  count = is.count;
  first = is.first;
  read = subst (λ (n : ℕ). IsRead (file_in o.file i) n []) (sym is.first) (read_none (file_in o.file i) is.read.ends);
  number = omega arith;
  window = is.window;
  done = λ (yes : false ≡ true). not_true false refl yes;
}

-- The journal that goes on at a closed gate stands for what the file has.
pub current_at : (o : Opening) (i : Image) (records : List (List ℕ)) (limit : ℕ) → StandsIn o i records → o.done ≡ true
    → IsCurrent (journal_of o limit) (content_of (file_in o.file i) records) i
current_at o i records limit is done = record {
  holds = holds_at i o.file o.at records is.chosen is.read (is.done done);
  generation = is.generation;
  number = is.number ∙ ap (λ (n : ℕ). n + length records) is.count;
}
