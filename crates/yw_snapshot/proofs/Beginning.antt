-- File A begun where no file is live.
use Rattle.std.proofs.Common.{◌≡◌, ℕ, ◌+◌, ◌-◌, ◌≤◌, ◌<◌, List, [], ◌∷◌, ◌++◌, length, max, Some, Ok, inl, inr, ⊎_elim, refl, sym, ap, ◌∙◌, subst, arith, append_assoc}
use Rattle.yw_outside.specs.Image.{file_in}
use Rattle.yw_outside.specs.declared.desk.File.{File}
use Rattle.yw_outside.specs.declared.desk.File.TheVariants.{A}
use Rattle.yw_outside.specs.declared.image.Image.{Image}
use Rattle.yw_journal.specs.Files as files
use Rattle.yw_journal.specs.Files.{Content, HasContent, Holds, NoneIsLive, SnapshotIsCut, count_of, generation_of, is_live, snapshot_size_of}
use Rattle.yw_journal.specs.FileLaws.{content_generation, content_live, count_reads, size_reads}
use Rattle.yw_journal.specs.Journal.{IsBeforeOrMade, IsHeldBeside}
use Rattle.yw_journal.specs.Records.{IsFramedState}
use Rattle.yw_snapshot.specs.Opening.{IsBegun, IsFoundIn, IsFrontIn, LeftAfterSyncs, begun}
use Rattle.yw_snapshot.specs.declared.opening.Front.{Front}
use Rattle.yw_snapshot.specs.Heads.{IsChoice}
use Rattle.yw_snapshot.specs.declared.choosing.Chosen.{Chosen}
use Rattle.yw_snapshot.proofs.Fronts.{front_count, front_generation, front_snapshot, live_long}
use Rattle.yw_snapshot.proofs.HeldChosen.{held_is_chosen}

-- no snapshot, as it is framed
pub framed_nothing : IsFramedState (0 ∷ 0 ∷ 0 ∷ 0 ∷ 0 ∷ 0 ∷ 0 ∷ 0 ∷ 0 ∷ []) []
framed_nothing = record { field = 0 ∷ 0 ∷ 0 ∷ 0 ∷ 0 ∷ 0 ∷ 0 ∷ 0 ∷ []; gate = 0; split = refl; eight = refl; value = refl; closed = λ (e : 0 ≡ 1). cc }

-- nothing is held beside file A
pub held_beside : (i : Image) → NoneIsLive i → IsHeldBeside A files.opening i
held_beside i none = inl (none, refl)

pub left_by_making : (i : Image) → NoneIsLive i → (k : Image) → IsBeforeOrMade A files.opening begun i k → LeftAfterSyncs i k
left_by_making i none k b = record {
  files = inr (record {
    none = none;
    holds = ⊎_elim
        (λ (c : HasContent files.opening k). inl c)
        (λ (h : (end : ℕ) × Holds A begun end k). inr (inr (A, h.0, h.1)))
        b.holds;
    b = b.other;
  });
  said = b.said;
}

-- what the header of file A says then
pub begun_front : (i j : Image) (front : Front) → IsBegun i j → front.file ≡ A → front.len ≡ length j.a → front.generation ≡ 1 → front.count ≡ 0 → front.size ≡ 0 → IsFrontIn front j
begun_front i j front is file len generation count size =
    let has = is.holds.file in
    let behind = has.2.opened ++ has.2.gate ∷ has.2.behind in
    let split = has.2.split ∙ append_assoc has.0 has.2.opened (has.2.gate ∷ has.2.behind) in
    let none = size_reads 1 0 [] has.0 has.1 j.a behind split in
    record {
      chosen = held_is_chosen A begun 30 j is.holds ∙ ap (λ (f : File). Ok (Some f)) (sym file);
      len = len ∙ ap (λ (f : File). length (file_in f j)) (sym file);
      generation = generation ∙ sym (content_generation j.a begun 30 has) ∙ ap (λ (f : File). generation_of (file_in f j)) (sym file);
      count = count ∙ sym (count_reads 1 0 [] has.0 has.1 j.a behind split) ∙ ap (λ (f : File). count_of (file_in f j)) (sym file);
      size = size ∙ sym none ∙ ap (λ (f : File). snapshot_size_of (file_in f j)) (sym file);
      ends = subst (λ (f : File). 29 + snapshot_size_of (file_in f j) ≤ length (file_in f j)) (sym file)
          (omega (arith, none, live_long j.a (content_live j.a begun 30 has)));
    }

-- what the header of the chosen file says
module _ (i : Image) (c : Chosen) (is : IsChoice i (Some c)) (size : ℕ) (reads : size ≡ snapshot_size_of c.head.bytes) (long : 30 ≤ c.head.len) where
  abbrev chosen_file : List ℕ
  chosen_file = file_in c.file i

  size_is : size ≡ snapshot_size_of chosen_file
  size_is = reads ∙ ap snapshot_size_of is.1.bytes ∙ front_snapshot chosen_file

  pub cut_in : c.head.len - 29 < size → SnapshotIsCut chosen_file
  cut_in passes = record { passes = omega (arith, size_is, is.1.size, long, passes) }

  pub front_in : (generation count : ℕ) → generation ≡ generation_of c.head.bytes → count ≡ count_of c.head.bytes → size ≤ c.head.len - 29
      → IsFrontIn (record { file = c.file; len = c.head.len; generation = generation; count = count; size = size }) i
  front_in generation count g n within = record {
    chosen = is.0;
    len = is.1.size;
    generation = g ∙ ap generation_of is.1.bytes ∙ front_generation chosen_file;
    count = n ∙ ap count_of is.1.bytes ∙ front_count chosen_file;
    size = size_is;
    ends = omega (arith, size_is, is.1.size, long, within);
  }

-- File A is found as it was begun.
pub found_begun : (i j k : Image) (len most : ℕ) → IsBegun i j → k ≡ j → len ≡ length j.a → most ≡ max len 30
    → IsFoundIn (record { file = A; len = most; generation = 1; count = 0; size = 0 }) i k
found_begun i j k len most is_begun same long is =
    let live = live_long j.a (content_live j.a begun 30 is_begun.holds.file) in
    subst (λ (x : Image). IsFoundIn (record { file = A; len = most; generation = 1; count = 0; size = 0 }) i x) (sym same)
    (record { files = inr is_begun; here = begun_front i j (record { file = A; len = most; generation = 1; count = 0; size = 0 }) is_begun refl (omega (arith, long, is, live)) refl refl refl })
