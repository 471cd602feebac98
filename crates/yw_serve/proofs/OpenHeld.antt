-- What the files hold where file A was read, and where it was made.
use Rattle.std.proofs.Common.{◌≡◌, ℕ, ◌+◌, List, [], ◌∷◌, length, take, drop, None, Some, false, inl, inr, ⊎_elim, refl, sym, ap, ◌∙◌, subst}
use Rattle.yw_outside.specs.declared.desk.File.{File}
use Rattle.yw_outside.specs.declared.desk.File.TheVariants.{A}
use Rattle.yw_outside.specs.declared.image.Image.{Image}
use Rattle.yw_journal.specs.Files as files
use Rattle.yw_journal.specs.Files.{Content, HasContent, HoldState, NoneIsLive, Holds, is_live, header_damage, generation_of, count_of, snapshot_size_of}
use Rattle.yw_journal.specs.Journal.{IsBeforeOrMade, IsCurrent}
use Rattle.yw_journal.specs.declared.journal.Journal.{Journal}
use Rattle.yw_journal.specs.Records.{IsFramedState}
use Rattle.yw_state.specs.State.{State, opening}
use Rattle.yw_serve.specs.Damage.{HoldNow, IsDamagedNow}
use Rattle.yw_serve.specs.Opening.{IsChosen, IsClosedHere, IsDamagedAt, IsReached, LeftAfterSyncs, begun}
use Rattle.yw_serve.specs.declared.header.Head.{Head}
use Rattle.yw_serve.proofs.OpenHeads.{front_count, front_generation, heads_sound, header_is, live_long}
use Rattle.yw_serve.proofs.OpenRecords.{ends_at, reached_none}

-- with these records after the header of file A
abbrev pub content_of : List ℕ → List (List ℕ) → Content
content_of file records = record { generation = generation_of file; count = count_of file; snapshot = []; records = records }

module _ (i : Image) (head : Head) (chosen : IsChosen i (Some head)) where
  sound : (header_damage i.a ≡ None) × (snapshot_size_of i.a ≡ 0)
  sound = heads_sound i chosen.head.live chosen.alone chosen.sound

  pub chosen_start : IsReached i.a 29 [] opening
  chosen_start = reached_none i.a (live_long i.a chosen.head.live) sound.1

  pub holds_records : (at : ℕ) (records : List (List ℕ)) (s : State) → IsReached i.a at records s → IsClosedHere (drop at i.a) → Holds A (content_of i.a records) (at + 1) i
  holds_records at records s reached closed = record {
    file = (take 29 i.a, header_is i.a chosen.head.live sound.0 sound.1, ends_at i.a at records s reached closed);
    other = inl chosen.alone;
  }

  pub held_records : (at : ℕ) (records : List (List ℕ)) (s : State) → IsReached i.a at records s → IsClosedHere (drop at i.a) → HoldNow (content_of i.a records) s i
  held_records at records s reached closed = record {
    hold = record { content = inr (A, at + 1, holds_records at records s reached closed); state = (opening, refl, reached.state) };
    alone = chosen.alone;
  }

  pub current_records : (journal : Journal) (at : ℕ) (records : List (List ℕ)) (s : State) → IsReached i.a at records s → IsClosedHere (drop at i.a) → journal.file ≡ A → journal.end ≡ at + 1
      → journal.generation ≡ generation_of head.bytes → journal.number ≡ count_of head.bytes + length records → IsCurrent journal (content_of i.a records) i
  current_records journal at records s reached closed file end generation number = record {
    holds = subst (λ (f : File). Holds f (content_of i.a records) journal.end i) (sym file) (subst (λ (n : ℕ). Holds A (content_of i.a records) n i) (sym end) (holds_records at records s reached closed));
    generation = generation ∙ ap generation_of chosen.head.bytes ∙ front_generation i.a;
    number = number ∙ ap (λ (n : ℕ). n + length records) (ap count_of chosen.head.bytes ∙ front_count i.a);
  }

  pub damaged_within : (f : File) (place : ℕ) → IsDamagedAt i.a f place → IsDamagedNow i f place
  damaged_within f place damaged = inr (record { sound = chosen.sound; live = chosen.head.live; file = damaged.which; here = damaged.here })

-- no snapshot, as it is framed
pub framed_nothing : IsFramedState (0 ∷ 0 ∷ 0 ∷ 0 ∷ 0 ∷ 0 ∷ 0 ∷ 0 ∷ 0 ∷ []) []
framed_nothing = record { field = 0 ∷ 0 ∷ 0 ∷ 0 ∷ 0 ∷ 0 ∷ 0 ∷ 0 ∷ []; gate = 0; split = refl; eight = refl; value = refl; closed = λ (e : 0 ≡ 1). cc }

module _ (i : Image) (chosen : IsChosen i None) where
  pub none_live : NoneIsLive i
  none_live = record { a = chosen.head; b = chosen.alone }

  pub held_nothing : HoldNow files.opening opening i
  held_nothing = record { hold = record { content = inl (none_live, refl); state = (opening, refl, refl) }; alone = chosen.alone }

  still_alone : (k : Image) → k.b ≡ i.b → is_live k.b ≡ false
  still_alone k same = ap is_live same ∙ chosen.alone

  pub held_begun : (k : Image) (end : ℕ) → k.b ≡ i.b → Holds A begun end k → HoldNow begun opening k
  held_begun k end same holds = record { hold = record { content = inr (A, end, holds); state = (opening, refl, refl) }; alone = still_alone k same }

  pub left_by_making : (k : Image) → IsBeforeOrMade A files.opening begun i k → LeftAfterSyncs i k
  left_by_making k b = record {
    files = inr (record {
      none = none_live;
      holds = ⊎_elim
          (λ (c : HasContent files.opening k). inl (record { hold = record { content = c; state = (opening, refl, refl) }; alone = still_alone k b.other }))
          (λ (h : (end : ℕ) × Holds A begun end k). inr (held_begun k h.0 b.other h.1))
          b.holds;
      b = b.other;
    });
    said = b.said;
  }
