-- What telling and appending do to the step at work.
use Rattle.std.proofs.Common.{◌≡◌, ℕ, List, [], ◌∷◌, ◌++◌, inl, inr, ⊎_elim, refl, sym, ap, ◌∙◌, subst}
use Rattle.std.proofs.lemmas.List.{append-nil}
use Rattle.yw_outside.specs.declared.desk.File.{File}
use Rattle.yw_outside.specs.declared.desk.File.TheVariants.{A, B}
use Rattle.yw_outside.specs.declared.image.Image.{Image}
use Rattle.yw_outside.specs.Image.{SaysPart, Speaks, file_in, other_in}
use Rattle.yw_outside.specs.LogLaws.{silent}
use Rattle.yw_outside.specs.Moments.{After, Passes, IsSettled}
use Rattle.yw_outside.specs.Since.{LeavesOnly}
use Rattle.yw_journal.specs.Files.{Content, Holds, IsLesser, FileHas}
use Rattle.yw_journal.specs.Journal.{IsCurrent, IsBeforeOrAfter, with_record}
use Rattle.yw_journal.specs.declared.journal.Journal.{Journal}
use Rattle.yw_journal.proofs.Passing.{started, goes_on, and_then}
use Rattle.yw_journal.proofs.Images.{settled_is}
use Rattle.yw_codec.specs.Entries.{IsEntry}
use Rattle.yw_judge.specs.Ends.{KeepsFiles}
use Rattle.yw_judge.proofs.TellLemmas.{told_beside}
use Rattle.yw_model.specs.Run.{Entry, Step, said_by, taken_by}
use Rattle.yw_serve.specs.Session.{EachWritten, bytes_of, file_after, HasRoom, with_steps, IsIn, OfSteps, AreDone}
use Rattle.yw_serve.proofs.Written.{with_none, with_one, with_steps-none, written_one}
use Rattle.yw_outside.specs.declared.desk.Desk.{Ghosts}

nothing_said : (old reply new : List ℕ) → new ≡ old → SaysPart old reply new
nothing_said old reply new e = ([], reply, refl, e ∙ sym (append-nil old))

pub same_file : (f : File) (old new : Image) → new.a ≡ old.a → new.b ≡ old.b → file_in f new ≡ file_in f old
same_file A old new a b = a
same_file B old new a b = b

pub same_other : (f : File) (old new : Image) → new.a ≡ old.a → new.b ≡ old.b → other_in f new ≡ other_in f old
same_other A old new a b = b
same_other B old new a b = a

-- where the files are the same, they hold the same
pub holds_same : (f : File) (c : Content) (end : ℕ) (old new : Image) → new.a ≡ old.a → new.b ≡ old.b → Holds f c end old → Holds f c end new
holds_same f c end old new a b h = record {
  file = subst (λ (l : List ℕ). FileHas l c end) (sym (same_file f old new a b)) h.file;
  other = subst (λ (l : List ℕ). IsLesser c.generation l) (sym (same_other f old new a b)) h.other;
}

pub said_by-one : (step : Step) → said_by (step ∷ []) ≡ step.reply
said_by-one step = append-nil step.reply

-- the step isn't begun
pub not_begun : (f : File) (c : Content) (step : Step) (old i : Image) → IsIn f c i → i.said ≡ old.said → other_in f i ≡ other_in f old → OfSteps f c (step ∷ []) old i
not_begun f c step old i h said other = record {
  done = [];
  rest = step ∷ [];
  split = refl;
  here = inl (record { file = subst (λ (x : Content). IsIn f x i) (sym (with_steps-none c)) h; written = tt; said = said ∙ sym (append-nil old.said) });
  other = other;
}

-- its entry is held, and a prefix of its reply said
pub at_work : (f : File) (c : Content) (step : Step) (old i : Image) → EachWritten (taken_by (step ∷ [])) → IsIn f (with_steps c (step ∷ [])) i → SaysPart old.said step.reply i.said → other_in f i ≡ other_in f old → OfSteps f c (step ∷ []) old i
at_work f c step old i written h said other = record {
  done = [];
  rest = step ∷ [];
  split = refl;
  here = inr (record { step = step; later = []; first = refl; file = h; written = written; said = subst (λ (bs : List ℕ). SaysPart bs step.reply i.said) (sym (append-nil old.said)) said });
  other = other;
}

-- within an append
pub of_append : (f : File) (c : Content) (step : Step) (entry : Entry) (old i : Image) → step.taken ≡ entry ∷ [] → IsEntry entry.events (bytes_of entry) → IsBeforeOrAfter f c (bytes_of entry) old i → OfSteps f c (step ∷ []) old i
of_append f c step entry old i e is h = ⊎_elim
    (λ (before : (end : ℕ) × Holds f c end i). not_begun f c step old i before h.said h.other)
    (λ (after : (end : ℕ) × Holds f (with_record c (bytes_of entry)) end i).
    at_work f c step old i (written_one step entry e is) (subst (λ (x : Content). IsIn f x i) (sym (with_one c step entry e)) after) (nothing_said old.said step.reply i.said h.said) h.other)
    h.holds

-- while a reply is said after its entry
pub of_telling : (f : File) (c : Content) (step : Step) (end : ℕ) (old mid i : Image) → EachWritten (taken_by (step ∷ [])) → Holds f (with_steps c (step ∷ [])) end mid → mid.said ≡ old.said → other_in f mid ≡ other_in f old
    → Speaks step.reply mid i → OfSteps f c (step ∷ []) old i
of_telling f c step end old mid i written h said other s =
    at_work f c step old i written (end, holds_same f (with_steps c (step ∷ [])) end mid i s.a s.b h) (subst (λ (bs : List ℕ). SaysPart bs step.reply i.said) said s.said) (same_other f mid i s.a s.b ∙ other)

module _ {D : Type 0} (g : Ghosts D) where
  pub told : (old new : D) (state : Image) (may_old may_new : Image → Type 0) (text : List ℕ) → IsSettled state may_old → ((i : Image) → may_old i → i.said ≡ state.said)
      → ((i : Image) → g.left_since old (g.moment old) i → may_old i) → Passes (Speaks text) (g.moment old) (g.moment new) (g.left_since old) (g.left_since new) may_old may_new
      → LeavesOnly g old new (Speaks text state)
  told old new state may_old may_new text settled said now time =
      let only = settled_is state may_old settled said in
      goes_on g old old new (Speaks text) may_old may_new (Speaks text state)
      (started g old (Speaks text state) (λ i left. subst (λ (d : Image). Speaks text state d) (sym (only i (now i left))) (silent text state)))
      time (λ i a. subst (λ (d : Image). Speaks text d i) (only a.0 a.1) a.2)

module _ {D : Type 0} (g : Ghosts D)
    (c : Content) (step : Step) (journal : Journal) (old mid new : D) (text : List ℕ) (reply : text ≡ step.reply) (written : EachWritten (taken_by (step ∷ [])))
    (current : IsCurrent journal (with_steps c (step ∷ [])) (g.state mid)) (unsaid : (g.state mid).said ≡ (g.state old).said) (other : other_in journal.file (g.state mid) ≡ other_in journal.file (g.state old))
    (first : LeavesOnly g old mid (OfSteps journal.file c (step ∷ []) (g.state old))) (second : LeavesOnly g mid new (Speaks text (g.state mid))) where
  -- a reply that is said, or a prefix of it, after its entry
  pub leaves_telling : LeavesOnly g old new (OfSteps journal.file c (step ∷ []) (g.state old))
  leaves_telling = and_then g old mid new (OfSteps journal.file c (step ∷ []) (g.state old)) (Speaks text (g.state mid)) first second
      (λ i s. of_telling journal.file c step journal.end (g.state old) (g.state mid) i written current.holds unsaid other (subst (λ (t : List ℕ). Speaks t (g.state mid) i) reply s))

  pub done_by_telling : HasRoom journal.limit c (step ∷ []) → file_in journal.file (g.state mid) ≡ file_after (file_in journal.file (g.state old)) c (taken_by (step ∷ [])) → (g.state new).a ≡ (g.state mid).a → (g.state new).b ≡ (g.state mid).b → (g.state new).said ≡ (g.state mid).said ++ text → IsSettled (g.state new) (g.may_leave new)
      → AreDone g c (step ∷ []) journal old new
  done_by_telling room bytes a b said settled = record {
    written = written;
    room = room;
    bytes = same_file journal.file (g.state mid) (g.state new) a b ∙ bytes;
    file = record { holds = holds_same journal.file (with_steps c (step ∷ [])) journal.end (g.state mid) (g.state new) a b current.holds; generation = current.generation; number = current.number };
    other = same_other journal.file (g.state mid) (g.state new) a b ∙ other;
    said = said ∙ ap (λ (bs : List ℕ). bs ++ text) unsaid ∙ ap (λ (bs : List ℕ). (g.state old).said ++ bs) (reply ∙ sym (said_by-one step));
    settled = settled;
    moments = leaves_telling;
  }

-- a text that is said, or a prefix of it, after what a crash might have left before
module _ {D : Type 0} (g : Ghosts D) where
  pub told_after : (old new : D) (may_old may_new : Image → Type 0) (text : List ℕ) → ((i : Image) → g.left_since old (g.moment old) i → may_old i)
      → Passes (Speaks text) (g.moment old) (g.moment new) (g.left_since old) (g.left_since new) may_old may_new → LeavesOnly g old new (After (Speaks text) may_old)
  told_after old new may_old may_new text now time =
      goes_on g old old new (Speaks text) may_old may_new (After (Speaks text) may_old)
      (started g old (After (Speaks text) may_old) (λ i left. (i, now i left, silent text i)))
      time (λ i a. a)

-- a text that is said, or a prefix of it, leaves the files
module _ {D : Type 0} (g : Ghosts D) where
  pub keeps_files : (old new : D) (may_new : Image → Type 0) → ((i : Image) → g.left_since old (g.moment old) i → g.may_leave old i) → (text : List ℕ)
      → (g.state new).a ≡ (g.state old).a → (g.state new).b ≡ (g.state old).b → g.disk_faults new ≡ g.disk_faults old
      → Passes (Speaks text) (g.moment old) (g.moment new) (g.left_since old) (g.left_since new) (g.may_leave old) may_new → KeepsFiles g old new
  keeps_files old new may_new now text a b disk time = record {
    same = record { a = a; b = b };
    faults = disk;
    moments = told_beside g old new (g.may_leave old) may_new now text time;
  }

-- before a step that takes nothing
pub current_none : (journal : Journal) (c : Content) (step : Step) (i : Image) → step.taken ≡ [] → IsCurrent journal c i → IsCurrent journal (with_steps c (step ∷ [])) i
current_none journal c step i e h = subst (λ (x : Content). IsCurrent journal x i) (sym (with_none c step e)) h

pub current_one : (journal : Journal) (c : Content) (step : Step) (entry : Entry) (i : Image) → step.taken ≡ entry ∷ [] → IsCurrent journal (with_record c (bytes_of entry)) i → IsCurrent journal (with_steps c (step ∷ [])) i
current_one journal c step entry i e h = subst (λ (x : Content). IsCurrent journal x i) (sym (with_one c step entry e)) h

-- where the files are the same
pub current_same : (journal : Journal) (c : Content) (old new : Image) → new.a ≡ old.a → new.b ≡ old.b → IsCurrent journal c old → IsCurrent journal c new
current_same journal c old new a b h = record { holds = holds_same journal.file c journal.end old new a b h.holds; generation = h.generation; number = h.number }
