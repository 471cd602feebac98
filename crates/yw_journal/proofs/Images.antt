-- What a crash within an append leaves of both files and the output.
use Rattle.std.proofs.Common.{◌≡◌, ◌⊎◌, ℕ, ◌+◌, List, [], ◌∷◌, ◌++◌, length, inl, inr, ⊎_elim, refl, sym, ap, ◌∙◌, subst}
use Rattle.yw_outside.specs.declared.image.Image.{Image}
use Rattle.yw_outside.specs.Image as images
use Rattle.yw_outside.specs.Image.{file_in, other_in, Torn, Writes}
use Rattle.yw_outside.specs.Moments.{After, IsSettled}
use Rattle.yw_outside.specs.declared.desk.File.{File}
use Rattle.yw_journal.specs.Files as files
use Rattle.yw_journal.specs.Files.{Content, IsLesser}
use Rattle.yw_journal.specs.Journal.{IsBeforeOrAfter, with_record}
use Rattle.yw_journal.specs.Records.{IsAt, HasRecords, IsFramed}
use Rattle.yw_journal.proofs.Appending.{first_torn, second_either, second_written, staged}

unfoldable image : List ℕ → List ℕ → List ℕ → Image
image a b said = record { a = a; b = b; said = said }

image_is : (c d : Image) → c.a ≡ d.a → c.b ≡ d.b → c.said ≡ d.said → c ≡ d
unfolding image
image_is c d a b said = ap (λ (x : List ℕ). image x c.b c.said) a ∙ ap (λ (x : List ℕ). image d.a x c.said) b ∙ ap (λ (x : List ℕ). image d.a d.b x) said

-- where nothing is pending, a crash leaves what is there
pub settled_is : (state : Image) (outcomes : Image → Type 0) → IsSettled state outcomes → ((c : Image) → outcomes c → c.said ≡ state.said) → (c : Image) → outcomes c → c ≡ state
settled_is state outcomes s said c o = image_is c state (s.a c o) (s.b c o) (said c o)

-- a write from there
pub after_settled : (f : File) (at n : ℕ) (state : Image) (outcomes : Image → Type 0) → ((c : Image) → outcomes c → c ≡ state) → (c : Image) → After (Writes f at n) outcomes c → Writes f at n state c
after_settled f at n state outcomes only c a = subst (λ (d : Image). Writes f at n d c) (only a.0 a.1) a.2

-- the other file stays lesser
lesser : (f : File) (generation : ℕ) (old c : Image) → IsLesser generation (other_in f old) → other_in f c ≡ other_in f old → IsLesser generation (other_in f c)
lesser f generation old c less same = subst (λ (l : List ℕ). IsLesser generation l) (sym same) less

module _ (f : File) (content : Content) (bytes : List ℕ) (end : ℕ) (framed : List ℕ) (old : Image) (holds : files.Holds f content end old) (whole : IsFramed framed bytes) where
  abbrev head : List ℕ
  head = holds.file.0

  abbrev at : IsAt head content.records end (file_in f old)
  at = holds.file.2

  -- any image in which one of both stands
  either : (c : Image) → HasRecords head content.records (file_in f c) ⊎ HasRecords head (content.records ++ bytes ∷ []) (file_in f c) → other_in f c ≡ other_in f old → c.said ≡ old.said
      → IsBeforeOrAfter f content bytes old c
  either c has other said = record {
    holds = ⊎_elim
        (λ (h : HasRecords head content.records (file_in f c)). inl (h.0, record { file = (head, holds.file.1, h.1); other = lesser f content.generation old c holds.other other }))
        (λ (h : HasRecords head (content.records ++ bytes ∷ []) (file_in f c)). inr (h.0, record { file = (head, holds.file.1, h.1); other = lesser f content.generation old c holds.other other }))
        has;
    other = other;
    said = said;
  }

  pub first_image : (c : Image) → Writes f end (length framed) old c → IsBeforeOrAfter f content bytes old c
  first_image c w = either c (inl (end, first_torn head content.records bytes end (file_in f old) framed at whole (file_in f c) w.torn)) w.other w.said

  pub second_image : (q : ℕ) → q + 1 ≡ end → (mid : Image) (behind : List ℕ) → file_in f mid ≡ staged head content.records bytes end (file_in f old) framed at whole behind → other_in f mid ≡ other_in f old → mid.said ≡ old.said
      → (c : Image) → Writes f q 1 mid c → IsBeforeOrAfter f content bytes old c
  second_image q qe mid behind file other said c w =
      either c (second_either head content.records bytes end (file_in f old) framed at whole q qe behind (file_in f c) (subst (λ (l : List ℕ). Torn q 1 l (file_in f c)) file w.torn)) (w.other ∙ other) (w.said ∙ said)

  -- both writes were done
  pub appended : (q : ℕ) → q + 1 ≡ end → (behind : List ℕ) (c : Image) → images.Holds (staged head content.records bytes end (file_in f old) framed at whole behind) q (1 ∷ []) (file_in f c) → other_in f c ≡ other_in f old
      → files.Holds f (with_record content bytes) (end + length framed) c
  appended q qe behind c written other = record {
    file = (head, holds.file.1, second_written head content.records bytes end (file_in f old) framed at whole q qe behind (file_in f c) written);
    other = lesser f content.generation old c holds.other other;
  }

  -- before anything is written
  pub untouched : IsBeforeOrAfter f content bytes old old
  untouched = record { holds = inl (end, holds); other = refl; said = refl }
