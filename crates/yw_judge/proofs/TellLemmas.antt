-- What a line that is said does to the files, and to what a crash leaves.
use Rattle.std.proofs.Common.{ℕ, List, inl, inr, ⊎_elim, refl, arith}
use Rattle.yw_outside.specs.declared.image.Image.{Image}
use Rattle.yw_outside.specs.Image.{Speaks}
use Rattle.yw_outside.specs.LogLaws.{silent}
use Rattle.yw_outside.specs.Moments.{After, Passes}
use Rattle.yw_outside.specs.Since.{LeavesOnly}
use Rattle.yw_judge.specs.Ends.{HasSameFiles, KeepsFiles}
use Rattle.yw_outside.specs.declared.desk.Desk.{Ghosts}

module _ {D : Type 0} (g : Ghosts D) (old new : D) (may_old may_new : Image → Type 0)
    (only_now : (i : Image) → g.left_since old (g.moment old) i → may_old i) where
  -- a crash leaves what might have been left before, and a prefix of the line
  pub told : (line : List ℕ) → Passes (Speaks line) (g.moment old) (g.moment new) (g.left_since old) (g.left_since new) may_old may_new → LeavesOnly g old new (After (Speaks line) may_old)
  told line time = record {
    later = time.later;
    each = λ i left. ⊎_elim (λ earlier. (i, only_now i earlier, silent line i)) (λ a. a) (time.within (g.moment old) i (omega arith) left);
    before = time.within;
  }

  -- and the same files
  pub told_beside : (line : List ℕ) → Passes (Speaks line) (g.moment old) (g.moment new) (g.left_since old) (g.left_since new) may_old may_new → LeavesOnly g old new (After HasSameFiles may_old)
  told_beside line time = record {
    later = time.later;
    each = λ i left. beside i ((told line time).each i left);
    before = λ t i le left. ⊎_elim (λ x. inl x) (λ a. inr (beside i a)) (time.within t i le left);
  }
    where
      beside : (i : Image) → After (Speaks line) may_old i → After HasSameFiles may_old i
      beside i (d, was, spoke) = (d, was, record { a = spoke.a; b = spoke.b })

-- where nothing was called
pub untouched : {D : Type 0} (g : Ghosts D) (desk : D)
    → ((i : Image) → g.left_since desk (g.moment desk) i → g.may_leave desk i) → KeepsFiles g desk desk
untouched g desk only_now = record {
  same = record { a = refl; b = refl };
  faults = refl;
  moments = record { later = omega arith; each = λ i left. (i, only_now i left, record { a = refl; b = refl }); before = λ t i le left. inl left };
}
