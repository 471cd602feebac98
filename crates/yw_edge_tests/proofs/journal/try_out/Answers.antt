use Rattle.std.proofs.Common.{◌≡◌, ◌≢◌, ℕ, [], ◌∷◌, inl, refl, sym, ap, ◌∙◌, subst, arith}
use Rattle.yw_outside.specs.declared.image.Image.{Image}
use Rattle.yw_outside.specs.Image.{file_in}
use Rattle.yw_outside.specs.MemDesk.{reads_as}
use Rattle.yw_journal.specs.declared.journal.Journal.{Journal}
use Rattle.yw_journal.specs.Files.{FileHas, is_live}
use Rattle.yw_journal.specs.Journal.{IsCurrent, made}
use Rattle.yw_journal.specs.Records.{IsFramedState}
use Rattle.yw_edge_tests.proofs.journal.try_out.Goals as goal

is_closed : (n : ℕ) → n ≡ 0 → n ≢ 1
is_closed n e f = absurd (omega (arith, e, f))

no_snapshot : IsFramedState (0 ∷ 0 ∷ 0 ∷ 0 ∷ 0 ∷ 0 ∷ 0 ∷ 0 ∷ 0 ∷ []) []
no_snapshot = record { field = 0 ∷ 0 ∷ 0 ∷ 0 ∷ 0 ∷ 0 ∷ 0 ∷ 0 ∷ []; gate = 0; split = refl; eight = refl; value = refl; closed = is_closed 0 refl }

pub make-answer-requires-clause-framed : goal.make-answer-requires-clause-framed
make-answer-requires-clause-framed c = ([], no_snapshot)

pub append-appended-requires-clause-framed : goal.append-appended-requires-clause-framed
append-appended-requires-clause-framed c = (
  0 ∷ 1 ∷ 1 ∷ 3 ∷ 97 ∷ 110 ∷ 110 ∷ 1 ∷ 5 ∷ 99 ∷ 108 ∷ 101 ∷ 114 ∷ 107 ∷ [],
  record {
    frame = 0 ∷ 0 ∷ 0 ∷ 14 ∷ 0 ∷ 1 ∷ 1 ∷ 3 ∷ 97 ∷ 110 ∷ 110 ∷ 1 ∷ 5 ∷ 99 ∷ 108 ∷ 101 ∷ 114 ∷ 107 ∷ [];
    gate = 0;
    split = refl;
    is_frame = record { field = 0 ∷ 0 ∷ 0 ∷ 14 ∷ []; split = refl; four = refl; value = refl };
    closed = is_closed 0 refl;
  },
)

pub append-appended-requires-clause-current : goal.append-appended-requires-clause-current
append-appended-requires-clause-current c = λ tells.
    let j = c.in-Ok.journal in
    let is = c.in-Ok.ensures.journal in
    let state = reads_as c.make-answer.new.desk in
    let empty : state.b ≡ [] = (c.in-Ok.ensures.rewrites tells).other ∙ ap (λ (i : Image). i.b) c.new-desk.ensures.state ∙ c.new.ensures.items in
    let file = subst (λ (k : Journal). FileHas (file_in k.file state) (made k.generation k.number []) k.end) is (c.in-Ok.ensures.made tells [] no_snapshot) in (
      made 1 0 [],
      subst (λ (k : Journal). IsCurrent k (made 1 0 []) state) (sym is)
          (record { holds = record { file = file; other = inl (ap is_live empty) }; generation = refl; number = refl }),
    )
