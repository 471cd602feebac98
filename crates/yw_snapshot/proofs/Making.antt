-- One file is made beside the other, which is the live one.
use Rattle.std.proofs.Common.{◌≡◌, ◌+◌, ℕ, List, inr, ap, ◌∙◌, subst, arith}
use Rattle.yw_outside.specs.declared.desk.File.{File}
use Rattle.yw_outside.specs.declared.desk.File.TheVariants.{A, B}
use Rattle.yw_outside.specs.declared.image.Image.{Image}
use Rattle.yw_journal.specs.Files.{Content, Holds}
use Rattle.yw_journal.specs.FileLaws.{content_generation}
use Rattle.yw_outside.specs.Since.{LeavesOnly}
use Rattle.yw_outside.specs.declared.desk.Desk.{Ghosts}
use Rattle.yw_journal.specs.Journal.{IsAboveOther, IsBeforeOrMade, IsCurrent, IsHeldBeside, made, other_file}
use Rattle.yw_journal.specs.declared.journal.Journal.{Journal}
use Rattle.yw_snapshot.specs.Compacting.{compacted}

-- what is held is held beside the other file
pub beside : (f : File) (c : Content) (end : ℕ) (i : Image) → Holds f c end i → IsHeldBeside (other_file f) c i
beside A c end i h = inr (end, h)
beside B c end i h = inr (end, h)

-- the next generation is above that of the live file
pub above : (f : File) (c : Content) (end : ℕ) (i : Image) (generation : ℕ) → Holds f c end i → generation ≡ c.generation → IsAboveOther (other_file f) (generation + 1) i
above A c end i generation h e = λ live. omega (arith, e, content_generation i.a c end h.file)
above B c end i generation h e = λ live. omega (arith, e, content_generation i.b c end h.file)

-- it is made of the journal's numbers
pub same_made : (j : Journal) (c : Content) (i : Image) (snapshot : List ℕ) → IsCurrent j c i → made (j.generation + 1) j.number snapshot ≡ compacted c snapshot
same_made j c i snapshot current =
    ap (λ (n : ℕ). made (n + 1) j.number snapshot) current.generation ∙ ap (λ (n : ℕ). made (c.generation + 1) n snapshot) current.number

-- the same of the same file and the same content
pub moments : {D : Type 0} (g : Ghosts D) (old new : D) (h f : File) (c d e : Content) → h ≡ f → d ≡ e
    → LeavesOnly g old new (IsBeforeOrMade h c d (g.state old)) → LeavesOnly g old new (IsBeforeOrMade f c e (g.state old))
moments g old new h f c d e file content left =
    subst (λ (x : File). LeavesOnly g old new (IsBeforeOrMade x c e (g.state old))) file
    (subst (λ (x : Content). LeavesOnly g old new (IsBeforeOrMade h c x (g.state old))) content left)
