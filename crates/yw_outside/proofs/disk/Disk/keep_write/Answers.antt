use Rattle.std.proofs.Common.{◌≤◌, ◌≡◌, ◌++◌, ◌∷◌, [], List, ℕ, length, cond, arith, refl, sym, subst, ap, ◌∙◌}
use Rattle.yw_outside.specs.declared.desk.File.{File}
use Rattle.yw_outside.specs.declared.desk.File.TheVariants.{A, B}
use Rattle.yw_outside.specs.declared.log.Made.{Made}
use Rattle.yw_outside.specs.declared.log.Call.TheVariants.{Write}
use Rattle.yw_outside.specs.Image.{file_in, overwritten}
use Rattle.yw_outside.specs.Log.{state_of, calls_in}
use Rattle.yw_outside.specs.Stored.{bytes_of, at_first, Stands}
use Rattle.yw_outside.proofs.Kept.{kept_more, kept_none, both_ways, placed_in, write_a, write_b, write_other_a, write_other_b, write_said}
use Rattle.yw_outside.proofs.disk.Disk.keep_write.Goals as goal

pub invariant_of-self : goal.invariant_of-self
invariant_of-self c =
    let d = c.args.self.now in
    let made = c.saturating_add-self.result in
    let later : d.made ≤ made = omega (arith, c.saturating_add-self.ensures) in
    let at = c.args.at in
    let bytes = c.args.bytes.now in
    let done = c.args.done in
    let s = state_of (at_first d.a d.b) (calls_in d.log.items) in
    let log = c.write_noted.new.log.items in
    let stored = c.write_noted.new.stored in
    let P : List Made → Type 0 = λ l. Stands stored d.b d.said.items l made in
    let more = d.log.items ++ (record { number = made; call = Write A at bytes done }) ∷ [] in
    let placed : at ≤ length s.a = subst (λ (f : File). at ≤ length (file_in f s)) c.in-A.is c.requires in
    record {
      kept = both_ways (log ≡ more) (log ≡ d.log.items) (bytes_of stored ≡ cond done (overwritten (bytes_of d.a) at bytes) (bytes_of d.a)) (bytes_of stored ≡ bytes_of d.a) (P log) c.write_noted.result
          c.write_noted.ensures.ok c.write_noted.ensures.err c.write_noted.ensures.done c.write_noted.ensures.none
          (λ e f. subst P (sym e) (kept_more d.a stored d.b d.b d.said.items d.said.items d.log.items d.made made d.kept later c.write_noted.ensures.first refl (Write A at bytes done) (placed_in at s.a placed)
          (f ∙ ap (λ (l : List ℕ). cond done (overwritten l at bytes) l) d.kept.reads_a ∙ sym (write_a at bytes done s))
          (d.kept.reads_b ∙ sym (write_other_b at bytes done s))
          (d.kept.said ∙ sym (write_said A at bytes done s))))
          (λ e f. subst P (sym e) (kept_none d.a stored d.b d.b d.said.items d.said.items d.log.items d.made made d.kept later c.write_noted.ensures.first refl f refl refl));
    }

pub invariant_of-self-in-B : goal.invariant_of-self-in-B
invariant_of-self-in-B c =
    let d = c.args.self.now in
    let made = c.saturating_add-self.result in
    let later : d.made ≤ made = omega (arith, c.saturating_add-self.ensures) in
    let at = c.args.at in
    let bytes = c.args.bytes.now in
    let done = c.args.done in
    let s = state_of (at_first d.a d.b) (calls_in d.log.items) in
    let log = c.write_noted-in-B.new.log.items in
    let stored = c.write_noted-in-B.new.stored in
    let P : List Made → Type 0 = λ l. Stands d.a stored d.said.items l made in
    let more = d.log.items ++ (record { number = made; call = Write B at bytes done }) ∷ [] in
    let placed : at ≤ length s.b = subst (λ (f : File). at ≤ length (file_in f s)) c.in-B.is c.requires in
    record {
      kept = both_ways (log ≡ more) (log ≡ d.log.items) (bytes_of stored ≡ cond done (overwritten (bytes_of d.b) at bytes) (bytes_of d.b)) (bytes_of stored ≡ bytes_of d.b) (P log) c.write_noted-in-B.result
          c.write_noted-in-B.ensures.ok c.write_noted-in-B.ensures.err c.write_noted-in-B.ensures.done c.write_noted-in-B.ensures.none
          (λ e f. subst P (sym e) (kept_more d.a d.a d.b stored d.said.items d.said.items d.log.items d.made made d.kept later refl c.write_noted-in-B.ensures.first (Write B at bytes done) (placed_in at s.b placed)
          (d.kept.reads_a ∙ sym (write_other_a at bytes done s))
          (f ∙ ap (λ (l : List ℕ). cond done (overwritten l at bytes) l) d.kept.reads_b ∙ sym (write_b at bytes done s))
          (d.kept.said ∙ sym (write_said B at bytes done s))))
          (λ e f. subst P (sym e) (kept_none d.a d.a d.b stored d.said.items d.said.items d.log.items d.made made d.kept later refl c.write_noted-in-B.ensures.first refl f refl));
    }
