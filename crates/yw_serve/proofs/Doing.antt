-- How steps that are done join, and what a crash leaves of them.
use Rattle.std.proofs.Common.{◌≡◌, ℕ, List, [], ◌∷◌, ◌++◌, inl, inr, ⊎_elim, refl, sym, ap, ◌∙◌, subst, append_assoc}
use Rattle.std.proofs.lemmas.List.{append-nil}
use Rattle.yw_outside.specs.declared.desk.File.{File}
use Rattle.yw_outside.specs.declared.image.Image.{Image}
use Rattle.yw_outside.specs.Image.{SaysPart, file_in, other_in}
use Rattle.yw_outside.specs.Moments.{IsSettled}
use Rattle.yw_outside.specs.Since.{LeavesOnly}
use Rattle.yw_journal.specs.Files.{Content}
use Rattle.yw_journal.specs.Journal.{IsCurrent}
use Rattle.yw_journal.specs.declared.journal.Journal.{Journal}
use Rattle.yw_journal.proofs.Passing.{started, and_then, weakened}
use Rattle.yw_journal.proofs.Images.{settled_is}
use Rattle.yw_model.specs.Run.{Step, taken_by, said_by}
use Rattle.yw_model.proofs.RunLemmas.{said_by-append}
use Rattle.yw_serve.specs.Session.{EachWritten, with_steps, file_after, HasRoom, IsIn, IsBetween, IsAtWork, OfSteps, AreDone}
use Rattle.yw_serve.proofs.Written.{with_steps-none, with_steps-append, file_after-steps, room_for_both, written_steps}
use Rattle.yw_outside.specs.declared.desk.Desk.{Ghosts}

said_further : (old said : List ℕ) (steps more : List Step) → said ≡ old ++ said_by steps → said ++ said_by more ≡ old ++ said_by (steps ++ more)
said_further old said steps more e = ap (λ (bs : List ℕ). bs ++ said_by more) e ∙ append_assoc old (said_by steps) (said_by more) ∙ ap (λ (bs : List ℕ). old ++ bs) (sym (said_by-append steps more))

-- what a crash leaves of steps, it leaves of more steps
pub of_steps_longer : (f : File) (c : Content) (steps more : List Step) (old i : Image) → OfSteps f c steps old i → OfSteps f c (steps ++ more) old i
of_steps_longer f c steps more old i o = record {
  done = o.done;
  rest = o.rest ++ more;
  split = ap (λ (s : List Step). s ++ more) o.split ∙ append_assoc o.done o.rest more;
  here = ⊎_elim
      (λ (b : IsBetween f c o.done old i). inl b)
      (λ (w : IsAtWork f c o.done o.rest old i). inr (record { step = w.step; later = w.later ++ more; first = ap (λ (s : List Step). s ++ more) w.first; file = w.file; written = w.written; said = w.said }))
      o.here;
  other = o.other;
}

-- and after other steps that are done
pub of_steps_after : (f : File) (c : Content) (first steps : List Step) (old mid i : Image) → other_in f mid ≡ other_in f old → mid.said ≡ old.said ++ said_by first → EachWritten (taken_by first)
    → OfSteps f (with_steps c first) steps mid i → OfSteps f c (first ++ steps) old i
of_steps_after f c first steps old mid i other said written o =
    let in_all = λ (done : List Step) (h : IsIn f (with_steps (with_steps c first) done) i). subst (λ (x : Content). IsIn f x i) (with_steps-append c first done) h in
    record {
      done = first ++ o.done;
      rest = o.rest;
      split = ap (λ (s : List Step). first ++ s) o.split ∙ sym (append_assoc first o.done o.rest);
      here = ⊎_elim
          (λ (b : IsBetween f (with_steps c first) o.done mid i). inl (record { file = in_all o.done b.file; written = written_steps first o.done written b.written; said = b.said ∙ said_further old.said mid.said first o.done said }))
          (λ (w : IsAtWork f (with_steps c first) o.done o.rest mid i). inr (record {
            step = w.step;
            later = w.later;
            first = w.first;
            file = subst (λ (s : List Step). IsIn f (with_steps c s) i) (sym (append_assoc first o.done (w.step ∷ []))) (in_all (o.done ++ w.step ∷ []) w.file);
            written = subst (λ (s : List Step). EachWritten (taken_by s)) (sym (append_assoc first o.done (w.step ∷ []))) (written_steps first (o.done ++ w.step ∷ []) written w.written);
            said = subst (λ (bs : List ℕ). SaysPart bs w.step.reply i.said) (said_further old.said mid.said first o.done said) w.said;
          }))
          o.here;
      other = o.other ∙ other;
    }

-- no step is done yet
pub of_no_steps : (f : File) (c : Content) (steps : List Step) (i : Image) → IsIn f c i → OfSteps f c steps i i
of_no_steps f c steps i h = record {
  done = [];
  rest = steps;
  split = refl;
  here = inl (record { file = subst (λ (x : Content). IsIn f x i) (sym (with_steps-none c)) h; written = tt; said = sym (append-nil i.said) });
  other = refl;
}

module _ {D : Type 0} (g : Ghosts D) where
  -- nothing is done where nothing is pending
  pub leaves_nothing : (d : D) (P : Image → Type 0) → IsSettled (g.state d) (g.may_leave d) → ((i : Image) → g.may_leave d i → i.said ≡ (g.state d).said) → ((i : Image) → g.left_since d (g.moment d) i → g.may_leave d i)
      → P (g.state d) → LeavesOnly g d d P
  leaves_nothing d P settled said only here = started g d P (λ i left. subst P (sym (settled_is (g.state d) (g.may_leave d) settled said i (only i left))) here)

  pub nothing_done : (d : D) (c : Content) (journal : Journal) → IsSettled (g.state d) (g.may_leave d) → ((i : Image) → g.may_leave d i → i.said ≡ (g.state d).said) → ((i : Image) → g.left_since d (g.moment d) i → g.may_leave d i)
      → IsCurrent journal c (g.state d) → AreDone g c [] journal d d
  nothing_done d c journal settled said only current = record {
    file = subst (λ (x : Content). IsCurrent journal x (g.state d)) (sym (with_steps-none c)) current;
    written = tt;
    room = inl refl;
    bytes = refl;
    other = refl;
    said = sym (append-nil (g.state d).said);
    settled = settled;
    moments = leaves_nothing d (OfSteps journal.file c [] (g.state d)) settled said only (of_no_steps journal.file c [] (g.state d) (journal.end, current.holds));
  }

  -- steps and then more
  pub done_both : (c : Content) (steps more : List Step) (first last : Journal) (old mid new : D) → last.file ≡ first.file → last.limit ≡ first.limit
      → AreDone g c steps first old mid → AreDone g (with_steps c steps) more last mid new
      → AreDone g c (steps ++ more) last old new
  done_both c steps more first last old mid new same limit one two =
      let other : other_in last.file (g.state mid) ≡ other_in last.file (g.state old) = subst (λ (f : File). other_in f (g.state mid) ≡ other_in f (g.state old)) (sym same) one.other in
      record {
        file = subst (λ (x : Content). IsCurrent last x (g.state new)) (with_steps-append c steps more) two.file;
        written = written_steps steps more one.written two.written;
        room = room_for_both last.limit c steps more (subst (λ (n : ℕ). HasRoom n c steps) (sym limit) one.room) two.room;
        bytes = file_after-steps (file_in last.file (g.state old)) (file_in last.file (g.state mid)) (file_in last.file (g.state new)) c steps more
            (subst (λ (f : File). file_in f (g.state mid) ≡ file_after (file_in f (g.state old)) c (taken_by steps)) (sym same) one.bytes) two.bytes;
        other = two.other ∙ other;
        said = two.said ∙ said_further (g.state old).said (g.state mid).said steps more one.said;
        settled = two.settled;
        moments = and_then g old mid new (OfSteps last.file c (steps ++ more) (g.state old)) (OfSteps last.file (with_steps c steps) more (g.state mid))
            (weakened g old mid (OfSteps first.file c steps (g.state old)) (OfSteps last.file c (steps ++ more) (g.state old)) one.moments
            (λ i o. of_steps_longer last.file c steps more (g.state old) i (subst (λ (f : File). OfSteps f c steps (g.state old) i) (sym same) o)))
            two.moments
            (λ i o. of_steps_after last.file c steps more (g.state old) (g.state mid) i other one.said one.written o);
      }

  -- steps that are done, and then some at work
  pub leaves_after : (c : Content) (steps work : List Step) (journal : Journal) (old mid new : D) → AreDone g c steps journal old mid
      → LeavesOnly g mid new (OfSteps journal.file (with_steps c steps) work (g.state mid)) → LeavesOnly g old new (OfSteps journal.file c (steps ++ work) (g.state old))
  leaves_after c steps work journal old mid new one two =
      and_then g old mid new (OfSteps journal.file c (steps ++ work) (g.state old)) (OfSteps journal.file (with_steps c steps) work (g.state mid))
      (weakened g old mid (OfSteps journal.file c steps (g.state old)) (OfSteps journal.file c (steps ++ work) (g.state old)) one.moments
      (λ i o. of_steps_longer journal.file c steps work (g.state old) i o))
      two
      (λ i o. of_steps_after journal.file c steps work (g.state old) (g.state mid) i one.other one.said one.written o)
