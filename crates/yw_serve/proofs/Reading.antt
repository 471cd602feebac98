-- What a read does to how far the reading has come.
use Rattle.std.proofs.Common.{◌≡◌, ℕ, ◌+◌, ◌-◌, ◌<◌, ◌≤◌, ◌==◌, List, [], ◌∷◌, ◌++◌, length, take, drop, min, false, Option, Some, inl, inr, refl, sym, ap, ◌∙◌, subst, append_assoc, arith, length-append, length-take}
use Rattle.std.proofs.lemmas.List.{append-nil, take_all, take-take, take_at, drop_at, take-append-le, take-append-drop, length-take-le}
use Rattle.std.proofs.lemmas.Bool.{cases_lt}
use Rattle.std.proofs.lemmas.Bool.Decides.{eqb_tells}
use Rattle.std.proofs.Math.Seq.{take-append-add}
use Rattle.std.specs.Io.KnownBytes.{Consumes, Keeps, IsAtEnd}
use Rattle.yw_outside.specs.Since.{LeavesOnly}
use Rattle.yw_outside.proofs.Reading.{consumed, still_left, at_end}
use Rattle.yw_journal.specs.Files.{Content}
use Rattle.yw_journal.specs.declared.journal.Journal.{Journal}
use Rattle.yw_lines.specs.Lines.{whole_lines, all_lines, lines}
use Rattle.yw_model.specs.Run.{Run}
use Rattle.yw_state.specs.State.{State}
use Rattle.yw_answered.proofs.Runs.{lines_have_run, run_keeps_well}
use Rattle.yw_model.proofs.RunLemmas.{Run-append}
use Rattle.yw_texts.specs.Texts.{reader}
use Rattle.yw_state.specs.Well.{IsWell}
use Rattle.yw_serve.specs.declared.session.Session.{Session}
use Rattle.yw_serve.specs.declared.server.Stop.{Stop}
use Rattle.yw_serve.specs.Kept.{most_kept}
use Rattle.yw_serve.specs.Session.{state_of, with_steps, OfSteps, AnswersOn, StopsWithin, GoesOn, Why}
use Rattle.yw_serve.specs.Ends.{Takes, has_ended, before_piece, AllAnswered, SomeAnswered, EndsWhole, EndsBetween, EndsPast, EndsShort}
use Rattle.yw_serve.specs.Reading.{HasAnswered, HasRead}
use Rattle.yw_serve.proofs.Written.{with_steps-append}
use Rattle.yw_serve.proofs.Doing.{done_both}
use Rattle.yw_serve.proofs.Going.{IsReadyAt, none_done, stops_short}
use Rattle.yw_outside.specs.declared.desk.Desk.{Ghosts}

-- one piece more of all bytes is taken
takes_more : (bytes taken rest piece later : List ℕ) (old new : Option (List ℕ)) → Takes bytes taken rest old → new ≡ Some later → rest ≡ piece ++ later → Takes bytes (taken ++ piece) later new
takes_more bytes taken rest piece later old new t e split = record {
  split = t.split ∙ ap (λ (r : List ℕ). taken ++ r) split ∙ sym (append_assoc taken piece later);
  still = e;
}

not_ended : (l : List ℕ) (k : ℕ) → 0 < k → has_ended l k ≡ false
not_ended [] k more = elim (eqb_tells k 0) [ inl same ↦ absurd (omega (arith, same.1)) | inr other ↦ other.0 ]
not_ended (b ∷ bs) k more = refl

module _ {D : Type 0} (g : Ghosts D) (c : Content) (s : State) (start : D) where
  pub read_nothing : (session : Session) (limit : ℕ) (bytes : List ℕ) (left : Option (List ℕ)) → left ≡ Some bytes → session.line.items ≡ [] → session.number ≡ 1 → state_of session ≡ s
      → IsReadyAt g c session.server.journal start → HasRead g c s session limit 0 bytes left start start
  read_nothing session limit bytes left e line number same ready = record {
    taken = [];
    rest = bytes;
    takes = record { split = refl; still = e };
    counted = refl;
    answered = subst (λ (bs : List ℕ). HasAnswered g c s session bs start start) (sym (take_all limit [] (omega arith)))
        (record { steps = []; run = same; are_done = none_done g c session.server.journal start ready; at = line ∙ sym (take_all most_kept [] (omega arith)); number = number });
  }

  answered_on : (before now : Session) (taken piece : List ℕ) (mid new : D) → now.server.journal.file ≡ before.server.journal.file → now.server.journal.limit ≡ before.server.journal.limit → (h : HasAnswered g c s before taken start mid)
      → GoesOn g (with_steps c h.steps) before now taken piece mid new → HasAnswered g c s now (taken ++ piece) start new
  answered_on before now taken piece mid new file limit h go =
      let more = go.answers.lines in
      record {
        steps = h.steps ++ go.answers.steps;
        run = subst (λ (ls : List (List ℕ)). Run s 1 ls (h.steps ++ go.answers.steps) (state_of now)) (sym go.answers.split)
            (Run-append s 1 (whole_lines taken) h.steps (state_of before) more go.answers.steps (state_of now) h.run
            (subst (λ (n : ℕ). Run (state_of before) n more go.answers.steps (state_of now)) h.number go.answers.run));
        are_done = done_both g c h.steps go.answers.steps before.server.journal now.server.journal start mid new file limit h.are_done go.answers.are_done;
        at = go.at;
        number = go.number ∙ ap (λ n. n + length more) h.number ∙ summed (whole_lines taken) more ∙ ap (λ (ls : List (List ℕ)). 1 + length ls) (sym go.answers.split);
      }
    where
      summed : (xs ys : List (List ℕ)) → 1 + length xs + length ys ≡ 1 + length (xs ++ ys)
      summed xs ys = omega (arith, length-append xs ys)

  -- it stopped within the lines of the bytes taken since
  short : IsWell reader s → (stop : Stop) (session : Session) (limit piece : ℕ) (bytes seen taken rest : List ℕ) (left : Option (List ℕ)) (mid new : D)
      → Takes bytes taken rest left → length taken ≤ limit + 1 → (h : HasAnswered g c s session seen start mid) → seen ≡ before_piece taken piece
      → StopsWithin g (with_steps c h.steps) stop session (whole_lines seen) (lines taken (has_ended rest piece)) mid new
      → EndsShort g c s session.server.journal.limit limit stop bytes left piece start new
  short well stop session limit piece bytes seen taken rest left mid new t within h e z =
      let answered = whole_lines seen ++ z.lines in
      let steps = h.steps ++ z.steps in
      let n = 1 + length answered in
      let run : Run s 1 answered steps z.reached = Run-append s 1 (whole_lines seen) h.steps (state_of session) z.lines z.steps z.reached h.run
      (subst (λ (k : ℕ). Run (state_of session) k z.lines z.steps z.reached) h.number z.run) in
      let run_on : Run z.reached n z.next z.work z.after =
      subst (λ (k : ℕ). Run z.reached k z.next z.work z.after) (ap (λ k. k + length z.lines) h.number ∙ summed (whole_lines seen) z.lines) z.run_on in
      let reached_well = run_keeps_well s z.reached 1 answered steps well run in
      let after_well = run_keeps_well z.reached z.after n z.next z.work reached_well run_on in
      record {
        taken = taken;
        rest = rest;
        takes = t;
        within = within;
        answered = subst (λ (bs : List ℕ). SomeAnswered g c s session.server.journal.limit stop (whole_lines bs) (lines taken (has_ended rest piece)) start new) e (record {
          extra = z.lines;
          next = z.next;
          one = z.one;
          later = z.later;
          split = z.split ∙ sym (append_assoc (whole_lines seen) z.lines (z.next ++ z.later));
          steps = steps;
          reached = z.reached;
          run = run;
          mid = z.mid;
          journal = z.journal;
          are_done = done_both g c h.steps z.steps session.server.journal z.journal start mid z.mid z.file z.limit h.are_done z.are_done;
          work = z.work;
          after = z.after;
          run_on = run_on;
          goes_on = lines_have_run z.after (n + length z.next) z.later after_well;
          moments = subst (λ (x : Content). LeavesOnly g z.mid new (OfSteps z.journal.file x z.work (g.state z.mid))) (with_steps-append c h.steps z.steps) z.moments;
          why = subst (λ (x : Content). Why g x stop z.journal z.work z.mid new) (with_steps-append c h.steps z.steps) z.why;
          limited = z.limit;
        });
      }
    where
      summed : (xs ys : List (List ℕ)) → 1 + length xs + length ys ≡ 1 + length (xs ++ ys)
      summed xs ys = omega (arith, length-append xs ys)

  -- more came than the limit allows
  pub read_past : (session : Session) (limit count : ℕ) (bytes : List ℕ) (left : Option (List ℕ)) (new : D) → HasRead g c s session limit count bytes left start new
      → limit < count → count ≤ limit + 1 → EndsPast g c s session.server.journal.limit limit bytes left start new
  read_past session limit count bytes left new h more most =
      let exact : length h.taken ≡ limit + 1 = omega (arith, h.counted) in
      let all : take (limit + 1) bytes ≡ h.taken = ap (take (limit + 1)) h.takes.split ∙ take_at h.taken h.rest (limit + 1) exact in
      let rest : drop (limit + 1) bytes ≡ h.rest = ap (drop (limit + 1)) h.takes.split ∙ drop_at h.taken h.rest (limit + 1) exact in
      let front : take limit bytes ≡ take limit h.taken = ap (take limit) h.takes.split ∙ take-append-le limit h.taken h.rest (omega arith) in
      record {
        past = omega (arith, exact, ap length h.takes.split, length-append h.taken h.rest);
        takes = subst (λ (bs : List ℕ). Takes bytes bs (drop (limit + 1) bytes) left) (sym all) (subst (λ (bs : List ℕ). Takes bytes h.taken bs left) (sym rest) h.takes);
        answered = subst (λ (bs : List ℕ). AllAnswered g c s session.server.journal.limit (whole_lines bs) start new) (sym front)
            (record { steps = h.answered.steps; reached = state_of session; run = h.answered.run; journal = session.server.journal; limited = refl; are_done = h.answered.are_done });
      }

  module _ (session : Session) (limit count : ℕ) (bytes : List ℕ) (left new_left : Option (List ℕ)) (mid : D) (h : HasRead g c s session limit count bytes left start mid) (within : count ≤ limit) where
    pub all_answered : HasAnswered g c s session h.taken start mid
    all_answered = subst (λ (bs : List ℕ). HasAnswered g c s session bs start mid) (take_all limit h.taken (omega (arith, h.counted))) h.answered

    -- nothing could be read
    pub read_failed : Keeps left new_left → EndsBetween g c s session.server.journal.limit limit bytes new_left start mid
    read_failed keeps = record {
      taken = h.taken;
      rest = h.rest;
      takes = record { split = h.takes.split; still = still_left h.rest left new_left h.takes.still keeps };
      within = omega (arith, h.counted);
      answered = record { steps = all_answered.steps; reached = state_of session; run = all_answered.run; journal = session.server.journal; limited = refl; are_done = all_answered.are_done };
    }

    module _ (end : Consumes left new_left []) (ended : IsAtEnd new_left) where
      all_taken : (bytes ≡ h.taken) × Takes bytes h.taken [] new_left
      all_taken =
          let e = consumed h.rest [] left new_left h.takes.still end in
          let none : e.0 ≡ [] = at_end e.0 new_left e.1 ended in
          let whole : bytes ≡ h.taken = h.takes.split ∙ ap (λ (r : List ℕ). h.taken ++ r) (e.2 ∙ none) ∙ append-nil h.taken in
          (whole, record { split = whole ∙ sym (append-nil h.taken); still = e.1 ∙ ap Some none })

      pub read_all : (t : State) (journal : Journal) (new : D) → journal.file ≡ session.server.journal.file → journal.limit ≡ session.server.journal.limit
          → AnswersOn g (with_steps c all_answered.steps) session (whole_lines h.taken) (all_lines h.taken) t journal mid new
          → EndsWhole g c s session.server.journal.limit limit bytes new_left start new
      read_all t journal new file limit_too a =
          let whole = all_taken.0 in
          let steps = all_answered.steps ++ a.steps in
          let run : Run s 1 (all_lines h.taken) steps t = subst (λ (ls : List (List ℕ)). Run s 1 ls steps t) (sym a.split)
          (Run-append s 1 (whole_lines h.taken) all_answered.steps (state_of session) a.lines a.steps t all_answered.run (subst (λ (n : ℕ). Run (state_of session) n a.lines a.steps t) all_answered.number a.run)) in
          record {
            within = omega (arith, ap length whole, h.counted);
            takes = subst (λ (bs : List ℕ). Takes bytes bs [] new_left) (sym whole) all_taken.1;
            answered = subst (λ (bs : List ℕ). AllAnswered g c s session.server.journal.limit (all_lines bs) start new) (sym whole)
                (record { steps = steps; reached = t; run = run; journal = journal; limited = limit_too; are_done = done_both g c all_answered.steps a.steps session.server.journal journal start mid new file limit_too all_answered.are_done a.are_done });
          }

      pub stopped_at_end : IsWell reader s → (stop : Stop) (piece : ℕ) (new : D) → piece ≡ 0
          → StopsWithin g (with_steps c all_answered.steps) stop session (whole_lines h.taken) (all_lines h.taken) mid new
          → EndsShort g c s session.server.journal.limit limit stop bytes new_left piece start new
      stopped_at_end well stop piece new zero z =
          let same : lines h.taken (has_ended [] piece) ≡ all_lines h.taken = ap (λ n. lines h.taken (n == 0)) zero in
          short well stop session limit piece bytes h.taken h.taken [] new_left mid new all_taken.1 (omega (arith, h.counted)) all_answered
          (sym (take_all (length h.taken - piece) h.taken (omega arith)))
          (subst (λ (ls : List (List ℕ)). StopsWithin g (with_steps c all_answered.steps) stop session (whole_lines h.taken) ls mid new) (sym same) z)

    module _ (room : List ℕ) (n kept : ℕ) (fits : n ≤ length room) (most : n ≤ limit - count + 1) (some : kept ≡ min n (limit - count)) (eats : Consumes left new_left (take n room)) where
      piece : List ℕ
      piece = take n room

      length_piece : length piece ≡ n
      unfolding piece
      length_piece = length-take-le n room fits

      later : (l : List ℕ) × (new_left ≡ Some l) × (h.rest ≡ piece ++ l)
      unfolding piece
      later = consumed h.rest (take n room) left new_left h.takes.still eats

      now_taken : Takes bytes (h.taken ++ piece) later.0 new_left
      now_taken = takes_more bytes h.taken h.rest piece later.0 left new_left h.takes later.1 later.2

      kept_of_piece : take kept room ≡ take (limit - count) piece
      unfolding piece
      kept_of_piece =
          elim (cases_lt n (limit - count)) [
            | inl less ↦ ap (λ k. take k room) (omega arith) ∙ sym (take_all (limit - count) (take n room) (omega (arith, length-take n room)))
            | inr all ↦ ap (λ k. take k room) (omega arith) ∙ sym (take-take (limit - count) n room (omega arith))
          ]

      -- what is within the limit after the read
      within_limit : take limit (h.taken ++ piece) ≡ h.taken ++ take kept room
      within_limit =
          let whole : limit ≡ length h.taken + (limit - count) = omega (arith, h.counted) in
          ap (λ k. take k (h.taken ++ piece)) whole ∙ take-append-add h.taken piece (limit - count) ∙ ap (λ (bs : List ℕ). h.taken ++ bs) (sym kept_of_piece)

      pub read_on : (next : Session) (new : D) → next.server.journal.file ≡ session.server.journal.file → next.server.journal.limit ≡ session.server.journal.limit → GoesOn g (with_steps c all_answered.steps) session next h.taken (take kept room) mid new
          → HasRead g c s next limit (count + n) bytes new_left start new
      read_on next new file limit_too go = record {
        taken = h.taken ++ piece;
        rest = later.0;
        takes = now_taken;
        counted = length-append h.taken piece ∙ ap (λ k. k + length piece) h.counted ∙ ap (λ k. count + k) length_piece;
        answered = subst (λ (bs : List ℕ). HasAnswered g c s next bs start new) (sym within_limit) (answered_on session next h.taken (take kept room) mid new file limit_too all_answered go);
      }

      pub stopped_in_piece : IsWell reader s → (stop : Stop) (count_now : ℕ) (new : D) → count_now ≡ n → 0 < n
          → StopsWithin g (with_steps c all_answered.steps) stop session (whole_lines h.taken) (whole_lines (h.taken ++ take kept room)) mid new
          → EndsShort g c s session.server.journal.limit limit stop bytes new_left count_now start new
      stopped_in_piece well stop count_now new is more z =
          let taken : List ℕ = h.taken ++ piece in
          let long : length taken ≡ count + n = length-append h.taken piece ∙ ap (λ k. k + length piece) h.counted ∙ ap (λ k. count + k) length_piece in
          let earlier : h.taken ≡ before_piece taken count_now = sym (ap (λ k. take k taken) (omega (arith, long, h.counted)) ∙ take_at h.taken piece (length h.taken) refl) in
          let split : taken ≡ (h.taken ++ take kept room) ++ drop limit taken = sym (ap (λ (bs : List ℕ). bs ++ drop limit taken) (sym within_limit) ∙ take-append-drop limit taken) in
          let cut = stops_short g (with_steps c all_answered.steps) stop session (whole_lines h.taken) (h.taken ++ take kept room) (drop limit taken) taken mid new split z in
          let open_end : lines taken (has_ended later.0 count_now) ≡ whole_lines taken = ap (lines taken) (not_ended later.0 count_now (omega arith)) in
          short well stop session limit count_now bytes h.taken taken later.0 new_left mid new now_taken (omega (arith, long)) all_answered earlier
          (subst (λ (ls : List (List ℕ)). StopsWithin g (with_steps c all_answered.steps) stop session (whole_lines h.taken) ls mid new) (sym open_end) cut)
