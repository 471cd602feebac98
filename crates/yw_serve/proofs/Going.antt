-- How a session goes on, and where it stops.
use Rattle.std.proofs.Common.{◌≡◌, ◌≤◌, ◌<◌, ℕ, ◌+◌, List, [], ◌∷◌, ◌++◌, length, take, inl, inr, refl, sym, ap, ◌∙◌, subst, append_assoc, arith, length-append, length-take}
use Rattle.std.proofs.lemmas.List.{append-nil, take_all, take-append-le}
use Rattle.std.proofs.lemmas.Bool.{cases_lt}
use Rattle.yw_outside.specs.declared.image.Image.{Image}
use Rattle.yw_outside.specs.Moments.{IsSettled}
use Rattle.yw_outside.specs.Since.{LeavesOnly}
use Rattle.yw_journal.specs.Files.{Content}
use Rattle.yw_journal.specs.Journal.{IsCurrent}
use Rattle.yw_journal.specs.declared.journal.Journal.{Journal}
use Rattle.yw_lines.specs.Lines.{newline, HasNoNewline, whole_lines, last_part, last_line, all_lines}
use Rattle.yw_state.specs.State.{State}
use Rattle.yw_model.specs.Run.{Step, Answers, Run}
use Rattle.yw_lines.proofs.LinesLemmas.{whole_lines-append, whole_lines-newline, last_part-newline, whole_lines-part, last_part-part}
use Rattle.yw_model.proofs.Answering.{Answers-take}
use Rattle.yw_model.proofs.RunLemmas.{Run-one, Run-append}
use Rattle.yw_serve.specs.declared.server.Server.{Server}
use Rattle.yw_serve.specs.declared.session.Session.{Session}
use Rattle.yw_serve.specs.declared.server.Stop.{Stop}
use Rattle.yw_serve.specs.declared.server.Stop.TheVariants.{Memory}
use Rattle.yw_serve.specs.Kept.{most_kept, kept_of}
use Rattle.yw_serve.specs.Session.{server_state, state_of, with_steps, OfSteps, AreDone, AnswersOn, Why, StopsWithin, IsAtByte, GoesOn, EndsLine, CutsLine}
use Rattle.yw_serve.proofs.KeptLemmas.{kept_is, kept_over}
use Rattle.yw_serve.proofs.Written.{with_steps-none, with_steps-append}
use Rattle.yw_serve.proofs.Doing.{of_no_steps, nothing_done, done_both, leaves_nothing}
use Rattle.yw_outside.specs.declared.desk.Desk.{Ghosts}

-- to cut before more is added and to cut after it
take_cut : {A : Type 0} (k : ℕ) (xs ys : List A) → take k (take k xs ++ ys) ≡ take k (xs ++ ys)
take_cut k xs ys =
    elim (cases_lt (length xs) k) [
      | inl short ↦ ap (λ zs. take k (zs ++ ys)) (take_all k xs (omega arith))
      | inr long ↦
          let full : k ≤ length (take k xs) = omega (arith, length-take k xs) in
          take-append-le k (take k xs) ys full ∙ take_all k (take k xs) (omega (arith, length-take k xs)) ∙ sym (take-append-le k xs ys long)
    ]

-- what is kept of a line is answered as the line is
answered_as_kept : (s : State) (n : ℕ) (line : List ℕ) (step : Step) (t : State) → Answers s n (kept_of line) step t → Answers s n line step t
answered_as_kept s n line step t a = Answers-take s n line step t (subst (λ (k : ℕ). Answers s n (take k line) step t) kept_over a)

line_ends : (taken part : List ℕ) → HasNoNewline part → whole_lines (taken ++ (part ++ newline ∷ [])) ≡ whole_lines taken ++ (last_part taken ++ part) ∷ []
line_ends taken part none =
    ap whole_lines (sym (append_assoc taken part (newline ∷ []))) ∙ whole_lines-newline (taken ++ part)
    ∙ ap (λ (ls : List (List ℕ)). ls ++ last_part (taken ++ part) ∷ []) (whole_lines-part taken part none)
    ∙ ap (λ (l : List ℕ). whole_lines taken ++ l ∷ []) (last_part-part taken part none)

no_last_line : (k : ℕ) (ws : List (List ℕ)) (p : List ℕ) → 0 < k → take k p ≡ [] → ws ++ last_line p ≡ ws ++ []
no_last_line k ws [] some e = refl
no_last_line k ws (b ∷ bs) some e = absurd (omega (arith, ap length e, length-take k (b ∷ bs)))

one_last_line : (k : ℕ) (ws : List (List ℕ)) (p front : List ℕ) → front ≡ take k p → 0 < length front → ws ++ last_line p ≡ ws ++ p ∷ []
one_last_line k ws [] front e some = absurd (omega (arith, ap length e, length-take {A = ℕ} k []))
one_last_line k ws (b ∷ bs) front e some = refl

module _ {D : Type 0} (g : Ghosts D) where
  -- nothing is pending at a desk, and the journal's file has this content
  pub record IsReadyAt (c : Content) (journal : Journal) (d : D) : Type 0 where
    pub settled : IsSettled (g.state d) (g.may_leave d)
    pub said : (i : Image) → g.may_leave d i → i.said ≡ (g.state d).said
    pub only : (i : Image) → g.left_since d (g.moment d) i → g.may_leave d i
    pub current : IsCurrent journal c (g.state d)

  pub none_done : (c : Content) (journal : Journal) (d : D) → IsReadyAt c journal d → AreDone g c [] journal d d
  none_done c journal d r = nothing_done g d c journal r.settled r.said r.only r.current

  pub goes_nowhere : (c : Content) (session : Session) (taken : List ℕ) (d : D) → IsReadyAt c session.server.journal d → IsAtByte session taken → GoesOn g c session session taken [] d d
  goes_nowhere c session taken d r at = record {
    answers = record {
      lines = [];
      split = ap whole_lines (append-nil taken) ∙ sym (append-nil (whole_lines taken));
      steps = [];
      run = refl;
      are_done = none_done c session.server.journal d r;
    };
    at = at ∙ ap (λ (bs : List ℕ). kept_of (last_part bs)) (sym (append-nil taken));
    number = omega arith;
  }

  module _ (c : Content) (a b : Session) (taken p : List ℕ) (old mid new : D) (same : b.server.journal.file ≡ a.server.journal.file) (limit : b.server.journal.limit ≡ a.server.journal.limit)
      (first : GoesOn g c a b taken p old mid) where
    pub goes_further : (z : Session) (q : List ℕ) → z.server.journal.file ≡ b.server.journal.file → z.server.journal.limit ≡ b.server.journal.limit → GoesOn g (with_steps c first.answers.steps) b z (taken ++ p) q mid new
        → GoesOn g c a z taken (p ++ q) old new
    goes_further z q file limit_too next =
        let whole : taken ++ (p ++ q) ≡ (taken ++ p) ++ q = sym (append_assoc taken p q) in
        record {
          answers = record {
            lines = first.answers.lines ++ next.answers.lines;
            split = ap whole_lines whole ∙ next.answers.split ∙ ap (λ (ls : List (List ℕ)). ls ++ next.answers.lines) first.answers.split ∙ append_assoc (whole_lines taken) first.answers.lines next.answers.lines;
            steps = first.answers.steps ++ next.answers.steps;
            run = Run-append (state_of a) a.number first.answers.lines first.answers.steps (state_of b) next.answers.lines next.answers.steps (state_of z) first.answers.run
                (subst (λ (n : ℕ). Run (state_of b) n next.answers.lines next.answers.steps (state_of z)) first.number next.answers.run);
            are_done = done_both g c first.answers.steps next.answers.steps b.server.journal z.server.journal old mid new file limit_too first.answers.are_done next.answers.are_done;
          };
          at = next.at ∙ ap (λ (bs : List ℕ). kept_of (last_part bs)) (append_assoc taken p q);
          number = next.number ∙ ap (λ n. n + length next.answers.lines) first.number ∙ summed a.number first.answers.lines next.answers.lines;
        }
      where
        summed : (n : ℕ) (xs ys : List (List ℕ)) → n + length xs + length ys ≡ n + length (xs ++ ys)
        summed n xs ys = omega (arith, length-append xs ys)

    pub stops_further : (stop : Stop) (all : List (List ℕ)) → StopsWithin g (with_steps c first.answers.steps) stop b (whole_lines (taken ++ p)) all mid new
        → StopsWithin g c stop a (whole_lines taken) all old new
    stops_further stop all s =
        let steps = first.answers.steps in
        let place : b.number + length s.lines ≡ a.number + length (first.answers.lines ++ s.lines) = omega (arith, first.number, length-append first.answers.lines s.lines) in
        record {
          lines = first.answers.lines ++ s.lines;
          next = s.next;
          one = s.one;
          later = s.later;
          split = s.split ∙ ap (λ (ls : List (List ℕ)). ls ++ (s.lines ++ (s.next ++ s.later))) first.answers.split ∙ append_assoc (whole_lines taken) first.answers.lines (s.lines ++ (s.next ++ s.later))
              ∙ ap (λ (ls : List (List ℕ)). whole_lines taken ++ ls) (sym (append_assoc first.answers.lines s.lines (s.next ++ s.later)));
          steps = steps ++ s.steps;
          reached = s.reached;
          run = Run-append (state_of a) a.number first.answers.lines steps (state_of b) s.lines s.steps s.reached first.answers.run
              (subst (λ (n : ℕ). Run (state_of b) n s.lines s.steps s.reached) first.number s.run);
          mid = s.mid;
          journal = s.journal;
          are_done = done_both g c steps s.steps b.server.journal s.journal old mid s.mid s.file s.limit first.answers.are_done s.are_done;
          work = s.work;
          after = s.after;
          run_on = subst (λ (n : ℕ). Run s.reached n s.next s.work s.after) place s.run_on;
          moments = subst (λ (x : Content). LeavesOnly g s.mid new (OfSteps s.journal.file x s.work (g.state s.mid))) (with_steps-append c steps s.steps) s.moments;
          why = subst (λ (x : Content). Why g x stop s.journal s.work s.mid new) (with_steps-append c steps s.steps) s.why;
          limit = s.limit ∙ limit;
          file = s.file ∙ same;
        }

  -- where it stopped it has stopped short of the lines of more bytes too
  pub stops_short : (c : Content) (stop : Stop) (a : Session) (done : List (List ℕ)) (taken bytes all : List ℕ) (old new : D) → all ≡ taken ++ bytes
      → StopsWithin g c stop a done (whole_lines taken) old new → StopsWithin g c stop a done (whole_lines all) old new
  stops_short c stop a done taken bytes all old new e s =
      let extra = whole_lines (last_part taken ++ bytes) in
      record {
        lines = s.lines;
        next = s.next;
        one = s.one;
        later = s.later ++ extra;
        split = ap whole_lines e ∙ whole_lines-append taken bytes ∙ ap (λ (ls : List (List ℕ)). ls ++ extra) s.split ∙ append_assoc done (s.lines ++ (s.next ++ s.later)) extra
            ∙ ap (λ (ls : List (List ℕ)). done ++ ls) (append_assoc s.lines (s.next ++ s.later) extra ∙ ap (λ (ls : List (List ℕ)). s.lines ++ ls) (append_assoc s.next s.later extra));
        steps = s.steps;
        reached = s.reached;
        run = s.run;
        mid = s.mid;
        journal = s.journal;
        are_done = s.are_done;
        work = s.work;
        after = s.after;
        run_on = s.run_on;
        moments = s.moments;
        why = s.why;
        limit = s.limit;
        file = s.file;
      }

  -- no memory is left before anything was done for these lines
  pub stops_before : (c : Content) (a : Session) (done all more : List (List ℕ)) (d : D) → IsReadyAt c a.server.journal d → all ≡ done ++ more → StopsWithin g c Memory a done all d d
  stops_before c a done all more d r e = record {
    lines = [];
    next = [];
    one = omega arith;
    later = more;
    split = e;
    steps = [];
    reached = state_of a;
    run = refl;
    mid = d;
    journal = a.server.journal;
    are_done = none_done c a.server.journal d r;
    work = [];
    after = state_of a;
    run_on = refl;
    moments = leaves_nothing g d (OfSteps a.server.journal.file (with_steps c []) [] (g.state d)) r.settled r.said r.only
        (subst (λ (x : Content). OfSteps a.server.journal.file x [] (g.state d) (g.state d)) (sym (with_steps-none c)) (of_no_steps a.server.journal.file c [] (g.state d) (a.server.journal.end, r.current.holds)));
    why = refl;
    limit = refl;
    file = refl;
  }

  -- the same, of a stop that says so
  pub stops_nowhere : (c : Content) (stop : Stop) (a : Session) (done all more : List (List ℕ)) (old new : D) → IsReadyAt c a.server.journal old → all ≡ done ++ more → stop ≡ Memory → new ≡ old
      → StopsWithin g c stop a done all old new
  stops_nowhere c stop a done all more old new r e is same =
      subst (λ (x : Stop). StopsWithin g c x a done all old new) (sym is)
      (subst (λ (x : D). StopsWithin g c Memory a done all old x) (sym same) (stops_before c a done all more old r e))

  pub stops_at_line : (c : Content) (a : Session) (taken part : List ℕ) (d : D) → IsReadyAt c a.server.journal d → HasNoNewline part
      → StopsWithin g c Memory a (whole_lines taken) (whole_lines (taken ++ (part ++ newline ∷ []))) d d
  stops_at_line c a taken part d r none = stops_before c a (whole_lines taken) _ ((last_part taken ++ part) ∷ []) d r (line_ends taken part none)

  -- it stopped at the line that comes after the done ones
  stops_in : (c : Content) (stop : Stop) (a : Session) (done all : List (List ℕ)) (line : List ℕ) (old new : D) → IsReadyAt c a.server.journal old → all ≡ done ++ line ∷ []
      → (step : Step) (after : State) → Answers (state_of a) a.number line step after
      → LeavesOnly g old new (OfSteps a.server.journal.file c (step ∷ []) (g.state old)) → Why g c stop a.server.journal (step ∷ []) old new
      → StopsWithin g c stop a done all old new
  stops_in c stop a done all line old new r e step after answers moments why = record {
    lines = [];
    next = line ∷ [];
    one = omega arith;
    later = [];
    split = e;
    steps = [];
    reached = state_of a;
    run = refl;
    mid = old;
    journal = a.server.journal;
    are_done = none_done c a.server.journal old r;
    work = step ∷ [];
    after = after;
    run_on = subst (λ (n : ℕ). Run (state_of a) n (line ∷ []) (step ∷ []) after) (omega arith) (Run-one (state_of a) a.number line step after answers);
    moments = subst (λ (x : Content). LeavesOnly g old new (OfSteps a.server.journal.file x (step ∷ []) (g.state old))) (sym (with_steps-none c)) moments;
    why = subst (λ (x : Content). Why g x stop a.server.journal (step ∷ []) old new) (sym (with_steps-none c)) why;
    limit = refl;
    file = refl;
  }

  module _ (c : Content) (before : Session) (taken part : List ℕ) (at : IsAtByte before taken) (none_in : HasNoNewline part) where
    kept_so_far : (line : List ℕ) → line ≡ kept_of (before.line.items ++ part) → line ≡ kept_of (last_part taken ++ part)
    kept_so_far line kept = kept ∙ ap (λ (bs : List ℕ). kept_of (bs ++ part)) at ∙ take_cut most_kept (last_part taken) part

    -- the part ends no line
    pub goes_by_part : (now : Session) (d : D) → now.line.items ≡ kept_of (before.line.items ++ part) → now.server ≡ before.server → now.number ≡ before.number
        → IsReadyAt c now.server.journal d → GoesOn g c before now taken part d d
    goes_by_part now d kept same number r = record {
      answers = record {
        lines = [];
        split = whole_lines-part taken part none_in ∙ sym (append-nil (whole_lines taken));
        steps = [];
        run = ap server_state same;
        are_done = none_done c now.server.journal d r;
      };
      at = kept_so_far now.line.items kept ∙ ap kept_of (sym (last_part-part taken part none_in));
      number = number ∙ omega arith;
    }

    -- with a newline it does
    module _ (server : Server) (same : server ≡ before.server) (n : ℕ) (number : n ≡ before.number) (line : List ℕ) (kept : line ≡ kept_of (before.line.items ++ part)) (old new : D) where
      line_answered : (step : Step) (t : State) → Answers (server_state server) n line step t → Answers (state_of before) before.number (last_part taken ++ part) step t
      line_answered step t a = answered_as_kept (state_of before) before.number (last_part taken ++ part) step t
          (subst (λ (x : Server). Answers (server_state x) before.number (kept_of (last_part taken ++ part)) step t) same
          (subst (λ (k : ℕ). Answers (server_state server) k (kept_of (last_part taken ++ part)) step t) number
          (subst (λ (l : List ℕ). Answers (server_state server) n l step t) (kept_so_far line kept) a)))

      pub goes_by_line : (now : Session) → now.line.items ≡ [] → now.number ≡ n + 1 → EndsLine g c server now.server n line old new → GoesOn g c before now taken (part ++ newline ∷ []) old new
      goes_by_line now begun next e = record {
        answers = record {
          lines = (last_part taken ++ part) ∷ [];
          split = line_ends taken part none_in;
          steps = e.step ∷ [];
          run = Run-one (state_of before) before.number (last_part taken ++ part) e.step (state_of now) (line_answered e.step (state_of now) e.answers);
          are_done = e.are_done;
        };
        at = begun ∙ sym (ap kept_of (ap last_part (sym (append_assoc taken part (newline ∷ []))) ∙ last_part-newline (taken ++ part)) ∙ take_all most_kept [] (omega arith));
        number = next ∙ ap (λ n. n + 1) number;
      }

      pub stops_in_line : (stop : Stop) → IsReadyAt c before.server.journal old → CutsLine g c stop server n line old new
          → StopsWithin g c stop before (whole_lines taken) (whole_lines (taken ++ (part ++ newline ∷ []))) old new
      stops_in_line stop r (inl none) = stops_nowhere c stop before (whole_lines taken) _ ((last_part taken ++ part) ∷ []) old new r (line_ends taken part none_in) none.0 none.1
      stops_in_line stop r (inr e) = stops_in c stop before (whole_lines taken) _ (last_part taken ++ part) old new r (line_ends taken part none_in) e.step e.after (line_answered e.step e.after e.answers)
          (subst (λ (x : Server). LeavesOnly g old new (OfSteps x.journal.file c (e.step ∷ []) (g.state old))) same e.moments)
          (subst (λ (x : Server). Why g c stop x.journal (e.step ∷ []) old new) same e.why)

  module _ (c : Content) (before : Session) (taken : List ℕ) (at : IsAtByte before taken) (old : D) (r : IsReadyAt c before.server.journal old) where
    -- nothing follows the last newline
    pub ends_without_line : before.line.items ≡ [] → AnswersOn g c before (whole_lines taken) (all_lines taken) (state_of before) before.server.journal old old
    ends_without_line e = record {
      lines = [];
      split = no_last_line most_kept (whole_lines taken) (last_part taken) (omega (arith, kept_is)) (sym at ∙ e);
      steps = [];
      run = refl;
      are_done = none_done c before.server.journal old r;
    }

    module _ (line : List ℕ) (kept : line ≡ before.line.items) (some : 0 < length before.line.items) (new : D) where
      last_line_split : all_lines taken ≡ whole_lines taken ++ last_part taken ∷ []
      last_line_split = one_last_line most_kept (whole_lines taken) (last_part taken) before.line.items at some

      last_answered : (step : Step) (t : State) → Answers (state_of before) before.number line step t → Answers (state_of before) before.number (last_part taken) step t
      last_answered step t a = answered_as_kept (state_of before) before.number (last_part taken) step t (subst (λ (l : List ℕ). Answers (state_of before) before.number l step t) (kept ∙ at) a)

      pub ends_with_line : (now : Server) → EndsLine g c before.server now before.number line old new
          → AnswersOn g c before (whole_lines taken) (all_lines taken) (server_state now) now.journal old new
      ends_with_line now e = record {
        lines = last_part taken ∷ [];
        split = last_line_split;
        steps = e.step ∷ [];
        run = Run-one (state_of before) before.number (last_part taken) e.step (server_state now) (last_answered e.step (server_state now) e.answers);
        are_done = e.are_done;
      }

      pub stops_in_last : (stop : Stop) → CutsLine g c stop before.server before.number line old new → StopsWithin g c stop before (whole_lines taken) (all_lines taken) old new
      stops_in_last stop (inl none) = stops_nowhere c stop before (whole_lines taken) _ (last_part taken ∷ []) old new r last_line_split none.0 none.1
      stops_in_last stop (inr e) = stops_in c stop before (whole_lines taken) _ (last_part taken) old new r last_line_split e.step e.after (last_answered e.step e.after e.answers) e.moments e.why
