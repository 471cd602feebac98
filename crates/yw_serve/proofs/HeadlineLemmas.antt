-- The state that a run reaches is the one that the files hold.
use Rattle.std.proofs.Common.{◌≡◌, ◌⊎◌, ℕ, ◌+◌, ◌<◌, List, [], ◌∷◌, ◌++◌, length, map, Bool, true, false, Option, None, inl, inr, ⊎_elim, refl, sym, ap, ◌∙◌, subst, arith, append_assoc, take, drop, take-append-drop}
use Rattle.std.proofs.lemmas.List.{append-nil}
use Rattle.yw_outside.specs.Image.{SaysPart, Speaks, file_in, other_in}
use Rattle.yw_outside.specs.Moments.{After}
use Rattle.yw_outside.specs.Since.{LeavesOnly}
use Rattle.yw_outside.specs.declared.desk.File.{File}
use Rattle.yw_outside.specs.declared.desk.File.TheVariants.{A, B}
use Rattle.yw_outside.specs.declared.image.Image.{Image}
use Rattle.yw_outside.specs.Tells.{Tells}
use Rattle.yw_codec.specs.Entries.{framed}
use Rattle.yw_journal.specs.Files as files
use Rattle.yw_journal.specs.Files.{Content, HasContent, Holds, IsLesser, end_of, generation_of, header_damage, is_live}
use Rattle.yw_journal.specs.FileLaws.{content_end, content_generation, content_live, content_same}
use Rattle.yw_lines.specs.Lines as input
use Rattle.yw_model.specs.Run.{Answers, Step, Run, taken_by, said_by}
use Rattle.yw_state.specs.State.{State, opening}
use Rattle.yw_serve.specs.Damage.{HoldNow, meaning}
use Rattle.yw_serve.specs.Ends.{before_piece, has_ended, AllAnswered, SomeAnswered, EndsShort}
use Rattle.yw_serve.specs.Headline.{Serves, HasNoRoomFor, HoldsPrefix, IsReplying, IsTellingFull, LeavesFromSyncs}
use Rattle.yw_serve.specs.Notices.{full_line}
use Rattle.yw_serve.specs.Opening.{HoldsBegun, IsUnsynced, LeftAfterSyncs, OpensBy, begun}
use Rattle.yw_serve.specs.Served.{Ended, OpeningEnds, OpensInPart, RunEnds, RunsFrom}
use Rattle.yw_serve.specs.Session.{EachWritten, IsAtWork, IsBetween, IsIn, OfSteps, bytes_of, with_steps}
use Rattle.yw_serve.specs.declared.server.Stop.{Stop}
use Rattle.yw_serve.specs.declared.server.Stop.TheVariants as stops
use Rattle.yw_serve.specs.declared.top.Status.{Status}
use Rattle.yw_serve.specs.declared.top.Status.TheVariants.{Ok, Findings, Usage, Disk, Memory, Read, Write, Damaged, Full, InputLimit}
use Rattle.yw_journal.proofs.Images.{settled_is}
use Rattle.yw_journal.proofs.Passing.{and_then, weakened}
use Rattle.yw_lines.proofs.LinesLemmas.{whole_lines-append}
use Rattle.yw_model.proofs.RunLemmas.{Run-append}
use Rattle.yw_serve.proofs.Doing.{leaves_after}
use Rattle.yw_serve.proofs.Telling.{holds_same, same_other}
use Rattle.yw_serve.proofs.OpenLaws.{held_once, held_or_damaged}
use Rattle.yw_serve.proofs.Meant.{run_meant}
use Rattle.yw_serve.proofs.OpenRecords.{LeadsTo-append}
use Rattle.yw_outside.specs.declared.desk.Desk.{Ghosts}

-- A journal goes on in file A.

false_true : false ≡ true → ⊥
false_true e = cc

in_file_a : (f : File) (c : Content) (s : State) (i j : Image) (steps : List Step) → HoldNow c s i → IsIn f (with_steps c steps) j → other_in f j ≡ other_in f i → f ≡ A
in_file_a A c s i j steps h is other = refl
in_file_a B c s i j steps h is other = absurd (by_content h.hold.content)
  where
    lesser : IsLesser c.generation i.a
    lesser = subst (λ (l : List ℕ). IsLesser c.generation l) other is.1.other

    in_a : (end : ℕ) → Holds A c end i → ⊥
    in_a end holds =
        ⊎_elim
        (λ (none : is_live i.a ≡ false). false_true (sym none ∙ content_live i.a c end holds.file))
        (λ (less : (header_damage i.a ≡ None) × (generation_of i.a < c.generation)). omega (arith, less.1, content_generation i.a c end holds.file))
        lesser

    by_file : (f : File) (end : ℕ) → Holds f c end i → ⊥
    by_file A end holds = in_a end holds
    by_file B end holds = false_true (sym h.alone ∙ content_live i.b c end holds.file)

    by_content : HasContent c i → ⊥
    by_content (inl none) = let made = is.1.file.1 in omega (arith, made.generation_some, ap (λ (d : Content). d.generation) none.1)
    by_content (inr held) = by_file held.0 held.1 held.2

-- Where the files held a state and hold the entries of a run from it, they hold the state that it reaches.
pub held_after : (f : File) (c : Content) (s : State) (i : Image) (n : ℕ) (all : List (List ℕ)) (steps : List Step) (t : State) (j : Image)
    → HoldNow c s i → Run s n all steps t → EachWritten (taken_by steps) → IsIn f (with_steps c steps) j → other_in f j ≡ other_in f i → HoldNow (with_steps c steps) t j
held_after f c s i n all steps t j h run written is other = record {
  hold = record {
    content = inr (f, is.0, is.1);
    state = (h.hold.state.0, h.hold.state.1, LeadsTo-append meaning h.hold.state.0 c.records s (map bytes_of (taken_by steps)) t h.hold.state.2 (run_meant s n all steps t written run));
  };
  alone = ap is_live (subst (λ (g : File). other_in g j ≡ other_in g i) (in_file_a f c s i j steps h is other) other) ∙ h.alone;
}

module _ {D : Type 0} (g : Ghosts D) where
  -- a run that ended with Ok serves all lines
  served_from : (old new : D) (full_at limit : ℕ) (bytes : List ℕ) (left : Option (List ℕ)) (piece : ℕ)
      → RunsFrom g (λ c s opened. RunEnds g Ok c s full_at limit bytes left piece opened new) old → Serves g (input.lines bytes true) old new
  served_from old new full_at limit bytes left piece from =
      let a = from.ends.answered in
      let d = a.are_done in record {
        s = from.s;
        before = from.before;
        held = from.held;
        steps = a.steps;
        reached = a.reached;
        run = a.run;
        now = with_steps from.c a.steps;
        holds = held_after a.journal.file from.c from.s (g.state from.opened) 1 (input.lines bytes true) a.steps a.reached (g.state new) from.holds a.run d.written (a.journal.end, d.file.holds) d.other;
        settled = d.settled;
        said = d.said ∙ ap (λ (bs : List ℕ). bs ++ said_by a.steps) from.said;
      }

  pub served : (status : Status) (old new : D) (full_at limit : ℕ) (bytes : List ℕ) (left : Option (List ℕ)) (piece : ℕ) (Unread : Type 0) → status ≡ Ok
      → Ended g status full_at limit bytes left piece Unread old new → Serves g (input.lines bytes true) old new
  served Ok old new full_at limit bytes left piece Unread e ends = ⊎_elim (λ none. absurd none.0) (served_from old new full_at limit bytes left piece) ends
  served Findings old new full_at limit bytes left piece Unread e ends = cc
  served Usage old new full_at limit bytes left piece Unread e ends = cc
  served Disk old new full_at limit bytes left piece Unread e ends = cc
  served Memory old new full_at limit bytes left piece Unread e ends = cc
  served Read old new full_at limit bytes left piece Unread e ends = cc
  served Write old new full_at limit bytes left piece Unread e ends = cc
  served Damaged old new full_at limit bytes left piece Unread e ends = cc
  served Full old new full_at limit bytes left piece Unread e ends = cc
  served InputLimit old new full_at limit bytes left piece Unread e ends = cc

-- What a crash leaves of a run.

-- a run of the first steps over a prefix of the lines
record RunPrefix (s : State) (n : ℕ) (all : List (List ℕ)) (first : List Step) : Type 0 where
  prefix : List (List ℕ)
  more : List (List ℕ)
  split : all ≡ prefix ++ more
  mid : State
  run : Run s n prefix first mid

run_prefix : (s : State) (n : ℕ) (all : List (List ℕ)) (first rest : List Step) (t : State) → Run s n all (first ++ rest) t → RunPrefix s n all first
run_prefix s n all [] rest t r = record { prefix = []; more = all; split = refl; mid = s; run = refl }
run_prefix s n [] (step ∷ first) rest t r = absurd r
run_prefix s n (line ∷ all) (step ∷ first) rest t r =
    let f = run_prefix r.0 (n + 1) all first rest t r.2 in
    record { prefix = line ∷ f.prefix; more = f.more; split = ap (λ (ls : List (List ℕ)). line ∷ ls) f.split; mid = f.mid; run = (r.0, r.1, f.run) }

-- the first of some lines is the first of more
no_room_of_more : (limit : ℕ) (c : Content) (s : State) (n : ℕ) (some more : List (List ℕ)) (end : ℕ) → HasNoRoomFor limit c s n some end → HasNoRoomFor limit c s n (some ++ more) end
no_room_of_more limit c s n some more end r = record {
  line = r.line;
  later = r.later ++ more;
  first = ap (λ (ls : List (List ℕ)). ls ++ more) r.first;
  step = r.step;
  after = r.after;
  answers = r.answers;
  entry = r.entry;
  taken = r.taken;
  ends = r.ends;
  past = r.past;
}

told_of_more : (limit : ℕ) (c : Content) (s : State) (n : ℕ) (some more : List (List ℕ)) (steps : List Step) (old now : List ℕ)
    → (now ≡ old ++ said_by steps) ⊎ IsReplying steps old now ⊎ IsTellingFull limit c s n some steps old now
    → (now ≡ old ++ said_by steps) ⊎ IsReplying steps old now ⊎ IsTellingFull limit c s n (some ++ more) steps old now
told_of_more limit c s n some more steps old now (inl said) = inl said
told_of_more limit c s n some more steps old now (inr (inl replying)) = inr (inl replying)
told_of_more limit c s n some more steps old now (inr (inr full)) =
    inr (inr (record { end = full.end; no_room = no_room_of_more limit c s n some more full.end full.no_room; part = full.part }))

-- the line of a run's first step
record FirstLine (s : State) (n : ℕ) (lines : List (List ℕ)) (step : Step) : Type 0 where
  line : List ℕ
  later : List (List ℕ)
  first : lines ≡ line ∷ later
  after : State
  answers : Answers s n line step after

first_line : (s : State) (n : ℕ) (lines : List (List ℕ)) (step : Step) (more : List Step) (t : State) → Run s n lines (step ∷ more) t → FirstLine s n lines step
first_line s n [] step more t r = absurd r
first_line s n (line ∷ lines) step more t r = record { line = line; later = lines; first = refl; after = r.0; answers = r.1 }

-- a prefix of a prefix of the lines
prefix_of_more : (limit : ℕ) (s : State) (all some more : List (List ℕ)) (old : List ℕ) (k : Image) → all ≡ some ++ more → HoldsPrefix limit s some old k → HoldsPrefix limit s all old k
prefix_of_more limit s all some more old k e h = record {
  lines = h.lines;
  more = h.more ++ more;
  split = e ∙ ap (λ (ls : List (List ℕ)). ls ++ more) h.split ∙ append_assoc h.lines h.more more;
  steps = h.steps;
  reached = h.reached;
  run = h.run;
  now = h.now;
  holds = h.holds;
  told = told_of_more limit h.now h.reached (1 + length h.lines) h.more more h.steps old k.said h.told;
}

-- what a crash leaves of the steps of a run holds a prefix of its lines
prefix_held : (limit : ℕ) (f : File) (c : Content) (s : State) (i : Image) (all : List (List ℕ)) (steps : List Step) (t : State) (k : Image)
    → HoldNow c s i → Run s 1 all steps t → OfSteps f c steps i k → HoldsPrefix limit s all i.said k
prefix_held limit f c s i all steps t k h run o = ⊎_elim between at_work o.here
  where
    between : IsBetween f c o.done i k → HoldsPrefix limit s all i.said k
    between b =
        let r = run_prefix s 1 all o.done o.rest t (subst (λ (l : List Step). Run s 1 all l t) o.split run) in record {
          lines = r.prefix;
          more = r.more;
          split = r.split;
          steps = o.done;
          reached = r.mid;
          run = r.run;
          now = with_steps c o.done;
          holds = held_after f c s i 1 r.prefix o.done r.mid k h r.run b.written b.file o.other;
          told = inl b.said;
        }

    at_work : IsAtWork f c o.done o.rest i k → HoldsPrefix limit s all i.said k
    at_work w =
        let first = o.done ++ w.step ∷ [] in
        let split : steps ≡ first ++ w.later = o.split ∙ ap (λ (l : List Step). o.done ++ l) w.first ∙ sym (append_assoc o.done (w.step ∷ []) w.later) in
        let r = run_prefix s 1 all first w.later t (subst (λ (l : List Step). Run s 1 all l t) split run) in record {
          lines = r.prefix;
          more = r.more;
          split = r.split;
          steps = first;
          reached = r.mid;
          run = r.run;
          now = with_steps c first;
          holds = held_after f c s i 1 r.prefix first r.mid k h r.run w.written w.file o.other;
          told = inr (inl (record { done = o.done; step = w.step; split = refl; part = w.said }));
        }

-- the lines of a prefix of the bytes are a prefix of all lines
lines_of_prefix : (bytes taken rest : List ℕ) (ended : Bool) → bytes ≡ taken ++ rest → (ended ≡ true → rest ≡ []) → (more : List (List ℕ)) × (input.lines bytes true ≡ input.lines taken ended ++ more)
lines_of_prefix bytes taken rest true e none =
    ([], ap input.all_lines (e ∙ ap (λ (l : List ℕ). taken ++ l) (none refl) ∙ append-nil taken) ∙ sym (append-nil (input.all_lines taken)))
lines_of_prefix bytes taken rest false e none =
    let last = input.last_line (input.last_part bytes) in
    let later = input.whole_lines (input.last_part taken ++ rest) in
    (later ++ last, ap (λ (ls : List (List ℕ)). ls ++ last) (ap input.whole_lines e ∙ whole_lines-append taken rest) ∙ append_assoc (input.whole_lines taken) later last)

ended_none : (rest : List ℕ) (piece : ℕ) → has_ended rest piece ≡ true → rest ≡ []
ended_none [] piece e = refl
ended_none (b ∷ bs) piece e = cc

not_ended : (rest : List ℕ) → false ≡ true → rest ≡ []
not_ended rest e = absurd (false_true e)

module _ {D : Type 0} (g : Ghosts D) (said_by_now : (d : D) (k : Image) → g.may_leave d k → k.said ≡ (g.state d).said) where
  module _ (c : Content) (s : State) (opened : D) (h : HoldNow c s (g.state opened)) (bytes : List ℕ) (full_at : ℕ) where
    abbrev Prefix : Image → Type 0
    Prefix = HoldsPrefix full_at s (input.lines bytes true) (g.state opened).said

    -- where lines of a prefix of the bytes are answered
    all_left : (some more : List (List ℕ)) (new : D) → input.lines bytes true ≡ some ++ more → AllAnswered g c s full_at some opened new → LeavesOnly g opened new Prefix
    all_left some more new e a =
        weakened g opened new (OfSteps a.journal.file c a.steps (g.state opened)) Prefix a.are_done.moments
        (λ k o. prefix_of_more full_at s (input.lines bytes true) some more (g.state opened).said k e (prefix_held full_at a.journal.file c s (g.state opened) some a.steps a.reached k h a.run o))

    -- where some of them are
    some_left : (stop : Stop) (sure some more : List (List ℕ)) (new : D) → input.lines bytes true ≡ some ++ more → SomeAnswered g c s full_at stop sure some opened new
        → LeavesOnly g opened new Prefix
    some_left stop sure some more new e a =
        let steps = a.steps ++ a.work in
        let known = (sure ++ a.extra) ++ a.next in
        let run : Run s 1 known steps a.after = Run-append s 1 (sure ++ a.extra) a.steps a.reached a.next a.work a.after a.run a.run_on in
        let split : input.lines bytes true ≡ known ++ (a.later ++ more) =
        e ∙ ap (λ (ls : List (List ℕ)). ls ++ more) (a.split ∙ sym (append_assoc (sure ++ a.extra) a.next a.later)) ∙ append_assoc known a.later more in
        weakened g opened new (OfSteps a.journal.file c steps (g.state opened)) Prefix (leaves_after g c a.steps a.work a.journal opened a.mid new a.are_done a.moments)
        (λ k o. prefix_of_more full_at s (input.lines bytes true) known (a.later ++ more) (g.state opened).said k split (prefix_held full_at a.journal.file c s (g.state opened) known steps a.after k h run o))

    module _ (limit : ℕ) (left : Option (List ℕ)) (piece : ℕ) where
      short_left : (stop : Stop) (new : D) → EndsShort g c s full_at limit stop bytes left piece opened new → LeavesOnly g opened new Prefix
      short_left stop new z =
          let f = lines_of_prefix bytes z.taken z.rest (has_ended z.rest piece) z.takes.split (ended_none z.rest piece) in
          some_left stop (input.whole_lines (before_piece z.taken piece)) (input.lines z.taken (has_ended z.rest piece)) f.0 new f.1 z.answered

      -- the line at work had no room
      no_room_for : (n : ℕ) (mid : D) (z : EndsShort g c s full_at limit (stops.Full n) bytes left piece opened mid)
          → let a = z.answered in HasNoRoomFor full_at (with_steps c a.steps) a.reached (1 + length (input.whole_lines (before_piece z.taken piece) ++ a.extra)) (a.next ++ a.later) n
      no_room_for n mid z =
          let a = z.answered in
          let count = 1 + length (input.whole_lines (before_piece z.taken piece) ++ a.extra) in
          let entry = a.why.1 in
          let step = a.why.2 in
          let at_work = first_line a.reached count a.next step a.why.3 a.after (subst (λ (work : List Step). Run a.reached count a.next work a.after) a.why.4 a.run_on) in
          let end : a.journal.end ≡ end_of (with_steps c a.steps) = content_end (file_in a.journal.file (g.state a.mid)) (with_steps c a.steps) a.journal.end a.are_done.file.holds.file in
          record {
            line = at_work.line;
            later = at_work.later ++ a.later;
            first = ap (λ (ls : List (List ℕ)). ls ++ a.later) at_work.first;
            step = step;
            after = at_work.after;
            answers = at_work.answers;
            entry = entry;
            taken = a.why.5;
            ends = a.why.6 ∙ ap (λ (m : ℕ). m + length (framed entry.events)) end;
            past = subst (λ (m : ℕ). m < n) a.limited a.why.7;
          }

      -- while it is said where the next entry would end, the answered lines are held
      notice_left : (n : ℕ) (mid : D) (k : Image) → EndsShort g c s full_at limit (stops.Full n) bytes left piece opened mid → After (Speaks (full_line n)) (g.may_leave mid) k → Prefix k
      notice_left n mid k z after_notice =
          let a = z.answered in
          let f = lines_of_prefix bytes z.taken z.rest (has_ended z.rest piece) z.takes.split (ended_none z.rest piece) in
          let d = after_notice.0 in
          let here : d ≡ g.state a.mid = settled_is (g.state a.mid) (g.may_leave a.mid) a.are_done.settled (said_by_now a.mid) d (subst (λ (x : D). g.may_leave x d) a.why.0 after_notice.1) in
          let speaks : Speaks (full_line n) (g.state a.mid) k = subst (λ (x : Image). Speaks (full_line n) x k) here after_notice.2 in
          let file = a.journal.file in
          let answered = input.whole_lines (before_piece z.taken piece) ++ a.extra in
          prefix_of_more full_at s (input.lines bytes true) (input.lines z.taken (has_ended z.rest piece)) f.0 (g.state opened).said k f.1 (record {
            lines = answered;
            more = a.next ++ a.later;
            split = a.split;
            steps = a.steps;
            reached = a.reached;
            run = a.run;
            now = with_steps c a.steps;
            holds = held_after file c s (g.state opened) 1 answered a.steps a.reached k h a.run a.are_done.written
                (a.journal.end, holds_same file (with_steps c a.steps) a.journal.end (g.state a.mid) k speaks.a speaks.b a.are_done.file.holds) (same_other file (g.state a.mid) k speaks.a speaks.b ∙ a.are_done.other);
            told = inr (inr (record {
              end = n;
              no_room = no_room_for n mid z;
              part = subst (λ (bs : List ℕ). SaysPart bs (full_line n) k.said) a.are_done.said speaks.said;
            }));
          })

      told_left : (n : ℕ) (mid new : D) → EndsShort g c s full_at limit (stops.Full n) bytes left piece opened mid → Tells g (full_line n) mid new
          → LeavesOnly g opened new Prefix
      told_left n mid new z told =
          and_then g opened mid new Prefix (After (Speaks (full_line n)) (g.may_leave mid)) (short_left (stops.Full n) mid z) told.moments (λ k a. notice_left n mid k z a)

      run_left : (status : Status) (new : D) → RunEnds g status c s full_at limit bytes left piece opened new → LeavesOnly g opened new Prefix
      run_left Ok new e = all_left (input.lines bytes true) [] new (sym (append-nil (input.lines bytes true))) e.answered
      run_left Read new e = let f = lines_of_prefix bytes e.taken e.rest false e.takes.split (not_ended e.rest) in all_left (input.lines e.taken false) f.0 new f.1 e.answered
      run_left InputLimit new e =
          let f = lines_of_prefix bytes (take limit bytes) (drop limit bytes) false (sym (take-append-drop limit bytes)) (not_ended (drop limit bytes)) in
          all_left (input.lines (take limit bytes) false) f.0 new f.1 e.answered
      run_left Disk new e = short_left stops.Disk new e
      run_left Memory new (inl z) = short_left stops.Memory new z
      run_left Memory new (inr z) = subst (λ (x : D). LeavesOnly g opened x Prefix) (sym z.said) (short_left (stops.Full z.length) z.mid z.short)
      run_left Write new (inl z) = short_left stops.Write new z
      run_left Write new (inr z) = told_left z.length z.mid new z.short z.said
      run_left Full new e = told_left e.length e.mid new e.short e.said.tells
      run_left Findings new e = absurd e
      run_left Usage new e = absurd e
      run_left Damaged new e = absurd e

  module _ (c : Content) (s : State) (old : D) (h : HoldNow c s (g.state old)) (bytes : List ℕ) (full_at : ℕ) where
    abbrev FromOld : Image → Type 0
    FromOld = HoldsPrefix full_at s (input.lines bytes true) (g.state old).said

    -- after the syncs the files hold that state, as they are or as file A is begun
    begun_state : (k : Image) → HoldsBegun (g.state old) k → (d : Content) × HoldNow d s k
    begun_state k b = by_begun b.holds
      where
        same : opening ≡ s
        same = held_once (g.state old) files.opening c opening s
            (record { hold = record { content = inl (b.none, refl); state = (opening, refl, refl) }; alone = b.none.b }) h

        by_begun : HoldNow files.opening opening k ⊎ HoldNow begun opening k → (d : Content) × HoldNow d s k
        by_begun (inl none) = (files.opening, subst (λ (t : State). HoldNow files.opening t k) same none)
        by_begun (inr held) = (begun, subst (λ (t : State). HoldNow begun t k) same held)

    held_state : (k : Image) → ((k.a ≡ (g.state old).a) × (k.b ≡ (g.state old).b)) ⊎ HoldsBegun (g.state old) k → (d : Content) × HoldNow d s k
    held_state k (inl same) = (
      c,
      record {
        hold = record { content = content_same c k (g.state old) same.0 same.1 h.hold.content; state = h.hold.state };
        alone = ap is_live same.1 ∙ h.alone;
      },
    )
    held_state k (inr b) = begun_state k b

    still_held : (k : Image) → LeftAfterSyncs (g.state old) k → FromOld k
    still_held k l =
        let held = held_state k l.files in record {
          lines = [];
          more = input.lines bytes true;
          split = refl;
          steps = [];
          reached = s;
          run = refl;
          now = held.0;
          holds = held.1;
          told = inl (l.said ∙ sym (append-nil (g.state old).said));
        }

    part_left : (status : Status) (new : D) → (status ≡ Disk) ⊎ (status ≡ Memory) → OpensInPart g old new → LeavesFromSyncs g status FromOld old new
    part_left status new cause e = by_opening e.opening
      where
        by_opening : OpensBy g old new ⊎ IsUnsynced g old new → LeavesFromSyncs g status FromOld old new
        by_opening (inl o) = inl (record {
          synced = o.synced;
          same = o.same;
          settled = o.settled;
          before = o.before;
          after = weakened g o.synced new (LeftAfterSyncs (g.state old)) FromOld o.after still_held;
        })
        by_opening (inr unsynced) = inr (unsynced, cause)

    opening_left : (status : Status) (new : D) → OpeningEnds g status old new → LeavesFromSyncs g status FromOld old new
    opening_left Disk new e = part_left Disk new (inl refl) e
    opening_left Memory new (inl e) = part_left Memory new (inr refl) e
    opening_left Memory new (inr e) = absurd (held_or_damaged (g.state old) c s e.file e.place h e.damaged)
    opening_left Write new e = absurd (held_or_damaged (g.state old) c s e.file e.place h e.damaged)
    opening_left Damaged new e = absurd (held_or_damaged (g.state old) c s e.file e.place h e.damaged)
    opening_left Ok new e = absurd e
    opening_left Findings new e = absurd e
    opening_left Usage new e = absurd e
    opening_left Read new e = absurd e
    opening_left Full new e = absurd e
    opening_left InputLimit new e = absurd e

    -- a crash leaves a prefix of the lines from the syncs on
    pub crash_left : (status : Status) (new : D) (limit : ℕ) (left : Option (List ℕ)) (piece : ℕ) (Unread : Type 0)
        → Ended g status full_at limit bytes left piece Unread old new → LeavesFromSyncs g status FromOld old new
    crash_left status new limit left piece Unread (inl e) = opening_left status new e.0
    crash_left status new limit left piece Unread (inr from) =
        let all = input.lines bytes true in
        let o = from.opening in
        let same : s ≡ from.s = held_once (g.state old) c from.before s from.s h from.held in
        inl (record {
          synced = o.synced;
          same = o.same;
          settled = o.settled;
          before = o.before;
          after = and_then g o.synced from.opened new FromOld (HoldsPrefix full_at from.s all (g.state from.opened).said)
              (weakened g o.synced from.opened (LeftAfterSyncs (g.state old)) FromOld o.after still_held)
              (run_left from.c from.s from.opened from.holds bytes full_at limit left piece status new from.ends)
              (λ k prefix. subst (λ (t : State). HoldsPrefix full_at t all (g.state old).said k) (sym same) (subst (λ (bs : List ℕ). HoldsPrefix full_at from.s all bs k) from.said prefix));
        })
