-- How a bench begins, goes on and ends.
use Rattle.std.proofs.Common.{◌≡◌, ◌⊎◌, ◌+◌, ◌*◌, ◌≤◌, ◌^◌, ℕ, List, [], ◌∷◌, ◌++◌, IsTrue, true, false, Result, Ok, Err, inl, inr, ⊎_elim}
use Rattle.std.proofs.Common.{refl, sym, ap, ◌∙◌, subst, arith, append_assoc, length-append, add-one}
use Rattle.std.specs.Prelude.{IfOk, MatchResult}
use Rattle.yw_journal.specs.FileLaws.{content_end, content_live}
use Rattle.yw_journal.specs.Files as files
use Rattle.yw_journal.specs.Files.{Content, FileHas, is_live}
use Rattle.yw_journal.specs.Journal.{IsCurrent}
use Rattle.yw_model.proofs.RunLemmas.{Run-append, Run-one}
use Rattle.yw_model.specs.Run.{Run, said_by}
use Rattle.yw_outside.specs.Causes.{Rose}
use Rattle.yw_outside.specs.Image.{file_in}
use Rattle.yw_outside.specs.declared.desk.File.{File}
use Rattle.yw_outside.specs.declared.desk.File.TheVariants.{A}
use Rattle.yw_outside.specs.declared.image.Image.{Image}
use Rattle.yw_state.specs.State.{State, opening}
use Rattle.yw_serve.proofs.Counting.{summary_more}
use Rattle.yw_serve.proofs.Doing.{done_both, nothing_done}
use Rattle.yw_serve.proofs.HeadlineLemmas.{held_after}
use Rattle.yw_serve.proofs.OpenLaws.{held_once}
use Rattle.yw_serve.specs.Bench.{amount_of, bench_lines, case_lines, next_seed, seed_after}
use Rattle.yw_serve.specs.Counted.{Begins, Benches, CanTake, HasTaken, IsEmpty, IsOfBench, IsSummary, SaysSummary}
use Rattle.yw_serve.specs.Damage.{HoldNow}
use Rattle.yw_serve.specs.Desks.{Stands, longest_entry}
use Rattle.yw_serve.specs.Faults.{NoticeFaults}
use Rattle.yw_serve.specs.Opening.{IsOpened, begun}
use Rattle.yw_serve.specs.Plans.{DoesLine}
use Rattle.yw_serve.specs.Served.{IsTold}
use Rattle.yw_serve.specs.Session.{server_state, with_steps}
use Rattle.yw_serve.specs.Summary.{IsWithin, summary_line, summary_of, with_plan}
use Rattle.yw_serve.specs.declared.counted.Counted.{Counted}
use Rattle.yw_serve.specs.declared.plan.Plan.{Plan}
use Rattle.yw_serve.specs.declared.server.Server.{Server}
use Rattle.yw_serve.specs.declared.summary.Summary.{Summary}
use Rattle.yw_serve.specs.declared.top.Status.{Status}
use Rattle.yw_serve.specs.declared.top.Status.TheVariants as statuses
use Rattle.yw_outside.specs.declared.desk.Desk.{Ghosts}

-- ---- empty files

false_true : false ≡ true → ⊥
false_true e = cc

pub empty_holds : (i : Image) → IsEmpty i → HoldNow files.opening opening i
empty_holds i e = record {
  hold = record { content = inl (record { a = ap is_live e.a; b = ap is_live e.b }, refl); state = (opening, refl, refl) };
  alone = ap is_live e.b;
}

-- what is opened of them is the opening state, in file A just begun
pub record IsOpenedAnew (server : Server) (j : Image) : Type 0 where
  pub state : server_state server ≡ opening
  pub current : IsCurrent server.journal begun j
  pub holds : HoldNow begun opening j
  pub end : server.journal.end ≡ 30

pub opened_anew : (server : Server) (i j : Image) → IsEmpty i → server.journal.file ≡ A → IsOpened server i j → IsOpenedAnew server j
opened_anew server i j empty file o = record {
  state = state;
  current = current;
  holds = subst (λ (c : Content). HoldNow c opening j) now (subst (λ (s : State). HoldNow o.now s j) state o.holds);
  end = content_end (file_in server.journal.file j) begun server.journal.end current.holds.file;
}
  where
    state : server_state server ≡ opening
    state = held_once i o.before files.opening (server_state server) opening o.held (empty_holds i empty)

    live : is_live j.a ≡ true
    live = content_live j.a o.now server.journal.end (subst (λ (f : File). FileHas (file_in f j) o.now server.journal.end) file o.current.holds.file)

    now : o.now ≡ begun
    now = ⊎_elim
        (λ (goes_on : (o.now ≡ o.before) × (j.a ≡ i.a)). absurd (false_true (sym (ap is_live (goes_on.1 ∙ empty.a)) ∙ live)))
        (λ (begins : (o.before ≡ files.opening) × (o.now ≡ begun)). begins.1)
        o.content

    current : IsCurrent server.journal begun j
    current = subst (λ (c : Content). IsCurrent server.journal c j) now o.current

-- ---- the lines

-- one step further in the row, and one case further
pub seed_more : (start k : ℕ) → seed_after start (k + 1) ≡ next_seed (seed_after start k)
seed_more start k = ap (seed_after start) (add-one k)

pub lines_more : (start k : ℕ) → bench_lines start k ++ case_lines (3 * k + 1) (amount_of (seed_after start (k + 1))) ≡ bench_lines start (k + 1)
lines_more start k =
    ap (λ (n : ℕ). bench_lines start k ++ case_lines (3 * k + 1) (amount_of (seed_after start n))) (add-one k) ∙ ap (bench_lines start) (sym (add-one k))

pub four_lines : (xs : List (List ℕ)) (a b c d : List ℕ) → (((xs ++ a ∷ []) ++ b ∷ []) ++ c ∷ []) ++ d ∷ [] ≡ xs ++ a ∷ b ∷ c ∷ d ∷ []
four_lines xs a b c d = simp append_assoc

module _ {D : Type 0} (g : Ghosts D) where
  pub begins : (counted : Counted) (old new : D) → IsOpenedAnew counted.server (g.state new) → (g.state new).said ≡ (g.state old).said → IsTrue (g.tells new)
      → Stands g counted.server.journal new → counted.server.journal.limit ≡ 2 ^ 62 → counted.number ≡ 1 → counted.summary ≡ summary_of []
      → ((i : Image) → g.may_leave new i → i.said ≡ (g.state new).said) → ((i : Image) → g.left_since new (g.moment new) i → g.may_leave new i)
      → Begins g counted old new
  begins counted old new o said tells stands limited first summary by_now only = record {
    taken = record {
      steps = [];
      run = o.state;
      are_done = nothing_done g new begun counted.server.journal (stands.settled tells) by_now only o.current;
      number = first;
      summary = summary;
    };
    holds = o.holds;
    said = said;
    can = record {
      tells = tells;
      stands = stands;
      within = subst (IsWithin (4097 * counted.number)) (sym summary) none_counted;
      end = omega (arith, o.end, first);
      limited = limited;
    };
    first = first;
  }
    where
      none_counted : IsWithin (4097 * counted.number) (summary_of [])
      none_counted = record { accepted = omega arith; ended = omega arith; events = omega arith; high = omega arith; refused = omega arith }

  -- with a line more
  pub taken_line : (before now : Counted) (plan : Plan) (lines : List (List ℕ)) (line : List ℕ) (begin old new : D) → (h : HasTaken g before lines begin old)
      → DoesLine g (with_steps begun h.steps) plan before.server now.server before.number line old new → now.number ≡ before.number + 1
      → now.summary ≡ with_plan before.summary plan → now.server.journal.file ≡ before.server.journal.file
      → now.server.journal.limit ≡ before.server.journal.limit → HasTaken g now (lines ++ line ∷ []) begin new
  taken_line before now plan lines line begin old new h d next counts file limit =
      let s = server_state before.server in
      let t = server_state now.server in
      let step = d.ends.step in
      record {
        steps = h.steps ++ step ∷ [];
        run = Run-append opening 1 lines h.steps s (line ∷ []) (step ∷ []) t h.run
            (subst (λ (n : ℕ). Run s n (line ∷ []) (step ∷ []) t) h.number (Run-one s before.number line step t d.ends.answers));
        are_done = done_both g begun h.steps (step ∷ []) before.server.journal now.server.journal begin old new file limit h.are_done d.ends.are_done;
        number = omega (arith, next, h.number, length-append lines (line ∷ []));
        summary = counts ∙ ap (λ (m : Summary). with_plan m plan) h.summary ∙ summary_more h.steps plan d.buffer step d.does;
      }

  pub can_more : (before now : Counted) (old new : D) → CanTake g before old → IsTrue (g.tells new) → Stands g now.server.journal new
      → now.number ≡ before.number + 1 → IsWithin (4097 * before.number + 4097) now.summary → now.server.journal.end ≤ before.server.journal.end + longest_entry
      → now.server.journal.limit ≡ before.server.journal.limit → CanTake g now new
  can_more before now old new can tells stands next within grows limit = record {
    tells = tells;
    stands = stands;
    within = record {
      accepted = omega (arith, within.accepted, next);
      ended = omega (arith, within.ended, next);
      events = omega (arith, within.events, next);
      high = omega (arith, within.high, next);
      refused = omega (arith, within.refused, next);
    };
    end = omega (arith, can.end, grows, next);
    limited = limit ∙ can.limited;
  }

  -- ---- its end

  pub benches : (first counted : Counted) (start count : ℕ) (old begin new : D) → Begins g first old begin → HasTaken g counted (bench_lines start count) begin new
      → Benches g start count counted.summary old new
  benches first counted start count old begin new b h = record {
    steps = h.steps;
    reached = server_state counted.server;
    run = h.run;
    holds = held_after counted.server.journal.file begun opening (g.state begin) 1 (bench_lines start count) h.steps (server_state counted.server) (g.state new) b.holds h.run
        h.are_done.written (counted.server.journal.end, h.are_done.file.holds) h.are_done.other;
    settled = h.are_done.settled;
    said = h.are_done.said ∙ ap (λ (bs : List ℕ). bs ++ said_by h.steps) b.said;
    counted = h.summary;
  }

  -- ---- what is said of it

  module _ (r : Status) (start count : ℕ) (old new : D) where
    says_as : (q : Status) → r ≡ q → SaysSummary g q start count old new → SaysSummary g r start count old new
    says_as q e says = subst (λ (x : Status). SaysSummary g x start count old new) (sym e) says

    says_told : (summary : Summary) → IsSummary start count summary → IsTold g r statuses.Ok (summary_line summary) old new → SaysSummary g r start count old new
    says_told summary is told = elim told [
      | inl whole ↦ says_as statuses.Ok whole.0 (summary, is, whole.1)
      | inr other ↦ elim other [
        | inl part ↦ says_as statuses.Write part.0 (summary, is, part.1)
        | inr none ↦ says_as statuses.Memory none.0 none.1
      ]
    ]

    pub says_summary : {E : Type 0} (line : Result (List ℕ) E) (summary : Summary) → IsSummary start count summary → IfOk line (λ text. text ≡ summary_line summary)
        → MatchResult line (λ text. IsTold g r statuses.Ok text old new) (λ _. (r ≡ statuses.Memory) × (new ≡ old)) → SaysSummary g r start count old new
    says_summary (Ok text) summary is made told = says_told summary is (subst (λ (t : List ℕ). IsTold g r statuses.Ok t old new) made told)
    says_summary (Err e) summary is made told = says_as statuses.Memory told.0 told.1

    of_as : (q : Status) → r ≡ q → IsOfBench q → IsOfBench r
    of_as q e of = subst IsOfBench (sym e) of

    pub of_bench : NoticeFaults g r statuses.Ok old new → IsOfBench r
    of_bench notice = elim notice [
      | inl whole ↦ of_as statuses.Ok whole.0 tt
      | inr other ↦ elim other [ inl part ↦ of_as statuses.Write part.0 tt | inr none ↦ of_as statuses.Memory none.0 tt ]
    ]

    pub bench_completes : NoticeFaults g r statuses.Ok old new → (Rose (g.say_faults old) (g.say_faults new) → ⊥) → (r ≡ statuses.Ok) ⊎ (r ≡ statuses.Memory)
    bench_completes notice unfailed = elim notice [
      | inl whole ↦ inl whole.0
      | inr other ↦ elim other [ inl part ↦ absurd (unfailed part.1.say) | inr none ↦ inr none.0 ]
    ]
