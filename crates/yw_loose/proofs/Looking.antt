-- The first event that comes, as what is loose is looked at in turn.
use Rattle.std.specs.BTreeSet.{BTreeSet, Updates}
use Rattle.std.specs.Prelude.{◌≡◌, ◌≢◌, ℕ, [], Err, IfOk, List, None, Ok, Option, Result, Some, false, true}
use Rattle.std.proofs.Common.{subst, sym, ◌∙◌}
use Rattle.yw_library.specs.Held.{IsHeld}
use Rattle.yw_library.specs.Holdings.{Holdings}
use Rattle.yw_loose.proofs.Rested.{none_loose, passed_over, popped, recounted}
use Rattle.yw_loose.specs.Counts.{AreRight}
use Rattle.yw_loose.specs.Loose.{Forgets, is_known}
use Rattle.yw_loose.specs.Next.{FindsCounted, FindsLoose, StaysRested, StaysRight}
use Rattle.yw_loose.specs.declared.counts.Counts.{Counts}
use Rattle.yw_loose.specs.declared.loose.Loose.{Loose}
use Rattle.yw_state.specs.Identity.{Ident}
use Rattle.yw_base.specs.Identity.{case_number}
use Rattle.yw_state.specs.Map.{lexical}
use Rattle.yw_state.specs.State.{State}
use Rattle.yw_tree.specs.declared.Forest.{Forest}
use Rattle.yw_walk.specs.Finds.{FindsAt, IsFound, StandsCalm, TellsAt}
use Rattle.yw_walk.specs.declared.found.Found.{Found}

-- The case is known, and what was rested is so still.
pub record Looks (known : Holdings) (f : Forest) (n next : ℕ) (old now : Loose) : Type 0 where
  pub case : is_known now n ≡ true
  pub rested : StaysRested known f n next old now

module _ (known : Holdings) (f : Forest) (n next : ℕ) (old now : Loose) (looks : Looks known f n next old now) where
  -- behind a look the counts are others, which are right
  pub recounts : (c : Counts) → StaysRight known f now.counts c → Looks known f n next old (record now { counts = c })
  recounts c right =
      record {
        case = looks.case;
        rested = λ s w rested. let so = looks.rested s w rested in recounted now c s (right s w.held so.counted) so;
      }

  -- in a calm state the case of an identity in it is calm
  calm_there : (id : Ident) → case_number id ≡ n → (s : State) → StandsCalm known f next n s → StandsCalm known f next (case_number id) s
  calm_there id here s w = subst (λ m. StandsCalm known f next m s) (sym here) w

  -- nothing comes of itself at what is looked at first
  pub resting_passes : (c : Counts) (ids : BTreeSet Ident) (id : Ident) → case_number id ≡ n → StaysRight known f now.counts c
      → Updates lexical now.idents ids id false → FindsCounted known f id next now.counts None
      → Looks known f n next old (record now { counts = c; idents = ids })
  resting_passes c ids id here right updates finds =
      record {
        case = looks.case;
        rested = λ s w rested.
            let so = looks.rested s w rested in
            popped (record now { counts = c }) ids id updates s (finds s (calm_there id here s w) so.counted)
            (recounted now c s (right s w.held so.counted) so);
      }

  -- or it is of another case
  pub other_passes : (mid : Loose) (ids : BTreeSet Ident) (id : Ident) → n ≢ case_number id → Forgets now mid (case_number id)
      → Updates lexical mid.idents ids id false → Looks known f n next old (record mid { idents = ids })
  other_passes mid ids id other forgets updates =
      record {
        case = forgets.others n other ∙ looks.case;
        rested = λ s w rested. passed_over now mid ids id forgets updates s (looks.rested s w rested);
      }

  -- or has an event
  pub found_there : (id : Ident) (e : Found) → case_number id ≡ n → FindsCounted known f id next now.counts (Some e) → FindsLoose known f n next old (Some e)
  found_there id e here finds = λ s w rested.
      subst (λ k. IsFound s k e) here (finds s (calm_there id here s w) (looks.rested s w rested).counted)

  -- nothing is left to look at
  pub none_there : now.idents.keys ≡ [] → FindsLoose known f n next old None
  none_there none = λ s w rested. none_loose now none n looks.case s (looks.rested s w rested) w.calm

-- what is found where what is told is right, is found where the counts are right by which it is told
pub found_counted : {E : Type 0} (known : Holdings) (f : Forest) (id : Ident) (next : ℕ) (counts : Counts) (told : Option (List ℕ))
    → ((s : State) → IsHeld known f s → AreRight s counts → TellsAt f id told) → (found : Result (Option Found) E)
    → (TellsAt f id told → IfOk found (FindsAt known f id next)) → IfOk found (FindsCounted known f id next counts)
found_counted known f id next counts told tells (Ok found) finds = λ s w right. finds (tells s w.held right) s w
found_counted known f id next counts told tells (Err fault) finds = tt
