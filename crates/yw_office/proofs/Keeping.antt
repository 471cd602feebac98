-- The lists stay those of the engine's state.
use Rattle.std.proofs.Common.{◌≡◌, ◌∙◌, ap, refl, subst, sym}
use Rattle.std.specs.List.{list_all}
use Rattle.std.specs.Prelude.{ℕ, Err, false, List, Some, true}
use Rattle.yw_built.specs.Built.{is_built}
use Rattle.yw_engine.specs.Answers.{IfRefused, TellsSpent}
use Rattle.yw_engine.specs.Held.{Held, state_of}
use Rattle.yw_engine.specs.declared.fault.Decided.{Decided}
use Rattle.yw_engine.specs.declared.fault.EngineFault.{EngineFault}
use Rattle.yw_engine.specs.declared.fault.EngineFault.TheVariants as faults
use Rattle.yw_library.specs.Held.{IsHeld}
use Rattle.yw_library.specs.Holdings.{Holdings, with_library}
use Rattle.yw_office.proofs.Standing.{all_stand}
use Rattle.yw_office.specs.Cases.{HasCases}
use Rattle.yw_office.specs.Kept.{Decides, IsDecided, IsKept}
use Rattle.yw_open.specs.Opens.{IsHeldUnchosen}
use Rattle.yw_plain.proofs.Words.{no_rule}
use Rattle.yw_plain.specs.Plain.{IsPlain}
use Rattle.yw_state.proofs.Tests.{never}
use Rattle.yw_state.specs.Broken.{Breaks}
use Rattle.yw_state.specs.Legal.{IsLegal}
use Rattle.yw_state.specs.State.{State}
use Rattle.yw_state.specs.Well.{IsWell}
use Rattle.yw_state.specs.declared.command.Command.{Command}
use Rattle.yw_texts.specs.Texts.{reader}
use Rattle.yw_tree.specs.declared.Forest.{Forest}
use Rattle.yw_turns.proofs.Entries.{legal_leads}
use Rattle.yw_worklist.specs.Lists.{AreCases, IsListed}
use Rattle.yw_worklist.specs.Touched.{Notes}
use Rattle.yw_worklist.specs.declared.lists.Lists.{Lists}

-- What an engine says of its state.
pub record Tells (e : Held) : Type 0 where
  pub held : e.spent ≡ false → IsHeld e.standing.known e.standing.forest (state_of e)
  pub plain : e.spent ≡ false → IsPlain (state_of e)

unchosen : (e : Held) → Tells e → e.spent ≡ false → IsHeldUnchosen e.standing.known e.standing.forest (state_of e)
unchosen e tells fresh = record { held = tells.held fresh; unchosen = λ p select. no_rule (state_of e) (tells.plain fresh).rules p }

-- ---- the lists are made

next_is : (e : Held) → (state_of e).next ≡ e.standing.next
unfolding with_library
next_is e = refl

-- the lists are those of each state that these stand for, where no other case stands
abbrev AreMade : Holdings → Forest → List ℕ → Lists → Type 0
AreMade known f cases lists = (s : State) → IsHeldUnchosen known f s → AreCases s cases → IsListed s lists

pub kept_anew : (e : Held) → Tells e → (known : Holdings) (f : Forest) (next : ℕ) (cases : List ℕ) (lists : Lists)
    → known ≡ e.standing.known → f ≡ e.standing.forest → next ≡ e.standing.next → HasCases f next cases → AreMade known f cases lists
    → e.spent ≡ false → IsKept e lists
kept_anew e tells known f next cases lists as_known as_forest as_next has made fresh =
    let is = unchosen e tells fresh in
    let here : HasCases e.standing.forest (state_of e).next cases =
    subst (λ (g : Forest). HasCases g (state_of e).next cases) as_forest (subst (λ (n : ℕ). HasCases f n cases) (as_next ∙ sym (next_is e)) has) in
    let are : AreMade e.standing.known e.standing.forest cases lists =
    subst (λ (g : Forest). AreMade e.standing.known g cases lists) as_forest (subst (λ (k : Holdings). AreMade k f cases lists) as_known made) in
    record { fresh = fresh; listed = are (state_of e) is (all_stand e.standing.known e.standing.forest (state_of e) cases is.held here) }

-- ---- after a command

module _ (old new : Held) (lists : Lists) (c : Command) (kept : IsKept old lists) where
  -- the lists after an entry
  pub noted : (now : Lists) (d : Decided) → (old.spent ≡ false → IsWell reader (state_of old))
      → IsLegal reader (state_of old) c d.events d.quiet (state_of new) → list_all is_built d.events ≡ true → new.spent ≡ false → Tells new
      → Notes new.standing.known new.standing.forest d.events lists now → IsDecided old c d new now
  noted now d well legal built fresh tells notes = record {
    legal = legal;
    built = built;
    kept = record {
      fresh = fresh;
      listed = notes (state_of old) (state_of new) (well kept.fresh) (legal_leads reader (state_of old) c d.events d.quiet (state_of new) legal)
          (unchosen new tells fresh) kept.listed;
    };
  }

  -- the lists are what they were where nothing is done
  pub not_done : (fault : EngineFault) → IfRefused {A = Decided} (Err fault) (λ refusal. Breaks reader (state_of old) c (Some refusal) × (new ≡ old))
      → TellsSpent {A = Decided} (Err fault) old new → Decides old c (Err fault) new lists
  not_done (faults.Refused refusal) broken tells = record {
    breaks = broken.0;
    same = ap (λ (h : Held). h.standing) broken.1;
    kept = subst (λ (h : Held). IsKept h lists) (sym broken.1) kept;
  }
  not_done faults.Memory broken tells = tt
  not_done faults.Spent broken tells = never (sym kept.fresh ∙ tells.0)
