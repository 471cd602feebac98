-- Entries of one event: those of commands without a case.
use Rattle.std.proofs.Common.{◌≡◌, ℕ, [], ◌∷◌, true, Option, None, refl, sym, subst, arith}
use Rattle.yw_state.specs.Automatic.{case_of}
use Rattle.yw_state.specs.Broken.{Breaks}
use Rattle.yw_state.specs.Events.{Leads}
use Rattle.yw_state.specs.Legal.{Follow, IsAsked, IsLegal, QuietIfCase}
use Rattle.yw_state.specs.State.{State}
use Rattle.yw_state.specs.Texts.{Reader}
use Rattle.yw_state.specs.declared.command.Command.{Command}
use Rattle.yw_state.specs.declared.event.Event.{Event}

-- the one event that is asked is a legal entry, however texts are read
pub alone_is_legal : (texts : Reader) (s : State) (c : Command) (e : Event) (t : State)
    → Breaks texts s c None → IsAsked texts s c e → case_of e ≡ None → Leads texts s e t → IsLegal texts s c (e ∷ []) true t
alone_is_legal texts s c e t unbroken asked none leads = record {
  unbroken = unbroken;
  first = e;
  others = [];
  in_order = refl;
  asked = asked;
  mid = t;
  leads = leads;
  follow = subst (λ (o : Option ℕ). Follow t o []) (sym none) refl;
  then = refl;
  within = omega arith;
  is_quiet = (λ h. subst (λ (o : Option ℕ). QuietIfCase t o) (sym none) tt, λ h. refl);
  spent = λ h. cc;
}
