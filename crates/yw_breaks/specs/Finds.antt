-- What is found, whatever the state is that is held.
use Rattle.std.specs.Prelude.{◌≡◌, ℕ, Bool, List, None, Option, Some, Result, Ok, Err}
use Rattle.yw_breaks.specs.Persons.{HasRoles, PersonsDoAtomic}
use Rattle.yw_breaks.specs.declared.asked.ItemAsked.{ItemAsked}
use Rattle.yw_breaks.specs.declared.asked.NetAsked.{NetAsked}
use Rattle.yw_breaks.specs.declared.asked.SpecAsked.{SpecAsked}
use Rattle.yw_library.specs.Held.{IsHeld}
use Rattle.yw_known.specs.Here.{SaysItem, SaysNet}
use Rattle.yw_library.specs.Holdings.{Holdings, IsKept}
use Rattle.yw_texts.specs.Texts.{reader}
use Rattle.yw_state.specs.Broken.{Breaks, Check, First, placeless}
use Rattle.yw_state.specs.Identity.{Ident}
use Rattle.yw_state.specs.State.{State}
use Rattle.yw_state.specs.Words.{held}
use Rattle.yw_state.specs.declared.command.Command.{Command}
use Rattle.yw_state.specs.declared.command.Command.TheVariants as commands
use Rattle.yw_state.specs.declared.command.Given.{Given}
use Rattle.yw_state.specs.declared.rule.Refusal.{Refusal}
use Rattle.yw_state.specs.declared.rule.Rule.{Rule}
use Rattle.yw_tree.specs.declared.Forest.{Forest}

-- in each state that is held, this is the first of the checks that is broken
abbrev pub Finds : Holdings → Forest → (State → List Check) → Option Refusal → Type 0
Finds known f table found = (s : State) → IsHeld known f s → First (table s) found

-- In each none of the checks is broken. The person has these roles, and this is the item at j.
pub record AsksItem (known : Holdings) (f : Forest) (table : State → List Check) (who : List ℕ) (j : Ident) (x : ItemAsked) : Type 0 where
  pub unbroken : Finds known f table None
  pub roles : HasRoles known who x.roles.now
  pub says : SaysItem known f j x.here

-- so it is, or this rule is the first that is broken
abbrev pub FindsItem : Holdings → Forest → (State → List Check) → List ℕ → Ident → Result ItemAsked Rule → Type 0
FindsItem known f table who j (Ok x) = AsksItem known f table who j x
FindsItem known f table who j (Err rule) = Finds known f table (Some (placeless rule))

-- In each none of the checks is broken. The person has these roles, and this is the net at i.
pub record AsksNet (known : Holdings) (f : Forest) (table : State → List Check) (who : List ℕ) (i : Ident) (x : NetAsked) : Type 0 where
  pub unbroken : Finds known f table None
  pub roles : HasRoles known who x.roles.now
  pub says : SaysNet known f i x.here

-- so it is, or this rule is the first that is broken
abbrev pub FindsNet : Holdings → Forest → (State → List Check) → List ℕ → Ident → Result NetAsked Rule → Type 0
FindsNet known f table who i (Ok x) = AsksNet known f table who i x
FindsNet known f table who i (Err rule) = Finds known f table (Some (placeless rule))

-- in each in which this number is drawn next
abbrev pub FindsNext : Holdings → Forest → ℕ → (State → List Check) → Option Refusal → Type 0
FindsNext known f next table found = (s : State) → IsHeld known f s → s.next ≡ next → First (table s) found

-- and in which persons do each atomic task
abbrev pub FindsManual : Holdings → Forest → ℕ → (State → List Check) → Option Refusal → Type 0
FindsManual known f next table found = (s : State) → IsHeld known f s → PersonsDoAtomic s → s.next ≡ next → First (table s) found

-- in each state that is held this is so of whether work at j is held
abbrev pub ByHeld : Forest → Ident → (Bool → Type 0) → Type 0
ByHeld f j P = (known : Holdings) (s : State) → IsHeld known f s → P (held s j)

-- ---- a launch

-- in each state that is held, whatever stands in cases, and in which this number is drawn next, this is what the command breaks first
abbrev pub BreaksNext : Holdings → ℕ → Command → Option Refusal → Type 0
BreaksNext known next c found = (f : Forest) (s : State) → IsHeld known f s → s.next ≡ next → Breaks reader s c found

-- this is the specification of the name, with its number; or this rule is the first that a launch of the name breaks, whatever values are given
abbrev pub FindsSpec : Holdings → List ℕ → Result SpecAsked Rule → Type 0
FindsSpec known name (Ok x) = IsKept known name x.spec.now x.number
FindsSpec known name (Err rule) = (next : ℕ) (gs : List Given) → BreaksNext known next (commands.Launch name gs) (Some (placeless rule))
