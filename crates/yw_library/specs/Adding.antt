-- What a new rule needs, and what it makes of the trees. Our own.
use Rattle.std.specs.Prelude.{◌≡◌, ◌+◌, ℕ, Bool, true, false, List, length, Option, Some, None, Ok}
use Rattle.yw_expr.specs.Tree.{Tree}
use Rattle.yw_library.specs.Holdings.{Holdings, state_of, with_holdings, with_tree_rule}
use Rattle.yw_library.specs.declared.trees.Room.{Room}
use Rattle.yw_library.specs.declared.trees.Wanted.{Wanted}
use Rattle.yw_rdr.specs.Attached.{Takes}
use Rattle.yw_rdr.specs.declared.fault.RdrFault.{RdrFault}
use Rattle.yw_rdr.specs.declared.fault.RdrFault.TheVariants as rdr
use Rattle.yw_state.specs.Broken.{Breaks}
use Rattle.yw_state.specs.Events.{Leads}
use Rattle.yw_state.specs.Judged.{is_tree_place}
use Rattle.yw_state.specs.Map.{get}
use Rattle.yw_state.specs.NewRule.{may_conclude, tree_scope}
use Rattle.yw_state.specs.RuleTree.{TreeRule}
use Rattle.yw_state.specs.State.{State}
use Rattle.yw_state.specs.declared.command.Command.{Command}
use Rattle.yw_state.specs.declared.command.Command.TheVariants as commands
use Rattle.yw_state.specs.declared.event.Event.{Event}
use Rattle.yw_state.specs.declared.rule.Refusal.{Refusal}
use Rattle.yw_state.specs.declared.rule.Rule.{Rule}
use Rattle.yw_state.specs.declared.rule.Rule.TheVariants as rules
use Rattle.yw_state.specs.declared.tree.Conclusion.{Conclusion}
use Rattle.yw_state.specs.declared.tree.TreePlace.{TreePlace}
use Rattle.yw_texts.specs.Texts.{ReadsCondition, reader}
use Rattle.yw_trees.specs.Owners.{IsNamed}
use Rattle.yw_trees.specs.Placed.{AreOwned, links_for, rules_for}
use Rattle.yw_trees.specs.declared.owner.Owner.{Owner}

-- ---- whatever else the state has

-- this is the first rule that the command breaks, or it breaks none
abbrev pub AlwaysRefuses : Holdings → Command → Option Refusal → Type 0
AlwaysRefuses known c found = (s : State) → Breaks reader (with_holdings s known) c found

-- the event is allowed, and leads to the same with the second library in place of the first
abbrev pub AlwaysGrows : Holdings → Event → Holdings → Type 0
AlwaysGrows old e new = (s : State) → Leads reader (with_holdings s old) e (with_holdings s new)

-- the event leads nowhere
abbrev pub NeverGrows : Holdings → Event → Type 0
NeverGrows known e = (s t : State) → Leads reader (with_holdings s known) e t → ⊥

-- whether the event leads on; where it doesn't, nothing has changed
abbrev pub IsTriedOn : Holdings → Event → Bool → Holdings → Type 0
IsTriedOn old e true new = AlwaysGrows old e new
IsTriedOn old e false new = NeverGrows old e × (new ≡ old)

-- ---- what is asked

abbrev pub a_command : TreePlace → ℕ → Bool → List ℕ → Conclusion → Command
a_command p at side when c = commands.Rule p.spec p.net p.task p.kind at side when c

abbrev pub command_of : Wanted → Conclusion → Command
command_of w c = a_command w.place.now w.at w.side w.when.now c

abbrev pub rule_of : Wanted → Tree → Conclusion → TreeRule
rule_of w test c = record { at = w.at; side = w.side; when = w.when.now; test = test; conclusion = c }

-- the side isn't there, or is taken
abbrev pub side_rule : Option RdrFault → Option Rule
side_rule (Some rdr.UnknownPlace) = Some rules.UnknownPlace
side_rule (Some rdr.PlaceTaken) = Some rules.PlaceTaken
side_rule (Some rdr.Many) = None
side_rule (Some rdr.Memory) = None
side_rule None = None

-- ---- where a rule can stand

-- The rule may stand in this tree, and its text spells this condition.
pub record HasRoom (known : Holdings) (w : Wanted) (c : Conclusion) (room : Room) : Type 0 where
  pub owned : AreOwned known.specs known.rules
  pub is : IsNamed known.specs room.owner w.place.now
  pub called : get (state_of known).specs w.place.now.spec ≡ Some is.loaded
  pub may : is_tree_place is.loaded.spec w.place.now ≡ true
  pub takes : Takes (links_for room.owner w.place.now.kind known.rules) w.at w.side
  pub spells : ReadsCondition w.when.now (tree_scope is.loaded.spec w.place.now) (Ok room.test)
  pub concludes : may_conclude (state_of known) w.place.now c ≡ true

-- ---- what it makes of the library

-- The rule stands behind those of its tree, and has this number there.
pub record IsGrown (old new : Holdings) (owner : Owner) (p : TreePlace) (r : TreeRule) (number : ℕ) : Type 0 where
  pub grown : new ≡ with_tree_rule old owner p r
  pub numbered : number ≡ length (rules_for owner p.kind old.rules) + 1
