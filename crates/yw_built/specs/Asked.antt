-- Which commands the server does today. What is missing comes with further words. Our own.
use Rattle.std.specs.Prelude.{◌≡◌, true}
use Rattle.yw_state.specs.Allowed.{are_roles}
use Rattle.yw_state.specs.declared.command.Command.{Command}
use Rattle.yw_state.specs.declared.command.Command.TheVariants as commands

-- the commands that a line can ask for: those of built words, with roles as a line gives them
abbrev pub CanBeAsked : Command → Type 0
CanBeAsked (commands.Person name roles) = are_roles roles ≡ true
CanBeAsked (commands.Load toml) = Unit {0}
CanBeAsked (commands.Launch spec values) = Unit {0}
CanBeAsked (commands.Enter who net task) = Unit {0}
CanBeAsked (commands.Start who j) = Unit {0}
CanBeAsked (commands.Complete who j out) = Unit {0}
CanBeAsked (commands.Add who net task value) = Unit {0}
CanBeAsked (commands.Suspend at) = Unit {0}
CanBeAsked (commands.Continue at) = Unit {0}
CanBeAsked (commands.Cancel net) = Unit {0}
CanBeAsked (commands.Advance net) = Unit {0}
CanBeAsked command = ⊥
