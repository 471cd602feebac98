-- A net whose places, tasks and variables are found by their names.
use Rattle.std.specs.Prelude.{◌≡◌, map}
use Rattle.yw_spec.specs.Net.{place_text}
use Rattle.yw_accept.specs.Built.{places_of}
use Rattle.yw_accept.specs.Nodes.{task_names}
use Rattle.yw_accept.specs.Scopes.{vars_scope}
use Rattle.yw_build.specs.declared.numbers.NetNumbers.{NetNumbers}
use Rattle.yw_accept.specs.Index.{IsIndexOf}

pub record AreNumbers (numbers : NetNumbers) : Type 0 where
  pub places : IsIndexOf (map place_text (places_of numbers.said.now)) numbers.places
  pub tasks : IsIndexOf (task_names numbers.said.now.task) numbers.tasks
  pub vars : numbers.vars ≡ vars_scope numbers.said.now
