-- What variables begin with.
use Rattle.std.specs.Prelude.{◌≡◌, true, IfSome}
use Rattle.std.specs.List.{All}
use Rattle.yw_base.specs.declared.value.Sort.{Sort}
use Rattle.yw_base.specs.declared.value.Value.{Value}
use Rattle.yw_base.specs.Values.{may_hold}
use Rattle.yw_read.specs.declared.raw.RawSpec.{RawSpec}
use Rattle.yw_read.specs.declared.raw.RawVar.{RawVar}

-- the value is of the sort and within the limits
abbrev pub IsInit : Sort → Value → Type 0
IsInit sort value = may_hold sort value ≡ true

-- the value that the variable begins with, where its table says one
abbrev pub HasInit : RawVar → Type 0
HasInit var = IfSome var.init (IsInit var.sort)

-- each variable of each net
abbrev pub HasInits : RawSpec → Type 0
HasInits spec = All (λ net. All HasInit net.vars) spec.net
