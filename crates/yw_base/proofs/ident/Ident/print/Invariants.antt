use Rattle.std.proofs.Common.{◌≡◌, string_bytes, take}
use Rattle.yw_base.specs.Identity.{dotted}
use Rattle.yw_base.proofs.ident.Ident.print.Given as goal

abbrev pub invariant-loop-i : goal.invariant-loop-i
invariant-loop-i l = string_bytes l.text ≡ dotted (take l.i l.number-items)
