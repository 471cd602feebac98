use Rattle.std.specs.Prelude.{refl}
use Rattle.yw_state.proofs.Tests.{nowhere}
use Rattle.yw_plain.proofs.opening_is_plain.Goals as goal

pub returns : goal.returns
returns c = record { rules = refl; run = λ j x at. nowhere at; due = λ j x at. nowhere at }
