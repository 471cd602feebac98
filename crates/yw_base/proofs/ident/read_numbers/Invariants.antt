use Rattle.std.proofs.Common.{◌≡◌, ◌<◌, drop, length, []}
use Rattle.yw_base.specs.Identity.{number_end}
use Rattle.yw_base.proofs.DottedLemmas.{read_from}
use Rattle.yw_base.proofs.ident.read_numbers.Given as goal

abbrev pub invariant-loop-byte : goal.invariant-loop-byte
invariant-loop-byte l = record {
  few : length l.numbers < 40;
  small : l.number < number_end;
  same : read_from l.numbers l.number (drop l.byte-index l.byte-items) ≡ read_from [] 0 l.byte-items;
}
