use Rattle.std.proofs.Common.{ℕ, List, string_bytes, ap, ◌∙◌}
use Rattle.std.specs.FinMap as map
use Rattle.yw_library.specs.Numbers.{NumberedNames, numbers_of}
use Rattle.yw_library.proofs.TableLemmas.{numbers_of-insert}
use Rattle.yw_library.proofs.numbers.Numbers.put.Goals as goal

pub returns-clause-ok : goal.returns-clause-ok
returns-clause-ok c =
    numbers_of-insert c.self.inside.table c.insert.new.self (string_bytes c.in_ok-key.key) c.args.number c.in_ok-insert.ensures.updates
    ∙ ap (λ (k : List ℕ). map.insert (numbers_of c.self.inside.table.entries) k c.args.number) c.in_ok-key.ensures.ok
    ∙ ap (λ (m : NumberedNames). map.insert m c.args.name.now c.args.number) c.self.view_is
