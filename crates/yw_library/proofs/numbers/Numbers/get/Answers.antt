use Rattle.std.proofs.Common.{sym, ap, ◌∙◌}
use Rattle.std.specs.FinMap as map
use Rattle.yw_library.specs.Numbers.{NumberedNames}
use Rattle.yw_library.proofs.TableLemmas.{get-numbers_of}
use Rattle.yw_library.proofs.numbers.Numbers.get.Goals as goal

pub returns : goal.returns
returns c =
    let q = c.args.name.now in
    c.copied.ensures ∙ c.get.ensures.value ∙ sym (get-numbers_of c.self.inside.table.entries q) ∙ ap (λ (m : NumberedNames). map.get m q) c.self.view_is
