use Rattle.std.proofs.Common.{[], ap, ◌∙◌}
use Rattle.std.specs.Prelude.{unwrap_or}
use Rattle.yw_state.specs.Judged.{place_key}
use Rattle.yw_state.specs.Map.{get}
use Rattle.yw_trees.proofs.Rules.{at_place, nothing_at}
use Rattle.yw_trees.proofs.laws.rules_are_at_places.Goals as goal

pub returns-clause-named : goal.returns-clause-named
returns-clause-named c = λ specs trees owner p s owned is rules.
    ap (λ m. unwrap_or (get m (place_key p)) []) rules ∙ at_place specs owned.apart owner p is trees owned.owned

pub returns-clause-elsewhere : goal.returns-clause-elsewhere
returns-clause-elsewhere c = λ specs trees p s owned none rules.
    ap (λ m. unwrap_or (get m (place_key p)) []) rules ∙ nothing_at specs p none trees owned.owned
