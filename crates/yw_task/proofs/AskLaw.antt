-- What an item shows of the checks of a start and of a completion.
use Rattle.std.proofs.Common.{Bool, List, [], ap, subst, sym, ℕ, ◌∙◌, ◌≡◌, ◌∷◌}
use Rattle.std.specs.Prelude.{is_some, not}
use Rattle.yw_state.specs.Broken.{First, placeless, test}
use Rattle.yw_state.specs.Options.{is_some_and}
use Rattle.yw_state.specs.State.{ItemAt, ItemPart, item_at}
use Rattle.yw_state.specs.Words.{busy, is_executing, is_ready}
use Rattle.yw_state.specs.declared.rule.Rule.TheVariants as rules
use Rattle.yw_task.proofs.Firsts.{first_of_three, first_of_two}
use Rattle.yw_task.proofs.ItemLaw.{its_busy, known_part}
use Rattle.yw_task.specs.Asked.{AsksComplete, AsksStart, complete_fault, is_others, start_fault}
use Rattle.yw_tree.specs.declared.Node.{Node, out-Node}
use Rattle.std.specs.Prelude.{option_map}

pub asks_start : (n : Node) → AsksStart n (start_fault n)
asks_start n =
    λ names f s x who h known.
    let j = (out-Node n).id in
    let a : is_some_and (item_at s j) (λ (y : ItemAt). not (is_ready y.part.stage)) ≡ not (is_ready (out-Node n).stage) =
    ap (λ o. is_some_and o (λ (y : ItemAt). not (is_ready y.part.stage))) known ∙ ap (λ (p : ItemPart). not (is_ready p.stage)) (known_part names f s n h x known) in
    subst (λ (b : Bool). First (test b rules.Stage ∷ test (busy s j) rules.Busy ∷ []) (option_map placeless (start_fault n))) (sym a)
    (subst (λ (b : Bool). First (test (not (is_ready (out-Node n).stage)) rules.Stage ∷ test b rules.Busy ∷ []) (option_map placeless (start_fault n))) (sym (its_busy names f s n h))
    (first_of_two (not (is_ready (out-Node n).stage)) (is_some (out-Node n).run) rules.Stage rules.Busy))

pub asks_complete : (n : Node) (who : List ℕ) → AsksComplete n who (complete_fault n who)
asks_complete n who =
    λ names f s x gs h known.
    let j = (out-Node n).id in
    let part = known_part names f s n h x known in
    let executing : is_some_and (item_at s j) (λ (y : ItemAt). not (is_executing y.part.stage)) ≡ not (is_executing (out-Node n).stage) =
    ap (λ o. is_some_and o (λ (y : ItemAt). not (is_executing y.part.stage))) known ∙ ap (λ (p : ItemPart). not (is_executing p.stage)) part in
    let others : is_some_and (item_at s j) (λ (y : ItemAt). is_others who y.part.who) ≡ is_others who (out-Node n).who =
    ap (λ o. is_some_and o (λ (y : ItemAt). is_others who y.part.who)) known ∙ ap (λ (p : ItemPart). is_others who p.who) part in
    subst (λ (b : Bool). First (test b rules.Stage ∷ test (is_some_and (item_at s j) (λ (y : ItemAt). is_others who y.part.who)) rules.NotYours ∷ test (busy s j) rules.Busy ∷ []) (option_map placeless (complete_fault n who))) (sym executing)
    (subst (λ (b : Bool). First (test (not (is_executing (out-Node n).stage)) rules.Stage ∷ test b rules.NotYours ∷ test (busy s j) rules.Busy ∷ []) (option_map placeless (complete_fault n who))) (sym others)
    (subst (λ (b : Bool). First (test (not (is_executing (out-Node n).stage)) rules.Stage ∷ test (is_others who (out-Node n).who) rules.NotYours ∷ test b rules.Busy ∷ []) (option_map placeless (complete_fault n who))) (sym (its_busy names f s n h))
    (first_of_three (not (is_executing (out-Node n).stage)) (is_others who (out-Node n).who) (is_some (out-Node n).run) rules.Stage rules.NotYours rules.Busy)))
