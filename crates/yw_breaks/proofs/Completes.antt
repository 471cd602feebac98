-- What a completion breaks first behind the check that the case is quiet.
use Rattle.std.proofs.Common.{Bool, List, None, Option, Some, ap, refl, subst, true, ℕ, ◌∙◌, ◌≡◌}
use Rattle.std.specs.Prelude.{Box, ◌||◌, drop, is_some, not, option_and_then, option_map, if◌then◌else◌}
use Rattle.std.specs.declared.alloc.Global.{Global}
use Rattle.yw_base.specs.Identity.{is_identity}
use Rattle.yw_breaks.proofs.Joining.{then_rest}
use Rattle.yw_breaks.proofs.Rows.{last_place, test_row}
use Rattle.yw_breaks.specs.Complete.{is_by_itself, most_broken}
use Rattle.yw_breaks.specs.Tables.{complete_most}
use Rattle.yw_library.specs.Held.{IsHeld}
use Rattle.yw_known.specs.Here.{IsItemHere, as_item_at}
use Rattle.yw_library.specs.Names.{names_of}
use Rattle.yw_known.specs.declared.here.ItemHere.{ItemHere}
use Rattle.yw_library.specs.Holdings.{Holdings}
use Rattle.yw_nest.proofs.Known.{site_known}
use Rattle.yw_state.specs.Broken.{First, placed, placeless}
use Rattle.yw_state.specs.Given.{misfit}
use Rattle.yw_state.specs.Identity.{Ident}
use Rattle.yw_state.specs.Nets.{is_atomic}
use Rattle.yw_state.specs.Options.{is_some_and}
use Rattle.yw_state.specs.State.{ItemAt, Site, State, item_at, net_part}
use Rattle.yw_state.specs.Words as word
use Rattle.yw_state.specs.declared.command.Given.{Given}
use Rattle.yw_state.specs.declared.rule.Rule.TheVariants as rules
use Rattle.yw_task.proofs.AskLaw.{asks_complete}
use Rattle.yw_task.specs.Asked.{complete_fault, complete_shown}
use Rattle.yw_task.specs.Completes.{or_else}
use Rattle.yw_tree.specs.Entries.{net_part_of}
use Rattle.yw_tree.specs.declared.Forest.{Forest}
use Rattle.yw_tree.specs.declared.NetState.{NetState}
use Rattle.yw_tree.specs.declared.Node.{out-Node}

net_shown : (names : ℕ → List ℕ) (o : Option (Box NetState Global)) → is_some (net_part_of names o) ≡ is_some o
net_shown names None = refl
net_shown names (Some b) = refl

abbrev itself : State → Ident → ItemAt → Bool
itself s j y = not (is_atomic y.of_task.task) || is_some (net_part s j)

abbrev misfit_at : List Given → ItemAt → Option (List ℕ)
misfit_at gs y = misfit y.of_task.task.outs gs

pub completes_first : (known : Holdings) (f : Forest) (s : State) (who : List ℕ) (j : Ident) (gs : List Given) (x : ItemHere) → IsHeld known f s → IsItemHere known f s j x
    → First (complete_most s who j gs) (most_broken who gs x (word.held s j))
completes_first known f s who j gs x h here =
    let n = x.item.now in
    let rule = complete_fault n who in
    let identity : is_identity j ≡ true = subst (λ i. is_identity i ≡ true) here.identity here.stands.identity in
    let net_there : is_some (net_part s j) ≡ is_some (out-Node n).net =
    ap (λ o. is_some (option_and_then (λ (y : Site). y.net) o)) (site_known (names_of known) f h.boxed s h.sites j identity n here.found) ∙ net_shown (names_of known) (out-Node n).net in
    let shown : First (complete_shown s who j gs) (option_map placeless rule) =
    subst (λ i. First (complete_shown s who i gs) (option_map placeless rule)) here.identity
    (asks_complete n who (names_of known) f s (as_item_at known x) gs here.stands (ap (item_at s) here.identity ∙ here.at)) in
    let later = option_map (placed rules.Output) (misfit x.task.now.outs gs) in
    test_row (is_some_and (item_at s j) (itself s j)) (is_by_itself x) (ap (λ o. is_some_and o (itself s j)) here.at ∙ ap (λ b. not (is_atomic x.task.now) || b) net_there) rules.ByItself
    (drop 1 (complete_most s who j gs)) (if word.held s j then Some (placeless rules.Held) else or_else later rule)
    (test_row (word.held s j) (word.held s j) refl rules.Held (drop 2 (complete_most s who j gs)) (or_else later rule)
    (then_rest (complete_shown s who j gs) (drop 5 (complete_most s who j gs)) rule later shown
    (λ none. last_place (option_and_then (misfit_at gs) (item_at s j)) (misfit x.task.now.outs gs) (ap (option_and_then (misfit_at gs)) here.at) rules.Output)))
