-- What a start breaks first behind the check that the case is quiet.
use Rattle.std.proofs.Common.{Bool, List, ap, subst, ℕ, ◌∙◌, []}
use Rattle.std.specs.Prelude.{drop, not, option_map, take, unwrap_or}
use Rattle.yw_breaks.proofs.Held.{role_is}
use Rattle.yw_breaks.proofs.Joining.{then_or}
use Rattle.yw_breaks.proofs.Rows.{worker_rows}
use Rattle.yw_breaks.specs.Persons.{HasRoles, worker_rule}
use Rattle.yw_breaks.specs.Start.{start_rule}
use Rattle.yw_breaks.specs.Tables.{start_rest}
use Rattle.yw_library.specs.Held.{IsHeld}
use Rattle.yw_known.specs.Here.{IsItemHere, as_item_at}
use Rattle.yw_library.specs.Names.{names_of}
use Rattle.yw_known.specs.declared.here.ItemHere.{ItemHere}
use Rattle.yw_library.specs.Holdings.{Holdings}
use Rattle.yw_state.specs.Broken.{First, has_role, placeless}
use Rattle.yw_state.specs.Identity.{Ident}
use Rattle.yw_state.specs.Map.{get}
use Rattle.yw_state.specs.Nets.{is_atomic}
use Rattle.yw_state.specs.Options.{is_some_and}
use Rattle.yw_state.specs.State.{ItemAt, State, item_at}
use Rattle.yw_state.specs.Words as word
use Rattle.yw_task.proofs.AskLaw.{asks_start}
use Rattle.yw_task.specs.Asked.{start_fault, start_shown}
use Rattle.yw_tree.specs.declared.Forest.{Forest}

abbrev by_itself : ItemAt → Bool
by_itself x = not (is_atomic x.of_task.task)

abbrev lacks : State → List ℕ → ItemAt → Bool
lacks s who x = not (has_role (unwrap_or (get s.persons who) []) x.of_task.task.role)

pub starts_first : (known : Holdings) (f : Forest) (s : State) (who : List ℕ) (roles : List (List ℕ)) → HasRoles known who roles
    → (j : Ident) (x : ItemHere) → IsHeld known f s → IsItemHere known f s j x
    → First (start_rest s who j) (option_map placeless (start_rule roles x (word.held s j)))
starts_first known f s who roles has j x h here =
    let y = as_item_at known x in
    let n = x.item.now in
    let shown : First (start_shown s who j) (option_map placeless (start_fault n)) =
    subst (λ i. First (start_shown s who i) (option_map placeless (start_fault n))) here.identity (asks_start n (names_of known) f s y who here.stands (ap (item_at s) here.identity ∙ here.at)) in
    then_or (take 3 (start_rest s who j)) (drop 3 (start_rest s who j)) (worker_rule roles x.task.now (word.held s j)) (start_fault n)
    (worker_rows roles x.task.now (word.held s j) (is_some_and (item_at s j) by_itself) (is_some_and (item_at s j) (lacks s who))
    (ap (λ o. is_some_and o by_itself) here.at)
    (ap (λ o. is_some_and o (lacks s who)) here.at ∙ role_is known f s h who roles has x.task.now))
    shown
