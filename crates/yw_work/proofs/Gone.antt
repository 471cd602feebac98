-- All that an event removes lies under one identity.
use Rattle.std.specs.Prelude.{◌≡◌, ◌||◌, true, false, not, List, [], ◌∷◌, None, is_some}
use Rattle.std.specs.List.{list_any}
use Rattle.std.proofs.Common.{sym, ◌∙◌, ap}
use Rattle.std.proofs.lemmas.Bool.{and_parts, or_left, or_right}
use Rattle.yw_base.specs.Identity.{under, parent}
use Rattle.yw_state.proofs.Elsewhere.{children}
use Rattle.yw_state.proofs.Entries.{passing}
use Rattle.yw_state.proofs.Leaving.{under-trans}
use Rattle.yw_state.proofs.Tests.{by_option, by_test, never, nowhere, there_and}
use Rattle.yw_state.specs.Allowed.{Allowed}
use Rattle.yw_state.specs.Events.{LeadAll, after}
use Rattle.yw_state.specs.Gone.{exit_removes, removes, under_item}
use Rattle.yw_state.specs.Identity.{Ident, is_child, same, strictly_under}
use Rattle.yw_state.specs.Map.{get}
use Rattle.yw_state.specs.Options.{is_some_and}
use Rattle.yw_state.specs.State.{ItemPart, Site, State, item_at, items_of, task_at}
use Rattle.yw_state.specs.Texts.{Reader, Said}
use Rattle.yw_state.specs.Well.{Stands}
use Rattle.yw_state.specs.Words.{is_completed}
use Rattle.yw_state.specs.declared.event.Event.{Event}
use Rattle.yw_state.specs.declared.event.Event.TheVariants as events
use Rattle.yw_state.specs.declared.tree.Primitive.TheVariants.{SuspendItem, ContinueItem, RestartItem, CompleteItem, RemoveItem, SuspendCase, ContinueCase, RemoveCase, Compensate, Unknown}
use Rattle.yw_idle.proofs.Sites.{left_alone}
use Rattle.yw_idle.proofs.Among.{in_all}
use Rattle.yw_idle.specs.Warms.{changes}
use Rattle.yw_work.specs.Tops.{is_reached, top}

goes_under : (s : State) (e : Event) (j : Ident) → removes s e j ≡ true → is_some_and (top e) (under j) ≡ true
unfolding removes
goes_under s (events.Exit i t places) j gone =
    let (x, found, some) = there_and (task_at s i t) (exit_removes s i j) gone in
    let (n, of_task, among) = passing (under_item s i j) (x.number ∷ x.task.drop_tasks) some in
    let (y, item, lies) = passing (λ (y : Ident × ItemPart). under j y.0) (items_of s i n) among in
    let below = in_all (λ (y : Ident × ItemPart). is_child y.0 i ≡ true) (items_of s i n) y (children s i n) item in
    under-trans j y.0 i lies (and_parts (under y.0 i) _ below).0
goes_under s (events.Finish n) j gone = gone
goes_under s (events.Cancel n) j gone = gone
goes_under s (events.CompleteSub i) j gone = (and_parts (under j i) _ gone).0
goes_under s (events.CompleteWorklet i) j gone = (and_parts (under j i) _ gone).0
goes_under s (events.Compensated r) j gone = (and_parts (under j r) _ gone).0
goes_under s (events.Prim r RestartItem) j gone =
    (and_parts (under j (parent r)) _ (and_parts (strictly_under j (parent r)) _ (and_parts (is_some (item_at s (parent r))) _ gone).1).0).0
goes_under s (events.Prim r CompleteItem) j gone =
    (and_parts (under j (parent r)) _
    (and_parts (strictly_under j (parent r)) _ (and_parts (is_some_and (item_at s (parent r)) (λ x. not (is_completed x.part.stage))) _ gone).1).0).0
goes_under s (events.Prim r RemoveItem) j gone = gone
goes_under s (events.Prim r RemoveCase) j gone = gone
goes_under s (events.Prim r SuspendItem) j gone = never gone
goes_under s (events.Prim r ContinueItem) j gone = never gone
goes_under s (events.Prim r SuspendCase) j gone = never gone
goes_under s (events.Prim r ContinueCase) j gone = never gone
goes_under s (events.Prim r (Compensate name)) j gone = never gone
goes_under s (events.Prim r (Unknown text)) j gone = never gone
goes_under s e j gone = never gone

pub gone_under : (s : State) (e : Event) (said : Said) (j : Ident) (x : Site) → Allowed s e said → Stands s j x → get (after s e said).sites j ≡ None
    → list_any (same j) (changes e) ≡ false → is_some_and (top e) (under j) ≡ true
gone_under s e said j x ok stands gone cold = by_test (removes s e j)
    (λ goes. goes_under s e j goes)
    (λ stays. nowhere (sym gone ∙ left_alone j s e said ok stays cold ∙ stands))

-- ---- events in their turn

pub gone_along : (reader : Reader) (es : List Event) (s t : State) (j : Ident) (x : Site) → LeadAll reader s es t → Stands s j x
    → get t.sites j ≡ None → is_reached es j ≡ true
gone_along reader [] s t j x leads stands gone = nowhere (sym gone ∙ ap (λ (u : State). get u.sites j) leads ∙ stands)
gone_along reader (e ∷ es) s t j x leads stands gone =
    let (mid, first, rest) = leads in
    by_option (get mid.sites j)
    (λ none. or_left (list_any (same j) (changes e) || is_some_and (top e) (under j)) (is_reached es j)
    (by_test (list_any (same j) (changes e))
    (λ changed. or_left (list_any (same j) (changes e)) (is_some_and (top e) (under j)) changed)
    (λ cold. or_right (list_any (same j) (changes e)) (is_some_and (top e) (under j))
    (gone_under s e first.said j x first.allowed stands (ap (λ (u : State). get u.sites j) (sym first.then) ∙ none) cold))))
    (λ y there. or_right (list_any (same j) (changes e) || is_some_and (top e) (under j)) (is_reached es j) (gone_along reader es mid t j y rest there gone))
