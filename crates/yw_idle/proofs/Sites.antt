-- What an event neither changes nor removes is as it was.
use Rattle.std.specs.Prelude.{◌≡◌, ◌||◌, Bool, true, false, map, Option, Some, None, refl}
use Rattle.std.specs.List.{list_any, range_with_len}
use Rattle.std.proofs.Common.{◌∙◌, ap, sym}
use Rattle.std.proofs.lemmas.Bool.{or_parts}
use Rattle.yw_kept.proofs.Staying.{others_stay}
use Rattle.yw_moved.proofs.Parents.{apart}
use Rattle.yw_moved.proofs.Sites.{added-same, enter-same}
use Rattle.yw_state.proofs.Apart.{leaves_cases}
use Rattle.yw_state.proofs.MapLemmas.{by_name, get-insert_other, get-update_other}
use Rattle.yw_state.proofs.Tests.{and_left, and_right, never}
use Rattle.yw_state.specs.After.{change, complete, completed, pass, put, where_some, with_item}
use Rattle.yw_state.specs.Allowed.{Allowed, allows}
use Rattle.yw_state.specs.Events.{after}
use Rattle.yw_state.specs.Exlets.{case_above}
use Rattle.yw_kept.specs.Kept.{is_changed}
use Rattle.yw_state.specs.Gone.{removes}
use Rattle.yw_state.specs.Identity.{Ident, case_ident, same}
use Rattle.yw_base.specs.Identity.{child, parent}
use Rattle.yw_state.specs.declared.tree.TreeKind.TheVariants as kinds
use Rattle.yw_state.specs.Map.{get}
use Rattle.yw_state.specs.Options.{is_some_and}
use Rattle.yw_state.specs.State.{State, Site, ItemAt, item_at, spec_called, task_at, top_called}
use Rattle.yw_state.specs.Texts.{Said}
use Rattle.yw_state.specs.Values.{Row}
use Rattle.yw_state.specs.declared.event.Event.{Event}
use Rattle.yw_state.specs.declared.event.Event.TheVariants as events
use Rattle.yw_state.specs.declared.tree.Primitive.{Primitive}
use Rattle.yw_state.specs.declared.tree.Primitive.TheVariants.{SuspendItem, ContinueItem, RestartItem, CompleteItem, RemoveItem, SuspendCase, ContinueCase, RemoveCase, Compensate, Unknown}
use Rattle.yw_idle.specs.Warms.{changes}

-- what a primitive changes is the run, the item above or the case
pub not_changed : (k r : Ident) (p : Primitive) → same k (parent r) ≡ false → same k (case_above r) ≡ false → is_changed r p k ≡ false
not_changed k r SuspendItem item case = item
not_changed k r ContinueItem item case = item
not_changed k r RestartItem item case = item
not_changed k r CompleteItem item case = item
not_changed k r RemoveItem item case = refl
not_changed k r SuspendCase item case = case
not_changed k r ContinueCase item case = case
not_changed k r RemoveCase item case = refl
not_changed k r (Compensate name) item case = refl
not_changed k r (Unknown text) item case = refl

module _ (k : Ident) where
  abbrev pub Same : State → State → Type 0
  Same s t = get t.sites k ≡ get s.sites k

  change-same : (s : State) (j : Ident) (f : Site → Site) → same k j ≡ false → Same s (change s j f)
  change-same s j f other = get-update_other by_name s.sites j f k (apart k j other)

  put-same : (s : State) (j : Ident) (x : Site) → same k j ≡ false → Same s (put s j x)
  put-same s j x other = get-insert_other by_name s.sites j x k (apart k j other)

  some-same : {A : Type 0} (o : Option A) (s : State) (f : A → State) → ((x : A) → Same s (f x)) → Same s (where_some o s f)
  some-same None s f each = refl
  some-same (Some x) s f each = each x

  found-same : {A : Type 0} (o : Option A) (s : State) (f : A → State) (p : A → Bool)
      → is_some_and o p ≡ true → ((x : A) → p x ≡ true → Same s (f x)) → Same s (where_some o s f)
  found-same None s f p e each = refl
  found-same (Some x) s f p e each = each x e

  complete-same : (s : State) (j : Ident) (out : Row) (x : ItemAt) → same k j ≡ false → Same s (complete s j out x)
  complete-same s j out x other = change-same (change s j (with_item (completed out))) j _ other ∙ change-same s j _ other

  pub left_alone : (s : State) (e : Event) (said : Said) → Allowed s e said → removes s e k ≡ false → list_any (same k) (changes e) ≡ false
      → Same s (after s e said)
  unfolding after allows
  left_alone s (events.Person name roles) said ok stays none = refl
  left_alone s (events.Load name text) said ok stays none = ap (λ m. get m k) (leaves_cases s (events.Load name text) said refl).sites
  left_alone s (events.AddRule p at side when conclusion number) said ok stays none =
      ap (λ m. get m k) (leaves_cases s (events.AddRule p at side when conclusion number) said refl).sites
  left_alone s (events.Launch n name vals) said ok stays none =
      some-same (spec_called s name) s _ (λ spec. some-same (top_called s name) s _ (λ net. put-same s (case_ident n) _ (or_parts _ false none).0))
  left_alone s (events.Enter i t places first count) said ok stays none =
      let parts = or_parts (same k i) (list_any (same k) (map (child i) (range_with_len first count))) none in
      found-same (task_at s i t) s _ _ (and_right _ _ ok.0) (λ x may.
      enter-same k s i places first count x (and_left _ _ (and_right _ _ (and_left _ _ may))) parts.1 ∙ change-same s i _ parts.0)
  left_alone s (events.Start j who) said ok stays none = change-same s j _ (or_parts _ false none).0
  left_alone s (events.Complete j out) said ok stays none = some-same (item_at s j) s _ (λ x. complete-same s j out x (or_parts _ false none).0)
  left_alone s (events.Exit i t places) said ok stays none = others_stay k s (events.Exit i t places) said refl stays (or_parts _ false none).0
  left_alone s (events.Add i t value n) said ok stays none =
      added-same k s i t value n (or_parts (same k i) _ none).1
  left_alone s (events.Finish n) said ok stays none = others_stay k s (events.Finish n) said refl stays refl
  left_alone s (events.Cancel n) said ok stays none = others_stay k s (events.Cancel n) said refl stays refl
  left_alone s (events.StartSub j) said ok stays none =
      some-same (item_at s j) s _ (λ x. some-same _ s _ (λ e. change-same s j _ (or_parts _ false none).0))
  left_alone s (events.CompleteSub j) said ok stays none = others_stay k s (events.CompleteSub j) said refl stays (or_parts _ false none).0
  left_alone s (events.CompleteEmpty j) said ok stays none = change-same s j _ (or_parts _ false none).0
  left_alone s (events.Pass j check) said ok stays none = change-same s j _ (or_parts _ false none).0
  left_alone s (events.Except j check node n) said ok stays none =
      let parts = or_parts (same k j) _ none in
      put-same (pass s j check) (child j n) _ (or_parts (same k (child j n)) false parts.1).0 ∙ change-same s j _ parts.0
  left_alone s (events.Substitute j name) said ok stays none =
      let other = (or_parts _ false none).0 in
      some-same (item_at s j) s _ (λ x.
      some-same (spec_called s name) s _ (λ spec. some-same (top_called s name) s _ (λ net.
      change-same (pass s j kinds.Select) j _ other ∙ change-same s j _ other)))
  left_alone s (events.CompleteWorklet j) said ok stays none = others_stay k s (events.CompleteWorklet j) said refl stays (or_parts _ false none).0
  left_alone s (events.Raise j kind node n) said ok stays none = put-same s (child j n) _ (or_parts (same k (child j n)) false (or_parts (same k j) _ none).1).0
  left_alone s (events.Prim r p) said ok stays none =
      let parts = or_parts (same k r) _ none in
      let more = or_parts (same k (parent r)) _ parts.1 in
      let last = or_parts (same k (case_above r)) _ more.1 in
      others_stay k s (events.Prim r p) said refl stays (neither (same k r) (is_changed r p k) parts.0 (not_changed k r p more.0 last.0))
    where
      neither : (a b : Bool) → a ≡ false → b ≡ false → (a || b) ≡ false
      neither true b e f = never (sym e)
      neither false b e f = f
  left_alone s (events.Compensated r) said ok stays none = others_stay k s (events.Compensated r) said refl stays (or_parts (same k r) _ none).0
  left_alone s (events.Suspend j) said ok stays none = change-same s j _ (or_parts _ false none).0
  left_alone s (events.Continue j) said ok stays none = change-same s j _ (or_parts _ false none).0
  left_alone s (events.Advance n) said ok stays none = refl
