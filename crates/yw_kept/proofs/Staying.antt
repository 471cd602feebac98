-- What an event that removes something neither removes nor is done at, has what it had.
use Rattle.std.specs.Prelude.{◌≡◌, ℕ, ◌&&◌, ◌||◌, Bool, true, false, not, List, [], ◌∷◌, fold, Option, Some, None, is_some, option_and_then, unwrap_or, refl, if◌then◌else◌}
use Rattle.std.specs.List.{list_any}
use Rattle.std.proofs.Common.{sym, ◌∙◌, ap}
use Rattle.std.proofs.lemmas.Bool.{or_parts, not-false}
use Rattle.std.proofs.lemmas.Slice.Eq.{bytes_eq-Decides}
use Rattle.yw_base.specs.Identity.{under, parent}
use Rattle.yw_spec.specs.declared.spec.Net.{Net}
use Rattle.yw_spec.specs.declared.spec.Place.{Place}
use Rattle.yw_spec.specs.declared.spec.Spec.{Spec}
use Rattle.yw_state.proofs.Absent.{part-kept}
use Rattle.yw_state.proofs.Entries.{comes_from, entry-found, find-entry, mapped_in, passes}
use Rattle.yw_state.proofs.Gone.{same_item_at, taken}
use Rattle.yw_state.proofs.MapLemmas.{by_name, get-remove_other, get-retain_kept, get-update_other, retain_stands}
use Rattle.yw_state.proofs.Tests.{by_option, by_test, never, nowhere, there, then_some}
use Rattle.yw_state.specs.After.{change, complete, completed, end_net, exit, idents, items_gone, make_due, produce, region_emptied, values_assigned, where_some, where_spec, wipe, with_item, with_net, with_sites, without_items}
use Rattle.yw_state.specs.Allowed.{place_numbers}
use Rattle.yw_state.specs.ByName.{made_by_child, made_by_worklet, made_of_given}
use Rattle.yw_state.specs.Events.{after}
use Rattle.yw_state.specs.Exlets.{case_above, cut_back, end_compensation, end_if_over, primitive, restarted, take_primitive}
use Rattle.yw_state.specs.Gone.{cut_back_removes, primitive_removes, removes, under_item}
use Rattle.yw_state.specs.Identity.{Ident, case_ident, is_child, same, strictly_under}
use Rattle.yw_state.specs.Judged.{case_place}
use Rattle.yw_state.specs.Map.{entries, get, retain}
use Rattle.yw_state.specs.Options.{is_some_and}
use Rattle.yw_state.specs.State.{State, Site, Sites, ItemAt, ItemPart, NetAt, NetPart, TaskAt, bare, bare_but, drop, drop_all, if_of_task, item_at, item_of_task, item_part, items_of, net_at, spec_called, task_at, top_called}
use Rattle.yw_state.specs.Texts.{Said}
use Rattle.yw_state.specs.Values.{Row}
use Rattle.yw_state.specs.Words.{is_completed}
use Rattle.yw_state.specs.declared.event.Event.{Event}
use Rattle.yw_state.specs.declared.event.Event.TheVariants as events
use Rattle.yw_state.specs.declared.tree.Primitive.{Primitive}
use Rattle.yw_state.specs.declared.tree.Primitive.TheVariants.{SuspendItem, ContinueItem, RestartItem, CompleteItem, RemoveItem, SuspendCase, ContinueCase, RemoveCase, Compensate, Unknown}
use Rattle.yw_state.specs.declared.tree.TreeKind.TheVariants.{Post}
use Rattle.yw_kept.specs.Kept.{is_changed, is_done_at, may_remove}

-- the same stands at k
abbrev Same : Ident → State → State → Type 0
Same k s t = get t.sites k ≡ get s.sites k

apart : (k j : Ident) → same k j ≡ false → k ≡ j → ⊥
apart k j other e = never (sym other ∙ (bytes_eq-Decides k j).1 e)

module _ (k : Ident) where
  -- ---- changes and restrictions

  change-same : (s : State) (j : Ident) (f : Site → Site) → same k j ≡ false → Same k s (change s j f)
  change-same s j f other = get-update_other by_name s.sites j f k (apart k j other)

  drop-same : (m : Sites) (j : Ident) → under k j ≡ false → get (drop m j) k ≡ get m k
  drop-same m j out = get-retain_kept by_name m _ k (ap not out)

  drop_all-same : (es : List (Ident × ItemPart)) (m : Sites) → list_any (λ (e : Ident × ItemPart). under k e.0) es ≡ false → get (drop_all m (idents es)) k ≡ get m k
  drop_all-same [] m out = refl
  drop_all-same (e ∷ es) m out = let parts = or_parts (under k e.0) _ out in drop_all-same es (drop m e.0) parts.1 ∙ drop-same m e.0 parts.0

  bare-same : (m : Sites) (j : Ident) → same k j ≡ false → strictly_under k j ≡ false → get (bare m j) k ≡ get m k
  bare-same m j other out = get-update_other by_name (retain m _) j _ k (apart k j other) ∙ get-retain_kept by_name m _ k (ap not out)

  bare_but-same : (m : Sites) (j r : Ident) → same k j ≡ false → (strictly_under k j && not (same k r)) ≡ false → get (bare_but m j r) k ≡ get m k
  bare_but-same m j r other out = get-update_other by_name (retain m _) j _ k (apart k j other) ∙ get-retain_kept by_name m _ k (not_cut (strictly_under k j) (same k r) out)
    where
      not_cut : (a b : Bool) → (a && not b) ≡ false → (not a || b) ≡ true
      not_cut true b e = not-false b e
      not_cut false b e = refl

  either-same : (b : Bool) (s t u : State) → Same k s t → Same k s u → Same k s (if b then t else u)
  either-same true s t u there here = there
  either-same false s t u there here = here

  some-same : {A : Type 0} (o : Option A) (s : State) (f : A → State) → ((x : A) → o ≡ Some x → Same k s (f x)) → Same k s (where_some o s f)
  some-same None s f each = refl
  some-same (Some x) s f each = each x refl

  spec-same : (s : State) (name : List ℕ) (f : Spec → Net → State) → ((spec : Spec) (net : Net) → Same k s (f spec net)) → Same k s (where_spec s name f)
  spec-same s name f each =
      some-same (spec_called s name) s (λ spec. where_some (top_called s name) s (f spec)) (λ spec e. some-same (top_called s name) s (f spec) (λ net d. each spec net))

  -- ---- items that go

  -- each item in t is one in s
  abbrev ItemsFrom : State → State → Type 0
  ItemsFrom s t = (q : Ident) (x : ItemPart) → item_part t q ≡ Some x → item_part s q ≡ Some x

  retain-items : (s : State) (p : Ident → Bool) → ItemsFrom s (with_sites s (retain s.sites p))
  retain-items s p q x is =
      let (y, at, item) = then_some (λ (z : Site). z.item) (get (retain s.sites p) q) x is in
      ap (option_and_then (λ (z : Site). z.item)) (retain_stands by_name s.sites p q y at).0 ∙ item

  drop_all-items : (js : List Ident) (s : State) → ItemsFrom s (with_sites s (drop_all s.sites js))
  drop_all-items [] s q x is = is
  drop_all-items (j ∷ js) s q x is = retain-items s _ q x (drop_all-items js (with_sites s (drop s.sites j)) q x is)

  net-items : (s : State) (i : Ident) (f : NetPart → NetPart) → ItemsFrom s (change s i (with_net f))
  net-items s i f q x is = sym (part-kept (λ y. y.item) (with_net f) (λ y. refl) s.sites i q) ∙ is

  -- as `item_of_task` has it
  abbrev item_of : Ident → ℕ → Ident → Option ItemPart → Option (Ident × ItemPart)
  item_of i n q o = if is_child q i then option_and_then (if_of_task n q) o else None

  no_item : (i : Ident) (n : ℕ) (q : Ident) → item_of i n q None ≡ None
  no_item i n q = either (is_child q i)
    where
      either : (b : Bool) → ◌≡◌ {A = Option (Ident × ItemPart)} (if b then None else None) None
      either true = refl
      either false = refl

  -- an item above k in t is above it in s
  above_before : (s t : State) (i : Ident) (n : ℕ) → ItemsFrom s t → under_item t i k n ≡ true → under_item s i k n ≡ true
  above_before s t i n from some =
      let (e, y, within, is, above) = comes_from (λ (d : Ident × Site). item_of_task i n d.0 d.1) (λ (d : Ident × ItemPart). under k d.0) (entries t.sites) some in
      let here : get t.sites e.0 ≡ Some e.1 = find-entry by_name (entries t.sites) e t.sites.sorted within in
      by_option (e.1.item)
      (λ none. nowhere (sym (ap (item_of i n e.0) none ∙ no_item i n e.0) ∙ is))
      (λ x has.
      let in_t : item_part t e.0 ≡ Some x = ap (option_and_then (λ (z : Site). z.item)) here ∙ has in
      let (x_site, at, item) = then_some (λ (z : Site). z.item) (get s.sites e.0) x (from e.0 x in_t) in
      passes (λ (d : Ident × ItemPart). under k d.0) (items_of s i n) y
      (mapped_in (λ (d : Ident × Site). item_of_task i n d.0 d.1) (entries s.sites) (e.0, x_site) y (entry-found by_name (entries s.sites) e.0 x_site at) (ap (item_of i n e.0) (item ∙ sym has) ∙ is))
      above)

  without-same : (s t : State) (i : Ident) (n : ℕ) → ItemsFrom s t → under_item s i k n ≡ false → Same k t (without_items i t n)
  without-same s t i n from out = drop_all-same (items_of t i n) t.sites (by_test (under_item t i k n) (λ some. never (sym out ∙ above_before s t i n from some)) (λ e. e))

  each-same : (s : State) (i : Ident) (ns : List ℕ) (t : State) → ItemsFrom s t → list_any (under_item s i k) ns ≡ false → Same k t (fold (without_items i) t ns)
  each-same s i [] t from out = refl
  each-same s i (n ∷ ns) t from out =
      let parts = or_parts (under_item s i k n) (list_any (under_item s i k) ns) out in
      each-same s i ns (without_items i t n) (λ q x is. from q x (drop_all-items (idents (items_of t i n)) t q x is)) parts.1 ∙ without-same s t i n from parts.0

  -- ---- exits

  exit-same : (s : State) (i : Ident) (places : List Place) (x : TaskAt) → same k i ≡ false → list_any (under_item s i k) (x.number ∷ x.task.drop_tasks) ≡ false → Same k s (exit s i places x)
  exit-same s i places x other out =
      let cs : List ℕ = unwrap_or (place_numbers x.within.net places) [] in
      let parts = or_parts (under_item s i k x.number) (list_any (under_item s i k) x.task.drop_tasks) out in
      let gone = items_gone s i x in
      let assigned = values_assigned s i x in
      let wiped = wipe assigned i x.task.drop_places in
      let emptied = region_emptied s i x in
      let put = produce emptied i cs in
      let from : ItemsFrom s wiped = λ q y is. drop_all-items (idents (items_of s i x.number)) s q y (net-items gone i _ q y (net-items assigned i _ q y is)) in
      let before : Same k s wiped = change-same assigned i _ other ∙ change-same gone i _ other ∙ without-same s s i x.number (λ q y is. is) parts.0 in
      let there : Same k s put = change-same emptied i _ other ∙ each-same s i x.task.drop_tasks wiped from parts.1 ∙ before in
      either-same _ s (make_due put i (case_place x.within.part.spec Post)) put (change-same put i _ other ∙ there) there

  -- ---- ends of nets and compensations

  complete-same : (s : State) (j : Ident) (out : Row) (x : ItemAt) → same k j ≡ false → Same k s (complete s j out x)
  complete-same s j out x other = change-same (change s j (with_item (completed out))) j _ other ∙ change-same s j _ other

  ended-same : (s : State) (j : Ident) (made : NetAt → ItemAt → Row) → same k j ≡ false → strictly_under k j ≡ false → Same k s (where_some (item_at s j) s (end_net s j made))
  ended-same s j made other out =
      some-same (item_at s j) s _ (λ x e. some-same (net_at s j) s _ (λ n d. complete-same (with_sites s (bare s.sites j)) j (made n x) x other ∙ bare-same s.sites j other out))

  over-same : (s : State) (r : Ident) → same k r ≡ false → Same k s (end_if_over s r)
  over-same s r other = either-same _ s _ s (get-remove_other by_name s.sites r k (apart k r other)) refl

  compensated-same : (s : State) (r : Ident) → same k r ≡ false → strictly_under k r ≡ false → Same k s (end_compensation s r)
  compensated-same s r other out =
      over-same _ r other ∙ change-same (with_sites s (bare s.sites r)) r _ other ∙ bare-same s.sites r other out

  -- ---- primitives

  cut_back-same : (s : State) (r j : Ident) (f : ItemPart → ItemPart) → same k j ≡ false → (strictly_under k j && not (same k r)) ≡ false → Same k s (cut_back s r j f)
  cut_back-same s r j f other out = change-same (with_sites s (bare_but s.sites j r)) j _ other ∙ bare_but-same s.sites j r other out

  primitive-same : (s : State) (r : Ident) (p : Primitive) → same k r ≡ false → is_changed r p k ≡ false → primitive_removes s r k p ≡ false → Same k s (primitive s r (parent r) p)
  primitive-same s r SuspendItem run other out = change-same s (parent r) _ other
  primitive-same s r ContinueItem run other out = change-same s (parent r) _ other
  primitive-same s r RestartItem run other out = some-same (item_at s (parent r)) s _ (λ x is.
      let cut : cut_back_removes r k ≡ false = sym (ap (λ (o : Option ItemAt). is_some o && cut_back_removes r k) is) ∙ out in
      let back = cut_back-same s r (parent r) restarted other cut in
      either-same _ s _ _ (change-same (cut_back s r (parent r) restarted) (parent r) _ other ∙ back) back)
  primitive-same s r CompleteItem run other out = some-same (item_at s (parent r)) s _ (λ x is.
      let cut : (not (is_completed x.part.stage) && cut_back_removes r k) ≡ false = sym (ap (λ (o : Option ItemAt). is_some_and o (λ y. not (is_completed y.part.stage)) && cut_back_removes r k) is) ∙ out in
      by_test (is_completed x.part.stage)
      (λ over. ap (λ b. get (if b then s else cut_back s r (parent r) (completed (made_of_given x))).sites k) over)
      (λ on. ap (λ b. get (if b then s else cut_back s r (parent r) (completed (made_of_given x))).sites k) on
      ∙ cut_back-same s r (parent r) (completed (made_of_given x)) other (sym (ap (λ b. not b && cut_back_removes r k) on) ∙ cut)))
  primitive-same s r RemoveItem run other out = drop-same s.sites (parent r) out
  primitive-same s r SuspendCase run other out = change-same s (case_above r) _ other
  primitive-same s r ContinueCase run other out = change-same s (case_above r) _ other
  primitive-same s r RemoveCase run other out = drop-same s.sites (case_above r) out
  primitive-same s r (Compensate name) run other out = either-same _ s _ s (spec-same s name _ (λ spec net. change-same s r _ run)) refl
  primitive-same s r (Unknown text) run other out = refl

  same_removes : (s : State) (r : Ident) (p : Primitive) → primitive_removes (taken s r) r k p ≡ primitive_removes s r k p
  same_removes s r RestartItem = ap (λ (o : Option ItemAt). is_some o && cut_back_removes r k) (same_item_at s r (parent r))
  same_removes s r CompleteItem = ap (λ (o : Option ItemAt). is_some_and o (λ x. not (is_completed x.part.stage)) && cut_back_removes r k) (same_item_at s r (parent r))
  same_removes s r p = refl

  taken-same : (s : State) (r : Ident) (p : Primitive) → same k r ≡ false → is_changed r p k ≡ false → primitive_removes s r k p ≡ false → Same k s (take_primitive s r p)
  taken-same s r p run other out =
      over-same (primitive (taken s r) r (parent r) p) r run ∙ primitive-same (taken s r) r p run other (same_removes s r p ∙ out) ∙ change-same s r _ run

  -- ---- the law

  pub others_stay : (s : State) (e : Event) (said : Said) → may_remove e ≡ true → removes s e k ≡ false → is_done_at e k ≡ false → Same k s (after s e said)
  unfolding after removes
  others_stay s (events.Exit i t places) said may out other =
      some-same (task_at s i t) s _ (λ x is. exit-same s i places x other (sym (ap (λ o. is_some_and o (λ (y : TaskAt). list_any (under_item s i k) (y.number ∷ y.task.drop_tasks))) is) ∙ out))
  others_stay s (events.Finish n) said may out other = drop-same s.sites (case_ident n) out
  others_stay s (events.Cancel n) said may out other = drop-same s.sites (case_ident n) out
  others_stay s (events.CompleteSub j) said may out other = ended-same s j made_by_child other out
  others_stay s (events.CompleteWorklet j) said may out other = ended-same s j made_by_worklet other out
  others_stay s (events.Prim r p) said may out other = let parts = or_parts (same k r) (is_changed r p k) other in taken-same s r p parts.0 parts.1 out
  others_stay s (events.Compensated r) said may out other = compensated-same s r other out
  others_stay s e said may out other = never may
