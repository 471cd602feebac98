-- What an event does to the item at an identity.
use Rattle.std.specs.Prelude.{◌≡◌, ◌&&◌, ℕ, Bool, true, false, cond, not, List, [], ◌∷◌, fold, length, Option, Some, None, option_and_then, option_map, unwrap_or, refl, if◌then◌else◌}
use Rattle.std.specs.List.{All, range_with_len, zip}
use Rattle.std.proofs.Common.{sym, ◌∙◌, ap, subst}
use Rattle.std.proofs.lemmas.List.Elements.{All-head, All-tail}
use Rattle.std.specs.Ordering.{eq_by_cmp}
use Rattle.yw_moved.proofs.Parents.{not_under_child, same_itself}
use Rattle.yw_spec.specs.declared.spec.Net.{Net}
use Rattle.yw_spec.specs.declared.spec.Place.{Place}
use Rattle.yw_spec.specs.declared.spec.Spec.{Spec}
use Rattle.yw_state.proofs.Absent.{part-kept}
use Rattle.yw_state.proofs.Elsewhere.{children}
use Rattle.yw_state.proofs.MapLemmas.{by_name, get-insert, get-retain_kept, get-update_same}
use Rattle.yw_state.proofs.Tests.{by_test}
use Rattle.yw_base.specs.Identity.{under, child}
use Rattle.yw_state.specs.After.{add_item, add_items, begin_at, begun, change, complete, completed, exit, idents, items_gone, make_due, net_numbered, new_item, new_net, produce, region_emptied, stands, start_sub, values_assigned, where_some, wipe, with_item, with_net, with_sites, without_items}
use Rattle.yw_state.specs.Allowed.{place_numbers}
use Rattle.yw_state.specs.ByName.{first_values, given_named}
use Rattle.yw_state.specs.Identity.{Ident, is_child, same, strictly_under}
use Rattle.yw_state.specs.Judged.{case_place}
use Rattle.yw_state.specs.Map.{get, insert, lexical, retain}
use Rattle.yw_state.specs.State.{State, Site, Sites, ItemAt, ItemPart, NetPart, TaskAt, bare, drop, drop_all, item_part, items_of, spec_called, without_net}
use Rattle.yw_state.specs.Values.{Row}
use Rattle.yw_state.specs.declared.part.Checks.{Checks}
use Rattle.yw_state.specs.declared.tree.TreeKind.TheVariants.{Post}

module _ (q : Ident) where
  -- the same item stands at q, or none does in both
  abbrev pub SameItem : State → State → Type 0
  SameItem s t = item_part t q ≡ item_part s q

  pub site-item : (s t : State) → get t.sites q ≡ get s.sites q → SameItem s t
  site-item s t here = ap (option_and_then (λ (x : Site). x.item)) here

  pub change-item : (s : State) (j : Ident) (f : Site → Site) → ((x : Site) → (f x).item ≡ x.item) → SameItem s (change s j f)
  change-item s j f leaves = part-kept (λ x. x.item) f leaves s.sites j q

  pub net-item : (s : State) (i : Ident) (f : NetPart → NetPart) → SameItem s (change s i (with_net f))
  net-item s i f = change-item s i (with_net f) (λ x. refl)

  pub some-item : {A : Type 0} (P : Option ItemPart → Type 0) (o : Option A) (s : State) (f : A → State) → P (item_part s q) → ((x : A) → P (item_part (f x) q))
      → P (item_part (where_some o s f) q)
  some-item P None s f none each = none
  some-item P (Some x) s f none each = each x

  either-item : (b : Bool) (s t u : State) → SameItem s t → SameItem s u → SameItem s (if b then t else u)
  either-item true s t u there here = there
  either-item false s t u there here = here

  -- ---- a task of the net at q exits

  abbrev IsBelow : Ident × ItemPart → Type 0
  IsBelow e = is_child e.0 q ≡ true

  drop_all-item : (es : List (Ident × ItemPart)) (m : Sites) → All IsBelow es → get (drop_all m (idents es)) q ≡ get m q
  drop_all-item [] m below = refl
  drop_all-item (e ∷ es) m below =
      drop_all-item es (drop m e.0) (All-tail IsBelow e es below)
      ∙ get-retain_kept by_name m _ q (ap not (not_under_child e.0 q (All-head IsBelow e es below)))

  without-item : (s : State) (n : ℕ) → SameItem s (without_items q s n)
  without-item s n = site-item s (without_items q s n) (drop_all-item (items_of s q n) s.sites (children s q n))

  each-item : (ns : List ℕ) (s : State) → SameItem s (fold (without_items q) s ns)
  each-item [] s = refl
  each-item (n ∷ ns) s = each-item ns (without_items q s n) ∙ without-item s n

  pub exit-item : (s : State) (places : List Place) (x : TaskAt) → SameItem s (exit s q places x)
  exit-item s places x =
      let cs : List ℕ = unwrap_or (place_numbers x.within.net places) [] in
      let gone : State = items_gone s q x in
      let assigned : State = values_assigned s q x in
      let wiped : State = wipe assigned q x.task.drop_places in
      let emptied : State = region_emptied s q x in
      let put : State = produce emptied q cs in
      let before : SameItem s wiped = net-item assigned q _ ∙ net-item gone q _ ∙ without-item s x.number in
      let there : SameItem s put = net-item emptied q _ ∙ each-item x.task.drop_tasks wiped ∙ before in
      either-item _ s (make_due put q (case_place x.within.part.spec Post)) put (change-item put q _ (λ y. refl) ∙ there) there

  -- ---- items come

  module _ {A : Type 0} (part : Site → Option A) where
    abbrev Lacks : Sites → Type 0
    Lacks m = option_and_then part (get m q) ≡ None

    insert-lacks : (m : Sites) (j : Ident) (x : Site) → part x ≡ None → Lacks m → Lacks (insert m j x)
    insert-lacks m j x new none =
        ap (option_and_then part) (get-insert by_name m j x q)
        ∙ by_test (eq_by_cmp lexical q j)
        (λ here. ap (λ b. option_and_then part (cond b (Some x) (get m q))) here ∙ new)
        (λ there. ap (λ b. option_and_then part (cond b (Some x) (get m q))) there ∙ none)

    module _ (new : (n : ℕ) (given : Row) (due : Checks) → part (new_item n given due) ≡ None) where
      fold-lacks : (x : TaskAt) (i : Ident) (due : Checks) (es : List (ℕ × Row)) (s : State) → Lacks s.sites → Lacks (fold (add_item x i due) s es).sites
      fold-lacks x i due [] s none = none
      fold-lacks x i due (e ∷ es) s none =
          fold-lacks x i due es (add_item x i due s e) (insert-lacks s.sites (child i e.0) _ (new x.number e.1 due) none)

      -- what no item has as it comes, is nowhere where it wasn't
      pub items-lack : (x : TaskAt) (i : Ident) (first : ℕ) (rows : List Row) (s : State) → Lacks s.sites → Lacks (add_items x i first rows s).sites
      items-lack x i first rows s none = fold-lacks x i _ (zip (range_with_len first (length rows)) rows) s none

  -- ---- the item itself is changed

  changed_part : (f : ItemPart → ItemPart) (g : Site → Site) → ((x : Site) → (g x).item ≡ option_map f x.item) → (o : Option Site)
      → option_and_then (λ (x : Site). x.item) (option_map g o) ≡ option_map f (option_and_then (λ (x : Site). x.item) o)
  changed_part f g does None = refl
  changed_part f g does (Some x) = does x

  pub own-item : (s : State) (f : ItemPart → ItemPart) (g : Site → Site) → ((x : Site) → (g x).item ≡ option_map f x.item)
      → item_part (change s q g) q ≡ option_map f (item_part s q)
  own-item s f g does = ap (option_and_then (λ (x : Site). x.item)) (get-update_same by_name s.sites q g) ∙ changed_part f g does (get s.sites q)

  pub completed-item : (s : State) (out : Row) (x : ItemAt) → item_part (complete s q out x) q ≡ option_map (completed out) (item_part s q)
  completed-item s out x =
      change-item (change s q (with_item (completed out))) q _ (λ y. refl) ∙ own-item s (completed out) (with_item (completed out)) (λ y. refl)

  -- it begins with a net, or stays
  pub started-item : (P : Option ItemPart → Type 0) (s : State) (x : ItemAt) → P (item_part s q) → P (option_map (begun x.part.who) (item_part s q))
      → P (item_part (start_sub s q x) q)
  started-item P s x stays begins =
      some-item P (option_and_then (λ (spec : Spec). net_numbered spec x.of_task.task) (spec_called s x.of_task.within.part.spec)) s
      (λ (e : ℕ × Net). begin_at s q x.of_task.within.part.spec e.0 (given_named x) x.part.who e.1) stays
      (λ e. subst P
      (sym (own-item s (begun x.part.who)
      (λ (y : Site). stands (new_net x.of_task.within.part.spec e.0 e.1 (first_values (given_named x) e.1)) (with_item (begun x.part.who) y)) (λ y. refl)))
      begins)

  -- its net goes, with all below it
  pub bared-item : (s : State) → item_part (with_sites s (bare s.sites q)) q ≡ item_part s q
  bared-item s =
      part-kept (λ x. x.item) without_net (λ x. refl) (retain s.sites (λ k. not (strictly_under k q))) q q
      ∙ ap (option_and_then (λ (x : Site). x.item)) (get-retain_kept by_name s.sites _ q stays)
    where
      stays : not (strictly_under q q) ≡ true
      stays = ap not (out (under q q) (same q q) (same_itself q))
        where
          out : (a b : Bool) → b ≡ true → (a && not b) ≡ false
          out true b e = ap not e
          out false b e = refl
