-- An item goes on, and keeps its task, and the net at it: what is well stays well.
use Rattle.std.specs.Prelude.{◌≡◌, ◌≤◌, ◌⊎◌, ◌&&◌, ◌||◌, true, Some, is_some, option_map, option_and_then, refl, if◌then◌else◌}
use Rattle.std.proofs.Common.{sym, ◌∙◌, ap, subst, inl, inr}
use Rattle.yw_state.proofs.Alike.{asked_of, net_by}
use Rattle.yw_state.proofs.ChangeWell.{read_kept}
use Rattle.yw_state.proofs.ItemsAlike.{as_many_items}
use Rattle.yw_state.proofs.NetLevels.{deep_alike}
use Rattle.yw_state.proofs.Unchanged.{content_stays}
use Rattle.yw_state.proofs.MapLemmas.{by_option, nowhere, some_same}
use Rattle.yw_state.proofs.Updated.{Renews, asked_same, has_item_same, marks_kept, nested_same, numbers_kept, parents_kept, renewed, renewed_here, renewed_or_same, stands_right, there_same}
use Rattle.yw_state.specs.After.{change}
use Rattle.yw_state.specs.Identity.{Ident, is_case_ident}
use Rattle.yw_base.specs.Identity.{parent}
use Rattle.yw_state.specs.Judged.{has_rule}
use Rattle.yw_state.specs.Map.{update}
use Rattle.yw_state.specs.Options.{is_some_and}
use Rattle.yw_state.specs.State.{State, Site, Sites, ItemPart, ItemAt, is_target, item_at, item_part, net_at, net_part, run_part}
use Rattle.yw_state.specs.Texts.{Reader}
use Rattle.yw_state.specs.Well.{NetsStand, ContentFits, IsWell, ItemFits, Stands, is_child_of, is_composite, is_top, item_limit, wants_net}
use Rattle.yw_state.specs.Words.{has_check, is_ready}
use Rattle.yw_state.specs.declared.tree.TreeKind.{TreeKind}
use Rattle.yw_state.specs.declared.tree.TreeKind.TheVariants.{Select}

-- the item at j becomes g of it
pub record GoesOn (s : State) (j : Ident) (f : Site → Site) (g : ItemPart → ItemPart) : Type 0 where
  pub net : (x : Site) → (f x).net ≡ x.net
  pub run : (x : Site) → (f x).run ≡ x.run
  pub item : (x : Site) → (f x).item ≡ option_map g x.item
  pub task : (x : ItemPart) → (g x).task ≡ x.task
  pub suspended : (x : Site) → Stands s j x → (f x).suspended ≡ true → is_target s j ≡ true
  pub due : (x : Site) → Stands s j x → (kind : TreeKind) → has_check (f x).due kind ≡ true → (is_target s j ≡ true) × (has_rule s j kind ≡ true)
  pub select : (x : Site) → Stands s j x → has_check (f x).due Select ≡ true → is_some_and (f x).item (λ y. is_ready y.stage) ≡ true
  pub wants : (x : ItemAt) → item_at s j ≡ Some x → wants_net (renewed g x) ≡ wants_net x
  pub fits : (x : ItemAt) → item_at s j ≡ Some x → ItemFits (renewed g x)

module _ (s : State) (j : Ident) (f : Site → Site) (g : ItemPart → ItemPart) (goes : GoesOn s j f g) where
  abbrev sites : Sites
  sites = update s.sites j f

  abbrev t : State
  t = change s j f

  net_same : (k : Ident) → net_part t k ≡ net_part s k
  net_same k = read_kept s.sites j f (λ x. x.net) goes.net k

  run_same : (k : Ident) → run_part t k ≡ run_part s k
  run_same k = read_kept s.sites j f (λ x. x.run) goes.run k

  net_at_same : (k : Ident) → net_at t k ≡ net_at s k
  net_at_same k = ap (option_and_then (net_by s)) (net_same k)

  renews : Renews s j f g
  renews = record { item = goes.item; task = goes.task; net = λ k x e. net_at_same (parent k) }

  pub item_renewed : item_at t j ≡ option_map (renewed g) (item_at s j)
  item_renewed = renewed_here renews

  is_item_same : (k : Ident) → is_some (item_part t k) ≡ is_some (item_part s k)
  is_item_same = there_same s j f (λ x. x.item) g goes.item

  pub target_same : (k : Ident) → is_target t k ≡ is_target s k
  target_same k =
      ap (λ o. is_case_ident k && is_some o || is_some (item_part t k)) (net_same k)
      ∙ ap (λ b. is_case_ident k && is_some (net_part s k) || b) (is_item_same k)

  has_rule_same : (k : Ident) (kind : TreeKind) → has_rule t k kind ≡ has_rule s k kind
  has_rule_same k kind =
      ap (λ n. asked_of (is_case_ident k) s n (item_at t k) kind) (net_same k)
      ∙ asked_same renews (is_case_ident k) (net_part s k) k kind

  -- the item behind one that stands now
  item_before : (k : Ident) (x : ItemAt) → item_at t k ≡ Some x → (y : ItemAt) × (item_at s k ≡ Some y) × ((x ≡ y) ⊎ ((k ≡ j) × (x ≡ renewed g y)))
  item_before k x e = of_items (renewed_or_same renews k)
    where
      of_some : k ≡ j → option_map (renewed g) (item_at s k) ≡ Some x → (y : ItemAt) × (item_at s k ≡ Some y) × ((x ≡ y) ⊎ ((k ≡ j) × (x ≡ renewed g y)))
      of_some same f =
          by_option (item_at s k)
          (λ none. nowhere (ap (option_map (renewed g)) (sym none) ∙ f))
          (λ y some. (y, some, inr (same, some_same x (renewed g y) (sym f ∙ ap (option_map (renewed g)) some))))

      of_items : (k ≡ j) × (item_at t k ≡ option_map (renewed g) (item_at s k)) ⊎ (item_at t k ≡ item_at s k) → (y : ItemAt) × (item_at s k ≡ Some y) × ((x ≡ y) ⊎ ((k ≡ j) × (x ≡ renewed g y)))
      of_items (inl same) = of_some same.0 (sym same.1 ∙ e)
      of_items (inr there) = (x, sym there ∙ e, inl refl)

  -- a fact of an item that is kept where it goes on
  of_item_now : (P : Ident → ItemAt → Type 0) → ((k : Ident) (y : ItemAt) → item_at s k ≡ Some y → P k y) → ((y : ItemAt) → item_at s j ≡ Some y → P j (renewed g y)) → (k : Ident) (x : ItemAt) → item_at t k ≡ Some x → P k x
  of_item_now P old new k x e = of_before (item_before k x e)
    where
      of_before : (y : ItemAt) × (item_at s k ≡ Some y) × ((x ≡ y) ⊎ ((k ≡ j) × (x ≡ renewed g y))) → P k x
      of_before (y, some, inl same) = subst (P k) (sym same) (old k y some)
      of_before (y, some, inr here) = subst (P k) (sym here.1) (subst (λ i. P i (renewed g y)) (sym here.0) (new y (ap (item_at s) (sym here.0) ∙ some)))

  -- ---- the parts

  nets_kept : NetsStand s → NetsStand t
  nets_kept nets =
      record {
        of_case = λ k n e. nets.of_case k n (sym (net_same k) ∙ e);
        of_item = λ k n x e h.
            of_item_now (λ i y. net_part s i ≡ Some n → stands_right s n y ≡ true) (λ i y some f. nets.of_item i n y f some)
            (λ y some f. ap (λ b. b && (if is_composite y then is_child_of y n else is_top s n)) (goes.wants y some) ∙ nets.of_item j n y f some)
            k x h (sym (net_same k) ∙ e);
        of_run = λ k n r e f. nets.of_run k n r (sym (net_same k) ∙ e) (sym (run_same k) ∙ f);
        at_something = λ k n e.
            ap (λ b. is_case_ident k || b || is_some (run_part t k)) (is_item_same k)
            ∙ ap (λ o. is_case_ident k || is_some (item_part s k) || is_some o) (run_same k)
            ∙ nets.at_something k n (sym (net_same k) ∙ e);
        item_has = λ k x e wants. ap is_some (net_same k) ∙ of_item_now (λ i y. wants_net y ≡ true → is_some (net_part s i) ≡ true) nets.item_has (λ y some w. nets.item_has j y some (sym (goes.wants y some) ∙ w)) k x e wants;
        run_has = λ k r e waits. ap is_some (net_same k) ∙ nets.run_has k r (sym (run_same k) ∙ e) waits;
      }

  content_kept : (reader : Reader) → ContentFits reader s → ContentFits reader t
  content_kept reader content =
      content_stays reader s sites s.next s.ended content (record {
        of_spec = λ k n e. ap is_some (net_at_same k) ∙ content.of_spec k n (sym (net_same k) ∙ e);
        net = λ k n e. content.net k n (sym (net_at_same k) ∙ e);
        item = of_item_now (λ k x. ItemFits x) content.item goes.fits;
        count = λ i n k task e h.
            subst (λ count. count ≤ item_limit task.many) (sym (as_many_items f g goes.item goes.task s j i k)) (content.count i n k task (sym (net_at_same i) ∙ e) h);
        run_length = λ k r e. content.run_length k r (sym (run_same k) ∙ e);
        run_fit = λ k r e. content.run_fit k r (sym (run_same k) ∙ e);
      })

  pub going_on_is_well : (reader : Reader) → IsWell reader s → IsWell reader t
  going_on_is_well reader well =
      record {
        numbers = numbers_kept s j f well.numbers;
        nets = nets_kept well.nets;
        parents = parents_kept s j f (λ k. ap is_some (net_same k)) is_item_same (has_item_same renews) run_same target_same well.parents;
        marks = marks_kept s j f target_same has_rule_same goes.suspended goes.due goes.select well.marks;
        content = content_kept reader well.content;
        depth = λ k n e. deep_alike s t (nested_same renews) k (well.depth k n (sym (net_same k) ∙ e));
      }
