-- One site is changed at j by f: what stands, is marked and is due then, by what stood there before.
use Rattle.std.specs.Prelude.{◌≡◌, ◌⊎◌, ◌&&◌, ◌||◌, Bool, true, false, Option, Some, None, is_some, option_map, option_and_then, refl, if◌then◌else◌}
use Rattle.std.proofs.Common.{sym, ◌∙◌, ap, inl, inr}
use Rattle.yw_state.proofs.Alike.{asked_of, due_test, has_part, item_in}
use Rattle.yw_state.proofs.ChangeWell.{changed_or_same, passed_before}
use Rattle.yw_state.proofs.ItemsAlike.{composite_alike}
use Rattle.yw_state.proofs.MapLemmas.{by_name, by_option, get-update_same, never, update_stands}
use Rattle.yw_state.specs.After.{change}
use Rattle.yw_state.specs.Identity.{Ident}
use Rattle.yw_base.specs.Identity.{parent}
use Rattle.yw_state.specs.Judged.{has_rule}
use Rattle.yw_state.specs.Map.{get}
use Rattle.yw_state.specs.Options.{is_some_and}
use Rattle.yw_state.specs.State.{State, Site, NetPart, ItemPart, ItemAt, NetAt, due_at, is_target, item_at, item_part, net_at, net_part, run_part, task_in}
use Rattle.yw_state.specs.Well.{NumbersFit, ParentsStand, MarksStand, Stands, is_child_of, is_composite, is_top, wants_net}
use Rattle.yw_state.specs.Words.{has_check, is_ready}
use Rattle.yw_state.specs.declared.tree.TreeKind.{TreeKind}
use Rattle.yw_state.specs.declared.tree.TreeKind.TheVariants.{Select}

pub some_mapped : {A : Type 0} (m : A → A) (o : Option A) → is_some (option_map m o) ≡ is_some o
some_mapped m None = refl
some_mapped m (Some x) = refl

-- what is there now was there before, perhaps otherwise
pub was_there : {A : Type 0} (now before : Option A) → is_some now ≡ is_some before → (x : A) → now ≡ Some x → (y : A) × (before ≡ Some y)
was_there now before same x e =
    by_option before
    (λ none. never (sym (ap is_some none) ∙ sym same ∙ ap is_some e))
    (λ y some. (y, some))

-- an item's net is the one that it wants
abbrev pub stands_right : State → NetPart → ItemAt → Bool
stands_right s n x = wants_net x && (if is_composite x then is_child_of x n else is_top s n)

abbrev pub renewed : (ItemPart → ItemPart) → ItemAt → ItemAt
renewed g x = record x { part = g x.part }

in_net : (g : ItemPart → ItemPart) → ((x : ItemPart) → (g x).task ≡ x.task) → (x : ItemPart) (net : Option NetAt) → item_in (Some (g x)) net ≡ option_map (renewed g) (item_in (Some x) net)
in_net g task x None = refl
in_net g task x (Some n) =
    ap (λ k. option_map (λ t. record { part = g x; of_task = t }) (task_in n k)) (task x)
    ∙ by_option (task_in n x.task)
    (λ none. ap (option_map (λ t. record { part = g x; of_task = t })) none ∙ sym (ap (λ o. option_map (renewed g) (option_map (λ t. record { part = x; of_task = t }) o)) none))
    (λ t some. ap (option_map (λ t. record { part = g x; of_task = t })) some ∙ sym (ap (λ o. option_map (renewed g) (option_map (λ t. record { part = x; of_task = t }) o)) some))

module _ (s : State) (j : Ident) (f : Site → Site) where
  abbrev t : State
  t = change s j f

  -- ---- numbers

  pub numbers_kept : NumbersFit s → NumbersFit t
  numbers_kept numbers =
      record {
        least = numbers.least;
        most = numbers.most;
        identities = λ k y e. let x = update_stands by_name s.sites j f k y e in numbers.identities k x.0 x.1;
        drawn = λ k y e. let x = update_stands by_name s.sites j f k y e in numbers.drawn k x.0 x.1;
        ended_some = numbers.ended_some;
        ended_drawn = numbers.ended_drawn;
        over = λ k y e. let x = update_stands by_name s.sites j f k y e in numbers.over k x.0 x.1;
      }

  -- ---- a part of the site, of which f makes m

  module _ {A : Type 0} (part : Site → Option A) (m : A → A) (made : (x : Site) → part (f x) ≡ option_map m (part x)) where
    mapped : (o : Option Site) → option_and_then part (option_map f o) ≡ option_map m (option_and_then part o)
    mapped None = refl
    mapped (Some x) = made x

    pub made_here : option_and_then part (get t.sites j) ≡ option_map m (option_and_then part (get s.sites j))
    made_here = ap (option_and_then part) (get-update_same by_name s.sites j f) ∙ mapped (get s.sites j)

    made_or_same : (k : Ident)
        → (k ≡ j) × (option_and_then part (get t.sites k) ≡ option_map m (option_and_then part (get s.sites k))) ⊎ (option_and_then part (get t.sites k) ≡ option_and_then part (get s.sites k))
    made_or_same k =
        elim (changed_or_same s.sites j f k) [
          | inl here ↦ inl (here.0, ap (option_and_then part) here.1 ∙ mapped (get s.sites k))
          | inr there ↦ inr (ap (option_and_then part) there)
        ]

    pub there_same : (k : Ident) → is_some (option_and_then part (get t.sites k)) ≡ is_some (option_and_then part (get s.sites k))
    there_same k =
        elim (made_or_same k) [
          | inl here ↦ ap is_some here.1 ∙ some_mapped m (option_and_then part (get s.sites k))
          | inr there ↦ ap is_some there
        ]

  -- ---- parents, where runs stay, and nets and items stand where they did

  module _
      (nets : (k : Ident) → is_some (net_part t k) ≡ is_some (net_part s k))
      (parts : (k : Ident) → is_some (item_part t k) ≡ is_some (item_part s k))
      (items : (k : Ident) → is_some (item_at t k) ≡ is_some (item_at s k))
      (runs : (k : Ident) → run_part t k ≡ run_part s k)
      (target : (k : Ident) → is_target t k ≡ is_target s k) where
    pub parents_kept : ParentsStand s → ParentsStand t
    parents_kept parents =
        record {
          item_depth = λ k x e. let y = was_there _ _ (parts k) x e in parents.item_depth k y.0 y.1;
          item_of_net = λ k x e. let y = was_there _ _ (parts k) x e in items k ∙ parents.item_of_net k y.0 y.1;
          run_depth = λ k r e. parents.run_depth k r (sym (runs k) ∙ e);
          run_of_target = λ k r e. target (parent k) ∙ parents.run_of_target k r (sym (runs k) ∙ e);
          run_works = λ k r e. parents.run_works k r (sym (runs k) ∙ e);
          one_run = λ k l a b. parents.one_run k l (ap is_some (sym (runs k)) ∙ a) (ap is_some (sym (runs l)) ∙ b);
          not_both = λ k a. ap is_some (runs k) ∙ parents.not_both k (sym (parts k) ∙ a);
          something = λ k y e.
              let x = update_stands by_name s.sites j f k y e in
              sym (ap has_part e)
              ∙ ap (λ b. b || is_some (item_part t k) || is_some (run_part t k)) (nets k)
              ∙ ap (λ b. is_some (net_part s k) || b || is_some (run_part t k)) (parts k)
              ∙ ap (λ o. is_some (net_part s k) || is_some (item_part s k) || is_some o) (runs k)
              ∙ ap has_part x.1
              ∙ parents.something k x.0 x.1;
        }

  -- ---- marks, where f makes none but what may be there

  is_due : (k : Ident) (kind : TreeKind) → has_check (due_at t k) kind ≡ true → is_some_and (get t.sites k) (λ x. has_check x.due kind) ≡ true
  is_due k kind e = sym (due_test kind (get t.sites k)) ∙ e

  module _
      (target : (k : Ident) → is_target t k ≡ is_target s k)
      (rule : (k : Ident) (kind : TreeKind) → has_rule t k kind ≡ has_rule s k kind)
      (suspended : (x : Site) → Stands s j x → (f x).suspended ≡ true → is_target s j ≡ true)
      (due : (x : Site) → Stands s j x → (kind : TreeKind) → has_check (f x).due kind ≡ true → (is_target s j ≡ true) × (has_rule s j kind ≡ true))
      (select : (x : Site) → Stands s j x → has_check (f x).due Select ≡ true → is_some_and (f x).item (λ y. is_ready y.stage) ≡ true) where
    pub marks_kept : MarksStand s → MarksStand t
    marks_kept marks =
        record {
          suspended = λ k e. target k ∙ passed_before s j f (λ x. x.suspended) (λ i. is_target s i ≡ true) suspended marks.suspended k e;
          due = λ k kind e.
              target k
              ∙ passed_before s j f (λ x. has_check x.due kind) (λ i. is_target s i ≡ true) (λ x stands h. (due x stands kind h).0) (λ i h. marks.due i kind (due_test kind (get s.sites i) ∙ h)) k (is_due k kind e);
          due_has_rule = λ k kind e.
              rule k kind
              ∙ passed_before s j f (λ x. has_check x.due kind) (λ i. has_rule s i kind ≡ true) (λ x stands h. (due x stands kind h).1) (λ i h. marks.due_has_rule i kind (due_test kind (get s.sites i) ∙ h)) k (is_due k kind e);
          select = λ k e. ready_now k (changed_or_same s.sites j f k) (is_due k Select e);
        }
      where
        ready_now : (k : Ident) → (k ≡ j) × (get t.sites k ≡ option_map f (get s.sites k)) ⊎ (get t.sites k ≡ get s.sites k) → is_some_and (get t.sites k) (λ x. has_check x.due Select) ≡ true → is_some_and (item_part t k) (λ y. is_ready y.stage) ≡ true
        ready_now k (inr there) e =
            ap (λ o. is_some_and (option_and_then (λ (x : Site). x.item) o) (λ (y : ItemPart). is_ready y.stage)) there
            ∙ marks.select k (due_test Select (get s.sites k) ∙ ap (λ o. is_some_and o (λ (x : Site). has_check x.due Select)) (sym there) ∙ e)
        ready_now k (inl same) e =
            by_option (get s.sites k)
            (λ none. never (ap (λ o. is_some_and (option_map f o) (λ (x : Site). has_check x.due Select)) (sym none) ∙ ap (λ o. is_some_and o (λ (x : Site). has_check x.due Select)) (sym same.1) ∙ e))
            (λ x some.
            ap (λ o. is_some_and (option_and_then (λ (y : Site). y.item) o) (λ (y : ItemPart). is_ready y.stage)) (same.1 ∙ ap (option_map f) some)
            ∙ select x (ap (get s.sites) (sym same.0) ∙ some)
            (ap (λ o. is_some_and (option_map f o) (λ (y : Site). has_check y.due Select)) (sym some) ∙ ap (λ o. is_some_and o (λ (y : Site). has_check y.due Select)) (sym same.1) ∙ e))

-- ---- items, where the one at j becomes g of it and keeps its task, and each has the net that it had

pub record Renews (s : State) (j : Ident) (f : Site → Site) (g : ItemPart → ItemPart) : Type 0 where
  pub item : (x : Site) → (f x).item ≡ option_map g x.item
  pub task : (x : ItemPart) → (g x).task ≡ x.task
  pub net : (k : Ident) (x : ItemPart) → item_part s k ≡ Some x → net_at (change s j f) (parent k) ≡ net_at s (parent k)

module _ {s : State} {j : Ident} {f : Site → Site} {g : ItemPart → ItemPart} (renews : Renews s j f g) where
  abbrev now : State
  now = change s j f

  renewed_in : (k : Ident) → item_part now k ≡ option_map g (item_part s k) → item_at now k ≡ option_map (renewed g) (item_at s k)
  renewed_in k part =
      by_option (item_part s k)
      (λ none. ap (λ o. item_in o (net_at now (parent k))) (part ∙ ap (option_map g) none) ∙ sym (ap (λ o. option_map (renewed g) (item_in o (net_at s (parent k)))) none))
      (λ x some.
      ap (λ o. item_in o (net_at now (parent k))) (part ∙ ap (option_map g) some)
      ∙ ap (item_in (Some (g x))) (renews.net k x some)
      ∙ in_net g renews.task x (net_at s (parent k))
      ∙ sym (ap (λ o. option_map (renewed g) (item_in o (net_at s (parent k)))) some))

  pub same_in : (k : Ident) → item_part now k ≡ item_part s k → item_at now k ≡ item_at s k
  same_in k part =
      by_option (item_part s k)
      (λ none. ap (λ o. item_in o (net_at now (parent k))) (part ∙ none) ∙ sym (ap (λ o. item_in o (net_at s (parent k))) none))
      (λ x some.
      ap (λ o. item_in o (net_at now (parent k))) (part ∙ some)
      ∙ ap (item_in (Some x)) (renews.net k x some)
      ∙ sym (ap (λ o. item_in o (net_at s (parent k))) some))

  pub renewed_here : item_at now j ≡ option_map (renewed g) (item_at s j)
  renewed_here = renewed_in j (made_here s j f (λ x. x.item) g renews.item)

  pub renewed_or_same : (k : Ident) → (k ≡ j) × (item_at now k ≡ option_map (renewed g) (item_at s k)) ⊎ (item_at now k ≡ item_at s k)
  renewed_or_same k =
      elim (made_or_same s j f (λ x. x.item) g renews.item k) [
        | inl here ↦ inl (here.0, renewed_in k here.1)
        | inr there ↦ inr (same_in k there)
      ]

  -- a test of items that g keeps
  item_test_same : (test : Option ItemAt → Bool) → ((o : Option ItemAt) → test (option_map (renewed g) o) ≡ test o) → (k : Ident) → test (item_at now k) ≡ test (item_at s k)
  item_test_same test kept k =
      elim (renewed_or_same k) [
        | inl here ↦ ap test here.1 ∙ kept (item_at s k)
        | inr there ↦ ap test there
      ]

  pub has_item_same : (k : Ident) → is_some (item_at now k) ≡ is_some (item_at s k)
  has_item_same = item_test_same is_some (some_mapped (renewed g))

  pub nested_same : (k : Ident) → is_some_and (item_at now k) is_composite ≡ is_some_and (item_at s k) is_composite
  nested_same = item_test_same (λ o. is_some_and o is_composite) (composite_alike f g renews.item renews.task)

  pub asked_same : (of_case : Bool) (n : Option NetPart) (k : Ident) (kind : TreeKind) → asked_of of_case s n (item_at now k) kind ≡ asked_of of_case s n (item_at s k) kind
  asked_same of_case n k kind = item_test_same (λ x. asked_of of_case s n x kind) (kept of_case) k
    where
      kept : (b : Bool) (o : Option ItemAt) → asked_of b s n (option_map (renewed g) o) kind ≡ asked_of b s n o kind
      kept true o = refl
      kept false None = refl
      kept false (Some x) = refl
