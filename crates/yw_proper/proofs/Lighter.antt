-- What keeps or takes away what stands makes no net heavier.
use Rattle.std.specs.Prelude.{◌≡◌, ◌≤◌, ◌*◌, ℕ, Bool, true, false, List, [], ◌∷◌, cond, length, not, Option, Some, None, option_and_then, option_map, slice_get, unwrap_or, refl, if◌then◌else◌}
use Rattle.std.specs.Ordering.{eq_by_cmp}
use Rattle.std.proofs.Common.{sym, ◌∙◌, ap, subst, inl, inr, arith, le_trans}
use Rattle.std.proofs.Math.Nat.{mul-le-mul_right}
use Rattle.yw_base.specs.Identity.{under}
use Rattle.yw_proper.proofs.Active.{active_item, item_active}
use Rattle.yw_proper.proofs.Sums.{total_less}
use Rattle.yw_proper.specs.Load.{IsNetOf, load, tasks_weigh, tokens_weigh}
use Rattle.yw_proper.specs.Proper.{weight_of_place, weight_of_task}
use Rattle.yw_spec.specs.declared.spec.Net.{Net}
use Rattle.yw_spec.specs.declared.spec.Spec.{Spec}
use Rattle.yw_state.proofs.ChangeWell.{changed_or_same}
use Rattle.yw_state.proofs.MapLemmas.{by_name, get-insert, get-retain}
use Rattle.yw_state.proofs.Tests.{never, nowhere, some_same}
use Rattle.yw_state.specs.After.{change, count_on, put, where_some, with_sites}
use Rattle.yw_state.specs.Identity.{Ident}
use Rattle.yw_state.specs.Map.{get, lexical, retain}
use Rattle.yw_state.specs.State.{State, Site, NetPart, ItemPart, drop, drop_all, item_part, net_part, spec_called, tokens_on}
use Rattle.yw_state.specs.Words.{active}
use Rattle.yw_state.specs.declared.loaded.Loaded.{Loaded}

-- The net stood before, and had as many tokens on each place or more.
pub record Lighter (before now : NetPart) : Type 0 where
  pub spec : now.spec ≡ before.spec
  pub net : now.net ≡ before.net
  pub fewer : (c : ℕ) → count_on now.tokens c ≤ count_on before.tokens c

abbrev pub NetFrom : Option NetPart → Option NetPart → Type 0
NetFrom before now = (m : NetPart) → now ≡ Some m → (n : NetPart) × (before ≡ Some n) × Lighter n m

-- the item stood before, and was of the same task
abbrev pub ItemFrom : Option ItemPart → Option ItemPart → Type 0
ItemFrom before now = (y : ItemPart) → now ≡ Some y → (x : ItemPart) × (before ≡ Some x) × (y.task ≡ x.task)

pub net_itself : (o : Option NetPart) → NetFrom o o
net_itself o m e = (m, e, record { spec = refl; net = refl; fewer = λ c. omega arith })

pub net_gone : (o : Option NetPart) → NetFrom o None
net_gone o m e = nowhere e

pub net_mapped : (g : NetPart → NetPart) → ((n : NetPart) → Lighter n (g n)) → (o : Option NetPart) → NetFrom o (option_map g o)
net_mapped g lighter None m e = nowhere e
net_mapped g lighter (Some n) m e = (n, refl, subst (Lighter n) (some_same (g n) m e) (lighter n))

pub item_itself : (o : Option ItemPart) → ItemFrom o o
item_itself o y e = (y, e, refl)

pub item_gone : (o : Option ItemPart) → ItemFrom o None
item_gone o y e = nowhere e

pub item_mapped : (g : ItemPart → ItemPart) → ((x : ItemPart) → (g x).task ≡ x.task) → (o : Option ItemPart) → ItemFrom o (option_map g o)
item_mapped g task None y e = nowhere e
item_mapped g task (Some x) y e = (x, refl, ap (λ (z : ItemPart). z.task) (sym (some_same (g x) y e)) ∙ task x)

-- ---- a part of what stands, under each change

module _ {A : Type 0} (part : Site → Option A) (R : Option A → Option A → Type 0) (same : (o : Option A) → R o o) where
  abbrev part_at : State → Ident → Option A
  part_at s q = option_and_then part (get s.sites q)

  pub changed_from : (s : State) (j : Ident) (f : Site → Site) → ((x : Site) → R (part x) (part (f x))) → (q : Ident) → R (part_at s q) (part_at (change s j f) q)
  changed_from s j f each q =
      elim (changed_or_same s.sites j f q) [
        | inl here ↦ subst (λ o. R (part_at s q) (option_and_then part o)) (sym here.1) (mapped (get s.sites q))
        | inr there ↦ subst (λ o. R (part_at s q) (option_and_then part o)) (sym there) (same (part_at s q))
      ]
    where
      mapped : (o : Option Site) → R (option_and_then part o) (option_and_then part (option_map f o))
      mapped None = same None
      mapped (Some x) = each x

  module _ (gone : (o : Option A) → R o None) where
    pub retained_from : (s : State) (p : Ident → Bool) (q : Ident) → R (part_at s q) (part_at (with_sites s (retain s.sites p)) q)
    retained_from s p q = subst (λ o. R (part_at s q) (option_and_then part o)) (sym (get-retain by_name s.sites p q)) (either (p q))
      where
        either : (b : Bool) → R (part_at s q) (option_and_then part (cond b (get s.sites q) None))
        either true = same (part_at s q)
        either false = gone (part_at s q)

    pub put_from : (s : State) (j : Ident) (x : Site) → part x ≡ None → (q : Ident) → R (part_at s q) (part_at (put s j x) q)
    put_from s j x lacks q = subst (λ o. R (part_at s q) (option_and_then part o)) (sym (get-insert by_name s.sites j x q)) (either (eq_by_cmp lexical q j))
      where
        either : (b : Bool) → R (part_at s q) (option_and_then part (cond b (Some x) (get s.sites q)))
        either true = subst (λ o. R (part_at s q) o) (sym lacks) (gone (part_at s q))
        either false = same (part_at s q)

-- ---- of one state from another

-- Each net and each item of t stood in s, and no net has more tokens. Specifications are the same.
pub record Leaves (s t : State) : Type 0 where
  pub nets : (q : Ident) → NetFrom (net_part s q) (net_part t q)
  pub items : (q : Ident) → ItemFrom (item_part s q) (item_part t q)
  pub specs : t.specs ≡ s.specs

pub leaves-same : (s : State) → Leaves s s
leaves-same s = record { nets = λ q. net_itself (net_part s q); items = λ q. item_itself (item_part s q); specs = refl }

pub net-then : (a b c : Option NetPart) → NetFrom a b → NetFrom b c → NetFrom a c
net-then a b c first second m e =
    let (n, there, light) = second m e in
    let (l, before, lighter) = first n there in
    (l, before, record { spec = light.spec ∙ lighter.spec; net = light.net ∙ lighter.net; fewer = λ x. le_trans (light.fewer x) (lighter.fewer x) })

pub item-then : (a b c : Option ItemPart) → ItemFrom a b → ItemFrom b c → ItemFrom a c
item-then a b c first second y e =
    let (x, there, task) = second y e in
    let (z, before, same) = first x there in
    (z, before, task ∙ same)

pub leaves-then : (s t u : State) → Leaves s t → Leaves t u → Leaves s u
leaves-then s t u first second =
    record {
      nets = λ q. net-then (net_part s q) (net_part t q) (net_part u q) (first.nets q) (second.nets q);
      items = λ q. item-then (item_part s q) (item_part t q) (item_part u q) (first.items q) (second.items q);
      specs = second.specs ∙ first.specs;
    }

pub leaves-change : (s : State) (j : Ident) (f : Site → Site) → ((x : Site) → NetFrom x.net (f x).net) → ((x : Site) → ItemFrom x.item (f x).item) → Leaves s (change s j f)
leaves-change s j f net item =
    record {
      nets = changed_from (λ (x : Site). x.net) NetFrom net_itself s j f net;
      items = changed_from (λ (x : Site). x.item) ItemFrom item_itself s j f item;
      specs = refl;
    }

pub leaves-retain : (s : State) (p : Ident → Bool) → Leaves s (with_sites s (retain s.sites p))
leaves-retain s p =
    record {
      nets = retained_from (λ (x : Site). x.net) NetFrom net_itself net_gone s p;
      items = retained_from (λ (x : Site). x.item) ItemFrom item_itself item_gone s p;
      specs = refl;
    }

-- neither a net nor an item comes
pub leaves-put : (s : State) (j : Ident) (x : Site) → x.net ≡ None → x.item ≡ None → Leaves s (put s j x)
leaves-put s j x net item =
    record {
      nets = put_from (λ (y : Site). y.net) NetFrom net_itself net_gone s j x net;
      items = put_from (λ (y : Site). y.item) ItemFrom item_itself item_gone s j x item;
      specs = refl;
    }

pub leaves-drop_all : (js : List Ident) (s : State) → Leaves s (with_sites s (drop_all s.sites js))
leaves-drop_all [] s = leaves-same s
leaves-drop_all (j ∷ js) s =
    leaves-then s (with_sites s (drop s.sites j)) (with_sites s (drop_all (drop s.sites j) js)) (leaves-retain s (λ k. not (under k j))) (leaves-drop_all js (with_sites s (drop s.sites j)))

pub leaves-if : (r : State) (b : Bool) (s t : State) → Leaves r s → Leaves r t → Leaves r (if b then s else t)
leaves-if r true s t there here = there
leaves-if r false s t there here = here

pub leaves-some : {A : Type 0} (r : State) (o : Option A) (s : State) (f : A → State) → Leaves r s → ((x : A) → Leaves r (f x)) → Leaves r (where_some o s f)
leaves-some r None s f there each = there
leaves-some r (Some x) s f there each = each x

-- ---- what that says of weights

-- each active task was active
pub active_before : (s t : State) → ((q : Ident) → ItemFrom (item_part s q) (item_part t q)) → (i : Ident) (k : ℕ) → active t i k ≡ true → active s i k ≡ true
active_before s t items i k e =
    let has = active_item t i k e in
    let (x, before, same) = items has.at has.item has.stands in
    item_active s i k (record { at = has.at; item = x; stands = before; below = has.below; of_task = sym same ∙ has.of_task })

pub counted : (s : State) (i : Ident) (n : NetPart) → net_part s i ≡ Some n → (c : ℕ) → tokens_on s i c ≡ count_on n.tokens c
counted s i n is c = ap (λ o. unwrap_or (option_and_then (λ (m : NetPart). slice_get m.tokens c) o) 0) is

pub weighs_less : (a b : Bool) (m : ℕ) → (a ≡ true → b ≡ true) → (if a then m else 0) ≤ (if b then m else 0)
weighs_less false b m also = omega arith
weighs_less true true m also = omega arith
weighs_less true false m also = never (also refl)

module _ (net : Net) (w : List ℕ) (s t : State) (i : Ident) where
  pub tokens_less : ((c : ℕ) → tokens_on t i c ≤ tokens_on s i c) → tokens_weigh net w t i ≤ tokens_weigh net w s i
  tokens_less fewer =
      total_less (λ c. tokens_on t i c * weight_of_place w c) (λ c. tokens_on s i c * weight_of_place w c) (length net.places) (λ c within. mul-le-mul_right (weight_of_place w c) (fewer c))

  pub tasks_less : ((k : ℕ) → active t i k ≡ true → active s i k ≡ true) → tasks_weigh net w t i ≤ tasks_weigh net w s i
  tasks_less before =
      total_less (λ k. if active t i k then weight_of_task net w k else 0) (λ k. if active s i k then weight_of_task net w k else 0) (length net.tasks)
      (λ k within. weighs_less (active t i k) (active s i k) (weight_of_task net w k) (before k))

-- each net that stands with the number weighs no more than this
abbrev pub Holds : Spec → ℕ → Net → List ℕ → State → Type 0
Holds spec k net w s = (i : Ident) → IsNetOf s i spec k → load net w s i ≤ weight_of_place w net.input

module _ (spec : Spec) (k : ℕ) (net : Net) (w : List ℕ) (s t : State) (specs : t.specs ≡ s.specs) where
  pub net_before : (i : Ident) → NetFrom (net_part s i) (net_part t i) → (of : IsNetOf t i spec k) → (was : IsNetOf s i spec k) × Lighter was.part of.part
  net_before i from of =
      let (n, before, lighter) = from of.part of.stands in (
        record {
          part = n;
          stands = before;
          called = subst (λ name. spec_called s name ≡ Some spec) lighter.spec (ap (λ m. option_map (λ (l : Loaded). l.spec) (get m of.part.spec)) (sym specs) ∙ of.called);
          number = sym lighter.net ∙ of.number;
        },
        lighter,
      )

  pub fewer_tokens : (i : Ident) (n m : NetPart) → net_part s i ≡ Some n → net_part t i ≡ Some m → Lighter n m → (c : ℕ) → tokens_on t i c ≤ tokens_on s i c
  fewer_tokens i n m before now lighter c =
      let a = counted s i n before c in let b = counted t i m now c in let less = lighter.fewer c in omega (arith, a, b, less)

  -- a net that was there, with no more tokens and no more active tasks
  pub still_holds : Holds spec k net w s → (i : Ident) → NetFrom (net_part s i) (net_part t i) → ((c : ℕ) → active t i c ≡ true → active s i c ≡ true) → IsNetOf t i spec k → load net w t i ≤ weight_of_place w net.input
  still_holds holds i from tasks of =
      let (was, lighter) = net_before i from of in
      let a = tokens_less net w s t i (fewer_tokens i was.part of.part was.stands of.stands lighter) in
      let b = tasks_less net w s t i tasks in
      let before = holds i was in
      omega (arith, a, b, before)

pub leaves_hold : (spec : Spec) (k : ℕ) (net : Net) (w : List ℕ) (s t : State) → Leaves s t → Holds spec k net w s → Holds spec k net w t
leaves_hold spec k net w s t leaves holds i of = still_holds spec k net w s t leaves.specs holds i (leaves.nets i) (λ c. active_before s t leaves.items i c) of
