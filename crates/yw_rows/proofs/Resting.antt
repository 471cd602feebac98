-- States in which nothing comes of itself: no run is at work, no check is due, no item is completed, no output is marked, and all
-- tasks are atomic ones without a rule.
use Rattle.std.specs.Prelude.{◌≡◌, ◌⊎◌, ℕ, zero, suc, ◌==◌, ◌&&◌, ◌||◌, Bool, true, false, not, List, [], ◌∷◌, length, filter, Option, Some, None, is_none, option_and_then, option_map, unwrap_or, cond, nat_eq, slice_get, nat_le, nat_lt, refl}
use Rattle.std.specs.List.{cons_option, filter_map, list_all}
use Rattle.std.specs.Ordering.{eq_by_cmp}
use Rattle.std.specs.Option.{option_map_or}
use Rattle.std.specs.FinMap.Entries as finmap
use Rattle.std.proofs.Common.{inl, inr, subst, ap, arith}
use Rattle.std.proofs.lemmas.Bool.Decides.{nat_tests}
use Rattle.yw_rows.proofs.Waiting.{inside_some}
use Rattle.yw_spec.specs.declared.spec.Net.{Net}
use Rattle.yw_spec.specs.declared.spec.Spec.{Spec}
use Rattle.yw_spec.specs.declared.task.Many.{Many}
use Rattle.yw_spec.specs.declared.task.Task.{Task}
use Rattle.yw_state.specs.Allowed.{may_leave}
use Rattle.yw_state.specs.Identity.{Ident, is_child}
use Rattle.yw_base.specs.Identity.{parent}
use Rattle.yw_state.specs.Joins.{at_output, marked}
use Rattle.yw_state.specs.Map.{entries, get, lexical}
use Rattle.yw_state.specs.Nets.{is_atomic, task_number}
use Rattle.yw_state.specs.Options.{is_some_and}
use Rattle.yw_state.specs.State.{State, is_suspended, item_of_task, items_of, item_part, task_in, Site, NetPart, ItemPart, RunPart, NetAt, TaskAt, ItemAt, item_at, net_at, net_part, no_checks, run_part, due_at, spec_called, task_at}
use Rattle.yw_state.specs.Words.{active, any_due, busy, done, is_completed}

-- ---- what is taken apart

pub and_left : (a b : Bool) → (a && b) ≡ true → a ≡ true
and_left true b e = refl
and_left false b e = e

pub and_right : (a b : Bool) → (a && b) ≡ true → b ≡ true
and_right true b e = e
and_right false b e = cc

pub and_both : (a b : Bool) → a ≡ true → b ≡ true → (a && b) ≡ true
and_both true b x y = y
and_both false b x y = x

pub clash : (b : Bool) → not b ≡ true → b ≡ true → ⊥
clash true n y = cc
clash false n y = cc

pub no_some : {A B : Type 0} (x : A) → None ≡ Some x → B
no_some x e = absurd (cc)

pub some_and : {A : Type 0} (o : Option A) (p : A → Bool) → is_some_and o p ≡ true → (x : A) × (o ≡ Some x) × (p x ≡ true)
some_and None p e = absurd (clash false refl e)
some_and (Some x) p e = (x, refl, e)

then_some : {A B : Type 0} (o : Option A) (f : A → Option B) (y : B) → option_and_then f o ≡ Some y → (x : A) × (o ≡ Some x) × (f x ≡ Some y)
then_some None f y e = no_some y e
then_some (Some x) f y e = (x, refl, e)

map_some : {A B : Type 0} (o : Option A) (f : A → B) (y : B) → option_map f o ≡ Some y → (x : A) × (o ≡ Some x) × (f x ≡ y)
map_some None f y e = no_some y e
map_some (Some x) f y e = (x, refl, cc)

none_some : {A : Type 0} (o : Option A) (x : A) → is_none o ≡ true → o ≡ Some x → ⊥
none_some None x n e = no_some x e
none_some (Some y) x n e = cc

not_true : (b : Bool) → not b ≡ true → b ≡ false
not_true true n = cc
not_true false n = refl

-- what is found in entries that all pass passes too
of_cond : {A : Type 0} (p : A → Bool) (b : Bool) (w v : A) (rest : Option A) → cond b (Some w) rest ≡ Some v → p w ≡ true → (rest ≡ Some v → p v ≡ true)
    → p v ≡ true
of_cond p true w v rest e here later = subst (λ x. p x ≡ true) (inside_some w v e) here
of_cond p false w v rest e here later = later e

of_find : {A : Type 0} (p : A → Bool) (k : List ℕ) (es : List (List ℕ × A)) (v : A) → finmap.find lexical k es ≡ Some v
    → list_all (λ (e : List ℕ × A). p e.1) es ≡ true → p v ≡ true
of_find p k [] v e all = no_some v e
of_find p k (x ∷ xs) v e all =
    of_cond p (eq_by_cmp lexical k x.0) x.1 v (finmap.find lexical k xs) e (and_left _ _ all) (λ h. of_find p k xs v h (and_right _ _ all))

of_place : {A : Type 0} (p : A → Bool) (xs : List A) (k : ℕ) (x : A) → slice_get xs k ≡ Some x → list_all p xs ≡ true → p x ≡ true
of_place p [] zero x e all = no_some x e
of_place p [] (suc k) x e all = no_some x e
of_place p (y ∷ ys) zero x e all = subst (λ z. p z ≡ true) (inside_some y x e) (and_left _ _ all)
of_place p (y ∷ ys) (suc k) x e all = of_place p ys k x e (and_right _ _ all)

-- ---- tests of a state, which compute

abbrev pub has_threshold : Option Many → Bool
has_threshold None = true
has_threshold (Some m) = nat_lt 0 m.threshold

abbrev pub still_task : Task → Bool
still_task t = is_atomic t && has_threshold t.many

abbrev pub still_at : NetPart → Net → Bool
still_at n net = list_all still_task net.tasks && nat_eq 0 (unwrap_or (slice_get n.tokens net.output) 0)

abbrev pub still_net : State → Option NetPart → Bool
still_net s None = true
still_net s (Some n) = option_map_or (still_at n) (option_and_then (λ (spec : Spec). slice_get spec.nets n.net) (spec_called s n.spec)) true

abbrev pub still_item : Option ItemPart → Bool
still_item None = true
still_item (Some x) = not (is_completed x.stage)

abbrev pub still_site : State → Site → Bool
still_site s x = is_none x.run && (not (any_due x.due) && (still_item x.item && still_net s x.net))

-- All that stands is still, and no tree has a rule.
pub record IsStill (s : State) : Type 0 where
  pub sites : list_all (λ (e : Ident × Site). still_site s e.1) (entries s.sites) ≡ true
  pub rules : entries s.rules ≡ []

-- ---- what follows

site_still : (s : State) → IsStill s → (j : Ident) (x : Site) → get s.sites j ≡ Some x → still_site s x ≡ true
site_still s still j x e = of_find (still_site s) j (entries s.sites) x e still.sites

-- its four parts
four : (a b c d : Bool) → (a && (b && (c && d))) ≡ true → (a ≡ true) × (b ≡ true) × (c ≡ true) × (d ≡ true)
four a b c d e =
    let f : (b && (c && d)) ≡ true = and_right a (b && (c && d)) e in
    let g : (c && d) ≡ true = and_right b (c && d) f in
    (and_left a (b && (c && d)) e, and_left b (c && d) f, and_left c d g, and_right c d g)

parts : (s : State) → IsStill s → (j : Ident) (x : Site) → get s.sites j ≡ Some x
    → (is_none x.run ≡ true) × (not (any_due x.due) ≡ true) × (still_item x.item ≡ true) × (still_net s x.net ≡ true)
parts s still j x e = four (is_none x.run) (not (any_due x.due)) (still_item x.item) (still_net s x.net) (site_still s still j x e)

pub no_run : (s : State) → IsStill s → (r : Ident) (x : RunPart) → run_part s r ≡ Some x → ⊥
no_run s still r x e =
    let site : (y : Site) × (get s.sites r ≡ Some y) × (y.run ≡ Some x) = then_some (get s.sites r) (λ (y : Site). y.run) x e in
    none_some site.0.run x (parts s still r site.0 site.1).0 site.2

due_of : (s : State) → IsStill s → (j : Ident) (o : Option Site) → get s.sites j ≡ o → any_due (unwrap_or (option_map (λ (x : Site). x.due) o) no_checks) ≡ false
due_of s still j None e = refl
due_of s still j (Some x) e = not_true (any_due x.due) (parts s still j x e).1

pub no_due : (s : State) → IsStill s → (j : Ident) → any_due (due_at s j) ≡ false
no_due s still j = due_of s still j (get s.sites j) refl

net_still : (s : State) → IsStill s → (i : Ident) (n : NetAt) → net_at s i ≡ Some n → still_at n.part n.net ≡ true
net_still s still i n e =
    let part : (p : NetPart) × (net_part s i ≡ Some p)
    × (option_map (λ (net : Net). record { part = p; net = net }) (option_and_then (λ (spec : Spec). slice_get spec.nets p.net) (spec_called s p.spec)) ≡ Some n)
    = then_some (net_part s i) (λ (p : NetPart). option_map (λ (net : Net). record { part = p; net = net }) (option_and_then (λ (spec : Spec). slice_get spec.nets p.net) (spec_called s p.spec))) n e in
    let site : (y : Site) × (get s.sites i ≡ Some y) × (y.net ≡ Some part.0) = then_some (get s.sites i) (λ (y : Site). y.net) part.0 part.1 in
    let net : (m : Net) × (option_and_then (λ (spec : Spec). slice_get spec.nets part.0.net) (spec_called s part.0.spec) ≡ Some m) × (record { part = part.0; net = m } ≡ n)
    = map_some _ (λ (m : Net). record { part = part.0; net = m }) n part.2 in
    let here : still_net s site.0.net ≡ true = (parts s still i site.0 site.1).3 in
    let of_part : still_net s (Some part.0) ≡ true = subst (λ (o : Option NetPart). still_net s o ≡ true) site.2 here in
    let of_net : still_at part.0 net.0 ≡ true = subst (λ (o : Option Net). option_map_or (still_at part.0) o true ≡ true) net.1 of_part in
    subst (λ (m : NetAt). still_at m.part m.net ≡ true) net.2 of_net

part_of : (s : State) (i : Ident) (n : NetAt) → net_at s i ≡ Some n → net_part s i ≡ Some n.part
part_of s i n e =
    let with_net : NetPart → Net → NetAt = λ p net. record { part = p; net = net } in
    let found : NetPart → Option Net = λ p. option_and_then (λ (spec : Spec). slice_get spec.nets p.net) (spec_called s p.spec) in
    let part : (p : NetPart) × (net_part s i ≡ Some p) × (option_map (with_net p) (found p) ≡ Some n)
    = then_some (net_part s i) (λ (p : NetPart). option_map (with_net p) (found p)) n e in
    let net : (m : Net) × (found part.0 ≡ Some m) × (with_net part.0 m ≡ n) = map_some (found part.0) (with_net part.0) n part.2 in
    subst (λ (m : NetAt). net_part s i ≡ Some m.part) net.2 part.1

none_and_some : (k : ℕ) → nat_eq 0 k ≡ true → nat_lt 0 k ≡ true → ⊥
none_and_some k a b = grind (arith, nat_tests)

tasks_still : (s : State) → IsStill s → (i : Ident) (n : NetAt) → net_at s i ≡ Some n → list_all still_task n.net.tasks ≡ true
tasks_still s still i n e = and_left (list_all still_task n.net.tasks) (nat_eq 0 (unwrap_or (slice_get n.part.tokens n.net.output) 0)) (net_still s still i n e)

-- a task of a net that is still, by its number
in_still : (n : NetAt) (k : ℕ) (y : TaskAt) → list_all still_task n.net.tasks ≡ true
    → option_map (λ (t : Task). record { number = k; task = t; within = n }) (slice_get n.net.tasks k) ≡ Some y → still_task y.task ≡ true
in_still n k y all e =
    let t : (u : Task) × (slice_get n.net.tasks k ≡ Some u) × (record { number = k; task = u; within = n } ≡ y)
    = map_some (slice_get n.net.tasks k) (λ (u : Task). record { number = k; task = u; within = n }) y e in
    subst (λ (z : TaskAt). still_task z.task ≡ true) t.2 (of_place still_task n.net.tasks k t.0 t.1 all)

pub task_still : (s : State) → IsStill s → (i : Ident) (t : List ℕ) (y : TaskAt) → task_at s i t ≡ Some y → still_task y.task ≡ true
task_still s still i t y e =
    let n : (m : NetAt) × (net_at s i ≡ Some m) × (option_and_then (task_in m) (task_number m.net t) ≡ Some y)
    = then_some (net_at s i) (λ (m : NetAt). option_and_then (task_in m) (task_number m.net t)) y e in
    let k : (l : ℕ) × (task_number n.0.net t ≡ Some l) × (task_in n.0 l ≡ Some y) = then_some (task_number n.0.net t) (task_in n.0) y n.2 in
    in_still n.0 k.0 y (tasks_still s still i n.0 n.1) k.2

pub item_still : (s : State) → IsStill s → (j : Ident) (y : ItemAt) → item_at s j ≡ Some y → still_task y.of_task.task ≡ true
item_still s still j y e =
    let made : ItemPart → TaskAt → ItemAt = λ x t. record { part = x; of_task = t } in
    let x : (z : ItemPart) × (item_part s j ≡ Some z) × (option_and_then (λ (n : NetAt). option_map (made z) (task_in n z.task)) (net_at s (parent j)) ≡ Some y)
    = then_some (item_part s j) (λ (z : ItemPart). option_and_then (λ (n : NetAt). option_map (made z) (task_in n z.task)) (net_at s (parent j))) y e in
    let n : (m : NetAt) × (net_at s (parent j) ≡ Some m) × (option_map (made x.0) (task_in m x.0.task) ≡ Some y)
    = then_some (net_at s (parent j)) (λ (m : NetAt). option_map (made x.0) (task_in m x.0.task)) y x.2 in
    let t : (u : TaskAt) × (task_in n.0 x.0.task ≡ Some u) × (made x.0 u ≡ y) = map_some (task_in n.0 x.0.task) (made x.0) y n.2 in
    subst (λ (z : ItemAt). still_task z.of_task.task ≡ true) t.2 (in_still n.0 x.0.task t.0 (tasks_still s still (parent j) n.0 n.1) t.1)

pub atomic_task : (t : Task) → still_task t ≡ true → is_atomic t ≡ true
atomic_task t e = and_left (is_atomic t) (has_threshold t.many) e

-- no output is marked
pub unmarked : (s : State) → IsStill s → (i : Ident) → at_output s i ≡ true → ⊥
unmarked s still i e =
    let n : (m : NetAt) × (net_at s i ≡ Some m) × (marked s i m.net.output ≡ true) = some_and (net_at s i) (λ (m : NetAt). marked s i m.net.output) e in
    let none : nat_eq 0 (unwrap_or (slice_get n.0.part.tokens n.0.net.output) 0) ≡ true
    = and_right (list_all still_task n.0.net.tasks) _ (net_still s still i n.0 n.1) in
    let part : net_part s i ≡ Some n.0.part = part_of s i n.0 n.1 in
    let counted : nat_lt 0 (unwrap_or (slice_get n.0.part.tokens n.0.net.output) 0) ≡ true
    = subst (λ (o : Option NetPart). nat_lt 0 (unwrap_or (option_and_then (λ (p : NetPart). slice_get p.tokens n.0.net.output) o) 0) ≡ true) part n.2 in
    none_and_some (unwrap_or (slice_get n.0.part.tokens n.0.net.output) 0) none counted

-- ---- items, none of which is completed

not_done : (s : State) (j : Ident) (x : ItemPart) → not (is_completed x.stage) ≡ true → done s j x ≡ false
not_done s j x e = of_stage (is_completed x.stage) (not (busy s j)) (not (is_suspended s j)) e
  where
    of_stage : (a b c : Bool) → not a ≡ true → (a && b && c) ≡ false
    of_stage true b c n = cc
    of_stage false b c n = refl

one_of : (s : State) (j : Ident) (x : ItemPart) (b : Bool) → not (is_completed x.stage) ≡ true
    → option_map_or (λ (e : Ident × ItemPart). not (done s e.0 e.1)) (cond b (Some (j, x)) None) true ≡ true
one_of s j x true e = ap not (not_done s j x e)
one_of s j x false e = refl

one_not_done : (s : State) (j : Ident) (k : ℕ) (c : Bool) (o : Option ItemPart) → still_item o ≡ true
    → option_map_or (λ (e : Ident × ItemPart). not (done s e.0 e.1)) (cond c (option_and_then (λ (x : ItemPart). cond (x.task == k) (Some (j, x)) None) o) None) true ≡ true
one_not_done s j k false o e = refl
one_not_done s j k true None e = refl
one_not_done s j k true (Some x) e = one_of s j x (x.task == k) e

with_one : (p : Ident × ItemPart → Bool) (o : Option (Ident × ItemPart)) (rest : List (Ident × ItemPart)) → option_map_or p o true ≡ true
    → list_all p rest ≡ true → list_all p (cons_option o rest) ≡ true
with_one p None rest one others = others
with_one p (Some e) rest one others = and_both (p e) (list_all p rest) one others

none_done_of : (s : State) (i : Ident) (k : ℕ) (es : List (Ident × Site)) → list_all (λ (e : Ident × Site). still_item e.1.item) es ≡ true
    → list_all (λ (e : Ident × ItemPart). not (done s e.0 e.1)) (filter_map (λ (e : Ident × Site). item_of_task i k e.0 e.1) es) ≡ true
none_done_of s i k [] all = refl
none_done_of s i k (x ∷ xs) all =
    with_one (λ (e : Ident × ItemPart). not (done s e.0 e.1)) (item_of_task i k x.0 x.1) (filter_map (λ (e : Ident × Site). item_of_task i k e.0 e.1) xs)
    (one_not_done s x.0 k (is_child x.0 i) x.1.item (and_left (still_item x.1.item) _ all))
    (none_done_of s i k xs (and_right (still_item x.1.item) _ all))

items_still : (s : State) (es : List (Ident × Site)) → list_all (λ (e : Ident × Site). still_site s e.1) es ≡ true
    → list_all (λ (e : Ident × Site). still_item e.1.item) es ≡ true
items_still s [] all = refl
items_still s (x ∷ xs) all =
    and_both (still_item x.1.item) (list_all (λ (e : Ident × Site). still_item e.1.item) xs)
    (four (is_none x.1.run) (not (any_due x.1.due)) (still_item x.1.item) (still_net s x.1.net) (and_left (still_site s x.1) _ all)).2
    (items_still s xs (and_right (still_site s x.1) _ all))

none_done : (s : State) → IsStill s → (i : Ident) (k : ℕ) → list_all (λ (e : Ident × ItemPart). not (done s e.0 e.1)) (items_of s i k) ≡ true
none_done s still i k = none_done_of s i k (entries s.sites) (items_still s (entries s.sites) still.sites)

-- where none passes all pass only if there are none
none_pass : {A : Type 0} (p : A → Bool) (xs : List A) → list_all (λ x. not (p x)) xs ≡ true → list_all p xs ≡ true → nat_lt 0 (length xs) ≡ true → ⊥
none_pass p [] none all some = grind (arith, nat_tests)
none_pass p (x ∷ xs) none all some = clash (p x) (and_left (not (p x)) _ none) (and_left (p x) _ all)

kept_none : {A : Type 0} (p : A → Bool) (b : Bool) (x : A) (rest : List A) → not b ≡ true → rest ≡ [] → cond b (x ∷ rest) rest ≡ []
kept_none p true x rest n e = cc
kept_none p false x rest n e = e

none_kept : {A : Type 0} (p : A → Bool) (xs : List A) → list_all (λ x. not (p x)) xs ≡ true → filter p xs ≡ []
none_kept p [] none = refl
none_kept p (x ∷ xs) none = kept_none p (p x) x (filter p xs) (and_left (not (p x)) _ none) (none_kept p xs (and_right (not (p x)) _ none))

either : (a b : Bool) → (a || b) ≡ true → (a ≡ true) ⊎ (b ≡ true)
either true b e = inl refl
either false b e = inr e

too_few : (n : ℕ) → nat_lt 0 n ≡ true → nat_le n 0 ≡ true → ⊥
too_few n a b = grind (arith, nat_tests)

-- no task exits
pub none_leaves : (s : State) → IsStill s → (i : Ident) (x : TaskAt) → still_task x.task ≡ true → active s i x.number ≡ true → may_leave s i x ≡ true → ⊥
none_leaves s still i x t act e =
    let items : List (Ident × ItemPart) = items_of s i x.number in
    let is_done : Ident × ItemPart → Bool = λ y. done s y.0 y.1 in
    let none : list_all (λ (y : Ident × ItemPart). not (is_done y)) items ≡ true = none_done s still i x.number in
    elim (either (list_all is_done items) (is_some_and x.task.many (λ (m : Many). nat_le m.threshold (length (filter is_done items)))) e) as (λ z. ⊥) [
      | inl all ↦ none_pass is_done items none all act
      | inr enough ↦
          let m : (l : Many) × (x.task.many ≡ Some l) × (nat_le l.threshold (length (filter is_done items)) ≡ true)
          = some_and x.task.many (λ (l : Many). nat_le l.threshold (length (filter is_done items))) enough in
          let at_least : has_threshold (Some m.0) ≡ true
          = subst (λ (o : Option Many). has_threshold o ≡ true) m.1 (and_right (is_atomic x.task) (has_threshold x.task.many) t) in
          too_few m.0.threshold at_least (subst (λ (ys : List (Ident × ItemPart)). nat_le m.0.threshold (length ys) ≡ true) (none_kept is_done items none) m.2)
    ]
