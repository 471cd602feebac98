-- All that may be work of a person, in order: where a net stands each of its tasks to be entered, by name, and else the item to be started or
-- completed, by its stage.
use Rattle.std.specs.Prelude.{◌≡◌, ℕ, zero, suc, ◌&&◌, T, Bool, true, false, List, [], ◌∷◌, ◌++◌, map, cond, length, nat_lt, get_or, Option, Some, None, is_none, is_some, position, slice_get, option_and_then, refl, if◌then◌else◌}
use Rattle.std.specs.FinMap.Entries.{below_all, is_sorted}
use Rattle.std.specs.List.{flat_map, list_all, position_or_len}
use Rattle.std.specs.Ordering.{eq_by_cmp, is_eq, is_lt, ordering_then}
use Rattle.std.specs.Str.{bytes_eq}
use Rattle.std.specs.declared.cmp.Ordering.{Ordering}
use Rattle.std.specs.declared.cmp.Ordering.TheVariants.{Less, Equal, Greater}
use Rattle.std.proofs.Common.{sym, ◌∙◌, ap, subst, inl, inr}
use Rattle.std.proofs.lemmas.Bool.{and_parts, and_from, false_from_ne_true, ltb-true}
use Rattle.std.proofs.lemmas.List.Sums.{passes_at_first}
use Rattle.std.proofs.lemmas.Option.{get_or_from_slice_get}
use Rattle.std.proofs.lemmas.Slice.Eq.{bytes_eq-Decides}
use Rattle.yw_idle.proofs.NetAbove.{no_both}
use Rattle.yw_spec.specs.declared.task.Task.{Task}
use Rattle.yw_state.proofs.Entries.{IsIn, entry-found}
use Rattle.yw_state.proofs.MapLemmas.{by_name, get-insert, get-insert_same, tied_self}
use Rattle.yw_state.proofs.Standing.{at_item, at_task}
use Rattle.yw_state.proofs.Tests.{and_left, by_option, by_test, map_some, never, nowhere, some_same, then_some, there}
use Rattle.yw_state.specs.Identity.{Ident}
use Rattle.yw_state.specs.Map.{Map, entries, get, lexical, of_entries}
use Rattle.yw_state.specs.Nets.{is_atomic, task_number}
use Rattle.yw_state.specs.State.{ItemAt, NetAt, NetPart, Site, State, item_at, net_at, net_part, task_in}
use Rattle.yw_state.specs.Texts.{Reader}
use Rattle.yw_state.specs.Well.{IsWell, Stands}
use Rattle.yw_state.specs.Words.{is_executing, is_ready}
use Rattle.yw_state.specs.declared.answer.What.{What}
use Rattle.yw_state.specs.declared.answer.What.TheVariants.{Enter, Start, Complete}
use Rattle.yw_state.specs.declared.answer.WorkRow.{WorkRow}
use Rattle.yw_work.specs.Open.{EntryOpen, IsOpen}
use Rattle.yw_work.specs.Rows.{all_rise, work_before}
use Rattle.yw_work.specs.declared.open.By.{By}

-- ---- the rows

abbrev Names : Type 0
Names = Map lexical (List ℕ)

-- the names of these tasks, in order
abbrev names_of : List Task → Names
names_of ts = of_entries (map (λ (t : Task). (t.name, t.name)) ts)

abbrev row_at : Ident → What → List ℕ → WorkRow
row_at j what task = record { at = j; task = task; what = what }

abbrev enter_rows : Ident → List (List ℕ × List ℕ) → List WorkRow
enter_rows j names = map (λ (e : List ℕ × List ℕ). row_at j Enter e.0) names

abbrev item_rows : Ident → Option ItemAt → List WorkRow
item_rows j None = []
item_rows j (Some x) = row_at j (if is_ready x.part.stage then Start else Complete) x.of_task.task.name ∷ []

abbrev rows_by : Ident → Option NetAt → Option ItemAt → List WorkRow
rows_by j (Some n) x = enter_rows j (entries (names_of n.net.tasks))
rows_by j None x = item_rows j x

abbrev rows_at : State → Ident → List WorkRow
rows_at s j = rows_by j (net_at s j) (item_at s j)

abbrev pub candidates : State → List WorkRow
candidates s = flat_map (λ (e : Ident × Site). rows_at s e.0) (entries s.sites)

-- ---- they are in order

to_true : (b : Bool) → T b → b ≡ true
to_true true h = refl
to_true false h = absurd h

both_true : (a b : Bool) → T (a && b) → T a × T b
both_true true b h = (tt, h)
both_true false b h = absurd h

then_first : (o p : Ordering) → is_lt o ≡ true → is_lt (ordering_then o p) ≡ true
then_first Less p e = refl
then_first Equal p e = never e
then_first Greater p e = never e

then_second : (o p : Ordering) → is_eq o ≡ true → is_lt p ≡ true → is_lt (ordering_then o p) ≡ true
then_second Less p tie e = never tie
then_second Equal p tie e = e
then_second Greater p tie e = never tie

-- rows at one identity go by the task
enter_after : (j : Ident) (a : List ℕ) (names : List (List ℕ × List ℕ)) → T (below_all lexical a names)
    → list_all (work_before (row_at j Enter a)) (enter_rows j names) ≡ true
enter_after j a [] below = refl
enter_after j a (b ∷ names) below =
    let parts = both_true (is_lt (lexical a b.0)) (below_all lexical a names) below in
    and_from _ _ (then_second (lexical j j) (lexical a b.0) (tied_self by_name j) (to_true _ parts.0)) (enter_after j a names parts.1)

enter_rise : (j : Ident) (names : List (List ℕ × List ℕ)) → T (is_sorted lexical names) → all_rise (enter_rows j names) ≡ true
enter_rise j [] sorted = refl
enter_rise j (a ∷ names) sorted =
    let parts = both_true (below_all lexical a.0 names) (is_sorted lexical names) sorted in
    and_from _ _ (enter_after j a.0 names parts.0) (enter_rise j names parts.1)

rows_rise : (j : Ident) (net : Option NetAt) (item : Option ItemAt) → all_rise (rows_by j net item) ≡ true
rows_rise j (Some n) item = let names = names_of n.net.tasks in enter_rise j (entries names) names.sorted
rows_rise j None None = refl
rows_rise j None (Some x) = refl

-- each row at an identity comes before each at a later one
abbrev IsBefore : WorkRow → Ident → Type 0
IsBefore a k = is_lt (lexical a.at k) ≡ true

before_enter : (a : WorkRow) (k : Ident) → IsBefore a k → (names : List (List ℕ × List ℕ)) → list_all (work_before a) (enter_rows k names) ≡ true
before_enter a k first [] = refl
before_enter a k first (b ∷ names) = and_from _ _ (then_first (lexical a.at k) (lexical a.task b.0) first) (before_enter a k first names)

before_rows : (a : WorkRow) (k : Ident) → IsBefore a k → (net : Option NetAt) (item : Option ItemAt) → list_all (work_before a) (rows_by k net item) ≡ true
before_rows a k first (Some n) item = before_enter a k first (entries (names_of n.net.tasks))
before_rows a k first None None = refl
before_rows a k first None (Some x) = and_from _ true (then_first (lexical a.at k) (lexical a.task x.of_task.task.name) first) refl

all_joined : {A : Type 0} (p : A → Bool) (xs ys : List A) → list_all p xs ≡ true → list_all p ys ≡ true → list_all p (xs ++ ys) ≡ true
all_joined p [] ys a b = b
all_joined p (x ∷ xs) ys a b = let parts = and_parts (p x) (list_all p xs) a in and_from _ _ parts.0 (all_joined p xs ys parts.1 b)

rise_joined : (xs ys : List WorkRow) → all_rise xs ≡ true → all_rise ys ≡ true → list_all (λ x. list_all (work_before x) ys) xs ≡ true
    → all_rise (xs ++ ys) ≡ true
rise_joined [] ys a b first = b
rise_joined (x ∷ xs) ys a b first =
    let own = and_parts (list_all (work_before x) xs) (all_rise xs) a in
    let parts = and_parts (list_all (work_before x) ys) (list_all (λ z. list_all (work_before z) ys) xs) first in
    and_from _ _ (all_joined (work_before x) xs ys own.0 parts.0) (rise_joined xs ys own.1 b parts.1)

module _ (s : State) where
  abbrev rows_of : List (Ident × Site) → List WorkRow
  rows_of es = flat_map (λ (e : Ident × Site). rows_at s e.0) es

  before_all : (a : WorkRow) (es : List (Ident × Site)) → T (below_all lexical a.at es) → list_all (work_before a) (rows_of es) ≡ true
  before_all a [] below = refl
  before_all a (e ∷ es) below =
      let parts = both_true (is_lt (lexical a.at e.0)) (below_all lexical a.at es) below in
      all_joined (work_before a) (rows_at s e.0) (rows_of es)
      (before_rows a e.0 (to_true _ parts.0) (net_at s e.0) (item_at s e.0)) (before_all a es parts.1)

  module _ (j : Ident) (es : List (Ident × Site)) (below : T (below_all lexical j es)) where
    enter_first : (names : List (List ℕ × List ℕ)) → list_all (λ a. list_all (work_before a) (rows_of es)) (enter_rows j names) ≡ true
    enter_first [] = refl
    enter_first (b ∷ names) = and_from _ _ (before_all (row_at j Enter b.0) es below) (enter_first names)

    rows_first : (net : Option NetAt) (item : Option ItemAt) → list_all (λ a. list_all (work_before a) (rows_of es)) (rows_by j net item) ≡ true
    rows_first (Some n) item = enter_first (entries (names_of n.net.tasks))
    rows_first None None = refl
    rows_first None (Some x) =
        and_from _ true (before_all (row_at j (if is_ready x.part.stage then Start else Complete) x.of_task.task.name) es below) refl

  rises_along : (es : List (Ident × Site)) → T (is_sorted lexical es) → all_rise (rows_of es) ≡ true
  rises_along [] sorted = refl
  rises_along (e ∷ es) sorted =
      let parts = both_true (below_all lexical e.0 es) (is_sorted lexical es) sorted in
      rise_joined (rows_at s e.0) (rows_of es) (rows_rise e.0 (net_at s e.0) (item_at s e.0)) (rises_along es parts.1)
      (rows_first e.0 es parts.0 (net_at s e.0) (item_at s e.0))

  pub candidates_rise : all_rise (candidates s) ≡ true
  candidates_rise = rises_along (entries s.sites) s.sites.sorted

-- ---- none is left out

in_left : {A : Type 0} (xs ys : List A) (x : A) → IsIn xs x → IsIn (xs ++ ys) x
in_left [] ys x within = absurd within
in_left (z ∷ xs) ys x (inl here) = inl here
in_left (z ∷ xs) ys x (inr later) = inr (in_left xs ys x later)

in_right : {A : Type 0} (xs ys : List A) (x : A) → IsIn ys x → IsIn (xs ++ ys) x
in_right [] ys x within = within
in_right (z ∷ xs) ys x within = inr (in_right xs ys x within)

in_rows : (s : State) (es : List (Ident × Site)) (e : Ident × Site) (r : WorkRow) → IsIn es e → IsIn (rows_at s e.0) r → IsIn (rows_of s es) r
in_rows s [] e r within at = absurd within
in_rows s (f ∷ es) e r (inl here) at =
    in_left (rows_at s f.0) (rows_of s es) r (subst (λ (g : Ident × Site). IsIn (rows_at s g.0) r) (sym here) at)
in_rows s (f ∷ es) e r (inr later) at = in_right (rows_at s f.0) (rows_of s es) r (in_rows s es e r later at)

in_enter : (j : Ident) (names : List (List ℕ × List ℕ)) (e : List ℕ × List ℕ) → IsIn names e → IsIn (enter_rows j names) (row_at j Enter e.0)
in_enter j [] e within = absurd within
in_enter j (f ∷ names) e (inl here) = inl (ap (λ (g : List ℕ × List ℕ). row_at j Enter g.0) here)
in_enter j (f ∷ names) e (inr later) = inr (in_enter j names e later)

-- a task of this number has its name among all
named_there : (ts : List Task) (k : ℕ) (x : Task) → slice_get ts k ≡ Some x → is_some (get (names_of ts) x.name) ≡ true
named_there [] k x at = nowhere at
named_there (t ∷ ts) zero x at =
    let is = some_same t x at in
    ap (λ (u : Task). is_some (get (names_of (t ∷ ts)) u.name)) (sym is)
    ∙ ap is_some (get-insert_same by_name (names_of ts) t.name t.name)
named_there (t ∷ ts) (suc k) x at =
    ap is_some (get-insert by_name (names_of ts) t.name t.name x.name)
    ∙ either (eq_by_cmp lexical x.name t.name) (get (names_of ts) x.name) (named_there ts k x at)
  where
    either : (b : Bool) (o : Option (List ℕ)) → is_some o ≡ true → is_some (cond b (Some t.name) o) ≡ true
    either true o some = refl
    either false o some = some

-- the task that is found by its name has it
found_is_called : (ts : List Task) (name : List ℕ) (k : ℕ) (x : Task) → position (λ (t : Task). bytes_eq t.name name) ts ≡ Some k
    → slice_get ts k ≡ Some x → x.name ≡ name
found_is_called ts name k x found at =
    by_test (nat_lt first (length ts))
    (λ within.
    let is : first ≡ k = some_same first k (sym (ap (λ b. cond b (Some first) None) within) ∙ found) in
    let passes = passes_at_first p ts x (ltb-true first (length ts) within) in
    (bytes_eq-Decides x.name name).0
    (ap p (sym (get_or_from_slice_get ts k x x at)) ∙ ap (λ i. p (get_or ts i x)) (sym is) ∙ passes))
    (λ without. nowhere (sym (ap (λ b. cond b (Some first) None) without) ∙ found))
  where
    p : Task → Bool
    p t = bytes_eq t.name name

    first : ℕ
    first = position_or_len p ts

module _ {reader : Reader} (s : State) (well : IsWell reader s) (j : Ident) (task : List ℕ) (by : By) where
  in_all : (x : Site) → Stands s j x → (r : WorkRow) → IsIn (rows_at s j) r → IsIn (candidates s) r
  in_all x stands r within = in_rows s (entries s.sites) (j, x) r (entry-found by_name (entries s.sites) j x stands) within

  enter_covered : EntryOpen s j task by → IsIn (candidates s) (row_at j Enter task)
  enter_covered o =
      let (n, here, inner) = then_some _ (net_at s j) o.of_task o.here in
      let (k, found, numbered) = then_some (task_in n) (task_number n.net task) o.of_task inner in
      let (t, at, made) = map_some _ (slice_get n.net.tasks k) o.of_task numbered in
      let names : Names = names_of n.net.tasks in
      let (v, has) = there (get names t.name) (named_there n.net.tasks k t at) in
      let within = in_enter j (entries names) (t.name, v) (entry-found by_name (entries names) t.name v has) in
      let row_is : row_at j Enter t.name ≡ row_at j Enter task = ap (row_at j Enter) (found_is_called n.net.tasks task k t found at) in
      let (x, stands) = at_task s j task o.of_task o.here in
      in_all x stands (row_at j Enter task)
      (subst (λ (rows : List WorkRow). IsIn rows (row_at j Enter task)) (sym (ap (λ o. rows_by j o (item_at s j)) here))
      (subst (IsIn (enter_rows j (entries names))) row_is within))

  item_covered : (what : What) (y : ItemAt) → item_at s j ≡ Some y → net_part s j ≡ None → y.of_task.task.name ≡ task
      → (if is_ready y.part.stage then Start else Complete) ≡ what → IsIn (candidates s) (row_at j what task)
  item_covered what y here no_net named is =
      let (x, stands) = at_item s j y here in
      let none : net_at s j ≡ None = ap (option_and_then _) no_net in
      in_all x stands (row_at j what task)
      (subst (λ (rows : List WorkRow). IsIn rows (row_at j what task)) (sym (ap (λ o. rows_by j o (item_at s j)) none ∙ ap (item_rows j) here))
      (inl (ap (λ w. row_at j w y.of_task.task.name) is ∙ ap (row_at j what) named)))

  -- no net stands at an item that is ready
  ready_bare : (y : ItemAt) → item_at s j ≡ Some y → is_ready y.part.stage ≡ true → net_part s j ≡ None
  ready_bare y here ready =
      by_option (net_part s j) (λ none. none)
      (λ n has. absurd (no_both y.part.stage ready (and_left _ _ (and_left _ _ (well.nets.of_item j n y has here)))))

  pub covered : (what : What) → IsOpen s j task what by → IsIn (candidates s) (row_at j what task)
  covered Enter o = enter_covered o
  covered Start o =
      let can = and_parts (is_ready o.item.part.stage) _ (and_parts (is_atomic o.item.of_task.task) _ o.may).1 in
      item_covered Start o.item o.here (ready_bare o.item o.here can.0) o.named (ap (λ b. if b then Start else Complete) can.0)
  covered Complete o =
      let can = and_parts (is_none (net_part s j)) _ (and_parts (is_atomic o.item.of_task.task) _ o.may).1 in
      let stage = and_parts (is_executing o.item.part.stage) _ can.1 in
      let unready : is_ready o.item.part.stage ≡ false =
      false_from_ne_true _ (λ ready. no_both o.item.part.stage ready stage.0) in
      item_covered Complete o.item o.here (none_is (net_part s j) can.0) o.named (ap (λ b. if b then Start else Complete) unready)
    where
      none_is : (o : Option NetPart) → is_none o ≡ true → o ≡ None
      none_is None e = refl
      none_is (Some n) e = never e
