-- What a net shows of the checks of an entry.
use Rattle.std.proofs.Common.{Bool, List, None, Option, Some, [], ap, false, inl, inr, length, refl, subst, suc, sym, true, zero, ℕ, ◌∙◌, ◌∷◌, ◌≡◌}
use Rattle.std.specs.Prelude.{IsTrue, get_or, nat_lt, not, option_and_then, option_map, slice_get, unwrap_or}
use Rattle.yw_base.specs.Gates.{is_or}
use Rattle.yw_mark.specs.Taking.{HasTokens, OfTask}
use Rattle.yw_mark.specs.Tokens.{HasMarks}
use Rattle.yw_path.proofs.WaitLemmas.{fills, waits}
use Rattle.yw_sites.proofs.Children.{children_front}
use Rattle.yw_spec.specs.declared.spec.Net.{Net}
use Rattle.yw_spec.specs.declared.spec.Spec.{Spec}
use Rattle.yw_spec.specs.declared.task.Task.{Task}
use Rattle.yw_state.proofs.Tests.{never, some_same}
use Rattle.yw_state.specs.Broken.{First, fact, placeless, test}
use Rattle.yw_state.specs.Identity.{Ident}
use Rattle.yw_state.specs.Joins.{Waits, has_tokens}
use Rattle.yw_state.specs.Nets.{task_number}
use Rattle.yw_state.specs.Options.{is_some_and}
use Rattle.yw_state.specs.State.{NetAt, NetPart, State, TaskAt, items_of, net_at, net_of, net_part, task_at, task_in}
use Rattle.yw_state.specs.Words.{active}
use Rattle.yw_state.specs.declared.rule.Rule.{Rule}
use Rattle.yw_state.specs.declared.rule.Rule.TheVariants as rules
use Rattle.yw_task.specs.Asked.{AsksEnter, OrWaitsAs, is_active}
use Rattle.yw_task.specs.Standing.{NetStands}
use Rattle.yw_tree.proofs.NetAt.{net_here}
use Rattle.yw_tree.proofs.NetHere.{NetHere}
use Rattle.yw_base.proofs.Parents.{identity_long}
use Rattle.yw_tree.proofs.Rows.{items_are, row_at, row_parts}
use Rattle.yw_tree.specs.Boxed.{ids}
use Rattle.yw_tree.specs.Entries.{net_part as part_of}
use Rattle.yw_tree.specs.Places.{placed_net}
use Rattle.yw_tree.specs.Shows.{ShowsNet}
use Rattle.yw_tree.specs.declared.Forest.{Forest}
use Rattle.yw_tree.specs.declared.NetState.{NetState, out-NetState}
use Rattle.yw_tree.specs.declared.Node.{Node}
use Rattle.yw_within.specs.Within.{NetIsWithin}

get_or-slice : (xs : List Bool) (k : ℕ) → unwrap_or (slice_get xs k) false ≡ get_or xs k false
get_or-slice [] k = refl
get_or-slice (x ∷ xs) zero = refl
get_or-slice (x ∷ xs) (suc k) = get_or-slice xs k

pub length_parts : (ns : List Node) → length (row_parts ns) ≡ length ns
length_parts [] = refl
length_parts (n ∷ ns) = ap (λ k. suc k) (length_parts ns)

-- the net with what the specification says of it
abbrev pub net_with : (ℕ → List ℕ) → Net → NetState → NetAt
net_with names net state = record { part = part_of names state; net = net }

module _ (names : ℕ → List ℕ) (f : Forest) (s : State) (i : Ident) (net : Net) (state : NetState) (h : NetStands names f s i net state) where
  pub here : NetHere f i state (placed_net f i)
  here = net_here f i state h.boxed (identity_long i h.identity) h.found

  pub shown : ShowsNet names s.sites i (here.beside names) state
  shown = subst (λ m. ShowsNet names m i (here.beside names) state) (sym h.sites) (here.shows names)

  pub its_net_part : net_part s i ≡ Some (part_of names state)
  its_net_part = shown.part

  pub its_net : net_at s i ≡ Some (net_with names net state)
  its_net =
      ap (option_and_then (λ (n : NetPart). option_map (λ (w : Net). record { part = n; net = w }) (net_of s n))) its_net_part
      ∙ ap (option_map (λ (w : Net). record { part = part_of names state; net = w })) h.known

  pub has_marks : HasMarks s i (out-NetState state).marks
  has_marks = λ c. ap (λ (o : Option NetPart). unwrap_or (option_and_then (λ (n : NetPart). slice_get n.tokens c) o) 0) its_net_part

  pub its_items : (k : ℕ) → items_of s i k ≡ row_parts (row_at (slice_get (out-NetState state).items.items k))
  its_items = items_are names s i (here.beside names) state here.boxed (children_front i (ids state) here.others here.here) (here.stands names).quiet shown

  pub its_active : (k : ℕ) → active s i k ≡ is_active state k
  its_active k = ap (λ es. nat_lt 0 (length es)) (its_items k) ∙ ap (nat_lt 0) (length_parts (row_at (slice_get (out-NetState state).items.items k)))

  -- ---- its task
  module _ (spec : Spec) (within : NetIsWithin spec net) (t : ℕ) (task : Task) (at : slice_get net.tasks t ≡ Some task) where
    abbrev pub its_task : TaskAt
    its_task = record { number = t; task = task; within = net_with names net state }

    pub task_stands : task_at s i task.name ≡ Some (record { number = t; task = task; within = net_with names net state })
    task_stands =
        ap (option_and_then (λ (n : NetAt). option_and_then (task_in n) (task_number n.net task.name))) its_net
        ∙ ap (option_and_then (task_in (net_with names net state))) (within.tasks t task at)
        ∙ ap (option_map (λ (w : Task). record { number = t; task = w; within = net_with names net state })) at

-- ---- a table of a test, a test and a fact

abbrev pub Table : Bool → Bool → Type 0 → Option Rule → Type 0
Table a b P found = First (test a rules.Active ∷ test b rules.NotEnabled ∷ fact P rules.OrWaits ∷ []) (option_map placeless found)

-- an OR-join's wait, as the table has it
abbrev There : State → Ident → List ℕ → Type 0
There s i name = (y : TaskAt) × (task_at s i name ≡ Some y) × IsTrue (is_or y.task.join) × Waits s i y

abbrev Row : State → Ident → List ℕ → Option TaskAt → Option Rule → Type 0
Row s i name o found = Table (is_some_and o (λ (y : TaskAt). active s i y.number)) (is_some_and o (λ (y : TaskAt). not (has_tokens y.task.join s i y.task.before))) (There s i name) found

module _ (net : Net) (state : NetState) (t : ℕ) (names : ℕ → List ℕ) (f : Forest) (s : State) (i : Ident) (spec : Spec) (task : Task) (h : NetStands names f s i net state) (within : NetIsWithin spec net) (at : slice_get net.tasks t ≡ Some task) where
  abbrev its : TaskAt
  its = record { number = t; task = task; within = net_with names net state }

  stands : task_at s i task.name ≡ Some (record { number = t; task = task; within = net_with names net state })
  stands = task_stands names f s i net state h spec within t task at

  as_row : (found : Option Rule) → Table (is_active state t) (not (has_tokens task.join s i task.before)) (There s i task.name) found → Row s i task.name (task_at s i task.name) found
  as_row found shown =
      subst (λ (o : Option TaskAt). Row s i task.name o found) (sym stands)
      (subst (λ (b : Bool). Table b (not (has_tokens task.join s i task.before)) (There s i task.name) found) (sym (its_active names f s i net state h t)) shown)

  waits_not : OrWaitsAs net state task false → There s i task.name → ⊥
  waits_not answer w =
      let x : TaskAt = record { number = t; task = task; within = net_with names net state } in
      let same : w.0 ≡ x = some_same w.0 x (sym w.1 ∙ stands) in
      let mine = subst (λ (z : TaskAt). IsTrue (is_or z.task.join) × Waits s i z) same (w.2, w.3) in
      elim answer [
        | inl other ↦ never (sym other ∙ mine.0)
        | inr a ↦ never (a.same.1 (fills s i x (out-NetState state).marks a.actives (has_marks names f s i net state h) (λ k l. its_active names f s i net state h k ∙ a.active k l ∙ sym (get_or-slice a.actives k)) mine.1))
      ]

  waits_there : OrWaitsAs net state task true → There s i task.name
  waits_there answer =
      let x : TaskAt = record { number = t; task = task; within = net_with names net state } in
      let a = answer.1 in
      (x, stands, answer.0, waits s i x (out-NetState state).marks a.actives (has_marks names f s i net state h) (λ k l. its_active names f s i net state h k ∙ a.active k l ∙ sym (get_or-slice a.actives k)) (a.same.0 refl))

  shows_active : is_active state t ≡ true → Row s i task.name (task_at s i task.name) (Some rules.Active)
  shows_active e = as_row (Some rules.Active) (subst (λ (b : Bool). Table b (not (has_tokens task.join s i task.before)) (There s i task.name) (Some rules.Active)) (sym e) refl)

  module _ (has : Bool) (tokens : OfTask net t (λ task. HasTokens (out-NetState state).marks task has)) where
    by_tests : (found : Option Rule) → is_active state t ≡ false → Table false (not has) (There s i task.name) found → Row s i task.name (task_at s i task.name) found
    by_tests found e shown =
        as_row found (subst (λ (b : Bool). Table b (not (has_tokens task.join s i task.before)) (There s i task.name) found) (sym e)
        (subst (λ (b : Bool). Table false (not b) (There s i task.name) found) (sym (tokens task at s i (has_marks names f s i net state h))) shown))

pub asks_active : (net : Net) (state : NetState) (t : ℕ) → is_active state t ≡ true → AsksEnter net state t (Some rules.Active)
asks_active net state t e = λ names f s i who spec task h within at. shows_active net state t names f s i spec task h within at e

pub asks_tokens : (net : Net) (state : NetState) (t : ℕ) (has : Bool) → is_active state t ≡ false → OfTask net t (λ task. HasTokens (out-NetState state).marks task has) → has ≡ false → AsksEnter net state t (Some rules.NotEnabled)
asks_tokens net state t has e tokens lacks = λ names f s i who spec task h within at.
    by_tests net state t names f s i spec task h within at has tokens (Some rules.NotEnabled) e
    (subst (λ (b : Bool). Table false (not b) (There s i task.name) (Some rules.NotEnabled)) (sym lacks) refl)

pub asks_waits : (net : Net) (state : NetState) (t : ℕ) (has : Bool) → is_active state t ≡ false → OfTask net t (λ task. HasTokens (out-NetState state).marks task has) → has ≡ true
    → OfTask net t (λ task. OrWaitsAs net state task true) → AsksEnter net state t (Some rules.OrWaits)
asks_waits net state t has e tokens enough answer = λ names f s i who spec task h within at.
    by_tests net state t names f s i spec task h within at has tokens (Some rules.OrWaits) e
    (subst (λ (b : Bool). Table false (not b) (There s i task.name) (Some rules.OrWaits)) (sym enough) (inl (waits_there net state t names f s i spec task h within at (answer task at), refl)))

pub asks_none : (net : Net) (state : NetState) (t : ℕ) (has : Bool) → is_active state t ≡ false → OfTask net t (λ task. HasTokens (out-NetState state).marks task has) → has ≡ true
    → OfTask net t (λ task. OrWaitsAs net state task false) → AsksEnter net state t None
asks_none net state t has e tokens enough answer = λ names f s i who spec task h within at.
    by_tests net state t names f s i spec task h within at has tokens None e
    (subst (λ (b : Bool). Table false (not b) (There s i task.name) None) (sym enough) (inr (waits_not net state t names f s i spec task h within at (answer task at), refl)))

-- ---- what holds of the task with a number

pub of_task_at : (net : Net) (t : ℕ) (P : Task → Type 0) (u : Task) → slice_get net.tasks t ≡ Some u → P u → OfTask net t P
of_task_at net t P u at p = λ task e. subst P (some_same u task (sym at ∙ e)) p
