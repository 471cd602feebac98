-- What a person may do is what is open and for that person.
use Rattle.std.specs.Prelude.{◌≡◌, ◌↔◌, ℕ, ◌&&◌, Bool, true, false, not, List, [], ◌∷◌, Option, Some, None, is_none, is_some, drop, IsTrue, ◌||◌, refl, option_map}
use Rattle.std.specs.Str.{bytes_eq}
use Rattle.std.proofs.Common.{sym, ◌∙◌, ap, subst, inl, inr}
use Rattle.std.proofs.lemmas.Bool.{and_parts, and_from}
use Rattle.yw_spec.specs.declared.task.Task.{Task}
use Rattle.yw_state.proofs.Tests.{never, nowhere, is_not, then_some, map_some, some_same, there}
use Rattle.yw_state.specs.Answers.{IsWork}
use Rattle.yw_state.specs.Broken.{Check, First, fact, has_role, test}
use Rattle.yw_state.specs.Identity.{Ident}
use Rattle.yw_state.specs.Joins.{Waits, has_tokens}
use Rattle.yw_state.specs.Judged.{is_manual}
use Rattle.yw_state.specs.Map.{has_key}
use Rattle.yw_state.specs.Nets.{is_atomic}
use Rattle.yw_base.specs.Gates.{is_or}
use Rattle.yw_state.specs.Options.{is_some_and}
use Rattle.yw_state.specs.State.{ItemAt, State, TaskAt, item_at, item_part, is_item, net_at, net_part, task_at}
use Rattle.yw_state.specs.Words.{active, busy, held, is_executing, is_ready}
use Rattle.yw_state.specs.declared.answer.What.{What}
use Rattle.yw_state.specs.declared.answer.What.TheVariants.{Enter, Start, Complete}
use Rattle.yw_state.specs.declared.answer.WorkRow.{WorkRow}
use Rattle.yw_state.specs.declared.rule.Rule.{Rule}
use Rattle.yw_state.specs.declared.rule.Rule.TheVariants as rules
use Rattle.yw_work.specs.Open.{IsFor, IsForAt, admits, by_person, by_role, roles_of}

-- ---- a table of which nothing is broken

pub passes : (b : Bool) (r : Rule) (cs : List Check) → First (test b r ∷ cs) None → (b ≡ false) × First cs None
passes true r cs e = nowhere e
passes false r cs rest = (refl, rest)

pub fine : (b : Bool) (r : Rule) (cs : List Check) → b ≡ false → First cs None → First (test b r ∷ cs) None
fine b r cs e rest = subst (λ (x : Bool). First (test x r ∷ cs) None) (sym e) rest

-- ---- whom work is for

pub not_not : (b : Bool) → not b ≡ false → b ≡ true
not_not true e = refl
not_not false e = never (sym e)

pub role_admits : (roles : List (List ℕ)) (who : List ℕ) (o : Option (List ℕ)) → admits roles who (by_role o) ≡ has_role roles o
role_admits roles who None = refl
role_admits roles who (Some role) = refl

pub person_admits : (roles : List (List ℕ)) (who : List ℕ) (o : Option (List ℕ))
    → is_some_and o (λ name. not (bytes_eq name who)) ≡ not (admits roles who (by_person o))
person_admits roles who None = refl
person_admits roles who (Some name) = refl

pub present : {A : Type 0} (o : Option A) → is_none o ≡ false → (x : A) × (o ≡ Some x)
present None e = never (sym e)
present (Some x) e = (x, refl)

-- ---- the tables, of the rules that work can break

abbrev lacks : State → List ℕ → Task → Bool
lacks s who t = not (has_role (roles_of s who) t.role)

abbrev WaitsAt : State → Ident → List ℕ → Type 0
WaitsAt s i t = (x : TaskAt) × (task_at s i t ≡ Some x) × IsTrue (is_or x.task.join) × Waits s i x

abbrev told_task : State → Ident → List ℕ → (TaskAt → Bool) → Bool
told_task s i t p = is_some_and (task_at s i t) p

abbrev told_item : State → Ident → (ItemAt → Bool) → Bool
told_item s j p = is_some_and (item_at s j) p

abbrev enter_rows : State → List ℕ → Ident → List ℕ → List Check
enter_rows s who i t =
    test (not (has_key s.persons who)) rules.UnknownPerson
    ∷ test (is_none (net_part s i)) rules.UnknownCase
    ∷ test (is_none (task_at s i t)) rules.UnknownTask
    ∷ test (told_task s i t (λ x. not (is_manual s x))) rules.ByItself
    ∷ test (told_task s i t (λ x. lacks s who x.task)) rules.Role
    ∷ test (held s i) rules.Held
    ∷ test (told_task s i t (λ x. active s i x.number)) rules.Active
    ∷ test (told_task s i t (λ x. not (has_tokens x.task.join s i x.task.before))) rules.NotEnabled
    ∷ fact (WaitsAt s i t) rules.OrWaits
    ∷ []

abbrev start_rows : State → List ℕ → Ident → List Check
start_rows s who j =
    test (not (has_key s.persons who)) rules.UnknownPerson
    ∷ test (not (is_item s j)) rules.UnknownItem
    ∷ test (told_item s j (λ x. not (is_atomic x.of_task.task))) rules.ByItself
    ∷ test (told_item s j (λ x. lacks s who x.of_task.task)) rules.Role
    ∷ test (held s j) rules.Held
    ∷ test (told_item s j (λ x. not (is_ready x.part.stage))) rules.Stage
    ∷ test (busy s j) rules.Busy
    ∷ []

abbrev complete_rows : State → List ℕ → Ident → List Check
complete_rows s who j =
    test (not (has_key s.persons who)) rules.UnknownPerson
    ∷ test (not (is_item s j)) rules.UnknownItem
    ∷ test (told_item s j (λ x. not (is_atomic x.of_task.task) || is_some (net_part s j))) rules.ByItself
    ∷ test (held s j) rules.Held
    ∷ test (told_item s j (λ x. not (is_executing x.part.stage))) rules.Stage
    ∷ test (told_item s j (λ x. is_some_and x.part.who (λ name. not (bytes_eq name who)))) rules.NotYours
    ∷ test (busy s j) rules.Busy
    ∷ []

-- ---- an entry

module _ (s : State) (who : List ℕ) (i : Ident) (t : List ℕ) where
  abbrev rows : ℕ → List Check
  rows n = drop n (enter_rows s who i t)

  pub enter_is_open : First (enter_rows s who i t) None → IsForAt s who i t Enter
  enter_is_open w =
      let a = passes (not (has_key s.persons who)) rules.UnknownPerson (rows 1) w in
      let b = passes (is_none (net_part s i)) rules.UnknownCase (rows 2) a.1 in
      let c = passes (is_none (task_at s i t)) rules.UnknownTask (rows 3) b.1 in
      let d = passes (told_task s i t (λ x. not (is_manual s x))) rules.ByItself (rows 4) c.1 in
      let e = passes (told_task s i t (λ x. lacks s who x.task)) rules.Role (rows 5) d.1 in
      let f = passes (held s i) rules.Held (rows 6) e.1 in
      let g = passes (told_task s i t (λ x. active s i x.number)) rules.Active (rows 7) f.1 in
      let h = passes (told_task s i t (λ x. not (has_tokens x.task.join s i x.task.before))) rules.NotEnabled (rows 8) g.1 in
      let (x, here) = present (task_at s i t) c.0 in
      let its : (p : TaskAt → Bool) → told_task s i t p ≡ false → p x ≡ false = λ p none. sym (ap (λ o. is_some_and o p) here) ∙ none in
      let free : WaitsAt s i t → ⊥ = elim h.1 [ inl broken ↦ nowhere broken.1 | inr fine ↦ fine.0 ] in
      record {
        person = not_not (has_key s.persons who) a.0;
        by = by_role x.task.role;
        is = record {
          of_task = x;
          here = here;
          may =
              and_from _ _ (not_not _ (its (λ x. not (is_manual s x)) d.0))
              (and_from _ _ (ap not (its (λ x. active s i x.number) g.0)) (not_not _ (its (λ x. not (has_tokens x.task.join s i x.task.before)) h.0)));
          goes = λ is waits. free (x, here, is, waits);
          whom = refl;
        };
        free = f.0;
        admitted = role_admits (roles_of s who) who x.task.role ∙ not_not _ (its (λ x. lacks s who x.task) e.0);
      }

  pub open_is_enter : IsForAt s who i t Enter → First (enter_rows s who i t) None
  open_is_enter w =
      let x = w.is.of_task in
      let its : (p : TaskAt → Bool) → p x ≡ false → told_task s i t p ≡ false = λ p none. ap (λ o. is_some_and o p) w.is.here ∙ none in
      let (n, here, named) = then_some _ (net_at s i) x w.is.here in
      let (part, stands, of_spec) = then_some _ (net_part s i) n here in
      let a = and_parts (is_manual s x) (not (active s i x.number) && has_tokens x.task.join s i x.task.before) w.is.may in
      let c = and_parts (not (active s i x.number)) (has_tokens x.task.join s i x.task.before) a.1 in
      let role = sym (role_admits (roles_of s who) who x.task.role) ∙ sym (ap (admits (roles_of s who) who) w.is.whom) ∙ w.admitted in
      fine (not (has_key s.persons who)) rules.UnknownPerson (rows 1) (ap not w.person)
      (fine (is_none (net_part s i)) rules.UnknownCase (rows 2) (ap is_none stands)
      (fine (is_none (task_at s i t)) rules.UnknownTask (rows 3) (ap is_none w.is.here)
      (fine (told_task s i t (λ x. not (is_manual s x))) rules.ByItself (rows 4) (its (λ x. not (is_manual s x)) (ap not a.0))
      (fine (told_task s i t (λ x. lacks s who x.task)) rules.Role (rows 5) (its (λ x. lacks s who x.task) (ap not role))
      (fine (held s i) rules.Held (rows 6) w.free
      (fine (told_task s i t (λ x. active s i x.number)) rules.Active (rows 7) (its (λ x. active s i x.number) (is_not _ c.0))
      (fine (told_task s i t (λ x. not (has_tokens x.task.join s i x.task.before))) rules.NotEnabled (rows 8)
      (its (λ x. not (has_tokens x.task.join s i x.task.before)) (ap not c.1))
      (inr (
        (λ (y, there, is, waits). let same : y ≡ x = some_same y x (sym there
            ∙ w.is.here) in w.is.goes (subst (λ (z : TaskAt). IsTrue (is_or z.task.join)) same is) (subst (λ (z : TaskAt). Waits s i z) same waits)),
        refl,
      )))))))))

-- ---- an item

abbrev name_of : ItemAt → List ℕ
name_of x = x.of_task.task.name

-- an item with its task is an item
is_there : (s : State) (j : Ident) (x : ItemAt) → item_at s j ≡ Some x → is_item s j ≡ true
is_there s j x here = let (part, stands, of_task) = then_some _ (item_part s j) x here in ap is_some stands

module _ (s : State) (who : List ℕ) (j : Ident) (t : List ℕ) where
  abbrev starts : ℕ → List Check
  starts n = drop n (start_rows s who j)

  abbrev completes : ℕ → List Check
  completes n = drop n (complete_rows s who j)

  pub start_is_open : First (start_rows s who j) None → option_map name_of (item_at s j) ≡ Some t → IsForAt s who j t Start
  start_is_open w named =
      let a = passes (not (has_key s.persons who)) rules.UnknownPerson (starts 1) w in
      let b = passes (not (is_item s j)) rules.UnknownItem (starts 2) a.1 in
      let c = passes (told_item s j (λ x. not (is_atomic x.of_task.task))) rules.ByItself (starts 3) b.1 in
      let d = passes (told_item s j (λ x. lacks s who x.of_task.task)) rules.Role (starts 4) c.1 in
      let e = passes (held s j) rules.Held (starts 5) d.1 in
      let f = passes (told_item s j (λ x. not (is_ready x.part.stage))) rules.Stage (starts 6) e.1 in
      let g = passes (busy s j) rules.Busy (starts 7) f.1 in
      let (x, here, its_name) = map_some name_of (item_at s j) t named in
      let its : (p : ItemAt → Bool) → told_item s j p ≡ false → p x ≡ false = λ p none. sym (ap (λ o. is_some_and o p) here) ∙ none in
      record {
        person = not_not (has_key s.persons who) a.0;
        by = by_role x.of_task.task.role;
        is = record {
          item = x;
          here = here;
          may =
              and_from _ _ (not_not _ (its (λ y. not (is_atomic y.of_task.task)) c.0))
              (and_from _ _ (not_not _ (its (λ y. not (is_ready y.part.stage)) f.0)) (ap not g.0));
          named = its_name;
          whom = refl;
        };
        free = e.0;
        admitted = role_admits (roles_of s who) who x.of_task.task.role ∙ not_not _ (its (λ y. lacks s who y.of_task.task) d.0);
      }

  pub open_is_start : IsForAt s who j t Start → First (start_rows s who j) None × (option_map name_of (item_at s j) ≡ Some t)
  open_is_start w =
      let x = w.is.item in
      let its : (p : ItemAt → Bool) → p x ≡ false → told_item s j p ≡ false = λ p none. ap (λ o. is_some_and o p) w.is.here ∙ none in
      let a = and_parts (is_atomic x.of_task.task) (is_ready x.part.stage && not (busy s j)) w.is.may in
      let c = and_parts (is_ready x.part.stage) (not (busy s j)) a.1 in
      let role = sym (role_admits (roles_of s who) who x.of_task.task.role) ∙ sym (ap (admits (roles_of s who) who) w.is.whom) ∙ w.admitted in (
        fine (not (has_key s.persons who)) rules.UnknownPerson (starts 1) (ap not w.person)
            (fine (not (is_item s j)) rules.UnknownItem (starts 2) (ap not (is_there s j x w.is.here))
            (fine (told_item s j (λ y. not (is_atomic y.of_task.task))) rules.ByItself (starts 3) (its (λ y. not (is_atomic y.of_task.task)) (ap not a.0))
            (fine (told_item s j (λ y. lacks s who y.of_task.task)) rules.Role (starts 4) (its (λ y. lacks s who y.of_task.task) (ap not role))
            (fine (held s j) rules.Held (starts 5) w.free
            (fine (told_item s j (λ y. not (is_ready y.part.stage))) rules.Stage (starts 6) (its (λ y. not (is_ready y.part.stage)) (ap not c.0))
            (fine (busy s j) rules.Busy (starts 7) (is_not _ c.1) refl)))))),
        ap (option_map name_of) w.is.here ∙ ap Some w.is.named,
      )

  nobody : (a : Bool) {A : Type 0} (o : Option A) → (not a || is_some o) ≡ false → (a ≡ true) × (is_none o ≡ true)
  nobody true None e = (refl, refl)
  nobody true (Some x) e = never (sym e)
  nobody false o e = never (sym e)

  nothing_there : (a : Bool) {A : Type 0} (o : Option A) → a ≡ true → is_none o ≡ true → (not a || is_some o) ≡ false
  nothing_there true None e f = refl
  nothing_there true (Some x) e f = never f
  nothing_there false o e f = never e

  pub complete_is_open : First (complete_rows s who j) None → option_map name_of (item_at s j) ≡ Some t → IsForAt s who j t Complete
  complete_is_open w named =
      let a = passes (not (has_key s.persons who)) rules.UnknownPerson (completes 1) w in
      let b = passes (not (is_item s j)) rules.UnknownItem (completes 2) a.1 in
      let c = passes (told_item s j (λ x. not (is_atomic x.of_task.task) || is_some (net_part s j))) rules.ByItself (completes 3) b.1 in
      let d = passes (held s j) rules.Held (completes 4) c.1 in
      let e = passes (told_item s j (λ x. not (is_executing x.part.stage))) rules.Stage (completes 5) d.1 in
      let f = passes (told_item s j (λ x. is_some_and x.part.who (λ name. not (bytes_eq name who)))) rules.NotYours (completes 6) e.1 in
      let g = passes (busy s j) rules.Busy (completes 7) f.1 in
      let (x, here, its_name) = map_some name_of (item_at s j) t named in
      let its : (p : ItemAt → Bool) → told_item s j p ≡ false → p x ≡ false = λ p none. sym (ap (λ o. is_some_and o p) here) ∙ none in
      let alone = nobody (is_atomic x.of_task.task) (net_part s j) (its (λ y. not (is_atomic y.of_task.task) || is_some (net_part s j)) c.0) in
      record {
        person = not_not (has_key s.persons who) a.0;
        by = by_person x.part.who;
        is = record {
          item = x;
          here = here;
          may = and_from _ _ alone.0 (and_from _ _ alone.1 (and_from _ _ (not_not _ (its (λ y. not (is_executing y.part.stage)) e.0)) (ap not g.0)));
          named = its_name;
          whom = refl;
        };
        free = d.0;
        admitted = not_not _ (sym (person_admits (roles_of s who) who x.part.who) ∙ its (λ y. is_some_and y.part.who (λ name. not (bytes_eq name who))) f.0);
      }

  pub open_is_complete : IsForAt s who j t Complete → First (complete_rows s who j) None × (option_map name_of (item_at s j) ≡ Some t)
  open_is_complete w =
      let x = w.is.item in
      let its : (p : ItemAt → Bool) → p x ≡ false → told_item s j p ≡ false = λ p none. ap (λ o. is_some_and o p) w.is.here ∙ none in
      let a = and_parts (is_atomic x.of_task.task) (is_none (net_part s j) && (is_executing x.part.stage && not (busy s j))) w.is.may in
      let b = and_parts (is_none (net_part s j)) (is_executing x.part.stage && not (busy s j)) a.1 in
      let d = and_parts (is_executing x.part.stage) (not (busy s j)) b.1 in
      let yours = person_admits (roles_of s who) who x.part.who ∙ ap not (sym (ap (admits (roles_of s who) who) w.is.whom) ∙ w.admitted) in (
        fine (not (has_key s.persons who)) rules.UnknownPerson (completes 1) (ap not w.person)
            (fine (not (is_item s j)) rules.UnknownItem (completes 2) (ap not (is_there s j x w.is.here))
            (fine (told_item s j (λ y. not (is_atomic y.of_task.task) || is_some (net_part s j))) rules.ByItself (completes 3)
            (its (λ y. not (is_atomic y.of_task.task) || is_some (net_part s j)) (nothing_there (is_atomic x.of_task.task) (net_part s j) a.0 b.0))
            (fine (held s j) rules.Held (completes 4) w.free
            (fine (told_item s j (λ y. not (is_executing y.part.stage))) rules.Stage (completes 5) (its (λ y. not (is_executing y.part.stage)) (ap not d.0))
            (fine (told_item s j (λ y. is_some_and y.part.who (λ name. not (bytes_eq name who)))) rules.NotYours (completes 6)
            (its (λ y. is_some_and y.part.who (λ name. not (bytes_eq name who))) yours)
            (fine (busy s j) rules.Busy (completes 7) (is_not _ d.1) refl)))))),
        ap (option_map name_of) w.is.here ∙ ap Some w.is.named,
      )

-- ---- a row

pub is_open : (s : State) (who : List ℕ) (at : Ident) (task : List ℕ) (what : What) → IsWork s who (record { at = at; task = task; what = what })
    → IsForAt s who at task what
is_open s who at task Enter w = enter_is_open s who at task w
is_open s who at task Start w = start_is_open s who at task w.0 w.1
is_open s who at task Complete w = complete_is_open s who at task w.0 w.1

pub is_work : (s : State) (who : List ℕ) (at : Ident) (task : List ℕ) (what : What) → IsForAt s who at task what
    → IsWork s who (record { at = at; task = task; what = what })
is_work s who at task Enter w = open_is_enter s who at task w
is_work s who at task Start w = open_is_start s who at task w
is_work s who at task Complete w = open_is_complete s who at task w

pub both : (s : State) (who : List ℕ) (row : WorkRow) → IsWork s who row ↔ IsFor s who row
both s who row = (is_open s who row.at row.task row.what, is_work s who row.at row.task row.what)
