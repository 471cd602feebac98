-- A task that may be entered by no person is entered by the event that is made of it.
use Rattle.std.proofs.Common.{Bool, List, None, Option, Some, [], ap, arith, false, length, map, refl, subst, suc, sym, true, ⊎_elim, ℕ, ◌+◌, ◌∙◌, ◌∷◌, ◌≡◌, ◌≤◌}
use Rattle.std.proofs.lemmas.Bool.{and_parts, leb-true}
use Rattle.std.proofs.lemmas.Option.{slice_get_within}
use Rattle.std.proofs.Math.Bool.{and-true}
use Rattle.std.specs.Prelude.{Vec, nat_le, not, option_map, slice_get, unwrap_or, ◌&&◌}
use Rattle.std.specs.declared.alloc.Global.{Global}
use Rattle.yw_base.specs.Identity.{number_end, case_number}
use Rattle.yw_base.specs.declared.value.Value.{Value}
use Rattle.yw_enabled.proofs.Coming.{enter_may}
use Rattle.yw_enabled.proofs.FreeItems.{task_is}
use Rattle.yw_enabled.specs.Entered.{EntersFirst, EntersFrom, is_chosen, is_manual as is_manual_by}
use Rattle.yw_enabled.specs.Free.{MayDraw}
use Rattle.yw_enabled.specs.declared.entered.Entering.{Entering}
use Rattle.yw_known.specs.declared.here.NetHere.{NetHere}
use Rattle.yw_mark.specs.Taking.{OfTask, taken_places}
use Rattle.yw_mark.specs.declared.join.Taken.{Taken}
use Rattle.yw_spec.specs.declared.spec.Net.{Net}
use Rattle.yw_spec.specs.declared.spec.Place.{Place}
use Rattle.yw_spec.specs.declared.task.Many.{Many}
use Rattle.yw_spec.specs.declared.task.Task.{Task}
use Rattle.yw_state.proofs.Tests.{map_some, never, some_same, then_some, there_and}
use Rattle.yw_plain.specs.Plain.{is_plain_event}
use Rattle.yw_state.specs.Allowed.{Allowed, place_numbers}
use Rattle.yw_state.specs.Automatic.{case_of, is_automatic}
use Rattle.yw_state.specs.Identity.{Ident}
use Rattle.yw_state.specs.Joins.{has_tokens}
use Rattle.yw_state.specs.Judged.{is_manual}
use Rattle.yw_state.specs.Nets.{is_atomic}
use Rattle.yw_state.specs.Options.{all_of, is_some_and}
use Rattle.yw_state.specs.Passing.{elements_for, entry_values, given_values, within_bounds}
use Rattle.yw_state.specs.State.{State, TaskAt, task_at}
use Rattle.yw_state.specs.Texts.{nothing}
use Rattle.yw_state.specs.Values.{Row}
use Rattle.yw_state.specs.Words.{active, clear}
use Rattle.yw_state.specs.declared.event.Event.{Event}
use Rattle.yw_state.specs.declared.event.Event.TheVariants as events
use Rattle.yw_still.specs.Still.{can_be_entered, may_be_made, task_numbered}
use Rattle.yw_task.proofs.EnterAsk.{net_with}
use Rattle.yw_task.specs.Giving.{entry_rows}
use Rattle.yw_tree.specs.declared.Forest.{Forest}
use Rattle.yw_tree.specs.declared.NetState.{NetState, out-NetState}
use Rattle.yw_walk.proofs.Leaving.{task_there}
use Rattle.yw_walk.proofs.Numbered.{are_numbered}
use Rattle.yw_walk.specs.Finds.{AtomicIsManual, ComesPlainly, EntersAs, FindsEntered, IsEntered, IsEntry, TellsChosen, most_items}
use Rattle.yw_walk.specs.Places.{places_numbered}
use Rattle.yw_walk.specs.declared.found.Computed.TheVariants as computed
use Rattle.yw_walk.specs.declared.found.Found.{Found}
use Rattle.yw_within.proofs.Finding.{element_at, numbered_of, task_found}
use Rattle.yw_within.specs.Within.{HoldsWithin}

-- ---- how many items

as_long : {A B : Type 0} (f : A → Option B) (xs : List A) (ys : List B) → all_of (map f xs) ≡ Some ys → length ys ≡ length xs
as_long f [] ys e = ap length (sym (some_same [] ys e))
as_long {A} {B} f (x ∷ xs) ys e =
    let y = then_some (λ (z : B). option_map (λ zs. z ∷ zs) (all_of (map f xs))) (f x) ys e in
    let rest = map_some (λ zs. y.0 ∷ zs) (all_of (map f xs)) ys y.2 in
    ap length (sym rest.2) ∙ ap (λ k. suc k) (as_long f xs rest.0 rest.1)

-- one for each element
rows_long : (t : Task) (vals : Row) (rows : List Row) → entry_values t vals ≡ Some rows
    → option_map (λ (es : List (Option Value)). length es) (elements_for t.many vals) ≡ Some (length rows)
rows_long t vals rows e =
    let es = then_some (λ (os : List (Option Value)). all_of (map (given_values t vals) os)) (elements_for t.many vals) rows e in
    ap (option_map (λ (os : List (Option Value)). length os)) es.1 ∙ ap (λ k. Some k) (sym (as_long (given_values t vals) es.0 rows es.2))

-- no more than the task may have
most_of : (o : Option Many) (vals : Row) (n : ℕ) → option_map (λ (es : List (Option Value)). length es) (elements_for o vals) ≡ Some n
    → within_bounds o n ≡ true → n ≤ unwrap_or (option_map (λ (m : Many). m.max) o) 1
most_of None vals n long within =
    let one : 1 ≡ n = some_same 1 n long in
    let few : n ≤ 1 = omega (arith, one) in
    few
most_of (Some m) vals n long within = leb-true n m.max (and_parts (nat_le m.min n) (nat_le n m.max) within).1

few_rows : (s : State) (i : Ident) (x : TaskAt) → can_be_entered s i x ≡ true → length (entry_rows x.task x.within.part.vals) ≤ most_items x.task
few_rows s i x may =
    let made = and_parts (clear s i && not (active s i x.number) && has_tokens x.task.join s i x.task.before)
    (is_some_and (entry_values x.task x.within.part.vals) (may_be_made s x)) may in
    let r = there_and (entry_values x.task x.within.part.vals) (may_be_made s x) made.1 in
    let bounds = and_parts (within_bounds x.task.many (length r.0)) (nat_le (s.next + length r.0) number_end) r.2 in
    subst (λ k. k ≤ most_items x.task) (sym (ap (λ (o : Option (List Row)). length (unwrap_or o [])) r.1))
    (most_of x.task.many x.within.part.vals (length r.0) (rows_long x.task x.within.part.vals r.0 r.1) bounds.0)

-- ---- the entry

module _ (net : Net) (state : NetState) (i : Ident) (next : ℕ) where
  -- so many rows an entry gives, where they are no more than the task may have
  abbrev CountsRows : Task → ℕ → Type 0
  CountsRows task count =
      length (entry_rows task (out-NetState state).vals) ≤ most_items task → count ≡ length (entry_rows task (out-NetState state).vals)

  is_entry : (t : ℕ) (task : Task) (taken : Taken) (count : ℕ) (rows : Vec Row Global) → slice_get net.tasks t ≡ Some task
      → rows.items ≡ entry_rows task (out-NetState state).vals → CountsRows task count
      → (names : ℕ → List ℕ) (f : Forest) (s : State) (x : TaskAt) → MayDraw names f s i net state next → HoldsWithin s
      → task_numbered s i t ≡ Some x → EntersFrom s i x (taken_places (out-NetState state).marks x.task.before taken)
      → IsEntered s i x.task.name (record {
        event = events.Enter i task.name (places_numbered net (taken_places (out-NetState state).marks task.before taken)) next count;
        computed = computed.Enter t taken rows;
      })
  is_entry t task taken count rows at gives counts names f s x draw holds is enters =
      let y : TaskAt = record { number = t; task = task; within = net_with names net state } in
      let there : task_numbered s i t ≡ Some y = task_there names f s i net state draw.free.stands t task at in
      let its : x ≡ y = some_same x y (sym is ∙ there) in
      let enters_y : EntersFrom s i y (taken_places (out-NetState state).marks task.before taken) = subst
      (λ (z : TaskAt). EntersFrom s i z (taken_places (out-NetState state).marks z.task.before taken)) its enters in
      let may = enter_may s holds i t y there taken enters_y in
      let cs : List ℕ = taken_places (out-NetState state).marks task.before taken in
      let named : places_numbered net cs ≡ may.places = are_numbered net may.places cs may.takes in
      let long : length (entry_rows task (out-NetState state).vals) ≡ count = sym (counts (few_rows s i y enters_y.may)) in
      let event : events.Enter i task.name may.places s.next (length (entry_rows task (out-NetState state).vals))
      ≡ events.Enter i task.name (places_numbered net cs) next count =
      λ k. events.Enter i task.name (sym named k) (draw.next k) (long k) in
      record {
        enters = record {
          places = places_numbered net cs;
          count = count;
          is = λ k. events.Enter i (ap (λ (z : TaskAt). z.task.name) (sym its) k) (places_numbered net cs) (sym draw.next k) count;
          allowed = subst (λ e. Allowed s e nothing) event may.allowed;
        };
        computed = record {
          of_task = y;
          named = task_found s holds i y (numbered_of s i t y there);
          number = refl;
          takes = subst (λ ps. place_numbers net ps ≡ Some cs) (sym named) may.takes;
          gives = gives;
        };
      }

  -- and so does each that has these fields
  pub made_entry : (t : ℕ) (task : Task) (taken : Taken) (count : ℕ) (rows : Vec Row Global) → slice_get net.tasks t ≡ Some task
      → (j name : List ℕ) (numbers : List ℕ) (places : List Place) → j ≡ i → name ≡ task.name
      → numbers ≡ taken_places (out-NetState state).marks task.before taken → places ≡ places_numbered net numbers
      → rows.items ≡ entry_rows task (out-NetState state).vals → CountsRows task count
      → (names : ℕ → List ℕ) (f : Forest) (s : State) (x : TaskAt) → MayDraw names f s i net state next → HoldsWithin s
      → task_numbered s i t ≡ Some x → EntersFrom s i x (taken_places (out-NetState state).marks x.task.before taken)
      → IsEntered s i x.task.name (record { event = events.Enter j name places next count; computed = computed.Enter t taken rows })
  made_entry t task taken count rows at j name numbers places its_net its_name its_numbers its_places gives counts =
      λ names f s x draw holds is enters.
      let whole = its_places ∙ ap (places_numbered net) its_numbers in
      subst (λ (e : Event). IsEntered s i x.task.name (record { event = e; computed = computed.Enter t taken rows }))
      (λ k. events.Enter (sym its_net k) (sym its_name k) (sym whole k) next count)
      (is_entry t task taken count rows at gives counts names f s x draw holds is enters)

-- where no person enters the task, the event comes of itself
comes_plainly : (s : State) → HoldsWithin s → (i : Ident) (t : ℕ) (x : TaskAt) → task_numbered s i t ≡ Some x → is_manual s x ≡ false
    → (e : Event) → EntersAs s i x.task.name e → ComesPlainly s (case_number i) e
comes_plainly s holds i t x is kind e enters =
    let named : task_at s i x.task.name ≡ Some x = task_found s holds i x (numbered_of s i t x is) in
    let by_itself = ap (λ o. is_some_and o (λ (y : TaskAt). not (is_manual s y))) named ∙ ap not kind in
    record {
      comes = record {
        here = ap case_of enters.is;
        automatic = ap (is_automatic s) enters.is ∙ by_itself;
        allowed = enters.allowed;
      };
      plain = λ no. ap is_plain_event enters.is;
    }

-- where persons enter the atomic tasks and no others, no tree chooses worklets, and nothing need be told
pub none_chosen : (s : State) (i : Ident) → AtomicIsManual s → TellsChosen s i []
none_chosen s i manual k x is = manual x ∙ sym (and-true (is_atomic x.task))

pub finds_entered : (h : NetHere) (i : Ident) (next : ℕ) (chosen : List Bool) (t : ℕ) (x : Entering) (e : Found)
    → EntersFirst h.net.now h.state.now next chosen (Some (t, x)) → IsEntry h i next t x.taken e → FindsEntered h i next chosen (Some e)
finds_entered h i next chosen t x e first entry = λ names f s draw holds tells.
    let (task, at) = element_at h.net.now.tasks t first.below in
    let y : TaskAt = record { number = t; task = task; within = net_with names h.net.now h.state.now } in
    let is = task_there names f s i h.net.now h.state.now draw.free.stands t task at in
    let it = entry names f s y draw holds is (first.comes.entering.enters names f s i y draw is) in
    record { comes = comes_plainly s holds i t y is (tells t y is ∙ first.comes.kind task at) e.event it.enters; computed = it.computed }

pub finds_none_entered : (h : NetHere) (i : Ident) (next : ℕ) (chosen : List Bool) → EntersFirst h.net.now h.state.now next chosen None
    → FindsEntered h i next chosen None
finds_none_entered h i next chosen none = λ names f s draw holds tells k x is may.
    let y = task_is names f s i h.net.now h.state.now draw.free k x is in
    let parts = and_parts (not (is_manual s x)) (can_be_entered s i x) may in
    ⊎_elim
    (λ (persons : OfTask h.net.now k (λ task. is_manual_by task (is_chosen chosen k) ≡ true)).
    let kind : is_manual s x ≡ true = tells k x is ∙ ap (λ (z : TaskAt). is_manual_by z.task (is_chosen chosen k)) (sym y.2) ∙ persons y.0 y.1 in
    never (ap not (sym kind) ∙ parts.0))
    (λ out. out names f s i x draw is parts.1)
    (none k (slice_get_within h.net.now.tasks k y.0 y.1))
