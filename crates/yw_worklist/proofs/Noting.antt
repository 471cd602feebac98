-- What is listed behind the events of an entry.
use Rattle.std.proofs.Common.{ap, arith, get_or, inl, inr, refl, subst, sym, take, ◌∙◌}
use Rattle.std.proofs.lemmas.Bool.{and_from, and_parts, eqb-true, leb-true, ltb-true, or_from, or_parts}
use Rattle.std.proofs.lemmas.List.Folds.{list_any-append, list_any_more}
use Rattle.std.specs.BTreeSet.{BTreeSet}
use Rattle.std.specs.List.{filter_map, list_all, list_any}
use Rattle.std.specs.Prelude.{◌≡◌, ◌⊎◌, ◌+◌, ◌<◌, ◌≤◌, ◌&&◌, ◌||◌, ◌==◌, ◌++◌, [], ◌∷◌, ℕ, Bool, cond, Contains, false, IsTrue, is_none, is_some, length, List, map, nat_le, nat_lt, None, not, Option, option_map, Some, true, unwrap_or}
use Rattle.std.specs.BTreeMap as tree
use Rattle.yw_accepted.proofs.Loaded.{accepted_are_sound}
use Rattle.std.specs.Ordering.{eq_by_cmp}
use Rattle.yw_base.specs.declared.gate.Gate.{Gate}
use Rattle.yw_base.specs.declared.gate.Gate.TheVariants.{And, Or, Xor}
use Rattle.yw_base.specs.Identity.{is_identity, is_number, most_numbers, parent, under}
use Rattle.yw_idle.specs.Warms.{changes, is_rule, warms}
use Rattle.yw_invariant.proofs.EventsWell.{event_keeps_well}
use Rattle.yw_library.specs.Held.{IsHeld}
use Rattle.yw_library.specs.Holdings.{Holdings}
use Rattle.yw_library.specs.Names.{names_of}
use Rattle.yw_texts.specs.Texts.{reader}
use Rattle.yw_shown.proofs.Elements.{found_in}
use Rattle.yw_state.proofs.Entries.{IsIn}
use Rattle.yw_state.proofs.MapLemmas.{by_names, get-insert}
use Rattle.yw_state.proofs.Tests.{by_option, by_test, never, nowhere, or_cases}
use Rattle.yw_state.specs.Allowed.{Allowed}
use Rattle.yw_state.specs.Events.{LeadAll, after}
use Rattle.yw_state.specs.Identity.{Ident, same}
use Rattle.yw_spec.specs.Net.{Node, at_place, at_task}
use Rattle.yw_state.specs.Joins.{has_tokens, holds_token}
use Rattle.yw_state.specs.Judged.{has_rules, is_manual, is_select, place_key, rules_at, task_place}
use Rattle.yw_state.specs.Map.{get, insert, lexical, lexical_each}
use Rattle.yw_state.specs.Nets.{is_atomic}
use Rattle.yw_state.specs.Options.{is_some_and}
use Rattle.yw_state.specs.RuleTree.{TreeRule}
use Rattle.yw_state.specs.State.{Site, State, TaskAt, is_suspended, run_part}
use Rattle.yw_state.specs.Texts.{Said, a_spec, a_test, nothing}
use Rattle.yw_state.specs.Well.{IsWell, Stands}
use Rattle.yw_state.specs.Words.{active}
use Rattle.yw_state.specs.declared.answer.What.{What}
use Rattle.yw_state.specs.declared.answer.What.TheVariants.{Complete, Enter, Start}
use Rattle.yw_state.specs.declared.event.Event.{Event}
use Rattle.yw_state.specs.declared.event.Event.TheVariants as events
use Rattle.yw_state.specs.declared.tree.TreeKind.TheVariants.{Select}
use Rattle.yw_state.specs.declared.tree.TreePlace.{TreePlace}
use Rattle.yw_tree.proofs.FindLaw.{find_is}
use Rattle.yw_tree.specs.Spots.{part_at, part_site}
use Rattle.yw_tree.specs.declared.Forest.{Forest}
use Rattle.yw_work.specs.Listed.{is_warm}
use Rattle.yw_work.specs.Open.{IsOpen, StaysOpen}
use Rattle.yw_work.specs.Rules.{is_first_choice}
use Rattle.yw_work.specs.Tops.{is_reached, top}
use Rattle.yw_work.specs.declared.open.By.{By}
use Rattle.yw_work.specs.declared.open.Open.{Open}
use Rattle.yw_worklist.proofs.Asking.{people_follow, people_held}
use Rattle.yw_worklist.proofs.Keys.{in_keys}
use Rattle.yw_worklist.proofs.Looking.{same_right}
use Rattle.yw_worklist.proofs.Nowhere.{no_run, none_open, none_suspended}
use Rattle.yw_worklist.specs.Lists.{IsRightAt, Looks, Places, has_place, is_marked, is_placed, is_run, works_at}
use Rattle.yw_worklist.specs.People.{Asks, person_of, roles_in}
use Rattle.yw_worklist.specs.Touched.{Adds, HasTouched, Notes, StaysRight, adds_choice, is_gone, is_touched, takes}
use Rattle.yw_worklist.specs.declared.lists.Lists.{Lists}
use Rattle.yw_worklist.specs.declared.people.People.{People}

-- ---- a rule by which worklets are chosen opens nothing

module _ (s : State) (p : TreePlace) (r : TreeRule) where
  abbrev t : State
  t = record s { rules = insert s.rules (place_key p) (rules_at s p ++ r ∷ []) }

  none_of_one : (rs : List TreeRule) → (length (rs ++ r ∷ []) == 0) ≡ true → ⊥
  none_of_one [] e = never e
  none_of_one (q ∷ rs) e = let none = eqb-true (length (q ∷ (rs ++ r ∷ []))) 0 e in omega (arith, none)

  manual_before : (x : TaskAt) → is_manual t x ≡ true → is_manual s x ≡ true
  manual_before x e =
      let q = task_place x Select in
      let parts = and_parts (is_atomic x.task) (length (rules_at t q) == 0) e in
      let now : rules_at t q ≡ unwrap_or (cond (eq_by_cmp lexical_each (place_key q) (place_key p)) (Some (rules_at s p ++ r ∷ [])) (get s.rules (place_key q))) [] =
      ap (λ o. unwrap_or o []) (get-insert by_names s.rules (place_key p) (rules_at s p ++ r ∷ []) (place_key q)) in
      by_test (eq_by_cmp lexical_each (place_key q) (place_key p))
      (λ tie. absurd (none_of_one (rules_at s p) (sym (ap (λ rs. length rs == 0) (now
      ∙ ap (λ b. unwrap_or (cond b (Some (rules_at s p ++ r ∷ [])) (get s.rules (place_key q))) []) tie)) ∙ parts.1)))
      (λ other. and_from (is_atomic x.task) (length (rules_at s q) == 0) parts.0
      (sym (ap (λ rs. length rs == 0) (now
      ∙ ap (λ b. unwrap_or (cond b (Some (rules_at s p ++ r ∷ [])) (get s.rules (place_key q))) []) other)) ∙ parts.1))

  grown_opens_none : (j : Ident) (name : List ℕ) (what : What) (by : By) → IsOpen t j name what by → IsOpen s j name what by
  grown_opens_none j name Enter by o =
      let x = o.of_task in
      let parts = and_parts (is_manual t x) (not (active t j x.number) && has_tokens x.task.join t j x.task.before) o.may in
      record {
        of_task = x;
        here = o.here;
        may = and_from (is_manual s x) (not (active s j x.number) && has_tokens x.task.join s j x.task.before) (manual_before x parts.0)
            (tokens_before x.task.join x.task.before x.number parts.1);
        goes = λ is waits. o.goes is (record {
          input = waits.input;
          of_task = waits.of_task;
          empty = waits.empty;
          source = waits.source;
          holds = holds_before waits.source waits.holds;
          path = waits.path;
        });
        whom = o.whom;
      }
    where
      tokens_before : (g : Gate) (before : List ℕ) (k : ℕ) → (not (active t j k) && has_tokens g t j before) ≡ true
          → (not (active s j k) && has_tokens g s j before) ≡ true
      tokens_before And before k e = e
      tokens_before Xor before k e = e
      tokens_before Or before k e = e

      holds_before : (n : Node) → IsTrue (holds_token s j n) → IsTrue (holds_token t j n)
      holds_before (at_place c) e = e
      holds_before (at_task k) e = e
  grown_opens_none j name Start by o = record { item = o.item; here = o.here; may = o.may; named = o.named; whom = o.whom }
  grown_opens_none j name Complete by o = record { item = o.item; here = o.here; may = o.may; named = o.named; whom = o.whom }

-- ---- one event

-- What stands at j stood there before. No more is open there, and no less unless worklets are chosen anew; its mark and its run are the same.
record Carries (s t : State) (j : Ident) (all : Bool) : Type 0 where
  stood : (y : Site) × Stands s j y
  fewer : (name : List ℕ) (what : What) (by : By) → IsOpen t j name what by → IsOpen s j name what by
  more : all ≡ true → (name : List ℕ) (what : What) (by : By) → IsOpen s j name what by → IsOpen t j name what by
  suspended : is_suspended t j ≡ is_suspended s j
  run : run_part t j ≡ run_part s j

as_open : (s t : State) (j : Ident) (all : Bool) → StaysOpen s t j → Carries s t j all
as_open s t j all stays = record {
  stood = stays.stood;
  fewer = λ name what by. (stays.open_same name what by).1;
  more = λ e name what by. (stays.open_same name what by).0;
  suspended = stays.suspended;
  run = stays.run;
}

unmoved : (s : State) (j : Ident) (x : Site) (all : Bool) → Stands s j x → Carries s s j all
unmoved s j x all stands = record {
  stood = (x, stands);
  fewer = λ name what by o. o;
  more = λ e name what by o. o;
  suspended = refl;
  run = refl;
}

is_choice : (a b : Bool) → (a && b) ≡ true → not a ≡ true → ⊥
is_choice true b e f = never f
is_choice false b e f = never e

first_choice : (s : State) (e : Event) (said : Said) (j : Ident) (x : Site) → is_first_choice s e ≡ true → Stands (after s e said) j x
    → Carries s (after s e said) j (not (adds_choice e))
unfolding after
first_choice s (events.AddRule p at side when conclusion number) (a_test test) j x is stands = record {
  stood = (x, stands);
  fewer = grown_opens_none s p _ j;
  more = λ e. absurd (is_choice (is_select p.kind) (not (has_rules s p)) is e);
  suspended = refl;
  run = refl;
}
first_choice s (events.AddRule p at side when conclusion number) nothing j x is stands = unmoved s j x _ stands
first_choice s (events.AddRule p at side when conclusion number) (a_spec spec) j x is stands = unmoved s j x _ stands
first_choice s e said j x is stands = never is

-- What yw_work says of the events of an entry.
pub record NoteLaws : Type 0 where
  pub follows : (s : State) (e : Event) (said : Said) (j : Ident) (x : Site) → IsWell reader s → Allowed s e said → is_rule e ≡ false
      → Stands (after s e said) j x → list_any (same j) (warms e) ≡ false → StaysOpen s (after s e said) j
  pub rule : (s : State) (e : Event) (said : Said) (j : Ident) (x : Site) → is_rule e ≡ true → is_first_choice s e ≡ false
      → Stands (after s e said) j x → StaysOpen s (after s e said) j
  pub reached : (es : List Event) (s t : State) (j : Ident) (x : Site) → LeadAll reader s es t → Stands s j x → get t.sites j ≡ None → is_reached es j ≡ true

not_either : (a b : Bool) → not (a || b) ≡ true → (not a ≡ true) × (not b ≡ true)
not_either false b e = (refl, e)
not_either true b e = never e

module _ (laws : NoteLaws) (j : Ident) where
  carries : (s : State) (e : Event) (said : Said) (x : Site) → IsWell reader s → Allowed s e said → Stands (after s e said) j x
      → list_any (same j) (warms e) ≡ false → Carries s (after s e said) j (not (adds_choice e))
  carries s e said x well ok stands cold = by_test (is_rule e)
      (λ is. by_test (is_first_choice s e)
      (λ first. first_choice s e said j x first stands)
      (λ later. as_open s (after s e said) j (not (adds_choice e)) (laws.rule s e said j x is later stands)))
      (λ other. as_open s (after s e said) j (not (adds_choice e)) (laws.follows s e said j x well ok other stands cold))

  -- ---- events in their turn

  carries_along : (es : List Event) (s t : State) (x : Site) → IsWell reader s → LeadAll reader s es t → Stands t j x → is_warm es j ≡ false
      → Carries s t j (not (list_any adds_choice es))
  carries_along [] s t x well leads stands cold =
      subst (λ (u : State). Carries s u j true) (sym leads) (unmoved s j x true (ap (λ (u : State). get u.sites j) (sym leads) ∙ stands))
  carries_along (e ∷ es) s t x well leads stands cold =
      let (mid, first, rest) = leads in
      let cool = or_parts (list_any (same j) (warms e)) (is_warm es j) cold in
      let behind = carries_along es mid t x (event_keeps_well reader accepted_are_sound s well e mid first) rest stands cool.1 in
      let there : Stands (after s e first.said) j behind.stood.0 = ap (λ (u : State). get u.sites j) (sym first.then) ∙ behind.stood.1 in
      let at_first : Carries s mid j (not (adds_choice e)) =
      subst (λ (u : State). Carries s u j (not (adds_choice e))) (sym first.then) (carries s e first.said behind.stood.0 well first.allowed there cool.0) in
      record {
        stood = at_first.stood;
        fewer = λ name what by o. at_first.fewer name what by (behind.fewer name what by o);
        more = λ all name what by o.
            let each = not_either (adds_choice e) (list_any adds_choice es) all in
            behind.more each.1 name what by (at_first.more each.0 name what by o);
        suspended = behind.suspended ∙ at_first.suspended;
        run = behind.run ∙ at_first.run;
      }

-- ---- where no event touches what is listed

module _ (p : Places) (f : Forest) (j : Ident) where
  abbrev none_touched : List Event → Type 0
  none_touched es = list_any (λ e. is_touched p f e j) es ≡ false

  cold_from : (es : List Event) → none_touched es → is_warm es j ≡ false
  cold_from [] none = refl
  cold_from (e ∷ es) none =
      let parts = or_parts (is_touched p f e j) (list_any (λ d. is_touched p f d j) es) none in
      or_from _ _ (or_parts (list_any (same j) (warms e)) (has_place p j && takes f e j) parts.0).0 (cold_from es parts.1)

  none_taken : (es : List Event) → has_place p j ≡ true → none_touched es → list_any (λ e. takes f e j) es ≡ false
  none_taken [] placed none = refl
  none_taken (e ∷ es) placed none =
      let parts = or_parts (is_touched p f e j) (list_any (λ d. is_touched p f d j) es) none in
      or_from _ _ (sym (ap (λ b. b && takes f e j) placed) ∙ (or_parts (list_any (same j) (warms e)) (has_place p j && takes f e j) parts.0).1)
      (none_taken es placed parts.1)

not_under : (a b : Bool) → (a && b) ≡ false → b ≡ true → a ≡ false
not_under true b e is = never (sym e ∙ is)
not_under false b e is = refl

module _ (f : Forest) (j : Ident) where
  none_chosen : (es : List Event) → list_any (λ e. takes f e j) es ≡ false → list_any adds_choice es ≡ false
  none_chosen [] none = refl
  none_chosen (e ∷ es) none =
      let parts = or_parts (takes f e j) (list_any (λ d. takes f d j) es) none in
      or_from _ _ (or_parts (adds_choice e) (is_some_and (top e) (under j) && is_gone f j) parts.0).0 (none_chosen es parts.1)

  none_reached : is_gone f j ≡ true → (es : List Event) → is_warm es j ≡ false → list_any (λ e. takes f e j) es ≡ false → is_reached es j ≡ false
  none_reached gone [] cold none = refl
  none_reached gone (e ∷ es) cold none =
      let cool = or_parts (list_any (same j) (warms e)) (is_warm es j) cold in
      let parts = or_parts (takes f e j) (list_any (λ d. takes f d j) es) none in
      let unchanged = (or_parts (list_any (same j) (changes e)) (list_any (same j) (map parent (changes e)))
      (sym (list_any-append (same j) (changes e) (map parent (changes e))) ∙ cool.0)).0 in
      let off = not_under (is_some_and (top e) (under j)) (is_gone f j) (or_parts (adds_choice e) (is_some_and (top e) (under j) && is_gone f j) parts.0).1 gone in
      or_from _ _ (or_from _ _ unchanged off) (none_reached gone es cool.1 parts.1)

-- ---- what is right stays so

module _ (s t : State) (l : Lists) (j : Ident) (was : IsRightAt s l j) where
  pub nothing_right : get s.sites j ≡ None → get t.sites j ≡ None → IsRightAt t l j
  nothing_right before behind = record {
    opens = record {
      exact = λ o. (
        λ has. absurd (none_open s j before o.task o.what o.by ((was.opens.exact o).0 has)),
        λ is. absurd (none_open t j behind o.task o.what o.by is),
      );
      named = was.opens.named;
    };
    mark = was.mark ∙ none_suspended s j before ∙ sym (none_suspended t j behind);
    run = was.run ∙ no_run s j before ∙ sym (no_run t j behind);
    kept = was.kept;
  }

  unlisted : is_placed l j ≡ false → works_at l j ≡ []
  unlisted none = by_option (tree.get lexical l.places j)
      (λ e. ap (λ o. unwrap_or o []) e)
      (λ opens e. never (sym none ∙ ap is_some e))

  none_listed : is_placed l j ≡ false → (o : Open) → Contains (works_at l j) o → ⊥
  none_listed none o has = found_in [] o (subst (λ opens. Contains opens o) (unlisted none) has)

  gone_right : is_placed l j ≡ false → get t.sites j ≡ None → IsRightAt t l j
  gone_right none behind =
      let bare : (is_marked l j || is_run l j) ≡ false =
      by_test (is_marked l j || is_run l j) (λ some. never (sym none ∙ was.kept some)) (λ e. e) in
      let parts = or_parts (is_marked l j) (is_run l j) bare in
      record {
        opens = record {
          exact = λ o. (λ has. absurd (none_listed none o has), λ is. absurd (none_open t j behind o.task o.what o.by is));
          named = was.opens.named;
        };
        mark = parts.0 ∙ sym (none_suspended t j behind);
        run = parts.1 ∙ sym (no_run t j behind);
        kept = was.kept;
      }

  -- it stands still, and the same is open, or nothing is listed
  carried_right : (all : Bool) → Carries s t j all → (all ≡ true) ⊎ (is_placed l j ≡ false) → IsRightAt t l j
  carried_right all carries either = record {
    opens = record {
      exact = λ o. (
        λ has. elim either [
          | inl whole ↦ carries.more whole o.task o.what o.by ((was.opens.exact o).0 has)
          | inr none ↦ absurd (none_listed none o has)
        ],
        λ is. (was.opens.exact o).1 (carries.fewer o.task o.what o.by is),
      );
      named = was.opens.named;
    };
    mark = was.mark ∙ sym carries.suspended;
    run = was.run ∙ ap is_some (sym carries.run);
    kept = was.kept;
  }

pub stays_right : NoteLaws → (f : Forest) (es : List Event) (s t : State) (l : Lists) (j : Ident) → StaysRight f es s t l j
stays_right laws f es s t l j = λ well leads was gone none.
    let cold = cold_from l.places f j es none in
    by_option (get t.sites j)
    (λ behind. by_option (get s.sites j)
    (λ before. nothing_right s t l j was before behind)
    (λ y stood. by_test (is_placed l j)
    (λ placed. never (sym (none_reached f j (gone behind) es cold (none_taken l.places f j es placed none)) ∙ laws.reached es s t j y leads stood behind))
    (λ free. gone_right s t l j was free behind)))
    (λ x stands.
    let along = carries_along laws j es s t x well leads stands cold in
    carried_right s t l j was (not (list_any adds_choice es)) along (by_test (is_placed l j)
    (λ placed. inl (ap not (none_chosen f j es (none_taken l.places f j es placed none))))
    (λ free. inr free)))

-- ---- all of them

-- one event more
pub touched_more : (p : Places) (f : Forest) (es : List Event) (i : ℕ) (e : Event) (mid new : BTreeSet Ident) → i < length es → e ≡ get_or es i e
    → HasTouched p f (take i es) mid → Adds mid new (is_touched p f e) → HasTouched p f (take (i + 1) es) new
touched_more p f es i e mid new lt at those that = λ j identity some.
    let more : list_any (λ d. is_touched p f d j) (take (i + 1) es) ≡ (list_any (λ d. is_touched p f d j) (take i es) || is_touched p f e j) =
    list_any_more (λ d. is_touched p f d j) es i e lt ∙ ap (λ d. list_any (λ g. is_touched p f g j) (take i es) || is_touched p f d j) (sym at) in
    elim (or_cases (list_any (λ d. is_touched p f d j) (take i es)) (is_touched p f e j) (sym more ∙ some)) [
      | inl before ↦ that.was j (those j identity before)
      | inr here ↦ that.passing j identity here
    ]

-- what doesn't stand in the state isn't in the forest
none_mapped : {A B : Type 0} (g : A → B) (o : Option A) → option_map g o ≡ None → is_none o ≡ true
none_mapped g None e = refl
none_mapped g (Some x) e = nowhere (sym e)

is_gone_there : (known : Holdings) (f : Forest) (t : State) (j : Ident) → IsHeld known f t → is_identity j ≡ true → get t.sites j ≡ None → is_gone f j ≡ true
is_gone_there known f t j held identity none =
    let first = and_parts (nat_lt 0 (length j) && nat_le (length j) most_numbers) (list_all is_number j) identity in
    let lengths = and_parts (nat_lt 0 (length j)) (nat_le (length j) most_numbers) first.0 in
    let some : 0 < length j = ltb-true 0 (length j) lengths.0 in
    let few : length j ≤ most_numbers = leb-true (length j) most_numbers lengths.1 in
    none_mapped (part_site (names_of known)) (part_at f j)
    (sym (find_is (names_of known) f held.boxed j (omega (arith, some)) (omega (arith, few))) ∙ ap (λ m. get m j) (sym held.sites) ∙ none)

pub noted : (known : Holdings) (f : Forest) (es : List Event) (old mid : Lists) (people : People) (ids : BTreeSet Ident)
    → ((f : Forest) (es : List Event) (s t : State) (l : Lists) (j : Ident) → StaysRight f es s t l j) → HasTouched old.places f es ids
    → Looks known f old mid (λ s. IsIn ids.keys) → Asks known mid.people people (filter_map person_of es)
    → Notes known f es old (record mid { people = people })
noted known f es old mid people ids law touched looks asks = λ s t well leads held listed. record {
  at = λ j. same_right t mid people j (by_test (is_identity j)
      (λ identity. by_test (list_any (λ e. is_touched old.places f e j) es)
      (λ some. looks.right t j held (inr (in_keys ids.keys j (touched j identity some))))
      (λ none. looks.right t j held
      (inl (law f es s t old j well leads (listed.at j) (is_gone_there known f t j held.held identity) none))))
      (λ none. looks.right t j held (inl (nothing_right s t old j (listed.at j)
      (by_option (get s.sites j) (λ e. e) (λ x stands. never (sym none ∙ well.numbers.identities j x stands)))
      (by_option (get t.sites j) (λ e. e) (λ x stands. never (sym none ∙ held.held.well.numbers.identities j x stands)))))));
  pooled = looks.pooled listed.pooled;
  people = λ who. asks.right who (elim (people_follow es s t well leads who) [
    | inl named ↦ inr named
    | inr same_person ↦ inl (ap (λ p. roles_in p who) looks.people ∙ listed.people who ∙ sym same_person ∙ sym (people_held known f t held.held who))
  ]) ∙ people_held known f t held.held who;
}
