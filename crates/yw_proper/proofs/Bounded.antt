-- By a certificate no net ever weighs more than one token on its input: so no place gets more tokens than so many weigh, and where the output
-- is marked nothing is left behind.
use Rattle.std.specs.Prelude.{◌≡◌, ◌≤◌, ◌<◌, ◌+◌, ◌*◌, ◌/◌, ℕ, Bool, true, false, not, List, [], ◌∷◌, length, Some, is_some, nat_le, option_map, slice_get, unwrap_or, refl, if◌then◌else◌}
use Rattle.std.specs.Str.{bytes_eq}
use Rattle.std.proofs.Common.{sym, ◌∙◌, ap, get_or, subst, arith}
use Rattle.std.proofs.Math.Nat.{le-mul_of_pos_right, le_of_mul-le-mul_right}
use Rattle.std.proofs.lemmas.Bool.{and_parts, leb-true, ltb-true, not-true}
use Rattle.std.proofs.lemmas.Nat.{le-div}
use Rattle.std.proofs.lemmas.Option.{slice_get-get_or}
use Rattle.yw_invariant.proofs.EventsWell.{event_keeps_well}
use Rattle.yw_invariant.proofs.FromOpening.{opening_is_well, reached_is_well}
use Rattle.yw_invariant.proofs.Tasks.{of_spec, part_of}
use Rattle.yw_proper.proofs.Calm as calm
use Rattle.yw_proper.proofs.Entering.{add_holds, enter_holds, within_is, within_tokens}
use Rattle.yw_proper.proofs.Exiting.{exit_holds}
use Rattle.yw_proper.proofs.Lighter.{Holds, Leaves, counted, leaves-some, leaves-same, leaves-then, leaves_hold}
use Rattle.yw_proper.proofs.NetsComing.{launch_holds, prim_holds, start_sub_holds, substitute_holds}
use Rattle.yw_proper.proofs.Sums.{total_has, total_has_two}
use Rattle.yw_proper.specs.Load.{IsBounded, IsNetOf, JoinsApart, load}
use Rattle.yw_proper.specs.Proper.{IsProper, most_weight, weight_of_place, weight_of_task}
use Rattle.yw_sound.specs.Sound.{ReadsSound}
use Rattle.yw_spec.specs.declared.spec.Net.{Net}
use Rattle.yw_spec.specs.declared.spec.Spec.{Spec}
use Rattle.yw_state.proofs.Alike.{net_by}
use Rattle.yw_state.proofs.MapLemmas.{by_name, get-insert_other}
use Rattle.yw_state.proofs.Tests.{by_test, map_some, never, nowhere, some_same, then_some, there, there_and}
use Rattle.yw_state.specs.After as After
use Rattle.yw_state.specs.After.{begun, completed, pass, where_some}
use Rattle.yw_state.specs.Allowed.{Allowed, allows}
use Rattle.yw_state.specs.ByName.{made_by_child, made_by_worklet}
use Rattle.yw_state.specs.Events.{LeadAll, after}
use Rattle.yw_state.specs.Identity.{Ident}
use Rattle.yw_state.specs.Joins.{at_output, marked}
use Rattle.yw_state.specs.Map.{get, has_key}
use Rattle.yw_state.specs.State.{State, NetAt, NetPart, item_at, net_at, net_part, opening, tokens_on}
use Rattle.yw_state.specs.Texts.{Reader, Said, nothing, a_spec, a_test}
use Rattle.yw_state.specs.Well.{IsWell}
use Rattle.yw_state.specs.Words.{active}
use Rattle.yw_state.specs.declared.event.Event.{Event}
use Rattle.yw_state.specs.declared.event.Event.TheVariants as events
use Rattle.yw_state.specs.declared.loaded.Loaded.{Loaded}

module _ (spec : Spec) (k : ℕ) (net : Net) (at : slice_get spec.nets k ≡ Some net) (w : List ℕ) (proper : IsProper net w) where
  abbrev Light : State → Type 0
  Light s = Holds spec k net w s

  -- ---- a specification more

  module _ (reader : Reader) (s : State) (well : IsWell reader s) where
    -- the net that stands has its specification already
    is_loaded : (i : Ident) (n : NetPart) → net_part s i ≡ Some n → (l : Loaded) × (get s.specs n.spec ≡ Some l)
    is_loaded i n stands =
        let (a, is) = there (net_at s i) (well.content.of_spec i n stands) in
        let of = of_spec s i a is in
        let (part, its, made) = then_some (net_by s) (net_part s i) a is in
        let same : a.part ≡ n = part_of s part a made ∙ some_same part n (sym its ∙ stands) in
        let (l, there_is, its_spec) = map_some (λ (y : Loaded). y.spec) (get s.specs a.part.spec) of.spec of.called in
        (l, ap (λ (p : NetPart). get s.specs p.spec) (sym same) ∙ there_is)

    load_holds : (name text : List ℕ) (said : Said) → Allowed s (events.Load name text) said → Light s → Light (After.load s name text said)
    unfolding allows
    load_holds name text nothing allowed holds = holds
    load_holds name text (a_test test) allowed holds = holds
    load_holds name text (a_spec other) allowed holds = λ i of.
        let new = not-true (has_key s.specs name) (and_parts (bytes_eq other.name name) (not (has_key s.specs name)) allowed.0).1 in
        let (l, loaded) = is_loaded i of.part of.stands in
        let apart : ¬ (of.part.spec ≡ name) = λ same. never (sym new ∙ ap is_some (ap (get s.specs) (sym same) ∙ loaded)) in
        holds i
        (record {
          part = of.part;
          stands = of.stands;
          called = ap (option_map (λ (y : Loaded). y.spec)) (sym (get-insert_other by_name s.specs name (record { text = text; spec = other }) of.part.spec apart)) ∙ of.called;
          number = of.number;
        })

  -- ---- each event

  module _ (apart : JoinsApart net) (reader : Reader) (sound : ReadsSound reader) (s : State) (well : IsWell reader s) (holds : Light s) where
    stays : (t : State) → Leaves s t → Light t
    stays t leaves = leaves_hold spec k net w s t leaves holds

    after_holds : (e : Event) (said : Said) → Allowed s e said → Light (after s e said)
    unfolding after
    after_holds (events.Person name roles) said allowed = stays _ (calm.person-leaves s name roles)
    after_holds (events.Load name text) said allowed = load_holds reader s well name text said allowed holds
    after_holds (events.AddRule p place side when conclusion number) said allowed = stays _ (calm.rule-leaves s p place side when conclusion said)
    after_holds (events.Launch n name vals) said allowed = launch_holds spec k net w at reader s well holds n name vals said allowed
    after_holds (events.Enter i t places first count) said allowed = enter_holds spec k net at w proper s reader well holds apart i t places first count said allowed
    after_holds (events.Start j who) said allowed = stays _ (calm.stage-leaves s j (begun (Some who)) (λ x. refl))
    after_holds (events.Complete j out) said allowed = stays _ (leaves-some s (item_at s j) s _ (leaves-same s) (λ x. calm.complete-leaves s j out x))
    after_holds (events.Exit i t places) said allowed = exit_holds spec k net at w proper reader sound s well holds i t places said allowed
    after_holds (events.Add i t value n) said allowed = add_holds spec k net at w proper s reader well holds i t value n said allowed
    after_holds (events.Finish n) said allowed = stays _ (calm.case-leaves s n _)
    after_holds (events.Cancel n) said allowed = stays _ (calm.case-leaves s n _)
    after_holds (events.StartSub j) said allowed = start_sub_holds spec k net w at reader s well holds j said allowed
    after_holds (events.CompleteSub j) said allowed = stays _ (leaves-some s (item_at s j) s _ (leaves-same s) (λ x. calm.end_net-leaves s j made_by_child x))
    after_holds (events.CompleteEmpty j) said allowed = stays _ (calm.stage-leaves s j (completed []) (λ x. refl))
    after_holds (events.Pass j check) said allowed = stays _ (calm.pass-leaves s j check)
    after_holds (events.Except j check node n) said allowed = stays _ (leaves-then s (pass s j check) _ (calm.pass-leaves s j check) (calm.begin-leaves (pass s j check) j check node n))
    after_holds (events.Substitute j worklet) said allowed = substitute_holds spec k net w at reader s well holds j worklet said allowed
    after_holds (events.CompleteWorklet j) said allowed = stays _ (leaves-some s (item_at s j) s _ (leaves-same s) (λ x. calm.end_net-leaves s j made_by_worklet x))
    after_holds (events.Raise j kind node n) said allowed = stays _ (calm.begin-leaves s j kind node n)
    after_holds (events.Prim r p) said allowed = prim_holds spec k net w at reader s well holds r p said allowed
    after_holds (events.Compensated r) said allowed = stays _ (calm.compensation-leaves s r)
    after_holds (events.Suspend j) said allowed = stays _ (calm.suspend-leaves s j)
    after_holds (events.Continue j) said allowed = stays _ (calm.continue-leaves s j)
    after_holds (events.Advance n) said allowed = holds

  -- ---- along events, from the opening on

  module _ (apart : JoinsApart net) (reader : Reader) (sound : ReadsSound reader) where
    events_hold : (es : List Event) (s t : State) → IsWell reader s → Light s → LeadAll reader s es t → Light t
    events_hold [] s t well holds same = subst Light (sym same) holds
    events_hold (e ∷ es) s t well holds (mid, first, rest) =
        events_hold es mid t (event_keeps_well reader sound s well e mid first)
        (subst Light (sym first.then) (after_holds apart reader sound s well holds e first.said first.allowed)) rest

    opening_holds : Light opening
    opening_holds i of = nowhere of.stands

    reached_holds : (es : List Event) (t : State) → LeadAll reader opening es t → Light t
    reached_holds es t leads = events_hold es opening t (opening_is_well reader) opening_holds leads

  -- ---- what that says of places and of the end

  some_weight : (c : ℕ) → c < length w → 0 < weight_of_place w c
  some_weight c within =
      let n : ℕ = get_or w c 0 in
      let is : slice_get w c ≡ Some n = slice_get-get_or w c 0 within in
      let least = leb-true 1 n (and_parts (nat_le 1 n) (nat_le n most_weight) (proper.weights c n is)).0 in
      let same : weight_of_place w c ≡ n = ap (λ o. unwrap_or o 0) is in
      omega (arith, least, same)

  of_place : (c : ℕ) → c < length net.places → 0 < weight_of_place w c
  of_place c within = let each = proper.each in some_weight c (omega (arith, within, each))

  of_task : (c : ℕ) → c < length net.tasks → 0 < weight_of_task net w c
  of_task c within = let each = proper.each in some_weight (length net.places + c) (omega (arith, within, each))

  module _ (reader : Reader) (s : State) (well : IsWell reader s) (holds : Light s) (i : Ident) (of : IsNetOf s i spec k) where
    abbrev on : ℕ → ℕ
    on c = tokens_on s i c * weight_of_place w c

    abbrev doing : ℕ → ℕ
    doing c = if active s i c then weight_of_task net w c else 0

    whole : load net w s i ≤ weight_of_place w net.input
    whole = holds i of

    few : (c : ℕ) → c < length net.places → tokens_on s i c ≤ weight_of_place w net.input / weight_of_place w c
    few c within =
        let one = total_has on c (length net.places) within in
        le-div (tokens_on s i c) (weight_of_place w net.input) (weight_of_place w c) (of_place c within) (omega (arith, one, whole))

    module _ (there_is : at_output s i ≡ true) where
      output_marked : (1 ≤ tokens_on s i net.output) × (net.output < length net.places)
      output_marked =
          let (a, is, has) = there_and (net_at s i) (λ (n : NetAt). marked s i n.net.output) there_is in
          let same = within_is spec k net at w proper s i a is of in
          let some : 0 < tokens_on s i net.output = ltb-true 0 (tokens_on s i net.output) (subst (λ (n : Net). marked s i n.output ≡ true) same.0 has) in
          let count = counted s i of.part of.stands net.output in
          let within = within_tokens of.part.tokens net.output (omega (arith, some, count)) in
          let places : length of.part.tokens ≡ length net.places = ap (λ (n : NetPart). length n.tokens) (sym same.1) ∙ (well.content.net i a is).places ∙ ap (λ (n : Net). length n.places) same.0 in
          (omega (arith, some), omega (arith, within, places))

      ends : weight_of_place w net.input ≤ weight_of_place w net.output
      ends = leb-true (weight_of_place w net.input) (weight_of_place w net.output) proper.ends

      one_token : tokens_on s i net.output ≡ 1
      one_token =
          let (some, within) = output_marked in
          let one = total_has on net.output (length net.places) within in
          let most = le_of_mul-le-mul_right {m = tokens_on s i net.output} {n = 1} {k = weight_of_place w net.output} (omega (arith, one, whole, ends)) (of_place net.output within) in
          omega (arith, some, most)

      output_weighs : on net.output ≡ weight_of_place w net.output
      output_weighs = let is : on net.output ≡ 1 * weight_of_place w net.output = ap (λ n. n * weight_of_place w net.output) one_token in omega (arith, is)

      no_others : (c : ℕ) → c < length net.places → ¬ (c ≡ net.output) → tokens_on s i c ≡ 0
      no_others c within other =
          let both = total_has_two on net.output c (length net.places) other output_marked.1 within in
          let heavy = le-mul_of_pos_right {m = weight_of_place w c} (tokens_on s i c) (of_place c within) in
          omega (arith, both, heavy, output_weighs, whole, ends)

      none_active : (c : ℕ) → c < length net.tasks → active s i c ≡ false
      none_active c within =
          by_test (active s i c)
          (λ e.
          let one = total_has on net.output (length net.places) output_marked.1 in
          let task = total_has doing c (length net.tasks) within in
          let is : doing c ≡ weight_of_task net w c = ap (λ (b : Bool). if b then weight_of_task net w c else 0) e in
          let some = of_task c within in
          absurd (omega (arith, one, task, is, some, output_weighs, whole, ends)))
          (λ e. e)

    bounded : IsBounded net w s i
    bounded = record { whole = whole; places = few; end = λ e. record { output = one_token e; others = no_others e; idle = none_active e } }

pub certified_is_bounded : (reader : Reader) → ReadsSound reader → (spec : Spec) (k : ℕ) (net : Net) (w : List ℕ) → slice_get spec.nets k ≡ Some net → JoinsApart net → IsProper net w
    → (es : List Event) (s : State) → LeadAll reader opening es s → (i : Ident) → IsNetOf s i spec k → IsBounded net w s i
certified_is_bounded reader sound spec k net w at apart proper es s leads i of =
    bounded spec k net at w proper reader s (reached_is_well reader sound es s leads) (reached_holds spec k net at w proper apart reader sound es s leads) i of
