-- In a state whose numbers fit, and whose specifications are within, the text of a step that comes of itself tells the event.
use Rattle.std.specs.Prelude.{◌≡◌, ◌<◌, ◌==◌, ℕ, Bool, true, not, List, [], ◌∷◌, map, length, filter, Option, Some, codes, decimal, get_or, option_and_then, option_map, unwrap_or, refl}
use Rattle.std.specs.List.{list_all}
use Rattle.std.proofs.Common.{sym, ◌∙◌, ap, subst}
use Rattle.std.proofs.lemmas.Bool.{eqb-true}
use Rattle.std.proofs.lemmas.List.{nil_from_length}
use Rattle.std.proofs.lemmas.Slice.Eq.{bytes_eq-Decides}
use Rattle.yw_base.specs.Identity.{dotted, is_identity, child}
use Rattle.yw_base.specs.declared.gate.Gate.{Gate}
use Rattle.yw_base.specs.declared.gate.Gate.TheVariants.{And, Xor, Or}
use Rattle.yw_lines.specs.EventTexts.{item_idents, listed, step_text, words_text}
use Rattle.yw_lines.specs.Kinds.{kind_text}
use Rattle.yw_lines.specs.Primitives.{primitive_text}
use Rattle.yw_spec.specs.Net.{place_text}
use Rattle.yw_spec.specs.declared.spec.Place.{Place}
use Rattle.yw_state.proofs.Standing as standing
use Rattle.yw_state.proofs.Standing.{Standing}
use Rattle.yw_state.proofs.Tests.{and_left, and_right, by_option, never, some_same, there_and}
use Rattle.yw_state.specs.Allowed.{allows, exit_values, place_numbers}
use Rattle.yw_state.specs.Automatic.{Comes}
use Rattle.yw_state.specs.Broken.{entry_count}
use Rattle.yw_state.specs.Identity.{Ident}
use Rattle.yw_state.specs.Joins.{joins, marked}
use Rattle.yw_state.specs.Judged.{conclusion_at, judged}
use Rattle.yw_state.specs.Map.{get}
use Rattle.yw_state.specs.Options.{is_some_and}
use Rattle.yw_state.specs.Passing.{entry_values, split_places}
use Rattle.yw_state.specs.State.{State, ItemAt, RunPart, Site, TaskAt, due_at, item_at, no_checks, run_part, task_at}
use Rattle.yw_state.specs.Texts.{Said, nothing}
use Rattle.yw_state.specs.Values.{Row}
use Rattle.yw_state.specs.Well.{NumbersFit}
use Rattle.yw_state.specs.Words.{is_first_due}
use Rattle.yw_state.specs.declared.event.Event.{Event}
use Rattle.yw_state.specs.declared.event.Event.TheVariants as events
use Rattle.yw_state.specs.declared.part.Checks.{Checks}
use Rattle.yw_state.specs.declared.tree.Primitive.{Primitive}
use Rattle.yw_state.specs.declared.tree.TreeKind.{TreeKind}
use Rattle.yw_state.specs.declared.tree.TreeKind.TheVariants as kinds
use Rattle.yw_told.proofs.Fixed.{all_numbered, first_due_is, first_primitive, first_primitive_is, first_within, numbered, places_named, task_is_named, worklet_in_is}
use Rattle.yw_told.proofs.Parts.{Lacks, all_lack, first_word, following, leading_word, words_in}
use Rattle.yw_told.proofs.Reading.{entered, event_at, event_in, event_of, exited, node_at, places_taken, rest_of}
use Rattle.yw_told.proofs.Written.{ident_is_read, name_lacks, no_blank_in_identity, no_blank_in_place, place_is_read, place_read}
use Rattle.yw_within.specs.Within.{HoldsWithin, is_named_place}

-- ---- words

abbrev is_no_blank : ℕ → Bool
is_no_blank b = not (b == 32)

-- the kind and the identity of a step are read from its text
kind_told : (s : State) (n : ℕ) (kind : List ℕ) (j : Ident) (words : List (List ℕ))
    → list_all is_no_blank kind ≡ true → is_identity j ≡ true
    → event_in s n (words_text kind (dotted j ∷ words)) ≡ event_at s n kind j (following words)
kind_told s n kind j words no_blank is =
    ap (event_of s n) (first_word kind (dotted j) words (all_lack is_no_blank 32 kind refl no_blank))
    ∙ ap (λ (ws : List (List ℕ)). event_of s n (kind ∷ ws)) (leading_word (dotted j) words (no_blank_in_identity j is))
    ∙ ap (λ (i : Ident). event_at s n kind i (following words)) (ident_is_read j is)

-- ---- the identity of what stands is one

module _ (s : State) (fit : NumbersFit s) (j : Ident) where
  of_standing : Standing s j → is_identity j ≡ true
  of_standing (x, stands) = fit.identities j x stands

  of_task : (t : List ℕ) (x : TaskAt) → task_at s j t ≡ Some x → is_identity j ≡ true
  of_task t x is = of_standing (standing.at_task s j t x is)

  of_item : (p : ItemAt → Bool) → is_some_and (item_at s j) p ≡ true → is_identity j ≡ true
  of_item p e = let (x, is, passes) = there_and (item_at s j) p e in of_standing (standing.at_item s j x is)

  of_run : (r : RunPart) → run_part s j ≡ Some r → is_identity j ≡ true
  of_run r is = of_standing (standing.at_run_part s j r is)

  nothing_due : {A : Type 0} (check : TreeKind) → is_first_due no_checks check ≡ true → A
  nothing_due kinds.Pre e = never e
  nothing_due kinds.Post e = never e
  nothing_due kinds.Select e = never e
  nothing_due kinds.External e = never e
  nothing_due kinds.Timeout e = never e
  nothing_due kinds.Abort e = never e

  of_check : (check : TreeKind) → is_first_due (due_at s j) check ≡ true → is_identity j ≡ true
  of_check check due =
      by_option (get s.sites j)
      (λ none. nothing_due check (subst (λ (c : Checks). is_first_due c check ≡ true) (ap as_due none) due))
      (λ x some. of_standing (x, some))
    where
      as_due : Option Site → Checks
      as_due o = unwrap_or (option_map (λ (x : Site). x.due) o) no_checks

-- ---- entering

-- a place alone is told by its text
place_told : (p : Place) (word : List ℕ) (words : List (List ℕ)) → is_named_place p ≡ true
    → place_read (get_or (words_in (words_text (place_text p) (word ∷ words))) 0 []) ≡ p
place_told p word words named =
    ap (λ (ws : List (List ℕ)). place_read (get_or ws 0 [])) (first_word (place_text p) word words (no_blank_in_place p named))
    ∙ place_is_read p named

-- the first word of places and of what follows them
abbrev first_place : List Place → List (List ℕ) → List ℕ
first_place places words = get_or (words_in (words_text (listed (map place_text places)) words)) 0 []

one_taken : (before cs : List ℕ) (s : State) (i : Ident) → joins Xor s i before cs ≡ true → (c : ℕ) × (cs ≡ c ∷ [])
one_taken before [] s i e = never e
one_taken before (c ∷ cs) s i e =
    (c, ap (λ (ds : List ℕ). c ∷ ds) (nil_from_length cs (eqb-true (length cs) 0 (and_right _ _ (and_left _ _ e)))))

module _ (s : State) (i : Ident) (x : TaskAt) (places : List Place) (cs : List ℕ) (numbers : place_numbers x.within.net places ≡ Some cs) where
  -- of each place
  abbrev AreNamed : Type 0
  AreNamed = (c : ℕ) → c < length x.within.net.places → is_named_place (numbered x.within.net c) ≡ true

  by_numbers : (ds : List ℕ) → cs ≡ ds → map (numbered x.within.net) ds ≡ places
  by_numbers ds same = ap (map (numbered x.within.net)) (sym same) ∙ all_numbered x.within.net places cs numbers

  one_told : AreNamed → (word : List ℕ) (words : List (List ℕ)) (c : ℕ) → cs ≡ c ∷ []
      → place_read (first_place places (word ∷ words)) ∷ [] ≡ places
  one_told named word words c same =
      let lt = first_within x.within.net places c [] (numbers ∙ ap Some same) in
      let told = ap (λ (p : Place). p ∷ []) (place_told (numbered x.within.net c) word words (named c lt)) in
      subst (λ (ps : List Place). place_read (first_place ps (word ∷ words)) ∷ [] ≡ ps) (by_numbers (c ∷ []) same) told

  gate_told : AreNamed → (word : List ℕ) (words : List (List ℕ)) (gate : Gate) → joins gate s i x.task.before cs ≡ true
      → places_taken gate s i x (first_place places (word ∷ words)) ≡ places
  gate_told named word words And e = by_numbers x.task.before ((bytes_eq-Decides cs x.task.before).0 (and_left _ _ e))
  gate_told named word words Or e =
      by_numbers (filter (marked s i) x.task.before) ((bytes_eq-Decides cs (filter (marked s i) x.task.before)).0 (and_left _ _ e))
  gate_told named word words Xor e = let (c, same) = one_taken x.task.before cs s i e in one_told named word words c same

-- ---- the kinds that have a task

module _ (s : State) (fit : NumbersFit s) (holds : HoldsWithin s) (n : ℕ) (i : Ident) (t : List ℕ) (places : List Place) (said : Said) where
  no_blank : (x : TaskAt) → task_at s i t ≡ Some x → Lacks 32 t
  no_blank x is = name_lacks 32 t refl (task_is_named s holds i t x is)

  pub enter_told : (first count : ℕ) → allows s (events.Enter i t places first count) said ≡ true
      → event_in s n (step_text (events.Enter i t places first count)) ≡ events.Enter i t places first count
  unfolding allows
  enter_told first count ok =
      let (x, is, may) = there_and (task_at s i t) _ (and_right _ _ ok) in
      let next = eqb-true first s.next (and_left _ _ (and_right _ _ may)) in
      let (row, are, made) = there_and (entry_values x.task x.within.part.vals) _ (and_left _ _ (and_right _ _ (and_left _ _ may))) in
      let (cs, numbers, joined) = there_and (place_numbers x.within.net places) _ (and_right _ _ (and_left _ _ (and_left _ _ may))) in
      let shown = listed (map place_text places) in
      let last = listed (item_idents i first count) ∷ [] in
      let said_next = first_word (codes "from") shown (codes "as" ∷ last) (all_lack is_no_blank 32 (codes "from") refl refl) in
      let words = first_word t (codes "from") (shown ∷ codes "as" ∷ last) (no_blank x is)
      ∙ ap (λ (ws : List (List ℕ)). t ∷ ws) said_next in
      let named = places_named s holds i t x is in
      kind_told s n (codes "enter") i (t ∷ codes "from" ∷ shown ∷ codes "as" ∷ last) refl (of_task s fit i t x is)
      ∙ ap (event_at s n (codes "enter") i) words
      ∙ ap (entered s i t (first_place places (codes "as" ∷ last))) is
      ∙ ap (λ (ps : List Place). events.Enter i t ps s.next (entry_count x))
      (gate_told s i x places cs numbers named (codes "as") last x.task.join joined)
      ∙ ap (λ (k : ℕ). events.Enter i t places k (entry_count x)) (sym next)
      ∙ ap (events.Enter i t places first) (ap (λ (o : Option (List Row)). length (unwrap_or o [])) are ∙ eqb-true (length row) count made)

  pub exit_told : allows s (events.Exit i t places) said ≡ true → event_in s n (step_text (events.Exit i t places)) ≡ events.Exit i t places
  unfolding allows
  exit_told ok =
      let (x, is, may) = there_and (task_at s i t) _ (and_right _ _ ok) in
      let (cs, numbers, puts) = there_and (place_numbers x.within.net places) _ (and_right _ _ may) in
      let chosen = (bytes_eq-Decides cs (split_places x.task (exit_values s i x))).0 (and_left _ _ puts) in
      kind_told s n (codes "exit") i (t ∷ codes "to" ∷ listed (map place_text places) ∷ []) refl (of_task s fit i t x is)
      ∙ ap (event_at s n (codes "exit") i) (first_word t (codes "to") (listed (map place_text places) ∷ []) (no_blank x is))
      ∙ ap (exited s i t) is
      ∙ ap (events.Exit i t) (by_numbers s i x places cs numbers (split_places x.task (exit_values s i x)) chosen)

-- ---- all kinds

module _ (s : State) (fit : NumbersFit s) (holds : HoldsWithin s) (n : ℕ) where
  -- what has no identity is of the case
  finish_read : (words : List (List ℕ)) → event_of s n (codes "finish" ∷ words) ≡ events.Finish n
  finish_read [] = refl
  finish_read (at ∷ words) = refl

  finish_told : (m : ℕ) → m ≡ n → event_in s n (step_text (events.Finish m)) ≡ events.Finish m
  finish_told m same =
      ap (event_of s n) (first_word (codes "finish") (decimal m) [] (all_lack is_no_blank 32 (codes "finish") refl refl))
      ∙ finish_read (words_in (words_text (decimal m) [])) ∙ ap events.Finish (sym same)

  except_told : (j : Ident) (check : TreeKind) (node m : ℕ) → allows s (events.Except j check node m) nothing ≡ true
      → event_in s n (step_text (events.Except j check node m)) ≡ events.Except j check node m
  unfolding allows
  except_told j check node m ok =
      let due = and_left _ _ (and_right _ _ (and_left _ _ (and_left _ _ ok))) in
      let same = first_due_is (due_at s j) check due in
      let (k, is, at) = there_and (judged s j check) _ (and_right _ _ (and_left _ _ ok)) in
      let concluded = ap (λ (o : Option ℕ). unwrap_or o 0) is ∙ eqb-true k node at in
      let next = eqb-true m s.next (and_left _ _ (and_right _ _ ok)) in
      let words = kind_text check ∷ decimal node ∷ codes "as" ∷ dotted (child j m) ∷ [] in
      kind_told s n (codes "except") j words refl (of_check s fit j check due)
      ∙ ap (λ (c : TreeKind). events.Except j c (node_at s j c) s.next) same
      ∙ ap (λ (r : ℕ). events.Except j check r s.next) concluded
      ∙ ap (events.Except j check node) (sym next)

  prim_told : (r : Ident) (p : Primitive) → allows s (events.Prim r p) nothing ≡ true
      → event_in s n (step_text (events.Prim r p)) ≡ events.Prim r p
  unfolding allows
  prim_told r p ok =
      let (x, is, may) = there_and (run_part s r) _ ok in
      kind_told s n (codes "prim") r (primitive_text p ∷ []) refl (of_run s fit r x is)
      ∙ ap (λ (o : Option RunPart). events.Prim r (first_primitive (rest_of o))) is
      ∙ ap (events.Prim r) (first_primitive_is p x.rest (and_right _ _ may))

  -- the event is read from the text of its step
  pub step_told : (e : Event) → Comes s n e → event_in s n (step_text e) ≡ e
  unfolding allows
  step_told (events.Person name roles) come = never come.automatic
  step_told (events.Load name text) come = never come.automatic
  step_told (events.AddRule p at side when conclusion number) come = never come.automatic
  step_told (events.Launch m spec vals) come = never come.automatic
  step_told (events.Enter i t places first count) come = enter_told s fit holds n i t places nothing first count come.allowed.0
  step_told (events.Start j who) come = never come.automatic
  step_told (events.Complete j out) come = never come.automatic
  step_told (events.Exit i t places) come = exit_told s fit holds n i t places nothing come.allowed.0
  step_told (events.Add i t value m) come = never come.automatic
  step_told (events.Finish m) come = finish_told m (some_same m n come.here)
  step_told (events.Cancel m) come = never come.automatic
  step_told (events.StartSub j) come =
      kind_told s n (codes "startsub") j [] refl (of_item s fit j _ (and_right _ _ come.allowed.0))
  step_told (events.CompleteSub j) come =
      kind_told s n (codes "completesub") j [] refl (of_item s fit j _ (and_right _ _ (and_left _ _ come.allowed.0)))
  step_told (events.CompleteEmpty j) come =
      kind_told s n (codes "completeempty") j [] refl (of_item s fit j _ (and_right _ _ come.allowed.0))
  step_told (events.Pass j check) come =
      let due = and_left _ _ (and_left _ _ come.allowed.0) in
      kind_told s n (codes "pass") j (kind_text check ∷ []) refl (of_check s fit j check due)
      ∙ ap (events.Pass j) (first_due_is (due_at s j) check due)
  step_told (events.Except j check node m) come = except_told j check node m come.allowed.0
  step_told (events.Substitute j name) come =
      let due = and_left _ _ (and_left _ _ (and_left _ _ come.allowed.0)) in
      let concluded = option_and_then (conclusion_at s j kinds.Select) (judged s j kinds.Select) in
      kind_told s n (codes "substitute") j (codes "by" ∷ name ∷ []) refl (of_check s fit j kinds.Select due)
      ∙ ap (events.Substitute j) (worklet_in_is concluded name (and_right _ _ come.allowed.0))
  step_told (events.CompleteWorklet j) come =
      kind_told s n (codes "completeworklet") j [] refl (of_item s fit j _ (and_right _ _ (and_left _ _ come.allowed.0)))
  step_told (events.Raise j kind node m) come = never come.automatic
  step_told (events.Prim r p) come = prim_told r p come.allowed.0
  step_told (events.Compensated r) come =
      let (x, is, waits) = there_and (run_part s r) _ (and_left _ _ (and_left _ _ come.allowed.0)) in
      kind_told s n (codes "compensated") r [] refl (of_run s fit r x is)
  step_told (events.Suspend j) come = never come.automatic
  step_told (events.Continue j) come = never come.automatic
  step_told (events.Advance m) come = never come.automatic

  pub step_tells : (e f : Event) → Comes s n e → Comes s n f → step_text e ≡ step_text f → e ≡ f
  step_tells e f come other same = sym (step_told e come) ∙ ap (event_in s n) same ∙ step_told f other
