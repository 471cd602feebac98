-- Specifications of texts, which say one each.
use Rattle.std.proofs.Common.{◌≡◌, ◌∙◌, ◌++◌, ◌∷◌, [], ℕ, List, Bool, T, true, false, Option, Some, None, Result, Ok, Err, inl, inr, length, map, refl, sym, ap, subst, arith}
use Rattle.std.proofs.lemmas.List.{map-append}
use Rattle.std.specs.Ordering.{is_lt}
use Rattle.std.specs.Prelude.{All, IfOk}
use Rattle.yw_library.proofs.HoldingsLemmas.{spec-free}
use Rattle.yw_library.specs.Accepts.{Answers}
use Rattle.yw_library.specs.Holdings.{AddsSpec, Holdings, SaysItsText, spec_name, spec_under, with_library}
use Rattle.yw_library.specs.Numbers.{NoneNamed}
use Rattle.yw_library.specs.declared.fault.LibraryFault.{LibraryFault}
use Rattle.yw_library.specs.declared.fault.LibraryFault.TheVariants as faults
use Rattle.yw_revive.proofs.InOrder.{ascend_keys, earlier, entries_are, lower, not_itself}
use Rattle.yw_revive.proofs.Lists.{all_in, from_map, in_all, in_at, in_map, map_map, IsSplit, split}
use Rattle.yw_revive.specs.Names.{AreSpecsOf, LoadsAll, TellsLoaded, spec_before, text_of}
use Rattle.yw_spec.specs.declared.spec.Spec.{Spec}
use Rattle.yw_state.proofs.Entries.{IsIn, find-entry}
use Rattle.yw_state.proofs.MapLemmas.{by_name}
use Rattle.yw_state.proofs.Tests.{never, nowhere}
use Rattle.yw_state.specs.Broken.{Breaks}
use Rattle.yw_state.specs.Map.{entries, lexical, of_entries}
use Rattle.yw_state.specs.State.{State, opening}
use Rattle.yw_state.specs.Well.{IsWell}
use Rattle.yw_state.specs.declared.command.Command.TheVariants as commands
use Rattle.yw_state.specs.declared.loaded.Loaded.{Loaded}
use Rattle.yw_state.specs.declared.rule.Refusal.{Refusal}
use Rattle.yw_states.proofs.Rising.{ascending}
use Rattle.yw_states.specs.Ascending.{ascend}
use Rattle.yw_states.specs.States.{text_row}
use Rattle.yw_texts.proofs.Loading.{new_unbroken}
use Rattle.yw_texts.proofs.ReadingOnce.{reads_one}
use Rattle.yw_texts.specs.Texts.{IsAccepted, reader}

-- ---- a text says one specification

one_spec : (text : List ℕ) (a b : Spec) → IsAccepted text a → IsAccepted text b → a ≡ b
one_spec text a b h k = let is : Ok a ≡ Ok b = reads_one.spec text (Ok a) (Ok b) h k in cc

one_loaded : (a b : Loaded) → a.text ≡ b.text → SaysItsText a → SaysItsText b → a ≡ b
one_loaded a b e h k =
    let same : a.spec ≡ b.spec = one_spec b.text a.spec b.spec (subst (λ (t : List ℕ). IsAccepted t a.spec) e h) k in
    ap (λ (t : List ℕ). let l : Loaded = record { text = t; spec = a.spec } in l) e
    ∙ ap (λ (s : Spec). let l : Loaded = record { text = b.text; spec = s } in l) same

pub same_specs : (xs ys : List Loaded) → map text_of xs ≡ map text_of ys → All SaysItsText xs → All SaysItsText ys → xs ≡ ys
same_specs [] [] e h k = refl
same_specs [] (b ∷ ys) e h k = absurd (omega (arith, ap length e))
same_specs (a ∷ xs) [] e h k = absurd (omega (arith, ap length e))
same_specs (a ∷ xs) (b ∷ ys) e h k =
    let first : a ≡ b = one_loaded a b (first_same (text_of a) (text_of b) (map text_of xs) (map text_of ys) e)
    (in_all SaysItsText (a ∷ xs) h a (inl refl)) (in_all SaysItsText (b ∷ ys) k b (inl refl)) in
    let rest : xs ≡ ys = same_specs xs ys (rest_same (text_of a) (text_of b) (map text_of xs) (map text_of ys) e)
    (all_in SaysItsText xs (λ x within. in_all SaysItsText (a ∷ xs) h x (inr within)))
    (all_in SaysItsText ys (λ x within. in_all SaysItsText (b ∷ ys) k x (inr within))) in
    ap (λ x. x ∷ xs) first ∙ ap (λ l. b ∷ l) rest
  where
    first_same : {A : Type 0} (x y : A) (xs ys : List A) → x ∷ xs ≡ y ∷ ys → x ≡ y
    first_same x y xs ys e = cc

    rest_same : {A : Type 0} (x y : A) (xs ys : List A) → x ∷ xs ≡ y ∷ ys → xs ≡ ys
    rest_same x y xs ys e = cc

pub only_specs : (texts : List (List ℕ)) (xs ys : List Loaded) → AreSpecsOf texts xs → AreSpecsOf texts ys → xs ≡ ys
only_specs texts xs ys h k = same_specs xs ys (h.texted ∙ sym k.texted) h.accepted k.accepted

-- ---- a text that is loaded

pub loaded_more : (old new : Holdings) (text : List ℕ) (front : List (List ℕ)) (found : Result (List ℕ) LibraryFault) → TellsLoaded found true
    → IfOk found (λ name. AddsSpec old new name text) → map text_of old.specs ≡ front
    → (new.persons ≡ old.persons) × (map text_of new.specs ≡ front ++ (text ∷ []))
loaded_more old new text front found told adds before =
    let more : AddsSpec old new told.0 text = subst (λ (f : Result (List ℕ) LibraryFault). IfOk f (λ name. AddsSpec old new name text)) told.1 adds in (
      ap (λ (l : Holdings). l.persons) more.behind,
      ap (λ (l : Holdings). map text_of l.specs) more.behind ∙ map-append text_of old.specs (more.loaded ∷ [])
          ∙ ap (λ z. z ++ (text_of more.loaded ∷ [])) before ∙ ap (λ (t : List ℕ). front ++ (t ∷ [])) more.texted,
    )

-- in order or not
pub in_order : (old new : Holdings) (texts : List (List ℕ)) (b : Bool) → b ≡ ascend spec_before new.specs → new.persons ≡ old.persons
    → map text_of new.specs ≡ texts → All SaysItsText new.specs → LoadsAll old texts b new
in_order old new texts true is persons loaded accepted = (persons, record { texted = loaded; accepted = accepted; up = sym is })
in_order old new texts false is persons loaded accepted = λ ls are.
    let same : new.specs ≡ ls = same_specs new.specs ls (loaded ∙ sym are.texted) accepted are.accepted in
    never (is ∙ ap (ascend spec_before) same ∙ are.up)

-- ---- a text that is refused

module _ (library : Holdings) (texts front back : List (List ℕ)) (text : List ℕ) (whole : texts ≡ front ++ (text ∷ back))
    (loaded : map text_of library.specs ≡ front) (accepted : All SaysItsText library.specs) where
  module _ (ls : List Loaded) (are : AreSpecsOf texts ls) where
    abbrev parts : IsSplit text_of ls front text back
    parts = split text_of ls front text back (are.texted ∙ whole)

    say : (x : Loaded) → IsIn ls x → SaysItsText x
    say = in_all SaysItsText ls are.accepted

    in_before : (xs ys : List Loaded) (x : Loaded) → IsIn xs x → IsIn (xs ++ ys) x
    in_before [] ys x within = absurd within
    in_before (z ∷ zs) ys x (inl same) = inl same
    in_before (z ∷ zs) ys x (inr rest) = inr (in_before zs ys x rest)

    in_after : (xs : List Loaded) (y : Loaded) (ys : List Loaded) → IsIn (xs ++ (y ∷ ys)) y
    in_after [] y ys = inl refl
    in_after (z ∷ zs) y ys = inr (in_after zs y ys)

    -- those so far are those that are loaded
    so_far : parts.before ≡ library.specs
    so_far =
        same_specs parts.before library.specs (parts.front_is ∙ sym loaded)
        (all_in SaysItsText parts.before (λ x within.
        say x (subst (λ (l : List Loaded). IsIn l x) (sym parts.whole) (in_before parts.before (parts.here ∷ parts.after) x within)))) accepted

    says : IsAccepted text parts.here.spec
    says =
        subst (λ (t : List ℕ). IsAccepted t parts.here.spec) parts.here_is
        (say parts.here (subst (λ (l : List Loaded). IsIn l parts.here) (sym parts.whole) (in_after parts.before parts.here parts.after)))

    names_up : ascend (lower by_name) (map spec_name parts.before ++ (spec_name parts.here ∷ map spec_name parts.after)) ≡ true
    names_up =
        ap (ascend (lower by_name)) (sym (ap (map spec_name) parts.whole ∙ map-append spec_name parts.before (parts.here ∷ parts.after)))
        ∙ sym (ascend_keys spec_name spec_before (lower by_name) (λ a b. refl) ls) ∙ are.up

    new_name : NoneNamed spec_name library.specs parts.here.spec.name
    new_name i l at same =
        let within = in_map spec_name parts.before l (subst (λ (xs : List Loaded). IsIn xs l) (sym so_far) (in_at library.specs i l at)) in
        let before = earlier by_name (map spec_name parts.before) (map spec_name parts.after) (spec_name parts.here) names_up (spec_name l) within in
        not_itself by_name (spec_name parts.here) (subst (λ (n : List ℕ). T (is_lt (lexical n (spec_name parts.here)))) same before)

    unbroken : Breaks reader (with_library opening library) (commands.Load text) None
    unbroken = new_unbroken (with_library opening library) text parts.here.spec says (spec-free opening library parts.here.spec.name new_name)

  pub none_refused : (result : Result (List ℕ) LibraryFault) (refusal : Refusal) → result ≡ Err (faults.Refused refusal)
      → ((s : State) (found : Option Refusal) → Breaks reader (with_library s library) (commands.Load text) found → Answers result found)
      → (ls : List Loaded) → AreSpecsOf texts ls → ⊥
  none_refused result refusal is only ls are =
      nowhere (subst (λ (r : Result (List ℕ) LibraryFault). Answers r None) is (only opening None (unbroken ls are)))

-- ---- those of a state

abbrev pub specs_in : State → List Loaded
specs_in s = map (λ (e : List ℕ × Loaded). e.1) (entries s.specs)

module _ (s : State) (well : IsWell reader s) where
  named : (e : List ℕ × Loaded) → IsIn (entries s.specs) e → e.1.spec.name ≡ e.0
  named e within = well.content.spec_name e.0 e.1 (find-entry by_name (entries s.specs) e s.specs.sorted within)

  accepted_in : (l : Loaded) → IsIn (specs_in s) l → SaysItsText l
  accepted_in l within =
      let e = from_map (λ (e : List ℕ × Loaded). e.1) (entries s.specs) l within in
      subst SaysItsText e.2 (well.content.spec_text e.0.0 e.0.1 (find-entry by_name (entries s.specs) e.0 s.specs.sorted e.1))

  names_same : (es : List (List ℕ × Loaded)) → ((e : List ℕ × Loaded) → IsIn es e → e.1.spec.name ≡ e.0)
      → map spec_name (map (λ (e : List ℕ × Loaded). e.1) es) ≡ map (λ (e : List ℕ × Loaded). e.0) es
  names_same [] each = refl
  names_same (e ∷ es) each =
      ap (λ (n : List ℕ). n ∷ map spec_name (map (λ (e : List ℕ × Loaded). e.1) es)) (each e (inl refl))
      ∙ ap (λ z. e.0 ∷ z) (names_same es (λ d within. each d (inr within)))

  up_in : ascend spec_before (specs_in s) ≡ true
  up_in =
      ascend_keys spec_name spec_before (lower by_name) (λ a b. refl) (specs_in s)
      ∙ ap (ascend (lower by_name)) (names_same (entries s.specs) named)
      ∙ ascending lexical (λ (e : List ℕ × Loaded). e.0) (lower by_name) (λ a b. refl) (entries s.specs) s.specs.sorted

  pub of_state : (texts : List (List ℕ)) → map text_row (entries s.specs) ≡ texts → AreSpecsOf texts (specs_in s)
  of_state texts is = record {
    texted = map_map (λ (e : List ℕ × Loaded). e.1) text_of (entries s.specs) ∙ is;
    accepted = all_in SaysItsText (specs_in s) accepted_in;
    up = up_in;
  }

  under_itself : (es : List (List ℕ × Loaded)) → ((e : List ℕ × Loaded) → IsIn es e → e.1.spec.name ≡ e.0)
      → map spec_under (map (λ (e : List ℕ × Loaded). e.1) es) ≡ es
  under_itself [] each = refl
  under_itself (e ∷ es) each =
      ap (λ (n : List ℕ). (n, e.1) ∷ map spec_under (map (λ (e : List ℕ × Loaded). e.1) es)) (each e (inl refl))
      ∙ ap (λ z. e ∷ z) (under_itself es (λ d within. each d (inr within)))

  pub specs_under : map spec_under (specs_in s) ≡ entries s.specs
  specs_under = under_itself (entries s.specs) named

-- ---- those of a library

pub all_texts : (texts : List (List ℕ)) (ls : List Loaded) → AreSpecsOf texts ls
    → map text_row (entries (of_entries {R = lexical} (map spec_under ls))) ≡ texts
all_texts texts ls are =
    ap (map text_row) (entries_are by_name (map spec_under ls) (ap (ascend (lower by_name)) (map_map spec_under (λ (e : List ℕ × Loaded). e.0) ls)
    ∙ sym (ascend_keys spec_name spec_before (lower by_name) (λ a b. refl) ls) ∙ are.up))
    ∙ map_map spec_under text_row ls ∙ are.texted
