-- What is urgent at an identity, and in a case, by the boxes of a forest.
use Rattle.std.specs.Prelude.{◌≡◌, ◌==◌, ◌&&◌, ◌||◌, ℕ, Bool, true, false, not, List, Option, Some, None, option_and_then, option_map, unwrap_or, refl}
use Rattle.std.proofs.Common.{sym, ◌∙◌, ap, subst}
use Rattle.std.proofs.lemmas.Bool.{and_from, and_parts, eqb-true, or_right}
use Rattle.std.proofs.lemmas.List.Elements.{All-contains}
use Rattle.yw_base.specs.Identity.{case_number}
use Rattle.yw_idents.proofs.Listed.{all_listed, none_stands}
use Rattle.yw_idents.specs.Idents.{AreAllIn, idents_of}
use Rattle.yw_state.proofs.Entries.{find-entry, passing}
use Rattle.yw_state.proofs.MapLemmas.{by_name}
use Rattle.yw_state.proofs.Tests.{by_test, never}
use Rattle.yw_state.specs.Allowed.{comes_next}
use Rattle.yw_state.specs.Identity.{Ident}
use Rattle.yw_state.specs.Map.{entries, get}
use Rattle.yw_state.specs.State.{RunPart, Site, State, due_at, no_checks, run_part}
use Rattle.yw_state.specs.Well.{Stands}
use Rattle.yw_state.specs.Words.{any_due, busy, is_at_work, is_first_due, urgent}
use Rattle.yw_state.specs.declared.part.Checks.{Checks}
use Rattle.yw_state.specs.declared.tree.TreeKind.{TreeKind}
use Rattle.yw_still.specs.Still.{check_waits, run_is_at_work}
use Rattle.yw_tree.specs.Cases.{case_at}
use Rattle.yw_tree.specs.Entries.{case_entries}
use Rattle.yw_tree.specs.declared.Case.{Case}
use Rattle.yw_tree.specs.declared.Forest.{Forest}
use Rattle.yw_tree.specs.declared.Run.{Run, out-Run}
use Rattle.yw_urgent.proofs.Coming.{check_is_urgent}
use Rattle.yw_urgent.specs.Here.{FindsHere, FindsRun, IsHere, TellsAmong, TellsIn}
use Rattle.yw_idle.specs.Idle.{is_urgent_at}
use Rattle.yw_urgent.specs.Urgent.{FindsAmong, FindsIn}
use Rattle.yw_urgent.specs.declared.here.Urgent.{Urgent}
use Rattle.yw_urgent.specs.declared.here.Urgent.TheVariants as urgents

-- ---- an identity

and_false : (b : Bool) → (b && false) ≡ false
and_false true = refl
and_false false = refl

module _ (s : State) (j : Ident) where
  abbrev due_in : Option Site → Checks
  due_in o = unwrap_or (option_map (λ (x : Site). x.due) o) no_checks

  abbrev run_in : Option Site → Option RunPart
  run_in o = option_and_then (λ (x : Site). x.run) o

  pub due_there : (x : Site) → get s.sites j ≡ Some x → x.due ≡ due_at s j
  due_there x here = sym (ap due_in here)

  pub run_there : (x : Site) → get s.sites j ≡ Some x → run_part s j ≡ x.run
  run_there x here = ap run_in here

  -- where no run stands
  pub held_up : busy s j ≡ true → run_part s j ≡ None → is_urgent_at s j ≡ false
  held_up is none =
      ap (λ b. any_due (due_at s j) && not b || run_is_at_work s j) is
      ∙ ap (λ b. b || run_is_at_work s j) (and_false (any_due (due_at s j))) ∙ ap is_at_work none

  pub not_due : (due : Checks) → due ≡ due_at s j → any_due due ≡ false → run_part s j ≡ None → is_urgent_at s j ≡ false
  not_due due is none no_run =
      ap (λ b. b && not (busy s j) || run_is_at_work s j) (ap any_due (sym is) ∙ none) ∙ ap is_at_work no_run

  pub next_there : (due : Checks) → due ≡ due_at s j → busy s j ≡ false → (check : TreeKind) → is_first_due due check ≡ true → comes_next s j check ≡ true
  next_there due is free check first = and_from _ _ (subst (λ d. is_first_due d check ≡ true) is first) (ap not free)

  pub nothing_there : get s.sites j ≡ None → is_urgent_at s j ≡ false
  nothing_there none = ap (λ o. any_due (due_in o) && not (busy s j) || is_at_work (run_in o)) none

  module _ (k : Run) (due : due_at s j ≡ no_checks) where
    abbrev as_part : Bool → RunPart
    as_part b = record { rest = (out-Run k).rest; waiting = b }

    pub run_here : run_part s j ≡ Some (as_part (out-Run k).waiting) → (o : Option Urgent) → FindsRun k o → FindsHere s j o
    run_here here None waits =
        ap (λ d. any_due d && not (busy s j) || run_is_at_work s j) due ∙ ap is_at_work here ∙ ap not waits
    run_here here (Some (urgents.Check check)) is = absurd is
    run_here here (Some (urgents.Run this)) is =
        here ∙ ap (λ b. Some (as_part b)) is.1 ∙ ap (λ (z : Run). let x : RunPart = record { rest = (out-Run z).rest; waiting = false } in Some x) (sym is.0)

  pub here_is_urgent : (u : Urgent) → IsHere s j u → is_urgent_at s j ≡ true
  here_is_urgent (urgents.Check check) next = check_is_urgent s j check next
  here_is_urgent (urgents.Run run) here = or_right (check_waits s j) _ (ap is_at_work here)

-- ---- a case

urgent_there : (s : State) (j : Ident) (x : Site) → Stands s j x → (any_due x.due && not (busy s j) || is_at_work x.run) ≡ true → is_urgent_at s j ≡ true
urgent_there s j x stands e =
    ap (λ o. any_due (unwrap_or (option_map (λ (y : Site). y.due) o) no_checks) && not (busy s j) || is_at_work (option_and_then (λ (y : Site). y.run) o)) stands ∙ e

-- where it isn't urgent at any identity
calm : (s : State) (n : ℕ) → ((j : Ident) (x : Site) → Stands s j x → case_number j ≡ n → is_urgent_at s j ≡ false) → urgent s n ≡ false
calm s n none =
    by_test (urgent s n)
    (λ hurry.
    let (e, within, passes_it) = passing _ (entries s.sites) hurry in
    let stands : get s.sites e.0 ≡ Some e.1 = find-entry by_name (entries s.sites) e s.sites.sorted within in
    let parts = and_parts (case_number e.0 == n) _ passes_it in
    never (sym (none e.0 e.1 stands (eqb-true (case_number e.0) n parts.0)) ∙ urgent_there s e.0 e.1 stands parts.1))
    (λ no. no)

in_case : (s : State) (n : ℕ) (js : List Ident) → AreAllIn s n js → (o : Option Ident) → FindsAmong s js o → FindsIn s n o
in_case s n js are None none = calm s n (λ j x stands is. All-contains (λ i. is_urgent_at s i ≡ false) js j none (are.all j x stands is))
in_case s n js are (Some j) found = (All-contains (λ i. case_number i ≡ n) js j are.of_case found.0, found.1)

module _ (f : Forest) (n : ℕ) where
  pub case_there : (c : Case) → Some c ≡ case_at n f.cases → (js : List Ident) → ((names : ℕ → List ℕ) → js ≡ idents_of (case_entries names c))
      → (o : Option Ident) → TellsAmong f js o → TellsIn f n o
  case_there c at js are o among = λ names s boxed sites.
      in_case s n js (subst (AreAllIn s n) (sym (are names)) (all_listed names f boxed s sites n c (sym at))) o (among names s boxed sites)

  pub no_case_there : None ≡ case_at n f.cases → TellsIn f n None
  no_case_there at = λ names s boxed sites. calm s n (λ j x stands is. absurd (none_stands names f boxed s sites n (sym at) j x stands is))
