-- Whether a case or an item at an identity is suspended, by the forest; and what is broken first by it.
use Rattle.std.proofs.Common.{Bool, Err, None, Ok, Option, Result, Some, [], ap, false, refl, subst, sym, true, ◌∙◌, ◌∷◌, ◌≡◌}
use Rattle.std.specs.Option.{option_or}
use Rattle.std.specs.Prelude.{is_some, not, option_and_then, option_map, if◌then◌else◌, ◌&&◌, ◌||◌}
use Rattle.yw_base.specs.Identity.{case_number, is_identity}
use Rattle.yw_breaks.specs.Marks.{FindsMark, continue_rule, mark_rule, no_case, no_item, suspend_rule, target_rule, unknown_of, unknown_rule}
use Rattle.yw_deeds.proofs.MarksGo.{marked_is, target_is}
use Rattle.yw_deeds.specs.Marks.{mark_at, mark_of}
use Rattle.yw_known.proofs.Items.{case_is}
use Rattle.yw_library.specs.Held.{IsHeld}
use Rattle.yw_library.specs.Holdings.{Holdings}
use Rattle.yw_library.specs.Names.{names_of}
use Rattle.yw_state.proofs.Tests.{by_test, never, nowhere}
use Rattle.yw_state.specs.Broken.{Breaks, First, checks, placeless, test}
use Rattle.yw_state.specs.Identity.{Ident, is_case_ident}
use Rattle.yw_state.specs.Options.{is_some_and}
use Rattle.yw_state.specs.State.{State, is_case, is_item, is_suspended, is_target, net_part}
use Rattle.yw_state.specs.Texts.{Reader}
use Rattle.yw_state.specs.declared.command.Command.TheVariants as commands
use Rattle.yw_state.specs.declared.rule.Rule.{Rule}
use Rattle.yw_state.specs.declared.rule.Rule.TheVariants as rules
use Rattle.yw_still.proofs.ItemsGoOn.{case_alone}
use Rattle.yw_tree.specs.Cases.{case_at}
use Rattle.yw_tree.specs.Forest.{item_of}
use Rattle.yw_tree.specs.Places.{run_of}
use Rattle.yw_tree.specs.Spots.{a_case, item_or_run}
use Rattle.yw_tree.specs.declared.Case.{Case}
use Rattle.yw_tree.specs.declared.Forest.{Forest}

-- ---- what stands there

case_found : (o : Option Case) (b : Bool) → option_and_then mark_of (option_map a_case o) ≡ Some b → is_some o ≡ true
case_found None b e = nowhere e
case_found (Some c) b e = refl

neither : (a b : Bool) → (a || b) ≡ false → (a ≡ false) × (b ≡ false)
neither true b e = never (sym e)
neither false b e = (refl, e)

by_ident : (one : Bool) → unknown_of (one && not false) (not one && not false) ≡ Some (unknown_rule one)
by_ident true = refl
by_ident false = refl

module _ (known : Holdings) (f : Forest) (s : State) (h : IsHeld known f s) (j : Ident) (identity : is_identity j ≡ true) where
  stands : is_target s j ≡ is_some (mark_at f j)
  stands = target_is (names_of known) f h.boxed j identity s h.sites

  -- a case or an item is found
  module _ (b : Bool) (found : mark_at f j ≡ Some b) where
    of_case : is_case_ident j ≡ true → is_case s j ≡ true
    of_case one =
        let at : option_and_then mark_of (option_map a_case (case_at (case_number j) f.cases)) ≡ Some b =
        subst (λ (t : Bool). option_and_then mark_of (if t then option_map a_case (case_at (case_number j) f.cases) else item_or_run (item_of f j) (run_of f j)) ≡ Some b)
        one found in
        ap (is_case s) (sym (case_alone j one)) ∙ case_is known f s h (case_number j) ∙ case_found (case_at (case_number j) f.cases) b at

    of_item : is_case_ident j ≡ false → is_item s j ≡ true
    of_item several = subst (λ (t : Bool). (t && is_some (net_part s j) || is_item s j) ≡ true) several (stands ∙ ap is_some found)

    case_there : no_case s j ≡ false
    case_there =
        by_test (is_case_ident j)
        (λ one. ap (λ (t : Bool). t && not (is_case s j)) one ∙ ap not (of_case one))
        (λ several. ap (λ (t : Bool). t && not (is_case s j)) several)

    item_there : no_item s j ≡ false
    item_there =
        by_test (is_case_ident j)
        (λ one. ap (λ (t : Bool). not t && not (is_item s j)) one)
        (λ several. ap (λ (t : Bool). not t && not (is_item s j)) several ∙ ap not (of_item several))

    pub marked_there : FindsMark s j (Ok b)
    marked_there = (
      ap (λ (t : Bool). unknown_of t (no_item s j)) case_there ∙ ap (unknown_of false) item_there,
      marked_is (names_of known) f h.boxed j identity s h.sites ∙ ap (λ (o : Option Bool). is_some_and o (λ m. m)) found,
    )

  -- nothing is, or a run
  pub nothing_there : mark_at f j ≡ None → (rule : Rule) → rule ≡ unknown_rule (is_case_ident j) → FindsMark s j (Err rule)
  nothing_there found rule is =
      let gone = neither (is_case s j) (is_item s j) (stands ∙ ap is_some found) in
      ap (λ (t : Bool). unknown_of (is_case_ident j && not t) (no_item s j)) gone.0
      ∙ ap (λ (t : Bool). unknown_of (is_case_ident j && not false) (not (is_case_ident j) && not t)) gone.1
      ∙ by_ident (is_case_ident j) ∙ ap (λ (r : Rule). Some r) (sym is)

-- ---- what is broken first

rows : (a b m : Bool)
    → First (test a rules.UnknownCase ∷ test b rules.UnknownItem ∷ test m rules.Mark ∷ []) (option_map placeless (option_or (unknown_of a b) (mark_rule m)))
rows true b m = refl
rows false true m = refl
rows false false true = refl
rows false false false = refl

module _ (reader : Reader) (s : State) (j : Ident) where
  rows_of : (m : Bool) (o : Option Rule) → option_or (target_rule s j) (mark_rule m) ≡ o
      → First (test (no_case s j) rules.UnknownCase ∷ test (no_item s j) rules.UnknownItem ∷ test m rules.Mark ∷ []) (option_map placeless o)
  rows_of m o is =
      subst
      (λ (x : Option Rule). First (test (no_case s j) rules.UnknownCase ∷ test (no_item s j) rules.UnknownItem ∷ test m rules.Mark ∷ []) (option_map placeless x))
      is (rows (no_case s j) (no_item s j) m)

  abbrev or_mark : Bool → Option Rule → Option Rule
  or_mark m o = option_or o (mark_rule m)

  suspends_by : (r : Result Bool Rule) → FindsMark s j r → or_mark (is_suspended s j) (target_rule s j) ≡ suspend_rule r
  suspends_by (Ok b) finds = ap (or_mark (is_suspended s j)) finds.0 ∙ ap mark_rule finds.1
  suspends_by (Err r) finds = ap (or_mark (is_suspended s j)) finds

  continues_by : (r : Result Bool Rule) → FindsMark s j r → or_mark (not (is_suspended s j)) (target_rule s j) ≡ continue_rule r
  continues_by (Ok b) finds = ap (or_mark (not (is_suspended s j))) finds.0 ∙ ap (λ (m : Bool). mark_rule (not m)) finds.1
  continues_by (Err r) finds = ap (or_mark (not (is_suspended s j))) finds

  module _ (r : Result Bool Rule) (finds : FindsMark s j r) (o : Option Rule) where
    pub suspends : o ≡ suspend_rule r → Breaks reader s (commands.Suspend j) (option_map placeless o)
    unfolding checks
    suspends is = rows_of (is_suspended s j) o (suspends_by r finds ∙ sym is)

    pub continues : o ≡ continue_rule r → Breaks reader s (commands.Continue j) (option_map placeless o)
    unfolding checks
    continues is = rows_of (not (is_suspended s j)) o (continues_by r finds ∙ sym is)
