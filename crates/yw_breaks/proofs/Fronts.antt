-- What is broken first of a person and what is named, and of a case alone.
use Rattle.std.proofs.Common.{Bool, List, None, Option, Some, [], false, refl, subst, sym, true, ◌∷◌, ◌≡◌}
use Rattle.std.specs.Prelude.{not, option_map}
use Rattle.yw_breaks.proofs.Rows.{broken_row, idle_row, rule_row}
use Rattle.yw_breaks.specs.Persons.{case_rule}
use Rattle.yw_state.specs.Broken.{Breaks, Check, First, checks, placeless, test}
use Rattle.yw_state.specs.Identity.{Ident}
use Rattle.yw_state.specs.State.{State, is_case}
use Rattle.yw_state.specs.Texts.{Reader}
use Rattle.yw_state.specs.declared.command.Command.TheVariants as commands
use Rattle.yw_state.specs.declared.rule.Rule.{Rule}
use Rattle.yw_state.specs.declared.rule.Rule.TheVariants as rules

module _ (a b : Bool) (r : Rule) where
  abbrev two : List Check
  two = test a rules.UnknownPerson ∷ test b r ∷ []

  pub by_stranger : a ≡ true → First two (Some (placeless rules.UnknownPerson))
  by_stranger is = broken_row a is rules.UnknownPerson (test b r ∷ [])

  pub by_missing : a ≡ false → b ≡ true → First two (Some (placeless r))
  by_missing is there = idle_row a is rules.UnknownPerson (test b r ∷ []) (Some (placeless r)) (broken_row b there r [])

  pub by_none : a ≡ false → b ≡ false → First two None
  by_none is there = idle_row a is rules.UnknownPerson (test b r ∷ []) None (idle_row b there r [] None refl)

-- ---- a case

module _ (reader : Reader) (s : State) (j : Ident) (o : Option Rule) (e : o ≡ case_rule (is_case s j)) where
  case_first : First (test (not (is_case s j)) rules.UnknownCase ∷ []) (option_map placeless o)
  case_first =
      subst (λ (x : Option Rule). First (test (not (is_case s j)) rules.UnknownCase ∷ []) (option_map placeless x)) (sym e)
      (rule_row (not (is_case s j)) (not (is_case s j)) refl rules.UnknownCase [] None refl)

  pub cancels : Breaks reader s (commands.Cancel j) (option_map placeless o)
  unfolding checks
  cancels = case_first

  pub advances : Breaks reader s (commands.Advance j) (option_map placeless o)
  unfolding checks
  advances = case_first
