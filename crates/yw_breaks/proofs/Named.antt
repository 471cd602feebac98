-- The task of a name, by its number.
use Rattle.std.proofs.Common.{Bool, IfSome, List, None, Option, Some, ap, arith, cond, false, get_or, length, subst, sym, true, ℕ, ◌<◌, ◌∙◌, ◌≡◌}
use Rattle.std.proofs.lemmas.Bool.Decides.{nat_tests}
use Rattle.std.proofs.lemmas.List.Sums.{passes_at_first}
use Rattle.std.proofs.lemmas.Option.{get_or_from_slice_get}
use Rattle.std.proofs.lemmas.Slice.Eq.{bytes_eq-Decides}
use Rattle.std.specs.List.{position_or_len}
use Rattle.std.specs.Prelude.{nat_lt, position, slice_get}
use Rattle.std.specs.Str.{bytes_eq}
use Rattle.yw_breaks.specs.Nets.{IsTaskNamed}
use Rattle.yw_known.proofs.Lists.{not_before}
use Rattle.yw_spec.specs.declared.spec.Net.{Net}
use Rattle.yw_spec.specs.declared.task.Task.{Task}
use Rattle.yw_state.proofs.Tests.{by_option, by_test, nowhere, some_same}
use Rattle.yw_state.specs.Nets.{task_number}

module _ {A : Type 0} (p : A → Bool) (xs : List A) (k : ℕ) (h : position p xs ≡ Some k) where
  is_first : position_or_len p xs ≡ k
  is_first =
      by_test (nat_lt (position_or_len p xs) (length xs))
      (λ (t : nat_lt (position_or_len p xs) (length xs) ≡ true). some_same _ _ (sym (ap (λ b. cond b (Some (position_or_len p xs)) None) t) ∙ h))
      (λ (t : nat_lt (position_or_len p xs) (length xs) ≡ false). nowhere (sym (ap (λ b. cond b (Some (position_or_len p xs)) None) t) ∙ h))

  within : k < length xs
  within = grind (arith, nat_tests)

  there : (x : A) × (slice_get xs k ≡ Some x)
  there = by_option (slice_get xs k) (λ e. not_before xs k e within) (λ x e. (x, e))

  passes : (x : A) → slice_get xs k ≡ Some x → p x ≡ true
  passes x e =
      let l : position_or_len p xs < length xs = subst (λ j. j < length xs) (sym is_first) within in
      ap p (sym (ap (λ j. get_or xs j x) is_first ∙ get_or_from_slice_get xs k x x e)) ∙ passes_at_first p xs x l

abbrev is_called : List ℕ → Task → Bool
is_called name t = bytes_eq t.name name

pub named : (net : Net) (name : List ℕ) (o : Option ℕ) → o ≡ task_number net name → IfSome o (IsTaskNamed net name)
named net name None e = tt
named net name (Some k) e =
    let p = is_called name in
    let t = there p net.tasks k (sym e) in
    record {
      task = t.0;
      at = t.1;
      named = (bytes_eq-Decides t.0.name name).0 (passes p net.tasks k (sym e) t.0 t.1);
      below = within p net.tasks k (sym e);
      number = sym e;
    }
