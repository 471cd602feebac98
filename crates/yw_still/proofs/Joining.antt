-- A join has the tokens that it needs exactly where it can take from some places.
use Rattle.std.specs.Prelude.{◌≡◌, ℕ, ◌==◌, ◌&&◌, Bool, true, List, [], ◌∷◌, length, filter, nat_eq, nat_lt, refl}
use Rattle.std.specs.List.{list_all}
use Rattle.std.specs.Cmp.Lexicographic.{pointwise}
use Rattle.std.proofs.Common.{◌∙◌, ap, sym}
use Rattle.std.proofs.lemmas.Bool.{and_parts, and_from}
use Rattle.yw_base.specs.declared.gate.Gate.{Gate}
use Rattle.yw_base.specs.declared.gate.Gate.TheVariants.{And, Xor, Or}
use Rattle.yw_state.proofs.Tests.{never, same_numbers}
use Rattle.yw_state.specs.Identity.{Ident}
use Rattle.yw_state.specs.Joins.{has_tokens, joins, marked}
use Rattle.yw_state.specs.Nets.{is_among}
use Rattle.yw_state.specs.State.{State}
use Rattle.yw_still.proofs.Numbers.{alike, all_filtered, among_passes, kept_some, one_of_all, some_kept, some_one}

module _ (s : State) (i : Ident) (before : List ℕ) where
  pub joins_tokens : (g : Gate) (taken : List ℕ) → joins g s i before taken ≡ true → has_tokens g s i before ≡ true
  joins_tokens And taken j = (and_parts (pointwise nat_eq taken before) (list_all (marked s i) before) j).1
  joins_tokens Xor [] j = never j
  joins_tokens Xor (b ∷ bs) j =
      let parts = and_parts (is_among before b && length bs == 0) (list_all (marked s i) (b ∷ bs)) j in
      among_passes (marked s i) before b (and_parts (is_among before b) (length bs == 0) parts.0).0 (and_parts (marked s i b) (list_all (marked s i) bs) parts.1).0
  joins_tokens Or taken j =
      let parts = and_parts (pointwise nat_eq taken (filter (marked s i) before)) (nat_lt 0 (length taken)) j in
      kept_some (marked s i) before (ap (λ (cs : List ℕ). nat_lt 0 (length cs)) (sym (same_numbers taken (filter (marked s i) before) parts.0)) ∙ parts.1)

  -- it takes from places that pass, where all do
  pub can_take : (g : Gate) (p : ℕ → Bool) → list_all p before ≡ true → has_tokens g s i before ≡ true → (taken : List ℕ) × (joins g s i before taken ≡ true) × (list_all p taken ≡ true)
  can_take And p all some = (before, and_from _ _ (alike before) some, all)
  can_take Xor p all some =
      let (c, among, here) = some_one (marked s i) before some in
      (c ∷ [], and_from _ _ (and_from _ _ among refl) (and_from (marked s i c) true here refl), and_from (p c) true (one_of_all p before c all among) refl)
  can_take Or p all some =
      (filter (marked s i) before, and_from _ _ (alike (filter (marked s i) before)) (some_kept (marked s i) before some), all_filtered (marked s i) p before all)

  all_pass : (cs : List ℕ) → list_all (λ c. true) cs ≡ true
  all_pass [] = refl
  all_pass (c ∷ cs) = all_pass cs

  pub can_join : (g : Gate) → has_tokens g s i before ≡ true → (taken : List ℕ) × (joins g s i before taken ≡ true)
  can_join g some = let (taken, joins_it, all) = can_take g (λ c. true) (all_pass before) some in (taken, joins_it)
