-- A net that begins weighs no more than one token on its input.
use Rattle.std.specs.Prelude.{◌≡◌, ◌≤◌, ◌+◌, ◌*◌, ℕ, zero, suc, Bool, false, List, cond, length, replicate, Option, Some, None, nat_eq, option_and_then, option_map, slice_get, slice_set, refl, if◌then◌else◌}
use Rattle.std.proofs.Common.{sym, ◌∙◌, ap, subst, arith}
use Rattle.std.proofs.Math.Nat.{mul-le-mul_right}
use Rattle.std.proofs.lemmas.Bool.{eq-eqb, eqb-true}
use Rattle.yw_invariant.proofs.Changes.{at_each}
use Rattle.yw_invariant.proofs.Places.{parent_of_child}
use Rattle.yw_proper.proofs.Active.{active_item}
use Rattle.yw_proper.proofs.Lighter.{Holds, ItemFrom, NetFrom, active_before, changed_from, counted, item_gone, item_itself, net_itself, put_from, still_holds}
use Rattle.yw_proper.proofs.Sums.{total_less, total_rises}
use Rattle.yw_proper.proofs.Tokens.{begun, begun_fewer}
use Rattle.yw_proper.specs.Load.{IsNetOf, load, total}
use Rattle.yw_proper.specs.Proper.{weight_of_place, weight_of_task}
use Rattle.yw_spec.specs.declared.spec.Net.{Net}
use Rattle.yw_spec.specs.declared.spec.Spec.{Spec}
use Rattle.yw_state.proofs.MapLemmas.{by_name, get-insert_other, get-insert_same, get-update_other, get-update_same}
use Rattle.yw_state.proofs.Tests.{by_test, nowhere, some_same}
use Rattle.yw_state.specs.After.{change, count_on, put, stands, with_next}
use Rattle.yw_state.specs.Identity.{Ident}
use Rattle.yw_base.specs.Identity.{parent}
use Rattle.yw_state.specs.Map.{get}
use Rattle.yw_state.specs.State.{State, Site, NetPart, ItemPart, item_part, net_part, spec_called, tokens_on}
use Rattle.yw_state.specs.Words.{active}
use Rattle.yw_state.specs.declared.loaded.Loaded.{Loaded}

-- The net is new, with one token on the input.
pub record IsNew (s : State) (n : NetPart) : Type 0 where
  pub spec : Spec
  pub called : spec_called s n.spec ≡ Some spec
  pub net : Net
  pub at : slice_get spec.nets n.net ≡ Some net
  pub tokens : n.tokens ≡ slice_set (replicate (length net.places) 0) net.input 1

-- no item is of a net there
abbrev pub IsIdle : State → Ident → Type 0
IsIdle s j = (q : Ident) (x : ItemPart) → item_part s q ≡ Some x → ¬ (parent q ≡ j)

nothing_weighs : (n : ℕ) → total (λ c. 0) n ≡ 0
nothing_weighs zero = refl
nothing_weighs (suc n) = let rest = nothing_weighs n in omega (arith, rest)

one_weighs : (w : List ℕ) (input places : ℕ) → total (λ c. begun input c * weight_of_place w c) places ≤ weight_of_place w input
one_weighs w input places =
    let all = total_rises (λ c. begun input c * weight_of_place w c) (λ c. 0) input (weight_of_place w input) elsewhere here places in
    let none = nothing_weighs places in
    omega (arith, all, none)
  where
    elsewhere : (c : ℕ) → ¬ (c ≡ input) → begun input c * weight_of_place w c ≤ 0
    elsewhere c other =
        by_test (nat_eq c input)
        (λ e. absurd (other (eqb-true c input e)))
        (λ e. let is : begun input c * weight_of_place w c ≡ 0 * weight_of_place w c = ap (λ (b : Bool). cond {A = ℕ} b 1 0 * weight_of_place w c) e in omega (arith, is))

    here : begun input input * weight_of_place w input ≤ 0 + weight_of_place w input
    here = let is : begun input input * weight_of_place w input ≡ 1 * weight_of_place w input = ap (λ (b : Bool). cond {A = ℕ} b 1 0 * weight_of_place w input) (eq-eqb input input refl) in omega (arith, is)

module _ (spec : Spec) (k : ℕ) (net : Net) (at : slice_get spec.nets k ≡ Some net) (w : List ℕ) (s t : State) (specs : t.specs ≡ s.specs) where
  -- nothing but a token on the input
  new_weighs : (i : Ident) (n : NetPart) → net_part t i ≡ Some n → IsNew s n → ((c : ℕ) → active t i c ≡ false) → IsNetOf t i spec k → load net w t i ≤ weight_of_place w net.input
  new_weighs i n is new idle of =
      let same : n ≡ of.part = some_same n of.part (sym is ∙ of.stands) in
      let its_spec : new.spec ≡ spec = some_same new.spec spec (sym new.called ∙ ap (λ m. option_map (λ (l : Loaded). l.spec) (get m n.spec)) (sym specs) ∙ ap (λ (p : NetPart). spec_called t p.spec) same ∙ of.called) in
      let its_net : new.net ≡ net = some_same new.net net (sym new.at ∙ ap (λ (x : Spec). slice_get x.nets n.net) its_spec ∙ ap (λ (p : NetPart). slice_get spec.nets p.net) same ∙ ap (slice_get spec.nets) of.number ∙ at) in
      let begins : n.tokens ≡ slice_set (replicate (length net.places) 0) net.input 1 = new.tokens ∙ ap (λ (x : Net). slice_set (replicate (length x.places) 0) x.input 1) its_net in
      let tokens = total_less (λ c. tokens_on t i c * weight_of_place w c) (λ c. begun net.input c * weight_of_place w c) (length net.places)
      (λ c within. mul-le-mul_right (weight_of_place w c) (few c begins)) in
      let one = one_weighs w net.input (length net.places) in
      let tasks = total_less (λ c. if active t i c then weight_of_task net w c else 0) (λ c. 0) (length net.tasks) (λ c within. none_active c (idle c)) in
      let none = nothing_weighs (length net.tasks) in
      omega (arith, tokens, one, tasks, none)
    where
      few : (c : ℕ) → n.tokens ≡ slice_set (replicate (length net.places) 0) net.input 1 → tokens_on t i c ≤ begun net.input c
      few c begins =
          let there = counted t i n is c in
          let most = begun_fewer (length net.places) net.input c in
          let same : count_on n.tokens c ≡ count_on (slice_set (replicate (length net.places) 0) net.input 1) c = ap (λ ts. count_on ts c) begins in
          omega (arith, there, most, same)

      none_active : (c : ℕ) → active t i c ≡ false → (if active t i c then weight_of_task net w c else 0) ≤ 0
      none_active c e = let is : (if active t i c then weight_of_task net w c else 0) ≡ 0 = ap (λ (b : Bool). if b then weight_of_task net w c else 0) e in omega (arith, is)

  -- a net begins at j, in which no item stands, and else nothing comes
  pub begins_hold : (j : Ident) → ((q : Ident) → ItemFrom (item_part s q) (item_part t q)) → ((q : Ident) → ¬ (q ≡ j) → NetFrom (net_part s q) (net_part t q))
      → ((n : NetPart) → net_part t j ≡ Some n → IsNew s n) → IsIdle s j → Holds spec k net w s → Holds spec k net w t
  begins_hold j items nets new idle holds =
      at_each j (λ i. IsNetOf t i spec k → load net w t i ≤ weight_of_place w net.input)
      (λ of. new_weighs j of.part of.stands (new of.part of.stands) none_active of)
      (λ i other of. still_holds spec k net w s t specs holds i (nets i other) (λ c. active_before s t items i c) of)
    where
      none_active : (c : ℕ) → active t j c ≡ false
      none_active c =
          by_test (active t j c)
          (λ e.
          let has = active_item s j c (active_before s t items j c e) in
          absurd (idle has.at has.item has.stands (parent_of_child has.at j has.below)))
          (λ e. e)

-- ---- it begins at what stands, or with it

module _ (spec : Spec) (k : ℕ) (net : Net) (at : slice_get spec.nets k ≡ Some net) (w : List ℕ) (s : State) (j : Ident) (n : NetPart) (new : IsNew s n) (idle : IsIdle s j) (holds : Holds spec k net w s) where
  pub change_begins : (g : Site → Site) → ((x : Site) → ItemFrom x.item (g x).item) → Holds spec k net w (change s j (λ x. stands n (g x)))
  change_begins g item =
      begins_hold spec k net at w s (change s j (λ x. stands n (g x))) refl j
      (changed_from (λ (x : Site). x.item) ItemFrom item_itself s j (λ x. stands n (g x)) item)
      (λ q other. subst (λ o. NetFrom (net_part s q) (option_and_then (λ (x : Site). x.net) o)) (sym (get-update_other by_name s.sites j (λ x. stands n (g x)) q other)) (net_itself (net_part s q)))
      (λ m is. subst (IsNew s) (of_this (get s.sites j) m (ap (option_and_then (λ (x : Site). x.net)) (sym (get-update_same by_name s.sites j (λ x. stands n (g x)))) ∙ is)) new)
      idle holds
    where
      of_this : (o : Option Site) (m : NetPart) → option_and_then (λ (x : Site). x.net) (option_map (λ x. stands n (g x)) o) ≡ Some m → n ≡ m
      of_this None m e = nowhere e
      of_this (Some x) m e = some_same n m e

  pub put_begins : (x : Site) → x.net ≡ Some n → x.item ≡ None → (next : ℕ) → Holds spec k net w (with_next (put s j x) next)
  put_begins x is no_item next =
      begins_hold spec k net at w s (with_next (put s j x) next) refl j
      (put_from (λ (y : Site). y.item) ItemFrom item_itself item_gone s j x no_item)
      (λ q other. subst (λ o. NetFrom (net_part s q) (option_and_then (λ (y : Site). y.net) o)) (sym (get-insert_other by_name s.sites j x q other)) (net_itself (net_part s q)))
      (λ m e. subst (IsNew s) (some_same n m (sym is ∙ ap (option_and_then (λ (y : Site). y.net)) (sym (get-insert_same by_name s.sites j x)) ∙ e)) new)
      idle holds
