-- What is known and loose, once one is put in or taken out.
use Rattle.std.specs.BTreeSet.{BTreeSet, Updates, contains}
use Rattle.std.specs.Ordering.{eq_by_cmp, nat_cmp}
use Rattle.std.specs.Prelude.{◌≡◌, ◌↔◌, ◌<◌, ◌∷◌, ◌||◌, ℕ, Bool, IfSome, IsSome, List, [], None, Option, Some, cond, false, length, refl, slice_get, true}
use Rattle.std.proofs.Common.{ap, arith, subst, sym, ◌∙◌}
use Rattle.std.proofs.lemmas.Slice.Eq.{bytes_eq-Decides}
use Rattle.yw_loose.specs.Loose.{Gains, is_known, is_loose}
use Rattle.yw_loose.specs.declared.loose.Loose.{Loose}
use Rattle.yw_state.proofs.MapLemmas.{apart, by_name, tied_self}
use Rattle.yw_state.proofs.Tests.{by_test, never, nowhere, some_same}
use Rattle.yw_state.specs.Identity.{Ident, same}
use Rattle.yw_state.specs.Map.{lexical}

-- the order of identities ties the same alone
pub tied_same : (q k : Ident) → eq_by_cmp lexical q k ≡ same k q
tied_same q k =
    by_test (same k q)
    (λ t. subst (λ z. eq_by_cmp lexical q z ≡ true) (sym ((bytes_eq-Decides k q).0 t)) (tied_self by_name q) ∙ sym t)
    (λ f. apart by_name q k (λ e. never (sym f ∙ (bytes_eq-Decides k q).1 (sym e))) ∙ sym f)

cond_or : (b c : Bool) → cond b true c ≡ (b || c)
cond_or true c = refl
cond_or false c = refl

module _ (l : Loose) (ids : BTreeSet Ident) (id : Ident) where
  pub gained : Updates lexical l.idents ids id true → Gains l (record l { idents = ids }) id
  gained updates = record {
    known = λ n. refl;
    loose = λ j. updates.0 j ∙ cond_or (eq_by_cmp lexical id j) (is_loose l j) ∙ ap (λ b. b || is_loose l j) (tied_same id j);
    counts = refl;
  }

  pub taken : Updates lexical l.idents ids id false → (j : Ident) → same j id ≡ false → contains lexical ids j ≡ is_loose l j
  taken updates j other = updates.0 j ∙ ap (λ b. cond b false (is_loose l j)) (tied_same id j ∙ other)

some_first : (xs : List Ident) (id : Ident) → slice_get xs 0 ≡ Some id → 0 < length xs
some_first [] id e = nowhere e
some_first (x ∷ xs) id e = omega arith

pub none_first : (xs : List Ident) → ¬ (0 < length xs) → xs ≡ []
none_first [] none = refl
none_first (x ∷ xs) none = absurd (none (omega arith))

-- the first is taken out
pub first_popped : (old new : BTreeSet Ident) (id : Ident) (popped : Option Ident) → slice_get old.keys 0 ≡ Some id → IsSome popped ↔ (0 < length old.keys)
    → IfSome popped (λ k. old.keys ≡ k ∷ new.keys) → IfSome popped (λ k. Updates lexical old new k false)
    → Updates lexical old new id false × (length new.keys < length old.keys)
first_popped old new id None first some removal updates = never (some.1 (some_first old.keys id first))
first_popped old new id (Some k) first some removal updates =
    let same_key : k ≡ id = some_same k id (sym (ap (λ ks. slice_get ks 0) removal) ∙ first) in
    let shorter : length old.keys ≡ length (k ∷ new.keys) = ap length removal in
    (subst (λ i. Updates lexical old new i false) same_key updates, omega (arith, shorter))

-- one case more is known
pub knows : (l : Loose) (ns : BTreeSet ℕ) (n m : ℕ) → Updates nat_cmp l.known ns n true → contains nat_cmp ns m ≡ (eq_by_cmp nat_cmp n m || is_known l m)
knows l ns n m updates = updates.0 m ∙ cond_or (eq_by_cmp nat_cmp n m) (is_known l m)
