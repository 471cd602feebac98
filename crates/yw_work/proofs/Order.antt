-- The rows of identities that ascend are in order.
use Rattle.std.specs.Prelude.{◌≡◌, Bool, true, List, [], ◌∷◌, ◌++◌, refl}
use Rattle.std.specs.List.{list_all, flat_map}
use Rattle.std.specs.Ordering.{is_lt, ordering_then}
use Rattle.std.specs.declared.cmp.Ordering.{Ordering}
use Rattle.std.specs.declared.cmp.Ordering.TheVariants.{Less, Equal, Greater}
use Rattle.std.proofs.Common.{◌∙◌, ap}
use Rattle.std.proofs.lemmas.Bool.{and_parts, and_from}
use Rattle.std.proofs.lemmas.Slice.Eq.{bytes_eq-Decides}
use Rattle.yw_state.proofs.Tests.{never}
use Rattle.yw_state.specs.Answers.{rises}
use Rattle.yw_state.specs.Identity.{Ident, same}
use Rattle.yw_state.specs.Map.{lexical}
use Rattle.yw_state.specs.declared.answer.WorkRow.{WorkRow}
use Rattle.yw_work.specs.Rows.{AreRowsAt, ascends, work_before}

then_lt : (o p : Ordering) → is_lt o ≡ true → is_lt (ordering_then o p) ≡ true
then_lt Less p e = refl
then_lt Equal p e = never e
then_lt Greater p e = never e

all_joined : {A : Type 0} (p : A → Bool) (xs ys : List A) → list_all p xs ≡ true → list_all p ys ≡ true → list_all p (xs ++ ys) ≡ true
all_joined p [] ys a b = b
all_joined p (x ∷ xs) ys a b = let parts = and_parts (p x) (list_all p xs) a in and_from _ _ parts.0 (all_joined p xs ys parts.1 b)

module _ (j : Ident) where
  abbrev is_at : WorkRow → Bool
  is_at r = same r.at j

  abbrev is_later : WorkRow → Bool
  is_later r = is_lt (lexical j r.at)

  crosses : (x y : WorkRow) → is_at x ≡ true → is_later y ≡ true → work_before x y ≡ true
  crosses x y here later =
      let e : x.at ≡ j = (bytes_eq-Decides x.at j).0 here in
      then_lt (lexical x.at y.at) (lexical x.task y.task) (ap (λ i. is_lt (lexical i y.at)) e ∙ later)

  joined : (xs ys : List WorkRow) → rises work_before xs ≡ true → rises work_before ys ≡ true → list_all is_at xs ≡ true
      → list_all is_later ys ≡ true → rises work_before (xs ++ ys) ≡ true
  joined [] ys a b here later = b
  joined (x ∷ []) [] a b here later = refl
  joined (x ∷ []) (y ∷ ys) a b here later =
      and_from _ _ (crosses x y (and_parts (is_at x) true here).0 (and_parts (is_later y) (list_all is_later ys) later).0) b
  joined (x ∷ z ∷ xs) ys a b here later =
      let parts = and_parts (work_before x z) (rises work_before (z ∷ xs)) a in
      let rest = and_parts (is_at x) (list_all is_at (z ∷ xs)) here in
      and_from _ _ parts.0 (joined (z ∷ xs) ys parts.1 b rest.1 later)

  moved_on : (k : Ident) (rs : List WorkRow) → is_lt (lexical j k) ≡ true → list_all (λ r. same r.at k) rs ≡ true → list_all is_later rs ≡ true
  moved_on k [] later here = refl
  moved_on k (r ∷ rs) later here =
      let parts = and_parts (same r.at k) (list_all (λ q. same q.at k) rs) here in
      and_from _ _ (ap (λ i. is_lt (lexical j i)) ((bytes_eq-Decides r.at k).0 parts.0) ∙ later) (moved_on k rs later parts.1)

  all_later : (rows : Ident → List WorkRow) → AreRowsAt rows → (ks : List Ident) → list_all (λ k. is_lt (lexical j k)) ks ≡ true
      → list_all is_later (flat_map rows ks) ≡ true
  all_later rows are [] e = refl
  all_later rows are (k ∷ ks) e =
      let parts = and_parts (is_lt (lexical j k)) (list_all (λ i. is_lt (lexical j i)) ks) e in
      all_joined is_later (rows k) (flat_map rows ks) (moved_on k (rows k) parts.0 (are.at k)) (all_later rows are ks parts.1)

pub ordered : (rows : Ident → List WorkRow) (js : List Ident) → AreRowsAt rows → ascends js ≡ true → rises work_before (flat_map rows js) ≡ true
ordered rows [] are e = refl
ordered rows (j ∷ js) are e =
    let parts = and_parts (list_all (λ k. is_lt (lexical j k)) js) (ascends js) e in
    joined j (rows j) (flat_map rows js) (are.ordered j) (ordered rows js are parts.1) (are.at j) (all_later j rows are js parts.0)
