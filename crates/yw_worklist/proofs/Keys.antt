-- Sets of identities, as lists of their keys.
use Rattle.std.proofs.Common.{ap, inl, inr, refl, subst, sym, ◌∙◌}
use Rattle.std.proofs.lemmas.Bool.{and_from}
use Rattle.std.proofs.lemmas.Slice.Eq.{bytes_eq-Decides}
use Rattle.std.specs.BTreeSet.{insert_key}
use Rattle.std.specs.Borrow.{Bor}
use Rattle.std.specs.List.{AllByRecursion, list_all, list_any}
use Rattle.std.specs.List.Sorted.{IsStrictlySortedBy}
use Rattle.std.specs.Ordering.{eq_by_cmp, is_eq, is_lt, match_ordering}
use Rattle.std.specs.Prelude.{◌≡◌, [], ◌∷◌, List, true}
use Rattle.std.specs.declared.cmp.Ordering.TheVariants.{Equal, Greater, Less}
use Rattle.yw_idents.specs.Idents.{lent}
use Rattle.yw_shown.proofs.Inserted.{by_bytes}
use Rattle.yw_state.proofs.Entries.{IsIn, passing}
use Rattle.yw_state.proofs.MapLemmas.{apart, by_name, tied, tied_self}
use Rattle.yw_state.proofs.Tests.{by_test, never}
use Rattle.yw_state.specs.Identity.{Ident, same}
use Rattle.yw_state.specs.Map.{lexical}
use Rattle.yw_work.specs.Rows.{ascends}

-- the order of identities ties the same alone
pub tied_same : (q k : Ident) → eq_by_cmp lexical q k ≡ same k q
tied_same q k =
    by_test (same k q)
    (λ t. subst (λ z. eq_by_cmp lexical q z ≡ true) (sym ((bytes_eq-Decides k q).0 t)) (tied_self by_name q) ∙ sym t)
    (λ f. apart by_name q k (λ e. never (sym f ∙ (bytes_eq-Decides k q).1 (sym e))) ∙ sym f)

-- what a set has is one of its keys
pub in_keys : (ks : List Ident) (j : Ident) → list_any (λ k. is_eq (lexical j k)) ks ≡ true → IsIn ks j
in_keys ks j has =
    let (k, within, tie) = passing (λ k. is_eq (lexical j k)) ks has in
    subst (IsIn ks) (sym (tied by_name j k tie)) within

-- ---- in order

all_later : (k : Ident) (bs : List (Bor Ident)) → AllByRecursion (λ b. lexical k b.now ≡ Less) bs
    → list_all (λ i. is_lt (lexical k i)) (lent bs) ≡ true
all_later k [] up = refl
all_later k (b ∷ bs) up = and_from _ _ (ap is_lt up.0) (all_later k bs up.1)

abbrev pub lent_to : Bor Ident → Ident
lent_to b = b.now

pub ascending : (bs : List (Bor Ident)) → IsStrictlySortedBy (by_bytes lent_to) bs → ascends (lent bs) ≡ true
unfolding IsStrictlySortedBy
ascending [] up = refl
ascending (b ∷ bs) up = and_from _ _ (all_later b.now bs up.0) (ascending bs up.1)

-- ---- one key more

pub key_there : (ks : List (Bor Ident)) (k : Bor Ident) → IsIn (lent (insert_key (by_bytes lent_to) ks k)) k.now
key_there [] k = inl refl
key_there (x ∷ ks) k =
    elim (lexical k.now x.now) as (λ o. lexical k.now x.now ≡ o
    → IsIn (lent (match_ordering o (k ∷ x ∷ ks) (x ∷ ks) (x ∷ insert_key (by_bytes lent_to) ks k))) k.now) [
      | Less ↦ λ e. inl refl
      | Equal ↦ λ e. inl (sym (by_name.same k.now x.now e))
      | Greater ↦ λ e. inr (key_there ks k)
    ] refl

pub keys_stay : (ks : List (Bor Ident)) (k : Bor Ident) (j : Ident) → IsIn (lent ks) j → IsIn (lent (insert_key (by_bytes lent_to) ks k)) j
keys_stay [] k j within = absurd within
keys_stay (x ∷ ks) k j within =
    elim (lexical k.now x.now) as (λ o. IsIn (lent (match_ordering o (k ∷ x ∷ ks) (x ∷ ks) (x ∷ insert_key (by_bytes lent_to) ks k))) j) [
      | Less ↦ inr within
      | Equal ↦ within
      | Greater ↦ elim within [ inl first ↦ inl first | inr rest ↦ inr (keys_stay ks k j rest) ]
    ]
