-- Once all that stands in a case is loose, the case is known.
use Rattle.std.specs.BTreeSet.{BTreeSet, Updates}
use Rattle.std.specs.Borrow.{Bor}
use Rattle.std.specs.Ordering.{nat_cmp}
use Rattle.std.specs.Prelude.{◌≡◌, ◌<◌, ◌+◌, ◌||◌, ℕ, List, [], None, OnErr, Result, Ok, Err, Some, length, true}
use Rattle.std.proofs.Common.{ap, arith, get_or, inl, inr, refl, subst, sym, take, ◌∙◌}
use Rattle.std.proofs.lemmas.List.Elements.{All-contains, All-more, All-nil}
use Rattle.std.proofs.lemmas.List.{get_or-map, length-map}
use Rattle.std.proofs.Math.Bool.{or-true}
use Rattle.std.proofs.lemmas.Slice.Eq.{bytes_eq-Decides}
use Rattle.yw_idents.proofs.Listed.{all_listed, none_stands}
use Rattle.yw_idents.specs.Idents.{AreAllIn, idents_of, lent}
use Rattle.yw_loose.proofs.Sets.{knows}
use Rattle.yw_loose.specs.Counts.{AreRight}
use Rattle.yw_loose.specs.Loose.{Gains, HasAll, HasCase, IsRested, IsSame, is_loose}
use Rattle.yw_loose.specs.declared.loose.Loose.{Loose}
use Rattle.yw_state.proofs.MapLemmas.{by_number, tied}
use Rattle.yw_state.proofs.Tests.{by_test, never, or_cases}
use Rattle.yw_state.specs.Identity.{Ident, same}
use Rattle.yw_base.specs.Identity.{case_number}
use Rattle.yw_state.specs.State.{State}
use Rattle.yw_tree.specs.Cases.{case_at}
use Rattle.yw_tree.specs.Entries.{case_entries}
use Rattle.yw_tree.specs.declared.Case.{Case}
use Rattle.yw_tree.specs.declared.Forest.{Forest}

pub has_none : (l : Loose) → HasAll l l []
has_none l = record { known = λ n. refl; was = λ j e. e; all = All-nil (λ j. is_loose l j ≡ true); counts = refl }

pub on_err : {T E : Type 0} (r : Result T E) (P : Type 0) → P → OnErr r P
on_err (Ok x) P p = tt
on_err (Err e) P p = p

-- ---- one after another

module _ (old mid new : Loose) where
  pub has_more : (bs : List (Bor Ident)) (i : ℕ) (b : Bor Ident) → i < length bs → b ≡ get_or bs i b → HasAll old mid (take i (lent bs))
      → Gains mid new b.now → HasAll old new (take (i + 1) (lent bs))
  has_more bs i b less at has gains = record {
    known = λ n. gains.known n ∙ has.known n;
    was = λ j e. more j (has.was j e);
    all = All-more (λ j. is_loose new j ≡ true) (lent bs) i b.now (omega (arith, less, long))
        (λ k d lt. more (get_or (take i (lent bs)) k d) (has.all k d lt))
        (subst (λ j. is_loose new j ≡ true) (ap (λ (c : Bor Ident). c.now) at ∙ sym (get_or-map (λ (c : Bor Ident). c.now) bs i b b.now less)) here);
    counts = gains.counts ∙ has.counts;
  }
    where
      long : length (lent bs) ≡ length bs
      long = length-map bs (λ (c : Bor Ident). c.now)

      more : (j : Ident) → is_loose mid j ≡ true → is_loose new j ≡ true
      more j e = gains.loose j ∙ ap (λ c. same j b.now || c) e ∙ or-true (same j b.now)

      here : is_loose new b.now ≡ true
      here = gains.loose b.now ∙ ap (λ c. c || is_loose mid b.now) ((bytes_eq-Decides b.now b.now).1 refl)

  pub has_same : (js : List Ident) → HasAll old mid js → IsSame mid new → HasAll old new []
  has_same js has is = record {
    known = λ n. is.known n ∙ has.known n;
    was = λ j e. is.loose j ∙ has.was j e;
    all = All-nil (λ j. is_loose new j ≡ true);
    counts = is.counts ∙ has.counts;
  }

-- what isn't loose now wasn't before
module _ (s : State) (old new : Loose) (js : List Ident) (has : HasAll old new js) where
  pub has_rested : IsRested s old → IsRested s new
  has_rested rested = record {
    rests = λ j x stands known loose.
        rested.rests j x stands (sym (has.known (case_number j)) ∙ known) (by_test (is_loose old j) (λ b. never (sym loose ∙ has.was j b)) (λ f. f));
    counted = subst (AreRight s) (sym has.counts) rested.counted;
  }

  -- the case in which these are all, is known
  pub listed : (n : ℕ) → AreAllIn s n js → (ns : BTreeSet ℕ) → Updates nat_cmp new.known ns n true → IsRested s old → IsRested s (record new { known = ns })
  listed n are ns updates rested = record {
    rests = λ j x stands known loose. elim (or_cases _ _ (sym (knows new ns n (case_number j) updates) ∙ known)) [
      | inl here ↦ never (sym loose ∙ All-contains (λ i. is_loose new i ≡ true) js j has.all (are.all j x stands (sym (tied by_number n (case_number j) here))))
      | inr there ↦ (has_rested rested).rests j x stands there loose
    ];
    counted = (has_rested rested).counted;
  }

-- ---- the case is in the forest, or isn't

pub has_case : (old new : Loose) (f : Forest) (n : ℕ) (c : Case) (js : List Ident) → Some c ≡ case_at n f.cases
    → ((names : ℕ → List ℕ) → js ≡ idents_of (case_entries names c)) → HasAll old new js → HasCase old new f n
has_case old new f n c js at are has =
    record {
      has = λ names s boxed sites. (idents_of (case_entries names c), all_listed names f boxed s sites n c (sym at), subst (HasAll old new) (are names) has);
    }

pub has_no_case : (l : Loose) (f : Forest) (n : ℕ) → None ≡ case_at n f.cases → HasCase l l f n
has_no_case l f n none =
    record {
      has = λ names s boxed sites.
          ([], record { all = λ j x stands is. absurd (none_stands names f boxed s sites n (sym none) j x stands is); of_case = All-nil (λ j. case_number j ≡ n) }, has_none l);
    }
