-- What is rested: where nothing is known, where nothing is loose, and once something is taken away.
use Rattle.std.specs.BTreeSet.{BTreeSet, Updates, contains}
use Rattle.std.specs.BTreeMap.{is_at}
use Rattle.std.specs.List.{list_any}
use Rattle.std.specs.Prelude.{◌≡◌, ℕ, [], false, true}
use Rattle.std.proofs.Common.{ap, subst, sym, ◌∙◌}
use Rattle.std.proofs.lemmas.Slice.Eq.{bytes_eq-Decides}
use Rattle.yw_loose.proofs.Sets.{taken}
use Rattle.yw_loose.specs.Counts.{AreRight}
use Rattle.yw_loose.specs.Loose.{Forgets, IsRested, IsSame, is_known}
use Rattle.yw_loose.specs.declared.counts.Counts.{Counts}
use Rattle.yw_loose.specs.declared.loose.Loose.{Loose}
use Rattle.yw_state.proofs.Tests.{by_test, never}
use Rattle.yw_state.specs.Automatic.{IsQuiet}
use Rattle.yw_state.specs.Identity.{Ident, same}
use Rattle.yw_base.specs.Identity.{case_number}
use Rattle.yw_state.specs.Map.{lexical}
use Rattle.yw_state.specs.State.{State}
use Rattle.yw_state.specs.Words.{urgent}
use Rattle.yw_walk.proofs.Calm.{rests_quiet}
use Rattle.yw_walk.specs.Finds.{Rests}

pub none_loose : (l : Loose) → l.idents.keys ≡ [] → (n : ℕ) → is_known l n ≡ true → (s : State) → IsRested s l → urgent s n ≡ false → IsQuiet s n
none_loose l none n known s rested calm =
    rests_quiet s n calm (λ j x stands is. rested.rests j x stands (ap (is_known l) is ∙ known) (ap (list_any (is_at (lexical j))) none))

pub same_rested : (old new : Loose) → IsSame old new → (s : State) → IsRested s old → IsRested s new
same_rested old new same s rested =
    record {
      rests = λ j x stands known loose. rested.rests j x stands (sym (same.known (case_number j)) ∙ known) (sym (same.loose j) ∙ loose);
      counted = subst (AreRight s) (sym same.counts) rested.counted;
    }

-- an identity that rests is loose no longer
pub popped : (l : Loose) (ids : BTreeSet Ident) (id : Ident) → Updates lexical l.idents ids id false → (s : State) → Rests s id → IsRested s l
    → IsRested s (record l { idents = ids })
popped l ids id updates s rests rested =
    record {
      rests = λ j x stands known loose.
          by_test (same j id)
          (λ t. subst (Rests s) (sym ((bytes_eq-Decides j id).0 t)) rests)
          (λ f. rested.rests j x stands known (sym (taken l ids id updates j f) ∙ loose));
      counted = rested.counted;
    }

-- nor is one of another case, of which nothing is known any more
pub passed_over : (old mid : Loose) (ids : BTreeSet Ident) (id : Ident) → Forgets old mid (case_number id) → Updates lexical mid.idents ids id false
    → (s : State) → IsRested s old → IsRested s (record mid { idents = ids })
passed_over old mid ids id forgets updates s rested =
    record {
      rests = λ j x stands known loose.
          by_test (same j id)
          (λ t. never (sym (ap (λ (i : Ident). is_known mid (case_number i)) ((bytes_eq-Decides j id).0 t) ∙ forgets.gone) ∙ known))
          (λ f. rested.rests j x stands (forgets.known (case_number j) known) (sym (ap (λ is. contains lexical is j) forgets.idents) ∙ sym (taken mid ids id updates j f) ∙ loose));
      counted = subst (AreRight s) (sym forgets.counts) rested.counted;
    }

-- other counts that are right
pub recounted : (l : Loose) (c : Counts) (s : State) → AreRight s c → IsRested s l → IsRested s (record l { counts = c })
recounted l c s right rested = record { rests = rested.rests; counted = right }
