-- From marks to paths, and from levels to levels.
use Rattle.std.proofs.Common.{◌≡◌, ℕ, suc, ◌+◌, ◌<◌, inl, inr, List, [], ◌∷◌, ◌++◌, length, set, map, replicate, Bool, true, false, Option, Some, None, refl, sym, ap, ◌∙◌, subst, arith}
use Rattle.std.proofs.lemmas.List.{length-set, length-replicate}
use Rattle.std.proofs.lemmas.List.Elements.{Contains-append_left, Contains-push, Contains-push_cases}
use Rattle.yw_reach.specs.declared.flow.Flow.{Flow}
use Rattle.yw_reach.specs.Flows.{HasFlow, IsBehind, IsFirstOffPath, Path, Walk, turned}
use Rattle.yw_reach.specs.Marking.{AreMarked, IsFirstLacking, Marked}
use Rattle.yw_reach.proofs.FlowLemmas.{has_none, turned_from, turned_to}
use Rattle.yw_reach.proofs.MarkLemmas.{mark_keeps, mark_only, mark_there, marked-same, no_mark}
use Rattle.yw_reach.proofs.Walks.{behind_join, behind_split, walk-same, walk_turned}

-- what is reached from one node
pub from_one : (count from : ℕ) (flows : List Flow) (starts marks : List Bool) → AreMarked count (λ k. from ≡ k) starts → AreMarked count (λ b. (a : ℕ) × Marked starts a × Path flows a b) marks → AreMarked count (λ k. Path flows from k) marks
from_one count from flows starts marks one h = marked-same count (λ b. (a : ℕ) × Marked starts a × Path flows a b) (λ k. Path flows from k) marks
    (λ k p. let P : ℕ → Type 0 = λ j. Path flows j k in subst P (sym (one.only p.0 p.1)) p.2)
    (λ k p. (from, one.all from refl, p))
    h

-- what is reached along turned flows
pub from_turned : (count to : ℕ) (flows : List Flow) (marks : List Bool) → AreMarked count (λ k. Path (map turned flows) to k) marks → AreMarked count (λ k. Path flows k to) marks
from_turned count to flows marks h = marked-same count (λ k. Path (map turned flows) to k) (λ k. Path flows k to) marks
    (λ k p. (p.0, walk_turned (HasFlow (map turned flows)) (HasFlow flows) (turned_from flows) to k p.0 p.1))
    (λ k p. (p.0, walk_turned (HasFlow flows) (HasFlow (map turned flows)) (turned_to flows) k to p.0 p.1))
    h

-- the first node without both marks is the first off the paths
pub first_off : (count : ℕ) (flows : List Flow) (input output : ℕ) (behind before : List Bool) (result : Option ℕ) → AreMarked count (λ k. Path flows input k) behind → AreMarked count (λ k. Path flows k output) before → IsFirstLacking (length behind) behind before result → IsFirstOffPath count flows input output result
first_off count flows input output behind before None m n h = λ k lt. let b = h k (omega (arith, lt, m.len)) in (m.only k b.0, n.only k b.1)
first_off count flows input output behind before (Some x) m n h =
    (omega (arith, h.0, m.len), (λ k lt. let b = h.1 k lt in (m.only k b.0, n.only k b.1)), (λ p. h.2 (m.all x p.0, n.all x p.1)))

-- what is reached from a level is as many flows behind, or more
pub from_level : (count from steps : ℕ) (flows : List Flow) (level marks : List Bool) → AreMarked count (λ k. Walk flows from k steps) level → AreMarked count (λ b. (a : ℕ) × Marked level a × Path flows a b) marks → AreMarked count (λ k. IsBehind flows from k steps) marks
from_level count from steps flows level marks l h = marked-same count (λ b. (a : ℕ) × Marked level a × Path flows a b) (λ k. IsBehind flows from k steps) marks
    (λ k p. behind_join (HasFlow flows) from p.0 k steps (l.only p.0 p.1) p.2)
    (λ k b. let s = behind_split (HasFlow flows) from k steps b in (s.0, l.all s.0 s.1, s.2))
    h

-- the level of one flow more
pub level_more : (count from steps : ℕ) (flows : List Flow) (level next : List Bool) → AreMarked count (λ k. Walk flows from k steps) level → AreMarked count (λ b. (a : ℕ) × Marked level a × HasFlow flows a b) next → AreMarked count (λ k. Walk flows from k (steps + 1)) next
level_more count from steps flows level next l h = marked-same count (λ b. (a : ℕ) × Marked level a × HasFlow flows a b) (λ k. Walk flows from k (steps + 1)) next
    (λ k p. walk-same (HasFlow flows) from k (suc steps) (steps + 1) (omega arith) (p.0, l.only p.0 p.1, p.2))
    (λ k w. let v : Walk flows from k (suc steps) = walk-same (HasFlow flows) from k (steps + 1) (suc steps) (omega arith) w in (v.0, l.all v.0 v.1, v.2))
    h

-- the nodes to which some of the flows lead from a level: none, and one flow more
pub next_none : (count : ℕ) (level next : List Bool) → next ≡ replicate count false → AreMarked count (λ b. (a : ℕ) × Marked level a × HasFlow [] a b) next
next_none count level next e = record {
  len = ap length e ∙ length-replicate count false;
  only = λ k m. absurd (no_mark count k (let P : List Bool → Type 0 = λ ms. Marked ms k in subst P e m));
  all = λ k p. absurd (has_none _ p.2);
}

module _ (count : ℕ) (fs : List Flow) (f : Flow) (level next : List Bool) (lt : f.to < count) (h : AreMarked count (λ b. (a : ℕ) × Marked level a × HasFlow fs a b) next) where
  abbrev Next : ℕ → Type 0
  Next b = (a : ℕ) × Marked level a × HasFlow (fs ++ f ∷ []) a b

  old_flow : (b : ℕ) → (a : ℕ) × Marked level a × HasFlow fs a b → Next b
  old_flow b p = (p.0, p.1, Contains-append_left fs (f ∷ []) _ p.2)

  pub next_marked : Marked level f.from → AreMarked count (λ b. (a : ℕ) × Marked level a × HasFlow (fs ++ f ∷ []) a b) (set next f.to true)
  next_marked m =
      let within : f.to < length next = omega (arith, lt, h.len) in
      record {
        len = length-set next f.to true ∙ h.len;
        only = λ b k. elim (mark_only next f.to within b k) [
          | inl old ↦ old_flow b (h.only b old)
          | inr e ↦ (let P : ℕ → Type 0 = λ j. Next j in subst P e (f.from, m, Contains-push fs f))
        ];
        all = λ b p. elim (Contains-push_cases fs f _ p.2) [
          | inl old ↦ mark_keeps next f.to within b (h.all b (p.0, p.1, old))
          | inr e ↦ (let P : ℕ → Type 0 = λ j. Marked (set next f.to true) j in subst P (ap (λ (g : Flow). g.to) e) (mark_there next f.to within))
        ];
      }

  pub next_unmarked : (Marked level f.from → ⊥) → AreMarked count (λ b. (a : ℕ) × Marked level a × HasFlow (fs ++ f ∷ []) a b) next
  next_unmarked no_mark = record {
    len = h.len;
    only = λ b k. old_flow b (h.only b k);
    all = λ b p. elim (Contains-push_cases fs f _ p.2) [
      | inl old ↦ h.all b (p.0, p.1, old)
      | inr e ↦ absurd (no_mark (let P : ℕ → Type 0 = λ j. Marked level j in subst P (sym (ap (λ (g : Flow). g.from) e)) p.1))
    ];
  }
