-- Walks by names are walks by numbers.
use Rattle.std.proofs.Common.{◌≡◌, ℕ, zero, suc, ◌<◌, List, All, sym, refl, subst}
use Rattle.std.proofs.lemmas.List.Elements.{All-contains}
use Rattle.yw_reach.specs.declared.flow.Flow.{Flow}
use Rattle.yw_reach.specs.Flows.{HasFlow, IsWithin}
use Rattle.yw_reach.specs.Renaming.{AreDistinct, HasPair, IsPairing, Renames, named_flows}
use Rattle.yw_reach.specs.Walks.{WalkAlong, PathAlong, CycleAlong, IsBehindAlong}
use Rattle.yw_reach.proofs.FlowLemmas.{has_of_map, map_has}
use Rattle.yw_reach.proofs.Walks.{walk-map, walk_ends}

module _ {A : Type 0} (count : ℕ) (name : ℕ → A) (by_number : ℕ → ℕ → Type 0) (by_name : A → A → Type 0) (r : Renames count name by_number by_name) where
  pub named_walk : (a b n : ℕ) → WalkAlong by_number a b n → WalkAlong by_name (name a) (name b) n
  named_walk a b n w = walk-map by_number by_name name r.named a b n w

  pub numbered_walk : (a b n : ℕ) → a < count → b < count → WalkAlong by_name (name a) (name b) n → WalkAlong by_number a b n
  numbered_walk a b zero la lb w = r.distinct a b la lb w
  numbered_walk a b (suc n) la lb w =
      let s = r.numbered w.0 (name b) w.2 in
      let P : ℕ → Type 0 = λ j. by_number s.0 j in
      (s.0, numbered_walk a s.0 n la s.2 (walk_ends by_name (name a) (name a) w.0 (name s.0) n refl (sym s.4) w.1), subst P (r.distinct s.1 b s.3 lb s.5) s.6)

  pub named_path : (a b : ℕ) → PathAlong by_number a b → PathAlong by_name (name a) (name b)
  named_path a b p = (p.0, named_walk a b p.0 p.1)

  pub numbered_path : (a b : ℕ) → a < count → b < count → PathAlong by_name (name a) (name b) → PathAlong by_number a b
  numbered_path a b la lb p = (p.0, numbered_walk a b p.0 la lb p.1)

  pub named_behind : (a b k : ℕ) → IsBehindAlong by_number a b k → IsBehindAlong by_name (name a) (name b) k
  named_behind a b k h = (h.0, h.1, named_walk a b h.0 h.2)

  pub numbered_behind : (a b k : ℕ) → a < count → b < count → IsBehindAlong by_name (name a) (name b) k → IsBehindAlong by_number a b k
  numbered_behind a b k la lb h = (h.0, h.1, numbered_walk a b h.0 la lb h.2)

  pub named_cycle : CycleAlong by_number → CycleAlong by_name
  named_cycle c = (name c.0, c.1, named_walk c.0 c.0 (suc c.1) c.2)

  pub numbered_cycle : CycleAlong by_name → CycleAlong by_number
  numbered_cycle c =
      let s = r.numbered c.2.0 c.0 c.2.2 in
      (s.1, c.1, numbered_walk s.1 s.1 (suc c.1) s.3 s.3 (walk_ends by_name c.0 (name s.1) c.0 (name s.1) (suc c.1) (sym s.5) (sym s.5) c.2))

-- A list of pairs that are the flows by the names of their ends is such a renaming.
pub pairs_rename : {A P : Type 0} (count : ℕ) (name : ℕ → A) (pair : A → A → P) (pairs : List P) (flows : List Flow) → AreDistinct count name → IsPairing pair → All (IsWithin count) flows → pairs ≡ named_flows name pair flows → Renames count name (HasFlow flows) (HasPair pair pairs)
pairs_rename {A} {P} count name pair pairs flows distinct pairing within is =
    let g : Flow → P = λ f. pair (name f.from) (name f.to) in
    let Q : List P → Type 0 = λ ps. Renames count name (HasFlow flows) (HasPair pair ps) in
    subst Q (sym is) (record {
      distinct = distinct;
      named = λ i j c. map_has g flows (record { from = i; to = j }) c;
      numbered = λ x y c.
          let h = has_of_map g flows (pair x y) c in
          let f : Flow = h.0 in
          let ends : IsWithin count h.0 = All-contains (IsWithin count) flows h.0 within h.1 in
          let same = pairing (name f.from) (name f.to) x y h.2 in
          (f.from, f.to, ends.0, ends.1, same.0, same.1, h.1);
    })
