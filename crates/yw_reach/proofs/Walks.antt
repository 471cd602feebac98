-- Laws of walks: they join, split, turn round and are carried along a map.
use Rattle.std.proofs.Common.{◌≡◌, ℕ, zero, suc, ◌+◌, ◌-◌, refl, sym, ap, subst, arith}
use Rattle.yw_reach.specs.Walks.{WalkAlong, PathAlong, CycleAlong, IsBehindAlong}

-- a walk of another length that is the same number
pub walk-same : {A : Type 0} (leads : A → A → Type 0) (a b : A) (m n : ℕ) → m ≡ n → WalkAlong leads a b m → WalkAlong leads a b n
walk-same {A} leads a b m n e w = let P : ℕ → Type 0 = λ k. WalkAlong leads a b k in subst P e w

-- the ends of a walk may be named otherwise
pub walk_ends : {A : Type 0} (leads : A → A → Type 0) (a a2 b b2 : A) (n : ℕ) → a ≡ a2 → b ≡ b2 → WalkAlong leads a b n → WalkAlong leads a2 b2 n
walk_ends {A} leads a a2 b b2 n e f w =
    let P : A → Type 0 = λ x. WalkAlong leads x b n in
    let Q : A → Type 0 = λ y. WalkAlong leads a2 y n in
    subst Q f (subst P e w)

-- a path from each thing to itself
pub path_refl : {A : Type 0} (leads : A → A → Type 0) (a : A) → PathAlong leads a a
path_refl leads a = (0, refl)

-- one walk behind another
pub walk_join : {A : Type 0} (leads : A → A → Type 0) (a b c : A) (n m : ℕ) → WalkAlong leads a b n → WalkAlong leads b c m → WalkAlong leads a c (n + m)
walk_join {A} leads a b c n zero v w = walk-same leads a c n (n + 0) (omega arith) (let P : A → Type 0 = λ x. WalkAlong leads a x n in subst P w v)
walk_join leads a b c n (suc m) v w = walk-same leads a c (suc (n + m)) (n + suc m) (omega arith) (w.0, walk_join leads a b w.0 n m v w.1, w.2)

pub path_trans : {A : Type 0} (leads : A → A → Type 0) (a b c : A) → PathAlong leads a b → PathAlong leads b c → PathAlong leads a c
path_trans leads a b c p q = (p.0 + q.0, walk_join leads a b c p.0 q.0 p.1 q.1)

-- a walk of n + m steps is one of n steps and one of m behind it
pub walk_split : {A : Type 0} (leads : A → A → Type 0) (a b : A) (n m : ℕ) → WalkAlong leads a b (n + m) → (c : A) × WalkAlong leads a c n × WalkAlong leads c b m
walk_split leads a b n zero w = (b, walk-same leads a b (n + 0) n (omega arith) w, refl)
walk_split leads a b n (suc m) w =
    let v : WalkAlong leads a b (suc (n + m)) = walk-same leads a b (n + suc m) (suc (n + m)) (omega arith) w in
    let s = walk_split leads a v.0 n m v.1 in
    (s.0, s.1, (v.0, s.2, v.2))

-- a step before a walk
pub walk_front : {A : Type 0} (leads : A → A → Type 0) (a b c : A) (n : ℕ) → leads a b → WalkAlong leads b c n → WalkAlong leads a c (suc n)
walk_front {A} leads a b c zero f w = (a, refl, let P : A → Type 0 = λ x. leads a x in subst P w f)
walk_front leads a b c (suc n) f w = (w.0, walk_front leads a b w.0 n f w.1, w.2)

-- a walk of things is one of their images, where a map keeps the steps
pub walk-map : {A B : Type 0} (leads : A → A → Type 0) (leads2 : B → B → Type 0) (f : A → B) → ((x y : A) → leads x y → leads2 (f x) (f y)) → (a b : A) (n : ℕ) → WalkAlong leads a b n → WalkAlong leads2 (f a) (f b) n
walk-map leads leads2 f keeps a b zero w = ap f w
walk-map leads leads2 f keeps a b (suc n) w = (f w.0, walk-map leads leads2 f keeps a w.0 n w.1, keeps w.0 b w.2)

-- a walk of steps is one of other steps, where each is also one of those
pub walk_weaker : {A : Type 0} (leads leads2 : A → A → Type 0) → ((x y : A) → leads x y → leads2 x y) → (a b : A) (n : ℕ) → WalkAlong leads a b n → WalkAlong leads2 a b n
walk_weaker leads leads2 keeps a b n w = walk-map leads leads2 (λ x. x) keeps a b n w

-- a walk from its end to its start, against the steps
pub walk_turned : {A : Type 0} (leads back : A → A → Type 0) → ((x y : A) → leads x y → back y x) → (a b : A) (n : ℕ) → WalkAlong leads a b n → WalkAlong back b a n
walk_turned leads back turns a b zero w = sym w
walk_turned leads back turns a b (suc n) w = walk_front back b w.0 a n (turns w.0 b w.2) (walk_turned leads back turns a w.0 n w.1)

-- to be k steps or more behind something is to be on a path from where k steps lead
pub behind_split : {A : Type 0} (leads : A → A → Type 0) (a b : A) (k : ℕ) → IsBehindAlong leads a b k → (c : A) × WalkAlong leads a c k × PathAlong leads c b
behind_split leads a b k h =
    let s = walk_split leads a b k (h.0 - k) (walk-same leads a b h.0 (k + (h.0 - k)) (omega (arith, h.1)) h.2) in
    (s.0, s.1, (h.0 - k, s.2))

pub behind_join : {A : Type 0} (leads : A → A → Type 0) (a c b : A) (k : ℕ) → WalkAlong leads a c k → PathAlong leads c b → IsBehindAlong leads a b k
behind_join leads a c b k w p = (k + p.0, omega arith, walk_join leads a c b k p.0 w p.1)

-- a path back closes a step to a cycle
pub cycle_closes : {A : Type 0} (leads : A → A → Type 0) (a b : A) → leads a b → PathAlong leads b a → CycleAlong leads
cycle_closes leads a b f p = (a, p.0, walk_front leads a b a p.0 f p.1)

-- on a cycle are walks as long as one likes
pub cycle_long : {A : Type 0} (leads : A → A → Type 0) (a : A) (n : ℕ) → WalkAlong leads a a (suc n) → (k : ℕ) → IsBehindAlong leads a a k
cycle_long leads a n w zero = (0, omega arith, refl)
cycle_long leads a n w (suc k) =
    let h = cycle_long leads a n w k in
    (h.0 + suc n, omega (arith, h.1), walk_join leads a a a h.0 (suc n) h.2 w)
