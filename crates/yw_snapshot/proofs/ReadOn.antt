-- From a state records are read on, and end where no further one has a meaning. There is one way to do so, whatever they mean.
use Rattle.std.proofs.Common.{◌≡◌, ◌≢◌, ◌⊎◌, ℕ, List, [], ◌∷◌, ◌++◌, inl, inr, refl, sym, ap, ◌∙◌, subst, append_assoc}
use Rattle.yw_journal.specs.Files.{Meaning, LeadsTo}
use Rattle.yw_journal.specs.Records.{IsFrame, IsNoRecord, AreOpen}
use Rattle.yw_journal.proofs.Contents.{same_frame}
use Rattle.yw_snapshot.specs.Pair.{IsOneMeaning}

-- In this state no record at the front of these bytes has a meaning.
abbrev pub StopsAt : {S : Type 0} → Meaning S → S → List ℕ → Type 0
StopsAt {S} m s tail = (frame behind bytes : List ℕ) → tail ≡ 1 ∷ (frame ++ behind) → IsFrame frame bytes → (t : S) → m.After s bytes t → ⊥

abbrev pub IsClosed : List ℕ → Type 0
IsClosed tail = (gate : ℕ) × (after : List ℕ) × (tail ≡ gate ∷ after) × (gate ≢ 1)

abbrev pub IsCut : List ℕ → Type 0
IsCut tail = (tail ≡ []) ⊎ ((after : List ℕ) × (tail ≡ 1 ∷ after) × IsNoRecord tail)

other_gate : (gate : ℕ) (xs ys : List ℕ) → gate ≢ 1 → gate ∷ xs ≡ 1 ∷ ys → ⊥
other_gate gate xs ys closed e = closed (cc)

no_gate : (ys : List ℕ) → [] ≡ 1 ∷ ys → ⊥
no_gate ys e = cc

same_behind : (xs ys : List ℕ) → 1 ∷ xs ≡ 1 ∷ ys → xs ≡ ys
same_behind xs ys e = cc

one_gate : (gate : ℕ) (xs tail ys : List ℕ) → tail ≡ gate ∷ xs → gate ≢ 1 → tail ≡ 1 ∷ ys → ⊥
one_gate gate xs tail ys e closed f = other_gate gate xs ys closed (sym e ∙ f)

some_gate : (gate : ℕ) (xs tail : List ℕ) → tail ≡ gate ∷ xs → tail ≡ [] → ⊥
some_gate gate xs tail e f = cc

pub cut_not_closed : (tail : List ℕ) → IsCut tail → IsClosed tail → ⊥
cut_not_closed tail (inl none) closed = some_gate closed.0 closed.1 tail closed.2 none
cut_not_closed tail (inr cut) closed = one_gate closed.0 closed.1 tail cut.0 closed.2 closed.3 cut.1

pub open_not_closed : (tail ys : List ℕ) → tail ≡ 1 ∷ ys → IsClosed tail → ⊥
open_not_closed tail ys e closed = one_gate closed.0 closed.1 tail ys closed.2 closed.3 e

-- From a state records are read on.
pub record Reads {S : Type 0} (m : Meaning S) (s : S) (bytes : List ℕ) : Type 0 where
  pub records : List (List ℕ)
  pub opened : List ℕ
  pub tail : List ℕ
  pub split : bytes ≡ opened ++ tail
  pub are_open : AreOpen opened records
  pub end : S
  pub meant : LeadsTo m s records end
  pub stops : StopsAt m end tail

pub record SameReads {S : Type 0} (xs ys : List (List ℕ)) (t u : S) (p q : List ℕ) : Type 0 where
  pub records : xs ≡ ys
  pub end : t ≡ u
  pub tail : p ≡ q

module _ {S : Type 0} (m : Meaning S) where
  pub closed_stops : (s : S) (tail : List ℕ) → IsClosed tail → StopsAt m s tail
  closed_stops s tail closed frame behind bytes e is t leads = absurd (other_gate closed.0 closed.1 (frame ++ behind) closed.3 (sym closed.2 ∙ e))

  pub cut_stops : (s : S) (tail : List ℕ) → IsCut tail → StopsAt m s tail
  cut_stops s tail (inl none) frame behind bytes e is t leads = absurd (no_gate (frame ++ behind) (sym none ∙ e))
  cut_stops s tail (inr cut) frame behind bytes e is t leads = absurd (cut.2 frame behind bytes e is)

  pub none_stops : (s : S) (tail frame behind bytes : List ℕ) → tail ≡ 1 ∷ (frame ++ behind) → IsFrame frame bytes → ((t : S) → m.After s bytes t → ⊥) → StopsAt m s tail
  none_stops s tail frame behind bytes e is none g y q f is_q t leads =
      let same = same_frame frame g bytes q behind y is is_q (same_behind (frame ++ behind) (g ++ y) (sym e ∙ f)) in
      none t (subst (λ (l : List ℕ). m.After s l t) (sym same.0) leads)

  module _ (one : IsOneMeaning m) where
    reads_one : (s t u : S) (xs ys : List (List ℕ)) (a b p q : List ℕ) → a ++ p ≡ b ++ q → AreOpen a xs → AreOpen b ys → LeadsTo m s xs t → LeadsTo m s ys u
        → StopsAt m t p → StopsAt m u q → SameReads xs ys t u p q
    reads_one s t u [] [] a b p q e are bare l n stop halt = record {
      records = refl;
      end = l ∙ sym n;
      tail = sym (ap (λ (l : List ℕ). l ++ p) are) ∙ e ∙ ap (λ (l : List ℕ). l ++ q) bare;
    }
    reads_one s t u [] (y ∷ ys) a b p q e are bare l n stop halt =
        let here : p ≡ 1 ∷ (bare.0 ++ (bare.1 ++ q)) =
        sym (ap (λ (l : List ℕ). l ++ p) are) ∙ e ∙ ap (λ (l : List ℕ). l ++ q) bare.2 ∙ ap (λ (l : List ℕ). 1 ∷ l) (append_assoc bare.0 bare.1 q) in
        absurd (stop bare.0 (bare.1 ++ q) y here bare.3 n.0 (subst (λ (v : S). m.After v y n.0) (sym l) n.1))
    reads_one s t u (x ∷ xs) [] a b p q e are bare l n stop halt =
        let here : q ≡ 1 ∷ (are.0 ++ (are.1 ++ p)) =
        sym (ap (λ (l : List ℕ). l ++ q) bare) ∙ sym e ∙ ap (λ (l : List ℕ). l ++ p) are.2 ∙ ap (λ (l : List ℕ). 1 ∷ l) (append_assoc are.0 are.1 p) in
        absurd (halt are.0 (are.1 ++ p) x here are.3 l.0 (subst (λ (v : S). m.After v x l.0) (sym n) l.1))
    reads_one s t u (x ∷ xs) (y ∷ ys) a b p q e are bare l n stop halt =
        let whole : are.0 ++ (are.1 ++ p) ≡ bare.0 ++ (bare.1 ++ q) =
        same_behind (are.0 ++ (are.1 ++ p)) (bare.0 ++ (bare.1 ++ q))
        (ap (λ (l : List ℕ). 1 ∷ l) (sym (append_assoc are.0 are.1 p)) ∙ sym (ap (λ (l : List ℕ). l ++ p) are.2) ∙ e ∙ ap (λ (l : List ℕ). l ++ q) bare.2 ∙ ap (λ (l : List ℕ). 1 ∷ l) (append_assoc bare.0 bare.1 q)) in
        let same = same_frame are.0 bare.0 x y (are.1 ++ p) (bare.1 ++ q) are.3 bare.3 whole in
        let mid : n.0 ≡ l.0 = one.after s x n.0 l.0 (subst (λ (k : List ℕ). m.After s k n.0) (sym same.0) n.1) l.1 in
        let r = reads_one l.0 t u xs ys are.1 bare.1 p q same.2 are.4 bare.4 l.2 (subst (λ (v : S). LeadsTo m v ys u) mid n.2) stop halt in
        record { records = ap (λ (l : List ℕ). l ∷ xs) same.0 ∙ ap (λ (l : List (List ℕ)). y ∷ l) r.records; end = r.end; tail = r.tail }

    pub both_reads : (s : S) (bytes : List ℕ) (a b : Reads m s bytes) → SameReads a.records b.records a.end b.end a.tail b.tail
    both_reads s bytes a b = reads_one s a.end b.end a.records b.records a.opened b.opened a.tail b.tail (sym a.split ∙ b.split) a.are_open b.are_open a.meant b.meant a.stops b.stops
