-- A state that is held and a damage exclude each other, and both are the only ones.
use Rattle.std.proofs.Common.{◌≡◌, ◌≢◌, ◌⊎◌, ◌&&◌, ◌==◌, ℕ, ◌+◌, List, [], ◌∷◌, ◌++◌, length, take, drop, not, if◌then◌else◌, Bool, true, false, Option, None, Some, Result, Ok, Err, IfOk, inl, inr, ⊎_elim, refl, sym, ap, ◌∙◌, subst, arith, append_assoc, length-append, length-take}
use Rattle.std.proofs.lemmas.List.{drop_at}
use Rattle.yw_outside.specs.declared.desk.File.{File}
use Rattle.yw_outside.specs.declared.desk.File.TheVariants.{A, B}
use Rattle.yw_outside.specs.declared.image.Image.{Image}
use Rattle.yw_journal.specs.Files.{Content, Meaning, HasContent, HoldState, NoneIsLive, Holds, FileHas, IsCut, HasNoMeaning, LeadsTo, Reaches, head_of, header_damage, is_live, snapshot_of, snapshot_size_of}
use Rattle.yw_journal.specs.Files as files
use Rattle.yw_journal.specs.FileLaws.{content_live, content_sound, head_size, size_reads}
use Rattle.yw_journal.specs.Records.{IsFrame, AreOpen}
use Rattle.yw_journal.proofs.Contents.{same_frame}
use Rattle.yw_state.specs.State.{State, opening}
use Rattle.yw_serve.specs.Damage.{EntryLeads, HoldNow, IsDamagedNow, IsDamagedWithin, damage_or, heads_damage, later_damage, meaning}
use Rattle.yw_serve.specs.Opening.{AnswersDamage, AnswersState, IsClosedHere, IsCutHere, IsOpened}
use Rattle.yw_serve.specs.declared.opening.StartFault.{StartFault}
use Rattle.yw_serve.specs.declared.opening.StartFault.TheVariants.{Damaged}
use Rattle.yw_serve.specs.Session.{server_state}
use Rattle.yw_serve.specs.declared.server.Server.{Server}
use Rattle.yw_serve.proofs.OpenEntries.{leads_once}
use Rattle.yw_serve.proofs.OpenHeads.{heads_alone, heads_sound, live_long, not_live}

-- In this state no record at the front of these bytes has a meaning.
abbrev StopsAt : State → List ℕ → Type 0
StopsAt s tail = (frame behind bytes : List ℕ) → tail ≡ 1 ∷ (frame ++ behind) → IsFrame frame bytes → (t : State) → EntryLeads s bytes t → ⊥

other_gate : (gate : ℕ) (xs ys : List ℕ) → gate ≢ 1 → gate ∷ xs ≡ 1 ∷ ys → ⊥
other_gate gate xs ys closed e = closed (cc)

no_gate : (ys : List ℕ) → [] ≡ 1 ∷ ys → ⊥
no_gate ys e = cc

same_behind : (xs ys : List ℕ) → 1 ∷ xs ≡ 1 ∷ ys → xs ≡ ys
same_behind xs ys e = cc

closed_stops : (s : State) (tail : List ℕ) → IsClosedHere tail → StopsAt s tail
closed_stops s tail closed frame behind bytes e is t leads = absurd (other_gate closed.0 closed.1 (frame ++ behind) closed.3 (sym closed.2 ∙ e))

cut_stops : (s : State) (tail : List ℕ) → IsCutHere tail → StopsAt s tail
cut_stops s tail (inl none) frame behind bytes e is t leads = absurd (no_gate (frame ++ behind) (sym none ∙ e))
cut_stops s tail (inr cut) frame behind bytes e is t leads = absurd (cut.2 frame behind bytes e is)

none_stops : (s : State) (tail frame behind bytes : List ℕ) → tail ≡ 1 ∷ (frame ++ behind) → IsFrame frame bytes → ((t : State) → EntryLeads s bytes t → ⊥) → StopsAt s tail
none_stops s tail frame behind bytes e is none g y q f is_q t leads =
    let same = same_frame frame g bytes q behind y is is_q (same_behind (frame ++ behind) (g ++ y) (sym e ∙ f)) in
    none t (subst (λ (l : List ℕ). EntryLeads s l t) (sym same.0) leads)

-- From a state records are read on, and end where no further one has a meaning.
record Reads (s : State) (bytes : List ℕ) : Type 0 where
  records : List (List ℕ)
  opened : List ℕ
  tail : List ℕ
  split : bytes ≡ opened ++ tail
  are_open : AreOpen opened records
  end : State
  meant : LeadsTo meaning s records end
  stops : StopsAt end tail

record SameReads (xs ys : List (List ℕ)) (t u : State) (p q : List ℕ) : Type 0 where
  records : xs ≡ ys
  end : t ≡ u
  tail : p ≡ q

-- there is one way to do so
reads_one : (s t u : State) (xs ys : List (List ℕ)) (a b p q : List ℕ) → a ++ p ≡ b ++ q → AreOpen a xs → AreOpen b ys → LeadsTo meaning s xs t → LeadsTo meaning s ys u
    → StopsAt t p → StopsAt u q → SameReads xs ys t u p q
reads_one s t u [] [] a b p q e are bare m n stop halt = record {
  records = refl;
  end = m ∙ sym n;
  tail = sym (ap (λ (l : List ℕ). l ++ p) are) ∙ e ∙ ap (λ (l : List ℕ). l ++ q) bare;
}
reads_one s t u [] (y ∷ ys) a b p q e are bare m n stop halt =
    let here : p ≡ 1 ∷ (bare.0 ++ (bare.1 ++ q)) =
    sym (ap (λ (l : List ℕ). l ++ p) are) ∙ e ∙ ap (λ (l : List ℕ). l ++ q) bare.2 ∙ ap (λ (l : List ℕ). 1 ∷ l) (append_assoc bare.0 bare.1 q) in
    absurd (stop bare.0 (bare.1 ++ q) y here bare.3 n.0 (subst (λ (v : State). EntryLeads v y n.0) (sym m) n.1))
reads_one s t u (x ∷ xs) [] a b p q e are bare m n stop halt =
    let here : q ≡ 1 ∷ (are.0 ++ (are.1 ++ p)) =
    sym (ap (λ (l : List ℕ). l ++ q) bare) ∙ sym e ∙ ap (λ (l : List ℕ). l ++ p) are.2 ∙ ap (λ (l : List ℕ). 1 ∷ l) (append_assoc are.0 are.1 p) in
    absurd (halt are.0 (are.1 ++ p) x here are.3 m.0 (subst (λ (v : State). EntryLeads v x m.0) (sym n) m.1))
reads_one s t u (x ∷ xs) (y ∷ ys) a b p q e are bare m n stop halt =
    let whole : are.0 ++ (are.1 ++ p) ≡ bare.0 ++ (bare.1 ++ q) =
    same_behind (are.0 ++ (are.1 ++ p)) (bare.0 ++ (bare.1 ++ q))
    (ap (λ (l : List ℕ). 1 ∷ l) (sym (append_assoc are.0 are.1 p)) ∙ sym (ap (λ (l : List ℕ). l ++ p) are.2) ∙ e ∙ ap (λ (l : List ℕ). l ++ q) bare.2 ∙ ap (λ (l : List ℕ). 1 ∷ l) (append_assoc bare.0 bare.1 q)) in
    let same = same_frame are.0 bare.0 x y (are.1 ++ p) (bare.1 ++ q) are.3 bare.3 whole in
    let mid : n.0 ≡ m.0 = leads_once s x n.0 m.0 (subst (λ (l : List ℕ). EntryLeads s l n.0) (sym same.0) n.1) m.1 in
    let r = reads_one m.0 t u xs ys are.1 bare.1 p q same.2 are.4 bare.4 m.2 (subst (λ (v : State). LeadsTo meaning v ys u) mid n.2) stop halt in
    record { records = ap (λ (l : List ℕ). l ∷ xs) same.0 ∙ ap (λ (l : List (List ℕ)). y ∷ l) r.records; end = r.end; tail = r.tail }

-- What a held state and a damage say of what stands behind the header of file A.

behind_header : (file head opened rest : List ℕ) → length head ≡ 29 → file ≡ (head ++ opened) ++ rest → drop 29 file ≡ opened ++ rest
behind_header file head opened rest size split = ap (drop 29) (split ∙ append_assoc head opened rest) ∙ drop_at head (opened ++ rest) 29 size

pub no_snapshot : (snapshot : List ℕ) (records : List (List ℕ)) (s : State) → Reaches meaning snapshot records s → snapshot ≡ []
no_snapshot [] records s r = refl
no_snapshot (b ∷ bs) records s r = absurd r.1

-- without a snapshot they lead from the opening state
pub from_opening : (snapshot : List ℕ) (records : List (List ℕ)) (s : State) → snapshot ≡ [] → Reaches meaning snapshot records s → LeadsTo meaning opening records s
from_opening [] records s e r = subst (λ (v : State). LeadsTo meaning v records s) r.1 r.2
from_opening (b ∷ bs) records s e r = absurd r.1

record HeldReads (i : Image) (records : List (List ℕ)) (s : State) : Type 0 where
  reads : Reads opening (drop 29 i.a)
  records_are : reads.records ≡ records
  end_is : reads.end ≡ s
  closed : IsClosedHere reads.tail
  live : is_live i.a ≡ true
  sound : header_damage i.a ≡ None
  empty : snapshot_size_of i.a ≡ 0

false_true : false ≡ true → ⊥
false_true e = cc

-- file A is the live one, or none is
held_in_a : (i : Image) (c : Content) (s : State) → HoldNow c s i → ((is_live i.a ≡ false) × (s ≡ opening)) ⊎ HeldReads i c.records s
held_in_a i c s h = by_content h.hold.content
  where
    opening_state : c ≡ files.opening → s ≡ opening
    opening_state e = from_opening [] [] s refl (subst (λ (d : Content). Reaches meaning d.snapshot d.records s) e h.hold.state)

    in_a : (end : ℕ) → Holds A c end i → HeldReads i c.records s
    in_a end holds =
        let head = holds.file.0 in
        let at = holds.file.2 in
        let none : c.snapshot ≡ [] = no_snapshot c.snapshot c.records s h.hold.state in
        let split = at.split ∙ append_assoc head at.opened (at.gate ∷ at.behind) in
        let size : length head ≡ 29 = head_size c.generation c.count c.snapshot head holds.file.1 i.a (at.opened ++ at.gate ∷ at.behind) split ∙ ap (λ (l : List ℕ). 29 + length l) none in
        let closed : IsClosedHere (at.gate ∷ at.behind) = (at.gate, at.behind, refl, at.closed) in
        record {
          reads = record {
            records = c.records;
            opened = at.opened;
            tail = at.gate ∷ at.behind;
            split = behind_header i.a head at.opened (at.gate ∷ at.behind) size at.split;
            are_open = at.are_open;
            end = s;
            meant = from_opening c.snapshot c.records s none h.hold.state;
            stops = closed_stops s (at.gate ∷ at.behind) closed;
          };
          records_are = refl;
          end_is = refl;
          closed = closed;
          live = content_live i.a c end holds.file;
          sound = content_sound i.a c end holds.file;
          empty = size_reads c.generation c.count c.snapshot head holds.file.1 i.a (at.opened ++ at.gate ∷ at.behind) split ∙ ap length none;
        }

    by_file : (f : File) (end : ℕ) → Holds f c end i → ((is_live i.a ≡ false) × (s ≡ opening)) ⊎ HeldReads i c.records s
    by_file A end holds = inr (in_a end holds)
    by_file B end holds = absurd (false_true (sym h.alone ∙ content_live i.b c end holds.file))

    by_content : HasContent c i → ((is_live i.a ≡ false) × (s ≡ opening)) ⊎ HeldReads i c.records s
    by_content (inl none) = inl (none.0.a, opening_state none.1)
    by_content (inr held) = by_file held.0 held.1 held.2

record DamageReads (i : Image) (place : ℕ) : Type 0 where
  reads : Reads opening (drop 29 i.a)
  not_closed : IsClosedHere reads.tail → ⊥
  place_is : 29 + length reads.opened ≡ place

one_gate : (gate : ℕ) (xs tail ys : List ℕ) → tail ≡ gate ∷ xs → gate ≢ 1 → tail ≡ 1 ∷ ys → ⊥
one_gate gate xs tail ys e closed f = other_gate gate xs ys closed (sym e ∙ f)

some_gate : (gate : ℕ) (xs tail : List ℕ) → tail ≡ gate ∷ xs → tail ≡ [] → ⊥
some_gate gate xs tail e f = cc

cut_not_closed : (tail : List ℕ) → IsCutHere tail → IsClosedHere tail → ⊥
cut_not_closed tail (inl none) closed = some_gate closed.0 closed.1 tail closed.2 none
cut_not_closed tail (inr cut) closed = one_gate closed.0 closed.1 tail cut.0 closed.2 closed.3 cut.1

module _ (i : Image) (place : ℕ) (live : is_live i.a ≡ true) (empty : snapshot_size_of i.a ≡ 0) where
  head : head_of i.a ≡ take 29 i.a
  head = ap (λ (n : ℕ). take (29 + n) i.a) empty

  head_long : length (head_of i.a) ≡ 29
  head_long = ap length head ∙ omega (arith, live_long i.a live, length-take 29 i.a)

  meant_from : (records : List (List ℕ)) (s : State) → Reaches meaning (snapshot_of i.a) records s → LeadsTo meaning opening records s
  meant_from records s r = from_opening (snapshot_of i.a) records s (ap (λ (n : ℕ). take n (drop 29 i.a)) empty) r

  placed : (opened : List ℕ) → length (head_of i.a ++ opened) ≡ place → 29 + length opened ≡ place
  placed opened e = omega (arith, e, length-append (head_of i.a) opened, head_long)

  damage_reads : IsCut meaning i.a place ⊎ HasNoMeaning meaning i.a place → DamageReads i place
  damage_reads (inl d) = record {
    reads = record {
      records = d.records;
      opened = d.cut.opened;
      tail = d.cut.rest;
      split = behind_header i.a (head_of i.a) d.cut.opened d.cut.rest head_long d.cut.split;
      are_open = d.cut.are_open;
      end = d.state;
      meant = meant_from d.records d.state d.meant;
      stops = cut_stops d.state d.cut.rest d.cut.cut;
    };
    not_closed = cut_not_closed d.cut.rest d.cut.cut;
    place_is = placed d.cut.opened d.cut.at;
  }
  damage_reads (inr d) =
      let tail = 1 ∷ (d.frame ++ d.behind) in
      record {
        reads = record {
          records = d.records;
          opened = d.opened;
          tail = tail;
          split = behind_header i.a (head_of i.a) d.opened tail head_long (d.split ∙ append_assoc (head_of i.a ++ d.opened) (1 ∷ d.frame) d.behind);
          are_open = d.are_open;
          end = d.state;
          meant = meant_from d.records d.state d.meant;
          stops = none_stops d.state tail d.frame d.behind d.bytes refl d.is_frame d.none;
        };
        not_closed = λ closed. one_gate closed.0 closed.1 tail (d.frame ++ d.behind) closed.2 closed.3 refl;
        place_is = placed d.opened d.at;
      }

within_reads : (i : Image) (f : File) (place : ℕ) → is_live i.b ≡ false → IsDamagedWithin i f place → DamageReads i place
within_reads i f place alone d = let t = heads_sound i d.live alone d.sound in damage_reads i place d.live t.1 d.here

both_reads : (s : State) (bytes : List ℕ) (a b : Reads s bytes) → SameReads a.records b.records a.end b.end a.tail b.tail
both_reads s bytes a b = reads_one s a.end b.end a.records b.records a.opened b.opened a.tail b.tail (sym a.split ∙ b.split) a.are_open b.are_open a.meant b.meant a.stops b.stops

-- where a state is held, the headers show no damage
no_heads : (i : Image) (live empty : Bool) → is_live i.b ≡ false → (live && not empty) ≡ false → header_damage i.a ≡ None → is_live i.a ≡ live → (snapshot_size_of i.a == 0) ≡ empty → heads_damage i ≡ None
no_heads i live empty alone none sound is_live_a size =
    ap (λ (d : Option ℕ). damage_or d (later_damage i)) sound
    ∙ ap (λ (p : Bool). if p then Some (B, 0) else if is_live i.a && not (snapshot_size_of i.a == 0) then Some (A, 21) else None) alone
    ∙ ap (λ (p : Bool). if p && not (snapshot_size_of i.a == 0) then Some (A, 21) else None) is_live_a
    ∙ ap (λ (p : Bool). if live && not p then Some (A, 21) else None) size
    ∙ ap (λ (p : Bool). if p then Some (A, 21) else None) none

held_heads : (i : Image) (c : Content) (s : State) → HoldNow c s i → heads_damage i ≡ None
held_heads i c s h =
    ⊎_elim
    (λ (none : (is_live i.a ≡ false) × (s ≡ opening)). no_heads i false (snapshot_size_of i.a == 0) h.alone refl (not_live i.a none.0) none.0 refl)
    (λ (r : HeldReads i c.records s). no_heads i true true h.alone refl r.sound r.live (ap (λ (n : ℕ). n == 0) r.empty))
    (held_in_a i c s h)

some_none : (x : File × ℕ) → Some x ≡ None → ⊥
some_none x e = cc

-- A state that is held and a damage exclude each other.
pub held_or_damaged : (i : Image) (c : Content) (s : State) (f : File) (place : ℕ) → HoldNow c s i → IsDamagedNow i f place → ⊥
held_or_damaged i c s f place h (inl shown) = some_none (f, place) (sym shown ∙ held_heads i c s h)
held_or_damaged i c s f place h (inr within) =
    ⊎_elim
    (λ (none : (is_live i.a ≡ false) × (s ≡ opening)). false_true (sym none.0 ∙ within.live))
    (λ (r : HeldReads i c.records s).
    let d = within_reads i f place h.alone within in
    let same = both_reads opening (drop 29 i.a) r.reads d.reads in
    d.not_closed (subst (λ (l : List ℕ). IsClosedHere l) same.tail r.closed))
    (held_in_a i c s h)

-- The state that is held is one.
pub held_once : (i : Image) (c d : Content) (s t : State) → HoldNow c s i → HoldNow d t i → s ≡ t
held_once i c d s t h k =
    ⊎_elim
    (λ (none : (is_live i.a ≡ false) × (s ≡ opening)).
    ⊎_elim
    (λ (other : (is_live i.a ≡ false) × (t ≡ opening)). none.1 ∙ sym other.1)
    (λ (r : HeldReads i d.records t). absurd (false_true (sym none.0 ∙ r.live)))
    (held_in_a i d t k))
    (λ (r : HeldReads i c.records s).
    ⊎_elim
    (λ (other : (is_live i.a ≡ false) × (t ≡ opening)). absurd (false_true (sym other.0 ∙ r.live)))
    (λ (q : HeldReads i d.records t). sym r.end_is ∙ (both_reads opening (drop 29 i.a) r.reads q.reads).end ∙ q.end_is)
    (held_in_a i d t k))
    (held_in_a i c s h)

pair_is : (x y : File × ℕ) → Some x ≡ Some y → x ≡ y
pair_is x y e = cc

same_pair : (f g : File) (p q : ℕ) (o : Option (File × ℕ)) → o ≡ Some (f, p) → o ≡ Some (g, q) → (f ≡ g) × (p ≡ q)
same_pair f g p q o e k = let same = pair_is (f, p) (g, q) (sym e ∙ k) in (ap (λ (x : File × ℕ). x.0) same, ap (λ (x : File × ℕ). x.1) same)

-- The first damage is one.
pub damaged_once : (i : Image) (f g : File) (p q : ℕ) → IsDamagedNow i f p → IsDamagedNow i g q → (f ≡ g) × (p ≡ q)
damaged_once i f g p q (inl a) (inl b) = same_pair f g p q (heads_damage i) a b
damaged_once i f g p q (inl a) (inr b) = absurd (some_none (f, p) (sym a ∙ b.sound))
damaged_once i f g p q (inr a) (inl b) = absurd (some_none (g, q) (sym b ∙ a.sound))
damaged_once i f g p q (inr a) (inr b) =
    let alone = heads_alone i a.sound in
    let x = within_reads i f p alone a in
    let y = within_reads i g q alone b in
    let same = both_reads opening (drop 29 i.a) x.reads y.reads in
    (a.file ∙ sym b.file, sym x.place_is ∙ sizes x.reads y.reads same.tail ∙ y.place_is)
  where
    sizes : (r t : Reads opening (drop 29 i.a)) → r.tail ≡ t.tail → 29 + length r.opened ≡ 29 + length t.opened
    sizes r t e = omega (arith, ap length r.split, ap length t.split, length-append r.opened r.tail, length-append t.opened t.tail, ap length e)

-- what an answer says of the state held and of the damage
module _ (i j : Image) (result : Result Server StartFault) (P : Type 0) (known : P) (ok : IfOk result (λ server. P → IsOpened server i j))
    (bad : (f : File) (place : ℕ) → result ≡ Err (Damaged f place) → IsDamagedNow i f place) where
  opened_then : (r : Result Server StartFault) (server : Server) → result ≡ r → r ≡ Ok server → IsOpened server i j
  opened_then r server e is = let F : Result Server StartFault → Type 0 = λ r. IfOk r (λ server. P → IsOpened server i j) in subst F (e ∙ is) ok known

  pub answers_state : (c : Content) (s : State) → HoldNow c s i → AnswersState s result
  answers_state c s h = by result refl
    where
      by : (r : Result Server StartFault) → result ≡ r → AnswersState s r
      by (Ok server) e = let o = opened_then (Ok server) server e refl in held_once i o.before c (server_state server) s o.held h
      by (Err fault) e = λ f place is. held_or_damaged i c s f place h (bad f place (e ∙ ap Err is))

  pub answers_damage : (f : File) (place : ℕ) → IsDamagedNow i f place → AnswersDamage f place result
  answers_damage f place d = by result refl
    where
      by : (r : Result Server StartFault) → result ≡ r → AnswersDamage f place r
      by (Ok server) e = let o = opened_then (Ok server) server e refl in held_or_damaged i o.before (server_state server) f place o.held d
      by (Err fault) e = λ g other is. damaged_once i g f other place (bad g other (e ∙ ap Err is)) d
