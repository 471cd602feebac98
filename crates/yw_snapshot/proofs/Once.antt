-- A state that is held and a damage exclude each other, and both are the only ones, over both files.
use Rattle.std.proofs.Common.{◌≡◌, ◌⊎◌, ◌≤◌, ℕ, ◌+◌, List, [], ◌∷◌, ◌++◌, length, take, drop, Option, None, Some, Result, Ok, Err, inl, inr, ⊎_elim, refl, sym, ap, ◌∙◌, subst, arith, append_assoc, length-append, length-take}
use Rattle.std.proofs.lemmas.List.{take_at, drop_at}
use Rattle.yw_outside.specs.declared.desk.File.{File}
use Rattle.yw_outside.specs.declared.image.Image.{Image}
use Rattle.yw_outside.specs.Image.{file_in}
use Rattle.yw_journal.specs.Files as files
use Rattle.yw_journal.specs.Files.{Content, DamagedBehind, FileHas, HasContent, HasNoMeaning, HoldState, IsDamaged, IsHead, LeadsTo, Meaning, Reaches, SnapshotIsCut, SnapshotIsNone, choice, head_of, magic, number_of, snapshot_of, snapshot_size_of}
use Rattle.yw_journal.specs.FileLaws.{head_size, size_reads}
use Rattle.yw_journal.specs.Journal.{IsBeforeOrMade}
use Rattle.yw_journal.proofs.Contents as contents
use Rattle.yw_snapshot.specs.Compacting.{compacted}
use Rattle.yw_snapshot.specs.Pair.{HoldCounted, IsOneMeaning}
use Rattle.yw_snapshot.proofs.HeldChosen.{held_is_chosen, none_chosen}
use Rattle.yw_snapshot.proofs.ReadOn.{IsClosed, Reads, both_reads, closed_stops, cut_not_closed, cut_stops, none_stops, open_not_closed}

err_ok : {X Y : Type 0} (r : Result X Y) (x : X) (y : Y) → r ≡ Ok x → r ≡ Err y → ⊥
err_ok r x y e d = cc

some_none : {X : Type 0} {Y : Type 0} (r : Result (Option X) Y) (x : X) → r ≡ Ok None → r ≡ Ok (Some x) → ⊥
some_none r x e d = cc

same_file : {Y : Type 0} (r : Result (Option File) Y) (f g : File) → r ≡ Ok (Some f) → r ≡ Ok (Some g) → f ≡ g
same_file r f g e d = cc

same_place : {X : Type 0} (r : Result X (File × ℕ)) (f g : File) (p q : ℕ) → r ≡ Err (f, p) → r ≡ Err (g, q) → (f ≡ g) × (p ≡ q)
same_place r f g p q e d = let same : (f, p) ≡ (g, q) = cc in (ap (λ (x : File × ℕ). x.0) same, ap (λ (x : File × ℕ). x.1) same)

-- behind the snapshot
abbrev behind_snapshot : List ℕ → List ℕ
behind_snapshot file = drop (29 + snapshot_size_of file) file

behind_head : (file head opened rest : List ℕ) (n : ℕ) → length head ≡ n → file ≡ (head ++ opened) ++ rest → drop n file ≡ opened ++ rest
behind_head file head opened rest n size split = ap (drop n) (split ∙ append_assoc head opened rest) ∙ drop_at head (opened ++ rest) n size

-- a snapshot is what its head has behind its fields
snapshot_behind : (generation count : ℕ) (snapshot head rest : List ℕ) → IsHead generation count snapshot head → drop 29 (head ++ rest) ≡ snapshot ++ rest
snapshot_behind generation count snapshot head rest is =
    let front = 1 ∷ magic ++ is.generation_field ++ is.count_field ++ is.size_field in
    ap (λ (l : List ℕ). drop 29 (l ++ rest)) is.split ∙ ap (drop 29) (append_assoc front snapshot rest) ∙ drop_at front (snapshot ++ rest) 29 (omega (
      arith,
      length-append (1 ∷ magic ++ is.generation_field ++ is.count_field) is.size_field,
      length-append (1 ∷ magic ++ is.generation_field) is.count_field,
      length-append (1 ∷ magic) is.generation_field,
      is.generation_eight,
      is.count_eight,
      is.size_eight,
    ))

module _ {S : Type 0} (m : Meaning S) where
  -- The snapshot opens a state, from which the records behind it are read on.
  record FileReads (file : List ℕ) : Type 0 where
    ends : 29 + snapshot_size_of file ≤ length file
    start : S
    opens : m.Opens (snapshot_of file) start
    reads : Reads m start (behind_snapshot file)

  module _ (file : List ℕ) (c : Content) (end : ℕ) (s : S) (has : FileHas file c end) (reaches : Reaches m c.snapshot c.records s) where
    abbrev tail : List ℕ
    tail = has.2.gate ∷ has.2.behind

    split : file ≡ has.0 ++ (has.2.opened ++ tail)
    split = has.2.split ∙ append_assoc has.0 has.2.opened tail

    size : snapshot_size_of file ≡ length c.snapshot
    size = size_reads c.generation c.count c.snapshot has.0 has.1 file (has.2.opened ++ tail) split

    head_long : length has.0 ≡ 29 + snapshot_size_of file
    head_long = omega (arith, head_size c.generation c.count c.snapshot has.0 has.1 file (has.2.opened ++ tail) split, size)

    snapshot : snapshot_of file ≡ c.snapshot
    snapshot =
        ap (λ (l : List ℕ). take (snapshot_size_of file) (drop 29 l)) split
        ∙ ap (take (snapshot_size_of file)) (snapshot_behind c.generation c.count c.snapshot has.0 (has.2.opened ++ tail) has.1)
        ∙ take_at c.snapshot (has.2.opened ++ tail) (snapshot_size_of file) (sym size)

    closed : IsClosed tail
    closed = (has.2.gate, has.2.behind, refl, has.2.closed)

    abbrev held_reads : FileReads file
    held_reads = record {
      ends = omega (arith, ap length split, length-append has.0 (has.2.opened ++ tail), head_long);
      start = reaches.0;
      opens = subst (λ (l : List ℕ). m.Opens l reaches.0) (sym snapshot) reaches.1;
      reads = record {
        records = c.records;
        opened = has.2.opened;
        tail = tail;
        split = behind_head file has.0 has.2.opened tail (29 + snapshot_size_of file) head_long has.2.split;
        are_open = has.2.are_open;
        end = s;
        meant = reaches.2;
        stops = closed_stops m s tail closed;
      };
    }

  record DamageReads (file : List ℕ) (place : ℕ) : Type 0 where
    reads : FileReads file
    not_closed : IsClosed reads.reads.tail → ⊥
    place_is : 29 + snapshot_size_of file + length reads.reads.opened ≡ place

  head_of_size : (file : List ℕ) → 29 + snapshot_size_of file ≤ length file → length (head_of file) ≡ 29 + snapshot_size_of file
  head_of_size file ends = omega (arith, ends, length-take (29 + snapshot_size_of file) file)

  cut_reads : (file : List ℕ) (place : ℕ) → files.IsCut m file place → DamageReads file place
  cut_reads file place d =
      let size = head_of_size file d.ends in
      record {
        reads = record {
          ends = d.ends;
          start = d.meant.0;
          opens = d.meant.1;
          reads = record {
            records = d.records;
            opened = d.cut.opened;
            tail = d.cut.rest;
            split = behind_head file (head_of file) d.cut.opened d.cut.rest (29 + snapshot_size_of file) size d.cut.split;
            are_open = d.cut.are_open;
            end = d.state;
            meant = d.meant.2;
            stops = cut_stops m d.state d.cut.rest d.cut.cut;
          };
        };
        not_closed = cut_not_closed d.cut.rest d.cut.cut;
        place_is = omega (arith, d.cut.at, length-append (head_of file) d.cut.opened, size);
      }

  none_reads : (file : List ℕ) (place : ℕ) → HasNoMeaning m file place → DamageReads file place
  none_reads file place d =
      let size = head_of_size file d.ends in
      let tail = 1 ∷ (d.frame ++ d.behind) in
      record {
        reads = record {
          ends = d.ends;
          start = d.meant.0;
          opens = d.meant.1;
          reads = record {
            records = d.records;
            opened = d.opened;
            tail = tail;
            split = behind_head file (head_of file) d.opened tail (29 + snapshot_size_of file) size (d.split ∙ append_assoc (head_of file ++ d.opened) (1 ∷ d.frame) d.behind);
            are_open = d.are_open;
            end = d.state;
            meant = d.meant.2;
            stops = none_stops m d.state tail d.frame d.behind d.bytes refl d.is_frame d.none;
          };
        };
        not_closed = open_not_closed tail (d.frame ++ d.behind) refl;
        place_is = omega (arith, d.at, length-append (head_of file) d.opened, size);
      }

  -- the records behind a snapshot that opens a state
  gate_reads : (file : List ℕ) (place : ℕ) → files.IsCut m file place ⊎ HasNoMeaning m file place → DamageReads file place
  gate_reads file place (inl d) = cut_reads file place d
  gate_reads file place (inr d) = none_reads file place d

  module _ (one : IsOneMeaning m) where
    start_is : (file : List ℕ) (a b : FileReads file) → a.start ≡ b.start
    start_is file a b = one.opens (snapshot_of file) a.start b.start a.opens b.opens

    tails_are : (file : List ℕ) (a b : FileReads file) → a.reads.tail ≡ b.reads.tail
    tails_are file a b = by a.start b.start a.reads b.reads (start_is file a b)
      where
        by : (s t : S) (x : Reads m s (behind_snapshot file)) (y : Reads m t (behind_snapshot file)) → s ≡ t → x.tail ≡ y.tail
        by s t x y e = moved t e y
          where
            moved : (t : S) → s ≡ t → (y : Reads m t (behind_snapshot file)) → x.tail ≡ y.tail
            moved t e = subst (λ (v : S). (y : Reads m v (behind_snapshot file)) → x.tail ≡ y.tail) e (λ y. (both_reads m one s (behind_snapshot file) x y).tail)

    -- the same, by the kind of damage
    held_behind : (file : List ℕ) (c : Content) (end : ℕ) (s : S) (place : ℕ) → FileHas file c end → Reaches m c.snapshot c.records s → DamagedBehind m file place → ⊥
    held_behind file c end s place has reaches (inl d) = omega (arith, d.0.passes, (held_reads file c end s has reaches).ends)
    held_behind file c end s place has reaches (inr (inl d)) = let r = held_reads file c end s has reaches in d.0.none r.start r.opens
    held_behind file c end s place has reaches (inr (inr d)) =
        let r = held_reads file c end s has reaches in
        let x = gate_reads file place d in
        x.not_closed (subst IsClosed (tails_are file r x.reads) (closed file c end s has reaches))

    pub held_or_damaged : (i : Image) (c : Content) (s : S) (f : File) (place : ℕ) → HoldState m c s i → IsDamaged m i f place → ⊥
    held_or_damaged i c s f place h d = by_content h.content d
      where
        by_content : HasContent c i → IsDamaged m i f place → ⊥
        by_content (inl none) (inl shown) = err_ok (choice i) None (f, place) (none_chosen i none.0) shown
        by_content (inl none) (inr behind) = some_none (choice i) f (none_chosen i none.0) behind.0
        by_content (inr held) (inl shown) = err_ok (choice i) (Some held.0) (f, place) (held_is_chosen held.0 c held.1 i held.2) shown
        by_content (inr held) (inr behind) =
            let same : held.0 ≡ f = same_file (choice i) held.0 f (held_is_chosen held.0 c held.1 i held.2) behind.0 in
            held_behind (file_in held.0 i) c held.1 s place held.2.file h.state
            (subst (λ (g : File). DamagedBehind m (file_in g i) place) (sym same) behind.1)

    pub held_once : (i : Image) (c d : Content) (s t : S) → HoldState m c s i → HoldState m d t i → s ≡ t
    held_once i c d s t h k =
        let same : c ≡ d = contents.held_content_once i c d h.content k.content in
        reaches_once d s t (subst (λ (e : Content). Reaches m e.snapshot e.records s) same h.state) k.state
      where
        leads_once : (u s t : S) (records : List (List ℕ)) → LeadsTo m u records s → LeadsTo m u records t → s ≡ t
        leads_once u s t [] a b = a ∙ sym b
        leads_once u s t (r ∷ rs) a b =
            leads_once a.0 s t rs a.2 (subst (λ (v : S). LeadsTo m v rs t) (one.after u r b.0 a.0 b.1 a.1) b.2)

        reaches_once : (d : Content) (s t : S) → Reaches m d.snapshot d.records s → Reaches m d.snapshot d.records t → s ≡ t
        reaches_once d s t a b = leads_once a.0 s t d.records a.2 (subst (λ (v : S). LeadsTo m v d.records t) (one.opens d.snapshot b.0 a.0 b.1 a.1) b.2)

    -- of the damages behind a sound header
    behind_once : (file : List ℕ) (p q : ℕ) → DamagedBehind m file p → DamagedBehind m file q → p ≡ q
    behind_once file p q (inl a) (inl b) = a.1 ∙ sym b.1
    behind_once file p q (inl a) (inr (inl b)) = absurd (omega (arith, a.0.passes, b.0.ends))
    behind_once file p q (inl a) (inr (inr b)) = absurd (omega (arith, a.0.passes, (gate_reads file q b).reads.ends))
    behind_once file p q (inr (inl a)) (inl b) = absurd (omega (arith, b.0.passes, a.0.ends))
    behind_once file p q (inr (inl a)) (inr (inl b)) = a.1 ∙ sym b.1
    behind_once file p q (inr (inl a)) (inr (inr b)) = let r = (gate_reads file q b).reads in absurd (a.0.none r.start r.opens)
    behind_once file p q (inr (inr a)) (inl b) = absurd (omega (arith, b.0.passes, (gate_reads file p a).reads.ends))
    behind_once file p q (inr (inr a)) (inr (inl b)) = let r = (gate_reads file p a).reads in absurd (b.0.none r.start r.opens)
    behind_once file p q (inr (inr a)) (inr (inr b)) =
        let x = gate_reads file p a in
        let y = gate_reads file q b in
        let tail = tails_are file x.reads y.reads in
        let opened : length x.reads.reads.opened ≡ length y.reads.reads.opened = omega (
          arith,
          ap length x.reads.reads.split,
          ap length y.reads.reads.split,
          length-append x.reads.reads.opened x.reads.reads.tail,
          length-append y.reads.reads.opened y.reads.reads.tail,
          ap length tail,
        ) in
        sym x.place_is ∙ ap (λ (n : ℕ). 29 + snapshot_size_of file + n) opened ∙ y.place_is

    pub damaged_once : (i : Image) (f g : File) (p q : ℕ) → IsDamaged m i f p → IsDamaged m i g q → (f ≡ g) × (p ≡ q)
    damaged_once i f g p q (inl a) (inl b) = same_place (choice i) f g p q a b
    damaged_once i f g p q (inl a) (inr b) = absurd (err_ok (choice i) (Some g) (f, p) b.0 a)
    damaged_once i f g p q (inr a) (inl b) = absurd (err_ok (choice i) (Some f) (g, q) a.0 b)
    damaged_once i f g p q (inr a) (inr b) =
        let same : f ≡ g = same_file (choice i) f g a.0 b.0 in
        (same, behind_once (file_in g i) p q (subst (λ (h : File). DamagedBehind m (file_in h i) p) same a.1) b.1)

  -- whichever of both files stands, the state and the number are the same
  pub held_by_either : (f : File) (c : Content) (snapshot : List ℕ) (s : S) (old i : Image) → HoldState m c s old → m.Opens snapshot s
      → IsBeforeOrMade f c (compacted c snapshot) old i → HoldCounted m s (number_of c) i
  held_by_either f c snapshot s old i h opens b =
      ⊎_elim
      (λ (before : HasContent c i). (c, record { content = before; state = h.state }, refl))
      (λ (new : (end : ℕ) × files.Holds f (compacted c snapshot) end i). (
        compacted c snapshot,
        record { content = inr (f, new.0, new.1); state = (s, opens, refl) },
        omega arith,
      ))
      b.holds
