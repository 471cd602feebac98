-- What is found where the records of a chosen file were read.
use Rattle.std.proofs.Common.{◌≡◌, ◌==◌, ◌&&◌, ◌+◌, ◌≤◌, ◌<◌, ℕ, nat_le, nat_lt, List, [], ◌∷◌, ◌++◌, length, take, drop, get_or, Bool, true, false, if◌then◌else◌, Option, None, Some, Result, Ok, Err, inl, inr, ⊎_elim, refl, sym, ap, ◌∙◌, subst, arith, append_assoc, length-take, length-drop}
use Rattle.std.proofs.Math.Seq.{take-add}
use Rattle.std.proofs.lemmas.Bool.{leb-true, ltb-true, ltb-false}
use Rattle.std.proofs.lemmas.List.{drop_more}
use Rattle.std.proofs.lemmas.Slice.Eq.{bytes_eq-Decides}
use Rattle.std.specs.Str.{bytes_eq}
use Rattle.yw_outside.specs.declared.desk.File.{File}
use Rattle.yw_outside.specs.declared.desk.File.TheVariants.{A, B}
use Rattle.yw_outside.specs.declared.image.Image.{Image}
use Rattle.yw_outside.specs.Image.{file_in, other_in}
use Rattle.yw_journal.specs.Files as files
use Rattle.yw_journal.specs.Files.{Content, HasContent, Holds, HoldState, IsHead, IsLesser, LeadsTo, Meaning, NoneIsLive, Reaches, choice, number_of, count_of, generation_of, greatest, head_of, header_damage, higher, higher_unless, is_live, magic, magic_of, snapshot_of, snapshot_size_of}
use Rattle.yw_journal.specs.FileLaws.{content_same, damage}
use Rattle.yw_journal.proofs.Contents.{held_content_once}
use Rattle.yw_journal.specs.Records.{IsAt}
use Rattle.yw_snapshot.specs.Found.{ClosedHolds, CompactedHolds, CutDamages, NowhereDamages, OpenedHolds, OpeningKeeps, ReachesOn, ShownDamages, SnapshotDamages, content_of}
use Rattle.yw_snapshot.specs.Opening.{HoldsBegun, LeftAfterSyncs, StaysOrBegins, begun}
use Rattle.yw_snapshot.specs.Pair.{HoldCounted}
use Rattle.yw_snapshot.specs.Reading.{IsClosedHere, IsRead}
use Rattle.yw_snapshot.proofs.Fronts.{live_long, live_open}

and_left : (p q : Bool) → (p && q) ≡ true → p ≡ true
and_left true q e = refl
and_left false q e = cc

and_right : (p q : Bool) → (p && q) ≡ true → q ≡ true
and_right true q e = e
and_right false q e = cc

none_true : (p q r s : Bool) → p ≡ true → damage p q r s ≡ None → (q ≡ true) × (r ≡ true) × (s ≡ true)
none_true true true true true live e = (refl, refl, refl)
none_true true true true false live e = cc
none_true true true false s live e = cc
none_true true false r s live e = cc
none_true false q r s live e = cc

pub record IsSound (file : List ℕ) : Type 0 where
  pub magic_is : bytes_eq (magic_of file) magic ≡ true
  pub some : 1 ≤ generation_of file
  pub small : generation_of file ≤ greatest
  pub few : count_of file ≤ greatest

pub sound_is : (file : List ℕ) → is_live file ≡ true → header_damage file ≡ None → IsSound file
sound_is file live none =
    let t = none_true (is_live file) (bytes_eq (magic_of file) magic) (nat_le 1 (generation_of file) && nat_le (generation_of file) greatest) (nat_le (count_of file) greatest) live none in
    record {
      magic_is = t.0;
      some = leb-true 1 (generation_of file) (and_left (nat_le 1 (generation_of file)) (nat_le (generation_of file) greatest) t.1);
      small = leb-true (generation_of file) greatest (and_right (nat_le 1 (generation_of file)) (nat_le (generation_of file) greatest) t.1);
      few = leb-true (count_of file) greatest t.2;
    }

-- The header as far as the gate after an empty snapshot.
fields : (file : List ℕ) → take 29 file ≡ take 1 file ++ take 4 (drop 1 file) ++ take 8 (drop 5 file) ++ take 8 (drop 13 file) ++ take 8 (drop 21 file)
fields file =
    take-add 21 8 file
    ∙ ap (λ (l : List ℕ). l ++ take 8 (drop 21 file))
    (take-add 13 8 file
    ∙ ap (λ (l : List ℕ). l ++ take 8 (drop 13 file))
    (take-add 5 8 file ∙ ap (λ (l : List ℕ). l ++ take 8 (drop 5 file)) (take-add 1 4 file)))

first_is : (file : List ℕ) → 30 ≤ length file → get_or file 0 0 ≡ 1 → take 1 file ≡ 1 ∷ []
first_is file long open_ = ap (take 1) (drop_more file 0 0 (omega arith) ∙ ap (λ (g : ℕ). g ∷ drop 1 file) open_)

-- the head of a file, up to the gate behind its snapshot
head_is : (file : List ℕ) → is_live file ≡ true → header_damage file ≡ None → 29 + snapshot_size_of file ≤ length file → IsHead (generation_of file) (count_of file) (snapshot_of file) (head_of file)
head_is file live none ends =
    let long = live_long file live in
    let sound = sound_is file live none in
    record {
      generation_field = take 8 (drop 5 file);
      count_field = take 8 (drop 13 file);
      size_field = take 8 (drop 21 file);
      split = take-add 29 (snapshot_size_of file) file
          ∙ ap (λ (l : List ℕ). l ++ snapshot_of file)
          (fields file
          ∙ ap (λ (l : List ℕ). l ++ take 4 (drop 1 file) ++ take 8 (drop 5 file) ++ take 8 (drop 13 file) ++ take 8 (drop 21 file)) (first_is file long (live_open file live))
          ∙ ap (λ (l : List ℕ). ((1 ∷ []) ++ l) ++ take 8 (drop 5 file) ++ take 8 (drop 13 file) ++ take 8 (drop 21 file)) ((bytes_eq-Decides (magic_of file) magic).0 sound.magic_is));
      generation_eight = omega (arith, length-take 8 (drop 5 file), length-drop 5 file);
      count_eight = omega (arith, length-take 8 (drop 13 file), length-drop 13 file);
      size_eight = omega (arith, length-take 8 (drop 21 file), length-drop 21 file);
      generation_is = refl;
      count_is = refl;
      size_is = omega (arith, ends, length-take (snapshot_size_of file) (drop 29 file), length-drop 29 file);
      generation_some = sound.some;
      generation_small = sound.small;
      count_small = sound.few;
    }

-- what is so of a file that is chosen
record IsBest (i : Image) (f : File) : Type 0 where
  live : is_live (file_in f i) ≡ true
  sound : header_damage (file_in f i) ≡ None
  lesser : IsLesser (generation_of (file_in f i)) (other_in f i)

err_ok : {X Y : Type 0} (r : Result X Y) (x : X) (y : Y) → r ≡ Err y → r ≡ Ok x → ⊥
err_ok r x y e d = cc

none_ok : {Y : Type 0} (r : Result (Option File) Y) (f : File) → r ≡ Ok None → r ≡ Ok (Some f) → ⊥
none_ok r f e d = cc

one_file : {Y : Type 0} (r : Result (Option File) Y) (f g : File) → r ≡ Ok (Some f) → r ≡ Ok (Some g) → f ≡ g
one_file r f g e d = cc

abbrev told : Bool → Bool → Bool → Bool → Result (Option File) (File × ℕ)
told p q same below = if p then if q then (if same then Err (B, 5) else if below then Ok (Some A) else Ok (Some B)) else Ok (Some A) else if q then Ok (Some B) else Ok None

below_other : (m n : ℕ) → (m == n) ≡ false → m ≤ n → m < n
below_other m n e le = grind (arith, e, le)

-- where neither header is damaged
module _ (i : Image) (o : Option File) (chosen : choice i ≡ Ok o) where
  both_sound : (x y : Option ℕ) → header_damage i.a ≡ x → header_damage i.b ≡ y → (x ≡ None) × (y ≡ None)
  both_sound (Some p) y e d = absurd (err_ok (choice i) o (A, p) (ap (λ (x : Option ℕ). higher_unless x (header_damage i.b) i.a i.b) e) chosen)
  both_sound None (Some p) e d =
      absurd (err_ok (choice i) o (B, p) (ap (λ (x : Option ℕ). higher_unless x (header_damage i.b) i.a i.b) e ∙ ap (λ (x : Option ℕ). higher_unless None x i.a i.b) d) chosen)
  both_sound None None e d = (refl, refl)

  a_sound : header_damage i.a ≡ None
  a_sound = (both_sound (header_damage i.a) (header_damage i.b) refl refl).0

  b_sound : header_damage i.b ≡ None
  b_sound = (both_sound (header_damage i.a) (header_damage i.b) refl refl).1

  choice_told : (p q same below : Bool) → is_live i.a ≡ p → is_live i.b ≡ q → (generation_of i.a == generation_of i.b) ≡ same → nat_lt (generation_of i.b) (generation_of i.a) ≡ below → choice i ≡ told p q same below
  choice_told p q same below live_a live_b e d =
      ap (λ (x : Option ℕ). higher_unless x (header_damage i.b) i.a i.b) a_sound ∙ ap (λ (x : Option ℕ). higher_unless None x i.a i.b) b_sound
      ∙ ap (λ (x : Bool). told x (is_live i.b) (generation_of i.a == generation_of i.b) (nat_lt (generation_of i.b) (generation_of i.a))) live_a
      ∙ ap (λ (x : Bool). told p x (generation_of i.a == generation_of i.b) (nat_lt (generation_of i.b) (generation_of i.a))) live_b
      ∙ ap (λ (x : Bool). told p q x (nat_lt (generation_of i.b) (generation_of i.a))) e
      ∙ ap (λ (x : Bool). told p q same x) d

module _ (i : Image) (f : File) (chosen : choice i ≡ Ok (Some f)) where
  sound_a : header_damage i.a ≡ None
  sound_a = a_sound i (Some f) chosen

  sound_b : header_damage i.b ≡ None
  sound_b = b_sound i (Some f) chosen

  of_a : is_live i.a ≡ true → IsLesser (generation_of i.a) i.b → choice i ≡ Ok (Some A) → IsBest i f
  of_a live lesser e = subst (IsBest i) (one_file (choice i) A f e chosen) (record { live = live; sound = sound_a; lesser = lesser })

  of_b : is_live i.b ≡ true → IsLesser (generation_of i.b) i.a → choice i ≡ Ok (Some B) → IsBest i f
  of_b live lesser e = subst (IsBest i) (one_file (choice i) B f e chosen) (record { live = live; sound = sound_b; lesser = lesser })

  by_tests : (p q same below : Bool) → is_live i.a ≡ p → is_live i.b ≡ q → (generation_of i.a == generation_of i.b) ≡ same → nat_lt (generation_of i.b) (generation_of i.a) ≡ below → IsBest i f
  by_tests true true true below a b e d = absurd (err_ok (choice i) (Some f) (B, 5) (choice_told i (Some f) chosen true true true below a b e d) chosen)
  by_tests true true false true a b e d =
      of_a a (inr (sound_b, ltb-true (generation_of i.b) (generation_of i.a) d)) (choice_told i (Some f) chosen true true false true a b e d)
  by_tests true true false false a b e d =
      of_b b (inr (sound_a, below_other (generation_of i.a) (generation_of i.b) e (ltb-false (generation_of i.b) (generation_of i.a) d))) (choice_told i (Some f) chosen true true false false a b e d)
  by_tests true false same below a b e d = of_a a (inl b) (choice_told i (Some f) chosen true false same below a b e d)
  by_tests false true same below a b e d = of_b b (inl a) (choice_told i (Some f) chosen false true same below a b e d)
  by_tests false false same below a b e d = absurd (none_ok (choice i) f (choice_told i (Some f) chosen false false same below a b e d) chosen)

  best : IsBest i f
  best = by_tests (is_live i.a) (is_live i.b) (generation_of i.a == generation_of i.b) (nat_lt (generation_of i.b) (generation_of i.a)) refl refl refl refl

-- where none is chosen, none is live
module _ (i : Image) (none : choice i ≡ Ok None) where
  none_by : (p q same below : Bool) → is_live i.a ≡ p → is_live i.b ≡ q → (generation_of i.a == generation_of i.b) ≡ same → nat_lt (generation_of i.b) (generation_of i.a) ≡ below → NoneIsLive i
  none_by true true true below a b e d = absurd (err_ok (choice i) None (B, 5) (choice_told i None none true true true below a b e d) none)
  none_by true true false true a b e d = absurd (none_ok (choice i) A none (choice_told i None none true true false true a b e d))
  none_by true true false false a b e d = absurd (none_ok (choice i) B none (choice_told i None none true true false false a b e d))
  none_by true false same below a b e d = absurd (none_ok (choice i) A none (choice_told i None none true false same below a b e d))
  none_by false true same below a b e d = absurd (none_ok (choice i) B none (choice_told i None none false true same below a b e d))
  none_by false false same below a b e d = record { a = a; b = b }

  pub none_is_live : NoneIsLive i
  none_is_live = none_by (is_live i.a) (is_live i.b) (generation_of i.a == generation_of i.b) (nat_lt (generation_of i.b) (generation_of i.a)) refl refl refl refl

-- a closed gate ends the records
ends_at : (file : List ℕ) (at : ℕ) (records : List (List ℕ)) → IsRead file at records → IsClosedHere (drop at file) → IsAt (head_of file) records (at + 1) file
ends_at file at records is closed = record {
  opened = is.opened;
  gate = closed.0;
  behind = closed.1;
  split = is.split ∙ ap (λ (l : List ℕ). (head_of file ++ is.opened) ++ l) closed.2;
  are_open = is.are_open;
  closed = closed.3;
  place = omega (arith, is.place);
}

-- the chosen file holds its records where a closed gate ends them
pub holds_at : (i : Image) (f : File) (at : ℕ) (records : List (List ℕ)) → choice i ≡ Ok (Some f) → IsRead (file_in f i) at records → IsClosedHere (drop at (file_in f i))
    → Holds f (content_of (file_in f i) records) (at + 1) i
holds_at i f at records chosen read closed =
    let b = best i f chosen in
    let file = file_in f i in
    record { file = (head_of file, head_is file b.live b.sound read.ends, ends_at file at records read closed); other = b.lesser }

left_of : (i j : Image) → StaysOrBegins i j → LeftAfterSyncs i j
left_of i j (inl same) = record { files = inl (ap (λ (k : Image). k.a) same, ap (λ (k : Image). k.b) same); said = ap (λ (k : Image). k.said) same }
left_of i j (inr begun) = record { files = inr (record { none = begun.none; holds = inr (inr (A, 30, begun.holds)); b = begun.b }); said = begun.said }

module _ {S : Type 0} (m : Meaning S) where
  leads_on : (s : S) (records : List (List ℕ)) (mid : S) (bytes : List ℕ) (t : S) → LeadsTo m s records mid → m.After mid bytes t → LeadsTo m s (records ++ bytes ∷ []) t
  leads_on s [] mid bytes t first after = (t, subst (λ (u : S). m.After u bytes t) first after, refl)
  leads_on s (r ∷ rs) mid bytes t first after = (first.0, first.1, leads_on first.0 rs mid bytes t first.2 after)

  pub reaches_on : ReachesOn m
  reaches_on snapshot records s bytes t reaches after = (reaches.0, reaches.1, leads_on reaches.0 records s bytes t reaches.2 after)

  pub closed_holds : ClosedHolds m
  closed_holds i f at records s is closed = record { content = inr (f, at + 1, holds_at i f at records is.chosen is.read closed); state = is.meant }

  pub cut_damages : CutDamages m
  cut_damages i f at records s is cut = inr (
    is.chosen,
    inr (inr (inl (record {
      records = records;
      ends = is.read.ends;
      state = s;
      meant = is.meant;
      cut = record { opened = is.read.opened; rest = drop at (file_in f i); split = is.read.split; are_open = is.read.are_open; cut = cut; at = is.read.place };
    }))),
  )

  pub nowhere_damages : NowhereDamages m
  nowhere_damages i f at records s bytes is here none =
      let file = file_in f i in
      inr (
        is.chosen,
        inr (inr (inr (record {
          records = records;
          ends = is.read.ends;
          state = s;
          meant = is.meant;
          opened = is.read.opened;
          frame = here.frame;
          bytes = bytes;
          behind = here.behind;
          split = is.read.split ∙ ap (λ (l : List ℕ). (head_of file ++ is.read.opened) ++ l) here.split ∙ sym (append_assoc (head_of file ++ is.read.opened) (1 ∷ here.frame) here.behind);
          are_open = is.read.are_open;
          is_frame = here.is_frame;
          none = none;
          at = is.read.place;
        }))),
      )

  pub shown_damages : ShownDamages m
  shown_damages i f place (inl shown) = inl shown
  shown_damages i f place (inr cut) = inr (cut.0, inl (cut.1, cut.2))

  pub snapshot_damages : SnapshotDamages m
  snapshot_damages i f chosen none = inr (chosen, inr (inl (none, refl)))

  -- of files of which none was live
  begun_holds : (c : Content) (s : S) (i k : Image) → HoldState m c s i → HoldsBegun i k → HoldCounted m s (number_of c) k
  begun_holds c s i k h b = by (held_content_once i c files.opening h.content (inl (b.none, refl)))
    where
      by : c ≡ files.opening → HoldCounted m s (number_of c) k
      by e =
          let state : Reaches m [] [] s = subst (λ (d : Content). Reaches m d.snapshot d.records s) e h.state in
          ⊎_elim
          (λ (none : HasContent files.opening k). (files.opening, record { content = none; state = state }, sym (ap number_of e)))
          (λ (made : HasContent begun k). (begun, record { content = made; state = state }, sym (ap number_of e)))
          b.holds

  pub opening_keeps : OpeningKeeps m
  opening_keeps c s i k h left = ⊎_elim
      (λ (same : (k.a ≡ i.a) × (k.b ≡ i.b)). (c, record { content = content_same c k i same.0 same.1 h.content; state = h.state }, refl))
      (λ (b : HoldsBegun i k). begun_holds c s i k h b)
      left.files

  pub opened_holds : OpenedHolds m
  opened_holds c s i j h files = opening_keeps c s i j h (left_of i j files)

  pub compacted_holds : CompactedHolds m
  compacted_holds j c snapshot s i current opens =
      (record { content = inr (j.file, j.end, current.holds); state = (s, opens, refl) }, omega arith)
