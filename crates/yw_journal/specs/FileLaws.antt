-- Laws of what the files hold.
use Rattle.std.specs.Prelude.{◌≡◌, ◌⊎◌, ◌==◌, ◌&&◌, ℕ, ◌+◌, ◌≤◌, nat_le, List, [], ◌∷◌, ◌++◌, length, take, drop, slice_index, Bool, true, false, if◌then◌else◌, Option, None, Some, refl}
use Rattle.std.specs.Int.{w64, to_be_bytes, from_be_bytes}
use Rattle.std.specs.Str.{bytes_eq}
use Rattle.std.proofs.Common.{inl, inr, ⊎_elim, sym, ap, ◌∙◌, subst, arith, append_assoc, length-append}
use Rattle.std.proofs.lemmas.Bool.{le-leb}
use Rattle.std.proofs.lemmas.List.{take_at, drop_at, drop-drop}
use Rattle.std.proofs.lemmas.Nat.{from_be_bytes-to_be_bytes_8}
use Rattle.yw_outside.specs.declared.desk.File.{File}
use Rattle.yw_outside.specs.declared.desk.File.TheVariants.{A, B}
use Rattle.yw_outside.specs.declared.image.Image.{Image}
use Rattle.yw_outside.specs.Image.{file_in, other_in}
use Rattle.yw_journal.specs.Files.{Content, FileHas, Holds, HasContent, NoneIsLive, IsHead, IsLesser, opening, magic, greatest, end_of, records_size, is_live, header_damage, magic_of, generation_of, count_of, snapshot_size_of}
use Rattle.yw_journal.specs.Journal.{IsMadeOf, IsAboveOther, IsHeldBeside, IsBeforeOrMade, IsBeforeShutOrMade, made, header_bytes, other_file, with_record}
use Rattle.yw_journal.specs.Records.{AreOpen, IsFramed, IsFramedState}

-- the first eight bytes
eight : (field rest : List ℕ) → length field ≡ 8 → take 8 (field ++ rest) ≡ field
eight field rest e = take_at field rest 8 e

and_true : (p q : Bool) → p ≡ true → q ≡ true → (p && q) ≡ true
and_true p q e f = cc

-- the tests of a header, one after another
abbrev pub damage : Bool → Bool → Bool → Bool → Option ℕ
damage p q r s = if p then (if q then (if r then (if s then None else Some 13) else Some 5) else Some 1) else None

all_true : (p q r s : Bool) → p ≡ true → q ≡ true → r ≡ true → s ≡ true → damage p q r s ≡ None
all_true p q r s e f g h = cc

module _ (generation count : ℕ) (snapshot head : List ℕ) (is : IsHead generation count snapshot head) (file rest : List ℕ) (split : file ≡ head ++ rest) where
  -- the fields one by one
  spelled : file ≡ 1 ∷ 89 ∷ 87 ∷ 74 ∷ 49 ∷ is.generation_field ++ (is.count_field ++ (is.size_field ++ (snapshot ++ rest)))
  spelled =
      split ∙ ap (λ (l : List ℕ). l ++ rest) is.split
      ∙ ap (λ (l : List ℕ). 1 ∷ 89 ∷ 87 ∷ 74 ∷ 49 ∷ l)
      (append_assoc (is.generation_field ++ is.count_field ++ is.size_field) snapshot rest
      ∙ append_assoc (is.generation_field ++ is.count_field) is.size_field (snapshot ++ rest)
      ∙ append_assoc is.generation_field is.count_field (is.size_field ++ (snapshot ++ rest)))

  pub head_size : length head ≡ 29 + length snapshot
  head_size = omega (
    arith,
    ap length is.split,
    length-append (is.generation_field ++ is.count_field ++ is.size_field) snapshot,
    length-append (is.generation_field ++ is.count_field) is.size_field,
    length-append is.generation_field is.count_field,
    is.generation_eight,
    is.count_eight,
    is.size_eight,
  )

  pub generation_reads : generation_of file ≡ generation
  generation_reads =
      ap (λ (l : List ℕ). from_be_bytes w64 (take 8 (drop 5 l))) spelled
      ∙ ap (from_be_bytes w64) (eight is.generation_field (is.count_field ++ (is.size_field ++ (snapshot ++ rest))) is.generation_eight) ∙ is.generation_is

  pub count_reads : count_of file ≡ count
  count_reads =
      ap (λ (l : List ℕ). from_be_bytes w64 (take 8 (drop 13 l))) spelled
      ∙ ap (λ (l : List ℕ). from_be_bytes w64 (take 8 l)) (drop_at is.generation_field (is.count_field ++ (is.size_field ++ (snapshot ++ rest))) 8 is.generation_eight)
      ∙ ap (from_be_bytes w64) (eight is.count_field (is.size_field ++ (snapshot ++ rest)) is.count_eight) ∙ is.count_is

  pub size_reads : snapshot_size_of file ≡ length snapshot
  size_reads =
      ap (λ (l : List ℕ). from_be_bytes w64 (take 8 (drop 21 l))) spelled
      ∙ ap (λ (l : List ℕ). from_be_bytes w64 (take 8 l)) (sym (drop-drop 8 8 (is.generation_field ++ (is.count_field ++ (is.size_field ++ (snapshot ++ rest)))))
      ∙ ap (drop 8) (drop_at is.generation_field (is.count_field ++ (is.size_field ++ (snapshot ++ rest))) 8 is.generation_eight)
      ∙ drop_at is.count_field (is.size_field ++ (snapshot ++ rest)) 8 is.count_eight)
      ∙ ap (from_be_bytes w64) (eight is.size_field (snapshot ++ rest) is.size_eight) ∙ is.size_is

  -- a file of this head is live
  pub live : 1 ≤ length rest → is_live file ≡ true
  live some = and_true (nat_le 30 (length file)) (slice_index file 0 == 1)
      (le-leb 30 (length file) (omega (arith, ap length split, length-append head rest, head_size, some)))
      (ap (λ (l : List ℕ). slice_index l 0 == 1) spelled)

  -- and its header is sound
  pub sound : 1 ≤ length rest → header_damage file ≡ None
  sound some = all_true (is_live file) (bytes_eq (magic_of file) magic) (nat_le 1 (generation_of file) && nat_le (generation_of file) greatest) (nat_le (count_of file) greatest)
      (live some)
      (ap (λ (l : List ℕ). bytes_eq (take 4 (drop 1 l)) magic) spelled)
      (and_true (nat_le 1 (generation_of file)) (nat_le (generation_of file) greatest)
      (ap (nat_le 1) generation_reads ∙ le-leb 1 generation is.generation_some)
      (ap (λ (n : ℕ). nat_le n greatest) generation_reads ∙ le-leb generation greatest is.generation_small))
      (ap (λ (n : ℕ). nat_le n greatest) count_reads ∙ le-leb count greatest is.count_small)

-- records after open gates take as many bytes as they say
opened_size : (bytes : List ℕ) (records : List (List ℕ)) → AreOpen bytes records → length bytes ≡ records_size records
opened_size bytes [] are = ap length are
opened_size bytes (r ∷ rs) are = omega (
  arith,
  ap length are.2,
  length-append are.0 are.1,
  ap length are.3.split,
  length-append are.3.field r,
  are.3.four,
  opened_size are.1 rs are.4,
)

records_size-more : (records : List (List ℕ)) (bytes : List ℕ) → records_size (records ++ bytes ∷ []) ≡ records_size records + (5 + length bytes)
records_size-more [] bytes = omega arith
records_size-more (r ∷ rs) bytes = omega (arith, records_size-more rs bytes)

-- with a record more they end after it
pub end_with_record : (c : Content) (bytes framed : List ℕ) → IsFramed framed bytes → end_of (with_record c bytes) ≡ end_of c + length framed
end_with_record c bytes framed is = omega (
  arith,
  records_size-more c.records bytes,
  ap length is.split,
  length-append is.frame (is.gate ∷ []),
  ap length is.is_frame.split,
  length-append is.is_frame.field bytes,
  is.is_frame.four,
)

-- a file with some content is live, and its header is sound
module _ (file : List ℕ) (c : Content) (end : ℕ) (has : FileHas file c end) where
  abbrev behind_head : List ℕ
  behind_head = has.2.opened ++ has.2.gate ∷ has.2.behind

  split_head : file ≡ has.0 ++ behind_head
  split_head = has.2.split ∙ append_assoc has.0 has.2.opened (has.2.gate ∷ has.2.behind)

  some_behind : 1 ≤ length behind_head
  some_behind = omega (arith, length-append has.2.opened (has.2.gate ∷ has.2.behind))

  pub content_live : is_live file ≡ true
  content_live = live c.generation c.count c.snapshot has.0 has.1 file behind_head split_head some_behind

  pub content_sound : header_damage file ≡ None
  content_sound = sound c.generation c.count c.snapshot has.0 has.1 file behind_head split_head some_behind

  pub content_generation : generation_of file ≡ c.generation
  content_generation = generation_reads c.generation c.count c.snapshot has.0 has.1 file behind_head split_head

  -- its records end where its content says
  pub content_end : end ≡ end_of c
  content_end = omega (
    arith,
    has.2.place,
    length-append has.0 has.2.opened,
    head_size c.generation c.count c.snapshot has.0 has.1 file behind_head split_head,
    opened_size has.2.opened c.records has.2.are_open,
  )

regroup : (front field snapshot : List ℕ) (gate : ℕ) (behind : List ℕ) → front ++ ((field ++ snapshot) ++ gate ∷ []) ++ behind ≡ (front ++ field ++ snapshot ++ []) ++ gate ∷ behind
regroup front field snapshot gate behind = simp append_assoc

-- a file that was made has that content
pub made_has : (generation number : ℕ) (snapshot framed file : List ℕ) → 1 ≤ generation → generation ≤ greatest → number ≤ greatest → IsFramedState framed snapshot
    → IsMadeOf (header_bytes generation number) framed file → FileHas file (made generation number snapshot) (21 + length framed)
made_has generation number snapshot framed file some small few is made_of = (
  head,
  record {
    generation_field = to_be_bytes w64 generation;
    count_field = to_be_bytes w64 number;
    size_field = is.field;
    split = refl;
    generation_eight = refl;
    count_eight = refl;
    size_eight = is.eight;
    generation_is = from_be_bytes-to_be_bytes_8 generation (omega arith);
    count_is = from_be_bytes-to_be_bytes_8 number (omega arith);
    size_is = is.value;
    generation_some = some;
    generation_small = small;
    count_small = few;
  },
  record {
    opened = [];
    gate = is.gate;
    behind = made_of.0;
    split = made_of.1 ∙ ap (λ (l : List ℕ). front ++ l ++ made_of.0) is.split ∙ regroup front is.field snapshot is.gate made_of.0;
    are_open = refl;
    closed = is.closed;
    place = omega (arith, ap length is.split, length-append (is.field ++ snapshot) (is.gate ∷ []), length-append is.field snapshot, size);
  },
)
  where
    front : List ℕ
    front = 1 ∷ magic ++ to_be_bytes w64 generation ++ to_be_bytes w64 number

    head : List ℕ
    head = 1 ∷ magic ++ to_be_bytes w64 generation ++ to_be_bytes w64 number ++ is.field ++ snapshot

    size : length (head ++ []) ≡ 21 + length is.field + length snapshot
    size = omega (arith, length-append (is.field ++ snapshot) [], length-append is.field snapshot)

-- the content of both files is that of their bytes alone
holds_same : (f : File) (c : Content) (end : ℕ) (i j : Image) → file_in f i ≡ file_in f j → other_in f i ≡ other_in f j → Holds f c end j → Holds f c end i
holds_same f c end i j file other h = record {
  file = subst (λ (l : List ℕ). FileHas l c end) (sym file) h.file;
  other = subst (λ (l : List ℕ). IsLesser c.generation l) (sym other) h.other;
}

pub content_same : (c : Content) (i j : Image) → i.a ≡ j.a → i.b ≡ j.b → HasContent c j → HasContent c i
content_same c i j a b (inl none) = inl (record { a = ap is_live a ∙ none.0.a; b = ap is_live b ∙ none.0.b }, none.1)
content_same c i j a b (inr h) = inr (h.0, h.1, by_file h.0 h.2)
  where
    by_file : (f : File) → Holds f c h.1 j → Holds f c h.1 i
    by_file A holds = holds_same A c h.1 i j a b holds
    by_file B holds = holds_same B c h.1 i j b a holds

same_files : (f : File) (i j : Image) → file_in f i ≡ file_in f j → other_in f i ≡ other_in f j → (i.a ≡ j.a) × (i.b ≡ j.b)
same_files A i j file other = (file, other)
same_files B i j file other = (other, file)

-- what is held beside a file is held whatever stands in it, where it isn't live
module _ (f : File) (c : Content) (old : Image) (beside : IsHeldBeside f c old) where
  pub held : HasContent c old
  held = ⊎_elim (λ (none : NoneIsLive old × (c ≡ opening)). inl none) (λ (h : (end : ℕ) × Holds (other_file f) c end old). inr (other_file f, h.0, h.1)) beside

  held_same : (i : Image) → file_in f i ≡ file_in f old → other_in f i ≡ other_in f old → HasContent c i
  held_same i file other = let s = same_files f i old file other in content_same c i old s.0 s.1 held

  held_shut : (i : Image) → is_live (file_in f i) ≡ false → other_in f i ≡ other_in f old → HasContent c i
  held_shut i shut other =
      ⊎_elim
      (λ (none : NoneIsLive old × (c ≡ opening)). inl (none_live f i shut (ap is_live other ∙ none_other f none.0), none.1))
      (λ (h : (end : ℕ) × Holds (other_file f) c end old). inr (other_file f, h.0, beside_shut f i h.0 shut other h.1))
      beside
    where
      none_live : (f : File) (i : Image) → is_live (file_in f i) ≡ false → is_live (other_in f i) ≡ false → NoneIsLive i
      none_live A i p q = record { a = p; b = q }
      none_live B i p q = record { a = q; b = p }

      none_other : (f : File) → NoneIsLive old → is_live (other_in f old) ≡ false
      none_other A n = n.b
      none_other B n = n.a

      beside_shut : (f : File) (i : Image) (end : ℕ) → is_live (file_in f i) ≡ false → other_in f i ≡ other_in f old → Holds (other_file f) c end old → Holds (other_file f) c end i
      beside_shut A i end shut other h = record { file = subst (λ (l : List ℕ). FileHas l c end) (sym other) h.file; other = inl shut }
      beside_shut B i end shut other h = record { file = subst (λ (l : List ℕ). FileHas l c end) (sym other) h.file; other = inl shut }

  -- the other file is lesser than one of this generation
  pub beside_lesser : (generation : ℕ) → IsAboveOther f generation old → IsLesser generation (other_in f old)
  beside_lesser generation above =
      ⊎_elim
      (λ (none : NoneIsLive old × (c ≡ opening)). inl (none_other f none.0))
      (λ (h : (end : ℕ) × Holds (other_file f) c end old). inr (held_sound f h.0 h.1, above (held_live f h.0 h.1)))
      beside
    where
      none_other : (f : File) → NoneIsLive old → is_live (other_in f old) ≡ false
      none_other A n = n.b
      none_other B n = n.a

      held_sound : (f : File) (end : ℕ) → Holds (other_file f) c end old → header_damage (other_in f old) ≡ None
      held_sound A end h = content_sound old.b c end h.file
      held_sound B end h = content_sound old.a c end h.file

      held_live : (f : File) (end : ℕ) → Holds (other_file f) c end old → is_live (other_in f old) ≡ true
      held_live A end h = content_live old.b c end h.file
      held_live B end h = content_live old.a c end h.file

  -- a file that is made at any moment of its making
  pub made_or_before : (generation number : ℕ) (snapshot framed : List ℕ) → 1 ≤ generation → generation ≤ greatest → number ≤ greatest → IsFramedState framed snapshot
      → IsAboveOther f generation old → (i : Image) → IsBeforeShutOrMade f (header_bytes generation number) framed old i
      → IsBeforeOrMade f c (made generation number snapshot) old i
  made_or_before generation number snapshot framed some small few is above i b = record {
    holds = ⊎_elim
        (λ (same : file_in f i ≡ file_in f old). inl (held_same i same b.other))
        (λ (rest : (is_live (file_in f i) ≡ false) ⊎ IsMadeOf (header_bytes generation number) framed (file_in f i)). ⊎_elim
        (λ (shut : is_live (file_in f i) ≡ false). inl (held_shut i shut b.other))
        (λ (m : IsMadeOf (header_bytes generation number) framed (file_in f i)). inr (
          21 + length framed,
          record {
            file = made_has generation number snapshot framed (file_in f i) some small few is m;
            other = subst (λ (l : List ℕ). IsLesser generation l) (sym b.other) (beside_lesser generation above);
          },
        ))
        rest)
        b.file;
    other = b.other;
    said = b.said;
  }
