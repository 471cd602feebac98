-- What a file has is one content, and so is what both hold.
use Rattle.std.proofs.Common.{◌≡◌, ◌≢◌, ℕ, ◌+◌, ◌<◌, List, [], ◌∷◌, ◌++◌, length, take, drop, false, true, inl, inr, refl, sym, ap, ◌∙◌, arith, append_assoc, length-append}
use Rattle.std.proofs.lemmas.List.{take_at, drop_at}
use Rattle.std.specs.Int.{w32, from_be_bytes}
use Rattle.yw_outside.specs.declared.desk.File.{File}
use Rattle.yw_outside.specs.declared.desk.File.TheVariants.{A, B}
use Rattle.yw_outside.specs.declared.image.Image.{Image}
use Rattle.yw_journal.specs.Files.{Content, FileHas, HasContent, Holds, IsHead, IsLesser, NoneIsLive, magic}
use Rattle.yw_journal.specs.FileLaws.{content_generation, content_live, count_reads, generation_reads, head_size, size_reads}
use Rattle.yw_journal.specs.Records.{AreOpen, IsFrame}

-- two records at one front are one
pub same_frame : (f g r q x y : List ℕ) → IsFrame f r → IsFrame g q → f ++ x ≡ g ++ y → (r ≡ q) × (f ≡ g) × (x ≡ y)
same_frame f g r q x y a b e =
    let whole : a.field ++ (r ++ x) ≡ b.field ++ (q ++ y) = sym (ap (λ (l : List ℕ). l ++ x) a.split ∙ append_assoc a.field r x) ∙ e ∙ ap (λ (l : List ℕ). l ++ y) b.split ∙ append_assoc b.field q y in
    let field : a.field ≡ b.field = sym (take_at a.field (r ++ x) 4 a.four) ∙ ap (take 4) whole ∙ take_at b.field (q ++ y) 4 b.four in
    let size : length r ≡ length q = sym a.value ∙ ap (from_be_bytes w32) field ∙ b.value in
    let rest : r ++ x ≡ q ++ y = sym (drop_at a.field (r ++ x) 4 a.four) ∙ ap (drop 4) whole ∙ drop_at b.field (q ++ y) 4 b.four in
    let bytes : r ≡ q = sym (take_at r x (length r) refl) ∙ ap (take (length r)) rest ∙ take_at q y (length r) (sym size) in (
      bytes,
      a.split ∙ ap (λ (l : List ℕ). l ++ r) field ∙ ap (λ (l : List ℕ). b.field ++ l) bytes ∙ sym b.split,
      sym (drop_at r x (length r) refl) ∙ ap (drop (length r)) rest ∙ drop_at q y (length r) (sym size),
    )

first_is : (gate : ℕ) (p r : List ℕ) → gate ∷ p ≡ 1 ∷ r → gate ≡ 1
first_is gate p r e = cc

same_behind : (xs ys : List ℕ) → 1 ∷ xs ≡ 1 ∷ ys → xs ≡ ys
same_behind xs ys e = cc

-- where a closed gate ends the records, no open one does
closed_is_open : (gate : ℕ) (p tail : List ℕ) (y : List ℕ) (ys : List (List ℕ)) (b : List ℕ) → gate ≢ 1 → AreOpen b (y ∷ ys) → gate ∷ p ≡ b ++ tail → ⊥
closed_is_open gate p tail y ys b closed are e = closed (first_is gate p ((are.0 ++ are.1) ++ tail) (e ∙ ap (λ (l : List ℕ). l ++ tail) are.2))

-- up to the first closed gate stand the same records
same_records : (xs ys : List (List ℕ)) (a b : List ℕ) (g h : ℕ) (p q : List ℕ) → a ++ g ∷ p ≡ b ++ h ∷ q → AreOpen a xs → AreOpen b ys → g ≢ 1 → h ≢ 1 → (xs ≡ ys) × (a ≡ b)
same_records [] [] a b g h p q e are bare gate other = (refl, are ∙ sym bare)
same_records [] (y ∷ ys) a b g h p q e are bare gate other =
    absurd (closed_is_open g p (h ∷ q) y ys b gate bare (sym (ap (λ (l : List ℕ). l ++ g ∷ p) are) ∙ e))
same_records (x ∷ xs) [] a b g h p q e are bare gate other =
    absurd (closed_is_open h q (g ∷ p) x xs a other are (sym (ap (λ (l : List ℕ). l ++ h ∷ q) bare) ∙ sym e))
same_records (x ∷ xs) (y ∷ ys) a b g h p q e are bare gate other =
    let whole : are.0 ++ (are.1 ++ g ∷ p) ≡ bare.0 ++ (bare.1 ++ h ∷ q) =
    same_behind (are.0 ++ (are.1 ++ g ∷ p)) (bare.0 ++ (bare.1 ++ h ∷ q))
    (ap (λ (l : List ℕ). 1 ∷ l) (sym (append_assoc are.0 are.1 (g ∷ p))) ∙ sym (ap (λ (l : List ℕ). l ++ g ∷ p) are.2) ∙ e ∙ ap (λ (l : List ℕ). l ++ h ∷ q) bare.2 ∙ ap (λ (l : List ℕ). 1 ∷ l) (append_assoc bare.0 bare.1 (h ∷ q))) in
    let first = same_frame are.0 bare.0 x y (are.1 ++ g ∷ p) (bare.1 ++ h ∷ q) are.3 bare.3 whole in
    let later = same_records xs ys are.1 bare.1 g h p q first.2 are.4 bare.4 gate other in (
      ap (λ (l : List ℕ). l ∷ xs) first.0 ∙ ap (λ (l : List (List ℕ)). y ∷ l) later.0,
      are.2 ∙ ap (λ (l : List ℕ). 1 ∷ l ++ are.1) first.1 ∙ ap (λ (l : List ℕ). 1 ∷ bare.0 ++ l) later.1 ∙ sym bare.2,
    )

-- a snapshot is what its head has behind its fields
snapshot_at : (generation count : ℕ) (snapshot head : List ℕ) → IsHead generation count snapshot head → drop 29 head ≡ snapshot
snapshot_at generation count snapshot head is =
    let front = 1 ∷ magic ++ is.generation_field ++ is.count_field ++ is.size_field in
    ap (drop 29) is.split ∙ drop_at front snapshot 29 (omega (
      arith,
      length-append (1 ∷ magic ++ is.generation_field ++ is.count_field) is.size_field,
      length-append (1 ∷ magic ++ is.generation_field) is.count_field,
      length-append (1 ∷ magic) is.generation_field,
      is.generation_eight,
      is.count_eight,
      is.size_eight,
    ))

same_content : (c d : Content) → c.generation ≡ d.generation → c.count ≡ d.count → c.snapshot ≡ d.snapshot → c.records ≡ d.records → c ≡ d
same_content c d generation count snapshot records =
    ap (λ (n : ℕ). let e : Content = record { generation = n; count = c.count; snapshot = c.snapshot; records = c.records } in e) generation
    ∙ ap (λ (n : ℕ). let e : Content = record { generation = d.generation; count = n; snapshot = c.snapshot; records = c.records } in e) count
    ∙ ap (λ (l : List ℕ). let e : Content = record { generation = d.generation; count = d.count; snapshot = l; records = c.records } in e) snapshot
    ∙ ap (λ (l : List (List ℕ)). let e : Content = record { generation = d.generation; count = d.count; snapshot = d.snapshot; records = l } in e) records

-- A file has one content, and its records end at one offset.
pub content_once : (file : List ℕ) (c d : Content) (end stop : ℕ) → FileHas file c end → FileHas file d stop → (c ≡ d) × (end ≡ stop)
content_once file c d end stop h k =
    let at = h.2 in
    let to = k.2 in
    let behind = at.opened ++ at.gate ∷ at.behind in
    let other = to.opened ++ to.gate ∷ to.behind in
    let split : file ≡ h.0 ++ behind = at.split ∙ append_assoc h.0 at.opened (at.gate ∷ at.behind) in
    let apart : file ≡ k.0 ++ other = to.split ∙ append_assoc k.0 to.opened (to.gate ∷ to.behind) in
    let generation : c.generation ≡ d.generation = sym (generation_reads c.generation c.count c.snapshot h.0 h.1 file behind split) ∙ generation_reads d.generation d.count d.snapshot k.0 k.1 file other apart in
    let count : c.count ≡ d.count = sym (count_reads c.generation c.count c.snapshot h.0 h.1 file behind split) ∙ count_reads d.generation d.count d.snapshot k.0 k.1 file other apart in
    let size : length c.snapshot ≡ length d.snapshot = sym (size_reads c.generation c.count c.snapshot h.0 h.1 file behind split) ∙ size_reads d.generation d.count d.snapshot k.0 k.1 file other apart in
    let long : length k.0 ≡ length h.0 = omega (
      arith,
      size,
      head_size c.generation c.count c.snapshot h.0 h.1 file behind split,
      head_size d.generation d.count d.snapshot k.0 k.1 file other apart,
    ) in
    let whole : h.0 ++ behind ≡ k.0 ++ other = sym split ∙ apart in
    let head : h.0 ≡ k.0 = sym (take_at h.0 behind (length h.0) refl) ∙ ap (take (length h.0)) whole ∙ take_at k.0 other (length h.0) long in
    let rest : behind ≡ other = sym (drop_at h.0 behind (length h.0) refl) ∙ ap (drop (length h.0)) whole ∙ drop_at k.0 other (length h.0) long in
    let snapshot : c.snapshot ≡ d.snapshot =
    sym (snapshot_at c.generation c.count c.snapshot h.0 h.1) ∙ ap (drop 29) head ∙ snapshot_at d.generation d.count d.snapshot k.0 k.1 in
    let same = same_records c.records d.records at.opened to.opened at.gate to.gate at.behind to.behind rest at.are_open to.are_open at.closed to.closed in (
      same_content c d generation count snapshot same.0,
      sym at.place ∙ ap (λ (l : List ℕ). length (l ++ at.opened) + 1) head ∙ ap (λ (l : List ℕ). length (k.0 ++ l) + 1) same.1 ∙ to.place,
    )

false_true : false ≡ true → ⊥
false_true e = cc

-- the file of a content that is held is live
none_held : (f : File) (c : Content) (end : ℕ) (i : Image) → NoneIsLive i → Holds f c end i → ⊥
none_held A c end i none h = false_true (sym none.a ∙ content_live i.a c end h.file)
none_held B c end i none h = false_true (sym none.b ∙ content_live i.b c end h.file)

lesser_then : (file : List ℕ) (c : Content) (end n : ℕ) → FileHas file c end → IsLesser n file → c.generation < n
lesser_then file c end n has (inl none) = absurd (false_true (sym none ∙ content_live file c end has))
lesser_then file c end n has (inr lesser) = omega (arith, lesser.1, content_generation file c end has)

-- not both files are the live one of higher generation
both_held : (c d : Content) (end stop : ℕ) (i : Image) → Holds A c end i → Holds B d stop i → ⊥
both_held c d end stop i a b = omega (arith, lesser_then i.b d stop c.generation b.file a.other, lesser_then i.a c end d.generation a.file b.other)

held_in_one : (f g : File) (c d : Content) (end stop : ℕ) (i : Image) → Holds f c end i → Holds g d stop i → c ≡ d
held_in_one A A c d end stop i h k = (content_once i.a c d end stop h.file k.file).0
held_in_one B B c d end stop i h k = (content_once i.b c d end stop h.file k.file).0
held_in_one A B c d end stop i h k = absurd (both_held c d end stop i h k)
held_in_one B A c d end stop i h k = absurd (both_held d c stop end i k h)

-- Both files hold one content.
pub held_content_once : (i : Image) (c d : Content) → HasContent c i → HasContent d i → c ≡ d
held_content_once i c d (inl none) (inl other) = none.1 ∙ sym other.1
held_content_once i c d (inl none) (inr k) = absurd (none_held k.0 d k.1 i none.0 k.2)
held_content_once i c d (inr h) (inl none) = absurd (none_held h.0 c h.1 i none.0 h.2)
held_content_once i c d (inr h) (inr k) = held_in_one h.0 k.0 c d h.1 k.1 i h.2 k.2
