-- The bytes of a tree's kind, of its place, of primitives and of conclusions tell where they end.
use Rattle.std.proofs.Common.{◌≡◌, ◌&&◌, ◌==◌, ◌<◌, ℕ, List, [], ◌∷◌, ◌++◌, length, Bool, true, false, if◌then◌else◌, refl, sym, ap, ◌∙◌, arith, drop, get_or, Option}
use Rattle.yw_base.specs.Spelling.{is_name}
use Rattle.yw_codec.specs.FieldLaws.{head_of, name_apart, name_or_none_apart, none_of_nothing, pair_apart}
use Rattle.yw_codec.specs.Fields.{name_bytes, is_name_or_none, name_or_none_bytes, is_list, list_bytes, is_kind, kind_bytes, is_tree, tree_bytes, is_primitive, primitive_bytes, is_conclusion, conclusion_bytes}
use Rattle.yw_codec.specs.Forms.{Stands, NoneStands, AreApart, pair_is, pair_bytes}
use Rattle.yw_codec.specs.ListLaws.{list_apart}
use Rattle.yw_state.specs.declared.tree.Conclusion.{Conclusion}
use Rattle.yw_state.specs.declared.tree.Conclusion.TheVariants as conclusions
use Rattle.yw_state.specs.declared.tree.Primitive.{Primitive}
use Rattle.yw_state.specs.declared.tree.Primitive.TheVariants as primitives
use Rattle.yw_state.specs.declared.tree.TreeKind.{TreeKind}
use Rattle.yw_state.specs.declared.tree.TreeKind.TheVariants as kinds
use Rattle.yw_state.specs.declared.tree.TreePlace.{TreePlace}

-- ---- kinds: each is told by its byte

kind_of : ℕ → TreeKind
kind_of byte =
    if byte == 0 then kinds.Pre else if byte == 1 then kinds.Post else if byte == 2 then kinds.Select
    else if byte == 3 then kinds.External else if byte == 4 then kinds.Timeout else kinds.Abort

kind_is : (kind : TreeKind) (rest : List ℕ) → kind_of (head_of (kind_bytes kind ++ rest)) ≡ kind
unfolding kind_of
kind_is kinds.Pre rest = refl
kind_is kinds.Post rest = refl
kind_is kinds.Select rest = refl
kind_is kinds.External rest = refl
kind_is kinds.Timeout rest = refl
kind_is kinds.Abort rest = refl

kind_rest : (kind : TreeKind) (rest : List ℕ) → drop 1 (kind_bytes kind ++ rest) ≡ rest
kind_rest kinds.Pre rest = refl
kind_rest kind rest = refl

pub kind_apart : AreApart is_kind kind_bytes
kind_apart v w whole x y s t =
    let e : kind_bytes v ++ x ≡ kind_bytes w ++ y = sym s.split ∙ t.split in (
      sym (kind_is v x) ∙ ap (λ (l : List ℕ). kind_of (head_of l)) e ∙ kind_is w y,
      sym (kind_rest v x) ∙ ap (drop 1) e ∙ kind_rest w y,
    )

-- ---- places of trees

abbrev place_fields : TreePlace → (List ℕ) × (Option (List ℕ) × (Option (List ℕ) × TreeKind))
place_fields place = (place.spec, (place.net, (place.task, place.kind)))

abbrev place_of : (List ℕ) × (Option (List ℕ) × (Option (List ℕ) × TreeKind)) → TreePlace
place_of p = record { spec = p.0; net = p.1.0; task = p.1.1.0; kind = p.1.1.1 }

place_stands : (place : TreePlace) (whole rest : List ℕ) → Stands is_tree tree_bytes whole place rest
    → Stands (pair_is is_name (pair_is is_name_or_none (pair_is is_name_or_none is_kind))) (pair_bytes name_bytes (pair_bytes name_or_none_bytes (pair_bytes name_or_none_bytes kind_bytes))) whole (place_fields place) rest
place_stands place whole rest s = record { in_range = s.in_range; split = s.split }

pub tree_apart : AreApart is_tree tree_bytes
tree_apart v w whole x y s t =
    let same = pair_apart is_name name_bytes (pair_is is_name_or_none (pair_is is_name_or_none is_kind)) (pair_bytes name_or_none_bytes (pair_bytes name_or_none_bytes kind_bytes)) name_apart
    (pair_apart is_name_or_none name_or_none_bytes (pair_is is_name_or_none is_kind) (pair_bytes name_or_none_bytes kind_bytes) name_or_none_apart
    (pair_apart is_name_or_none name_or_none_bytes is_kind kind_bytes name_or_none_apart kind_apart))
    (place_fields v) (place_fields w) whole x y (place_stands v whole x s) (place_stands w whole y t) in
    (ap place_of same.0, same.1)

pub no_tree : (whole : List ℕ) → NoneStands (pair_is is_name (pair_is is_name_or_none (pair_is is_name_or_none is_kind))) (pair_bytes name_bytes (pair_bytes name_or_none_bytes (pair_bytes name_or_none_bytes kind_bytes))) whole → NoneStands is_tree tree_bytes whole
no_tree whole none place rest s = none (place_fields place) rest (place_stands place whole rest s)

-- ---- primitives: all but the last are told by their byte

abbrev last_tag : ℕ
last_tag = 8

primitive_of : ℕ → Primitive
primitive_of byte =
    if byte == 0 then primitives.SuspendItem else if byte == 1 then primitives.ContinueItem else if byte == 2 then primitives.RestartItem
    else if byte == 3 then primitives.CompleteItem else if byte == 4 then primitives.RemoveItem else if byte == 5 then primitives.SuspendCase
    else if byte == 6 then primitives.ContinueCase else primitives.RemoveCase

primitive_is : (p : Primitive) (rest : List ℕ) → is_primitive p ≡ true → head_of (primitive_bytes p ++ rest) < last_tag → primitive_of (head_of (primitive_bytes p ++ rest)) ≡ p
unfolding primitive_of
primitive_is primitives.SuspendItem rest is small = refl
primitive_is primitives.ContinueItem rest is small = refl
primitive_is primitives.RestartItem rest is small = refl
primitive_is primitives.CompleteItem rest is small = refl
primitive_is primitives.RemoveItem rest is small = refl
primitive_is primitives.SuspendCase rest is small = refl
primitive_is primitives.ContinueCase rest is small = refl
primitive_is primitives.RemoveCase rest is small = refl
primitive_is (primitives.Compensate spec) rest is small = absurd (omega (arith, small))
primitive_is (primitives.Unknown text) rest is small = cc

primitive_rest : (p : Primitive) (rest : List ℕ) → is_primitive p ≡ true → head_of (primitive_bytes p ++ rest) < last_tag → drop 1 (primitive_bytes p ++ rest) ≡ rest
primitive_rest (primitives.Compensate spec) rest is small = absurd (omega (arith, small))
primitive_rest (primitives.Unknown text) rest is small = cc
primitive_rest p rest is small = refl

-- the last has a name behind its byte
compensate_of : (mid : List ℕ) (p : Primitive) (rest : List ℕ) → Stands is_primitive primitive_bytes (last_tag ∷ mid) p rest
    → (spec : List ℕ) × (p ≡ primitives.Compensate spec) × Stands is_name name_bytes mid spec rest
compensate_of mid (primitives.Compensate spec) rest s = (spec, refl, record { in_range = s.in_range; split = ap (drop 1) s.split })
compensate_of mid (primitives.Unknown text) rest s = absurd (not_so s.in_range)
  where
    not_so : false ≡ true → ⊥
    not_so h = cc
compensate_of mid p rest s = absurd (omega (arith, ap (λ (l : List ℕ). get_or l 0 0) s.split))

pub no_compensate : (mid : List ℕ) → NoneStands is_name name_bytes mid → NoneStands is_primitive primitive_bytes (8 ∷ mid)
no_compensate mid none p rest s = let named = compensate_of mid p rest s in none named.0 rest named.2

-- both are told by one byte, which is none with a name behind it
by_byte : (v w : Primitive) (whole x y : List ℕ) → Stands is_primitive primitive_bytes whole v x → Stands is_primitive primitive_bytes whole w y
    → head_of (primitive_bytes v ++ x) < last_tag → (v ≡ w) × (x ≡ y)
by_byte v w whole x y s t small =
    let e : primitive_bytes v ++ x ≡ primitive_bytes w ++ y = sym s.split ∙ t.split in
    let other : head_of (primitive_bytes w ++ y) < last_tag = omega (arith, small, ap head_of e) in (
      sym (primitive_is v x s.in_range small) ∙ ap (λ (l : List ℕ). primitive_of (head_of l)) e ∙ primitive_is w y t.in_range other,
      sym (primitive_rest v x s.in_range small) ∙ ap (drop 1) e ∙ primitive_rest w y t.in_range other,
    )

pub primitive_apart : AreApart is_primitive primitive_bytes
primitive_apart (primitives.Compensate spec) w whole x y s t =
    let named = compensate_of (name_bytes spec ++ x) w y (record { in_range = t.in_range; split = sym s.split ∙ t.split }) in
    let same = name_apart spec named.0 (name_bytes spec ++ x) x y (record { in_range = s.in_range; split = refl }) named.2 in
    (ap (λ (n : List ℕ). primitives.Compensate n) same.0 ∙ sym named.1, same.1)
primitive_apart (primitives.Unknown text) w whole x y s t = absurd (not_so s.in_range)
  where
    not_so : false ≡ true → ⊥
    not_so h = cc
primitive_apart v w whole x y s t = by_byte v w whole x y s t (omega arith)

-- no primitive has another byte, and none has no byte
pub no_primitive : (byte : ℕ) (mid : List ℕ) → last_tag < byte → NoneStands is_primitive primitive_bytes (byte ∷ mid)
no_primitive byte mid large (primitives.Unknown text) rest s = absurd (not_so s.in_range)
  where
    not_so : false ≡ true → ⊥
    not_so h = cc
no_primitive byte mid large p rest s = omega (arith, large, ap (λ (l : List ℕ). get_or l 0 0) s.split)

-- ---- conclusions

pub conclusion_apart : AreApart is_conclusion conclusion_bytes
conclusion_apart (conclusions.Worklet a) (conclusions.Worklet b) whole x y s t =
    let same = name_apart a b (drop 1 whole) x y (record { in_range = s.in_range; split = ap (drop 1) s.split }) (record { in_range = t.in_range; split = ap (drop 1) t.split }) in
    (ap (λ (v : List ℕ). conclusions.Worklet v) same.0, same.1)
conclusion_apart (conclusions.Exlet a) (conclusions.Exlet b) whole x y s t =
    let same = list_apart is_primitive primitive_bytes primitive_apart a b (drop 1 whole) x y
    (record { in_range = s.in_range; split = ap (drop 1) s.split }) (record { in_range = t.in_range; split = ap (drop 1) t.split }) in
    (ap (λ (v : List Primitive). conclusions.Exlet v) same.0, same.1)
conclusion_apart v w whole x y s t = absurd (omega (arith, ap (λ (l : List ℕ). get_or l 0 0) (sym s.split ∙ t.split)))

pub no_worklet : (mid : List ℕ) → NoneStands is_name name_bytes mid → NoneStands is_conclusion conclusion_bytes (0 ∷ mid)
no_worklet mid none (conclusions.Worklet spec) rest s = none spec rest (record { in_range = s.in_range; split = ap (drop 1) s.split })
no_worklet mid none c rest s = absurd (omega (arith, ap (λ (l : List ℕ). get_or l 0 0) s.split))

pub no_exlet : (mid : List ℕ) → NoneStands (is_list is_primitive) (list_bytes primitive_bytes) mid → NoneStands is_conclusion conclusion_bytes (1 ∷ mid)
no_exlet mid none (conclusions.Exlet steps) rest s = none steps rest (record { in_range = s.in_range; split = ap (drop 1) s.split })
no_exlet mid none c rest s = absurd (omega (arith, ap (λ (l : List ℕ). get_or l 0 0) s.split))
