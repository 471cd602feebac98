-- A tree's place is known by its key. What a case or an item is judged by is the tree at its place.
use Rattle.std.specs.Prelude.{◌≡◌, ℕ, zero, suc, true, false, List, [], ◌∷◌, length, Option, Some, None, is_some, refl}
use Rattle.std.proofs.Common.{sym, ◌∙◌, ap, arith}
use Rattle.std.proofs.lemmas.Bool.{and_from, eqb-true, false_from_ne_true, or_left, or_right}
use Rattle.yw_state.proofs.Alike.{asked_of}
use Rattle.yw_state.proofs.Tests.{then_some}
use Rattle.yw_state.specs.Identity.{Ident, is_case_ident}
use Rattle.yw_state.specs.Judged.{case_place, has_rule, has_rules, kind_number, name_key, place_key, task_place}
use Rattle.yw_state.specs.State.{State, NetPart, ItemPart, ItemAt, is_case, is_item, is_target, item_at, item_part, net_part}
use Rattle.yw_state.specs.Well.{ParentsStand}
use Rattle.yw_state.specs.declared.tree.TreeKind.{TreeKind}
use Rattle.yw_state.specs.declared.tree.TreeKind.TheVariants.{Pre, Post, Select, External, Timeout, Abort}
use Rattle.yw_state.specs.declared.tree.TreePlace.{TreePlace}

abbrev kind_of : ℕ → TreeKind
kind_of zero = Pre
kind_of (suc zero) = Post
kind_of (suc (suc zero)) = Select
kind_of (suc (suc (suc zero))) = External
kind_of (suc (suc (suc (suc zero)))) = Timeout
kind_of (suc (suc (suc (suc (suc n))))) = Abort

same_kind : (kind : TreeKind) → kind_of (kind_number kind) ≡ kind
same_kind Pre = refl
same_kind Post = refl
same_kind Select = refl
same_kind External = refl
same_kind Timeout = refl
same_kind Abort = refl

abbrev name_of : List ℕ → Option (List ℕ)
name_of [] = None
name_of (x ∷ name) = Some name

same_name : (name : Option (List ℕ)) → name_of (name_key name) ≡ name
same_name None = refl
same_name (Some name) = refl

abbrev at_or : List (List ℕ) → ℕ → List ℕ
at_or [] n = []
at_or (x ∷ xs) zero = x
at_or (x ∷ xs) (suc n) = at_or xs n

abbrev number_in : List ℕ → ℕ
number_in [] = 0
number_in (n ∷ ns) = n

abbrev place_of : List (List ℕ) → TreePlace
place_of key = record { spec = at_or key 0; net = name_of (at_or key 1); task = name_of (at_or key 2); kind = kind_of (number_in (at_or key 3)) }

same_place : (p : TreePlace) → place_of (place_key p) ≡ p
same_place p = λ i. record { spec = p.spec; net = same_name p.net i; task = same_name p.task i; kind = same_kind p.kind i }

pub one_place : (p q : TreePlace) → place_key p ≡ place_key q → p ≡ q
one_place p q e = sym (same_place p) ∙ ap place_of e ∙ same_place q

module _ (s : State) (j : Ident) where
  -- ---- a case

  module _ (n : NetPart) (of_case : is_case_ident j ≡ true) (net : net_part s j ≡ Some n) where
    pub case_is_target : is_target s j ≡ true
    case_is_target = or_left (is_case s j) (is_item s j) (and_from (is_case_ident j) (is_some (net_part s j)) of_case (ap is_some net))

    pub case_has_rule : (kind : TreeKind) → has_rule s j kind ≡ has_rules s (case_place n.spec kind)
    case_has_rule kind = ap (λ b. asked_of b s (net_part s j) (item_at s j) kind) of_case ∙ ap (λ o. asked_of true s o (item_at s j) kind) net

  -- ---- an item

  module _ (x : ItemAt) (item : item_at s j ≡ Some x) where
    part_there : (y : ItemPart) × (item_part s j ≡ Some y)
    part_there = let found = then_some _ (item_part s j) x item in (found.0, found.1)

    pub item_is_target : is_target s j ≡ true
    item_is_target = or_right (is_case s j) (is_item s j) (ap is_some part_there.1)

    pub item_is_no_case : ParentsStand s → is_case_ident j ≡ false
    item_is_no_case parents =
        false_from_ne_true (is_case_ident j) (λ one. absurd (omega (arith, eqb-true (length j) 1 one, parents.item_depth j part_there.0 part_there.1)))

    pub item_has_rule : ParentsStand s → (kind : TreeKind) → has_rule s j kind ≡ has_rules s (task_place x.of_task kind)
    item_has_rule parents kind =
        ap (λ b. asked_of b s (net_part s j) (item_at s j) kind) (item_is_no_case parents) ∙ ap (λ o. asked_of false s (net_part s j) o kind) item
