-- What the items of a task make together, once one of them has made its values, as the definitions say it.
use Rattle.std.proofs.Common.{Bool, List, None, Option, Some, [], ap, arith, cond, false, length, map, refl, subst, suc, sym, true, ℕ, ◌++◌, ◌+◌, ◌∙◌, ◌∷◌, ◌≡◌, ◌≤◌}
use Rattle.std.proofs.lemmas.Bool.{and_parts}
use Rattle.std.specs.FinMap.Entries.{find}
use Rattle.std.specs.List.{cons_option, enumerate_from, filter_map}
use Rattle.std.specs.Ordering.{eq_by_cmp}
use Rattle.std.specs.Prelude.{option_and_then, slice_get, if◌then◌else◌}
use Rattle.yw_base.specs.Values.{may_hold}
use Rattle.yw_base.specs.declared.value.Sort.{Sort}
use Rattle.yw_base.specs.declared.value.Value.{Value}
use Rattle.yw_base.specs.declared.value.Value.TheVariants as values
use Rattle.yw_sites.proofs.Prefix.{same_refl}
use Rattle.yw_sites.specs.Entries.{Entries}
use Rattle.yw_spec.specs.declared.task.Many.{Many}
use Rattle.yw_spec.specs.declared.task.Param.{Param}
use Rattle.yw_spec.specs.declared.task.Task.{Task}
use Rattle.yw_state.proofs.MapLemmas.{by_name, tied}
use Rattle.yw_state.proofs.Tests.{by_test, never, nowhere, some_same}
use Rattle.yw_state.specs.Identity.{Ident, same}
use Rattle.yw_state.specs.Map.{lexical}
use Rattle.yw_state.specs.Passing as passing
use Rattle.yw_state.specs.Passing.{int_in, list_of, made_rows, made_rows_with, row_fits, set_row, text_in}
use Rattle.yw_state.specs.State.{ItemPart, Site}
use Rattle.yw_state.specs.Values.{Row}
use Rattle.yw_state.specs.Words.{is_completed}
use Rattle.yw_state.specs.declared.part.Stage.TheVariants.{Completed}
use Rattle.yw_steps.specs.Completes.{listed_once, made_once, outs_once}
use Rattle.yw_task.proofs.MadeLaw.{made_rows_are, set_row_is}
use Rattle.yw_task.specs.Making.{is_text, listed, made_by, out_value, outs_from}
use Rattle.yw_tree.proofs.Rows.{row_parts}
use Rattle.yw_tree.specs.declared.NetState.{NetState}
use Rattle.yw_tree.specs.declared.Node.{Node, Node-F, out-Node, out-roll-Node, roll-Node}
use Rattle.yw_tree.specs.declared.Run.{Run}

abbrev Level : Type 0
Level = Node-F NetState Node Run

-- ---- the items, with that one completed

module _ (j : Ident) (out : Row) where
  abbrev level : Node → Level
  level n = record (out-Node n) { stage = Completed; made = out }

  abbrev with_made : Node → Node
  with_made n = if same (out-Node n).id j then roll-Node (record (out-Node n) { stage = Completed; made = out }) else n

  -- as `made_rows_with` has it
  abbrev as_completed : Ident × ItemPart → Ident × ItemPart
  as_completed e = if same e.0 j then (e.0, record e.1 { stage = Completed; made = out }) else e

  abbrev its_part : Level → Ident × ItemPart
  its_part l = (l.id, record { task = l.task; stage = l.stage; given = l.given; made = l.made; who = l.who })

  one_part : (n : Node) → as_completed (its_part (out-Node n)) ≡ its_part (out-Node (with_made n))
  one_part n = by_test (same (out-Node n).id j)
      (λ (t : same (out-Node n).id j ≡ true).
      ap (λ (b : Bool). cond b (its_part (level n)) (its_part (out-Node n))) t ∙ ap its_part (sym (out-roll-Node (level n)))
      ∙ ap (λ (b : Bool). its_part (out-Node (cond b (roll-Node (level n)) n))) (sym t))
      (λ (t : same (out-Node n).id j ≡ false).
      ap (λ (b : Bool). cond b (its_part (level n)) (its_part (out-Node n))) t ∙ ap (λ (b : Bool). its_part (out-Node (cond b (roll-Node (level n)) n))) (sym t))

  parts_are : (ns : List Node) → map as_completed (row_parts ns) ≡ row_parts (map with_made ns)
  parts_are [] = refl
  parts_are (n ∷ ns) = ap (λ e. e ∷ map as_completed (row_parts ns)) (one_part n) ∙ ap (λ es. its_part (out-Node (with_made n)) ∷ es) (parts_are ns)

  made_there : (k : ℕ) (n : Node) → made_by k (with_made n) ≡ made_once j out k n
  made_there k n = by_test (same (out-Node n).id j)
      (λ (t : same (out-Node n).id j ≡ true).
      ap (λ (b : Bool). made_by k (cond b (roll-Node (level n)) n)) t ∙ ap (by_level k) (out-roll-Node (level n)) ∙ ap (λ (b : Bool). cond b (slice_get out k) (made_by k n)) (sym t))
      (λ (t : same (out-Node n).id j ≡ false).
      ap (λ (b : Bool). made_by k (cond b (roll-Node (level n)) n)) t ∙ ap (λ (b : Bool). cond b (slice_get out k) (made_by k n)) (sym t))
    where
      by_level : ℕ → Level → Option Value
      by_level i l = if is_completed l.stage then slice_get l.made i else None

  -- what is gathered of a parameter
  gathered : {B : Type 0} (g : Value → Option B) (k : ℕ) (ns : List Node)
      → filter_map (λ n. option_and_then g (made_by k n)) (map with_made ns) ≡ filter_map (λ n. option_and_then g (made_once j out k n)) ns
  gathered g k [] = refl
  gathered g k (n ∷ ns) =
      ap (λ o. cons_option (option_and_then g o) (filter_map (λ m. option_and_then g (made_by k m)) (map with_made ns))) (made_there k n)
      ∙ ap (cons_option (option_and_then g (made_once j out k n))) (gathered g k ns)

  listed_are : (sort : Sort) (k : ℕ) (ns : List Node) → listed sort k (map with_made ns) ≡ listed_once j out sort k ns
  listed_are sort k ns =
      (λ i. if is_text sort then values.Texts (gathered text_in k ns i) else values.Ints (gathered int_in k ns i))

  outs_are : (t : Task) (m : Many) → t.many ≡ Some m → (ns : List Node) (k : ℕ) (ps : List Param) → outs_from t (map with_made ns) k ps ≡ outs_once j out ns k ps
  outs_are t m many ns k [] = refl
  outs_are t m many ns k (p ∷ ps) =
      ap (λ (o : Option Many). out_value o p.sort k (map with_made ns) ∷ outs_from t (map with_made ns) (k + 1) ps) many
      ∙ ap (λ v. v ∷ outs_from t (map with_made ns) (k + 1) ps) (listed_are p.sort k ns)
      ∙ ap (λ vs. listed_once j out p.sort k ns ∷ vs) (outs_are t m many ns (k + 1) ps)

  -- of a task that runs over a list
  pub speaks_many : (t : Task) (m : Many) → t.many ≡ Some m → (ns : List Node) (vals : Row) → set_row t (made_rows_with (row_parts ns) j out) vals ≡ outs_once j out ns 0 t.outs ++ vals
  speaks_many t m many ns vals =
      ap (λ es. set_row t (made_rows es) vals) (parts_are ns)
      ∙ ap (λ rows. set_row t rows vals) (made_rows_are (map with_made ns))
      ∙ sym (set_row_is t (map with_made ns) vals)
      ∙ ap (λ row. row ++ vals) (outs_are t m many ns 0 t.outs)

-- ---- of a task with one item

row_of_one : (at : ℕ → Option Value) (n : ℕ) (ps : List Param) (vs : Row) → row_fits ps vs ≡ true → ((k : ℕ) → at (n + k) ≡ slice_get vs k)
    → map (λ (e : ℕ × Param). passing.out_value None e.1.sort (cons_option (at e.0) [])) (enumerate_from n ps) ≡ vs
row_of_one at n [] [] f h = refl
row_of_one at n [] (v ∷ vs) f h = never f
row_of_one at n (p ∷ ps) [] f h = never f
row_of_one at n (p ∷ ps) (v ∷ vs) f h =
    let here : at n ≡ Some v = (let e : n ≡ n + 0 = omega arith in ap at e ∙ h 0) in
    let rest : Row = map (λ (e : ℕ × Param). passing.out_value None e.1.sort (cons_option (at e.0) [])) (enumerate_from (n + 1) ps) in
    ap (λ (o : Option Value). passing.out_value None p.sort (cons_option o []) ∷ rest) here
    ∙ ap (λ (r : Row). v ∷ r) (row_of_one at (n + 1) ps vs (and_parts (may_hold p.sort v) (row_fits ps vs) f).1 (λ k. let e : n + 1 + k ≡ n + suc k = omega arith in ap at e ∙ h (suc k)))

pub speaks_one : (t : Task) → t.many ≡ None → (j : Ident) (out : Row) → row_fits t.outs out ≡ true → (p : ItemPart) (vals : Row) → set_row t (made_rows_with ((j, p) ∷ []) j out) vals ≡ out ++ vals
speaks_one t one j out fits p vals =
    let q : ItemPart = record p { stage = Completed; made = out } in
    ap (λ (b : Bool). set_row t (made_rows (cond b (j, q) (j, p) ∷ [])) vals) (same_refl j)
    ∙ ap (λ (o : Option Many). map (λ (e : ℕ × Param). passing.out_value o e.1.sort (cons_option (slice_get out e.0) [])) (enumerate_from 0 t.outs) ++ vals) one
    ∙ ap (λ (r : Row). r ++ vals) (row_of_one (slice_get out) 0 t.outs out fits (λ k. let e : 0 + k ≡ k = omega arith in ap (slice_get out) e))

-- ---- a list of one

module _ {B : Type 0} (g : Ident × Site → Option B) (j : Ident) (x : Site) (y : B) (gives : g (j, x) ≡ Some y) where
  none_left : (xs : List B) → length xs ≤ 0 → xs ≡ []
  none_left [] l = refl
  none_left (z ∷ zs) l = absurd (omega arith)

  -- what stands at j is all that is picked, where no more than one is
  pub only_one : (es : Entries) → find lexical j es ≡ Some x → length (filter_map g es) ≤ 1 → filter_map g es ≡ y ∷ []
  only_one [] f l = nowhere f
  only_one (e ∷ es) f l =
      by_test (eq_by_cmp lexical j e.0)
      (λ (t : eq_by_cmp lexical j e.0 ≡ true).
      let key : j ≡ e.0 = tied by_name j e.0 t in
      let val : e.1 ≡ x = some_same e.1 x (sym (ap (λ (b : Bool). cond b (Some e.1) (find lexical j es)) t) ∙ f) in
      let here : g e ≡ Some y = (λ i. g (sym key i, val i)) ∙ gives in
      let all : filter_map g (e ∷ es) ≡ y ∷ filter_map g es = ap (λ o. cons_option o (filter_map g es)) here in
      let many : suc (length (filter_map g es)) ≤ 1 = subst (λ zs. length zs ≤ 1) all l in
      all ∙ ap (λ zs. y ∷ zs) (none_left (filter_map g es) (omega arith)))
      (λ (t : eq_by_cmp lexical j e.0 ≡ false).
      let rest : find lexical j es ≡ Some x = sym (ap (λ (b : Bool). cond b (Some e.1) (find lexical j es)) t) ∙ f in
      skip (g e) refl (only_one es rest) l)
    where
      skip : (o : Option B) → g e ≡ o → (length (filter_map g es) ≤ 1 → filter_map g es ≡ y ∷ []) → length (filter_map g (e ∷ es)) ≤ 1 → filter_map g (e ∷ es) ≡ y ∷ []
      skip None is so few =
          let all : filter_map g (e ∷ es) ≡ filter_map g es = ap (λ o. cons_option o (filter_map g es)) is in
          all ∙ so (subst (λ zs. length zs ≤ 1) all few)
      skip (Some z) is so few =
          let all : filter_map g (e ∷ es) ≡ z ∷ filter_map g es = ap (λ o. cons_option o (filter_map g es)) is in
          let many : suc (length (filter_map g es)) ≤ 1 = subst (λ zs. length zs ≤ 1) all few in
          let least : filter_map g es ≡ y ∷ [] = so (omega arith) in
          let one : suc 0 ≡ length (filter_map g es) = sym (ap length least) in
          absurd (omega arith)
