-- The rows of sorted entries ascend.
use Rattle.std.proofs.Common.{◌≡◌, ◌&&◌, ℕ, Bool, true, false, List, [], ◌∷◌, Option, Some, inl, inr, refl, sym, ap, ◌∙◌}
use Rattle.std.specs.FinMap.Entries.{below_all, is_sorted}
use Rattle.std.specs.List.{cons_option, filter_map}
use Rattle.std.specs.Ordering.{is_lt, nat_cmp}
use Rattle.std.specs.Prelude.{T, map}
use Rattle.std.specs.declared.cmp.Ordering.{Ordering}
use Rattle.yw_sites.proofs.Picked.{halves}
use Rattle.yw_state.specs.Judged.{place_key}
use Rattle.yw_state.specs.Map.{entries, lexical, lexical_each}
use Rattle.yw_state.specs.RuleTree.{TreeRule}
use Rattle.yw_state.specs.State.{State}
use Rattle.yw_state.specs.Identity.{Ident}
use Rattle.yw_state.specs.Texts.{Reader}
use Rattle.yw_state.specs.Well.{IsWell}
use Rattle.yw_states.proofs.Stored.{row_at, row_is, trees_fit}
use Rattle.yw_states.proofs.Lists.{Each}
use Rattle.yw_states.proofs.Nets.{parts_sorted}
use Rattle.yw_states.specs.Ascending.{ascend, ident_before}
use Rattle.yw_states.specs.Rising.{KeysAscend}
use Rattle.yw_states.specs.Rows.{due_row_before, ended_before, item_row_before, net_row_before, person_before, run_row_before, tree_before}
use Rattle.yw_states.specs.States.{due_of_site, due_row, ended_row, item_of_site, item_row, mark_of_site, net_of_site, net_row, parts, person_row, rows_of, run_of_site, run_row, tree_row}
use Rattle.yw_states.specs.declared.kept.TreeRow.{TreeRow}

is_so : (b : Bool) → T b → b ≡ true
is_so true h = refl
is_so false h = absurd h

both_so : (p q : Bool) → p ≡ true → q ≡ true → (p && q) ≡ true
both_so p q e d = cc

module _ {K X Y : Type 0} (R : K → K → Ordering) (f : K × X → Y) (before : Y → Y → Bool)
    (by_key : (a b : K × X) → before (f a) (f b) ≡ is_lt (R a.0 b.0)) where
  pub ascending : (es : List (K × X)) → T (is_sorted R es) → ascend before (map f es) ≡ true
  ascending [] sorted = refl
  ascending (e ∷ []) sorted = refl
  ascending (e ∷ d ∷ es) sorted =
      let p = halves (below_all R e.0 (d ∷ es)) (is_sorted R (d ∷ es)) sorted in
      both_so (before (f e) (f d)) (ascend before (map f (d ∷ es)))
      (by_key e d ∙ is_so (is_lt (R e.0 d.0)) (halves (is_lt (R e.0 d.0)) (below_all R e.0 es) p.0).0)
      (ascending (d ∷ es) p.1)

-- a tree's row, at the place of its key
abbrev HasRow : List (List ℕ) × List TreeRule → Type 0
HasRow e = (r : TreeRow) × (tree_row e ≡ Some r) × (place_key r.place ≡ e.0)

has_row : (reader : Reader) (s : State) → IsWell reader s → Each HasRow (entries s.rules)
has_row reader s well e within = let fit = trees_fit reader s well e within in (row_at fit.place e.1, row_is fit.place e fit.here, fit.here)

trees_ascend : (es : List (List (List ℕ) × List TreeRule)) → Each HasRow es → T (is_sorted lexical_each es)
    → ascend tree_before (filter_map tree_row es) ≡ true
trees_ascend [] each sorted = refl
trees_ascend (e ∷ []) each sorted = let r = each e (inl refl) in ap (λ (o : Option TreeRow). ascend tree_before (cons_option o [])) r.1
trees_ascend (e ∷ d ∷ es) each sorted =
    let r = each e (inl refl) in
    let q = each d (inr (inl refl)) in
    let rest = filter_map tree_row es in
    let p = halves (below_all lexical_each e.0 (d ∷ es)) (is_sorted lexical_each (d ∷ es)) sorted in
    let less : tree_before r.0 q.0 ≡ true
    = ap (λ (key : List (List ℕ)). is_lt (lexical_each key (place_key q.0.place))) r.2
    ∙ ap (λ (key : List (List ℕ)). is_lt (lexical_each e.0 key)) q.2
    ∙ is_so (is_lt (lexical_each e.0 d.0)) (halves (is_lt (lexical_each e.0 d.0)) (below_all lexical_each e.0 es) p.0).0 in
    let further : ascend tree_before (q.0 ∷ rest) ≡ true
    = sym (ap (λ (o : Option TreeRow). ascend tree_before (cons_option o rest)) q.1) ∙ trees_ascend (d ∷ es) (λ x within. each x (inr within)) p.1 in
    ap (λ (o : Option TreeRow). ascend tree_before (cons_option o (cons_option (tree_row d) rest))) r.1
    ∙ ap (λ (o : Option TreeRow). ascend tree_before (r.0 ∷ cons_option o rest)) q.1
    ∙ both_so (tree_before r.0 q.0) (ascend tree_before (q.0 ∷ rest)) less further

pub keys_ascend : (reader : Reader) (s : State) → IsWell reader s → KeysAscend (rows_of s)
keys_ascend reader s well = record {
  persons = ascending lexical person_row person_before (λ a b. refl) (entries s.persons) s.persons.sorted;
  trees = trees_ascend (entries s.rules) (has_row reader s well) s.rules.sorted;
  nets = ascending lexical (net_row s) net_row_before (λ a b. refl) (parts net_of_site s.sites) (parts_sorted net_of_site s);
  items = ascending lexical (item_row s) item_row_before (λ a b. refl) (parts item_of_site s.sites) (parts_sorted item_of_site s);
  runs = ascending lexical run_row run_row_before (λ a b. refl) (parts run_of_site s.sites) (parts_sorted run_of_site s);
  suspended = ascending lexical (λ (e : Ident × Bool). e.0) ident_before (λ a b. refl) (parts mark_of_site s.sites) (parts_sorted mark_of_site s);
  due = ascending lexical due_row due_row_before (λ a b. refl) (parts due_of_site s.sites) (parts_sorted due_of_site s);
  ended = ascending nat_cmp ended_row ended_before (λ a b. refl) (entries s.ended) s.ended.sorted;
}
