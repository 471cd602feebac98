-- One case more.
use Rattle.std.proofs.Common.{◌≡◌, ℕ, cond, refl, Some, None, List, [], ◌∷◌, ◌++◌, ap, subst, sym, ◌∙◌}
use Rattle.std.specs.Prelude.{T}
use Rattle.std.specs.BTreeMap.{insert_entry}
use Rattle.std.specs.FinMap.Entries.{by_order, is_sorted, is_sorted-put, put}
use Rattle.std.specs.Ordering.{is_eq, match_ordering, nat_cmp}
use Rattle.std.specs.declared.cmp.Ordering.TheVariants.{Less, Equal, Greater}
use Rattle.yw_sites.specs.Entries.{AllUnder, Gains, Swaps}
use Rattle.yw_sites.specs.Idents.{Each}
use Rattle.yw_sites.proofs.Each.{Each-append, Each-back, Each-front}
use Rattle.yw_sites.proofs.Gained.{gained, one_gained}
use Rattle.yw_sites.proofs.Prefix.{under_refl}
use Rattle.yw_state.specs.Identity.{case_ident}
use Rattle.yw_state.specs.Map.{insert}
use Rattle.yw_state.proofs.MapLemmas.{by_number}
use Rattle.yw_state.proofs.Tests.{nowhere}
use Rattle.yw_tree.specs.Boxed.{IsBoxedCase}
use Rattle.yw_tree.specs.Cases.{CaseList, case_at}
use Rattle.yw_tree.specs.Entries.{below_run, case_entries, case_site, flat, node_entries, nodes}
use Rattle.yw_tree.specs.Forest.{IsForest, entries, sites_of}
use Rattle.yw_tree.specs.declared.Case.{Case}
use Rattle.yw_tree.specs.declared.Forest.{Forest}
use Rattle.yw_tree.proofs.Equations.{net_entries_is}
use Rattle.yw_tree.proofs.Keys.{case_keys}
use Rattle.yw_tree.proofs.Lift.{none_at}
use Rattle.yw_tree.proofs.Table.{all, all-append, cases_apart}

-- the place at which a case comes among the others
record Comes (n : ℕ) (c : Case) (cs : CaseList) : Type 0 where
  pub front : CaseList
  pub back : CaseList
  pub whole : cs ≡ front ++ back
  pub put : insert_entry nat_cmp cs n c ≡ front ++ ((n, c) ∷ back)

comes : (n : ℕ) (c : Case) (cs : CaseList) → case_at n cs ≡ None → Comes n c cs
comes n c [] e = record { front = []; back = []; whole = refl; put = refl }
comes n c (x ∷ cs) e =
    elim (nat_cmp n x.0) as (λ o. nat_cmp n x.0 ≡ o → Comes n c (x ∷ cs)) [
      | Less ↦ λ o. record { front = []; back = x ∷ cs; whole = refl; put = ap (λ r. match_ordering r ((n, c) ∷ x ∷ cs) ((x.0, c) ∷ cs) (x ∷ insert_entry nat_cmp cs n c)) o }
      | Equal ↦ λ o. nowhere (sym (ap (λ r. cond (is_eq r) (Some x.1) (case_at n cs)) (sym o) ∙ e))
      | Greater ↦ λ o.
          let r = comes n c cs (ap (λ r. cond (is_eq r) (Some x.1) (case_at n cs)) (sym o) ∙ e) in
          record {
            front = x ∷ r.front;
            back = r.back;
            whole = ap (λ z. x ∷ z) r.whole;
            put = ap (λ r. match_ordering r ((n, c) ∷ x ∷ cs) ((x.0, c) ∷ cs) (x ∷ insert_entry nat_cmp cs n c)) o ∙ ap (λ z. x ∷ z) r.put;
          }
    ] refl

as_put : (n : ℕ) (c : Case) (cs : CaseList) → insert_entry nat_cmp cs n c ≡ put nat_cmp n c cs
as_put n c [] = refl
as_put n c (x ∷ cs) =
    elim (nat_cmp n x.0) as (λ o. match_ordering o ((n, c) ∷ x ∷ cs) ((x.0, c) ∷ cs) (x ∷ insert_entry nat_cmp cs n c) ≡ by_order o ((n, c) ∷ x ∷ cs) ((x.0, c) ∷ cs) (x ∷ put nat_cmp n c cs)) [
      | Less ↦ refl
      | Equal ↦ refl
      | Greater ↦ ap (λ z. x ∷ z) (as_put n c cs)
    ]

abbrev Well : ℕ × Case → Type 0
Well e = (e.1.id ≡ case_ident e.0) × IsBoxedCase e.1

module _ (f g : Forest) (n : ℕ) (c : Case) (b : IsForest f) (cb : IsBoxedCase c) (at : c.id ≡ case_ident n) (fresh : case_at n f.cases ≡ None) (is : g.cases ≡ insert_entry nat_cmp f.cases n c) where
  pub gained_boxed : IsForest g
  gained_boxed =
      let r = comes n c f.cases fresh in
      let each = subst (Each Well) r.whole b.1 in
      let rest = Each-back Well r.front r.back each in (
        subst (λ z. T (is_sorted nat_cmp z)) (sym (is ∙ as_put n c f.cases)) (is_sorted-put nat_cmp by_number.total n c f.cases b.0),
        subst (Each Well) (sym (is ∙ r.put)) (Each-append Well r.front ((n, c) ∷ r.back) (Each-front Well r.front r.back each) ((at, cb), rest)),
      )

  module _ (names : ℕ → List ℕ) where
    comes_in : Swaps (case_ident n) [] (case_entries names c) (entries names f) (entries names g)
    comes_in =
        let r = comes n c f.cases fresh in
        let each = subst (Each Well) r.whole b.1 in
        let differ = subst (Each (λ (e : ℕ × Case). e.0 ≡ n → ⊥)) r.whole (none_at n f.cases fresh).1 in
        record {
          front = all names r.front;
          back = all names r.back;
          before = ap (all names) r.whole ∙ all-append names r.front r.back;
          after = ap (all names) (is ∙ r.put) ∙ all-append names r.front ((n, c) ∷ r.back);
          front_apart = cases_apart names (case_ident n) n (under_refl (case_ident n)) r.front (Each-front Well r.front r.back each) (Each-front (λ (e : ℕ × Case). e.0 ≡ n → ⊥) r.front r.back differ);
          back_apart = cases_apart names (case_ident n) n (under_refl (case_ident n)) r.back (Each-back Well r.front r.back each) (Each-back (λ (e : ℕ × Case). e.0 ≡ n → ⊥) r.front r.back differ);
        }

    pub case_gained : Gains (sites_of names f) c.id (case_entries names c) (sites_of names g)
    case_gained = subst (λ z. Gains (sites_of names f) z (case_entries names c) (sites_of names g)) (sym at)
        (gained (case_ident n) (case_entries names c) (entries names f) (entries names g) comes_in (subst (λ z. AllUnder z (case_entries names c)) at (case_keys names c cb)))

    pub alone_gained : nodes c.net ≡ [] → c.run ≡ None → sites_of names g ≡ insert (sites_of names f) c.id (case_site names c)
    alone_gained no_item no_run =
        let one : case_entries names c ≡ (case_ident n, case_site names c) ∷ [] =
        ap (λ z. (c.id, case_site names c) ∷ (z.1 ++ below_run names c.run)) (net_entries_is names c.net) ∙ ap (λ z. (c.id, case_site names c) ∷ (flat (node_entries names) z ++ below_run names c.run)) no_item
        ∙ ap (λ z. (c.id, case_site names c) ∷ below_run names z) no_run ∙ ap (λ z. (z, case_site names c) ∷ []) at in
        one_gained (case_ident n) (case_site names c) (entries names f) (entries names g) (subst (λ z. Swaps (case_ident n) [] z (entries names f) (entries names g)) one comes_in)
        ∙ ap (λ z. insert (sites_of names f) z (case_site names c)) (sym at)
