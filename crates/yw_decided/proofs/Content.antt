-- What is kept of cases, at each thing that stands.
use Rattle.std.proofs.Common.{◌≡◌, ◌≤◌, ◌&&◌, ◌==◌, ◌+◌, ℕ, zero, suc, Bool, true, not, List, [], ◌∷◌, length, Option, Some, refl, sym, ap, ◌∙◌, arith, if◌then◌else◌}
use Rattle.std.specs.List.{All, list_all}
use Rattle.std.specs.Prelude.{is_some, nat_le, slice_get}
use Rattle.std.proofs.lemmas.Bool.{eq-eqb, eqb-true, leb-true, le-leb}
use Rattle.yw_base.specs.Identity.{parent}
use Rattle.yw_decided.proofs.Each.{and_left, and_right, at_each, both, from_each, from_implies, to_implies}
use Rattle.yw_decided.proofs.NetsDecided.{item_there, net_is, of_all, run_is, stands_by, to_all}
use Rattle.yw_decided.specs.Decided.{CasesFit, all_in, content_stands, each_numbered, each_site, fits_item, fits_net, has_made, implies, is_few, net_content, run_content}
use Rattle.yw_spec.specs.declared.task.Task.{Task}
use Rattle.yw_state.proofs.Tests.{by_test, is_not, nowhere, some_same, then_some, there, there_and}
use Rattle.yw_state.specs.Allowed.{most_tokens}
use Rattle.yw_state.specs.Identity.{Ident, is_case_ident}
use Rattle.yw_state.specs.Nets.{is_atomic}
use Rattle.yw_state.specs.NewRule.{are_fit, most_primitives}
use Rattle.yw_state.specs.Options.{is_some_and}
use Rattle.yw_state.specs.Passing.{row_fits}
use Rattle.yw_state.specs.State.{ItemAt, NetAt, NetPart, RunPart, Site, State, item_at, items_of, net_at, net_part, run_part}
use Rattle.yw_state.specs.Values.{Row}
use Rattle.yw_state.specs.Well.{ItemFits, NetFits, Stands, item_limit, vals_fit}
use Rattle.yw_state.specs.Words.{is_completed, is_ready}

-- ---- lists

all_small : (most : ℕ) (ks : List ℕ) → list_all (λ k. nat_le k most) ks ≡ true → All (λ k. k ≤ most) ks
all_small most [] all k d less = absurd (omega (arith, less))
all_small most (x ∷ xs) all zero d less = leb-true x most (and_left (nat_le x most) (list_all (λ k. nat_le k most) xs) all)
all_small most (x ∷ xs) all (suc k) d less = all_small most xs (and_right (nat_le x most) (list_all (λ k. nat_le k most) xs) all) k d (omega (arith, less))

small_all : (most : ℕ) (ks : List ℕ) → All (λ k. k ≤ most) ks → list_all (λ k. nat_le k most) ks ≡ true
small_all most [] all = refl
small_all most (x ∷ xs) all =
    both (nat_le x most) (list_all (λ k. nat_le k most) xs) (le-leb x most (all 0 x (omega arith)))
    (small_all most xs (λ k d less. all (suc k) d (omega (arith, less))))

module _ (p : ℕ → Task → Bool) where
  at_number : (from : ℕ) (ts : List Task) → each_numbered p from ts ≡ true → (k : ℕ) (t : Task) → slice_get ts k ≡ Some t → (n : ℕ)
      → n ≡ from + k → p n t ≡ true
  at_number from [] all k t e n is = nowhere e
  at_number from (x ∷ xs) all zero t e n is =
      ap (λ (m : ℕ). p m t) (omega (arith, is)) ∙ ap (p from) (sym (some_same x t e)) ∙ and_left (p from x) (each_numbered p (suc from) xs) all
  at_number from (x ∷ xs) all (suc k) t e n is =
      at_number (suc from) xs (and_right (p from x) (each_numbered p (suc from) xs) all) k t e n (omega (arith, is))

  from_number : (from : ℕ) (ts : List Task) → ((k : ℕ) (t : Task) → slice_get ts k ≡ Some t → p (from + k) t ≡ true) → each_numbered p from ts ≡ true
  from_number from [] each = refl
  from_number from (x ∷ xs) each =
      both (p from x) (each_numbered p (suc from) xs) (ap (λ (m : ℕ). p m x) (omega arith) ∙ each zero x refl)
      (from_number (suc from) xs (λ k t e. ap (λ (m : ℕ). p m t) (omega arith) ∙ each (suc k) t e))

-- ---- nets and items

net_fits : (n : NetAt) → fits_net n ≡ true → NetFits n
net_fits n fits =
    let rest = and_right (vals_fit n.net.vars n.part.vals)
    (length n.part.tokens == length n.net.places && list_all (λ k. nat_le k most_tokens) n.part.tokens) fits in
    record {
      vals =
          and_left (vals_fit n.net.vars n.part.vals) (length n.part.tokens == length n.net.places && list_all (λ k. nat_le k most_tokens) n.part.tokens) fits;
      places =
          eqb-true (length n.part.tokens) (length n.net.places)
          (and_left (length n.part.tokens == length n.net.places) (list_all (λ k. nat_le k most_tokens) n.part.tokens) rest);
      counts =
          all_small most_tokens n.part.tokens
          (and_right (length n.part.tokens == length n.net.places) (list_all (λ k. nat_le k most_tokens) n.part.tokens) rest);
    }

fits_net_is : (n : NetAt) → NetFits n → fits_net n ≡ true
fits_net_is n fit =
    both (vals_fit n.net.vars n.part.vals) _ fit.vals
    (both (length n.part.tokens == length n.net.places) _ (eq-eqb (length n.part.tokens) (length n.net.places) fit.places)
    (small_all most_tokens n.part.tokens fit.counts))

none_made : (made : Row) → length made ≡ 0 → made ≡ []
none_made [] e = refl
none_made (x ∷ xs) e = absurd (omega (arith, e))

module _ (x : ItemAt) where
  abbrev given_fits : Bool
  given_fits = row_fits x.of_task.task.ins x.part.given

  abbrev begun : Bool
  begun = is_atomic x.of_task.task && not (is_ready x.part.stage)

  abbrev whose : Bool
  whose = implies (is_some x.part.who) begun

  -- what it has made, where it is completed and where it isn't
  abbrev made_where : Bool → Bool
  made_where done = if done then row_fits x.of_task.task.outs x.part.made else length x.part.made == 0

  item_fits : fits_item x ≡ true → ItemFits x
  item_fits fits = record {
    given = and_left given_fits (has_made x && whose) fits;
    made = λ done. sym (ap made_where done) ∙ made;
    not_made = λ other. none_made x.part.made (eqb-true (length x.part.made) 0 (sym (ap made_where (is_not (is_completed x.part.stage) other)) ∙ made));
    who_atomic = λ some. and_left (is_atomic x.of_task.task) (not (is_ready x.part.stage)) (from_implies (is_some x.part.who) begun who some);
    who_begun = λ some. and_right (is_atomic x.of_task.task) (not (is_ready x.part.stage)) (from_implies (is_some x.part.who) begun who some);
  }
    where
      made : has_made x ≡ true
      made = and_left (has_made x) whose (and_right given_fits (has_made x && whose) fits)

      who : whose ≡ true
      who = and_right (has_made x) whose (and_right given_fits (has_made x && whose) fits)

  fits_item_is : ItemFits x → fits_item x ≡ true
  fits_item_is fit =
      both given_fits (has_made x && whose) fit.given
      (both (has_made x) whose
      (by_test (is_completed x.part.stage)
      (λ done. ap made_where done ∙ fit.made done)
      (λ other. ap made_where other ∙ eq-eqb (length x.part.made) 0 (ap length (fit.not_made (ap not other)))))
      (to_implies (is_some x.part.who) begun
      (λ some. both (is_atomic x.of_task.task) (not (is_ready x.part.stage)) (fit.who_atomic some) (fit.who_begun some))))

-- ---- all that stands

module _ (s : State) where
  -- a net that is found is a part of what stands
  net_there : (j : Ident) (n : NetAt) → net_at s j ≡ Some n → (m : NetPart) × (net_part s j ≡ Some m)
  net_there j n e = let m = then_some _ (net_part s j) n e in (m.0, m.1)

  module _ (all : each_site s (content_stands s) ≡ true) where
    here : (j : Ident) (x : Site) → Stands s j x → content_stands s j x ≡ true
    here j x e = at_each s (content_stands s) all j x e

    others : (j : Ident) (x : Site) → Stands s j x → (all_in (item_at s j) fits_item && all_in x.run (run_content s j)) ≡ true
    others j x e = and_right (implies (is_some x.net) (net_content s j)) (all_in (item_at s j) fits_item && all_in x.run (run_content s j)) (here j x e)

    content_of : (j : Ident) (n : NetPart) → net_part s j ≡ Some n → net_content s j ≡ true
    content_of j n e =
        let t = stands_by s (λ (y : Site). y.net) j n e in
        from_implies (is_some t.0.net) (net_content s j)
        (and_left (implies (is_some t.0.net) (net_content s j)) (all_in (item_at s j) fits_item && all_in t.0.run (run_content s j)) (here j t.0 t.1))
        (ap is_some (sym (net_is s j t.0 t.1) ∙ e))

    -- the net that is found, with what is asked of it
    net_fitting : (j : Ident) (n : NetAt) → net_at s j ≡ Some n → (fits_net n && each_numbered (is_few s j) 0 n.net.tasks) ≡ true
    net_fitting j n e =
        let m = net_there j n e in
        sym (ap (λ (o : Option NetAt). is_some_and o (λ (a : NetAt). fits_net a && each_numbered (is_few s j) 0 a.net.tasks)) e) ∙ content_of j m.0 m.1

    run_of : (j : Ident) (r : RunPart) → run_part s j ≡ Some r → run_content s j r ≡ true
    run_of j r e =
        let t = stands_by s (λ (y : Site). y.run) j r e in
        of_all t.0.run (run_content s j) r
        (and_right (all_in (item_at s j) fits_item) (all_in t.0.run (run_content s j)) (others j t.0 t.1)) (sym (run_is s j t.0 t.1) ∙ e)

    pub content_from : CasesFit s
    content_from = record {
      of_spec = λ j n e. let found = there_and (net_at s j) _ (content_of j n e) in ap is_some found.1;
      net = λ j n e. net_fits n (and_left (fits_net n) (each_numbered (is_few s j) 0 n.net.tasks) (net_fitting j n e));
      item = λ j x e.
          let y = item_there s j x e in
          let t = stands_by s (λ (z : Site). z.item) j y.0 y.1 in
          item_fits x (of_all (item_at s j) fits_item x (and_left (all_in (item_at s j) fits_item) (all_in t.0.run (run_content s j)) (others j t.0 t.1)) e);
      count = λ i n k t e at.
          leb-true (length (items_of s i k)) (item_limit t.many)
          (at_number (is_few s i) 0 n.net.tasks (and_right (fits_net n) (each_numbered (is_few s i) 0 n.net.tasks) (net_fitting i n e)) k t at k (omega arith));
      run_length = λ j r e.
          leb-true (length r.rest) most_primitives
          (and_left (nat_le (length r.rest) most_primitives) (are_fit s (is_case_ident (parent j)) r.rest) (run_of j r e));
      run_fit = λ j r e. and_right (nat_le (length r.rest) most_primitives) (are_fit s (is_case_ident (parent j)) r.rest) (run_of j r e);
    }

  module _ (fit : CasesFit s) where
    net_content_is : (j : Ident) (n : NetPart) → net_part s j ≡ Some n → net_content s j ≡ true
    net_content_is j n e =
        let found = there (net_at s j) (fit.of_spec j n e) in
        ap (λ (o : Option NetAt). is_some_and o (λ (a : NetAt). fits_net a && each_numbered (is_few s j) 0 a.net.tasks)) found.1
        ∙ both (fits_net found.0) (each_numbered (is_few s j) 0 found.0.net.tasks) (fits_net_is found.0 (fit.net j found.0 found.1))
        (from_number (is_few s j) 0 found.0.net.tasks
        (λ k t at. ap (λ (m : ℕ). is_few s j m t) (omega arith) ∙ le-leb (length (items_of s j k)) (item_limit t.many) (fit.count j found.0 k t found.1 at)))

    pub content_to : each_site s (content_stands s) ≡ true
    content_to = from_each s (content_stands s) (λ j x e.
        both (implies (is_some x.net) (net_content s j)) (all_in (item_at s j) fits_item && all_in x.run (run_content s j))
        (to_implies (is_some x.net) (net_content s j) (λ some. let n = there x.net some in net_content_is j n.0 (net_is s j x e ∙ n.1)))
        (both (all_in (item_at s j) fits_item) (all_in x.run (run_content s j))
        (to_all (item_at s j) fits_item (λ i at. fits_item_is i (fit.item j i at)))
        (to_all x.run (run_content s j) (λ r at.
        let here = run_is s j x e ∙ at in
        both (nat_le (length r.rest) most_primitives) (are_fit s (is_case_ident (parent j)) r.rest)
        (le-leb (length r.rest) most_primitives (fit.run_length j r here)) (fit.run_fit j r here)))))
