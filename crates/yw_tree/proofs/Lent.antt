-- What a loan leaves: a case, an item or a run that stands, and any other that fits in its place.
use Rattle.std.proofs.Common.{◌≡◌, ◌≤◌, ℕ, List, [], length, refl, subst, sym, true, ◌++◌, ◌∙◌, ◌∷◌}
use Rattle.std.specs.FinMap.Entries.{find}
use Rattle.yw_base.specs.Identity.{under}
use Rattle.yw_sites.proofs.Parts.{elsewhere, own_changes}
use Rattle.yw_sites.proofs.Swaps.{new_at, old_at}
use Rattle.yw_sites.specs.Entries.{AllUnder, Entries, Gains, Swaps}
use Rattle.yw_sites.specs.Idents.{AreChildren}
use Rattle.yw_state.proofs.MapEntries.{get-of_entries}
use Rattle.yw_state.proofs.MapLemmas.{by_name}
use Rattle.yw_state.specs.Identity.{Ident, case_ident}
use Rattle.yw_state.specs.Map.{get, lexical, update}
use Rattle.yw_state.specs.State.{Site}
use Rattle.yw_tree.proofs.CaseLaw.{its, placing as case_placing, under_is as case_under_is, under_was as case_under_was}
use Rattle.yw_tree.proofs.ForestLaw.{InCase, item_found}
use Rattle.yw_tree.proofs.Induct.{below_every_node, below_every_run}
use Rattle.yw_tree.proofs.Made.{made_node, made_run}
use Rattle.yw_tree.proofs.NetLaw.{placing, under_is, under_was}
use Rattle.yw_tree.proofs.RunLaw.{opened, run_found}
use Rattle.yw_tree.specs.Boxed.{AtNet, AtNode, AtRun, IsBoxedNode, IsBoxedRun, head, net_ids, run_ids}
use Rattle.yw_tree.specs.Forest.{IsForest, entries, item_replaced, sites_of}
use Rattle.yw_tree.specs.Lent.{FitsCase, FitsItem, FitsRun, PlacedCase, PlacedItem, PlacedRun, Replaces, Told, of_case, of_item, of_run}
use Rattle.yw_tree.specs.Places.{placed_case, placed_run}
use Rattle.yw_tree.specs.declared.Case.{Case}
use Rattle.yw_tree.specs.declared.Forest.{Forest}
use Rattle.yw_tree.specs.declared.Node.{Node, every_here-Node, out-Node, roll-out-Node}
use Rattle.yw_tree.specs.declared.Run.{Run, every_here-Run, out-Run, roll-out-Run}

-- the entries of one part in place of those of another, as the maps have it
module _ (names : ℕ → List ℕ) (f g : Forest) (id : Ident) (x y : Site) (xs ys : Entries) (s : Swaps id ((id, x) ∷ xs) ((id, y) ∷ ys) (entries names f) (entries names g)) (x_under : AllUnder id xs) (y_under : AllUnder id ys) where
  stood_so : (q : Ident) → under q id ≡ true → get (sites_of names f) q ≡ find lexical q ((id, x) ∷ xs)
  stood_so q u = get-of_entries by_name (entries names f) q ∙ old_at id ((id, x) ∷ xs) ((id, y) ∷ ys) (entries names f) (entries names g) s q u

  stands_so : Gains (sites_of names f) id ((id, y) ∷ ys) (sites_of names g)
  stands_so = record {
    within = λ q u. get-of_entries by_name (entries names g) q ∙ new_at id ((id, x) ∷ xs) ((id, y) ∷ ys) (entries names f) (entries names g) s q u;
    elsewhere = λ q u. elsewhere id x y xs ys (entries names f) (entries names g) s x_under y_under q u;
  }

  own_so : (h : Site → Site) → y ≡ h x → ys ≡ xs → sites_of names g ≡ update (sites_of names f) id h
  own_so h same rest = own_changes id x y xs ys (entries names f) (entries names g) s x_under y_under h rest same

-- one part stands in place of another
record Swapped (f g : Forest) (i : Ident) (was is : Told) (names : ℕ → List ℕ) : Type 0 where
  pub swaps : Swaps i ((i, (was names).0) ∷ (was names).1) ((i, (is names).0) ∷ (is names).1) (entries names f) (entries names g)
  pub under_was : AllUnder i (was names).1
  pub under_is : AllUnder i (is names).1

replaced : (f g : Forest) (i : Ident) (was is : Told) → ((names : ℕ → List ℕ) → Swapped f g i was is names) → IsForest g → Replaces f g i was is
replaced f g i was is s kept = record {
  stood = λ names. let p = s names in stood_so names f g i (was names).0 (is names).0 (was names).1 (is names).1 p.swaps p.under_was p.under_is;
  stands = λ names. let p = s names in stands_so names f g i (was names).0 (is names).0 (was names).1 (is names).1 p.swaps p.under_was p.under_is;
  own = λ names. let p = s names in own_so names f g i (was names).0 (is names).0 (was names).1 (is names).1 p.swaps p.under_was p.under_is;
  kept = kept;
}

-- ---- a case
pub case_lent : (f : Forest) (n : ℕ) → PlacedCase f n
case_lent f n b old e =
    let i = its (λ k. []) f b n old e in
    let same : (d : Case) → FitsCase n d → d.id ≡ old.id = λ d fits. fits.id ∙ sym i.0 in
    record {
      fits = record { id = i.0; boxed = i.1 };
      placed = λ d fits.
          replaced f (placed_case f n d) (case_ident n) (of_case old) (of_case d)
          (λ names. record {
            swaps = (case_placing names f b n old e d (same d fits) fits.boxed).0;
            under_was = case_under_was names f b n old e d (same d fits) fits.boxed;
            under_is = case_under_is names f b n old e d (same d fits) fits.boxed;
          })
          (case_placing (λ k. []) f b n old e d (same d fits) fits.boxed).1;
    }

-- ---- an item
boxed_item : (i : Ident) (t : ℕ) (n : Node) → FitsItem i t n → IsBoxedNode n
boxed_item i t n fits =
    let l = out-Node n in
    subst IsBoxedNode (roll-out-Node n) (made_node AtNet AtNode AtRun l (subst (λ z. AreChildren z (net_ids l.net ++ run_ids l.run)) (sym fits.id) fits.children) fits.net fits.run)

pub item_lent : (f : Forest) (id : Ident) → InCase id → PlacedItem f id
item_lent f id within b old e =
    let g = item_found f id old b e in
    let l = out-Node old in
    let down = below_every_node AtNet AtNode AtRun old g.1 in
    let same : (w : Node) → FitsItem id (out-Node old).task w → head w ≡ head old = λ w fits j. ((fits.id ∙ sym g.0) j, fits.task j) in
    let well : (w : Node) → FitsItem id (out-Node old).task w → IsBoxedNode w = boxed_item id (out-Node old).task in
    record {
      fits = record {
        id = g.0;
        task = refl;
        children = subst (λ z. AreChildren z (net_ids l.net ++ run_ids l.run)) g.0 (every_here-Node AtNet AtNode AtRun old g.1);
        net = down.0;
        run = down.1;
      };
      placed = λ w fits.
          replaced f (item_replaced f id w) id (of_item old) (of_item w)
          (λ names. record {
            swaps = (placing names f id old b within e w (same w fits) (well w fits)).0;
            under_was = under_was names f id old b within e w (same w fits) (well w fits);
            under_is = under_is names f id old b within e w (same w fits) (well w fits);
          })
          (placing (λ k. []) f id old b within e w (same w fits) (well w fits)).1;
    }

-- ---- a run
boxed_run : (i : Ident) (r : Run) → FitsRun i r → IsBoxedRun r
boxed_run i r fits =
    let l = out-Run r in
    subst IsBoxedRun (roll-out-Run r) (made_run AtNet AtNode AtRun l (subst (λ z. AreChildren z (net_ids l.net)) (sym fits.id) fits.children) fits.net)

pub run_lent : (f : Forest) (id : Ident) → 1 ≤ length id → PlacedRun f id
run_lent f id long b old e =
    let g = run_found f id old b e in
    let l = out-Run old in
    let same : (w : Run) → FitsRun id w → (out-Run w).id ≡ (out-Run old).id = λ w fits. fits.id ∙ sym g.0 in
    let well : (w : Run) → FitsRun id w → IsBoxedRun w = boxed_run id in
    record {
      fits = record { id = g.0; children = subst (λ z. AreChildren z (net_ids l.net)) g.0 (every_here-Run AtNet AtNode AtRun old g.1); net = below_every_run AtNet AtNode AtRun old g.1 };
      placed = λ w fits.
          replaced f (placed_run f id w) id (of_run old) (of_run w)
          (λ names. let p = opened names f b id long old w e (same w fits) (well w fits) in record { swaps = p.0; under_was = p.1; under_is = p.2 })
          (opened (λ k. []) f b id long old w e (same w fits) (well w fits)).3;
    }
