-- A net whose own part changes, while its items stay.
use Rattle.std.proofs.Common.{List, None, Option, Some, ap, refl, subst, sym, ℕ, ◌++◌, ◌∙◌, ◌≡◌}
use Rattle.std.specs.FinMap.Entries.{find}
use Rattle.std.specs.Ordering.{eq_by_cmp}
use Rattle.std.specs.Prelude.{Vec, option_and_then, option_map}
use Rattle.std.specs.declared.alloc.Global.{Global}
use Rattle.yw_sites.proofs.Parts.{other}
use Rattle.yw_sites.specs.Entries.{Entries}
use Rattle.yw_sites.specs.Idents.{Each}
use Rattle.yw_state.proofs.MapLemmas.{by_name, get-update_other, get-update_same, tied_self}
use Rattle.yw_state.proofs.Tests.{never, nowhere}
use Rattle.yw_state.specs.After.{with_net}
use Rattle.yw_state.specs.Identity.{Ident}
use Rattle.yw_state.specs.Map.{lexical, update}
use Rattle.yw_state.specs.State.{NetPart, Site, Sites}
use Rattle.yw_tree.proofs.Equations.{net_entries_is}
use Rattle.yw_tree.proofs.Induct.{below_every_net}
use Rattle.yw_tree.proofs.Made.{made_net}
use Rattle.yw_tree.specs.Boxed.{AreRows, AtNet, AtNode, AtRun, IsBoxedNet, IsBoxedNode, heads, ids, ids_of}
use Rattle.yw_tree.specs.Entries.{flat, net_entries, net_part, node_entries, row_nodes}
use Rattle.yw_tree.specs.Shows.{ShowsNet}
use Rattle.yw_tree.specs.declared.NetState.{NetState, every_here-NetState, out-NetState, roll-out-NetState}
use Rattle.yw_tree.specs.declared.Node.{Node}

abbrev Table : Type 0
Table = Vec (Vec Node Global) Global

-- another net is put over a changed one
pub overwritten : (g : NetPart → NetPart) (p : NetPart) (o : Option Site) → option_map (with_net (λ _. p)) (option_map (with_net g) o) ≡ option_map (with_net (λ _. p)) o
overwritten g p None = refl
overwritten g p (Some x) = ap (λ (n : Option NetPart). Some (record x { net = n })) (twice x.net)
  where
    twice : (n : Option NetPart) → option_map (λ (_ : NetPart). p) (option_map g n) ≡ option_map (λ (_ : NetPart). p) n
    twice None = refl
    twice (Some q) = refl

changed_net : (g : NetPart → NetPart) (p : NetPart) (o : Option Site) → option_and_then (λ (x : Site). x.net) o ≡ Some p → option_and_then (λ (x : Site). x.net) (option_map (with_net g) o) ≡ Some (g p)
changed_net g p None e = nowhere e
changed_net g p (Some x) e = ap (option_map g) e

module _ (old new : NetState) (same_items : ◌≡◌ {A = Table} (out-NetState new).items (out-NetState old).items) where
  pub still_boxed : IsBoxedNet old → IsBoxedNet new
  still_boxed b =
      subst IsBoxedNet (roll-out-NetState new)
      (made_net AtNet AtNode AtRun (out-NetState new)
      (subst (λ (v : Table). AreRows 0 (heads v.items)) (sym same_items) (every_here-NetState AtNet AtNode AtRun old b))
      (subst (λ (v : Table). Each IsBoxedNode (row_nodes v.items)) (sym same_items) (below_every_net AtNet AtNode AtRun old b)))

  pub same_ids : ids new ≡ ids old
  same_ids = ap (λ (v : Table). ids_of (heads v.items)) same_items

  same_below : (names : ℕ → List ℕ) → (net_entries names new).1 ≡ (net_entries names old).1
  same_below names =
      ap (λ z. z.1) (net_entries_is names new)
      ∙ ap (λ (v : Table). flat (node_entries names) (row_nodes v.items)) same_items
      ∙ sym (ap (λ z. z.1) (net_entries_is names old))

  -- a map that showed the old net shows the new one once the part is changed
  pub shows_changed : (names : ℕ → List ℕ) (g : NetPart → NetPart) → net_part names new ≡ g (net_part names old) → (m : Sites) (i : Ident) (beside : Entries)
      → ShowsNet names m i beside old → ShowsNet names (update m i (with_net g)) i beside new
  shows_changed names g is m i beside shows = record {
    part = ap (option_and_then (λ (x : Site). x.net)) (get-update_same by_name m i (with_net g)) ∙ changed_net g (net_part names old) _ shows.part ∙ ap (λ (p : NetPart). Some p) (sym is);
    below = λ q u.
        get-update_other by_name m i (with_net g) q (λ e. never (sym (other q i u).1 ∙ ap (λ z. eq_by_cmp lexical z i) e ∙ tied_self by_name i))
        ∙ shows.below q u
        ∙ ap (λ es. find lexical q (es ++ beside)) (sym (same_below names));
  }
