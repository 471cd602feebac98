-- What each change of a net does to a map that shows it, and what several do in turn.
use Rattle.std.proofs.Common.{List, None, Option, Some, [], ap, arith, cond, suc, zero, ◌≤◌, length, refl, subst, sym, ℕ, ◌++◌, ◌+◌, ◌<◌, ◌∙◌, ◌∷◌, ◌≡◌, get_or, take}
use Rattle.std.proofs.lemmas.List.Sums.{fold_more}
use Rattle.std.specs.FinMap.Entries.{find}
use Rattle.std.specs.Ordering.{eq_by_cmp}
use Rattle.std.specs.declared.alloc.Global.{Global}
use Rattle.std.specs.Prelude.{Vec, fold, option_and_then, option_map, slice_get}
use Rattle.yw_base.specs.Identity.{under}
use Rattle.yw_sites.proofs.Children.{children_front}
use Rattle.yw_sites.proofs.Dropped.{above, get-drop_all, untouched}
use Rattle.yw_sites.proofs.Parts.{other}
use Rattle.yw_sites.proofs.Prefix.{under_refl}
use Rattle.yw_sites.specs.Entries.{Entries}
use Rattle.yw_sites.specs.Idents.{AreChildren, Each, IsChild}
use Rattle.yw_state.proofs.MapLemmas.{by_name, get-update_other, get-update_same, tied_self}
use Rattle.yw_state.proofs.Tests.{never, nowhere}
use Rattle.yw_state.specs.After.{change, idents, with_net, with_sites, without_items}
use Rattle.yw_state.specs.Identity.{Ident}
use Rattle.yw_state.specs.Map.{get, lexical, update}
use Rattle.yw_state.specs.State.{NetPart, Site, Sites, State, drop_all, items_of}
use Rattle.yw_state.specs.Values.{Row}
use Rattle.yw_task.specs.Turning.{HasCome, Turns}
use Rattle.yw_tree.proofs.Equations.{net_entries_is}
use Rattle.yw_tree.proofs.Induct.{below_every_net}
use Rattle.yw_tree.proofs.Made.{made_net}
use Rattle.yw_tree.proofs.NetHere.{same_part}
use Rattle.yw_tree.proofs.Rows.{items_are, row_at, row_parts}
use Rattle.yw_tree.proofs.TaskCut.{items_children}
use Rattle.yw_tree.specs.Boxed.{AtNet, AtNode, AtRun, IsBoxedNet, IsNetAt, heads, ids, ids_of}
use Rattle.yw_tree.specs.Entries.{flat, net_entries, net_part, node_entries, row_nodes}
use Rattle.yw_tree.specs.Shows.{LosesTask, NoneMore, ShowsNet}
use Rattle.yw_tree.specs.declared.NetState.{NetState, NetState-F, every_here-NetState, out-NetState, roll-NetState, roll-out-NetState}
use Rattle.yw_tree.specs.declared.Node.{Node}
use Rattle.yw_tree.specs.declared.Run.{Run}

abbrev pub Level : Type 0
Level = NetState-F NetState Node Run

-- what the map has of a net, by what stands in its box
abbrev part_at : (ℕ → List ℕ) → Level → NetPart
part_at names l = record { spec = names l.spec; net = l.net; vals = l.vals; tokens = l.marks }

-- the net part is another
abbrev another : NetPart → Option Site → Option Site
another p = option_map (with_net (λ _. p))

set_twice : (p r : NetPart) (o : Option Site) → another r (another p o) ≡ another r o
set_twice p r None = refl
set_twice p r (Some x) = ap (λ (n : Option NetPart). Some (record x { net = n })) (inner x.net)
  where
    inner : (n : Option NetPart) → option_map (λ (_ : NetPart). r) (option_map (λ (_ : NetPart). p) n) ≡ option_map (λ (_ : NetPart). r) n
    inner None = refl
    inner (Some q) = refl

-- ---- items go

module _ (names : ℕ → List ℕ) (i : Ident) (others : List Ident) (beside : Entries) (before s : State) where
  -- a map from which some children of the net went shows the net without them
  drops : (js : List Ident) (old new : NetState) → Each (IsChild i) js → IsBoxedNet new → AreChildren i (ids new ++ others) → ShowsNet names (drop_all s.sites js) i beside new
      → HasCome names i others beside before s old → HasCome names i others beside before (with_sites s (drop_all s.sites js)) new
  drops js old new c boxed children now h =
      let m : Sites = drop_all s.sites js in
      let same_at : get m i ≡ another (net_part names old) (get before.sites i) = get-drop_all s.sites js i ∙ ap (λ z. cond z None (get s.sites i)) (above i js c) ∙ h.own in
      record {
        boxed = boxed;
        children = children;
        shows = now;
        own = sym (same_part (net_part names new) (get m i) now.part) ∙ ap (another (net_part names new)) same_at ∙ set_twice (net_part names old) (net_part names new) (get before.sites i);
        outside = λ q u. get-drop_all s.sites js q ∙ ap (λ z. cond z None (get s.sites q)) (untouched i q js c u) ∙ h.outside q u;
        rest = ap (λ (z : State). with_sites z m) h.rest;
      }

pub items_go : (old new : NetState) (k : ℕ) → IsBoxedNet new → NoneMore old new → LosesTask old new k → Turns old new (λ i s. without_items i s k)
items_go old new k boxed fewer loses = λ names i others beside before s stays h.
    let net_at : IsNetAt i old = children_front i (ids old) others h.children in
    drops names i others beside before s (idents (items_of s i k)) old new (items_children s i k) boxed (fewer i others h.children) (loses names s i beside net_at (stays old h.children) h.shows) h

-- where the net has no list for a task, no items of it stand there
pub no_items_go : (old : NetState) (k : ℕ) → slice_get (out-NetState old).items.items k ≡ None → Turns old old (λ i s. without_items i s k)
no_items_go old k none = λ names i others beside before s stays h.
    let net_at : IsNetAt i old = children_front i (ids old) others h.children in
    let es : items_of s i k ≡ [] = items_are names s i beside old h.boxed net_at (stays old h.children).quiet h.shows k ∙ ap (λ o. row_parts (row_at o)) none in
    subst (λ es. HasCome names i others beside before (with_sites s (drop_all s.sites (idents es))) old) (sym es) h

-- ---- the net's own part changes

module _ (old new : NetState) (marks : List ℕ) (vals : Row) (is : out-NetState new ≡ record (out-NetState old) { marks = marks; vals = vals }) where
  pub own_part : (names : ℕ → List ℕ) → net_part names new ≡ record (net_part names old) { vals = vals; tokens = marks }
  own_part names = ap (part_at names) is

  same_ids : ids new ≡ ids old
  same_ids = ap (λ (l : Level). ids_of (heads l.items.items)) is

  pub own_boxed : IsBoxedNet old → IsBoxedNet new
  own_boxed b = subst IsBoxedNet (sym (ap roll-NetState is) ∙ roll-out-NetState new) (made_net AtNet AtNode AtRun (record (out-NetState old) { marks = marks; vals = vals }) (every_here-NetState AtNet AtNode AtRun old b) (below_every_net AtNet AtNode AtRun old b))

  same_entries : (names : ℕ → List ℕ) → (net_entries names new).1 ≡ (net_entries names old).1
  same_entries names =
      ap (λ e. e.1) (net_entries_is names new) ∙ ap (λ (l : Level). flat (node_entries names) (row_nodes l.items.items)) is ∙ sym (ap (λ e. e.1) (net_entries_is names old))

  pub own_turns : (g : NetPart → NetPart) → ((names : ℕ → List ℕ) → net_part names new ≡ g (net_part names old)) → Turns old new (λ i s. change s i (with_net g))
  own_turns g part = λ names i others beside before s stays h.
      let m : Sites = update s.sites i (with_net g) in
      let at : get m i ≡ option_map (with_net g) (get s.sites i) = get-update_same by_name s.sites i (with_net g) in
      record {
        boxed = own_boxed h.boxed;
        children = subst (λ js. AreChildren i (js ++ others)) (sym same_ids) h.children;
        shows = record {
          part = ap (option_and_then (λ (x : Site). x.net)) at ∙ shown (get s.sites i) names h.shows.part;
          below = λ q u. get-update_other by_name s.sites i (with_net g) q (λ e. never (sym (other q i u).1 ∙ ap (λ z. eq_by_cmp lexical z i) e ∙ tied_self by_name i)) ∙ h.shows.below q u ∙ ap (λ es. find lexical q (es ++ beside)) (sym (same_entries names));
        };
        own = at ∙ ap (option_map (with_net g)) h.own ∙ after_own (get before.sites i) names;
        outside = λ q u. get-update_other by_name s.sites i (with_net g) q (λ e. never (sym u ∙ ap (λ z. under z i) e ∙ under_refl i)) ∙ h.outside q u;
        rest = ap (λ (z : State). with_sites z m) h.rest;
      }
    where
      shown : (o : Option Site) (names : ℕ → List ℕ) → option_and_then (λ (x : Site). x.net) o ≡ Some (net_part names old) → option_and_then (λ (x : Site). x.net) (option_map (with_net g) o) ≡ Some (net_part names new)
      shown None names e = nowhere e
      shown (Some x) names e = ap (option_map g) e ∙ ap (λ p. Some p) (sym (part names))

      after_own : (o : Option Site) (names : ℕ → List ℕ) → option_map (with_net g) (another (net_part names old) o) ≡ another (net_part names new) o
      after_own None names = refl
      after_own (Some x) names = ap (λ (n : Option NetPart). Some (record x { net = n })) (inner x.net)
        where
          inner : (n : Option NetPart) → option_map g (option_map (λ (_ : NetPart). net_part names old) n) ≡ option_map (λ (_ : NetPart). net_part names new) n
          inner None = refl
          inner (Some q) = ap (λ p. Some p) (sym (part names))

-- ---- several changes in turn

pub turns_stay : (old : NetState) → Turns old old (λ i s. s)
turns_stay old = λ names i others beside before s stays h. h

pub turns_both : (a b c : NetState) (f g : Ident → State → State) → Turns a b f → Turns b c g → Turns a c (λ i s. g i (f i s))
turns_both a b c f g first then = λ names i others beside before s stays h. then names i others beside before (f i s) stays (first names i others beside before s stays h)

-- one task more of a list loses its items
pub turns_more : (a b c : NetState) (ks : List ℕ) (n d : ℕ) → n < length ks → Turns a b (λ i s. fold (without_items i) s (take n ks)) → Turns b c (λ i s. without_items i s (get_or ks n d))
    → Turns a c (λ i s. fold (without_items i) s (take (n + 1) ks))
turns_more a b c ks n d at first then = λ names i others beside before s stays h.
    subst (λ (t : State). HasCome names i others beside before t c) (sym (fold_more (without_items i) s ks n d at))
    (then names i others beside before (fold (without_items i) s (take n ks)) stays (first names i others beside before s stays h))

-- a net has no list past its last
pub no_list : (vs : List (Vec Node Global)) (k : ℕ) → length vs ≤ k → slice_get vs k ≡ None
no_list [] k past = refl
no_list (v ∷ vs) zero past = absurd (omega arith)
no_list (v ∷ vs) (suc k) past = no_list vs k (omega (arith, past))
