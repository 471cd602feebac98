-- Each net that stands in a state which is well is of a specification with a name; so one specification more changes no map.
use Rattle.std.proofs.Common.{Bool, List, None, Option, Some, [], ap, cond, refl, sym, ℕ, ◌∙◌, ◌∷◌, ◌≡◌}
use Rattle.std.specs.FinMap.Entries.{find}
use Rattle.std.specs.Ordering.{eq_by_cmp}
use Rattle.std.specs.Prelude.{option_and_then, option_map, slice_get}
use Rattle.yw_accepted.proofs.Loaded.{accepted_are_within}
use Rattle.yw_base.specs.Spelling.{is_name}
use Rattle.yw_known.proofs.Lists.{at_front}
use Rattle.yw_known.proofs.Renamed.{EntryHasName, HasName, same_sites}
use Rattle.yw_library.specs.Held.{IsHeld}
use Rattle.yw_library.specs.Names.{name_in, names_of}
use Rattle.yw_library.specs.Holdings.{AddsSpec, Holdings, with_library, with_spec}
use Rattle.yw_texts.specs.Texts.{reader}
use Rattle.yw_sites.specs.Entries.{Entries, Entry, Unique}
use Rattle.yw_sites.specs.Idents.{Each}
use Rattle.yw_spec.specs.declared.spec.Net.{Net}
use Rattle.yw_spec.specs.declared.spec.Spec.{Spec}
use Rattle.yw_state.proofs.MapEntries.{get-of_entries}
use Rattle.yw_state.proofs.MapLemmas.{by_name, tied, tied_self}
use Rattle.yw_state.proofs.Tests.{by_option, by_test, map_some, never, nowhere, then_some, there}
use Rattle.yw_state.specs.Identity.{Ident}
use Rattle.yw_state.specs.Map.{get, lexical}
use Rattle.yw_state.specs.State.{NetAt, NetPart, Site, State, net_at, net_of, net_part, spec_called}
use Rattle.yw_state.specs.Well.{IsWell}
use Rattle.yw_state.specs.declared.loaded.Loaded.{Loaded}
use Rattle.yw_tree.proofs.Asked.{unique_forest}
use Rattle.yw_tree.specs.Forest.{entries, sites_of}
use Rattle.yw_tree.specs.declared.Forest.{Forest}
use Rattle.yw_trees.specs.Placed.{rules_of}
use Rattle.yw_within.specs.Within.{IsWithin}

-- ---- a net that stands in a state

-- the specification under whose name it stands, and that has it
pub record OfSpec (s : State) (p : NetPart) : Type 0 where
  pub loaded : Loaded
  pub net : Net
  pub at : get s.specs p.spec ≡ Some loaded
  pub of_spec : slice_get loaded.spec.nets p.net ≡ Some net
  pub named : loaded.spec.name ≡ p.spec
  pub has_name : p.spec ≡ [] → ⊥

module _ (s : State) (well : IsWell reader s) where
  pub spec_behind : (j : Ident) (p : NetPart) → net_part s j ≡ Some p → OfSpec s p
  spec_behind j p e =
      let n = there (net_at s j) (well.content.of_spec j p e) in
      let known : option_map (λ (w : Net). let x : NetAt = record { part = p; net = w } in x) (net_of s p) ≡ Some n.0 =
      sym (ap (option_and_then (λ (q : NetPart). option_map (λ (w : Net). let x : NetAt = record { part = q; net = w } in x) (net_of s q))) e) ∙ n.1 in
      let w = map_some (λ (w : Net). let x : NetAt = record { part = p; net = w } in x) (net_of s p) n.0 known in
      let z = then_some (λ (spec : Spec). slice_get spec.nets p.net) (spec_called s p.spec) w.0 w.1 in
      let l = map_some (λ (l : Loaded). l.spec) (get s.specs p.spec) z.0 z.1 in
      let within : IsWithin l.0.spec = accepted_are_within l.0.text l.0.spec (well.content.spec_text p.spec l.0 l.1) in
      let name : l.0.spec.name ≡ p.spec = well.content.spec_name p.spec l.0 l.1 in
      record {
        loaded = l.0;
        net = w.0;
        at = l.1;
        of_spec = ap (λ (x : Spec). slice_get x.nets p.net) l.2 ∙ z.2;
        named = name;
        has_name = λ none. never (ap is_name (sym none ∙ sym name) ∙ within.name);
      }

-- ---- all entries of a forest

none_there : (k : Ident) (es : Entries) → Each (λ (x : Entry). x.0 ≡ k → ⊥) es → find lexical k es ≡ None
none_there k [] h = refl
none_there k (e ∷ es) h =
    by_test (eq_by_cmp lexical k e.0)
    (λ t. absurd (h.0 (sym (tied by_name k e.0 t))))
    (λ t. ap (λ (b : Bool). cond b (Some e.1) (find lexical k es)) t ∙ none_there k es h.1)

-- each is found at its identity
each_found : (P : Entry → Type 0) (es : Entries) → Unique es → ((e : Entry) → find lexical e.0 es ≡ Some e.1 → P e) → Each P es
each_found P [] u h = tt
each_found P (e ∷ es) u h = (
  h e (ap (λ (b : Bool). cond b (Some e.1) (find lexical e.0 es)) (tied_self by_name e.0)),
  each_found P es u.1 (λ x at.
      by_test (eq_by_cmp lexical x.0 e.0)
      (λ t. nowhere (sym (none_there e.0 es u.0) ∙ ap (λ k. find lexical k es) (sym (tied by_name x.0 e.0 t)) ∙ at))
      (λ t. h x (ap (λ (b : Bool). cond b (Some e.1) (find lexical x.0 es)) t ∙ at))),
)

module _ (known : Holdings) (f : Forest) (s : State) (h : IsHeld known f s) where
  entry_has_name : (e : Entry) → find lexical e.0 (entries (names_of known) f) ≡ Some e.1 → EntryHasName e
  entry_has_name e at = by e.1.net refl
    where
      stands : get s.sites e.0 ≡ Some e.1
      stands = ap (λ m. get m e.0) h.sites ∙ get-of_entries by_name (entries (names_of known) f) e.0 ∙ at

      by : (o : Option NetPart) → e.1.net ≡ o → HasName o
      by None is = tt
      by (Some p) is = (spec_behind s h.well e.0 p (ap (option_and_then (λ (x : Site). x.net)) stands ∙ is)).has_name

  pub all_have_names : Each EntryHasName (entries (names_of known) f)
  all_have_names = each_found EntryHasName (entries (names_of known) f) (unique_forest (names_of known) f h.boxed) entry_has_name

-- a name that is one stays, with one specification more
names_agree : (known : Holdings) (loaded : Loaded) (k : ℕ) → (names_of known k ≡ [] → ⊥) → names_of known k ≡ names_of (with_spec known loaded) k
names_agree known loaded k named =
    by_option (slice_get known.specs k)
    (λ none. absurd (named (ap name_in none)))
    (λ l some. ap name_in some ∙ sym (ap name_in (at_front known.specs (loaded ∷ []) k l some)))

pub load_keeps_sites : (known : Holdings) (f : Forest) (s : State) (loaded : Loaded) → IsHeld known f s → sites_of (names_of known) f ≡ sites_of (names_of (with_spec known loaded)) f
load_keeps_sites known f s loaded h =
    same_sites (names_of known) (names_of (with_spec known loaded)) (names_agree known loaded) f (all_have_names known f s h)

-- and what is held, stays so
pub load_keeps_held : (old new : Holdings) (f : Forest) (s : State) (name text : List ℕ) → IsHeld old f s → AddsSpec old new name text
    → IsWell reader (with_library s new) → IsHeld new f (with_library s new)
unfolding with_library
load_keeps_held old new f s name text h adds well =
    record {
      library = refl;
      rules = h.rules ∙ ap (λ (z : Holdings). rules_of z.rules) (sym adds.behind);
      boxed = h.boxed;
      sites = h.sites ∙ load_keeps_sites old f s adds.loaded h ∙ ap (λ z. sites_of (names_of z) f) (sym adds.behind);
      well = well;
    }
