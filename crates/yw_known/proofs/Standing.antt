-- The net that a state has at an identity, by what is known and the forest.
use Rattle.std.proofs.Common.{List, None, Some, ap, sym, true, ℕ, ◌∙◌, ◌≡◌, ◌≤◌, length}
use Rattle.std.specs.Prelude.{option_and_then, option_map, slice_get}
use Rattle.yw_accepted.proofs.Loaded.{accepted_are_within}
use Rattle.yw_base.specs.Identity.{is_identity}
use Rattle.yw_known.proofs.Names.{spec_behind}
use Rattle.yw_library.specs.Held.{IsHeld}
use Rattle.yw_known.specs.Here.{IsNetHere}
use Rattle.yw_known.specs.Known.{IsKnownNet, net_numbered}
use Rattle.yw_library.specs.Names.{name_in, names_of}
use Rattle.yw_library.specs.Holdings.{AreNamed, Holdings, IsKept, state_of, with_library}
use Rattle.yw_known.specs.declared.here.NetHere.{NetHere}
use Rattle.yw_nest.proofs.Known.{net_known, part_known}
use Rattle.yw_nest.proofs.NetFound.{net_there}
use Rattle.yw_spec.specs.declared.spec.Spec.{Spec}
use Rattle.yw_state.proofs.Standing.{at_net_part}
use Rattle.yw_state.proofs.Tests.{by_option, nowhere, some_same}
use Rattle.yw_state.specs.Identity.{Ident}
use Rattle.yw_state.specs.Map.{get}
use Rattle.yw_state.specs.State.{NetPart, State, net_part, spec_called}
use Rattle.yw_state.specs.declared.loaded.Loaded.{Loaded}
use Rattle.yw_base.proofs.Parents.{identity_long}
use Rattle.yw_tree.specs.Entries.{net_part as its_part}
use Rattle.yw_tree.specs.Places.{net_at as net_found}
use Rattle.yw_tree.specs.declared.Forest.{Forest}
use Rattle.yw_tree.specs.declared.NetState.{NetState, out-NetState}
use Rattle.yw_within.specs.Within.{IsWithin}

-- the state's specifications are those that are known
pub specs_are : (known : Holdings) (f : Forest) (s : State) → IsHeld known f s → s.specs ≡ (state_of known).specs
unfolding with_library
specs_are known f s h = ap (λ (z : State). z.specs) h.library

-- ---- a specification that is found by its name

module _ (known : Holdings) (f : Forest) (s : State) (h : IsHeld known f s) (name : List ℕ) (spec : Spec) (number : ℕ) (kept : IsKept known name spec number) where
  loaded_there : get s.specs name ≡ Some (record { text = kept.text; spec = spec })
  loaded_there = ap (λ z. get z name) (specs_are known f s h) ∙ kept.kept

  -- it is loaded under the name
  pub kept_called : spec_called s name ≡ Some spec
  kept_called = ap (option_map (λ (l : Loaded). l.spec)) loaded_there

  -- which is that of its number
  pub kept_named : names_of known number ≡ name
  kept_named = ap name_in kept.stands ∙ h.well.content.spec_name name (record { text = kept.text; spec = spec }) loaded_there

pub kept_within : (known : Holdings) (name : List ℕ) (spec : Spec) (number : ℕ) → IsKept known name spec number → IsWithin spec
kept_within known name spec number kept = accepted_are_within kept.text spec kept.accepted

-- ---- a net

-- where none is found, none stands
pub no_net_here : (known : Holdings) (f : Forest) (s : State) → IsHeld known f s → (i : Ident) → net_found f i ≡ None → net_part s i ≡ None
no_net_here known f s h i e =
    by_option (net_part s i)
    (λ none. none)
    (λ p some.
    let at = at_net_part s i p some in
    nowhere (sym e ∙ (net_there (names_of known) f h.boxed i (h.well.numbers.identities i at.0 at.1) s h.sites p some).1))

module _ (known : Holdings) (f : Forest) (s : State) (h : IsHeld known f s) (i : Ident) (identity : is_identity i ≡ true) where
  long : 1 ≤ length i
  long = identity_long i identity

  module _ (u : NetState) (found : net_found f i ≡ Some u) where
    abbrev k : ℕ
    k = (out-NetState u).spec

    abbrev n : ℕ
    n = (out-NetState u).net

    part : net_part s i ≡ Some (its_part (names_of known) u)
    part = part_known (names_of known) f h.boxed s h.sites i long u found

    -- the specification of its number has the net of its number
    pub numbered : AreNamed known → net_numbered known k n ≡ None → ⊥
    numbered named none =
        let o = spec_behind s h.well i (its_part (names_of known) u) part in
        by_option (slice_get known.specs k)
        (λ (e : slice_get known.specs k ≡ None). o.has_name (ap name_in e))
        (λ (l : Loaded) (e : slice_get known.specs k ≡ Some l).
        let at : get s.specs (names_of known k) ≡ Some l = ap (λ z. get z (names_of known k)) (specs_are known f s h) ∙ ap (λ z. get (state_of known).specs (name_in z)) e ∙ named k l e in
        let same : o.loaded ≡ l = some_same o.loaded l (sym o.at ∙ at) in
        nowhere (sym none ∙ ap (option_and_then (λ (z : Loaded). slice_get z.spec.nets n)) e ∙ ap (λ (z : Loaded). slice_get z.spec.nets n) (sym same) ∙ o.of_spec))

  pub net_is_here : (w : NetHere) → net_found f i ≡ Some w.state.now
      → IsKnownNet known (out-NetState w.state.now).spec (out-NetState w.state.now).net (record { spec = w.spec; net = w.net; up = w.up }) → IsNetHere known f s i w
  net_is_here w found g =
      let names : ℕ → List ℕ = names_of known in
      let u = w.state.now in
      let spec = w.spec.now in
      let name : names (out-NetState u).spec ≡ spec.name = ap name_in g.kept.stands in
      let called : spec_called s (names (out-NetState u).spec) ≡ Some spec =
      ap (spec_called s) name ∙ ap (λ z. option_map (λ (l : Loaded). l.spec) (get z spec.name)) (specs_are known f s h) ∙ ap (option_map (λ (l : Loaded). l.spec)) g.kept.kept in
      let of = ap (option_and_then (λ (p : NetPart). spec_called s p.spec)) (part u found) ∙ called in
      record {
        stands = record {
          boxed = h.boxed;
          sites = h.sites;
          identity = identity;
          found = found;
          known = ap (option_and_then (λ (z : Spec). slice_get z.nets (out-NetState u).net)) called ∙ g.of_spec;
        };
        at = net_known names f h.boxed s h.sites i long u found spec of w.net.now g.of_spec;
        of_state = of;
        of_spec = g.of_spec;
        spec_within = g.spec_within;
        within = g.within;
        upstream = g.upstream;
        kept = g.kept;
      }
