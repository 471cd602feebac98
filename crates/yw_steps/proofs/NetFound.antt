-- The net that is found at an identity stands there in each state that has the forest's map.
use Rattle.std.proofs.Common.{List, Some, ap, subst, sym, true, ℕ, ◌∙◌, ◌≡◌}
use Rattle.std.specs.Prelude.{option_map}
use Rattle.yw_base.specs.Identity.{is_identity}
use Rattle.yw_nest.proofs.Known.{part_known}
use Rattle.yw_spec.specs.declared.spec.Net.{Net}
use Rattle.yw_state.proofs.Tests.{map_some, some_same, then_some}
use Rattle.yw_state.specs.Identity.{Ident}
use Rattle.yw_state.specs.State.{NetAt, NetPart, State, net_at, net_of, net_part}
use Rattle.yw_steps.specs.Stands.{NetIs}
use Rattle.yw_task.specs.Standing.{NetStands}
use Rattle.yw_base.proofs.Parents.{identity_long}
use Rattle.yw_tree.specs.Entries.{net_part as part_of}
use Rattle.yw_tree.specs.Forest.{IsForest, sites_of}
use Rattle.yw_tree.specs.Places.{net_at as net_found}
use Rattle.yw_tree.specs.declared.Forest.{Forest}
use Rattle.yw_tree.specs.declared.NetState.{NetState}

abbrev net_with : NetPart → Net → NetAt
net_with p w = record { part = p; net = w }

module _ (f : Forest) (boxed : IsForest f) (i : Ident) (identity : is_identity i ≡ true) (u : NetState) (found : net_found f i ≡ Some u) (names : ℕ → List ℕ) (s : State) (sites : s.sites ≡ sites_of names f) (there : NetAt) (stands : net_at s i ≡ Some there) where
  whole : (p : NetPart) × (net_part s i ≡ Some p) × (option_map (net_with p) (net_of s p) ≡ Some there)
  whole = then_some (λ (p : NetPart). option_map (net_with p) (net_of s p)) (net_part s i) there stands

  same_part : whole.0 ≡ part_of names u
  same_part = some_same whole.0 (part_of names u) (sym whole.1 ∙ part_known names f boxed s sites i (identity_long i identity) u found)

  its : (w : Net) × (net_of s whole.0 ≡ Some w) × (net_with whole.0 w ≡ there)
  its = map_some (net_with whole.0) (net_of s whole.0) there whole.2

  pub part_is : there.part ≡ part_of names u
  part_is = sym (ap (λ (n : NetAt). n.part) its.2) ∙ same_part

  pub net_stands : NetStands names f s i there.net u
  net_stands = record {
    boxed = boxed;
    sites = sites;
    identity = identity;
    found = found;
    known = ap (net_of s) (sym same_part) ∙ its.1 ∙ ap (λ (n : NetAt). Some n.net) its.2;
  }

-- as is said of the net
pub stands_so : (f : Forest) → IsForest f → (i : Ident) → is_identity i ≡ true → (u : NetState) → net_found f i ≡ Some u → (names : ℕ → List ℕ) (s : State) → s.sites ≡ sites_of names f
    → (net : Net) → NetIs s i net → NetStands names f s i net u
stands_so f boxed i identity u found names s sites net is =
    subst (λ (w : Net). NetStands names f s i w u) is.same (net_stands f boxed i identity u found names s sites is.there is.stands)
