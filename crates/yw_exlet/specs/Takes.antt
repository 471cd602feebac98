-- What a run that takes its first primitive does to the map.
use Rattle.std.specs.Prelude.{◌≡◌, Bool, List, ℕ}
use Rattle.yw_state.specs.After.{completed, stands, with_item, with_run, with_sites}
use Rattle.yw_state.specs.Exlets.{end_if_over, restarted, taken_first, waiting}
use Rattle.yw_state.specs.Identity.{Ident}
use Rattle.yw_state.specs.Map.{update}
use Rattle.yw_state.specs.State.{Site, Sites, State, bare_but, drop, no_checks}
use Rattle.yw_state.specs.Values.{Row}
use Rattle.yw_state.specs.declared.part.Checks.{Checks}
use Rattle.yw_tree.specs.Entries.{net_part}
use Rattle.yw_tree.specs.Forest.{sites_of}
use Rattle.yw_tree.specs.declared.Forest.{Forest}
use Rattle.yw_tree.specs.declared.NetState.{NetState}
use Rattle.yw_exlet.specs.Changes.{marked}

-- The run at r loses its first primitive, then the map changes by f, and then the run goes if it is over. Specifications have names.
abbrev pub TakesBy : Ident → ((ℕ → List ℕ) → Sites → Sites) → Forest → Forest → Type 0
TakesBy r f old new = (names : ℕ → List ℕ) (s : State) → s.sites ≡ sites_of names old
    → end_if_over (with_sites s (f names (update s.sites r (with_run taken_first)))) r ≡ with_sites s (sites_of names new)

abbrev pub Change : Type 0
Change = (ℕ → List ℕ) → Sites → Sites

-- nothing more
abbrev pub none : Change
none names m = m

-- j is suspended, or isn't any more
abbrev pub marks : Ident → Bool → Change
marks j b names m = update m j (marked b)

abbrev pub select_due : Bool → Checks
select_due b = record no_checks { select = b }

-- an item as it begins again
abbrev pub anew : Bool → Site → Site
anew b x = record (with_item restarted x) { due = select_due b }

-- an item that counts as completed, and has made this
abbrev pub cut_short : Row → Site → Site
cut_short made x = record (with_item (completed made) x) { due = no_checks }

-- item j begins anew, and its net goes
abbrev pub restarts : Ident → Ident → Bool → Change
restarts r j b names m = update (bare_but m j r) j (anew b)

-- item j is completed, and its net goes
abbrev pub completes : Ident → Ident → Row → Change
completes r j made names m = update (bare_but m j r) j (cut_short made)

-- all under j goes
abbrev pub drops : Ident → Change
drops j names m = drop m j

-- this net stands at the run, which waits
abbrev pub begins : Ident → NetState → Change
begins r net names m = update m r (λ x. stands (net_part names net) (with_run waiting x))
