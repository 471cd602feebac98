-- What stands once parts of what is kept are others; and whether an event leads on, by its test.
use Rattle.std.proofs.Common.{Fits, arith, ap, sym, w64, ◌∙◌, ◌≤◌}
use Rattle.std.specs.Ordering.{nat_cmp}
use Rattle.std.specs.Prelude.{List, false, refl, ℕ, ◌≡◌}
use Rattle.yw_base.specs.Identity.{number_end}
use Rattle.yw_library.specs.Ended.{ended_of}
use Rattle.yw_library.specs.Holdings.{with_holdings, with_library}
use Rattle.yw_library.specs.Names.{names_of}
use Rattle.yw_nest.specs.Cases.{with_ended}
use Rattle.yw_standing.specs.State.{state_of}
use Rattle.yw_standing.specs.Tried.{LeadsNowhere, LeadsOn}
use Rattle.yw_standing.specs.declared.standing.Standing.{Standing}
use Rattle.yw_state.proofs.Tests.{never}
use Rattle.yw_state.specs.After.{with_next, with_sites}
use Rattle.yw_state.specs.Allowed.{Allowed, allows}
use Rattle.yw_state.specs.Events.{after}
use Rattle.yw_state.specs.Map.{Map, insert}
use Rattle.yw_state.specs.State.{opening}
use Rattle.yw_state.specs.Texts.{Said, Says, nothing}
use Rattle.yw_state.specs.declared.event.Event.{Event}
use Rattle.yw_state.specs.declared.part.Way.{Way}
use Rattle.yw_texts.specs.Texts.{reader}
use Rattle.yw_tree.specs.Forest.{sites_of}
use Rattle.yw_tree.specs.declared.Forest.{Forest}

-- ---- the number that is drawn next

pub next_is : (h : Standing) → (state_of h).next ≡ h.next
unfolding with_library
next_is h = refl

-- numbers are well below the greatest that there is
pub fits_below : (k : ℕ) → k ≤ number_end → Fits w64 k
fits_below k below = omega (arith, below)

-- ---- the state of what is kept, once parts of it are others

module _ (old : Standing) (f : Forest) where
  pub placed : with_sites (state_of old) (sites_of (names_of old.known) f) ≡ state_of (record old { forest = f })
  unfolding with_library
  placed = refl

  pub placed_next : (k : ℕ) → with_sites (with_next (state_of old) k) (sites_of (names_of old.known) f) ≡ state_of (record old { forest = f; next = k })
  unfolding with_library
  placed_next k = refl

  pub placed_over : (es : List (ℕ × Way)) (n : ℕ) (way : Way) → ended_of es ≡ insert (ended_of old.ended) n way
      → with_sites (with_ended n way (state_of old)) (sites_of (names_of old.known) f) ≡ state_of (record old { forest = f; ended = es })
  unfolding with_library
  placed_over es n way put =
      ap (λ (m : Map nat_cmp Way). with_holdings (record opening { next = old.next; sites = sites_of (names_of old.known) f; ended = m }) old.known) (sym put)

-- ---- an event whose test fails

pub fails : (old : Standing) (e : Event) → ((said : Said) → allows (state_of old) e said ≡ false) → LeadsNowhere old e
fails old e test t leads = never (sym (test leads.said) ∙ leads.allowed.0)

-- ---- an event that is allowed

pub leads_plainly : (old : Standing) (e : Event) → Says reader (state_of old) e nothing → Allowed (state_of old) e nothing → LeadsOn old e
leads_plainly old e says allowed = (after (state_of old) e nothing, record { said = nothing; says = says; allowed = allowed; then = refl })
