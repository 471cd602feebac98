-- The work by identity, as a list for each; and what is changed of it behind the events of an entry. Our own.
use Rattle.std.specs.Prelude.{◌≡◌, ◌↔◌, Bool, true, false, List, [], None, Contains}
use Rattle.std.specs.List.{list_any}
use Rattle.yw_state.specs.Identity.{Ident, same}
use Rattle.yw_state.specs.Map.{get}
use Rattle.yw_state.specs.State.{Site, State}
use Rattle.yw_state.specs.Well.{Stands}
use Rattle.yw_state.specs.declared.event.Event.{Event}
use Rattle.yw_idle.specs.Warms.{is_rule, warms}
use Rattle.yw_work.specs.Open.{IsOpen}
use Rattle.yw_work.specs.declared.open.Open.{Open}

-- exactly what is open at j
abbrev pub IsOpenList : State → Ident → List Open → Type 0
IsOpenList s j opens = (o : Open) → Contains opens o ↔ IsOpen s j o.task o.what o.by

abbrev pub Works : Type 0
Works = Ident → List Open

-- at each identity exactly what is open there
abbrev pub IsListed : State → Works → Type 0
IsListed s works = (j : Ident) → IsOpenList s j (works j)

-- one of the events changes what stands at j, or directly below
abbrev pub is_warm : List Event → Ident → Bool
is_warm es j = list_any (λ e. list_any (same j) (warms e)) es

abbrev pub has_rule_event : List Event → Bool
has_rule_event es = list_any is_rule es

-- Where nothing stands any more nothing is listed; what one of the events may have changed is listed anew; the rest is as it was.
pub record IsNoted (es : List Event) (t : State) (old new : Works) : Type 0 where
  pub gone : (j : Ident) → get t.sites j ≡ None → new j ≡ []
  pub anew : (j : Ident) (x : Site) → Stands t j x → is_warm es j ≡ true → IsOpenList t j (new j)
  pub kept : (j : Ident) (x : Site) → Stands t j x → is_warm es j ≡ false → new j ≡ old j
