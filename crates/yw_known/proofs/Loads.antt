-- What is so of a library into which a specification is loaded.
use Rattle.std.proofs.Common.{List, None, [], ap, refl, subst, sym, ℕ, ◌++◌, ◌∙◌, ◌∷◌, ◌≡◌}
use Rattle.std.specs.Prelude.{is_some, not}
use Rattle.std.specs.Str.{bytes_eq}
use Rattle.yw_known.specs.Upstreams.{AreKnown, by_name}
use Rattle.yw_library.specs.Always.{AlwaysLeads}
use Rattle.yw_library.specs.Holdings.{AddsSpec, Holdings, nothing as nothing_kept, with_library}
use Rattle.yw_path.specs.declared.upstream.Upstream.{Upstream}
use Rattle.yw_state.proofs.Tests.{and_right, by_option, never, nowhere}
use Rattle.yw_state.specs.Allowed.{Allowed, allows}
use Rattle.yw_state.specs.Map.{get}
use Rattle.yw_state.specs.State.{State, opening}
use Rattle.yw_state.specs.Texts.{Said, a_spec, a_test, nothing}
use Rattle.yw_state.specs.declared.event.Event.TheVariants as events
use Rattle.yw_state.specs.declared.loaded.Loaded.{Loaded}

allowed_free : (s : State) (name text : List ℕ) (said : Said) → Allowed s (events.Load name text) said → get s.specs name ≡ None
unfolding allows
allowed_free s name text nothing a = never a.0
allowed_free s name text (a_test test) a = never a.0
allowed_free s name text (a_spec spec) a =
    by_option (get s.specs name)
    (λ none. none)
    (λ l some. never (sym (ap (λ o. not (is_some o)) some) ∙ and_right (bytes_eq spec.name name) _ a.0))

-- no specification had the name
pub load_free : (old new : Holdings) (name text : List ℕ) → AlwaysLeads old (events.Load name text) new → get (by_name old.specs) name ≡ None
unfolding with_library
load_free old new name text leads = let l = leads opening in allowed_free (with_library opening old) name text l.said l.allowed

-- ---- what is so of each that is known

pub known_nothing : (library : Holdings) (rows : List (List Upstream)) → library ≡ nothing_kept → rows ≡ [] → AreKnown library.specs rows
known_nothing library rows none empty =
    let here : AreKnown [] [] = record {
      len = refl;
      rows_fit = λ k l ups at row. nowhere at;
      within = λ k l at. nowhere at;
      named = λ k l at. nowhere at;
    } in
    subst (AreKnown library.specs) (sym empty) (subst (λ (z : Holdings). AreKnown z.specs []) (sym none) here)

pub known_loaded : (old new : Holdings) (rows after : List (List Upstream)) (name text : List ℕ) → AddsSpec old new name text
    → AlwaysLeads old (events.Load name text) new → AreKnown old.specs rows
    → ((specs : List Loaded) (l : Loaded) → new.specs ≡ specs ++ l ∷ [] → AreKnown specs rows → get (by_name specs) l.spec.name ≡ None → AreKnown new.specs after)
    → AreKnown new.specs after
known_loaded old new rows after name text adds leads known kept =
    kept old.specs adds.loaded (ap (λ (z : Holdings). z.specs) adds.behind) known
    (subst (λ n. get (by_name old.specs) n ≡ None) (sym adds.named) (load_free old new name text leads))
