-- What an entry may have: events that are in their range and built. Their bytes tell where they end.
use Rattle.std.proofs.Common.{◌≡◌, ◌&&◌, ◌<◌, ℕ, List, [], ◌∷◌, ◌++◌, length, Bool, true, false, get_or, slice_index, refl, sym, ap, ◌∙◌, arith}
use Rattle.std.specs.List.{list_all}
use Rattle.yw_built.specs.Built.{is_built}
use Rattle.yw_codec.specs.Entries.{is_kept}
use Rattle.yw_codec.specs.EventLaws.{event_apart}
use Rattle.yw_codec.specs.Events.{event_bytes, is_event}
use Rattle.yw_codec.specs.FieldLaws.{and_left, and_right, both_true, none_of_nothing}
use Rattle.yw_codec.specs.Forms.{Stands, NoneStands, AreApart}
use Rattle.yw_state.specs.declared.event.Event.{Event}
use Rattle.yw_state.specs.declared.event.Event.TheVariants as events

kept_stands : (e : Event) (whole rest : List ℕ) → Stands is_kept event_bytes whole e rest → Stands is_event event_bytes whole e rest
kept_stands e whole rest s = record { in_range = and_left (is_event e) (is_built e) s.in_range; split = s.split }

pub kept_apart : AreApart is_kept event_bytes
kept_apart e f whole x y s t = event_apart e f whole x y (kept_stands e whole x s) (kept_stands f whole y t)

pub none_kept : (whole : List ℕ) → NoneStands is_event event_bytes whole → NoneStands is_kept event_bytes whole
none_kept whole none e rest s = none e rest (kept_stands e whole rest s)

event_some : (e : Event) → 0 < length (event_bytes e)
event_some (events.Person name roles) = omega arith
event_some e = omega arith

pub no_event_of_nothing : (whole : List ℕ) → whole ≡ [] → NoneStands is_event event_bytes whole
no_event_of_nothing whole empty = none_of_nothing is_event event_bytes whole event_some empty

-- what a tag tells of each event that it begins
abbrev pub TellsBuilt : ℕ → Bool → Type 0
TellsBuilt tag built = (e : Event) (rest : List ℕ) → slice_index (event_bytes e ++ rest) 0 ≡ tag → is_built e ≡ built

tag_of : (tag : ℕ) (whole mid rest : List ℕ) (e : Event) → whole ≡ tag ∷ mid → whole ≡ event_bytes e ++ rest → slice_index (event_bytes e ++ rest) 0 ≡ tag
tag_of tag whole mid rest e front split = ap (λ (l : List ℕ). get_or l 0 0) (sym split ∙ front)

pub kept_read : (tag : ℕ) (whole mid rest : List ℕ) (e : Event) → whole ≡ tag ∷ mid → TellsBuilt tag true → Stands is_event event_bytes (tag ∷ mid) e rest → Stands is_kept event_bytes whole e rest
kept_read tag whole mid rest e front tells s = record {
  in_range = both_true (is_event e) (is_built e) s.in_range (tells e rest (tag_of tag whole mid rest e front (front ∙ s.split)));
  split = front ∙ s.split;
}

pub no_kept : (tag : ℕ) (whole mid : List ℕ) → whole ≡ tag ∷ mid → TellsBuilt tag false → NoneStands is_kept event_bytes whole
no_kept tag whole mid front tells e rest s = absurd (not_so (sym (tells e rest (tag_of tag whole mid rest e front s.split)) ∙ and_right (is_event e) (is_built e) s.in_range))
  where
    not_so : false ≡ true → ⊥
    not_so h = cc

pub no_kept_behind : (tag : ℕ) (whole mid : List ℕ) → whole ≡ tag ∷ mid → NoneStands is_event event_bytes (tag ∷ mid) → NoneStands is_kept event_bytes whole
no_kept_behind tag whole mid front none e rest s =
    none e rest (record { in_range = and_left (is_event e) (is_built e) s.in_range; split = sym front ∙ s.split })

-- ---- all of them

pub all_events : (es : List Event) → list_all is_kept es ≡ true → list_all is_event es ≡ true
all_events [] all = refl
all_events (e ∷ es) all =
    both_true (is_event e) (list_all is_event es) (and_left (is_event e) (is_built e) (and_left (is_kept e) (list_all is_kept es) all))
    (all_events es (and_right (is_kept e) (list_all is_kept es) all))

pub all_built : (es : List Event) → list_all is_kept es ≡ true → list_all is_built es ≡ true
all_built [] all = refl
all_built (e ∷ es) all =
    both_true (is_built e) (list_all is_built es) (and_right (is_event e) (is_built e) (and_left (is_kept e) (list_all is_kept es) all))
    (all_built es (and_right (is_kept e) (list_all is_kept es) all))

pub all_kept : (es : List Event) → list_all is_event es ≡ true → list_all is_built es ≡ true → list_all is_kept es ≡ true
all_kept [] each built = refl
all_kept (e ∷ es) each built =
    both_true (is_kept e) (list_all is_kept es)
    (both_true (is_event e) (is_built e) (and_left (is_event e) (list_all is_event es) each) (and_left (is_built e) (list_all is_built es) built))
    (all_kept es (and_right (is_event e) (list_all is_event es) each) (and_right (is_built e) (list_all is_built es) built))
