-- The bytes of an entry. A number of several bytes stands with its most significant byte first. The count of the events
-- is a field that spells it, as `byteorder` reads it.
use Rattle.std.specs.Prelude.{◌≡◌, ◌≤◌, ◌&&◌, ℕ, List, [], ◌∷◌, ◌++◌, length, Bool, true, false, nat_lt}
use Rattle.std.specs.List.{flat_map, list_all}
use Rattle.byteorder.specs.Endian.{big_number, big_bytes}
use Rattle.yw_built.specs.Built.{is_built}
use Rattle.yw_codec.specs.Events.{event_bytes, is_event}
use Rattle.yw_state.specs.declared.event.Event.{Event}
use Rattle.yw_state.specs.declared.event.Event.TheVariants as events
use Rattle.yw_state.specs.declared.tree.Conclusion.{Conclusion}
use Rattle.yw_state.specs.declared.tree.Conclusion.TheVariants as conclusions
use Rattle.yw_state.specs.declared.tree.Primitive.{Primitive}
use Rattle.yw_state.specs.declared.tree.Primitive.TheVariants as primitives

-- a field of so many bytes that spells this number
pub record IsField (size value : ℕ) (field : List ℕ) : Type 0 where
  pub long : length field ≡ size
  pub spells : big_number size field ≡ value

-- what an entry may have today: an event that is in its range, and such as the server does
abbrev pub is_kept : Event → Bool
is_kept event = is_event event && is_built event

-- A count of two bytes and so many events, of which there are 1 to 4,097. Each is in its range, and such as the server does today.
pub record IsEntry (events : List Event) (bytes : List ℕ) : Type 0 where
  pub field : List ℕ
  pub split : bytes ≡ field ++ flat_map event_bytes events
  pub count : IsField 2 (length events) field
  pub some : 1 ≤ length events
  pub few : length events ≤ 4097
  pub each : list_all is_event events ≡ true
  pub built : list_all is_built events ≡ true

-- one of the words
abbrev pub is_word : Primitive → Bool
is_word (primitives.Unknown text) = false
is_word primitive = true

abbrev pub has_words : Conclusion → Bool
has_words (conclusions.Worklet spec) = true
has_words (conclusions.Exlet steps) = list_all is_word steps

-- It has bytes: a person has at most 64 roles, and each primitive is one of the words. The rest of what an event's fields may be is so of
-- each such value, but for lengths: whether those fit four bytes is seen when they are written.
abbrev pub has_form : Event → Bool
has_form (events.Person name roles) = nat_lt (length roles) 65
has_form (events.AddRule place at side when conclusion number) = has_words conclusion
has_form (events.Prim run primitive) = is_word primitive
has_form event = true

-- an event that an entry may have: one that the server does today
abbrev pub is_writable : Event → Bool
is_writable event = is_built event && has_form event

-- the bytes of an entry: a count, and the events
unfoldable pub entry_bytes : List Event → List ℕ
entry_bytes events = big_bytes 2 (length events) ++ flat_map event_bytes events

-- an entry as it is appended: its length, its bytes, and a closed gate
unfoldable pub framed : List Event → List ℕ
framed events = (big_bytes 4 (length (entry_bytes events)) ++ entry_bytes events) ++ 0 ∷ []
