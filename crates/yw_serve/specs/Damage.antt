-- What the entries of a file mean, and which damages of the files are looked for now, before a file is ever compacted.
use Rattle.std.specs.Prelude.{◌≡◌, ◌⊎◌, ◌==◌, ◌&&◌, ℕ, List, [], ◌∷◌, true, false, not, if◌then◌else◌, Option, None, Some}
use Rattle.yw_outside.specs.declared.desk.File.{File}
use Rattle.yw_outside.specs.declared.desk.File.TheVariants.{A, B}
use Rattle.yw_outside.specs.declared.image.Image.{Image}
use Rattle.yw_journal.specs.Files.{Content, Meaning, HoldState, IsCut, HasNoMeaning, is_live, header_damage, snapshot_size_of}
use Rattle.yw_codec.specs.Entries.{IsEntry}
use Rattle.yw_texts.specs.Texts.{reader}
use Rattle.yw_state.specs.Events.{LeadAll}
use Rattle.yw_state.specs.State.{State, opening}
use Rattle.yw_state.specs.declared.event.Event.{Event}

-- The bytes are an entry's, whose events are allowed in their turn and lead from the one state to the other.
pub record EntryLeads (s : State) (bytes : List ℕ) (t : State) : Type 0 where
  pub events : List Event
  pub is : IsEntry events bytes
  pub lead : LeadAll reader s events t

-- an empty snapshot is the opening state, and no other is built yet
abbrev pub IsSnapshot : List ℕ → State → Type 0
IsSnapshot [] s = s ≡ opening
IsSnapshot (b ∷ bs) s = ⊥

abbrev pub meaning : Meaning State
meaning = record { Opens = IsSnapshot; After = EntryLeads }

-- Both files hold this state, after this content, and file B isn't live, as long as nothing makes it.
pub record HoldNow (c : Content) (s : State) (i : Image) : Type 0 where
  pub hold : HoldState meaning c s i
  pub alone : is_live i.b ≡ false

-- after a sound header of file A: file B is live, or a live file A has a snapshot
abbrev pub later_damage : Image → Option (File × ℕ)
later_damage i =
    if is_live i.b then Some (B, 0)
    else if is_live i.a && not (snapshot_size_of i.a == 0) then Some (A, 21) else None

abbrev pub damage_or : Option ℕ → Option (File × ℕ) → Option (File × ℕ)
damage_or (Some place) other = Some (A, place)
damage_or None other = other

-- The first damage that shows before the entries: the magic, the generation or the count of a live file A, then a live file B, then a
-- snapshot in file A.
abbrev pub heads_damage : Image → Option (File × ℕ)
heads_damage i = damage_or (header_damage i.a) (later_damage i)

-- at one gate after another of file A: the gate is missing, or it is open and its record passes the end or has no meaning in its turn
pub record IsDamagedWithin (i : Image) (f : File) (place : ℕ) : Type 0 where
  pub sound : heads_damage i ≡ None
  pub live : is_live i.a ≡ true
  pub file : f ≡ A
  pub here : IsCut meaning i.a place ⊎ HasNoMeaning meaning i.a place

-- The files hold no state that is read now: the first damage, with its file and place.
abbrev pub IsDamagedNow : Image → File → ℕ → Type 0
IsDamagedNow i f place = (heads_damage i ≡ Some (f, place)) ⊎ IsDamagedWithin i f place
