-- What the opening of the files finds and leaves.
use Rattle.std.specs.Prelude.{◌≡◌, ◌≢◌, ◌⊎◌, ℕ, ◌+◌, ◌≤◌, ◌<◌, ◌^◌, List, [], ◌∷◌, ◌++◌, length, take, drop, Bool, true, false, Option, None, MatchOption, Result, Ok, Err, IsTrue, MatchResult}
use Rattle.std.specs.Bool.{MatchBool}
use Rattle.std.specs.Int.{w32, from_be_bytes}
use Rattle.yw_outside.specs.Causes.{Rose}
use Rattle.yw_outside.specs.Moments.{IsSettled}
use Rattle.yw_outside.specs.Since.{LeavesOnly}
use Rattle.yw_outside.specs.declared.desk.File.{File}
use Rattle.yw_outside.specs.declared.desk.File.TheVariants.{A}
use Rattle.yw_outside.specs.declared.image.Image.{Image}
use Rattle.yw_journal.specs.Files as files
use Rattle.yw_journal.specs.Files.{Content, IsCut, HasNoMeaning, LeadsTo, NoneIsLive, is_live, snapshot_size_of}
use Rattle.yw_journal.specs.Journal.{IsCurrent, made}
use Rattle.yw_journal.specs.Records.{AreOpen, IsNoRecord}
use Rattle.yw_texts.specs.Texts.{reader}
use Rattle.yw_state.specs.Events.{Leads, LeadAll}
use Rattle.yw_state.specs.State.{State, opening}
use Rattle.yw_state.specs.declared.event.Event.{Event}
use Rattle.yw_serve.specs.Damage.{EntryLeads, HoldNow, IsDamagedNow, heads_damage, meaning}
use Rattle.yw_serve.specs.declared.header.Head.{Head}
use Rattle.yw_serve.specs.declared.opening.StartFault.{StartFault}
use Rattle.yw_serve.specs.declared.opening.StartFault.TheVariants.{Disk, Damaged, Memory}
use Rattle.yw_serve.specs.declared.opening_entries.GateByte.{GateByte}
use Rattle.yw_serve.specs.declared.opening_entries.GateByte.TheVariants.{Closed, Open, Cut}
use Rattle.yw_serve.specs.declared.opening_entries.Tail.{Tail}
use Rattle.yw_serve.specs.declared.server.Server.{Server}
use Rattle.yw_serve.specs.Session.{server_state}
use Rattle.yw_outside.specs.declared.desk.Desk.{Ghosts}

-- Only reads and syncs came between two states of a desk: it holds what it held, and a crash leaves nothing new.
pub record OnlyLooked {D : Type 0} (g : Ghosts D) (old new : D) : Type 0 where
  pub same : g.state new ≡ g.state old
  pub crash : (c : Image) → g.may_leave new c → g.may_leave old c
  pub moments : LeavesOnly g old new (g.may_leave old)
  pub telling : g.tells new ≡ g.tells old
  pub disk : g.disk_faults old ≤ g.disk_faults new
  pub say : g.say_faults new ≡ g.say_faults old

-- Why the opening fails: a call of the files failed, or this damage was found, or no memory was left, and no call had failed.
abbrev pub HasFaultCause : (File → ℕ → Type 0) → ℕ → ℕ → StartFault → Type 0
HasFaultCause found before now Disk = Rose before now
HasFaultCause found before now (Damaged f place) = found f place × (now ≡ before)
HasFaultCause found before now Memory = now ≡ before

-- under Ok no call of the files failed, and an Err has its cause, by the counts of these desks' faults
abbrev pub HasOpenCause : {D T : Type 0} → Ghosts D → Result T StartFault → (File → ℕ → Type 0) → D → D → Type 0
HasOpenCause g result found old new = MatchResult result (λ v. g.disk_faults new ≡ g.disk_faults old) (HasFaultCause found (g.disk_faults old) (g.disk_faults new))

-- this holds of each damage that is answered
abbrev pub OnDamage : {T : Type 0} → Result T StartFault → (File → ℕ → Type 0) → Type 0
OnDamage result P = (f : File) (place : ℕ) → result ≡ Err (Damaged f place) → P f place

-- how the count of the files' faults stands after an opening: it rose under Disk, and is what it was else
abbrev pub OpenFaults : {D T : Type 0} → Ghosts D → Result T StartFault → D → D → Type 0
OpenFaults g (Ok server) old new = g.disk_faults new ≡ g.disk_faults old
OpenFaults g (Err Disk) old new = Rose (g.disk_faults old) (g.disk_faults new)
OpenFaults g (Err (Damaged f place)) old new = g.disk_faults new ≡ g.disk_faults old
OpenFaults g (Err Memory) old new = g.disk_faults new ≡ g.disk_faults old

-- A file's length and its first 30 bytes, where it is live.
pub record IsHeadOf (file : List ℕ) (head : Head) : Type 0 where
  pub live : is_live file ≡ true
  pub size : head.len ≡ length file
  pub bytes : head.bytes ≡ take 30 file

-- the file has a head, and no more bytes than an offset can say
abbrev pub IsSized : Head → Type 0
IsSized head = (30 ≤ head.len) × (head.len < 2 ^ 63)

abbrev pub IsHeadRead : List ℕ → Option Head → Type 0
IsHeadRead file head = MatchOption head (is_live file ≡ false) (IsHeadOf file)

-- The headers show no damage: file B isn't live, and file A isn't or this is its head.
pub record IsChosen (i : Image) (head_of_a : Option Head) : Type 0 where
  pub alone : is_live i.b ≡ false
  pub sound : heads_damage i ≡ None
  pub head : IsHeadRead i.a head_of_a

-- the gate is missing, or it is open and its record passes the end
abbrev pub IsCutHere : List ℕ → Type 0
IsCutHere rest = (rest ≡ []) ⊎ ((after : List ℕ) × (rest ≡ 1 ∷ after) × IsNoRecord rest)

abbrev pub IsClosedHere : List ℕ → Type 0
IsClosedHere rest = (gate : ℕ) × (after : List ℕ) × (rest ≡ gate ∷ after) × (gate ≢ 1)

-- an open gate, and a whole record of so many bytes after it
pub record IsOpenHere (size : ℕ) (rest : List ℕ) : Type 0 where
  pub gate : take 1 rest ≡ 1 ∷ []
  pub within : 5 + size ≤ length rest
  pub value : from_be_bytes w32 (take 4 (drop 1 rest)) ≡ size

-- what these bytes begin with
abbrev pub StandsHere : List ℕ → GateByte → Type 0
StandsHere rest Closed = IsClosedHere rest
StandsHere rest (Open size) = IsOpenHere size rest
StandsHere rest Cut = IsCutHere rest

-- The event leads to this state, or to none.
abbrev pub IsApplied : State → Event → Bool → State → Type 0
IsApplied s e true t = Leads reader s e t
IsApplied s e false t = (u : State) → Leads reader s e u → ⊥

-- The events, each in its turn, lead to this state, or to none.
abbrev pub AreApplied : State → List Event → Bool → State → Type 0
AreApplied s es true t = LeadAll reader s es t
AreApplied s es false t = (u : State) → LeadAll reader s es u → ⊥

-- The entry with these bytes leads to this state, or to none.
abbrev pub EntryIsApplied : State → List ℕ → Bool → State → Type 0
EntryIsApplied s bytes applied t = MatchBool applied (EntryLeads s bytes t) ((u : State) → EntryLeads s bytes u → ⊥)

-- the bytes of the record behind the gate at an offset of a file
abbrev pub record_at : List ℕ → ℕ → ℕ → List ℕ
record_at file at size = take size (drop (at + 5) file)

-- After the header, up to this gate, stand records that lead to this state.
pub record IsReached (file : List ℕ) (at : ℕ) (records : List (List ℕ)) (s : State) : Type 0 where
  pub long : 30 ≤ length file
  pub no_snapshot : snapshot_size_of file ≡ 0
  pub opened : List ℕ
  pub split : file ≡ (take 29 file ++ opened) ++ drop at file
  pub are_open : AreOpen opened records
  pub place : length (take 29 file ++ opened) ≡ at
  pub state : LeadsTo meaning opening records s

-- From a gate at which these records were reached: it is closed, or a record more leads to this state at the next.
abbrev pub ReachesNext : List ℕ → ℕ → List (List ℕ) → State → Option ℕ → Type 0
ReachesNext file at records t next =
    MatchOption next (IsClosedHere (drop at file)) (λ after. (bytes : List ℕ) × IsReached file after (records ++ bytes ∷ []) t)

-- The records end at this gate, which is closed. They are as many as it says, and lead to this state.
abbrev pub EndsAt : List ℕ → State → Tail → Type 0
EndsAt file t tail =
    IsClosedHere (drop tail.gate file) × ((records : List (List ℕ)) × IsReached file tail.gate records t × (length records ≡ tail.records))

-- After a sound header of file A this is the first damage.
pub record IsDamagedAt (file : List ℕ) (f : File) (place : ℕ) : Type 0 where
  pub which : f ≡ A
  pub here : IsCut meaning file place ⊎ HasNoMeaning meaning file place

-- the first damage of file A where these records and this state were reached at this gate of it
abbrev pub IsDamagedFrom : {D : Type 0} → Ghosts D → D → ℕ → List (List ℕ) → State → File → ℕ → Type 0
IsDamagedFrom g desk at records s f place =
    IsTrue (g.tells desk) → IsReached (g.state desk).a at records s → IsDamagedAt (g.state desk).a f place

-- what file A has when it is begun: generation 1, number 0 and no record
abbrev pub begun : Content
begun = made 1 0 []

-- No file was live, and file B is as it was: no file is live, or file A is begun. So the state is the opening one, as it was.
pub record HoldsBegun (i k : Image) : Type 0 where
  pub none : NoneIsLive i
  pub holds : HoldNow files.opening opening k ⊎ HoldNow begun opening k
  pub b : k.b ≡ i.b

-- What a crash leaves of the opening after the syncs: each byte of both files as it was, or file A is being begun.
pub record LeftAfterSyncs (i k : Image) : Type 0 where
  pub files : ((k.a ≡ i.a) × (k.b ≡ i.b)) ⊎ HoldsBegun i k
  pub said : k.said ≡ i.said

-- The files aren't synced yet: they are as they were, and a crash leaves what it might have left before.
pub record IsUnsynced {D : Type 0} (g : Ghosts D) (old new : D) : Type 0 where
  pub same : g.state new ≡ g.state old
  pub moments : LeavesOnly g old new (g.may_leave old)

-- First the files are synced, as they were. Up to then a crash leaves what it might have left before, and from then on what has P.
pub record SyncsFirst {D : Type 0} (g : Ghosts D) (P : Image → Type 0) (old new : D) : Type 0 where
  pub synced : D
  pub same : g.state synced ≡ g.state old
  pub settled : IsSettled (g.state synced) (g.may_leave synced)
  pub before : LeavesOnly g old synced (g.may_leave old)
  pub after : LeavesOnly g synced new P

-- from the syncs on a crash leaves the files as they were, or file A being begun
abbrev pub OpensBy : {D : Type 0} → Ghosts D → D → D → Type 0
OpensBy g old new = SyncsFirst g (LeftAfterSyncs (g.state old)) old new

-- The content that was found goes on, and not one byte of file A has changed; or no file was live, and file A is begun.
abbrev pub GoesOnOrBegins : Content → Content → Image → Image → Type 0
GoesOnOrBegins before now i j = ((now ≡ before) × (j.a ≡ i.a)) ⊎ ((before ≡ files.opening) × (now ≡ begun))

-- The files held this state and hold it, the journal stands for them, and nothing else has changed.
pub record IsOpened (server : Server) (i j : Image) : Type 0 where
  pub before : Content
  pub held : HoldNow before (server_state server) i
  pub now : Content
  pub holds : HoldNow now (server_state server) j
  pub current : IsCurrent server.journal now j
  pub content : GoesOnOrBegins before now i j
  pub other : j.b ≡ i.b
  pub said : j.said ≡ i.said

-- This state is opened, or else no damage is named.
abbrev pub AnswersState : State → Result Server StartFault → Type 0
AnswersState s result = MatchResult result (λ server. server_state server ≡ s) (λ fault. (f : File) (place : ℕ) → fault ≢ Damaged f place)

-- No state is opened, and a damage that is named is this one.
abbrev pub AnswersDamage : File → ℕ → Result Server StartFault → Type 0
AnswersDamage f place result = MatchResult result (λ server. ⊥) (λ fault. (g : File) (other : ℕ) → fault ≡ Damaged g other → (g ≡ f) × (other ≡ place))

-- what is opened is so of what the desk holds, where it tells that
abbrev pub IsOpenedAt : {D : Type 0} → Ghosts D → Server → D → D → Type 0
IsOpenedAt g server old new = IsTrue (g.tells old) → IsOpened server (g.state old) (g.state new)

-- a state that the files hold is the one that is opened
abbrev pub HeldIsAnswered : Image → Result Server StartFault → Type 0
HeldIsAnswered i result = (c : Content) (s : State) → HoldNow c s i → AnswersState s result

-- a damage of the files is the one that is named
abbrev pub DamageIsAnswered : Image → Result Server StartFault → Type 0
DamageIsAnswered i result = (f : File) (place : ℕ) → IsDamagedNow i f place → AnswersDamage f place result
