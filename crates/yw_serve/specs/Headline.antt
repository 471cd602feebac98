-- The whole of a run in two facts: what the files hold at its end, and what a crash leaves of it.
use Rattle.std.specs.Prelude.{◌≡◌, ◌⊎◌, ℕ, ◌+◌, ◌<◌, List, [], ◌∷◌, ◌++◌, length}
use Rattle.yw_outside.specs.Image.{SaysPart}
use Rattle.yw_outside.specs.Moments.{IsSettled}
use Rattle.yw_outside.specs.declared.image.Image.{Image}
use Rattle.yw_codec.specs.Entries.{framed}
use Rattle.yw_journal.specs.Files.{Content, end_of}
use Rattle.yw_model.specs.Run.{Answers, Entry, Run, Step, said_by}
use Rattle.yw_state.specs.State.{State}
use Rattle.yw_serve.specs.Damage.{HoldNow}
use Rattle.yw_serve.specs.Notices.{full_line}
use Rattle.yw_serve.specs.Opening.{IsUnsynced, SyncsFirst}
use Rattle.yw_serve.specs.declared.top.Status.{Status}
use Rattle.yw_serve.specs.declared.top.Status.TheVariants.{Disk, Memory}
use Rattle.yw_outside.specs.declared.desk.Desk.{Ghosts}

-- The files held a state, a run over all lines leads from it to another, which they hold now and after a crash, and all replies of the
-- run are said.
pub record Serves {D : Type 0} (g : Ghosts D) (all : List (List ℕ)) (old new : D) : Type 0 where
  pub s : State
  pub before : Content
  pub held : HoldNow before s (g.state old)
  pub steps : List Step
  pub reached : State
  pub run : Run s 1 all steps reached
  pub now : Content
  pub holds : HoldNow now reached (g.state new)
  pub settled : IsSettled (g.state new) (g.may_leave new)
  pub said : (g.state new).said ≡ (g.state old).said ++ said_by steps

-- The replies of all steps but the last are said, and a prefix of its own.
pub record IsReplying (steps : List Step) (old now : List ℕ) : Type 0 where
  pub done : List Step
  pub step : Step
  pub split : steps ≡ done ++ step ∷ []
  pub part : SaysPart (old ++ said_by done) step.reply now

-- In state s the first of these lines, which has number n, may be answered by an entry that would end at this offset, after the entries of this
-- content, and past the limit.
pub record HasNoRoomFor (limit : ℕ) (c : Content) (s : State) (n : ℕ) (lines : List (List ℕ)) (end : ℕ) : Type 0 where
  pub line : List ℕ
  pub later : List (List ℕ)
  pub first : lines ≡ line ∷ later
  pub step : Step
  pub after : State
  pub answers : Answers s n line step after
  pub entry : Entry
  pub taken : step.taken ≡ entry ∷ []
  pub ends : end ≡ end_of c + length (framed entry.events)
  pub past : limit < end

-- All replies are said, and a prefix of the line that says where the next entry would end.
pub record IsTellingFull (limit : ℕ) (c : Content) (s : State) (n : ℕ) (lines : List (List ℕ)) (steps : List Step) (old now : List ℕ) : Type 0 where
  pub end : ℕ
  pub no_room : HasNoRoomFor limit c s n lines end
  pub part : SaysPart (old ++ said_by steps) (full_line end) now

-- The files hold the state to which a prefix of the lines leads. So each command that was answered, even in part, is in it: what was said
-- since are the replies of these lines, the last perhaps in part, or all of them and a prefix of the line that says where the next entry would end.
pub record HoldsPrefix (limit : ℕ) (s : State) (all : List (List ℕ)) (old : List ℕ) (i : Image) : Type 0 where
  pub lines : List (List ℕ)
  pub more : List (List ℕ)
  pub split : all ≡ lines ++ more
  pub steps : List Step
  pub reached : State
  pub run : Run s 1 lines steps reached
  pub now : Content
  pub holds : HoldNow now reached i
  pub told : (i.said ≡ old ++ said_by steps) ⊎ IsReplying steps old i.said ⊎ IsTellingFull limit now reached (1 + length lines) more steps old i.said

-- From the syncs of the opening on a crash leaves what has P, and up to them what it might have left before. Where they aren't done, a call
-- of the files failed or no memory was left, and the files are as they were.
abbrev pub LeavesFromSyncs : {D : Type 0} → Ghosts D → Status → (Image → Type 0) → D → D → Type 0
LeavesFromSyncs g status P old new = SyncsFirst g P old new ⊎ (IsUnsynced g old new × ((status ≡ Disk) ⊎ (status ≡ Memory)))
