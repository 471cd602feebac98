-- The net at an identity, in a state in which nothing holds work there.
use Rattle.std.proofs.Common.{Bool, List, None, Option, Some, ℕ}
use Rattle.std.specs.Prelude.{MatchOption}
use Rattle.yw_accepted.proofs.Loaded.{accepted_are_within}
use Rattle.yw_enabled.specs.Free.{MayDraw, StandsFree}
use Rattle.yw_known.specs.Here.{IsNetHere}
use Rattle.yw_library.specs.Names.{names_of}
use Rattle.yw_known.specs.declared.here.NetHere.{NetHere}
use Rattle.yw_library.specs.Holdings.{Holdings}
use Rattle.yw_texts.specs.Texts.{reader}
use Rattle.yw_state.specs.Identity.{Ident}
use Rattle.yw_base.specs.Identity.{case_number}
use Rattle.yw_state.specs.State.{State}
use Rattle.yw_tree.specs.declared.Forest.{Forest}
use Rattle.yw_walk.specs.Finds.{AtomicIsManual, FindsEntered, FindsLeft, IsFound, IsFreeAt, NoneEntered, NoneLeft, TellsChosen}
use Rattle.yw_walk.specs.declared.found.Found.{Found}
use Rattle.yw_within.proofs.Finding.{well_holds_within}
use Rattle.yw_within.specs.Within.{HoldsWithin}

module _ (known : Holdings) (f : Forest) (next : ℕ) (s : State) (j : Ident) (w : IsFreeAt known f next j s) (h : NetHere)
    (is : IsNetHere known f s j h) where
  holds : HoldsWithin s
  holds = well_holds_within reader s accepted_are_within w.held.well

  free : StandsFree (names_of known) f s j h.net.now h.state.now
  free = record { stands = is.stands; numbers = w.held.well.numbers; free = w.free }

  draw : MayDraw (names_of known) f s j h.net.now h.state.now next
  draw = record { free = free; spec = h.spec.now; within = is.within; next = w.drawn }

  pub left_there : (o : Option Found) → FindsLeft h j o → MatchOption o (NoneLeft s j) (IsFound s (case_number j))
  left_there o finds = finds (names_of known) f s free holds

  module _ (chosen : List Bool) (tells : AtomicIsManual s → TellsChosen s j chosen) where
    pub entered_there : (o : Option Found) → FindsEntered h j next chosen o → MatchOption o (NoneEntered s j) (IsFound s (case_number j))
    entered_there o finds = finds (names_of known) f s draw holds (tells w.manual)

    pub tasks_there : FindsLeft h j None → (o : Option Found) → FindsEntered h j next chosen o
        → MatchOption o (NoneLeft s j × NoneEntered s j) (IsFound s (case_number j))
    tasks_there left None entered = (left_there None left, entered_there None entered)
    tasks_there left (Some e) entered = entered_there (Some e) entered
