-- The event that comes of itself in a case, from the state and the text of its step: a kind and an identity are read from the text, and so
-- are a task's name and the place from which an XOR-join takes. All else is fixed by the state.
use Rattle.std.specs.Prelude.{ℕ, List, [], ◌∷◌, map, filter, Option, Some, None, codes, get_or, option_and_then, unwrap_or, if◌then◌else◌}
use Rattle.std.specs.Str.{bytes_eq}
use Rattle.yw_base.specs.declared.gate.Gate.{Gate}
use Rattle.yw_base.specs.declared.gate.Gate.TheVariants.{And, Xor, Or}
use Rattle.yw_spec.specs.declared.spec.Place.{Place}
use Rattle.yw_state.specs.Allowed.{exit_values}
use Rattle.yw_state.specs.Broken.{entry_count}
use Rattle.yw_state.specs.Identity.{Ident}
use Rattle.yw_state.specs.Joins.{marked}
use Rattle.yw_state.specs.Judged.{conclusion_at, judged}
use Rattle.yw_state.specs.Passing.{split_places}
use Rattle.yw_state.specs.State.{State, RunPart, TaskAt, due_at, run_part, task_at}
use Rattle.yw_state.specs.declared.event.Event.{Event}
use Rattle.yw_state.specs.declared.event.Event.TheVariants as events
use Rattle.yw_state.specs.declared.tree.Primitive.{Primitive}
use Rattle.yw_state.specs.declared.tree.TreeKind.{TreeKind}
use Rattle.yw_state.specs.declared.tree.TreeKind.TheVariants as kinds
use Rattle.yw_told.proofs.Fixed.{first_due, first_primitive, numbered, worklet_in}
use Rattle.yw_told.proofs.Parts.{words_in}
use Rattle.yw_told.proofs.Written.{ident_read, place_read}

-- ---- what the state fixes

-- the places from which a join takes, where the text says which, if it is one
abbrev pub places_taken : Gate → State → Ident → TaskAt → List ℕ → List Place
places_taken And s i x said = map (numbered x.within.net) x.task.before
places_taken Xor s i x said = place_read said ∷ []
places_taken Or s i x said = map (numbered x.within.net) (filter (marked s i) x.task.before)

abbrev pub entered : State → Ident → List ℕ → List ℕ → Option TaskAt → Event
entered s i t said None = events.Enter i t [] 0 0
entered s i t said (Some x) = events.Enter i t (places_taken x.task.join s i x said) s.next (entry_count x)

abbrev pub exited : State → Ident → List ℕ → Option TaskAt → Event
exited s i t None = events.Exit i t []
exited s i t (Some x) = events.Exit i t (map (numbered x.within.net) (split_places x.task (exit_values s i x)))

-- the rule that the tree of the kind concludes
abbrev pub node_at : State → Ident → TreeKind → ℕ
node_at s j kind = unwrap_or (judged s j kind) 0

abbrev pub check_at : State → Ident → TreeKind
check_at s j = first_due (due_at s j)

abbrev pub worklet_at : State → Ident → List ℕ
worklet_at s j = worklet_in (option_and_then (conclusion_at s j kinds.Select) (judged s j kinds.Select))

abbrev pub rest_of : Option RunPart → List Primitive
rest_of None = []
rest_of (Some run) = run.rest

abbrev pub primitive_at : State → Ident → Primitive
primitive_at s r = first_primitive (rest_of (run_part s r))

-- ---- an event by its kind, at an identity, with the words after it

-- each kind with its event
abbrev rows : State → Ident → List (List ℕ) → List (List ℕ × Event)
rows s j words =
    (codes "enter", entered s j (get_or words 0 []) (get_or words 2 []) (task_at s j (get_or words 0 [])))
    ∷ (codes "exit", exited s j (get_or words 0 []) (task_at s j (get_or words 0 [])))
    ∷ (codes "startsub", events.StartSub j)
    ∷ (codes "completesub", events.CompleteSub j)
    ∷ (codes "completeempty", events.CompleteEmpty j)
    ∷ (codes "pass", events.Pass j (check_at s j))
    ∷ (codes "except", events.Except j (check_at s j) (node_at s j (check_at s j)) s.next)
    ∷ (codes "substitute", events.Substitute j (worklet_at s j))
    ∷ (codes "completeworklet", events.CompleteWorklet j)
    ∷ (codes "prim", events.Prim j (primitive_at s j))
    ∷ (codes "compensated", events.Compensated j)
    ∷ []

-- what stands at the kind, or else this
abbrev at_kind : List ℕ → Event → List (List ℕ × Event) → Event
at_kind kind other [] = other
at_kind kind other (row ∷ rows) = if bytes_eq row.0 kind then row.1 else at_kind kind other rows

abbrev pub event_at : State → ℕ → List ℕ → Ident → List (List ℕ) → Event
event_at s n kind j words = at_kind kind (events.Finish n) (rows s j words)

-- of the words of a step
abbrev pub event_of : State → ℕ → List (List ℕ) → Event
event_of s n [] = events.Finish n
event_of s n (kind ∷ []) = events.Finish n
event_of s n (kind ∷ at ∷ words) = event_at s n kind (ident_read at) words

-- the event that comes of itself in case n, or that an Enter asks, and has this text
abbrev pub event_in : State → ℕ → List ℕ → Event
event_in s n text = event_of s n (words_in text)
