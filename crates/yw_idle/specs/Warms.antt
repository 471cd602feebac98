-- Where an event may leave something urgent: where it changes what stands, and the net or the target above that. Our own.
use Rattle.std.specs.Prelude.{◌++◌, ◌∷◌, Bool, true, false, List, [], map}
use Rattle.std.specs.List.{range_with_len}
use Rattle.yw_state.specs.Exlets.{case_above}
use Rattle.yw_state.specs.Identity.{Ident, case_ident}
use Rattle.yw_base.specs.Identity.{child, parent, under}
use Rattle.yw_state.specs.declared.event.Event.{Event}
use Rattle.yw_state.specs.declared.event.Event.TheVariants as events
use Rattle.yw_state.specs.declared.tree.Primitive.TheVariants.{ContinueItem, ContinueCase}

-- it changes what stands there, or makes it; what it removes isn't here
abbrev pub changes : Event → List Ident
changes (events.Launch n spec vals) = case_ident n ∷ []
changes (events.Enter i t places first count) = i ∷ map (child i) (range_with_len first count)
changes (events.Start j who) = j ∷ []
changes (events.Complete j out) = j ∷ []
changes (events.Exit i t places) = i ∷ []
changes (events.Add i t value n) = i ∷ child i n ∷ []
changes (events.StartSub j) = j ∷ []
changes (events.CompleteSub j) = j ∷ []
changes (events.CompleteEmpty j) = j ∷ []
changes (events.Pass j check) = j ∷ []
changes (events.Except j check node n) = j ∷ child j n ∷ []
changes (events.Substitute j worklet) = j ∷ []
changes (events.CompleteWorklet j) = j ∷ []
changes (events.Raise j kind node n) = j ∷ child j n ∷ []
changes (events.Prim r p) = r ∷ parent r ∷ case_above r ∷ parent (parent r) ∷ []
changes (events.Compensated r) = r ∷ parent r ∷ []
changes (events.Suspend j) = j ∷ []
changes (events.Continue j) = j ∷ []
changes e = []

abbrev pub warms : Event → List Ident
warms e = changes e ++ map parent (changes e)

-- the case, the items or the run that it makes
abbrev pub makes : Event → List Ident
makes (events.Launch n spec vals) = case_ident n ∷ []
makes (events.Enter i t places first count) = map (child i) (range_with_len first count)
makes (events.Add i t value n) = child i n ∷ []
makes (events.Except j check node n) = child j n ∷ []
makes (events.Raise j kind node n) = child j n ∷ []
makes e = []

-- j lies under what it continues
abbrev pub continues : Event → Ident → Bool
continues (events.Continue i) j = under j i
continues (events.Prim r ContinueItem) j = under j (parent r)
continues (events.Prim r ContinueCase) j = under j (case_above r)
continues e j = false

-- it changes which tasks persons do
abbrev pub is_rule : Event → Bool
is_rule (events.AddRule p at side when conclusion number) = true
is_rule e = false
