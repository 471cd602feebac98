-- An event as a reply shows it: words with a blank between each two. The words are our own.
use Rattle.std.specs.Prelude.{ℕ, List, [], ◌∷◌, ◌++◌, map, fold, codes}
use Rattle.std.specs.Fmt.{decimal}
use Rattle.std.specs.List.{range_with_len, join_with_byte}
use Rattle.yw_base.specs.Identity.{dotted, child}
use Rattle.yw_lines.specs.Kinds.{kind_text}
use Rattle.yw_lines.specs.Primitives.{primitive_text}
use Rattle.yw_spec.specs.Net.{place_text}
use Rattle.yw_state.specs.declared.event.Event.{Event}
use Rattle.yw_state.specs.declared.event.Event.TheVariants as events

-- one behind the other, with a comma between each two
abbrev pub listed : List (List ℕ) → List ℕ
listed texts = join_with_byte 44 texts

-- the identities of so many items of a net, numbered from the first number on
abbrev pub item_idents : List ℕ → ℕ → ℕ → List (List ℕ)
item_idents net first count = map (λ n. dotted (child net n)) (range_with_len first count)

-- a blank and the word behind what is said
abbrev pub spaced : List ℕ → List ℕ → List ℕ
spaced said word = said ++ 32 ∷ word

abbrev pub words_text : List ℕ → List (List ℕ) → List ℕ
words_text first words = fold spaced first words

abbrev pub step_text : Event → List ℕ
step_text (events.Person name roles) = words_text (codes "person") (name ∷ [])
step_text (events.Load name text) = words_text (codes "load") (name ∷ [])
step_text (events.AddRule place at side when conclusion number) = words_text (codes "rule") (decimal number ∷ [])
step_text (events.Launch n spec vals) = words_text (codes "launch") (decimal n ∷ spec ∷ [])
step_text (events.Enter i t places first count) =
    words_text (codes "enter") (dotted i ∷ t ∷ codes "from" ∷ listed (map place_text places) ∷ codes "as" ∷ listed (item_idents i first count) ∷ [])
step_text (events.Start j who) = words_text (codes "start") (dotted j ∷ [])
step_text (events.Complete j out) = words_text (codes "complete") (dotted j ∷ [])
step_text (events.Exit i t places) = words_text (codes "exit") (dotted i ∷ t ∷ codes "to" ∷ listed (map place_text places) ∷ [])
step_text (events.Add i t value n) = words_text (codes "add") (dotted i ∷ t ∷ codes "as" ∷ dotted (child i n) ∷ [])
step_text (events.Finish n) = words_text (codes "finish") (decimal n ∷ [])
step_text (events.Cancel n) = words_text (codes "cancel") (decimal n ∷ [])
step_text (events.StartSub j) = words_text (codes "startsub") (dotted j ∷ [])
step_text (events.CompleteSub j) = words_text (codes "completesub") (dotted j ∷ [])
step_text (events.CompleteEmpty j) = words_text (codes "completeempty") (dotted j ∷ [])
step_text (events.Pass j check) = words_text (codes "pass") (dotted j ∷ kind_text check ∷ [])
step_text (events.Except j check node n) =
    words_text (codes "except") (dotted j ∷ kind_text check ∷ decimal node ∷ codes "as" ∷ dotted (child j n) ∷ [])
step_text (events.Substitute j worklet) = words_text (codes "substitute") (dotted j ∷ codes "by" ∷ worklet ∷ [])
step_text (events.CompleteWorklet j) = words_text (codes "completeworklet") (dotted j ∷ [])
step_text (events.Raise j kind node n) =
    words_text (codes "raise") (dotted j ∷ kind_text kind ∷ decimal node ∷ codes "as" ∷ dotted (child j n) ∷ [])
step_text (events.Prim r p) = words_text (codes "prim") (dotted r ∷ primitive_text p ∷ [])
step_text (events.Compensated r) = words_text (codes "compensated") (dotted r ∷ [])
step_text (events.Suspend j) = words_text (codes "suspend") (dotted j ∷ [])
step_text (events.Continue j) = words_text (codes "continue") (dotted j ∷ [])
step_text (events.Advance n) = words_text (codes "advance") (decimal n ∷ [])
