-- The places that a split chooses, branch by branch.
use Rattle.std.proofs.Common.{◌≡◌, ℕ, inl, inr, Bool, true, false, cond, List, [], ◌∷◌, refl, sym, ap, ◌∙◌, subst, Some, None}
use Rattle.std.specs.Prelude.{◌&&◌, ◌||◌, ◌==◌, filter, find, map}
use Rattle.std.specs.List.{list_any}
use Rattle.std.proofs.lemmas.Bool.{cases_Bool}
use Rattle.std.proofs.lemmas.List.Elements.{filter_agree}
use Rattle.yw_base.specs.declared.gate.Gate.{Gate}
use Rattle.yw_base.specs.declared.gate.Gate.TheVariants.{And, Xor, Or}
use Rattle.yw_mark.specs.Splits.{first_place, is_default, is_place, is_reached, is_taken}
use Rattle.yw_spec.specs.declared.task.Branch.{Branch}
use Rattle.yw_spec.specs.declared.task.Task.{Task}
use Rattle.yw_state.specs.Nets.{is_among}
use Rattle.yw_state.specs.Passing.{is_true, split_places}
use Rattle.yw_state.specs.Values.{Row}

-- Nothing passes, or something does first.
data Front (p : Branch → Bool) (bs : List Branch) : Type 0 where
  nothing : list_any p bs ≡ false → find p bs ≡ None → filter p bs ≡ [] → Front p bs
  first : (b : Branch) (rest : List Branch) → list_any p bs ≡ true → find p bs ≡ Some b → filter p bs ≡ b ∷ rest → Front p bs

front : (p : Branch → Bool) (bs : List Branch) → Front p bs
front p [] = nothing refl refl refl
front p (b ∷ bs) = elim (cases_Bool (p b)) [
  | inl met ↦ first b (filter p bs)
      (ap (λ t. t || list_any p bs) met)
      (ap (λ t. cond t (Some b) (find p bs)) met)
      (ap (λ t. cond t (b ∷ filter p bs) (filter p bs)) met)
  | inr unmet ↦ elim (front p bs) [
    | nothing a f k ↦ nothing
        (ap (λ t. t || list_any p bs) unmet ∙ a)
        (ap (λ t. cond t (Some b) (find p bs)) unmet ∙ f)
        (ap (λ t. cond t (b ∷ filter p bs) (filter p bs)) unmet ∙ k)
    | first c rest a f k ↦ first c rest
        (ap (λ t. t || list_any p bs) unmet ∙ a)
        (ap (λ t. cond t (Some b) (find p bs)) unmet ∙ f)
        (ap (λ t. cond t (b ∷ filter p bs) (filter p bs)) unmet ∙ k)
  ]
]

or_none : (b : Bool) → b ≡ (b || false)
or_none true = refl
or_none false = refl

-- a branch that passes leads to the place exactly where the place is among those to which they lead
among_leads : (p : Branch → Bool) (bs : List Branch) (c : ℕ) → list_any (λ (b : Branch). c == b.to && p b) bs ≡ is_among (map (λ (b : Branch). b.to) (filter p bs)) c
among_leads p [] c = refl
among_leads p (b ∷ bs) c =
    let to : List Branch → List ℕ = map (λ (x : Branch). x.to) in
    let rest = among_leads p bs c in
    let more : Bool → Bool = λ t. (c == b.to && t) || list_any (λ (x : Branch). c == x.to && p x) bs in
    let kept : Bool → Bool = λ t. is_among (to (cond t (b ∷ filter p bs) (filter p bs))) c in
    elim (cases_Bool (p b)) [
      | inl met ↦ ap more met ∙ by_place (c == b.to) (list_any (λ (x : Branch). c == x.to && p x) bs) ∙ ap (λ t. c == b.to || t) rest ∙ sym (ap kept met)
      | inr unmet ↦ ap more unmet ∙ past (c == b.to) (list_any (λ (x : Branch). c == x.to && p x) bs) ∙ rest ∙ sym (ap kept unmet)
    ]
  where
    by_place : (x y : Bool) → ((x && true) || y) ≡ (x || y)
    by_place true y = refl
    by_place false y = refl

    past : (x y : Bool) → ((x && false) || y) ≡ y
    past true y = refl
    past false y = refl

xor_chosen : (t : Task) (row : Row) → filter (is_place (first_place t.branch row)) t.after ≡ split_places (record t { split = Xor }) row
xor_chosen t row = filter_agree (is_place (first_place t.branch row)) _ (λ c. elim (front (is_true row) t.branch) [
  | first b rest a f k ↦ rw (f, k) (or_none (c == b.to))
  | nothing a f k ↦ rw (f, k) (elim (front is_default t.branch) [
    | first b rest a2 f2 k2 ↦ rw (f2, k2) (or_none (c == b.to))
    | nothing a2 f2 k2 ↦ rw (f2, k2) refl
  ])
]) t.after

-- an AND-split chooses all places
pub and_split : (t : Task) (row : Row) → t.split ≡ And → t.after ≡ split_places t row
and_split t row is =
    let P : Gate → Type 0 = λ gate. t.after ≡ split_places (record t { split = gate }) row in
    subst P (sym is) refl

-- an XOR-split chooses the place of the first true branch, or of the default
pub xor_split : (t : Task) (row : Row) → t.split ≡ Xor → filter (is_place (first_place t.branch row)) t.after ≡ split_places t row
xor_split t row is =
    let P : Gate → Type 0 = λ gate. filter (is_place (first_place t.branch row)) t.after ≡ split_places (record t { split = gate }) row in
    subst P (sym is) (xor_chosen t row)

or_chosen : (t : Task) (row : Row) → filter (is_reached t.branch row) t.after ≡ split_places (record t { split = Or }) row
or_chosen t row = filter_agree (is_reached t.branch row) _ (λ c. elim (front (is_true row) t.branch) [
  | nothing a f k ↦ ap (reached c) a ∙ among_leads is_default t.branch c ∙ rw k refl
  | first b rest a f k ↦ ap (reached c) a ∙ among_leads (is_true row) t.branch c ∙ rw k refl
]) t.after
  where
    reached : ℕ → Bool → Bool
    reached c some = list_any (λ (b : Branch). c == b.to && is_taken row some b) t.branch

-- an OR-split chooses the places of all true branches, or of the default
pub or_split : (t : Task) (row : Row) → t.split ≡ Or → filter (is_reached t.branch row) t.after ≡ split_places t row
or_split t row is =
    let P : Gate → Type 0 = λ gate. filter (is_reached t.branch row) t.after ≡ split_places (record t { split = gate }) row in
    subst P (sym is) (or_chosen t row)

-- no place is none
pub none_kept : (cs : List ℕ) → [] ≡ filter (is_place None) cs
none_kept [] = refl
none_kept (c ∷ cs) = none_kept cs
