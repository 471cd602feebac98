-- Persons, specifications, rule trees and cases that are over are the same where their rows are.
use Rattle.std.proofs.Common.{◌≡◌, ℕ, List, Option, None, Some, Ok, refl, sym, ap, ◌∙◌, subst}
use Rattle.std.specs.FinMap.Entries.{find}
use Rattle.std.specs.List.{filter_map}
use Rattle.std.specs.Ordering.{nat_cmp}
use Rattle.std.specs.Prelude.{map, option_map, Result}
use Rattle.yw_expr.specs.Tree.{Tree}
use Rattle.yw_spec.specs.declared.spec.Spec.{Spec}
use Rattle.yw_state.proofs.Entries.{find-entry}
use Rattle.yw_state.proofs.MapLemmas.{by_name, by_names, by_number, same_map}
use Rattle.yw_state.proofs.Tests.{some_same}
use Rattle.yw_state.specs.Judged.{kind_number, name_key, place_key}
use Rattle.yw_state.specs.Map.{Map, entries, get, lexical, lexical_each}
use Rattle.yw_state.specs.NewRule.{tree_scope}
use Rattle.yw_state.specs.RuleTree.{TreeRule}
use Rattle.yw_state.specs.State.{State, spec_called}
use Rattle.yw_state.specs.Texts.{IsOne, Reader}
use Rattle.yw_state.specs.Well.{IsWell, RulesFit}
use Rattle.yw_state.specs.declared.loaded.Loaded.{Loaded}
use Rattle.yw_state.specs.declared.part.Way.{Way}
use Rattle.yw_state.specs.declared.rule.Refusal.{Refusal}
use Rattle.yw_state.specs.declared.tree.TreeKind.{TreeKind}
use Rattle.yw_state.specs.declared.tree.TreeKind.TheVariants as kinds
use Rattle.yw_state.specs.declared.tree.TreePlace.{TreePlace}
use Rattle.yw_states.proofs.Lists.{Each, each_of_all, pair_same, same_each, same_picked, unmapped}
use Rattle.yw_states.specs.States.{ended_row, kind_numbered, named_by, person_row, place_of_key, rule_row, text_row, tree_row}
use Rattle.yw_states.specs.declared.cases.EndedRow.{EndedRow}
use Rattle.yw_states.specs.declared.kept.PersonRow.{PersonRow}
use Rattle.yw_states.specs.declared.kept.RuleRow.{RuleRow}
use Rattle.yw_states.specs.declared.kept.TreeRow.{TreeRow}

-- ---- persons, and cases that are over

pub same_persons : (s t : State) → map person_row (entries s.persons) ≡ map person_row (entries t.persons) → s.persons ≡ t.persons
same_persons s t e =
    let list = unmapped person_row (λ (r : PersonRow). (r.name, r.roles)) (λ (p : List ℕ × List (List ℕ)). refl) (entries s.persons)
    (entries t.persons) e in
    same_map by_name s.persons t.persons (λ q. ap (find lexical q) list)

pub same_ended : (s t : State) → map ended_row (entries s.ended) ≡ map ended_row (entries t.ended) → s.ended ≡ t.ended
same_ended s t e =
    let list = unmapped ended_row (λ (r : EndedRow). (r.case, r.way)) (λ (p : ℕ × Way). refl) (entries s.ended) (entries t.ended) e in
    same_map by_number s.ended t.ended (λ q. ap (find nat_cmp q) list)

-- ---- specifications: each is what its text says, under its own name

-- what the text of an entry says
abbrev IsSaid : Reader → List ℕ × Loaded → Type 0
IsSaid reader e = reader.spec e.1.text (Ok e.1.spec) × (e.1.spec.name ≡ e.0)

ok_same : (a b : Spec) → ◌≡◌ {A = Result Spec Refusal} (Ok a) (Ok b) → a ≡ b
ok_same a b e = cc

loaded_same : (a b : Loaded) → a.text ≡ b.text → a.spec ≡ b.spec → a ≡ b
loaded_same a b e d =
    ap (λ (text : List ℕ). let l : Loaded = record { text = text; spec = a.spec } in l) e
    ∙ ap (λ (spec : Spec). let l : Loaded = record { text = b.text; spec = spec } in l) d

one_said : (reader : Reader) → IsOne reader → (e f : List ℕ × Loaded) → IsSaid reader e → IsSaid reader f → text_row e ≡ text_row f → e ≡ f
one_said reader one e f p q same =
    let spec : e.1.spec ≡ f.1.spec
    = ok_same e.1.spec f.1.spec (one.spec f.1.text (Ok e.1.spec) (Ok f.1.spec)
    (subst (λ (text : List ℕ). reader.spec text (Ok e.1.spec)) same p.0) q.0) in
    pair_same e f (sym p.1 ∙ ap (λ (x : Spec). x.name) spec ∙ q.1) (loaded_same e.1 f.1 same spec)

are_said : (reader : Reader) (s : State) → IsWell reader s → Each (IsSaid reader) (entries s.specs)
are_said reader s well e within =
    let here = find-entry by_name (entries s.specs) e s.specs.sorted within in
    (well.content.spec_text e.0 e.1 here, well.content.spec_name e.0 e.1 here)

pub same_specs : (reader : Reader) → IsOne reader → (s t : State) → IsWell reader s → IsWell reader t
    → map text_row (entries s.specs) ≡ map text_row (entries t.specs) → s.specs ≡ t.specs
same_specs reader one s t left right e =
    let list = same_each (IsSaid reader) (IsSaid reader) text_row text_row (one_said reader one) (entries s.specs) (entries t.specs)
    (are_said reader s left) (are_said reader t right) e in
    same_map by_name s.specs t.specs (λ q. ap (find lexical q) list)

-- ---- rule trees: each condition is what its text says

kind_back : (kind : TreeKind) → kind_numbered (kind_number kind) ≡ kind
kind_back kinds.Pre = refl
kind_back kinds.Post = refl
kind_back kinds.Select = refl
kind_back kinds.External = refl
kind_back kinds.Timeout = refl
kind_back kinds.Abort = refl

name_back : (name : Option (List ℕ)) → named_by (name_key name) ≡ name
name_back None = refl
name_back (Some name) = refl

abbrev some_place : List ℕ → Option (List ℕ) → Option (List ℕ) → TreeKind → Option TreePlace
some_place spec net task kind = Some (record { spec = spec; net = net; task = task; kind = kind })

-- the key of a place leads back to it
place_back : (p : TreePlace) → place_of_key (place_key p) ≡ Some p
place_back p =
    ap (λ (k : TreeKind). some_place p.spec (named_by (name_key p.net)) (named_by (name_key p.task)) k) (kind_back p.kind)
    ∙ ap (λ (n : Option (List ℕ)). some_place p.spec n (named_by (name_key p.task)) p.kind) (name_back p.net)
    ∙ ap (λ (n : Option (List ℕ)). some_place p.spec p.net n p.kind) (name_back p.task)

abbrev pub row_at : TreePlace → List TreeRule → TreeRow
row_at p rs = record { place = p; rules = map rule_row rs }

pub row_is : (p : TreePlace) (e : List (List ℕ) × List TreeRule) → place_key p ≡ e.0 → tree_row e ≡ Some (row_at p e.1)
row_is p e here =
    ap (λ (key : List (List ℕ)). tree_row (key, e.1)) (sym here) ∙ ap (option_map (λ (place : TreePlace). row_at place e.1)) (place_back p)

rule_same : (a b : TreeRule) → rule_row a ≡ rule_row b → a.test ≡ b.test → a ≡ b
rule_same a b e d =
    ap (λ (r : RuleRow). let x : TreeRule = record { at = r.at; side = r.side; when = r.when; test = a.test; conclusion = r.conclusion } in x) e
    ∙ ap (λ (test : Tree). let x : TreeRule = record { at = b.at; side = b.side; when = b.when; test = test; conclusion = b.conclusion } in x) d

test_same : (a b : Tree) → ◌≡◌ {A = Result Tree (List ℕ)} (Ok a) (Ok b) → a ≡ b
test_same a b e = cc

-- the condition of a rule is what its text says
abbrev IsSpelt : Reader → Spec → TreePlace → TreeRule → Type 0
IsSpelt reader spec p r = reader.condition r.when (tree_scope spec p) (Ok r.test)

one_rule : (reader : Reader) → IsOne reader → (spec other : Spec) (p q : TreePlace) → spec ≡ other → p ≡ q → (a b : TreeRule)
    → IsSpelt reader spec p a → IsSpelt reader other q b → rule_row a ≡ rule_row b → a ≡ b
one_rule reader one spec other p q same here a b left right e =
    let moved : reader.condition b.when (tree_scope other q) (Ok a.test)
    = subst (λ (place : TreePlace). reader.condition b.when (tree_scope other place) (Ok a.test)) here
    (subst (λ (x : Spec). reader.condition b.when (tree_scope x p) (Ok a.test)) same
    (subst (λ (r : RuleRow). reader.condition r.when (tree_scope spec p) (Ok a.test)) e left)) in
    rule_same a b e (test_same a.test b.test (one.condition b.when (tree_scope other q) (Ok a.test) (Ok b.test) moved right))

one_tree : (reader : Reader) → IsOne reader → (s t : State) → s.specs ≡ t.specs → (e f : List (List ℕ) × List TreeRule)
    → RulesFit reader s e.0 e.1 → RulesFit reader t f.0 f.1 → tree_row e ≡ tree_row f → e ≡ f
one_tree reader one s t specs e f left right same =
    let rows : row_at left.place e.1 ≡ row_at right.place f.1
    = some_same (row_at left.place e.1) (row_at right.place f.1) (sym (row_is left.place e left.here) ∙ same ∙ row_is right.place f right.here) in
    let place : left.place ≡ right.place = ap (λ (r : TreeRow). r.place) rows in
    let spec : left.spec ≡ right.spec
    = some_same left.spec right.spec (sym left.of_spec
    ∙ ap (λ (m : Map lexical Loaded). option_map (λ (l : Loaded). l.spec) (get m left.place.spec)) specs
    ∙ ap (λ (p : TreePlace). spec_called t p.spec) place ∙ right.of_spec) in
    pair_same e f (sym left.here ∙ ap place_key place ∙ right.here)
    (same_each (IsSpelt reader left.spec left.place) (IsSpelt reader right.spec right.place) rule_row rule_row
    (one_rule reader one left.spec right.spec left.place right.place spec place)
    e.1 f.1 (each_of_all (IsSpelt reader left.spec left.place) e.1 left.spelt) (each_of_all (IsSpelt reader right.spec right.place) f.1 right.spelt)
    (ap (λ (r : TreeRow). r.rules) rows))

has_row : (reader : Reader) (s : State) (e : List (List ℕ) × List TreeRule) → RulesFit reader s e.0 e.1 → (r : TreeRow) × (tree_row e ≡ Some r)
has_row reader s e fit = (row_at fit.place e.1, row_is fit.place e fit.here)

pub trees_fit : (reader : Reader) (s : State) → IsWell reader s
    → Each (λ (e : List (List ℕ) × List TreeRule). RulesFit reader s e.0 e.1) (entries s.rules)
trees_fit reader s well e within = well.content.rules e.0 e.1 (find-entry by_names (entries s.rules) e s.rules.sorted within)

pub same_rules : (reader : Reader) → IsOne reader → (s t : State) → s.specs ≡ t.specs → IsWell reader s → IsWell reader t
    → filter_map tree_row (entries s.rules) ≡ filter_map tree_row (entries t.rules) → s.rules ≡ t.rules
same_rules reader one s t specs left right e =
    let list = same_picked (λ (e : List (List ℕ) × List TreeRule). RulesFit reader s e.0 e.1)
    (λ (f : List (List ℕ) × List TreeRule). RulesFit reader t f.0 f.1) tree_row tree_row (has_row reader s) (has_row reader t)
    (one_tree reader one s t specs) (entries s.rules) (entries t.rules) (trees_fit reader s left) (trees_fit reader t right) e in
    same_map by_names s.rules t.rules (λ q. ap (find lexical_each q) list)
