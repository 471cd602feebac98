-- What a line asks is proper, and of a word that is built.
use Rattle.std.specs.Prelude.{◌≡◌, ◌&&◌, ℕ, List, [], ◌∷◌, length, nat_le, nat_lt, Bool, true, false, cond, Option, None, Some, Result, Ok, Err, codes, ok_or, option_and_then, option_map, refl, if◌then◌else◌}
use Rattle.std.specs.List.{list_all}
use Rattle.std.specs.Str.{bytes_eq, is_utf8}
use Rattle.std.proofs.Common.{sym, ◌∙◌, ap, subst}
use Rattle.std.proofs.lemmas.Bool.{and_parts}
use Rattle.serde_json.specs.Data.{Data, Items, no_items, item}
use Rattle.serde_json.specs.Find.{as_array, as_str, get}
use Rattle.serde_json.specs.Read.{read}
use Rattle.yw_base.specs.Spelling.{is_name}
use Rattle.yw_lines.specs.Fields.{any_value_of, conclusion_of, field, givens_of, has_members, identity_of, line_text_of, list_of, name_of, node_of, one_of, only_if, optional_name_of, roles_of, side_words}
use Rattle.yw_lines.specs.Kinds.{kind_text, kind_words, raised_kinds, raised_words}
use Rattle.yw_lines.specs.Lines.{line_limit}
use Rattle.yw_lines.specs.Meaning.{AsksProperly, is_built, meaning, text_meaning, value_meaning, word_meaning}
use Rattle.yw_lines.specs.Shapes.{◌>>=◌, person_shape, load_shape, rule_shape, launch_shape, enter_shape, start_shape, complete_shape, add_shape, raise_shape, suspend_shape, continue_shape, cancel_shape, advance_shape, list_shape, show_shape, ended_shape, specs_shape, shape_of}
use Rattle.yw_lines.specs.Values.{each_of}
use Rattle.yw_lines.specs.Words.{word_in, word_of, written}
use Rattle.yw_lines.specs.declared.word.Word.{Word}
use Rattle.yw_lines.specs.declared.word.Word.TheVariants as words
use Rattle.yw_state.proofs.Tests.{by_test, nowhere, some_same, then_some}
use Rattle.yw_state.specs.Allowed.{are_roles, is_raised}
use Rattle.yw_state.specs.declared.command.Asked.{Asked}
use Rattle.yw_state.specs.declared.rule.Rule.{Rule}
use Rattle.yw_state.specs.declared.rule.Rule.TheVariants.{NotBuilt, NotCommand}
use Rattle.yw_state.specs.declared.tree.TreeKind.{TreeKind}

-- what a word's shape says is proper, and of that word
abbrev Asks : Word → Option Asked → Type 0
Asks word None = Unit {0}
Asks word (Some x) = AsksProperly x × (word_of x ≡ word)

bound : {A : Type 0} (word : Word) (o : Option A) (f : A → Option Asked) → ((x : A) → o ≡ Some x → Asks word (f x)) → Asks word (o >>= f)
bound word (Some x) f h = h x refl
bound word None f h = tt

counted : (word : Word) (b : Bool) (x : Asked) → AsksProperly x → word_of x ≡ word → Asks word (cond b (Some x) None)
counted word true x h is = (h, is)
counted word false x h is = tt

-- each field says what it may, and the rest is right
any : {A : Type 0} (word : Word) (o : Option A) (f : A → Option Asked) → ((x : A) → Asks word (f x)) → Asks word (o >>= f)
any word o f h = bound word o f (λ x is. h x)

-- ---- the fields of which something is wanted

-- what passes a test is what was tested, and the test holds of it
passed : {A : Type 0} (p : A → Bool) (x y : A) (b : Bool) → p x ≡ b → cond b (Some x) None ≡ Some y → (Some x ≡ Some y) × (p y ≡ true)
passed p x y true e is = let same : x ≡ y = cc in (is, ap p (sym same) ∙ e)
passed p x y false e is = cc

filtered : {A : Type 0} (p : A → Bool) (o : Option A) (y : A) → option_and_then (only_if p) o ≡ Some y → (o ≡ Some y) × (p y ≡ true)
filtered p None y is = cc
filtered p (Some x) y is = passed p x y (p x) refl is

-- a value of a kind that a test makes of another
of_kind : {A B : Type 0} (p : B → Bool) (kind : A → Option B) (o : Option A) (y : B) → option_and_then (λ d. option_and_then (only_if p) (kind d)) o ≡ Some y → p y ≡ true
of_kind p kind None y is = cc
of_kind p kind (Some d) y is = (filtered p (kind d) y is).1

name_read : (d : Data) (name : List ℕ) → name_of d ≡ Some name → is_name name ≡ true
name_read d name is = (filtered is_name (as_str d) name is).1

named_first : (o : Option (List ℕ)) (os : Option (List (List ℕ))) (names : List (List ℕ)) → ((n : List ℕ) → o ≡ Some n → is_name n ≡ true) → ((ns : List (List ℕ)) → os ≡ Some ns → list_all is_name ns ≡ true)
    → option_and_then (λ name. option_map (λ ns. name ∷ ns) os) o ≡ Some names → list_all is_name names ≡ true
named_first None os names h t e = cc
named_first (Some name) None names h t e = cc
named_first (Some name) (Some ns) names h t e =
    let same : names ≡ name ∷ ns = cc in
    ap (list_all is_name) same ∙ ap (λ (b : Bool). b && list_all is_name ns) (h name refl) ∙ t ns refl

all_named : (ds : Items) (names : List (List ℕ)) → each_of name_of ds ≡ Some names → list_all is_name names ≡ true
all_named no_items names e = let none : names ≡ [] = cc in ap (list_all is_name) none
all_named (item d ds) names e = named_first (name_of d) (each_of name_of ds) names (name_read d) (all_named ds) e

listed : (o : Option Items) (names : List (List ℕ)) → option_and_then (each_of name_of) o ≡ Some names → list_all is_name names ≡ true
listed None names e = cc
listed (Some ds) names e = all_named ds names e

-- the roles that are read are roles
roles_read : (o : Option Data) (roles : List (List ℕ)) → option_and_then roles_of o ≡ Some roles → (list_all is_name roles ≡ true) × (are_roles roles ≡ true)
roles_read None roles e = cc
roles_read (Some d) roles e = let f = filtered are_roles (list_of name_of d) roles e in (listed (as_array d) roles f.0, f.1)

-- a word that is found among the texts of kinds is of one of them
found_among : (text : List ℕ) (kinds : List TreeKind) (kind : TreeKind) → list_all is_raised kinds ≡ true → written kind_text kinds text ≡ Some kind → is_raised kind ≡ true
found_among text [] kind all is = nowhere is
found_among text (k ∷ kinds) kind all is =
    let parts = and_parts (is_raised k) (list_all is_raised kinds) all in
    by_test (bytes_eq text (kind_text k))
    (λ here. ap is_raised (sym (some_same k kind (sym (ap (λ b. cond b (Some k) (written kind_text kinds text)) here) ∙ is))) ∙ parts.0)
    (λ els. found_among text kinds kind parts.1 (sym (ap (λ b. cond b (Some k) (written kind_text kinds text)) els) ∙ is))

raised_kind : (text : List ℕ) (kind : TreeKind) → raised_words text ≡ Some kind → is_raised kind ≡ true
raised_kind text kind is = found_among text raised_kinds kind refl is

-- ---- the three commands of which something is wanted

person_asks : (d : Data) → Asks words.Person (person_shape d)
unfolding person_shape
person_asks d =
    bound words.Person (field name_of (codes "name") d) _ (λ name named. bound words.Person (field roles_of (codes "roles") d) _ (λ roles is.
    let r = roles_read (get (codes "roles") d) roles is in
    counted words.Person (has_members 3 d) _ (of_kind is_name as_str (get (codes "name") d) name named, r.0, r.1) refl))

load_asks : (d : Data) → Asks words.Load (load_shape d)
unfolding load_shape
load_asks d =
    bound words.Load (field line_text_of (codes "toml") d) _ (λ toml is.
    counted words.Load (has_members 2 d) _ (of_kind (λ text. nat_le (length text) line_limit) as_str (get (codes "toml") d) toml is) refl)

raise_asks : (d : Data) → Asks words.Raise (raise_shape d)
unfolding raise_shape
raise_asks d =
    any words.Raise (field _ (codes "at") d) _ (λ at. bound words.Raise (field (one_of raised_words) (codes "kind") d) _ (λ kind is.
    let (e, there, one) = then_some (one_of raised_words) (get (codes "kind") d) kind is in
    let (text, said, written) = then_some raised_words (as_str e) kind one in
    counted words.Raise (has_members 3 d) _ (raised_kind text kind written) refl))

-- ---- the others

rule_asks : (d : Data) → Asks words.Rule (rule_shape d)
unfolding rule_shape
rule_asks d =
    any words.Rule (field name_of (codes "spec") d) _ (λ a. any words.Rule (field optional_name_of (codes "net") d) _ (λ b. any words.Rule (field optional_name_of (codes "task") d) _ (λ c. any words.Rule (field (one_of kind_words) (codes "kind") d) _ (λ e. any words.Rule (field node_of (codes "at") d) _ (λ f. any words.Rule (field (one_of side_words) (codes "side") d) _ (λ g. any words.Rule (field as_str (codes "when") d) _ (λ h. any words.Rule (field conclusion_of (codes "then") d) _ (λ k. counted words.Rule (has_members 9 d) _ tt refl))))))))

launch_asks : (d : Data) → Asks words.Launch (launch_shape d)
unfolding launch_shape
launch_asks d =
    any words.Launch (field name_of (codes "spec") d) _ (λ a. any words.Launch (field givens_of (codes "data") d) _ (λ b. counted words.Launch (has_members 3 d) _ tt refl))

enter_asks : (d : Data) → Asks words.Enter (enter_shape d)
unfolding enter_shape
enter_asks d =
    any words.Enter (field name_of (codes "who") d) _ (λ a. any words.Enter (field identity_of (codes "case") d) _ (λ b. any words.Enter (field name_of (codes "task") d) _ (λ c. counted words.Enter (has_members 4 d) _ tt refl)))

start_asks : (d : Data) → Asks words.Start (start_shape d)
unfolding start_shape
start_asks d =
    any words.Start (field name_of (codes "who") d) _ (λ a. any words.Start (field identity_of (codes "item") d) _ (λ b. counted words.Start (has_members 3 d) _ tt refl))

complete_asks : (d : Data) → Asks words.Complete (complete_shape d)
unfolding complete_shape
complete_asks d =
    any words.Complete (field name_of (codes "who") d) _ (λ a. any words.Complete (field identity_of (codes "item") d) _ (λ b. any words.Complete (field givens_of (codes "out") d) _ (λ c. counted words.Complete (has_members 4 d) _ tt refl)))

add_asks : (d : Data) → Asks words.Add (add_shape d)
unfolding add_shape
add_asks d =
    any words.Add (field name_of (codes "who") d) _ (λ a. any words.Add (field identity_of (codes "case") d) _ (λ b. any words.Add (field name_of (codes "task") d) _ (λ c. any words.Add (field any_value_of (codes "value") d) _ (λ e. counted words.Add (has_members 5 d) _ tt refl))))

suspend_asks : (d : Data) → Asks words.Suspend (suspend_shape d)
unfolding suspend_shape
suspend_asks d =
    any words.Suspend (field identity_of (codes "at") d) _ (λ a. counted words.Suspend (has_members 2 d) _ tt refl)

continue_asks : (d : Data) → Asks words.Continue (continue_shape d)
unfolding continue_shape
continue_asks d =
    any words.Continue (field identity_of (codes "at") d) _ (λ a. counted words.Continue (has_members 2 d) _ tt refl)

cancel_asks : (d : Data) → Asks words.Cancel (cancel_shape d)
unfolding cancel_shape
cancel_asks d =
    any words.Cancel (field identity_of (codes "case") d) _ (λ a. counted words.Cancel (has_members 2 d) _ tt refl)

advance_asks : (d : Data) → Asks words.Advance (advance_shape d)
unfolding advance_shape
advance_asks d =
    any words.Advance (field identity_of (codes "case") d) _ (λ a. counted words.Advance (has_members 2 d) _ tt refl)

list_asks : (d : Data) → Asks words.List (list_shape d)
unfolding list_shape
list_asks d =
    any words.List (field name_of (codes "who") d) _ (λ a. counted words.List (has_members 2 d) _ tt refl)

show_asks : (d : Data) → Asks words.Show (show_shape d)
unfolding show_shape
show_asks d =
    any words.Show (field identity_of (codes "case") d) _ (λ a. counted words.Show (has_members 2 d) _ tt refl)

ended_asks : (d : Data) → Asks words.Ended (ended_shape d)
unfolding ended_shape
ended_asks d =
    any words.Ended (field identity_of (codes "case") d) _ (λ a. counted words.Ended (has_members 2 d) _ tt refl)

specs_asks : (d : Data) → Asks words.Specs (specs_shape d)
unfolding specs_shape
specs_asks d = counted words.Specs (has_members 1 d) _ tt refl

-- ---- a line

shape_asks : (word : Word) (d : Data) → Asks word (shape_of word d)
shape_asks words.Person d = person_asks d
shape_asks words.Load d = load_asks d
shape_asks words.Rule d = rule_asks d
shape_asks words.Launch d = launch_asks d
shape_asks words.Enter d = enter_asks d
shape_asks words.Start d = start_asks d
shape_asks words.Complete d = complete_asks d
shape_asks words.Add d = add_asks d
shape_asks words.Raise d = raise_asks d
shape_asks words.Suspend d = suspend_asks d
shape_asks words.Continue d = continue_asks d
shape_asks words.Cancel d = cancel_asks d
shape_asks words.Advance d = advance_asks d
shape_asks words.List d = list_asks d
shape_asks words.Show d = show_asks d
shape_asks words.Ended d = ended_asks d
shape_asks words.Specs d = specs_asks d

-- what is meant, where something is
abbrev Means : List Word → Result Asked Rule → Type 0
Means built (Ok x) = AsksProperly x × (is_built built (word_of x) ≡ true)
Means built (Err r) = Unit {0}

either : (built : List Word) (b : Bool) (one other : Result Asked Rule) → Means built one → Means built other → Means built (cond b one other)
either built true one other h k = h
either built false one other h k = k

of_shape : (built : List Word) (word : Word) (o : Option Asked) → is_built built word ≡ true → Asks word o → Means built (ok_or o NotCommand)
of_shape built word None is h = tt
of_shape built word (Some x) is h = (h.0, ap (is_built built) h.1 ∙ is)

word_means : (built : List Word) (d : Data) (o : Option Word) → Means built (word_meaning built d o)
word_means built d None = tt
word_means built d (Some word) =
    by_built (is_built built word) refl
  where
    by_built : (b : Bool) → is_built built word ≡ b → Means built (if b then ok_or (shape_of word d) NotCommand else Err NotBuilt)
    by_built true is = of_shape built word (shape_of word d) is (shape_asks word d)
    by_built false is = tt

value_means : (built : List Word) (o : Option Data) → Means built (value_meaning built o)
value_means built None = tt
value_means built (Some d) = word_means built d (field (one_of word_in) (codes "cmd") d)

text_means : (built : List Word) (line : List ℕ) → Means built (text_meaning built line)
unfolding text_meaning
text_means built line = either built (is_utf8 line) _ _ (value_means built (read line)) tt

line_means : (built : List Word) (line : List ℕ) → Means built (meaning built line)
unfolding meaning
line_means built line = either built (nat_lt line_limit (length line)) _ _ tt (text_means built line)

-- a line asks for what is proper alone, and by a word that is built
pub asks_properly : (built : List Word) (line : List ℕ) (x : Asked) → meaning built line ≡ Ok x → AsksProperly x × (is_built built (word_of x) ≡ true)
asks_properly built line x is = subst (Means built) is (line_means built line)
