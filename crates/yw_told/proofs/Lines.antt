-- The line of an accepted command tells the texts of its steps and its flag. It is compact JSON, in which each byte of a text is escaped by
-- itself.
use Rattle.std.specs.Prelude.{◌≡◌, ℕ, Bool, true, false, List, [], ◌∷◌, ◌++◌, map, codes, refl}
use Rattle.std.proofs.Common.{sym, ◌∙◌, ap, append_assoc, get_or, drop, arith}
use Rattle.std.proofs.lemmas.List.{append_cancel_left, append_cancel_right}
use Rattle.json.proofs.Printed.Strings.{content-escape}
use Rattle.json.specs.Print.{escape, quoted, token_text}
use Rattle.json.specs.Text.{content, plain}
use Rattle.json.specs.Token.{Token}
use Rattle.serde_json.specs.Data.{Data, boolean, number, string, array, unsigned, Items, Members, no_members, member}
use Rattle.serde_json.specs.View.{items_of}
use Rattle.serde_json.specs.Written.{comma_if, compact_text, items_text, members_text}
use Rattle.yw_lines.specs.EventTexts.{step_text}
use Rattle.yw_lines.specs.Replies.{done_line, done_data}
use Rattle.yw_state.proofs.Tests.{some_same}
use Rattle.yw_state.specs.declared.event.Event.{Event}

-- ---- texts

-- two lists with different first numbers
other_first : {A : Type 0} (x y : ℕ) (xs ys : List ℕ) → (x ≡ y → ⊥) → x ∷ xs ≡ y ∷ ys → A
other_first x y xs ys differ e = absurd (differ (ap (λ t. get_or t 0 0) e))

-- a quoted text ends at its closing quote
string_tells : (a b r q : List ℕ) → quoted a ++ r ≡ quoted b ++ q → (a ≡ b) × (r ≡ q)
string_tells a b r q e =
    let inner : escape a ++ 34 ∷ r ≡ escape b ++ 34 ∷ q =
    sym (append_assoc (escape a) (34 ∷ []) r) ∙ ap (drop 1) e ∙ append_assoc (escape b) (34 ∷ []) q in
    let same : a ≡ b = some_same a b (sym (content-escape a r) ∙ ap (content plain) inner ∙ content-escape b q) in
    let rest = append_cancel_left (escape a) (34 ∷ r) (34 ∷ q) (inner ∙ ap (λ (t : List ℕ). escape t ++ 34 ∷ q) (sym same)) in
    (same, ap (drop 1) rest)

-- ---- lists of texts

module _ {A : Type 0} (text : A → List ℕ) where
  abbrev shown : List A → Items
  shown xs = items_of (map (λ x. string (text x)) xs)

  -- with a comma before each, and the closing bracket after them
  abbrev more_text : List A → List ℕ
  more_text xs = items_text true (shown xs)

  none_or_more : {B : Type 0} (later : Bool) (y : A) (ys : List A) → items_text later (shown []) ≡ items_text later (shown (y ∷ ys)) → B
  none_or_more true y ys e = other_first 93 44 _ _ (λ d. omega arith) e
  none_or_more false y ys e = other_first 93 34 _ _ (λ d. omega arith) e

  pub items_tell : (later : Bool) (xs ys : List A) → items_text later (shown xs) ≡ items_text later (shown ys) → map text xs ≡ map text ys
  items_tell later [] [] e = refl
  items_tell later [] (y ∷ ys) e = none_or_more later y ys e
  items_tell later (x ∷ xs) [] e = none_or_more later x xs (sym e)
  items_tell later (x ∷ xs) (y ∷ ys) e =
      let item = append_cancel_left (comma_if later) (quoted (text x) ++ more_text xs) (quoted (text y) ++ more_text ys) e in
      let (first, rest) = string_tells (text x) (text y) (more_text xs) (more_text ys) item in
      let others = items_tell true xs ys rest in
      cc

-- ---- members

-- a value, and the members after it
abbrev value_text : Data → Members → List ℕ
value_text d ms = compact_text d ++ members_text true ms

-- what follows a key
value_tells : (later : Bool) (k : List ℕ) (d e : Data) (ms ns : Members)
    → members_text later (member k d ms) ≡ members_text later (member k e ns) → value_text d ms ≡ value_text e ns
value_tells later k d e ms ns same =
    let key = append_cancel_left (comma_if later) (quoted k ++ 58 ∷ value_text d ms) (quoted k ++ 58 ∷ value_text e ns) same in
    ap (drop 1) (append_cancel_left (quoted k) (58 ∷ value_text d ms) (58 ∷ value_text e ns) key)

-- what follows a member
rest_tells : (later : Bool) (k : List ℕ) (d : Data) (ms ns : Members)
    → members_text later (member k d ms) ≡ members_text later (member k d ns) → members_text true ms ≡ members_text true ns
rest_tells later k d ms ns same =
    append_cancel_left (compact_text d) (members_text true ms) (members_text true ns) (value_tells later k d d ms ns same)

flag_tells : (q p : Bool) (r t : List ℕ) → token_text (Token.boolean q) ++ r ≡ token_text (Token.boolean p) ++ t → (q ≡ p) × (r ≡ t)
flag_tells true true r t e = (refl, ap (drop 4) e)
flag_tells false false r t e = (refl, ap (drop 5) e)
flag_tells true false r t e = other_first 116 102 _ _ (λ d. omega arith) e
flag_tells false true r t e = other_first 102 116 _ _ (λ d. omega arith) e

-- ---- lines

abbrev steps_of : List Event → Data
steps_of es = array (items_of (map (λ e. string (step_text e)) es))

abbrev steps_member : List Event → Members
steps_member es = member (codes "steps") (steps_of es) no_members

abbrev flag_member : Bool → List Event → Members
flag_member q es = member (codes "quiet") (boolean q) (steps_member es)

abbrev ok_member : Bool → List Event → Members
ok_member q es = member (codes "ok") (boolean true) (flag_member q es)

pub line_tells : (n : ℕ) (es fs : List Event) (q p : Bool) → done_line n es q ≡ done_line n fs p → (map step_text es ≡ map step_text fs) × (q ≡ p)
unfolding done_line
line_tells n es fs q p e =
    let line = append_cancel_right (compact_text (done_data n es q)) (compact_text (done_data n fs p)) (10 ∷ []) e in
    let ok = rest_tells false (codes "n") (number (unsigned n)) (ok_member q es) (ok_member p fs) (ap (drop 1) line) in
    let quiet = rest_tells true (codes "ok") (boolean true) (flag_member q es) (flag_member p fs) ok in
    let flag = value_tells true (codes "quiet") (boolean q) (boolean p) (steps_member es) (steps_member fs) quiet in
    let (same, steps) = flag_tells q p (members_text true (steps_member es)) (members_text true (steps_member fs)) flag in
    let list = value_tells true (codes "steps") (steps_of es) (steps_of fs) no_members no_members steps in
    let items = append_cancel_right (compact_text (steps_of es)) (compact_text (steps_of fs)) (members_text true no_members) list in
    (items_tell step_text false es fs (ap (drop 1) items), same)
