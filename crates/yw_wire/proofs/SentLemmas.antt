-- What sends the items of a list one by one.
use Rattle.std.proofs.Common.{◌≡◌, ℕ, ◌+◌, ◌<◌, List, [], ◌∷◌, drop, get_or, length, map, refl, sym, ap, subst, add-one, drop-cons, ◌∙◌}
use Rattle.std.specs.Prelude.{suc, Some}
use Rattle.serde.specs.Event.{Log, Logs, seq_begins}
use Rattle.serde_json.specs.Data.{Data, array}
use Rattle.serde_json.specs.Events.{items_len, SendsItems, SendsValue}
use Rattle.serde_json.specs.View.{items_of}

-- one item more is sent in front of the rest
pub item_sent : {X : Type 0} (f : X → Data) (xs : List X) (i : ℕ) (x : X) (old mid end : Log) → i < length xs → x ≡ get_or xs i x → SendsValue (f x) old mid → SendsItems (items_of (map f (drop (i + 1) xs))) mid end → SendsItems (items_of (map f (drop i xs))) old end
item_sent f xs i x old mid end within is sent rest =
    rw (drop-cons xs i x within) (mid, subst (λ y. SendsValue (f y) old mid) is sent, subst (λ j. SendsItems (items_of (map f (drop j xs))) mid end) (add-one i) rest)

items_len-items_of : {X : Type 0} (f : X → Data) (xs : List X) → items_len (items_of (map f xs)) ≡ length xs
items_len-items_of f [] = refl
items_len-items_of f (x ∷ xs) = ap suc (items_len-items_of f xs)

-- a list begins with its length, and its items are sent
pub list_sent : {X : Type 0} (f : X → Data) (xs : List X) (n : ℕ) (old first end : Log) → n ≡ length xs → Logs old first (seq_begins (Some n)) → SendsItems (items_of (map f xs)) first end → SendsValue (array (items_of (map f xs))) old end
list_sent f xs n old first end long begins items = (first, subst (λ k. Logs old first (seq_begins (Some k))) (long ∙ sym (items_len-items_of f xs)) begins, items)
