-- Values by name, put into a map one after another.
use Rattle.std.proofs.Common.{◌≡◌, ◌∙◌, ◌<◌, ◌+◌, ℕ, List, [], ◌∷◌, ◌++◌, ap, get_or, length, refl, subst, sym, take}
use Rattle.std.proofs.lemmas.List.{take_more}
use Rattle.std.specs.Borrow.{Bor}
use Rattle.std.specs.BTreeMap.{insert_entry}
use Rattle.std.specs.Cmp.Lexicographic.{slice_cmp}
use Rattle.std.specs.Ordering.{match_ordering, nat_cmp}
use Rattle.std.specs.Prelude.{Some, fold, suc}
use Rattle.serde.specs.Event.{Log, Logs, map_begins}
use Rattle.std.specs.declared.cmp.Ordering.{Ordering}
use Rattle.std.specs.declared.cmp.Ordering.TheVariants.{Less, Equal, Greater}
use Rattle.serde_json.specs.Data.{Members, member, no_members, object, put}
use Rattle.serde_json.specs.Events.{SendsMembers, SendsValue, members_len}
use Rattle.yw_base.specs.declared.value.Value.{Value}
use Rattle.yw_lines.specs.Answers.{members_data, value_data}
use Rattle.yw_state.specs.declared.answer.NamedValue.{NamedValue}
use Rattle.yw_wire.specs.Sent.{entry_members}

abbrev pub name_cmp : Bor (List ℕ) → Bor (List ℕ) → Ordering
name_cmp a b = slice_cmp nat_cmp a.now b.now

pub one_put : (es : List (Bor (List ℕ) × Bor Value)) (k : Bor (List ℕ)) (v : Bor Value)
    → entry_members (insert_entry name_cmp es k v) ≡ put k.now (value_data v.now) (entry_members es)
one_put [] k v = refl
one_put (e ∷ es) k v =
    elim (slice_cmp nat_cmp k.now e.0.now) as (λ o.
    entry_members (match_ordering o ((k, v) ∷ e ∷ es) ((e.0, v) ∷ es) (e ∷ insert_entry name_cmp es k v))
    ≡ match_ordering o (member k.now (value_data v.now) (entry_members (e ∷ es))) (member e.0.now (value_data v.now) (entry_members es))
    (member e.0.now (value_data e.1.now) (put k.now (value_data v.now) (entry_members es)))) [
      | Less ↦ refl
      | Equal ↦ refl
      | Greater ↦ ap (member e.0.now (value_data e.1.now)) (one_put es k v)
    ]

fold_one : {A B : Type 0} (f : B → A → B) (z : B) (xs : List A) (y : A) → fold f z (xs ++ y ∷ []) ≡ f (fold f z xs) y
fold_one f z [] y = refl
fold_one f z (x ∷ xs) y = fold_one f (f z x) xs y

-- one value more
pub value_put : (es fs : List (Bor (List ℕ) × Bor Value)) (k : Bor (List ℕ)) (v : Bor Value) (vs : List NamedValue) (i : ℕ) (x : NamedValue)
    → i < length vs → x ≡ get_or vs i x → k.now ≡ x.name → v.now ≡ x.value → entry_members es ≡ members_data (take i vs)
    → fs ≡ insert_entry name_cmp es k v → entry_members fs ≡ members_data (take (i + 1) vs)
value_put es fs k v vs i x within at name value before after =
    ap entry_members after ∙ one_put es k v ∙ ap (λ ms. put k.now (value_data v.now) ms) before
    ∙ ap (λ n. put n (value_data v.now) (members_data (take i vs))) name ∙ ap (λ w. put x.name (value_data w) (members_data (take i vs))) value
    ∙ sym (ap members_data (take_more vs i x within ∙ ap (λ y. take i vs ++ y ∷ []) (sym at))
    ∙ fold_one (λ (ms : Members) (w : NamedValue). put w.name (value_data w.value) ms) no_members (take i vs) x)

members_len-entry_members : (es : List (Bor (List ℕ) × Bor Value)) → members_len (entry_members es) ≡ length es
members_len-entry_members [] = refl
members_len-entry_members (e ∷ es) = ap suc (members_len-entry_members es)

-- an object begins with its length, and its members are sent
pub members_sent : (es : List (Bor (List ℕ) × Bor Value)) (n : ℕ) (old first end : Log) → n ≡ length es → Logs old first (map_begins (Some n))
    → SendsMembers (entry_members es) first end → SendsValue (object (entry_members es)) old end
members_sent es n old first end long begins members =
    (first, subst (λ k. Logs old first (map_begins (Some k))) (long ∙ sym (members_len-entry_members es)) begins, members)
