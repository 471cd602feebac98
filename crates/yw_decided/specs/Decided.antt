-- Whether a state is well is asked at each thing that stands.
use Rattle.std.specs.Prelude.{◌≡◌, ◌≤◌, ◌==◌, ◌&&◌, ◌||◌, ◌+◌, ℕ, suc, Bool, true, not, List, [], ◌∷◌, length, slice_get, IsTrue, IsSome, Option, None, Some, is_some, is_none, nat_le, nat_lt, if◌then◌else◌}
use Rattle.std.specs.List.{list_all}
use Rattle.yw_base.specs.Identity.{case_number, is_identity, number_end, parent}
use Rattle.yw_spec.specs.declared.task.Task.{Task}
use Rattle.yw_state.specs.Allowed.{most_tokens}
use Rattle.yw_state.specs.Identity.{Ident, is_case_ident, same}
use Rattle.yw_state.specs.Judged.{has_rule}
use Rattle.yw_state.specs.Map.{entries, has_key}
use Rattle.yw_state.specs.Nets.{is_atomic}
use Rattle.yw_state.specs.NewRule.{are_fit, most_primitives}
use Rattle.yw_state.specs.Options.{is_some_and}
use Rattle.yw_state.specs.Passing.{row_fits}
use Rattle.yw_state.specs.State.{ItemAt, NetAt, NetPart, RunPart, Site, State, is_target, item_at, items_of, net_at, net_part, run_part}
use Rattle.yw_state.specs.Well.{ItemFits, NetFits, has_work, is_drawn, item_limit, vals_fit, is_child_of, is_composite, is_top, net_level, wants_net}
use Rattle.yw_state.specs.Words.{has_check, is_completed, is_ready}
use Rattle.yw_state.specs.declared.tree.TreeKind.{TreeKind}
use Rattle.yw_state.specs.declared.tree.TreeKind.TheVariants.{Pre, Select, Post}

-- each thing that stands passes
abbrev pub each_site : State → (Ident → Site → Bool) → Bool
each_site s p = list_all (λ e. p e.0 e.1) (entries s.sites)

abbrev pub implies : Bool → Bool → Bool
implies p q = not p || q

-- ---- numbers

abbrev pub numbers_stand : State → Ident → Site → Bool
numbers_stand s j x = is_identity j && (is_drawn s j && not (has_key s.ended (case_number j)))

-- the number of a case that is over is drawn
abbrev pub was_drawn : State → ℕ → Bool
was_drawn s n = nat_le 1 n && nat_lt n s.next

abbrev pub each_ended : State → Bool
each_ended s = list_all (λ e. was_drawn s e.0) (entries s.ended)

abbrev pub are_numbers : State → Bool
are_numbers s = nat_le 1 s.next && (nat_le s.next number_end && (each_ended s && each_site s (numbers_stand s)))

-- ---- marks and checks

abbrev pub check_stands : State → Ident → Site → TreeKind → Bool
check_stands s j x kind = implies (has_check x.due kind) (is_target s j && has_rule s j kind)

abbrev pub marks_stand : State → Ident → Site → Bool
marks_stand s j x =
    implies x.suspended (is_target s j)
    && (check_stands s j x Pre && (check_stands s j x Select && (check_stands s j x Post && implies x.due.select (is_some_and x.item (λ i. is_ready i.stage)))))

-- ---- what things stand at

-- no other run stands where that at j does
abbrev pub is_only_run : State → Ident → Bool
is_only_run s j = each_site s (λ k y. implies (is_some y.run) (implies (same (parent j) (parent k)) (same j k)))

abbrev pub parents_stand : State → Ident → Site → Bool
parents_stand s j x =
    implies (is_some x.item) (nat_le 2 (length j) && (is_some (item_at s j) && is_none x.run))
    && (implies (is_some x.run) (nat_le 2 (length j) && (is_target s (parent j) && (is_some_and x.run has_work && is_only_run s j)))
    && (is_some x.net || is_some x.item || is_some x.run))

-- ---- nets

-- what there is passes
abbrev pub all_in : {A : Type 0} → Option A → (A → Bool) → Bool
all_in None p = true
all_in (Some a) p = p a

abbrev pub suits_item : State → NetPart → ItemAt → Bool
suits_item s n x = wants_net x && (if is_composite x then is_child_of x n else is_top s n)

abbrev pub suits_run : State → NetPart → RunPart → Bool
suits_run s n r = r.waiting && is_top s n

abbrev pub net_stands : State → Ident → Site → NetPart → Bool
net_stands s j x n =
    implies (is_case_ident j) (is_top s n)
    && (all_in (item_at s j) (suits_item s n) && (all_in x.run (suits_run s n) && (is_case_ident j || is_some x.item || is_some x.run)))

abbrev pub nets_stand : State → Ident → Site → Bool
nets_stand s j x =
    all_in x.net (net_stands s j x)
    && (all_in (item_at s j) (λ i. implies (wants_net i) (is_some x.net)) && all_in x.run (λ (r : RunPart). implies r.waiting (is_some x.net)))

-- ---- depth

abbrev pub is_shallow : State → Ident → Site → Bool
is_shallow s j x = all_in x.net (λ n. nat_le (length j) (30 + net_level s j))

-- ---- what is kept of cases: values, tokens, counts of items, and what runs have still to do

abbrev pub fits_net : NetAt → Bool
fits_net n = vals_fit n.net.vars n.part.vals && (length n.part.tokens == length n.net.places && list_all (λ k. nat_le k most_tokens) n.part.tokens)

abbrev pub has_made : ItemAt → Bool
has_made x = if is_completed x.part.stage then row_fits x.of_task.task.outs x.part.made else length x.part.made == 0

abbrev pub fits_item : ItemAt → Bool
fits_item x =
    row_fits x.of_task.task.ins x.part.given
    && (has_made x && implies (is_some x.part.who) (is_atomic x.of_task.task && not (is_ready x.part.stage)))

-- each passes with its number, from this number on
abbrev pub each_numbered : {A : Type 0} → (ℕ → A → Bool) → ℕ → List A → Bool
each_numbered p k [] = true
each_numbered p k (x ∷ xs) = p k x && each_numbered p (suc k) xs

abbrev pub is_few : State → Ident → ℕ → Task → Bool
is_few s j k t = nat_le (length (items_of s j k)) (item_limit t.many)

-- the net at j is one of its specification, and fits it
abbrev pub net_content : State → Ident → Bool
net_content s j = is_some_and (net_at s j) (λ (n : NetAt). fits_net n && each_numbered (is_few s j) 0 n.net.tasks)

abbrev pub run_content : State → Ident → RunPart → Bool
run_content s j r = nat_le (length r.rest) most_primitives && are_fit s (is_case_ident (parent j)) r.rest

abbrev pub content_stands : State → Ident → Site → Bool
content_stands s j x = implies (is_some x.net) (net_content s j) && (all_in (item_at s j) fits_item && all_in x.run (run_content s j))

-- What is kept of cases is within its bounds: what `ContentFits` says of what stands.
pub record CasesFit (s : State) : Type 0 where
  pub of_spec : (j : Ident) (n : NetPart) → net_part s j ≡ Some n → IsSome (net_at s j)
  pub net : (j : Ident) (n : NetAt) → net_at s j ≡ Some n → NetFits n
  pub item : (j : Ident) (x : ItemAt) → item_at s j ≡ Some x → ItemFits x
  pub count : (i : Ident) (n : NetAt) (k : ℕ) (t : Task) → net_at s i ≡ Some n → slice_get n.net.tasks k ≡ Some t → length (items_of s i k) ≤ item_limit t.many
  pub run_length : (j : Ident) (r : RunPart) → run_part s j ≡ Some r → length r.rest ≤ most_primitives
  pub run_fit : (j : Ident) (r : RunPart) → run_part s j ≡ Some r → IsTrue (are_fit s (is_case_ident (parent j)) r.rest)
