-- What is kept of paths, and whether a token may still come.
use Rattle.std.proofs.Common.{◌≡◌, ℕ, zero, suc, ◌+◌, ◌*◌, ◌/◌, ◌%◌, ◌<◌, ◌≤◌, ◌⊎◌, inl, inr, Bool, true, false, List, [], ◌∷◌, length, get_or, refl, sym, ap, ◌∙◌, subst, arith, Some, None}
use Rattle.std.specs.Prelude.{◌↔◌, ◌||◌, Contains, map, option_and_then, slice_get, unwrap_or}
use Rattle.std.specs.Int.{bit_at}
use Rattle.std.specs.List.{list_any}
use Rattle.std.specs.Option.{option_map_or}
use Rattle.std.proofs.lemmas.Bool.{both_ways, cases_lt, or_cases, or_left, or_right}
use Rattle.std.proofs.lemmas.List.{length-map}
use Rattle.std.proofs.lemmas.List.Folds.{Any-from_list_any, list_any-from_Any}
use Rattle.std.proofs.lemmas.Option.{slice_get-get_or, slice_get_past}
use Rattle.yw_mark.specs.Tokens.{is_marked}
use Rattle.yw_path.proofs.BitLemmas.{has-nil}
use Rattle.yw_path.proofs.DirectLemmas.{task_ahead}
use Rattle.yw_path.proofs.NetLemmas.{first_task, from_place, last_task, net_rows, rows_net, to_place}
use Rattle.yw_path.specs.Bits.{Has}
use Rattle.yw_path.specs.Direct.{AreDirect, AreInto, HasItsPlaces}
use Rattle.yw_path.specs.Places.{HaveRows}
use Rattle.yw_path.specs.Rows.{IsClosure, Leads}
use Rattle.yw_path.specs.Upstream.{IsUpstreamOf, is_source, row_of}
use Rattle.yw_path.specs.Waiting.{MayStillCome, holds_token}
use Rattle.yw_path.specs.declared.upstream.Upstream.{Upstream}
use Rattle.yw_spec.specs.Net.{Node, Path, places_after, at_place, at_task, places_before}
use Rattle.yw_spec.specs.declared.spec.Net.{Net}
use Rattle.yw_spec.specs.declared.task.Task.{Task}

-- ---- what is kept

module _ (net : Net) (its : HasItsPlaces net) (into direct closed : List (List ℕ)) (up : Upstream)
    (are_into : AreInto net (length net.tasks) into) (are_direct : AreDirect net direct) (are_closed : IsClosure direct closed)
    (have : HaveRows (length into) into closed up.rows.items up.row_numbers.items)
    (inputs : up.inputs.items ≡ map (λ (t : Task). t.before) net.tasks) where
  row_there : (c : ℕ) → c < length into → row_of up c ≡ get_or up.rows.items (get_or up.row_numbers.items c 0) []
  row_there c lt =
      ap (λ o. unwrap_or (option_and_then (slice_get up.rows.items) o) []) (slice_get-get_or up.row_numbers.items c 0 (omega (arith, lt, have.len)))
      ∙ ap (λ o. unwrap_or o []) (slice_get-get_or up.rows.items (get_or up.row_numbers.items c 0) [] (have.within c lt))

  no_row : (c : ℕ) → length into ≤ c → row_of up c ≡ []
  no_row c past = ap (λ o. unwrap_or (option_and_then (slice_get up.rows.items) o) []) (slice_get_past up.row_numbers.items c (omega (arith, past, have.len)))

  -- what is in the row of a place leads to a task that leads to the place
  upstream : (u c : ℕ) → Has (row_of up c) u → (t : ℕ) × Contains (places_after net t) c × Leads closed u t
  upstream u c h = elim (cases_lt c (length into)) [
    | inl lt ↦
        let P : List ℕ → Type 0 = λ row. Has row u in
        let found = have.only c u lt (subst P (row_there c lt) h) in
        (found.0, (are_into.only c found.0 found.1).1, found.2)
    | inr past ↦ let P : List ℕ → Type 0 = λ row. Has row u in absurd (has-nil u (subst P (no_row c past) h))
  ]

  rows_of_direct : length direct ≡ length net.tasks
  rows_of_direct = are_direct.are_rows.len

  pub is_upstream : IsUpstreamOf net up
  is_upstream = record {
    only = λ u c h.
        let found = upstream u c h in
        to_place net u found.0 c (rows_net net direct are_direct u found.0 (are_closed.only u found.0 found.2)) found.1;
    all = λ u c p.
        let last = last_task net u c p in
        let t_lt = task_ahead net last.0 c last.2 in
        let c_lt : c < length into = omega (arith, its.after last.0 c last.2, are_into.len) in
        let leads = are_closed.all u last.0 (omega (arith, t_lt, rows_of_direct)) (net_rows net direct are_direct u last.0 last.1) in
        let P : List ℕ → Type 0 = λ row. Has row u in
        subst P (sym (row_there c c_lt)) (have.all c u last.0 c_lt (are_into.all c last.0 t_lt last.2) leads);
    within = λ u c h. let found = upstream u c h in omega (arith, are_closed.are_rows.within u found.0 found.2, rows_of_direct);
    inputs = inputs;
  }

-- ---- whether a token may still come

places_at : (ts : List Task) (u : ℕ) → get_or (map (λ (t : Task). t.before) ts) u [] ≡ option_map_or (λ (t : Task). t.before) (slice_get ts u) []
places_at [] u = refl
places_at (t ∷ ts) zero = refl
places_at (t ∷ ts) (suc u) = places_at ts u

input_places : (net : Net) (up : Upstream) → IsUpstreamOf net up → (u : ℕ) → get_or up.inputs.items u [] ≡ places_before net u
input_places net up is u = ap (λ ls. get_or ls u []) is.inputs ∙ places_at net.tasks u

module _ (net : Net) (up : Upstream) (is : IsUpstreamOf net up) (marks : List ℕ) (actives : List Bool) (c : ℕ) where
  -- a task upstream of the place is active or has a marked input place
  abbrev HasSource : Type 0
  HasSource = (u : ℕ) × Has (row_of up c) u × (is_source up marks actives u ≡ true)

  by_source : HasSource → MayStillCome net marks actives c
  by_source (u, there, holds) = elim (or_cases (unwrap_or (slice_get actives u) false) (list_any (is_marked marks) (get_or up.inputs.items u [])) holds) [
    | inl active ↦ record { source = at_task u; holds = active; path = is.only u c there }
    | inr some ↦
        let found = Any-from_list_any (is_marked marks) (get_or up.inputs.items u []) some in
        let P : List ℕ → Type 0 = λ cs. Contains cs found.1 in
        record {
          source = at_place found.1;
          holds = found.4;
          path = from_place net found.1 u c (subst P (input_places net up is u) (found.0, found.2, found.3)) (is.only u c there);
        }
  ]

  marked_input : (d u : ℕ) → Contains (places_before net u) d → is_marked marks d ≡ true → list_any (is_marked marks) (get_or up.inputs.items u []) ≡ true
  marked_input d u into marked =
      let P : List ℕ → Type 0 = λ cs. Contains cs d in
      let there = subst P (sym (input_places net up is u)) into in
      list_any-from_Any (is_marked marks) (get_or up.inputs.items u []) (there.0, d, there.1, there.2, marked)

  to_source : (x : Node) → holds_token marks actives x ≡ true → Path net x (at_place c) → (is_marked marks c ≡ true) ⊎ HasSource
  to_source (at_task u) holds p = inr (u, is.all u c p, or_left (unwrap_or (slice_get actives u) false) (list_any (is_marked marks) (get_or up.inputs.items u [])) holds)
  to_source (at_place d) holds p = elim (first_task net d c p) [
    | inl e ↦ let P : ℕ → Type 0 = λ k. is_marked marks k ≡ true in inl (subst P e holds)
    | inr (u, into, path) ↦ inr (u, is.all u c path, or_right (unwrap_or (slice_get actives u) false) (list_any (is_marked marks) (get_or up.inputs.items u [])) (marked_input d u into holds))
  ]

  pub comes : (is_marked marks c ≡ true) ⊎ HasSource → MayStillCome net marks actives c
  comes (inl marked) = record { source = at_place c; holds = marked; path = (0, refl) }
  comes (inr source) = by_source source

  pub came : MayStillCome net marks actives c → (is_marked marks c ≡ true) ⊎ HasSource
  came m = to_source m.source m.holds m.path

-- ---- words and bits

pub word_number : (w b : ℕ) → b < 64 → ((64 * w + b) / 64 ≡ w) × ((64 * w + b) % 64 ≡ b)
word_number w b lt = (omega (arith, lt), omega (arith, lt))

pub has_bit : (row : List ℕ) (w b : ℕ) → b < 64 → bit_at (get_or row w 0) b ≡ 1 → Has row (64 * w + b)
has_bit row w b lt h =
    let n = word_number w b lt in
    let P : ℕ → Type 0 = λ k. bit_at (get_or row k 0) ((64 * w + b) % 64) ≡ 1 in
    let Q : ℕ → Type 0 = λ k. bit_at (get_or row w 0) k ≡ 1 in
    subst P (sym n.0) (subst Q (sym n.1) h)

-- the answer of a place without a token
module _ (net : Net) (up : Upstream) (is : IsUpstreamOf net up) (marks : List ℕ) (actives : List Bool) (c : ℕ) where
  abbrev InWords : Type 0
  InWords = (w : ℕ) × (b : ℕ) × (w < length up.inputs.items / 64 + 1) × (b < 64) × (bit_at (get_or (row_of up c) w 0) b ≡ 1) × (is_source up marks actives (64 * w + b) ≡ true)

  found_in : InWords → MayStillCome net marks actives c
  found_in (w, b, w_lt, b_lt, bit, source) = comes net up is marks actives c (inr (64 * w + b, has_bit (row_of up c) w b b_lt bit, source))

  inputs_len : length up.inputs.items ≡ length net.tasks
  inputs_len = ap length is.inputs ∙ length-map net.tasks (λ (t : Task). t.before)

  in_words : is_marked marks c ≡ false → MayStillCome net marks actives c → InWords
  in_words bare m = elim (came net up is marks actives c m) [
    | inl marked ↦ absurd (both_ways (is_marked marks c) bare marked)
    | inr (u, there, source) ↦
        let lt = is.within u c there in
        let number : u ≡ 64 * (u / 64) + u % 64 = omega arith in
        let P : ℕ → Type 0 = λ k. is_source up marks actives k ≡ true in
        (u / 64, u % 64, omega (arith, lt, inputs_len), omega arith, there, subst P number source)
  ]

  pub answers : (r : Bool) → is_marked marks c ≡ false → ((r ≡ true) ↔ InWords) → (r ≡ true) ↔ MayStillCome net marks actives c
  answers r bare h = (λ e. found_in (h.0 e), λ m. h.1 (in_words bare m))
