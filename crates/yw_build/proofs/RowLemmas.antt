-- One flow more in the rows of tasks.
use Rattle.std.proofs.Common.{◌≡◌, ℕ, ◌<◌, ◌+◌, ◌-◌, Bool, true, List, [], ◌∷◌, ◌++◌, length, get_or, take, cond, refl, sym, ap, ◌∙◌, subst, inl, inr, arith, append-nil, length-append, Some, true≢false}
use Rattle.std.specs.Prelude.{filter, slice_get, set}
use Rattle.std.specs.List.{AllZip}
use Rattle.std.specs.Str.{bytes_eq}
use Rattle.std.proofs.lemmas.Bool.{cases_Bool}
use Rattle.std.proofs.lemmas.List.{get_or-set_other, length-map, length-set}
use Rattle.std.proofs.Math.Seq.{get_or-append_right}
use Rattle.std.proofs.lemmas.Grind.{get_or-set_at}
use Rattle.std.proofs.lemmas.List.Elements.{filter-append}
use Rattle.std.proofs.lemmas.Option.{get_or_from_slice_get, slice_get_within, slice_get-get_or}
use Rattle.std.proofs.lemmas.Slice.Eq.{bytes_eq-Decides}
use Rattle.yw_read.specs.declared.raw.RawFlow.{RawFlow}
use Rattle.yw_read.specs.declared.raw.RawTask.{RawTask}
use Rattle.yw_read.specs.declared.raw.RawNet.{RawNet}
use Rattle.yw_accept.specs.Built.{IsPlaceOf}
use Rattle.yw_accept.specs.Facts.{AreDistinct, NetIsNamed}
use Rattle.yw_accept.specs.Nodes.{is_name_among, task_names, named_places, nodes}
use Rattle.yw_build.specs.Rows.{AddsPlace, AreRows}
use Rattle.yw_accept.proofs.Among.{among_get}
use Rattle.yw_build.proofs.ZipLemmas.{all_zip_push, zip_along, more_of}

-- ---- tasks have names of their own

pub tasks_distinct : (net : RawNet) → NetIsNamed net → AreDistinct (task_names net.task)
tasks_distinct net h i j li lj e =
    let n : ℕ = length (named_places net) in
    let all : length (nodes net) ≡ n + length (task_names net.task) = length-append (named_places net) (task_names net.task) in
    let at : (k : ℕ) → get_or (nodes net) (n + k) [] ≡ get_or (task_names net.task) k [] = λ k. let same : n + k - n ≡ k = omega arith in get_or-append_right (named_places net) (task_names net.task) (n + k) [] (omega arith) ∙ ap (λ m. get_or (task_names net.task) m []) same in
    let same : n + i ≡ n + j = h.nodes_are.distinct (n + i) (n + j) (omega (arith, all, li)) (omega (arith, all, lj)) (at i ∙ e ∙ sym (at j)) in
    omega (arith, same)

task_named : (net : RawNet) (node : List ℕ) (t : ℕ) → slice_get (task_names net.task) t ≡ Some node → (t < length net.task) × (get_or (task_names net.task) t [] ≡ node)
task_named net node t h = let lt = slice_get_within (task_names net.task) t node h in (omega (arith, lt, length-map net.task (λ (x : RawTask). x.name)), get_or_from_slice_get (task_names net.task) t node [] h)

-- ---- a flow more

pub row_within : (net : RawNet) (node : List ℕ) (task n : ℕ) → slice_get (task_names net.task) task ≡ Some node → n ≡ length net.task → task < n
row_within net node task n is len = omega (arith, (task_named net node task is).0, len)

pub adds_none : (net : RawNet) (node : List ℕ) (flow : RawFlow) (rows : List (List ℕ)) → (is_name_among (task_names net.task) node ≡ true → ⊥) → AddsPlace net node flow rows rows
adds_none net node flow rows never = record {
  len = refl;
  row = λ t lt e. absurd (never (among_get (task_names net.task) node t (slice_get-get_or (task_names net.task) t [] (omega (arith, lt, length-map net.task (λ (x : RawTask). x.name))) ∙ ap Some e)));
  others = λ t lt ne. refl;
}

pub adds_one : (net : RawNet) (node : List ℕ) (flow : RawFlow) (rows new : List (List ℕ)) (task place : ℕ) (from to : List ℕ) → NetIsNamed net → slice_get (task_names net.task) task ≡ Some node → IsPlaceOf net (record { from = from; to = to }) place → from ≡ flow.from → to ≡ flow.to → length rows ≡ length net.task
    → new ≡ set rows task (get_or rows task [] ++ place ∷ []) → AddsPlace net node flow rows new
adds_one net node flow rows new task place from to named is at from_is to_is len e =
    let P : List ℕ → List ℕ → Type 0 = λ a b. IsPlaceOf net (record { from = a; to = b }) place in
    let here : IsPlaceOf net flow place = subst (λ b. P flow.from b) to_is (subst (λ a. P a to) from_is at) in
    let it = task_named net node task is in
    let as_many : length (task_names net.task) ≡ length net.task = length-map net.task (λ (x : RawTask). x.name) in
    record {
      len = ap length e ∙ length-set rows task _;
      row = λ t lt n.
          let same : t ≡ task = tasks_distinct net named t task (omega (arith, lt, as_many)) (omega (arith, it.0, as_many)) (n ∙ sym it.1) in
          (place, here, ap (λ r. get_or r t []) e ∙ get_or-set_at rows task t _ [] same (omega (arith, it.0, len)) ∙ ap (λ j. get_or rows j [] ++ place ∷ []) (sym same));
      others = λ t lt ne. ap (λ r. get_or r t []) e ∙ get_or-set_other rows task t _ [] (λ same. ne (ap (λ j. get_or (task_names net.task) j []) same ∙ it.1));
    }

module _ (net : RawNet) (node : RawFlow → List ℕ) (flows : List RawFlow) (flow : RawFlow) (rows new : List (List ℕ)) (h : AreRows net node flows rows) (adds : AddsPlace net (node flow) flow rows new) where
  row_more : (t : ℕ) → t < length net.task → AllZip (IsPlaceOf net) (filter (λ f. bytes_eq (node f) (get_or (task_names net.task) t [])) (flows ++ flow ∷ [])) (get_or new t [])
  row_more t lt =
      let name : List ℕ = get_or (task_names net.task) t [] in
      let test : RawFlow → Bool = λ f. bytes_eq (node f) name in
      let with_one : filter test (flows ++ flow ∷ []) ≡ filter test flows ++ filter test (flow ∷ []) = filter-append test flows (flow ∷ []) in
      elim (cases_Bool (bytes_eq (node flow) name)) [
        | inl hit ↦
            let (k, at, grown) = adds.row t lt (sym ((bytes_eq-Decides (node flow) name).0 hit)) in
            zip_along (IsPlaceOf net) (filter test flows ++ flow ∷ []) _ (get_or rows t [] ++ k ∷ []) _ (sym (with_one ∙ ap (λ b. filter test flows ++ cond b (flow ∷ []) []) hit)) (sym grown)
            (all_zip_push (IsPlaceOf net) (filter test flows) (get_or rows t []) flow k (h.row t lt) at)
        | inr miss ↦
            let stays : get_or new t [] ≡ get_or rows t [] = adds.others t lt (λ e. true≢false (sym ((bytes_eq-Decides (node flow) name).1 (sym e)) ∙ miss)) in
            zip_along (IsPlaceOf net) (filter test flows) _ (get_or rows t []) _ (sym (with_one ∙ ap (λ b. filter test flows ++ cond b (flow ∷ []) []) miss ∙ append-nil (filter test flows))) (sym stays) (h.row t lt)
      ]

  pub rows_more : AreRows net node (flows ++ flow ∷ []) new
  rows_more = record { len = adds.len ∙ h.len; row = row_more }

pub rows_next : (net : RawNet) (node : RawFlow → List ℕ) (flows items : List RawFlow) (i : ℕ) (name : List ℕ) (flow : RawFlow) (rows new : List (List ℕ)) → items ≡ flows → i < length items → flow ≡ get_or items i flow → name ≡ node flow → AreRows net node (take i flows) rows → AddsPlace net name flow rows new → AreRows net node (take (i + 1) flows) new
rows_next net node flows items i name flow rows new same lt is name_is h adds =
    let P : List RawFlow → Type 0 = λ fs. AreRows net node fs new in
    let Q : List ℕ → Type 0 = λ n. AddsPlace net n flow rows new in
    let next : take i flows ++ flow ∷ [] ≡ take (i + 1) flows = more_of flows items i flow same lt is in
    subst P next (rows_more net node (take i flows) flow rows new h (subst Q name_is adds))

pub row_zip : (net : RawNet) (node : RawFlow → List ℕ) (t : ℕ) (name : List ℕ) (rows slice : List (List ℕ)) (row : List ℕ) → AreRows net node net.flows rows → t < length net.task → get_or (task_names net.task) t [] ≡ name → slice ≡ rows → row ≡ get_or slice t []
    → AllZip (IsPlaceOf net) (filter (λ flow. bytes_eq (node flow) name) net.flows) row
row_zip net node t name rows slice row h lt is same e =
    let P : List ℕ → List ℕ → Type 0 = λ n r. AllZip (IsPlaceOf net) (filter (λ flow. bytes_eq (node flow) n) net.flows) r in
    subst (λ r. P name r) (sym (e ∙ ap (λ rs. get_or rs t []) same)) (subst (λ n. P n (get_or rows t [])) is (h.row t lt))
