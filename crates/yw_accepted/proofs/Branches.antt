-- The branches of a split share out the places after its task, as those of the document share out where its flows lead.
use Rattle.std.specs.Prelude.{◌≡◌, ◌+◌, ◌==◌, ◌&&◌, ◌||◌, ℕ, Bool, true, false, List, [], ◌∷◌, count_by, cond, length, map, nat_eq, None, Option, Some, is_none, slice_get, refl, if◌then◌else◌}
use Rattle.std.specs.List.{All, AllZip, list_all}
use Rattle.std.specs.Str.{bytes_eq}
use Rattle.std.proofs.Common.{sym, ◌∙◌, ap, arith}
use Rattle.std.proofs.lemmas.Bool.{and_from, and_parts, eq-eqb, eqb-true, or_left, or_right}
use Rattle.std.proofs.lemmas.List.Elements.{All-head, All-tail, filter_passes}
use Rattle.std.proofs.lemmas.List.Sums.{sum_by-cons}
use Rattle.std.proofs.lemmas.Slice.Eq.{bytes_eq-Decides}
use Rattle.yw_accept.specs.Built.{IsBranch, IsPlaceOf, MayMean, flows_from, place_of, places_of}
use Rattle.yw_accept.specs.Nodes.{is_name_among, is_task, leads_to}
use Rattle.yw_accept.specs.Scopes.{vars_scope}
use Rattle.yw_accept.specs.Tasks.{branches_fit, split_fits}
use Rattle.yw_base.specs.declared.gate.Gate.{Gate}
use Rattle.yw_base.specs.declared.gate.Gate.TheVariants.{And, Xor, Or}
use Rattle.yw_expr.specs.Tree.{Tree}
use Rattle.yw_expr.specs.declared.scope.Binding.{Binding}
use Rattle.yw_read.specs.declared.raw.RawBranch.{RawBranch}
use Rattle.yw_read.specs.declared.raw.RawFlow.{RawFlow}
use Rattle.yw_read.specs.declared.raw.RawNet.{RawNet}
use Rattle.yw_read.specs.declared.raw.RawTask.{RawTask}
use Rattle.yw_said.proofs.Numbers.{Apart, one_number}
use Rattle.yw_spec.specs.declared.spec.Place.{Place}
use Rattle.yw_spec.specs.declared.spec.Place.TheVariants as places
use Rattle.yw_spec.specs.declared.task.Branch.{Branch}
use Rattle.yw_spec.specs.declared.task.Task.{Task}
use Rattle.yw_state.proofs.Tests.{by_test, never, some_same}
use Rattle.yw_state.specs.Nets as numbers
use Rattle.yw_within.specs.Within.{SharesOut, SplitFits}

-- ---- counts

count_alike : {A B : Type 0} (R : A → B → Type 0) (p : A → Bool) (q : B → Bool) → ((x : A) (y : B) → R x y → q y ≡ p x) → (xs : List A) (ys : List B) → AllZip R xs ys → count_by q ys ≡ count_by p xs
count_alike R p q same [] [] zip = refl
count_alike R p q same [] (y ∷ ys) zip = absurd zip
count_alike R p q same (x ∷ xs) [] zip = absurd zip
count_alike R p q same (x ∷ xs) (y ∷ ys) zip =
    sum_by-cons (λ z. cond (q z) 1 0) y ys
    ∙ ap (λ b. cond b 1 0 + count_by q ys) (same x y zip.0) ∙ ap (λ n. cond (p x) 1 0 + n) (count_alike R p q same xs ys zip.1)
    ∙ sym (sum_by-cons (λ z. cond (p z) 1 0) x xs)

-- two tests of which each follows from the other
both_ways : (a b : Bool) → (a ≡ true → b ≡ true) → (b ≡ true → a ≡ true) → a ≡ b
both_ways true b there back = sym (there refl)
both_ways false b there back = by_test b (λ yes. back yes ∙ sym yes) (λ els. sym els)

-- ---- where flows of one task lead

module _ (net : RawNet) (name : List ℕ) (task : is_task net name ≡ true) (apart : Apart (places_of net)) where
  abbrev flow_to : List ℕ → RawFlow
  flow_to to = record { from = name; to = to }

  -- where a task's flow leads is told by its place
  leads : Place → List ℕ
  leads (places.Named to) = to
  leads (places.Between from to) = to

  end_of : (to : List ℕ) → leads (place_of net (flow_to to)) ≡ to
  unfolding leads
  end_of to =
      ap (λ b. leads (if b && is_task net to then places.Between name to else if b then places.Named to else places.Named name)) task ∙ either (is_task net to)
    where
      either : (b : Bool) → leads (if b then places.Between name to else places.Named to) ≡ to
      either true = refl
      either false = refl

  -- two of them have the same place exactly where they lead to the same node
  same_end : (a b : List ℕ) (c d : ℕ) → IsPlaceOf net (flow_to a) c → IsPlaceOf net (flow_to b) d → (d == c) ≡ bytes_eq a b
  same_end a b c d at_c at_d =
      both_ways (d == c) (bytes_eq a b)
      (λ same. let place = some_same (place_of net (flow_to a)) (place_of net (flow_to b)) (sym at_c ∙ ap (slice_get (places_of net)) (sym (eqb-true d c same)) ∙ at_d) in
      (bytes_eq-Decides a b).1 (sym (end_of a) ∙ ap leads place ∙ end_of b))
      (λ same. let to = (bytes_eq-Decides a b).0 same in
      eq-eqb d c (one_number (places_of net) apart (place_of net (flow_to b)) d c at_d (at_c ∙ ap (λ (n : List ℕ). Some (place_of net (flow_to n))) to)))

  abbrev IsFrom : RawFlow → Type 0
  IsFrom f = bytes_eq f.from name ≡ true

  as_flow_to : (f : RawFlow) (c : ℕ) → IsFrom f → IsPlaceOf net f c → IsPlaceOf net (flow_to f.to) c
  as_flow_to f c from at = at ∙ ap (λ (n : List ℕ). Some (place_of net (record { from = n; to = f.to }))) ((bytes_eq-Decides f.from name).0 from)

  module _ (said : RawTask) (called : said.name ≡ name) where
    branch_at : (rb : RawBranch) (b : Branch) → IsBranch net said rb b → IsPlaceOf net (flow_to rb.to) b.to
    branch_at rb b is = is.to ∙ ap (λ (n : List ℕ). Some (place_of net (record { from = n; to = rb.to }))) called

    -- each branch leads to a place after the task
    branch_among : (rb : RawBranch) (b : Branch) → IsBranch net said rb b → (fs : List RawFlow) (cs : List ℕ) → All IsFrom fs → AllZip (IsPlaceOf net) fs cs → is_name_among (map (λ (f : RawFlow). f.to) fs) rb.to ≡ true
        → numbers.is_among cs b.to ≡ true
    branch_among rb b is [] [] from zip among = never among
    branch_among rb b is [] (c ∷ cs) from zip among = absurd zip
    branch_among rb b is (f ∷ fs) [] from zip among = absurd zip
    branch_among rb b is (f ∷ fs) (c ∷ cs) from zip among =
        let same = same_end f.to rb.to c b.to (as_flow_to f c (All-head IsFrom f fs from) zip.0) (branch_at rb b is) in
        by_test (bytes_eq f.to rb.to)
        (λ here. or_left (nat_eq b.to c) _ (same ∙ here))
        (λ els. or_right (nat_eq b.to c) _ (branch_among rb b is fs cs (All-tail IsFrom f fs from) zip.1 (others f.to rb.to fs els among)))
      where
        others : (a b : List ℕ) (fs : List RawFlow) → bytes_eq a b ≡ false → (bytes_eq b a || is_name_among (map (λ (f : RawFlow). f.to) fs) b) ≡ true → is_name_among (map (λ (f : RawFlow). f.to) fs) b ≡ true
        others a b fs differ among =
            by_test (bytes_eq b a)
            (λ same. never (sym differ ∙ (bytes_eq-Decides a b).1 (sym ((bytes_eq-Decides b a).0 same))))
            (λ els. ap (λ t. t || is_name_among (map (λ (f : RawFlow). f.to) fs) b) (sym els) ∙ among)

    all_among : (rbs : List RawBranch) (bs : List Branch) → AllZip (IsBranch net said) rbs bs → (cs : List ℕ) → AllZip (IsPlaceOf net) (flows_from net name) cs
        → list_all (λ (rb : RawBranch). is_name_among (leads_to net name) rb.to) rbs ≡ true → list_all (λ (b : Branch). numbers.is_among cs b.to) bs ≡ true
    all_among [] [] zip cs after all = refl
    all_among [] (b ∷ bs) zip cs after all = absurd zip
    all_among (rb ∷ rbs) [] zip cs after all = absurd zip
    all_among (rb ∷ rbs) (b ∷ bs) zip cs after all =
        let parts = and_parts (is_name_among (leads_to net name) rb.to) (list_all (λ (r : RawBranch). is_name_among (leads_to net name) r.to) rbs) all in
        let from = filter_passes (λ (flow : RawFlow). bytes_eq flow.from name) net.flows in
        and_from _ _ (branch_among rb b zip.0 (flows_from net name) cs from after parts.0) (all_among rbs bs zip.1 cs after parts.1)

    -- each place after the task has one branch
    module _ (rbs : List RawBranch) (bs : List Branch) (zip : AllZip (IsBranch net said) rbs bs) where
      each_once : (fs : List RawFlow) (cs : List ℕ) → All IsFrom fs → AllZip (IsPlaceOf net) fs cs
          → list_all (λ output. count_by (λ (rb : RawBranch). bytes_eq output rb.to) rbs == 1) (map (λ (f : RawFlow). f.to) fs) ≡ true → list_all (λ c. count_by (λ (b : Branch). b.to == c) bs == 1) cs ≡ true
      each_once [] [] from after all = refl
      each_once [] (c ∷ cs) from after all = absurd after
      each_once (f ∷ fs) [] from after all = absurd after
      each_once (f ∷ fs) (c ∷ cs) from after all =
          let parts = and_parts (count_by (λ (rb : RawBranch). bytes_eq f.to rb.to) rbs == 1) _ all in
          let at = as_flow_to f c (All-head IsFrom f fs from) after.0 in
          let same = count_alike (IsBranch net said) (λ (rb : RawBranch). bytes_eq f.to rb.to) (λ (b : Branch). b.to == c) (λ rb b is. same_end f.to rb.to c b.to at (branch_at rb b is)) rbs bs zip in
          and_from _ _ (ap (λ n. n == 1) same ∙ parts.0) (each_once fs cs (All-tail IsFrom f fs from) after.1 parts.1)

    no_condition : (scope : List Binding) (text : Option (List ℕ)) (e : Option Tree) → MayMean scope text e → is_none e ≡ is_none text
    no_condition scope None None means = refl
    no_condition scope None (Some e) means = absurd means
    no_condition scope (Some text) None means = absurd means
    no_condition scope (Some text) (Some e) means = refl

    module _ (t : Task) (branch : AllZip (IsBranch net said) said.branch t.branch) (after : AllZip (IsPlaceOf net) (flows_from net name) t.after) where
      shares_out : branches_fit (leads_to net name) said.branch ≡ true → SharesOut t
      shares_out fit =
          let parts = and_parts _ (count_by (λ (rb : RawBranch). is_none rb.when) said.branch == 1) fit in
          let both = and_parts (list_all (λ (rb : RawBranch). is_name_among (leads_to net name) rb.to) said.branch) _ parts.0 in
          let from = filter_passes (λ (flow : RawFlow). bytes_eq flow.from name) net.flows in
          record {
            to = all_among said.branch t.branch branch t.after after both.0;
            each = each_once said.branch t.branch branch (flows_from net name) t.after from after both.1;
            default = count_alike (IsBranch net said) (λ (rb : RawBranch). is_none rb.when) (λ (b : Branch). is_none b.when) (λ rb b is. no_condition (vars_scope net) rb.when b.when is.when) said.branch t.branch branch
                ∙ eqb-true _ 1 parts.1;
          }

      no_branches : (rbs : List RawBranch) (bs : List Branch) → AllZip (IsBranch net said) rbs bs → (length rbs == 0) ≡ true → bs ≡ []
      no_branches [] [] zip none = refl
      no_branches [] (b ∷ bs) zip none = absurd zip
      no_branches (rb ∷ rbs) bs zip none = let zero_is = eqb-true (length (rb ∷ rbs)) 0 none in absurd (omega (arith, zero_is))

      pub split_right : (g : Gate) → split_fits g (leads_to net name) said.branch ≡ true → SplitFits g t
      split_right And fit = no_branches said.branch t.branch branch fit
      split_right Xor fit = shares_out fit
      split_right Or fit = shares_out fit
