-- What comes with a net, and what hangs at something: a run.
use Rattle.std.proofs.Common.{◌≡◌, ◌≤◌, ◌∙◌, ℕ, List, Bool, true, false, T, Option, None, Some, ap, arith, cond, length, refl, subst, sym}
use Rattle.std.specs.Ordering.{eq_by_cmp, is_lt}
use Rattle.std.specs.Prelude.{Box, IsSome, SomeIff, is_none, is_some, option_and_then, option_map, if◌then◌else◌}
use Rattle.std.specs.declared.alloc.Global.{Global}
use Rattle.yw_base.specs.Identity.{case_number, is_identity, parent}
use Rattle.yw_revive.proofs.ComesLast.{grown, identity_size, no_names, not_before_itself}
use Rattle.yw_revive.specs.Grown.{AllBefore, AttachesNet, Grows, is_free, with_bare}
use Rattle.yw_sites.proofs.Prefix.{is_child_of}
use Rattle.std.proofs.lemmas.Bool.{eqb-true}
use Rattle.yw_state.proofs.MapLemmas.{by_name, get-insert_other, get-insert_same, get-update_other, get-update_same, same_map, tied, tied_self}
use Rattle.yw_state.proofs.Tests.{by_option, by_test, never, nowhere, some_same}
use Rattle.yw_state.specs.After.{stands}
use Rattle.yw_state.specs.Identity.{Ident, is_case_ident, is_child}
use Rattle.yw_state.specs.Map.{get, insert, lexical, update}
use Rattle.yw_state.specs.State.{Site, Sites}
use Rattle.yw_tree.proofs.AbsentLaw.{item_is}
use Rattle.yw_tree.proofs.FindLaw.{find_is, item_shown, run_shown}
use Rattle.yw_tree.proofs.ForestLaw.{in_case}
use Rattle.yw_tree.proofs.Parents.{parent_child, parent_length}
use Rattle.yw_tree.proofs.Stood.{found_in_map}
use Rattle.yw_tree.specs.Becomes.{Gets}
use Rattle.yw_tree.specs.Cases.{case_at}
use Rattle.yw_tree.specs.Coming.{RunMayCome, TargetStands}
use Rattle.yw_tree.specs.Entries.{item_part_of, item_site, net_part, net_part_of, run_site}
use Rattle.yw_tree.specs.Forest.{IsForest, item_of, sites_of}
use Rattle.yw_tree.specs.Places.{hung_at, net_of_run, run_of}
use Rattle.yw_tree.specs.Spots.{Part, a_case, a_run, item_or_run, part_at, part_site}
use Rattle.yw_tree.specs.Ways.{net_in, net_of_item}
use Rattle.yw_tree.specs.declared.Case.{Case}
use Rattle.yw_tree.specs.declared.Forest.{Forest}
use Rattle.yw_tree.specs.declared.NetState.{NetState}
use Rattle.yw_tree.specs.declared.Node.{Node, out-Node}
use Rattle.yw_tree.specs.declared.Run.{Run, out-Run}

map_there : {A B : Type 0} (f : A → B) (o : Option A) → is_some (option_map f o) ≡ is_some o
map_there f None = refl
map_there f (Some x) = refl

map_none : {A B : Type 0} (f : A → B) (o : Option A) → option_map f o ≡ None → o ≡ None
map_none f None e = refl
map_none f (Some x) e = nowhere (sym e)

none_there : {A : Type 0} (o : Option A) → is_none o ≡ true → o ≡ None
none_there None e = refl
none_there (Some x) e = never e

no_net : (names : ℕ → List ℕ) (o : Option (Box NetState Global)) → net_part_of names o ≡ None → net_in o ≡ None
no_net names None e = refl
no_net names (Some b) e = nowhere (sym e)

-- ---- what the map has, as it is found

module _ (f : Forest) (b : IsForest f) (id : Ident) (is : is_identity id ≡ true) (names : ℕ → List ℕ) (x : Site) (here : get (sites_of names f) id ≡ Some x) where
  long : 1 ≤ length id
  long = (identity_size id is).0

  short : length id ≤ 40
  short = (identity_size id is).1

  its_item : option_map item_part_of (item_of f id) ≡ x.item
  its_item = sym (item_is names id f b (in_case id long) short) ∙ ap (option_and_then (λ (y : Site). y.item)) here

  pub item_stands : is_some x.item ≡ true → IsSome (item_of f id)
  item_stands some = sym (map_there item_part_of (item_of f id)) ∙ ap is_some its_item ∙ some

  pub item_bare : x.net ≡ None → net_of_item (item_of f id) ≡ None
  item_bare none =
      by_option (item_of f id) (λ (g : item_of f id ≡ None). ap net_of_item g)
      (λ (n : Node) (g : item_of f id ≡ Some n).
      let same = some_same (item_site names n) x (sym (item_shown names f b id long n g) ∙ here) in
      ap net_of_item g ∙ no_net names (out-Node n).net (ap (λ (y : Site). y.net) same ∙ none))

  abbrev rest : Option Part
  rest = item_or_run (item_of f id) (run_of f id)

  its_run : is_case_ident id ≡ false → x.item ≡ None → part_at f id ≡ option_map a_run (run_of f id)
  its_run below none =
      ap (λ (u : Bool). cond u (option_map a_case (case_at (case_number id) f.cases)) rest) below
      ∙ ap (λ (o : Option Node). item_or_run o (run_of f id)) (map_none item_part_of (item_of f id) (its_item ∙ none))

  pub run_stands : is_case_ident id ≡ false → x.item ≡ None → IsSome (run_of f id)
  run_stands below none =
      sym (map_there a_run (run_of f id)) ∙ sym (ap is_some (its_run below none)) ∙ sym (map_there (part_site names) (part_at f id))
      ∙ ap is_some (sym (find_is names f b id long (omega (arith, short))) ∙ here)

  pub run_bare : x.net ≡ None → net_of_run (run_of f id) ≡ None
  run_bare none =
      by_option (run_of f id) (λ (g : run_of f id ≡ None). ap net_of_run g)
      (λ (r : Run) (g : run_of f id ≡ Some r).
      let same = some_same (run_site names r) x (sym (run_shown names f b id long r g) ∙ here) in
      ap net_of_run g ∙ no_net names (out-Run r).net (ap (λ (y : Site). y.net) same ∙ none))

-- ---- a net that comes with it

updated_last : (m : Sites) (k : Ident) (v : Site) (g : Site → Site) → update (insert m k v) k g ≡ insert m k (g v)
updated_last m k v g = same_map by_name _ _ (λ q.
    by_test (eq_by_cmp lexical q k)
    (λ same.
    let e = tied by_name q k same in
    ap (get (update (insert m k v) k g)) e ∙ get-update_same by_name (insert m k v) k g ∙ ap (option_map g) (get-insert_same by_name m k v)
    ∙ sym (ap (get (insert m k (g v))) e ∙ get-insert_same by_name m k (g v)))
    (λ away.
    let other : q ≡ k → ⊥ = λ e. never (sym away ∙ ap (λ z. eq_by_cmp lexical z k) e ∙ tied_self by_name k) in
    get-update_other by_name (insert m k v) k g q other ∙ get-insert_other by_name m k v q other ∙ sym (get-insert_other by_name m k (g v) q other)))

with_net : (old mid new : Forest) (id : Ident) (site : (ℕ → List ℕ) → Site) (net : Option (Box NetState Global)) → Gets old mid id site
    → AttachesNet mid id net new → Gets old new id (λ names. with_bare names net (site names))
with_net old mid new id site None gets same = λ names. ap (sites_of names) same ∙ gets names
with_net old mid new id site (Some b) gets attached = λ names.
    attached names ∙ ap (λ (m : Sites). update m id (stands (net_part names b.value))) (gets names)
    ∙ updated_last (sites_of names old) id (site names) (stands (net_part names b.value))

pub grown_with : (old mid new : Forest) (id : Ident) (site : (ℕ → List ℕ) → Site) (net : Option (Box NetState Global)) → AllBefore old id
    → Gets old mid id site → AttachesNet mid id net new → IsForest new → Grows old id (λ names. with_bare names net (site names)) new
grown_with old mid new id site net before gets attached boxed =
    grown old new id (λ names. with_bare names net (site names)) before (with_net old mid new id site net gets attached) boxed

-- what came stands
pub came : (old mid : Forest) (id : Ident) (site : (ℕ → List ℕ) → Site) → Gets old mid id site → get (sites_of no_names mid) id ≡ Some (site no_names)
came old mid id site gets = ap (λ (m : Sites). get m id) (gets no_names) ∙ get-insert_same by_name (sites_of no_names old) id (site no_names)

-- ---- a run

module _ (f : Forest) (i : Ident) (free : is_free (part_at f i) ≡ true) where
  abbrev of_case : Option Part
  of_case = option_map a_case (case_at (case_number i) f.cases)

  abbrev of_rest : Option Part
  of_rest = item_or_run (item_of f i) (run_of f i)

  case_free : (o : Option Case) → is_free (option_map a_case o) ≡ true → (is_some o ≡ true) × (option_and_then (λ (c : Case). c.run) o ≡ None)
  case_free None e = never e
  case_free (Some c) e = (refl, none_there c.run e)

  item_free : (o : Option Node) (p : Option Run) → is_free (item_or_run o p) ≡ true
      → (is_some o ≡ true) × (option_and_then (λ (n : Node). (out-Node n).run) o ≡ None)
  item_free None None e = never e
  item_free None (Some r) e = never e
  item_free (Some n) p e = (refl, none_there (out-Node n).run e)

  pub target : TargetStands f i
  target =
      by_test (is_case_ident i)
      (λ (t : is_case_ident i ≡ true).
      ap (λ (u : Bool). cond u (is_some (case_at (case_number i) f.cases)) (is_some (item_of f i))) t
      ∙ (case_free (case_at (case_number i) f.cases) (sym (ap (λ (u : Bool). is_free (cond u of_case of_rest)) t) ∙ free)).0)
      (λ (t : is_case_ident i ≡ false).
      ap (λ (u : Bool). cond u (is_some (case_at (case_number i) f.cases)) (is_some (item_of f i))) t
      ∙ (item_free (item_of f i) (run_of f i) (sym (ap (λ (u : Bool). is_free (cond u of_case of_rest)) t) ∙ free)).0)

  pub idle : hung_at f i ≡ None
  idle =
      by_test (is_case_ident i)
      (λ (t : is_case_ident i ≡ true).
      ap (λ (u : Bool). cond u (option_and_then (λ (c : Case). c.run) (case_at (case_number i) f.cases)) (option_and_then (λ (n : Node). (out-Node n).run) (item_of f i))) t
      ∙ (case_free (case_at (case_number i) f.cases) (sym (ap (λ (u : Bool). is_free (cond u of_case of_rest)) t) ∙ free)).1)
      (λ (t : is_case_ident i ≡ false).
      ap (λ (u : Bool). cond u (option_and_then (λ (c : Case). c.run) (case_at (case_number i) f.cases)) (option_and_then (λ (n : Node). (out-Node n).run) (item_of f i))) t
      ∙ (item_free (item_of f i) (run_of f i) (sym (ap (λ (u : Bool). is_free (cond u of_case of_rest)) t) ∙ free)).1)

-- nothing stands where all that stands comes before
vacant : (f : Forest) (id : Ident) → IsForest f → is_identity id ≡ true → AllBefore f id → part_at f id ≡ None
vacant f id b is before =
    by_option (part_at f id) (λ none. none)
    (λ (p : Part) (e : part_at f id ≡ Some p).
    let size = identity_size id is in
    absurd (not_before_itself id (before no_names id (sym (found_in_map f b id size.0 no_names (omega (arith, size.1))) ∙ ap is_some e))))

pub run_may_come : (f : Forest) (above : Ident) (r : Run) (o : Option Ident) → IsForest f → AllBefore f (out-Run r).id → (out-Run r).net ≡ None
    → is_identity (out-Run r).id ≡ true → SomeIff o (is_identity (parent (out-Run r).id) ≡ true) (parent (out-Run r).id) → o ≡ Some above
    → is_free (part_at f above) ≡ true → RunMayCome f above r
run_may_come f above r None b before without_net is s e free = nowhere e
run_may_come f above r (Some x) b before without_net is s e free =
    let id = (out-Run r).id in
    let same : above ≡ parent id = sym (some_same x above e) ∙ s.1 in
    record {
      target = target f above free;
      idle = idle f above free;
      child = subst (λ (i : Ident). is_child id i ≡ true) (sym same) (is_child_of id (parent id) (parent_child id (identity_size id is).0));
      vacant = vacant f id b is before;
      without_net = without_net;
    }

-- an identity with another above it is no case's
pub below_another : (id above : Ident) (o : Option Ident) → SomeIff o (is_identity (parent id) ≡ true) (parent id) → o ≡ Some above
    → is_case_ident id ≡ false
below_another id above None s e = nowhere e
below_another id above (Some x) s e =
    by_test (is_case_ident id)
    (λ (t : is_case_ident id ≡ true).
    let one : length id ≡ 1 = eqb-true (length id) 1 t in
    absurd (omega (arith, one, parent_length id, (identity_size (parent id) s.0).0)))
    (λ (t : is_case_ident id ≡ false). t)
