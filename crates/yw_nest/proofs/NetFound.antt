-- The net that a state has at an identity is the one that the forest has there.
use Rattle.std.proofs.Common.{Bool, List, None, Option, Some, ap, arith, cond, false, length, refl, sym, true, ℕ, ◌∙◌, ◌≡◌, ◌≤◌}
use Rattle.std.specs.Prelude.{Box, is_some, option_and_then, option_map}
use Rattle.std.specs.declared.alloc.Global.{Global}
use Rattle.yw_base.specs.Identity.{is_identity, case_number}
use Rattle.yw_nest.proofs.Known.{part_known}
use Rattle.yw_state.proofs.Tests.{by_option, by_test, map_some, nowhere, some_same}
use Rattle.yw_state.specs.Identity.{Ident, is_case_ident}
use Rattle.yw_state.specs.Map.{get}
use Rattle.yw_state.specs.State.{ItemPart, NetPart, Site, State, item_part, net_part}
use Rattle.yw_tree.proofs.AbsentLaw.{item_is}
use Rattle.yw_tree.proofs.Attached.{no_net}
use Rattle.yw_tree.proofs.FindLaw.{find_is}
use Rattle.yw_tree.proofs.ForestLaw.{identity_in_case}
use Rattle.yw_tree.proofs.Parents.{identity_short}
use Rattle.yw_base.proofs.Parents.{identity_long}
use Rattle.yw_tree.specs.Cases.{case_at}
use Rattle.yw_tree.specs.Entries.{item_part_of, net_part as its_part, net_part_of}
use Rattle.yw_tree.specs.Forest.{IsForest, item_of, sites_of, top_of}
use Rattle.yw_tree.specs.Places.{net_at as net_found, net_of_run, run_of}
use Rattle.yw_tree.specs.Spots.{Part, a_case, item_or_run, part_at, part_site}
use Rattle.yw_tree.specs.Ways.{net_in, net_of_item}
use Rattle.yw_tree.specs.declared.Case.{Case}
use Rattle.yw_tree.specs.declared.Forest.{Forest}
use Rattle.yw_tree.specs.declared.NetState.{NetState}
use Rattle.yw_tree.specs.declared.Node.{Node, out-Node}
use Rattle.yw_tree.specs.declared.Run.{Run, out-Run}

module _ (names : ℕ → List ℕ) where
  -- the net of what stands there
  abbrev read_net : Option Part → Option NetPart
  read_net o = option_and_then (λ (x : Site). x.net) (option_map (part_site names) o)

  no_part : (o : Option (Box NetState Global)) → net_in o ≡ None → net_part_of names o ≡ None
  no_part o e = ap (net_part_of names) (no_net o e)

  case_without : (o : Option Case) → option_map (λ (c : Case). c.net) o ≡ None → read_net (option_map a_case o) ≡ None
  case_without None e = refl
  case_without (Some c) e = nowhere (sym e)

  rest_without : (o : Option Node) (r : Option Run) → cond (is_some o) (net_of_item o) (net_of_run r) ≡ None → read_net (item_or_run o r) ≡ None
  rest_without (Some n) r e = no_part (out-Node n).net e
  rest_without None (Some r) e = no_part (out-Run r).net e
  rest_without None None e = refl

  module _ (f : Forest) (b : IsForest f) (i : Ident) (identity : is_identity i ≡ true) where
    abbrev rest : Option NetState
    rest = cond (is_some (item_of f i)) (net_of_item (item_of f i)) (net_of_run (run_of f i))

    abbrev rest_part : Option Part
    rest_part = item_or_run (item_of f i) (run_of f i)

    abbrev case_part : Option Part
    case_part = option_map a_case (case_at (case_number i) f.cases)

    part_without : net_found f i ≡ None → read_net (part_at f i) ≡ None
    part_without e =
        by_test (is_case_ident i)
        (λ (t : is_case_ident i ≡ true).
        ap (λ (z : Bool). read_net (cond z case_part rest_part)) t ∙ case_without (case_at (case_number i) f.cases) (sym (ap (λ (z : Bool). cond z (top_of f (case_number i)) rest) t) ∙ e))
        (λ (t : is_case_ident i ≡ false).
        ap (λ (z : Bool). read_net (cond z case_part rest_part)) t ∙ rest_without (item_of f i) (run_of f i) (sym (ap (λ (z : Bool). cond z (top_of f (case_number i)) rest) t) ∙ e))

    module _ (s : State) (is : s.sites ≡ sites_of names f) where
      none_known : net_found f i ≡ None → net_part s i ≡ None
      none_known e =
          let fits : length i ≤ 41 = (let l = identity_short i identity in omega arith) in
          ap (λ m. option_and_then (λ (x : Site). x.net) (get m i)) is ∙ ap (option_and_then (λ (x : Site). x.net)) (find_is names f b i (identity_long i identity) fits) ∙ part_without e

      pub net_there : (p : NetPart) → net_part s i ≡ Some p → (u : NetState) × (net_found f i ≡ Some u) × (its_part names u ≡ p)
      net_there p e =
          by_option (net_found f i)
          (λ none. nowhere (sym (none_known none) ∙ e))
          (λ u some. (u, some, some_same (its_part names u) p (sym (part_known names f b s is i (identity_long i identity) u some) ∙ e)))

      pub item_there : (p : ItemPart) → item_part s i ≡ Some p → (n : Node) × (item_of f i ≡ Some n) × (item_part_of n ≡ p)
      item_there p e =
          map_some item_part_of (item_of f i) p
          (sym (item_is names i f b (identity_in_case i identity) (identity_short i identity)) ∙ sym (ap (λ m. option_and_then (λ (x : Site). x.item) (get m i)) is) ∙ e)
