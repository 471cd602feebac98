-- What stands is changed, and nothing else: persons, specifications and rules are as their texts say, as before.
use Rattle.std.specs.Ordering.{nat_cmp}
use Rattle.std.specs.Prelude.{◌≡◌, ◌≤◌, ℕ, List, Some, IsSome, IsTrue, length, slice_get}
use Rattle.yw_spec.specs.declared.task.Task.{Task}
use Rattle.yw_state.specs.Identity.{Ident, is_case_ident}
use Rattle.yw_base.specs.Identity.{parent}
use Rattle.yw_state.specs.Map.{Map}
use Rattle.yw_state.specs.NewRule.{are_fit, most_primitives}
use Rattle.yw_state.specs.RuleTree.{TreeRule}
use Rattle.yw_state.specs.State.{State, Sites, ItemAt, NetAt, NetPart, RunPart, item_at, items_of, net_at, net_part, run_part}
use Rattle.yw_state.specs.Texts.{Reader}
use Rattle.yw_state.specs.Well.{ContentFits, ItemFits, NetFits, RulesFit, item_limit}
use Rattle.yw_state.specs.declared.part.Way.{Way}

-- What stands is of loaded specifications, and within its bounds.
pub record StandsFit (s : State) : Type 0 where
  pub of_spec : (j : Ident) (n : NetPart) → net_part s j ≡ Some n → IsSome (net_at s j)
  pub net : (j : Ident) (n : NetAt) → net_at s j ≡ Some n → NetFits n
  pub item : (j : Ident) (x : ItemAt) → item_at s j ≡ Some x → ItemFits x
  pub count : (i : Ident) (n : NetAt) (k : ℕ) (t : Task) → net_at s i ≡ Some n → slice_get n.net.tasks k ≡ Some t → length (items_of s i k) ≤ item_limit t.many
  pub run_length : (j : Ident) (r : RunPart) → run_part s j ≡ Some r → length r.rest ≤ most_primitives
  pub run_fit : (j : Ident) (r : RunPart) → run_part s j ≡ Some r → IsTrue (are_fit s (is_case_ident (parent j)) r.rest)

module _ (reader : Reader) (s : State) (sites : Sites) (next : ℕ) (ended : Map nat_cmp Way) where
  abbrev t : State
  t = record s { sites = sites; next = next; ended = ended }

  same_rules : (key : List (List ℕ)) (rs : List TreeRule) → RulesFit reader s key rs → RulesFit reader t key rs
  same_rules key rs fit =
      record {
        place = fit.place;
        spec = fit.spec;
        here = fit.here;
        of_spec = fit.of_spec;
        is_place = fit.is_place;
        some = fit.some;
        most = fit.most;
        free = fit.free;
        conclude = fit.conclude;
        spelt = fit.spelt;
      }

  -- so all is as its texts say and within its bounds, where what stands is
  pub content_stays : ContentFits reader s → StandsFit t → ContentFits reader t
  content_stays content stands =
      record {
        spec_text = content.spec_text;
        spec_name = content.spec_name;
        person = content.person;
        of_spec = stands.of_spec;
        net = stands.net;
        item = stands.item;
        count = stands.count;
        run_length = stands.run_length;
        run_fit = stands.run_fit;
        rules = λ key rs e. same_rules key rs (content.rules key rs e);
      }
