-- What is shown of the item and of the net at an identity.
use Rattle.std.proofs.Common.{◌≡◌, ◌∙◌, false, [], ◌∷◌, Option, Some, None, map, ap, refl, sym}
use Rattle.std.specs.List.{cons_option, filter_map, zip}
use Rattle.std.specs.Prelude.{is_some, option_and_then, option_map}
use Rattle.yw_base.specs.Identity.{parent}
use Rattle.yw_known.specs.Here.{IsNetHere, as_net_at}
use Rattle.yw_known.specs.declared.here.NetHere.{NetHere}
use Rattle.yw_library.specs.Held.{IsHeld}
use Rattle.yw_library.specs.Holdings.{Holdings}
use Rattle.yw_shown.proofs.Elements.{found_in}
use Rattle.yw_shown.specs.Rows.{named_value}
use Rattle.yw_shown.specs.Shows.{AreTokensAt}
use Rattle.yw_shown.specs.Tokens.{IsCounted}
use Rattle.yw_spec.specs.declared.spec.Net.{Net}
use Rattle.yw_spec.specs.declared.spec.Spec.{Spec}
use Rattle.yw_state.proofs.MapLemmas.{never, nowhere}
use Rattle.yw_state.proofs.Tests.{map_some, then_some}
use Rattle.yw_state.specs.Answers.{item_row, net_row}
use Rattle.yw_state.specs.Identity.{Ident}
use Rattle.yw_state.specs.Map.{get}
use Rattle.yw_state.specs.State.{ItemAt, ItemPart, NetAt, NetPart, Site, State, is_item, item_at, item_part, net_at, net_of, net_part, spec_called, task_in}
use Rattle.yw_state.specs.declared.answer.ItemRow.{ItemRow}
use Rattle.yw_state.specs.declared.answer.NetRow.{NetRow}
use Rattle.yw_state.specs.declared.loaded.Loaded.{Loaded}
use Rattle.yw_tree.specs.declared.Forest.{Forest}
use Rattle.yw_tree.specs.declared.NetState.{out-NetState}

abbrev pub item_row_of : Ident → ItemAt → ItemRow
item_row_of j a = record { item = j; task = a.of_task.task.name; stage = a.part.stage; who = a.part.who }

abbrev pub net_row_of : Ident → NetAt → NetRow
net_row_of i n = record { net = i; spec = n.part.spec; name = n.net.name; values = map named_value (zip n.net.vars n.part.vals) }

no_part : (o : Option ItemPart) → is_some o ≡ false → o ≡ None
no_part None e = refl
no_part (Some p) e = never (sym e)

module _ (s : State) (j : Ident) (x : Site) where
  pub item_shown : (a : ItemAt) → item_at s j ≡ Some a → filter_map (item_row s) ((j, x) ∷ []) ≡ item_row_of j a ∷ []
  item_shown a e = ap (λ (o : Option ItemAt). cons_option (option_map (item_row_of j) o) []) e

  pub no_item_shown : is_item s j ≡ false → filter_map (item_row s) ((j, x) ∷ []) ≡ []
  no_item_shown none =
      let no : item_at s j ≡ None =
      ap (option_and_then (λ (p : ItemPart). option_and_then (λ n. option_map (λ t. record { part = p; of_task = t }) (task_in n p.task)) (net_at s (parent j)))) (no_part (item_part s j) none) in
      ap (λ (o : Option ItemAt). cons_option (option_map (item_row_of j) o) []) no

  pub net_shown : (n : NetAt) → net_at s j ≡ Some n → filter_map (net_row s) ((j, x) ∷ []) ≡ net_row_of j n ∷ []
  net_shown n e = ap (λ (o : Option NetAt). cons_option (option_map (net_row_of j) o) []) e

  pub no_net : net_part s j ≡ None → net_at s j ≡ None
  no_net none = ap (option_and_then (λ (p : NetPart). option_map (λ net. record { part = p; net = net }) (net_of s p))) none

  pub no_net_shown : net_part s j ≡ None → filter_map (net_row s) ((j, x) ∷ []) ≡ []
  no_net_shown none = ap (λ (o : Option NetAt). cons_option (option_map (net_row_of j) o) []) (no_net none)

  pub no_tokens : net_part s j ≡ None → AreTokensAt s j []
  no_tokens none = record {
    ordered = refl;
    exact = λ row. (
      (λ there. absurd (found_in [] row there)),
      (λ is. let token = is.1 in nowhere (sym (ap (net_at s) is.0 ∙ no_net none) ∙ token.here)),
    );
  }

-- the part of the net that stands there
part_at : (s : State) (j : Ident) (n : NetAt) → net_at s j ≡ Some n → net_part s j ≡ Some n.part
part_at s j n e =
    let (p, at, made) = then_some (λ (p : NetPart). option_map (λ net. record { part = p; net = net }) (net_of s p)) (net_part s j) n e in
    let (net, of, is) = map_some (λ (m : Net). record { part = p; net = m }) (net_of s p) n made in
    at ∙ ap (λ (m : NetAt). Some m.part) is

module _ (known : Holdings) (f : Forest) (s : State) (i : Ident) (h : NetHere) (held : IsHeld known f s) (is : IsNetHere known f s i h) where
  abbrev n : NetAt
  n = as_net_at known h

  -- the specification has the name under which the net says it is loaded
  pub spec_name_is : h.spec.now.name ≡ n.part.spec
  spec_name_is =
      let here : net_part s i ≡ Some n.part = part_at s i n is.at in
      let called : spec_called s n.part.spec ≡ Some h.spec.now = sym (ap (option_and_then (λ (p : NetPart). spec_called s p.spec)) here) ∙ is.of_state in
      let (l, loaded, spec) = map_some (λ (l : Loaded). l.spec) (get s.specs n.part.spec) h.spec.now called in
      ap (λ (z : Spec). z.name) (sym spec) ∙ held.well.content.spec_name n.part.spec l loaded

  pub counted : IsCounted s i h.net.now (out-NetState h.state.now).marks n
  counted = record {
    here = is.at;
    of_net = refl;
    tokens = refl;
    fits = held.well.content.net i n is.at;
    spec = h.spec.now;
    within = is.within;
  }
