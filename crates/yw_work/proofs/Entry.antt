-- What is open behind the events of an entry.
use Rattle.std.specs.Prelude.{◌≡◌, ℕ, false, List, [], ◌∷◌, Some, None, Contains, refl}
use Rattle.std.specs.List.{list_any}
use Rattle.std.proofs.Common.{arith, sym, ◌∙◌, ap, subst}
use Rattle.std.proofs.lemmas.Bool.{or_parts}
use Rattle.yw_state.proofs.Standing.{Standing, at_item, at_task}
use Rattle.yw_state.proofs.Tests.{by_option, by_test, nowhere}
use Rattle.yw_state.specs.Events.{LeadAll, Leads, after}
use Rattle.yw_state.specs.Identity.{Ident, same}
use Rattle.yw_state.specs.Map.{get}
use Rattle.yw_state.specs.State.{Site, State}
use Rattle.yw_state.specs.Texts.{Reader}
use Rattle.yw_state.specs.Well.{IsWell, Stands}
use Rattle.yw_state.specs.declared.answer.What.{What}
use Rattle.yw_state.specs.declared.answer.What.TheVariants.{Enter, Start, Complete}
use Rattle.yw_state.specs.declared.event.Event.{Event}
use Rattle.yw_idle.specs.Warms.{is_rule, warms}
use Rattle.yw_work.proofs.Follows.{stays_open}
use Rattle.yw_work.specs.Listed.{IsNoted, IsOpenList, Works, has_rule_event, is_warm}
use Rattle.yw_work.specs.Open.{IsOpen, StaysOpen}
use Rattle.yw_work.specs.declared.open.By.{By}
use Rattle.yw_work.specs.declared.open.Open.{Open}

-- ---- nothing is open where nothing stands

pub open_stands : (s : State) (j : Ident) (name : List ℕ) (what : What) (by : By) → IsOpen s j name what by → Standing s j
open_stands s j name Enter by o = at_task s j name o.of_task o.here
open_stands s j name Start by o = at_item s j o.item o.here
open_stands s j name Complete by o = at_item s j o.item o.here

nothing_open : (s : State) (j : Ident) → get s.sites j ≡ None → (name : List ℕ) (what : What) (by : By) → IsOpen s j name what by → ⊥
nothing_open s j none name what by o = nowhere (sym none ∙ (open_stands s j name what by o).1)

-- ---- events in their turn

then_open : (s t u : State) (j : Ident) → StaysOpen s t j → StaysOpen t u j → StaysOpen s u j
then_open s t u j a b = record {
  stood = a.stood;
  open_same =
      λ name what by. (λ o. (b.open_same name what by).0 ((a.open_same name what by).0 o), λ o. (a.open_same name what by).1 ((b.open_same name what by).1 o));
  suspended = b.suspended ∙ a.suspended;
  run = b.run ∙ a.run;
}

module _ (reader : Reader) (keeps : (s : State) (e : Event) (t : State) → IsWell reader s → Leads reader s e t → IsWell reader t) (j : Ident) where
  pub entry_follows : (es : List Event) (s t : State) (x : Site) → IsWell reader s → LeadAll reader s es t → has_rule_event es ≡ false → Stands t j x
      → is_warm es j ≡ false → StaysOpen s t j
  entry_follows [] s t x well leads none_adds stands cold =
      subst (λ (u : State). StaysOpen s u j) (sym leads) (record {
        stood = (x, ap (λ (u : State). get u.sites j) (sym leads) ∙ stands);
        open_same = λ name what by. (λ o. o, λ o. o);
        suspended = refl;
        run = refl;
      })
  entry_follows (e ∷ es) s t x well leads none_adds stands cold =
      let (mid, first, rest) = leads in
      let cool = or_parts (list_any (same j) (warms e)) (is_warm es j) cold in
      let plain = or_parts (is_rule e) (has_rule_event es) none_adds in
      let behind = entry_follows es mid t x (keeps s e mid well first) rest plain.1 stands cool.1 in
      let there : Stands (after s e first.said) j behind.stood.0 = ap (λ (u : State). get u.sites j) (sym first.then) ∙ behind.stood.1 in
      let at_first = stays_open s e first.said j behind.stood.0 well first.allowed plain.0 there cool.0 in
      then_open s mid t j (subst (λ (u : State). StaysOpen s u j) (sym first.then) at_first) behind

  pub listed_follows : (es : List Event) (s t : State) (old new : Works) → IsWell reader s → LeadAll reader s es t → has_rule_event es ≡ false
      → IsOpenList s j (old j) → IsNoted es t old new → IsOpenList t j (new j)
  listed_follows es s t old new well leads none_adds was noted = by_option (get t.sites j)
      (λ none. subst (λ (opens : List Open). IsOpenList t j opens) (sym (noted.gone j none))
      (λ o. (λ has. absurd (none_in o has), λ is. absurd (nothing_open t j none o.task o.what o.by is))))
      (λ x stands. by_test (is_warm es j)
      (λ warm. noted.anew j x stands warm)
      (λ cold.
      let stays = entry_follows es s t x well leads none_adds stands cold in
      subst (λ (opens : List Open). IsOpenList t j opens) (sym (noted.kept j x stands cold))
      (λ o. (λ has. (stays.open_same o.task o.what o.by).0 ((was o).0 has), λ is. (was o).1 ((stays.open_same o.task o.what o.by).1 is)))))
    where
      none_in : (o : Open) → Contains [] o → ⊥
      none_in o (k, lt, e) = omega (arith, lt)
