-- What allowed events lead to from the opening is well, where specifications are sound.
use Rattle.std.specs.Prelude.{List, [], ◌∷◌}
use Rattle.std.proofs.Common.{sym, ◌∙◌, subst, arith}
use Rattle.yw_invariant.proofs.EventsWell.{event_keeps_well}
use Rattle.yw_sound.specs.Sound.{ReadsSound}
use Rattle.yw_state.proofs.Alike.{nothing_due}
use Rattle.yw_state.proofs.MapLemmas.{never, nowhere}
use Rattle.yw_state.specs.Events.{LeadAll}
use Rattle.yw_state.specs.State.{State, opening}
use Rattle.yw_state.specs.Texts.{Reader}
use Rattle.yw_state.specs.Well.{IsWell}
use Rattle.yw_state.specs.declared.event.Event.{Event}

-- nothing stands there
pub opening_is_well : (reader : Reader) → IsWell reader opening
opening_is_well reader =
    record {
      numbers = record {
        least = omega arith;
        most = omega arith;
        identities = λ j x e. nowhere e;
        drawn = λ j x e. nowhere e;
        ended_some = λ n way e. nowhere e;
        ended_drawn = λ n way e. nowhere e;
        over = λ j x e. nowhere e;
      };
      nets = record {
        of_case = λ j n e. nowhere e;
        of_item = λ j n x e. nowhere e;
        of_run = λ j n r e. nowhere e;
        at_something = λ j n e. nowhere e;
        item_has = λ j x e. nowhere e;
        run_has = λ j r e. nowhere e;
      };
      parents = record {
        item_depth = λ j x e. nowhere e;
        item_of_net = λ j x e. nowhere e;
        run_depth = λ j r e. nowhere e;
        run_of_target = λ j r e. nowhere e;
        run_works = λ j r e. nowhere e;
        one_run = λ j k e. never e;
        not_both = λ j e. never e;
        something = λ j x e. nowhere e;
      };
      marks = record {
        suspended = λ j e. never e;
        due = λ j kind e. never (sym (nothing_due kind) ∙ e);
        due_has_rule = λ j kind e. never (sym (nothing_due kind) ∙ e);
        select = λ j e. never e;
      };
      content = record {
        spec_text = λ name l e. nowhere e;
        spec_name = λ name l e. nowhere e;
        person = λ name roles e. nowhere e;
        of_spec = λ j n e. nowhere e;
        net = λ j n e. nowhere e;
        item = λ j x e. nowhere e;
        count = λ i n k t e. nowhere e;
        run_length = λ j r e. nowhere e;
        run_fit = λ j r e. nowhere e;
        rules = λ key rs e. nowhere e;
      };
      depth = λ j n e. nowhere e;
    }

-- events that are allowed in their turn keep a state well
module _ (reader : Reader) (sound : ReadsSound reader) where
  pub events_keep_well : (es : List Event) (s t : State) → IsWell reader s → LeadAll reader s es t → IsWell reader t
  events_keep_well [] s t well same = subst (IsWell reader) (sym same) well
  events_keep_well (e ∷ es) s t well (mid, first, rest) = events_keep_well es mid t (event_keeps_well reader sound s well e mid first) rest

  pub reached_is_well : (es : List Event) (t : State) → LeadAll reader opening es t → IsWell reader t
  reached_is_well es t = events_keep_well es opening t (opening_is_well reader)
