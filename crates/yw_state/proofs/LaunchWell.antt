-- What is well stays well when a case is launched.
use Rattle.std.specs.Prelude.{◌≡◌, ◌≤◌, ◌<◌, ◌+◌, ◌==◌, ◌&&◌, ◌||◌, ℕ, true, false, List, [], ◌∷◌, length, replicate, Some, is_some, option_map, option_and_then, slice_get, nat_le, nat_lt, refl}
use Rattle.std.proofs.Common.{sym, ◌∙◌, ap, subst, arith}
use Rattle.std.proofs.lemmas.Bool.{and_from, and_parts, eq-eqb, eqb-true, le-ltb, leb-true, lt-ltb}
use Rattle.std.proofs.lemmas.List.{length-replicate, length-set}
use Rattle.std.proofs.lemmas.List.Elements.{All-replicate, All-set}
use Rattle.yw_base.specs.Values.{may_hold}
use Rattle.yw_base.specs.Identity.{number_end}
use Rattle.yw_spec.specs.declared.spec.Net.{Net}
use Rattle.yw_spec.specs.declared.spec.Spec.{Spec}
use Rattle.yw_spec.specs.declared.spec.Var.{Var}
use Rattle.yw_state.proofs.Alike.{net_in}
use Rattle.yw_state.proofs.FreshWell.{CaseMayCome, DueAsComes, MayCome, come_is_well}
use Rattle.yw_state.proofs.MapLemmas.{by_option, never, nowhere, some_same}
use Rattle.yw_state.specs.After.{begin_case, case_checks, launch, new_case, new_net, where_some}
use Rattle.yw_state.specs.Allowed.{Allowed, allows, is_next, launch_fits, most_tokens}
use Rattle.yw_state.specs.Events.{after}
use Rattle.yw_state.specs.Identity.{case_ident}
use Rattle.yw_state.specs.Map.{get}
use Rattle.yw_base.specs.Usages.{comes_in}
use Rattle.yw_state.specs.Nets.{top_net}
use Rattle.yw_state.specs.Options.{is_some_and}
use Rattle.yw_state.specs.State.{State, Site, NetPart, spec_called, top_called}
use Rattle.yw_state.specs.Texts.{Reader, Said}
use Rattle.yw_state.specs.Values.{Row, same_value}
use Rattle.yw_state.specs.Well.{IsWell, NetFits, vals_fit}
use Rattle.yw_state.specs.Words.{has_check}
use Rattle.yw_state.specs.declared.event.Event.TheVariants as events
use Rattle.yw_state.specs.declared.tree.TreeKind.{TreeKind}
use Rattle.yw_state.specs.declared.tree.TreeKind.TheVariants.{Pre, Post, Select}

launch_vals_fit : (xs : List Var) (vs : Row) → launch_fits xs vs ≡ true → vals_fit xs vs ≡ true
launch_vals_fit [] [] e = refl
launch_vals_fit [] (v ∷ vs) e = never e
launch_vals_fit (x ∷ xs) [] e = never e
launch_vals_fit (x ∷ xs) (v ∷ vs) e =
    let parts = and_parts (may_hold x.sort v && (comes_in x.usage || same_value v x.init)) (launch_fits xs vs) e in
    and_from _ _ (and_parts (may_hold x.sort v) (comes_in x.usage || same_value v x.init) parts.0).0 (launch_vals_fit xs vs parts.1)

module _ (reader : Reader) (s : State) (n : ℕ) (name : List ℕ) (vals : Row) (well : IsWell reader s) (next : is_next s n ≡ true) where
  is_counter : n ≡ s.next
  is_counter = eqb-true n s.next (and_parts (n == s.next) (nat_le (n + 1) number_end) next).0

  room : n + 1 ≤ number_end
  room = leb-true (n + 1) number_end (and_parts (n == s.next) (nat_le (n + 1) number_end) next).1

  not_over : is_some (get s.ended n) ≡ false
  not_over =
      by_option (get s.ended n)
      (λ none. ap is_some none)
      (λ way some. absurd (let below : n < s.next = well.numbers.ended_drawn n way some in omega (arith, is_counter)))

  module _ (spec : Spec) (net : Net) (called : spec_called s name ≡ Some spec) (top : top_called s name ≡ Some net) (fits : launch_fits net.vars vals ≡ true) where
    abbrev begun : NetPart
    begun = new_net name spec.top net vals

    abbrev site : Site
    site = new_case name spec net vals (case_checks s name)

    is_its_top : slice_get spec.nets spec.top ≡ Some net
    is_its_top = ap (option_and_then top_net) (sym called) ∙ top

    begun_fits : NetFits (record { part = begun; net = net })
    begun_fits =
        record {
          vals = launch_vals_fit net.vars vals fits;
          places = length-set (replicate (length net.places) 0) net.input 1 ∙ length-replicate (length net.places) 0;
          counts = All-set (λ k. k ≤ most_tokens) (replicate (length net.places) 0) net.input 1 (omega arith) (All-replicate (λ k. k ≤ most_tokens) (length net.places) 0 (omega arith));
        }

    case_may_come : CaseMayCome s (case_ident n) begun
    case_may_come =
        record {
          is_case = refl;
          top = ap (λ o. is_some_and o (λ (other : Spec). spec.top == other.top)) called ∙ eq-eqb spec.top spec.top refl;
          found = record { part = begun; net = net };
          of_spec = ap (net_in begun) called ∙ ap (λ o. option_map (λ other. record { part = begun; net = other }) o) is_its_top;
          fits = begun_fits;
        }

    due_there : (kind : TreeKind) → has_check (case_checks s name) kind ≡ true → DueAsComes s site kind
    due_there Pre e = record { net = begun; here = refl; rule = e; other = refl }
    due_there Post e = never e
    due_there Select e = never e
    due_there kind e = never e

    may_come : MayCome s (case_ident n) site (n + 1)
    may_come =
        record {
          undrawn = ap (λ b. b && true) (le-ltb n s.next (omega (arith, is_counter)));
          later = omega (arith, is_counter);
          most = room;
          identity = and_from (nat_lt 0 n && nat_lt n number_end) true (and_from _ _ (lt-ltb 0 n (omega (arith, is_counter, well.numbers.least))) (lt-ltb n number_end (omega (arith, room)))) refl;
          drawn = ap (λ b. b && true) (lt-ltb n (n + 1) (omega arith));
          over = not_over;
          no_item = refl;
          not_suspended = refl;
          due = due_there;
          something = refl;
          net = λ other e. subst (CaseMayCome s (case_ident n)) (some_same begun other e) case_may_come;
          run = λ r e. nowhere e;
          not_both = λ other e. refl;
        }

    begun_is_well : IsWell reader (begin_case s n name vals spec net)
    begun_is_well = come_is_well reader s (case_ident n) site (n + 1) may_come well

  launched_is_well : is_some_and (top_called s name) (λ (net : Net). launch_fits net.vars vals) ≡ true → IsWell reader (launch s n name vals)
  launched_is_well fits =
      by_option (spec_called s name)
      (λ none. subst (λ o. IsWell reader (where_some o s begins)) (sym none) well)
      (λ spec called. subst (λ o. IsWell reader (where_some o s begins)) (sym called)
      (by_option (top_called s name)
      (λ none. subst (λ o. IsWell reader (where_some o s (begin_case s n name vals spec))) (sym none) well)
      (λ net top. subst (λ o. IsWell reader (where_some o s (begin_case s n name vals spec))) (sym top)
      (begun_is_well spec net called top (ap (λ o. is_some_and o (λ (other : Net). launch_fits other.vars vals)) (sym top) ∙ fits)))))
    where
      begins : Spec → State
      begins spec = where_some (top_called s name) s (begin_case s n name vals spec)

pub launch_keeps_well : (reader : Reader) (s : State) (n : ℕ) (name : List ℕ) (vals : Row) (said : Said) → IsWell reader s → Allowed s (events.Launch n name vals) said → IsWell reader (after s (events.Launch n name vals) said)
unfolding allows after
launch_keeps_well reader s n name vals said well allowed =
    let parts = and_parts (is_next s n) (is_some_and (top_called s name) (λ (net : Net). launch_fits net.vars vals)) allowed.0 in
    launched_is_well reader s n name vals well parts.0 parts.1
