-- No task of an accepted specification has a place twice from which flows lead to it. So what a certificate says of each state holds of all
-- accepted texts without a premise.
use Rattle.std.specs.Prelude.{◌≡◌, ◌||◌, ℕ, suc, true, false, not, List, [], ◌∷◌, ◌++◌, None, Result, Some, Ok, Err, IfOk, IsOk, nat_eq, option_map, slice_get, refl}
use Rattle.std.specs.List.{All, AllZip, list_any}
use Rattle.std.specs.Str.{bytes_eq}
use Rattle.std.proofs.Common.{sym, ◌∙◌, ap, subst, arith, append_assoc, append-nil}
use Rattle.std.proofs.lemmas.Bool.{and_from, and_parts, eqb-true, not-true, not_from_false}
use Rattle.std.proofs.lemmas.List.Elements.{All-head, All-tail, filter_passes}
use Rattle.std.proofs.lemmas.List.Folds.{list_any_at}
use Rattle.std.proofs.lemmas.List.Kept.{AllPairs-filter}
use Rattle.std.proofs.lemmas.List.Quantifiers.{all_pairs_push}
use Rattle.std.proofs.lemmas.Slice.Eq.{bytes_eq-Decides}
use Rattle.yw_accept.proofs.Places.{place_both, place_from}
use Rattle.yw_accept.specs.Built.{IsNet, IsPlaceOf, IsTask, flows_to, place_of, places_of}
use Rattle.yw_accept.specs.Names.{FlowFits, is_same_flow, may_lead}
use Rattle.yw_accept.specs.Nodes.{is_task}
use Rattle.yw_accept.specs.Order.{InTurn}
use Rattle.yw_accepted.proofs.Exits.{flow_turns, is_called}
use Rattle.yw_accepted.proofs.Found.{all_at, zip_at}
use Rattle.yw_accepted.proofs.Loaded.{accepted_are_sound}
use Rattle.yw_invariant.proofs.FromOpening.{reached_is_well}
use Rattle.yw_texts.proofs.ReadingOnce.{reads_one}
use Rattle.yw_texts.specs.Texts.{IsAccepted, reader}
use Rattle.yw_proper.proofs.Bounded.{certified_is_bounded}
use Rattle.yw_proper.specs.Load.{IsBounded, IsNetOfText, JoinsApart, TextStaysBounded}
use Rattle.yw_proper.specs.Proper.{IsProper, IsProved}
use Rattle.yw_proper.specs.declared.certificate.ProofFault.{ProofFault}
use Rattle.yw_read.specs.declared.raw.RawFlow.{RawFlow}
use Rattle.yw_read.specs.declared.raw.RawNet.{RawNet}
use Rattle.yw_said.proofs.Numbers.{Apart}
use Rattle.yw_sound.specs.Sound.{are_apart}
use Rattle.yw_spec.specs.declared.spec.Net.{Net}
use Rattle.yw_spec.specs.declared.spec.Place.{Place}
use Rattle.yw_spec.specs.declared.spec.Place.TheVariants.{Named, Between}
use Rattle.yw_spec.specs.declared.spec.Spec.{Spec}
use Rattle.yw_state.proofs.Tests.{by_test, never, some_same}
use Rattle.yw_state.specs.Events.{LeadAll}
use Rattle.yw_state.specs.Identity.{Ident}
use Rattle.yw_state.specs.Map.{get}
use Rattle.yw_state.specs.Nets.{is_among}
use Rattle.yw_state.specs.State.{State, opening}
use Rattle.yw_state.specs.declared.rule.Refusal.{Refusal}
use Rattle.yw_state.specs.declared.event.Event.{Event}
use Rattle.yw_state.specs.declared.loaded.Loaded.{Loaded}

-- where a flow to a task comes from is told by its place
abbrev source : Place → List ℕ
source (Named name) = name
source (Between from to) = from

module _ (net : RawNet) where
  is_itself : (flow : RawFlow) → is_same_flow flow flow ≡ true
  is_itself flow = and_from _ _ ((bytes_eq-Decides flow.from flow.from).1 refl) ((bytes_eq-Decides flow.to flow.to).1 refl)

  -- no flow comes twice
  flows_apart : (seen flows : List RawFlow) → Apart seen → InTurn (FlowFits net) seen flows None → Apart (seen ++ flows)
  flows_apart seen [] once turn = subst (λ (fs : List RawFlow). Apart fs) (sym (append-nil seen)) once
  flows_apart seen (flow ∷ flows) once turn =
      let unseen = not-true (list_any (is_same_flow flow) seen) (and_parts (may_lead net flow) (not (list_any (is_same_flow flow) seen)) turn.0).1 in
      let more : Apart (seen ++ flow ∷ []) = all_pairs_push (λ x y. x ≡ y → ⊥) seen flow once (λ k d lt e. never (sym unseen ∙ list_any_at (is_same_flow flow) seen k d lt (ap (is_same_flow flow) e ∙ is_itself flow))) in
      subst (λ (fs : List RawFlow). Apart fs) (append_assoc seen (flow ∷ []) flows) (flows_apart (seen ++ flow ∷ []) flows more turn.1)

  source_of : (flow : RawFlow) → is_task net flow.to ≡ true → source (place_of net flow) ≡ flow.from
  source_of flow task = by_test (is_task net flow.from) (λ e. ap source (place_both net flow e task)) (λ e. ap source (place_from net flow e))

  module _ (name : List ℕ) (task : is_task net name ≡ true) where
    abbrev IsTo : RawFlow → Type 0
    IsTo f = bytes_eq f.to name ≡ true

    one_flow : (f g : RawFlow) → IsTo f → IsTo g → place_of net f ≡ place_of net g → f ≡ g
    one_flow f g is also same =
        let here = (bytes_eq-Decides f.to name).0 is in
        let there = (bytes_eq-Decides g.to name).0 also in
        let to : f.to ≡ g.to = here ∙ sym there in
        let from : f.from ≡ g.from = sym (source_of f (ap (is_task net) here ∙ task)) ∙ ap source same ∙ source_of g (ap (is_task net) there ∙ task) in
        λ i. record { from = from i; to = to i }

    none_among : (f : RawFlow) (c : ℕ) → IsPlaceOf net f c → IsTo f → (fs : List RawFlow) (cs : List ℕ) → AllZip (IsPlaceOf net) fs cs → All IsTo fs → All (λ g. f ≡ g → ⊥) fs → is_among cs c ≡ false
    none_among f c at is [] [] zip to other = refl
    none_among f c at is [] (d ∷ cs) zip to other = absurd zip
    none_among f c at is (g ∷ fs) [] zip to other = absurd zip
    none_among f c at is (g ∷ fs) (d ∷ cs) zip to other =
        by_test (nat_eq c d)
        (λ same.
        absurd
        (All-head (λ g. f ≡ g → ⊥) g fs other
        (one_flow f g is (All-head IsTo g fs to) (some_same (place_of net f) (place_of net g) (sym at ∙ ap (slice_get (places_of net)) (eqb-true c d same) ∙ zip.0)))))
        (λ differ. ap (λ b. b || is_among cs c) differ ∙ none_among f c at is fs cs zip.1 (All-tail IsTo g fs to) (All-tail (λ g. f ≡ g → ⊥) g fs other))

    numbers_apart : (fs : List RawFlow) (cs : List ℕ) → AllZip (IsPlaceOf net) fs cs → All IsTo fs → Apart fs → are_apart cs ≡ true
    numbers_apart [] [] zip to once = refl
    numbers_apart [] (c ∷ cs) zip to once = absurd zip
    numbers_apart (f ∷ fs) [] zip to once = absurd zip
    numbers_apart (f ∷ fs) (c ∷ cs) zip to once =
        and_from _ _
        (not_from_false _ (none_among f c zip.0 (All-head IsTo f fs to) fs cs zip.1 (All-tail IsTo f fs to) (λ j d lt. once 0 (suc j) d (omega arith) (omega (arith, lt)))))
        (numbers_apart fs cs zip.1 (All-tail IsTo f fs to) (λ j k d lt within. once (suc j) (suc k) d (omega (arith, lt)) (omega (arith, within))))

    comes_apart : InTurn (FlowFits net) [] net.flows None → (cs : List ℕ) → AllZip (IsPlaceOf net) (flows_to net name) cs → are_apart cs ≡ true
    comes_apart turn cs zip =
        numbers_apart (flows_to net name) cs zip (filter_passes (λ (flow : RawFlow). bytes_eq flow.to name) net.flows)
        (AllPairs-filter (λ x y. x ≡ y → ⊥) (λ (flow : RawFlow). bytes_eq flow.to name) net.flows (flows_apart [] net.flows (λ i j d lt within e. absurd (omega (arith, within))) turn))

accepted_joins : (text : List ℕ) (spec : Spec) → IsAccepted text spec → (k : ℕ) (net : Net) → slice_get spec.nets k ≡ Some net → JoinsApart net
accepted_joins text spec a k net at i t tat =
    let (rn, rat, built) = zip_at (IsNet a.raw) a.raw.net spec.nets a.is_spec.nets k net at in
    let (rt, rtat, is) = zip_at (IsTask a.raw rn) rn.task net.tasks built.tasks i t tat in
    comes_apart rn rt.name (is_called rn rn.task i rt rtat) (all_at (λ (n : RawNet). InTurn (FlowFits n) [] n.flows None) a.raw.net (flow_turns a.raw a.accepted) k rn rat) t.before is.before

ok_same : (x y : Spec) → ◌≡◌ {A = Result Spec Refusal} (Ok x) (Ok y) → x ≡ y
ok_same x y e = cc

pub accepted_is_bounded : (text : List ℕ) (spec : Spec) → IsAccepted text spec → (k : ℕ) (net : Net) (w : List ℕ) → slice_get spec.nets k ≡ Some net → IsProper net w
    → (es : List Event) (s : State) → LeadAll reader opening es s → (i : Ident) → IsNetOfText s i text k → IsBounded net w s i
accepted_is_bounded text spec accepted k net w at proper es s leads i of =
    certified_is_bounded reader accepted_are_sound spec k net w at (accepted_joins text spec accepted k net at) proper es s leads i
    (record {
      part = of.part;
      stands = of.stands;
      called = ap (option_map (λ (l : Loaded). l.spec)) of.kept ∙ ap (λ x. Some x) (said_once (reached_is_well reader accepted_are_sound es s leads).content.spec_text);
      number = of.number;
    })
  where
    said_once : ((name : List ℕ) (l : Loaded) → get s.specs name ≡ Some l → reader.spec l.text (Ok l.spec)) → of.loaded.spec ≡ spec
    said_once says =
        let again = subst (λ (t : List ℕ). IsAccepted t of.loaded.spec) of.said (says of.part.spec of.loaded of.kept) in
        ok_same of.loaded.spec spec (reads_one.spec text (Ok of.loaded.spec) (Ok spec) again accepted)

-- with a yes for the net with this number, and for these weights
pub proved_is_bounded : (spec : Spec) (k : ℕ) (found net : Net) (given w : List ℕ) (r : Result ℕ ProofFault) → slice_get spec.nets k ≡ Some found → given ≡ w → IfOk r (IsProved found given)
    → slice_get spec.nets k ≡ Some net → IsOk r → (text : List ℕ) → IsAccepted text spec → TextStaysBounded text k net w
proved_is_bounded spec k found net given w (Ok bound) here same ok at is text accepted = λ es s leads i of.
    let proper = subst (λ v. IsProper net v) same (subst (λ (n : Net). IsProper n given) (some_same found net (sym here ∙ at)) ok.proper) in
    accepted_is_bounded text spec accepted k net w at proper es s leads i of
proved_is_bounded spec k found net given w (Err fault) here same ok at is text accepted = never is
