-- Flows by their texts: no two share one that leave nodes with names.
use Rattle.std.proofs.Common.{◌≡◌, ℕ, zero, suc, ◌&&◌, ◌||◌, ◌++◌, List, [], ◌∷◌, map, Bool, true, not, All, refl, sym, ap, ◌∙◌, subst, arith}
use Rattle.std.specs.Prelude.{codes}
use Rattle.std.proofs.lemmas.Bool.{and_from, and_parts}
use Rattle.std.proofs.lemmas.Bool.Decides.{same_from_decides}
use Rattle.std.proofs.lemmas.List.{map-append}
use Rattle.std.proofs.lemmas.List.Elements.{All-push}
use Rattle.std.proofs.lemmas.Slice.Eq.{bytes_eq-Decides}
use Rattle.std.specs.BTreeSet.{contains_text}
use Rattle.std.specs.List.{list_any}
use Rattle.std.specs.Str.{bytes_eq}
use Rattle.yw_base.specs.Spelling.{is_name}
use Rattle.yw_read.specs.declared.raw.RawFlow.{RawFlow}
use Rattle.yw_read.specs.declared.raw.RawNet.{RawNet}
use Rattle.yw_accept.specs.Facts.{NetIsNamed}
use Rattle.yw_accept.specs.Names.{may_lead, is_same_flow}
use Rattle.yw_accept.specs.Nodes.{is_name_among, nodes, arrow}
use Rattle.yw_accept.proofs.Among.{usable_among}
use Rattle.yw_accept.proofs.FactsLemmas.{flow_ends}
use Rattle.yw_accept.proofs.Places.{around_arrow}
use Rattle.yw_check_names.specs.Flows.{NotesFlow}
use Rattle.yw_check_names.specs.Seen.{NameSet, Knows, Adds}
use Rattle.yw_check_names.proofs.SeenLemmas.{knows_more}

module _ (f g : RawFlow) (f_named : is_name f.from ≡ true) (g_named : is_name g.from ≡ true) where
  ends_same : arrow f ≡ arrow g → is_same_flow f g ≡ true
  ends_same e =
      let ends = around_arrow f.from f.to g.from g.to (and_parts _ _ f_named).1 (and_parts _ _ g_named).1 e in
      and_from (bytes_eq f.from g.from) (bytes_eq f.to g.to) ((bytes_eq-Decides f.from g.from).1 ends.0) ((bytes_eq-Decides f.to g.to).1 ends.1)

  arrow_same : is_same_flow f g ≡ true → arrow f ≡ arrow g
  arrow_same h =
      let ends = and_parts (bytes_eq f.from g.from) (bytes_eq f.to g.to) h in
      ap (λ a. a ++ codes "->" ++ f.to) ((bytes_eq-Decides f.from g.from).0 ends.0) ∙ ap (λ b. g.from ++ codes "->" ++ b) ((bytes_eq-Decides f.to g.to).0 ends.1)

  pub bytes_eq-arrow : bytes_eq (arrow f) (arrow g) ≡ is_same_flow f g
  bytes_eq-arrow = same_from_decides (bytes_eq (arrow f) (arrow g)) (is_same_flow f g) (bytes_eq-Decides (arrow f) (arrow g)) (arrow_same, ends_same)

pub among_arrows : (flow : RawFlow) (flows : List RawFlow) → is_name flow.from ≡ true → All (λ (f : RawFlow). is_name f.from ≡ true) flows → is_name_among (map arrow flows) (arrow flow) ≡ list_any (is_same_flow flow) flows
among_arrows flow [] named all = refl
among_arrows flow (f ∷ fs) named all =
    ap (λ b. b || is_name_among (map arrow fs) (arrow flow)) (bytes_eq-arrow flow f named (all zero f (omega arith)))
    ∙ ap (λ b. is_same_flow flow f || b) (among_arrows flow fs named (λ i d lt. all (suc i) d (omega (arith, lt))))

-- ---- a flow that may stand in a net leaves a node with a name

pub from_named : (net : RawNet) (flow : RawFlow) → NetIsNamed net → may_lead net flow ≡ true → is_name flow.from ≡ true
from_named net flow named leads = (and_parts _ _ (usable_among (nodes net) flow.from named.nodes_are.usable (flow_ends net flow leads).0)).0

-- ---- one flow more

pub notes_flow : (net : RawNet) (old new : NameSet) (flow : RawFlow) (text : List ℕ) (good : Bool) → NetIsNamed net → may_lead net flow ≡ true → text ≡ arrow flow → Adds old new text good → NotesFlow net old new flow good
notes_flow net old new flow text good named leads is adds = record {
  is_new = λ flows knows.
      adds.is_new
      ∙ ap (λ t. not (contains_text old t)) is
      ∙ ap not (knows.arrows.has (arrow flow) ∙ among_arrows flow flows (from_named net flow named leads) knows.named)
      ∙ ap (λ b. b && not (list_any (is_same_flow flow) flows)) (sym leads);
  knows = λ flows knows good.
      record {
        named = All-push (λ (f : RawFlow). is_name f.from ≡ true) flows flow knows.named (from_named net flow named leads);
        arrows =
            subst (Knows new) (ap (λ t. map arrow flows ++ t ∷ []) is ∙ sym (map-append arrow flows (flow ∷ []))) (knows_more old new text _ adds (map arrow flows) knows.arrows);
      };
}
