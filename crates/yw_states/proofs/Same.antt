-- The rows of a state that is well decide it, and so do its bytes.
use Rattle.std.proofs.Common.{◌≡◌, ℕ, List, [], length, inl, inr, sym, ap, ◌∙◌, arith}
use Rattle.yw_state.specs.State.{State}
use Rattle.yw_state.specs.Texts.{IsOne, Reader}
use Rattle.yw_state.specs.Well.{IsWell}
use Rattle.yw_states.proofs.Items.{same_dues, same_items, same_marks, same_runs}
use Rattle.yw_states.proofs.Stored.{same_ended, same_persons, same_rules, same_specs}
use Rattle.yw_states.proofs.Nets.{nets_are, parts_sorted, same_nets}
use Rattle.yw_states.proofs.SameSites.{SameParts, same_sites}
use Rattle.yw_states.specs.RowLaws.{rows_apart}
use Rattle.yw_states.specs.Rows.{is_rows, rows_bytes}
use Rattle.yw_states.specs.States.{AreBytes, IsState, ReadsNamed, net_of_site, parts, rows_of}
use Rattle.yw_states.specs.Wholes.{IsWhole, whole_once}
use Rattle.yw_states.specs.declared.rows.Rows.{Rows}

state_same : (s t : State) → s.specs ≡ t.specs → s.persons ≡ t.persons → s.rules ≡ t.rules → s.next ≡ t.next → s.sites ≡ t.sites → s.ended ≡ t.ended
    → s ≡ t
state_same s t specs persons rules next sites ended =
    λ i. record { specs = specs i; persons = persons i; rules = rules i; next = next i; sites = sites i; ended = ended i }

module _ (reader : Reader) (one : IsOne reader) (named : ReadsNamed reader) where
  parts_same : (s t : State) → s.specs ≡ t.specs → IsWell reader s → IsWell reader t → rows_of s ≡ rows_of t → SameParts s t
  parts_same s t specs left right rows =
      let nets = same_nets s t specs (parts net_of_site s.sites) (parts net_of_site t.sites) (parts_sorted net_of_site s) (parts_sorted net_of_site t)
      (nets_are reader named s left) (nets_are reader named t right) (ap (λ (r : Rows). r.nets) rows) (ap (λ (r : Rows). r.tokens) rows) in
      record {
        nets = nets;
        items = same_items reader named s t specs nets left right (ap (λ (r : Rows). r.items) rows);
        runs = same_runs s t (ap (λ (r : Rows). r.runs) rows);
        marks = same_marks s t (ap (λ (r : Rows). r.suspended) rows);
        dues = same_dues s t (ap (λ (r : Rows). r.due) rows);
      }

  pub same_states : (s t : State) → IsWell reader s → IsWell reader t → rows_of s ≡ rows_of t → s ≡ t
  same_states s t left right rows =
      let specs = same_specs reader one s t left right (ap (λ (r : Rows). r.texts) rows) in
      state_same s t specs
      (same_persons s t (ap (λ (r : Rows). r.persons) rows))
      (same_rules reader one s t specs left right (ap (λ (r : Rows). r.trees) rows))
      (ap (λ (r : Rows). r.next) rows)
      (same_sites s t left.parents right.parents (parts_same s t specs left right rows))
      (same_ended s t (ap (λ (r : Rows). r.ended) rows))

-- rows have bytes
rows_some : (rows : Rows) → ¬ (rows_bytes rows ≡ [])
rows_some rows e = omega (arith, ap length e)

no_bytes : (s : State) (bytes : List ℕ) → IsWhole is_rows rows_bytes bytes (rows_of s) → bytes ≡ [] → ⊥
no_bytes s bytes whole empty = rows_some (rows_of s) (sym whole.same ∙ empty)

module _ (reader : Reader) where
  pub same_by_bytes : IsOne reader → ReadsNamed reader → (s t : State) (bytes : List ℕ) → IsState reader s bytes → IsState reader t bytes → s ≡ t
  same_by_bytes one named s t bytes left right = by left.here right.here
    where
      by : AreBytes s bytes → AreBytes t bytes → s ≡ t
      by (inl a) (inl b) = a.0 ∙ sym b.0
      by (inl a) (inr b) = absurd (no_bytes t bytes b.1 a.1)
      by (inr a) (inl b) = absurd (no_bytes s bytes a.1 b.1)
      by (inr a) (inr b) = same_states reader one named s t left.well right.well
          (whole_once is_rows rows_bytes bytes rows_apart (rows_of s) (rows_of t) a.1 b.1)

  pub one_text : (s : State) (bytes other : List ℕ) → IsState reader s bytes → IsState reader s other → bytes ≡ other
  one_text s bytes other left right = by left.here right.here
    where
      by : AreBytes s bytes → AreBytes s other → bytes ≡ other
      by (inl a) (inl b) = a.1 ∙ sym b.1
      by (inl a) (inr b) = absurd (b.0 a.0)
      by (inr a) (inl b) = absurd (a.0 b.0)
      by (inr a) (inr b) = a.1.same ∙ sym b.1.same
