-- An event of one case changes nothing that is looked at in another. So what is still in other cases stays still.
use Rattle.std.specs.Prelude.{◌≡◌, ◌≢◌, ◌≤◌, ℕ, ◌==◌, ◌&&◌, ◌||◌, Bool, true, false, not, List, [], ◌∷◌, length, filter, Option, Some, None, is_some, option_and_then, option_map, unwrap_or, slice_get, refl, cond, if◌then◌else◌}
use Rattle.std.specs.List.{list_any, filter_map, cons_option}
use Rattle.std.proofs.Common.{sym, ◌∙◌, ap, arith}
use Rattle.std.proofs.lemmas.Bool.{eq-eqb, eqb-true, and_right, and_left}
use Rattle.yw_base.specs.Identity.{under, case_number, parent}
use Rattle.yw_spec.specs.declared.spec.Net.{Net}
use Rattle.yw_spec.specs.declared.spec.Spec.{Spec}
use Rattle.yw_state.proofs.Apart.{leaves_other_cases}
use Rattle.yw_state.proofs.Drawing.{next-rises}
use Rattle.yw_state.proofs.Elsewhere.{child_case, not_under}
use Rattle.yw_state.proofs.MapLemmas.{by_name, get-retain, same_list}
use Rattle.yw_state.proofs.Standing.{case_from_one, from_one}
use Rattle.yw_state.proofs.Tests.{by_test, never}
use Rattle.yw_state.specs.Allowed.{Allowed}
use Rattle.yw_state.specs.Apart.{SameElsewhere}
use Rattle.yw_state.specs.Automatic.{case_of}
use Rattle.yw_state.specs.Events.{after}
use Rattle.yw_state.specs.Identity.{Ident, is_child}
use Rattle.yw_state.specs.Judged.{place_key, task_place}
use Rattle.yw_state.specs.Map.{Map, entries, get, lexical, retain}
use Rattle.yw_state.specs.Nets.{is_atomic}
use Rattle.yw_state.specs.Options.{is_some_and}
use Rattle.yw_state.specs.State.{State, Site, ItemAt, ItemPart, NetAt, NetPart, TaskAt, if_of_task, is_suspended, item_at, item_of_task, item_part, items_of, net_at, net_part, no_checks, some_site, task_in}
use Rattle.yw_state.specs.Texts.{Said}
use Rattle.yw_state.specs.Well.{NumbersFit, ParentsStand, Stands}
use Rattle.yw_state.specs.Words.{any_due, busy, done, held, is_at_work, is_completed, shielded, urgent}
use Rattle.yw_state.specs.declared.event.Event.{Event}
use Rattle.yw_state.specs.declared.loaded.Loaded.{Loaded}
use Rattle.yw_state.specs.declared.tree.TreeKind.TheVariants.{Select}
use Rattle.yw_still.proofs.Looking.{any_alike, still_stays}
use Rattle.yw_still.specs.Looked.{LooksSame}
use Rattle.yw_still.specs.Still.{IsStill}

not_same : (a b : ℕ) → a ≢ b → (a == b) ≡ false
not_same a b other = by_test (a == b) (λ e. absurd (other (eqb-true a b e))) (λ e. e)

-- ---- entries that a test passes over

module _ (apart : Ident × Site → Bool) where
  -- as `filter` takes its first step
  abbrev first_kept : Ident × Site → List (Ident × Site) → Bool → List (Ident × Site)
  first_kept e es b = cond b (e ∷ filter apart es) (filter apart es)

  any_kept : (p : Ident × Site → Bool) → ((e : Ident × Site) → apart e ≡ false → p e ≡ false) → (es : List (Ident × Site)) → list_any p es ≡ list_any p (filter apart es)
  any_kept p none [] = refl
  any_kept p none (e ∷ es) =
      by_test (apart e)
      (λ keeps. ap (λ b. p e || b) (any_kept p none es) ∙ sym (ap (λ b. list_any p (first_kept e es b)) keeps))
      (λ skips. ap (λ b. b || list_any p es) (none e skips) ∙ any_kept p none es ∙ sym (ap (λ b. list_any p (first_kept e es b)) skips))

  pub mapped_kept : {B : Type 0} (h : Ident × Site → Option B) → ((e : Ident × Site) → apart e ≡ false → h e ≡ None) → (es : List (Ident × Site)) → filter_map h es ≡ filter_map h (filter apart es)
  mapped_kept h none [] = refl
  mapped_kept h none (e ∷ es) =
      by_test (apart e)
      (λ keeps. ap (cons_option (h e)) (mapped_kept h none es) ∙ sym (ap (λ b. filter_map h (first_kept e es b)) keeps))
      (λ skips. ap (λ o. cons_option o (filter_map h es)) (none e skips) ∙ mapped_kept h none es ∙ sym (ap (λ b. filter_map h (first_kept e es b)) skips))

-- as `net_at` and `item_at` have them
abbrev net_in : Map lexical Loaded → Option NetPart → Option NetAt
net_in specs part =
    option_and_then (λ (n : NetPart). option_map (λ (net : Net). record { part = n; net = net })
    (option_and_then (λ (spec : Spec). slice_get spec.nets n.net) (option_map (λ (l : Loaded). l.spec) (get specs n.spec)))) part

abbrev item_in : Option ItemPart → Option NetAt → Option ItemAt
item_in part net = option_and_then (λ (x : ItemPart). option_and_then (λ (n : NetAt). option_map (λ (u : TaskAt). record { part = x; of_task = u }) (task_in n x.task)) net) part

-- ---- all but case m is the same

module _ (m : ℕ) (some : m ≢ 0) (s t : State) (same : SameElsewhere m s t) where
  abbrev apart : Ident → Bool
  apart k = not (case_number k == m)

  in_case : (k : Ident) → apart k ≡ false → case_number k ≡ m
  in_case k e = eqb-true (case_number k) m (by_test (case_number k == m) (λ b. b) (λ b. never (sym e ∙ ap not b)))

  other : (k : Ident) → apart k ≡ true → case_number k ≢ m
  other k e is = never (sym (ap not (eq-eqb (case_number k) m is)) ∙ e)

  kept_same : filter (λ e. apart e.0) (entries t.sites) ≡ filter (λ e. apart e.0) (entries s.sites)
  kept_same = same_list by_name (retain t.sites apart) (retain s.sites apart) (λ q. get-retain by_name t.sites apart q ∙ either q ∙ sym (get-retain by_name s.sites apart q))
    where
      either : (q : Ident) → cond (apart q) (get t.sites q) None ≡ cond (apart q) (get s.sites q) None
      either q = by_test (apart q)
          (λ yes. ap (λ o. cond (apart q) o None) (same.sites q (other q yes)))
          (λ out. ap (λ b. cond b (get t.sites q) None) out ∙ sym (ap (λ b. cond b (get s.sites q) None) out))

  -- a test that nothing in the case passes
  site_same : (p : Ident → Site → Bool) → ((k : Ident) (x : Site) → case_number k ≡ m → p k x ≡ false) → some_site t p ≡ some_site s p
  site_same p none =
      any_kept (λ e. apart e.0) (λ e. p e.0 e.1) (λ e out. none e.0 e.1 (in_case e.0 out)) (entries t.sites)
      ∙ ap (list_any (λ e. p e.0 e.1)) kept_same
      ∙ sym (any_kept (λ e. apart e.0) (λ e. p e.0 e.1) (λ e out. none e.0 e.1 (in_case e.0 out)) (entries s.sites))

  -- ---- words on one identity

  module _ (j : Ident) (there : case_number j ≢ 0) (out : case_number j ≢ m) where
    not_child : (k : Ident) → case_number k ≡ m → is_child k j ≡ false
    not_child k here = by_test (is_child k j) (λ e. absurd (out (sym (child_case (case_number j) k j there refl e) ∙ here))) (λ e. e)

    not_above : (k : Ident) → case_number k ≡ m → under j k ≡ false
    not_above k here = not_under m j k some here out

    pub busy_same : busy t j ≡ busy s j
    busy_same = site_same (λ r x. is_some x.run && is_child r j) (λ k x here. and_right (is_some x.run) (is_child k j) (not_child k here))

    shielded_same : (i : Ident) → shielded t j i ≡ shielded s j i
    shielded_same i = site_same _ (λ k x here. and_right _ (under j k) (not_above k here))

    pub held_same : held t j ≡ held s j
    held_same =
        any_alike (λ e. e.1.suspended && under j e.0 && not (shielded t j e.0)) (λ e. e.1.suspended && under j e.0 && not (shielded s j e.0))
        (λ e. ap (λ b. e.1.suspended && under j e.0 && not b) (shielded_same e.0)) (entries t.sites)
        ∙ site_same (λ i x. x.suspended && under j i && not (shielded s j i)) (λ k x here. and_left (x.suspended && under j k) (not (shielded s j k)) (and_right x.suspended (under j k) (not_above k here)))

    suspended_same : is_suspended t j ≡ is_suspended s j
    suspended_same = ap (λ o. is_some_and o (λ (x : Site). x.suspended)) (same.sites j out)

  urgent_same : (n : ℕ) → n ≢ 0 → n ≢ m → urgent t n ≡ urgent s n
  urgent_same n there out =
      any_alike (λ e. hurries t e.0 e.1) (λ e. hurries s e.0 e.1) (λ e. either e.0 e.1) (entries t.sites)
      ∙ site_same (hurries s) (λ k x here. ap (λ b. b && (any_due x.due && not (busy s k) || is_at_work x.run)) (not_same (case_number k) n (λ e. out (sym e ∙ here))))
    where
      hurries : State → Ident → Site → Bool
      hurries u k x = case_number k == n && (any_due x.due && not (busy u k) || is_at_work x.run)

      either : (k : Ident) (x : Site) → hurries t k x ≡ hurries s k x
      either k x =
          by_test (case_number k == n)
          (λ here.
          let at = eqb-true (case_number k) n here in
          ap (λ b. case_number k == n && (any_due x.due && not b || is_at_work x.run)) (busy_same k (λ e. there (sym at ∙ e)) (λ e. out (sym at ∙ e))))
          (λ els. ap (λ b. b && (any_due x.due && not (busy t k) || is_at_work x.run)) els ∙ sym (ap (λ b. b && (any_due x.due && not (busy s k) || is_at_work x.run)) els))

  -- ---- what stands

  pub net_same : (i : Ident) → case_number i ≢ m → net_at t i ≡ net_at s i
  net_same i out = ap (λ specs. net_in specs (net_part t i)) same.specs ∙ ap (λ o. net_in s.specs (option_and_then (λ (x : Site). x.net) o)) (same.sites i out)

  parent_out : (i : Ident) → case_number i ≢ m → case_number (parent i) ≢ m
  parent_out [] out e = some (sym e)
  parent_out (x ∷ []) out e = some (sym e)
  parent_out (x ∷ y ∷ r) out e = out e

  pub item_same : (j : Ident) → case_number j ≢ m → item_at t j ≡ item_at s j
  item_same j out =
      ap (λ o. item_in o (net_at t (parent j))) (ap (option_and_then (λ (x : Site). x.item)) (same.sites j out)) ∙ ap (item_in (item_part s j)) (net_same (parent j) (parent_out j out))

  module _ (j : Ident) (there : case_number j ≢ 0) (out : case_number j ≢ m) where
    done_same : (i : Ident) (x : ItemPart) → is_child i j ≡ true → done t i x ≡ done s i x
    done_same i x below =
        let at = child_case (case_number j) i j there refl below in
        let some_there : case_number i ≢ 0 = λ e. there (sym at ∙ e) in
        let elsewhere : case_number i ≢ m = λ e. out (sym at ∙ e) in
        ap (λ b. is_completed x.stage && not b && not (is_suspended t i)) (busy_same i some_there elsewhere)
        ∙ ap (λ b. is_completed x.stage && not (busy s i) && not b) (suspended_same i some_there elsewhere)

    pub items_same : (k : ℕ) → items_of t j k ≡ items_of s j k
    items_same k =
        mapped_kept (λ e. apart e.0) (λ e. item_of_task j k e.0 e.1) none (entries t.sites)
        ∙ ap (filter_map (λ e. item_of_task j k e.0 e.1)) kept_same
        ∙ sym (mapped_kept (λ e. apart e.0) (λ e. item_of_task j k e.0 e.1) none (entries s.sites))
      where
        none : (e : Ident × Site) → apart e.0 ≡ false → item_of_task j k e.0 e.1 ≡ None
        none e els = ap (λ b. if b then option_and_then (if_of_task k e.0) e.1.item else None) (not_child j there out e.0 (in_case e.0 els))

    looks_same : s.next ≤ t.next → LooksSame s t j
    looks_same later = record {
      due = ap (λ o. unwrap_or (option_map (λ (x : Site). x.due) o) no_checks) (same.sites j out);
      run = ap (option_and_then (λ (x : Site). x.run)) (same.sites j out);
      item = ap (option_map (λ (x : ItemAt). (x.part.stage, x.of_task.task))) (item_same j out);
      part = ap (option_and_then (λ (x : Site). x.net)) (same.sites j out);
      net = net_same j out;
      items = items_same;
      done = done_same;
      manual = λ x. ap (λ rs. is_atomic x.task && length (unwrap_or (get rs (place_key (task_place x Select))) []) == 0) same.rules;
      busy = busy_same j there out;
      clear = ap (λ b. not b && not (urgent t (case_number j))) (held_same j there out) ∙ ap (λ b. not (held s j) && not b) (urgent_same (case_number j) there out);
      urgent = urgent_same (case_number j) there out;
      next = later;
    }

-- ---- an event

some_number : (n : ℕ) → 1 ≤ n → n ≢ 0
some_number n least = λ none. omega (arith, least, none)

pub still_elsewhere : (n : ℕ) (s : State) (e : Event) (said : Said) (j : Ident) (x : Site) → NumbersFit s → ParentsStand s → Allowed s e said → case_of e ≡ Some n → Stands s j x → case_number j ≢ n → IsStill s j
    → IsStill (after s e said) j
still_elsewhere n s e said j x numbers parents allowed of stands out still =
    let some = some_number n (case_from_one s e said n numbers allowed.0 of) in
    let there = some_number (case_number j) (from_one j (numbers.identities j x stands)) in
    let same = leaves_other_cases n s e said numbers parents allowed of in
    still_stays s (after s e said) j (looks_same n some s (after s e said) same j there out (next-rises s e said allowed.0)) still
