-- What is gathered of one entry.
use Rattle.std.proofs.Common.{◌≡◌, ◌∙◌, ◌∷◌, [], ℕ, Bool, true, false, List, Option, Some, None, map, ap, if◌then◌else◌, refl, sym}
use Rattle.std.specs.List.{cons_option}
use Rattle.std.specs.Prelude.{flat_map, is_some, option_and_then, option_map, unwrap_or}
use Rattle.yw_base.specs.Identity.{parent}
use Rattle.yw_known.specs.Here.{IsNetHere, as_net_at}
use Rattle.yw_known.specs.declared.here.NetHere.{NetHere}
use Rattle.yw_library.specs.Held.{IsHeld}
use Rattle.yw_library.specs.Holdings.{Holdings}
use Rattle.yw_restore.specs.Gathers.{due_rows_in, item_rows_in, marks_in, net_rows_in, run_rows_in, token_rows_in}
use Rattle.yw_sites.proofs.Each.{nil_right}
use Rattle.yw_sites.proofs.Picked.{none_step, some_step}
use Rattle.yw_spec.specs.declared.spec.Net.{Net}
use Rattle.yw_spec.specs.declared.spec.Place.{Place}
use Rattle.yw_spec.specs.declared.spec.Spec.{Spec}
use Rattle.yw_state.proofs.MapLemmas.{never}
use Rattle.yw_state.proofs.Tests.{map_some, then_some}
use Rattle.yw_state.specs.Identity.{Ident}
use Rattle.yw_state.specs.Map.{get}
use Rattle.yw_state.specs.State.{ItemAt, ItemPart, NetAt, NetPart, Site, State, TaskAt, is_item, item_at, item_part, net_at, net_of, net_part, spec_called, task_in}
use Rattle.yw_state.specs.Words.{any_due}
use Rattle.yw_state.specs.declared.loaded.Loaded.{Loaded}
use Rattle.yw_state.specs.declared.part.Checks.{Checks}
use Rattle.yw_states.specs.States.{due_row, item_of_site, item_row, net_of_site, net_row, place_rows, run_of_site, run_row, task_name, token_rows}
use Rattle.yw_states.specs.declared.cases.DueRow.{DueRow}
use Rattle.yw_states.specs.declared.cases.ItemRow.{ItemRow}
use Rattle.yw_states.specs.declared.cases.NetRow.{NetRow}
use Rattle.yw_tree.specs.declared.Forest.{Forest}

-- ---- marks, checks and runs

abbrev paired : {Y : Type 0} → Ident → Y → Ident × Y
paired j y = (j, y)

mark_by : (j : Ident) (b : Bool)
    → map (λ (e : Ident × Bool). e.0) (cons_option (option_map (paired j) (if b then Some true else None)) []) ≡ (if b then j ∷ [] else [])
mark_by j true = refl
mark_by j false = refl

pub mark_listed : (j : Ident) (x : Site) (b : Bool) → x.suspended ≡ b → (if b then j ∷ [] else []) ≡ marks_in ((j, x) ∷ [])
mark_listed j x b same =
    sym (ap (λ (w : Bool). map (λ (e : Ident × Bool). e.0) (cons_option (option_map (paired j) (if w then Some true else None)) [])) same
    ∙ mark_by j b)

due_by : (j : Ident) (due : Checks) (b : Bool)
    → map due_row (cons_option (option_map (paired j) (if b then Some due else None)) []) ≡ (if b then record { ident = j; due = due } ∷ [] else [])
due_by j due true = refl
due_by j due false = refl

pub due_listed : (j : Ident) (x : Site) (due : Checks) → x.due ≡ due
    → (if any_due due then record { ident = j; due = due } ∷ [] else []) ≡ due_rows_in ((j, x) ∷ [])
due_listed j x due same =
    sym (ap (λ (d : Checks). map due_row (cons_option (option_map (paired j) (if any_due d then Some d else None)) [])) same
    ∙ due_by j due (any_due due))

pub no_run_listed : (j : Ident) (x : Site) → x.run ≡ None → run_rows_in ((j, x) ∷ []) ≡ []
no_run_listed j x none = ap (map run_row) (none_step run_of_site (j, x) [] none)

no_part : (o : Option ItemPart) → is_some o ≡ false → o ≡ None
no_part None e = refl
no_part (Some p) e = never (sym e)

abbrev pub item_row_at : Ident → ItemAt → ItemRow
item_row_at j a =
    record { ident = j; task = a.of_task.task.name; stage = a.part.stage; given = a.part.given; made = a.part.made; who = a.part.who }

abbrev with_task : Ident → ItemPart → List ℕ → ItemRow
with_task j p name = record { ident = j; task = name; stage = p.stage; given = p.given; made = p.made; who = p.who }

abbrev pub net_row_named : Ident → NetAt → List ℕ → NetRow
net_row_named j n name = record { ident = j; spec = name; net = n.net.name; values = n.part.vals }

abbrev with_name : Ident → NetPart → List ℕ → NetRow
with_name j p name = record { ident = j; spec = p.spec; net = name; values = p.vals }

module _ (s : State) (j : Ident) (x : Site) (at : get s.sites j ≡ Some x) where
  -- ---- the item

  item_is : item_part s j ≡ x.item
  item_is = ap (option_and_then (λ (y : Site). y.item)) at

  pub item_listed : (a : ItemAt) → item_at s j ≡ Some a → item_rows_in s ((j, x) ∷ []) ≡ item_row_at j a ∷ []
  item_listed a e =
      let (p, here, of_net) =
      then_some (λ (q : ItemPart). option_and_then (λ (n : NetAt). option_map (λ (t : TaskAt). record { part = q; of_task = t })
      (task_in n q.task)) (net_at s (parent j)))
      (item_part s j) a e in
      let (n, outer, of_task) =
      then_some (λ (m : NetAt). option_map (λ (t : TaskAt). record { part = p; of_task = t }) (task_in m p.task)) (net_at s (parent j)) a of_net in
      let (t, task, is) = map_some (λ (u : TaskAt). record { part = p; of_task = u }) (task_in n p.task) a of_task in
      let name : task_name s j p.task ≡ t.task.name =
      ap (λ (o : Option NetAt). unwrap_or (option_map (λ (u : TaskAt). u.task.name) (option_and_then (λ (m : NetAt). task_in m p.task) o)) []) outer
      ∙ ap (λ (o : Option TaskAt). unwrap_or (option_map (λ (u : TaskAt). u.task.name) o) []) task in
      ap (map (item_row s)) (some_step item_of_site (j, x) [] p (sym item_is ∙ here))
      ∙ ap (λ (z : List ℕ). with_task j p z ∷ []) name ∙ ap (λ (b : ItemAt). item_row_at j b ∷ []) is

  pub no_item_listed : is_item s j ≡ false → item_rows_in s ((j, x) ∷ []) ≡ []
  no_item_listed none = ap (map (item_row s)) (none_step item_of_site (j, x) [] (sym item_is ∙ no_part (item_part s j) none))

  -- ---- the net

  net_is : net_part s j ≡ x.net
  net_is = ap (option_and_then (λ (y : Site). y.net)) at

  -- the net, with its part
  record Found (n : NetAt) : Type 0 where
    part : NetPart
    net : Net
    here : net_part s j ≡ Some part
    of_part : net_of s part ≡ Some net
    is : ◌≡◌ {A = NetAt} (record { part = part; net = net }) n

  found : (n : NetAt) → net_at s j ≡ Some n → Found n
  found n e =
      let (p, here, made) = then_some (λ (q : NetPart). option_map (λ (m : Net). record { part = q; net = m }) (net_of s q)) (net_part s j) n e in
      let (m, of, is) = map_some (λ (k : Net). record { part = p; net = k }) (net_of s p) n made in
      record { part = p; net = m; here = here; of_part = of; is = is }

  pub part_is : (n : NetAt) → net_at s j ≡ Some n → net_part s j ≡ Some n.part
  part_is n e = let f = found n e in f.here ∙ ap (λ (m : NetAt). Some m.part) f.is

  pub net_listed : (n : NetAt) → net_at s j ≡ Some n → net_rows_in s ((j, x) ∷ []) ≡ net_row_named j n n.part.spec ∷ []
  net_listed n e =
      let f = found n e in
      ap (map (net_row s)) (some_step net_of_site (j, x) [] f.part (sym net_is ∙ f.here))
      ∙ ap (λ (o : Option Net). with_name j f.part (unwrap_or (option_map (λ (m : Net). m.name) o) []) ∷ []) f.of_part
      ∙ ap (λ (m : NetAt). net_row_named j m m.part.spec ∷ []) f.is

  pub tokens_listed : (n : NetAt) → net_at s j ≡ Some n → token_rows_in s ((j, x) ∷ []) ≡ place_rows j n.net.places n.part.tokens
  tokens_listed n e =
      let f = found n e in
      ap (flat_map (token_rows s)) (some_step net_of_site (j, x) [] f.part (sym net_is ∙ f.here))
      ∙ nil_right (token_rows s (j, f.part))
      ∙ ap (λ (o : Option Net). place_rows j (unwrap_or (option_map (λ (m : Net). m.places) o) []) f.part.tokens) f.of_part
      ∙ ap (λ (m : NetAt). place_rows j m.net.places m.part.tokens) f.is

  pub no_net_listed : net_part s j ≡ None → net_rows_in s ((j, x) ∷ []) ≡ []
  no_net_listed none = ap (map (net_row s)) (none_step net_of_site (j, x) [] (sym net_is ∙ none))

  pub no_tokens_listed : net_part s j ≡ None → token_rows_in s ((j, x) ∷ []) ≡ []
  no_tokens_listed none = ap (flat_map (token_rows s)) (none_step net_of_site (j, x) [] (sym net_is ∙ none))

  -- the specification has the name under which the net says it is loaded
  pub spec_name_is : (known : Holdings) (f : Forest) (h : NetHere) → IsHeld known f s → IsNetHere known f s j h
      → h.spec.now.name ≡ (as_net_at known h).part.spec
  spec_name_is known f h held is =
      let n = as_net_at known h in
      let here : net_part s j ≡ Some n.part = part_is n is.at in
      let called : spec_called s n.part.spec ≡ Some h.spec.now = sym (ap (option_and_then (λ (p : NetPart). spec_called s p.spec)) here)
      ∙ is.of_state in
      let (l, loaded, spec) = map_some (λ (l : Loaded). l.spec) (get s.specs n.part.spec) h.spec.now called in
      ap (λ (z : Spec). z.name) (sym spec) ∙ held.well.content.spec_name n.part.spec l loaded
