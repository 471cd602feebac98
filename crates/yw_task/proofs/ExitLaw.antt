-- A task exits: what the map is then.
use Rattle.std.proofs.Common.{Bool, List, None, Option, Some, [], ap, arith, cond, false, get_or, refl, subst, sym, true, ℕ, ◌∙◌, ◌∷◌, ◌≡◌, ◌≤◌}
use Rattle.std.proofs.lemmas.Bool.{and_parts, ltb-true}
use Rattle.std.proofs.lemmas.List.Elements.{All-cons, All-nil}
use Rattle.std.specs.Cmp.Lexicographic.{pointwise}
use Rattle.std.specs.List.{All, list_all}
use Rattle.std.specs.Prelude.{◌&&◌, ◌||◌, fold, nat_eq, nat_lt, option_and_then, option_map, slice_get, unwrap_or}
use Rattle.yw_sites.proofs.Dropped.{above, get-drop_all}
use Rattle.yw_spec.specs.declared.spec.Net.{Net}
use Rattle.yw_spec.specs.declared.spec.Place.{Place}
use Rattle.yw_spec.specs.declared.spec.Spec.{Spec}
use Rattle.yw_spec.specs.declared.task.Task.{Task}
use Rattle.yw_state.proofs.MapLemmas.{by_name, get-update_same}
use Rattle.yw_state.proofs.Tests.{same_numbers, some_same, there_and}
use Rattle.yw_state.specs.After.{change, count_on, empty_region, exit, idents, no_more, one_more, post_at_output, produce, set_values, where_some, with_net, without_items}
use Rattle.yw_state.specs.Allowed.{Allowed, allows, exit_values, has_room_for, may_exit, may_leave, most_tokens, place_numbers, puts_on}
use Rattle.yw_state.specs.Events.{after}
use Rattle.yw_state.specs.Identity.{Ident}
use Rattle.yw_state.specs.Map.{get}
use Rattle.yw_state.specs.Nets.{is_among}
use Rattle.yw_state.specs.Options.{is_some_and}
use Rattle.yw_state.specs.Passing.{kept_values, made_rows, split_places}
use Rattle.yw_state.specs.State.{NetPart, Site, State, TaskAt, items_of, net_part, task_at, tokens_on}
use Rattle.yw_state.specs.Texts.{Said}
use Rattle.yw_state.specs.Values.{Row}
use Rattle.yw_state.specs.Words.{active, clear}
use Rattle.yw_state.specs.declared.event.Event.TheVariants as events
use Rattle.yw_task.proofs.EnterAsk.{here, its_items, its_net_part, net_with, task_stands}
use Rattle.yw_task.proofs.MadeLaw.{made_rows_are}
use Rattle.yw_task.proofs.RegionLaw.{has_net, it_stands, its_beside}
use Rattle.yw_task.proofs.TokenCounts.{counts_fall, counts_gone}
use Rattle.yw_task.proofs.TurnLaw.{own_part, own_turns}
use Rattle.yw_task.specs.Leaves.{Leaves, emptied}
use Rattle.yw_task.specs.Leaving.{Exits, ExitsTo, HasNet}
use Rattle.yw_task.specs.Making.{AreFew, rows_made}
use Rattle.yw_task.specs.Standing.{NetStands}
use Rattle.yw_task.specs.Turning.{HasCome, Turns}
use Rattle.yw_tree.proofs.TaskCut.{items_children}
use Rattle.yw_tree.specs.Entries.{net_part as part_of}
use Rattle.yw_tree.specs.Shows.{items_in}
use Rattle.yw_tree.specs.declared.Forest.{Forest}
use Rattle.yw_tree.specs.declared.NetState.{NetState, out-NetState}
use Rattle.yw_within.specs.Within.{NetIsWithin}

-- ---- all changes in turn

module _ (task : Task) (t : ℕ) (vals : Row) (places : List ℕ) (a b c d e : NetState) where
  pub leaves : Turns a b (λ i s. without_items i s t) → out-NetState c ≡ record (out-NetState b) { vals = vals } → Turns c d (λ i s. empty_region s i task)
      → (AreFew (out-NetState d).marks places → out-NetState e ≡ record (out-NetState d) { marks = fold one_more (out-NetState d).marks places }) → Leaves task t vals places a e
  leaves goes has clears comes = λ names i others beside before s stays h few.
      let sets : Turns b c (λ i s. set_values s i vals) = own_turns b c (out-NetState b).marks vals has (λ n. record n { vals = vals }) (own_part b c (out-NetState b).marks vals has) in
      let three : HasCome names i others beside before (emptied i s t vals task) d =
      clears names i others beside before (set_values (without_items i s t) i vals) stays (sets names i others beside before (without_items i s t) stays (goes names i others beside before s stays h)) in
      let counts : (k : ℕ) → tokens_on (emptied i s t vals task) i k ≡ count_on (out-NetState d).marks k = λ k. ap (λ (o : Option NetPart). unwrap_or (option_and_then (λ (n : NetPart). slice_get n.tokens k) o) 0) three.shows.part in
      let marks : List ℕ = fold one_more (out-NetState d).marks places in
      let is : out-NetState e ≡ record (out-NetState d) { marks = fold one_more (out-NetState d).marks places } = comes (λ k z l. subst (λ n. n ≤ most_tokens) (counts (get_or places k z)) (few k z l)) in
      let puts : Turns d e (λ i s. produce s i places) =
      own_turns d e marks (out-NetState d).vals is (λ n. record n { tokens = fold one_more n.tokens places }) (own_part d e marks (out-NetState d).vals is) in
      puts names i others beside before (emptied i s t vals task) stays three

-- ---- tokens on the way

part_stays : (s : State) (i : Ident) (k : ℕ) → net_part (without_items i s k) i ≡ net_part s i
part_stays s i k =
    let js = idents (items_of s i k) in
    ap (option_and_then (λ (x : Site). x.net)) (get-drop_all s.sites js i ∙ ap (λ z. cond z None (get s.sites i)) (above i js (items_children s i k)))

parts_stay : (s : State) (i : Ident) (ks : List ℕ) → net_part (fold (without_items i) s ks) i ≡ net_part s i
parts_stay s i [] = refl
parts_stay s i (k ∷ ks) = parts_stay (without_items i s k) i ks ∙ part_stays s i k

part_changes : (s : State) (i : Ident) (g : NetPart → NetPart) → net_part (change s i (with_net g)) i ≡ option_map g (net_part s i)
part_changes s i g = ap (option_and_then (λ (x : Site). x.net)) (get-update_same by_name s.sites i (with_net g)) ∙ inside (get s.sites i)
  where
    inside : (o : Option Site) → option_and_then (λ (x : Site). x.net) (option_map (with_net g) o) ≡ option_map g (option_and_then (λ (x : Site). x.net) o)
    inside None = refl
    inside (Some x) = refl

module _ (s : State) (i : Ident) (p : NetPart) (is : net_part s i ≡ Some p) (t : ℕ) (vals : Row) (task : Task) where
  part_then : net_part (emptied i s t vals task) i ≡ Some (record p { vals = vals; tokens = fold no_more p.tokens task.drop_places })
  part_then =
      let one = without_items i s t in
      let two = set_values one i vals in
      let wipe : NetPart → NetPart = λ n. record n { tokens = fold no_more n.tokens task.drop_places } in
      let set : NetPart → NetPart = λ n. record n { vals = vals } in
      parts_stay (change two i (with_net wipe)) i task.drop_tasks ∙ part_changes two i wipe ∙ ap (option_map wipe) (part_changes one i set ∙ ap (option_map set) (part_stays s i t ∙ is))

  count_then : (c : ℕ) → tokens_on (emptied i s t vals task) i c ≡ count_on (fold no_more p.tokens task.drop_places) c
  count_then c = ap (λ (o : Option NetPart). unwrap_or (option_and_then (λ (n : NetPart). slice_get n.tokens c) o) 0) part_then

  count_now : (c : ℕ) → tokens_on s i c ≡ count_on p.tokens c
  count_now c = ap (λ (o : Option NetPart). unwrap_or (option_and_then (λ (n : NetPart). slice_get n.tokens c) o) 0) is

  abbrev has_room : ℕ → Bool
  has_room c = is_among task.drop_places c || nat_lt (tokens_on s i c) most_tokens

  few_then : (cs : List ℕ) → list_all has_room cs ≡ true → All (λ c. tokens_on (emptied i s t vals task) i c ≤ most_tokens) cs
  few_then [] all = All-nil (λ c. tokens_on (emptied i s t vals task) i c ≤ most_tokens)
  few_then (c ∷ cs) all =
      let parts = and_parts (has_room c) (list_all has_room cs) all in
      All-cons (λ c. tokens_on (emptied i s t vals task) i c ≤ most_tokens) c cs (one (is_among task.drop_places c) refl parts.0) (few_then cs parts.1)
    where
      one : (b : Bool) → is_among task.drop_places c ≡ b → (b || nat_lt (tokens_on s i c) most_tokens) ≡ true → tokens_on (emptied i s t vals task) i c ≤ most_tokens
      one true among room = omega (arith, count_then c, counts_gone p.tokens task.drop_places c among)
      one false among room = omega (arith, count_then c, count_now c, counts_fall p.tokens task.drop_places c, ltb-true (tokens_on s i c) most_tokens room)

-- ---- where it is allowed

module _ (net : Net) (t : ℕ) (old new : NetState) (task : Task) (vals : Row) (numbers : List ℕ) (kept : vals ≡ kept_values task (rows_made (items_in old t)) (out-NetState old).vals) (split : numbers ≡ split_places task vals) (left : Leaves task t vals numbers old new)
    (names : ℕ → List ℕ) (f : Forest) (s : State) (i : Ident) (spec : Spec) (h : NetStands names f s i net old) (within : NetIsWithin spec net) (at : slice_get net.tasks t ≡ Some task) where
  abbrev x : TaskAt
  x = record { number = t; task = task; within = net_with names net old }

  values_are : exit_values s i (record { number = t; task = task; within = net_with names net old }) ≡ vals
  values_are =
      ap (λ es. kept_values task (made_rows es) (out-NetState old).vals) (its_items names f s i net old h t)
      ∙ ap (λ rows. kept_values task rows (out-NetState old).vals) (made_rows_are (items_in old t)) ∙ sym kept

  -- the places that it may put tokens on are those of the split
  places_are : (cs : List ℕ) → puts_on s i x cs ≡ true → cs ≡ numbers
  places_are cs fit =
      let y : TaskAt = x in
      let parts = and_parts (pointwise nat_eq cs (split_places task (exit_values s i y))) (list_all (has_room_for s i y) cs) fit in
      same_numbers cs (split_places task (exit_values s i y)) parts.0 ∙ ap (split_places task) values_are ∙ sym split

  net_then : puts_on s i x numbers ≡ true → HasNet names f s (produce (emptied i s t vals task) i numbers) i new
  net_then fit =
      let y : TaskAt = x in
      let k = here names f s i net old h in
      let room = (and_parts (pointwise nat_eq numbers (split_places task (exit_values s i y))) (list_all (has_room_for s i y) numbers) fit).1 in
      let few = few_then s i (part_of names old) (its_net_part names f s i net old h) t vals task numbers room in
      has_net names f s i net old h _ new (left names i k.others (k.beside names) s s (its_beside names f s i net old h) (it_stands names f s i net old h) few)

  exit_there : (places : List Place) (said : Said) → Allowed s (events.Exit i task.name places) said → ExitsTo names f s i (net_with names net old) task places said new numbers
  unfolding allows after
  exit_there places said allowed =
      let y : TaskAt = x in
      let stands : task_at s i task.name ≡ Some y = task_stands names f s i net old h spec within t task at in
      let parts = and_parts (clear s i) (is_some_and (task_at s i task.name) (may_exit s i places)) allowed.0 in
      let may : may_exit s i places y ≡ true = sym (ap (λ o. is_some_and o (may_exit s i places)) stands) ∙ parts.1 in
      let puts = (and_parts (active s i t && may_leave s i y) (is_some_and (place_numbers net places) (puts_on s i y)) may).1 in
      let c = there_and (place_numbers net places) (puts_on s i y) puts in
      let same : c.0 ≡ numbers = places_are c.0 c.2 in
      let is : place_numbers net places ≡ Some numbers = c.1 ∙ ap (λ cs. Some cs) same in
      let n = net_then (subst (λ cs. puts_on s i y cs ≡ true) same c.2) in
      record {
        put = is;
        map =
            ap (λ o. where_some o s (exit s i places)) stands
            ∙ ap (λ o. exits (unwrap_or o [])) is
            ∙ ap (λ (v : Row). post_at_output (produce (emptied i s t v task) i numbers) i (net_with names net old) numbers) values_are
            ∙ ap (λ (z : State). post_at_output z i (net_with names net old) numbers) n.map;
        kept = n.kept;
      }
    where
      -- as `exit` does
      exits : List ℕ → State
      exits cs = post_at_output (produce (emptied i s t (exit_values s i (record { number = t; task = task; within = net_with names net old })) task) i cs) i (net_with names net old) cs

pub exits : (net : Net) (t : ℕ) (old new : NetState) (task : Task) (vals : Row) (numbers : List ℕ) → slice_get net.tasks t ≡ Some task → vals ≡ kept_values task (rows_made (items_in old t)) (out-NetState old).vals → numbers ≡ split_places task vals
    → Leaves task t vals numbers old new → Exits net t old new numbers
exits net t old new task vals numbers at kept split left = λ names f s i spec u places said h within is allowed.
    let same : task ≡ u = some_same task u (sym at ∙ is) in
    subst (λ (v : Task). Allowed s (events.Exit i v.name places) said → ExitsTo names f s i (net_with names net old) v places said new numbers) same
    (exit_there net t old new task vals numbers kept split left names f s i spec h within at places said) allowed
