-- A part of what stands at an identity, as whether a run stands there or whether it is suspended, is left by an event that neither makes nor removes
-- what stands there.
use Rattle.std.specs.Prelude.{◌≡◌, ◌⊎◌, ℕ, ◌&&◌, ◌||◌, Bool, true, false, not, List, [], ◌∷◌, fold, None, Option, Some, is_some, option_and_then, unwrap_or, refl, if◌then◌else◌}
use Rattle.std.specs.List.{All, list_any}
use Rattle.std.proofs.Common.{◌∙◌, ap, sym, subst, inl, inr}
use Rattle.std.proofs.lemmas.Bool.{or_parts}
use Rattle.std.proofs.lemmas.List.Elements.{All-head, All-tail}
use Rattle.yw_base.specs.Identity.{child, parent}
use Rattle.yw_kept.proofs.Staying.{others_stay}
use Rattle.yw_kept.specs.Kept.{is_changed}
use Rattle.yw_moved.proofs.Parents.{apart, is_same, not_under_child}
use Rattle.yw_moved.proofs.Sites.{added-same, enter-same}
use Rattle.yw_spec.specs.declared.spec.Net.{Net}
use Rattle.yw_spec.specs.declared.spec.Place.{Place}
use Rattle.yw_state.proofs.Absent.{part-kept}
use Rattle.yw_state.proofs.Apart.{leaves_cases}
use Rattle.yw_state.proofs.Elsewhere.{children}
use Rattle.yw_state.proofs.Gone.{same_item_at}
use Rattle.yw_state.proofs.MapLemmas.{by_name, get-insert_other, get-remove_other, get-retain_kept}
use Rattle.yw_state.proofs.Tests.{and_left, and_right, by_test, never}
use Rattle.yw_state.specs.After.{begin_at, begun, change, complete, completed, end_net, enter, exit, idents, items_gone, make_due, make_select_due, net_numbered, new_net, pass, produce, put, region_emptied, stands, start_sub, take, values_assigned, where_some, wipe, with_item, with_run, with_sites, without_items}
use Rattle.yw_state.specs.Allowed.{Allowed, allows, place_numbers}
use Rattle.yw_state.specs.ByName.{Valuation, first_values, given_named, made_by_child, made_by_worklet, made_of_given}
use Rattle.yw_state.specs.Events.{after}
use Rattle.yw_state.specs.Exlets.{case_above, cut_back, end_if_over, primitive, restarted, take_primitive, taken_first}
use Rattle.yw_state.specs.Gone.{cut_back_removes, removes}
use Rattle.yw_state.specs.Identity.{Ident, case_ident, is_child, same, strictly_under}
use Rattle.yw_state.specs.Judged.{case_place, task_place}
use Rattle.yw_state.specs.Map.{get, remove, retain}
use Rattle.yw_state.specs.Nets.{is_atomic}
use Rattle.yw_state.specs.Options.{is_some_and}
use Rattle.yw_state.specs.State.{State, Site, Sites, ItemAt, ItemPart, NetAt, NetPart, RunPart, TaskAt, bare, bare_but, drop, drop_all, item_at, items_of, net_at, spec_called, task_at, top_called, without_net}
use Rattle.yw_state.specs.Texts.{Said}
use Rattle.yw_state.specs.Values.{Row}
use Rattle.yw_state.specs.Words.{is_completed}
use Rattle.yw_state.specs.declared.event.Event.{Event}
use Rattle.yw_state.specs.declared.event.Event.TheVariants as events
use Rattle.yw_state.specs.declared.part.Checks.{Checks}
use Rattle.yw_state.specs.declared.tree.Primitive.{Primitive}
use Rattle.yw_state.specs.declared.tree.Primitive.TheVariants.{SuspendItem, ContinueItem, RestartItem, CompleteItem, RemoveItem, SuspendCase, ContinueCase, RemoveCase, Compensate, Unknown}
use Rattle.yw_state.specs.declared.tree.TreeKind.TheVariants as kinds
use Rattle.yw_idle.specs.Warms.{makes}

-- ---- parts, and the events that bear on them

-- It hangs on neither the net nor the item, what is due there, or what a run has still to do.
pub record Ignores {A : Type 0} (part : Site → Option A) : Type 0 where
  pub net : (x : Site) (n : Option NetPart) → part (record x { net = n }) ≡ part x
  pub item : (x : Site) (y : Option ItemPart) → part (record x { item = y }) ≡ part x
  pub due : (x : Site) (c : Checks) → part (record x { due = c }) ≡ part x
  pub run : (x : Site) (f : RunPart → RunPart) → part (with_run f x) ≡ part x

-- nor on whether it is suspended
abbrev pub IgnoresMarks : {A : Type 0} → (Site → Option A) → Type 0
IgnoresMarks part = (x : Site) (b : Bool) → part (record x { suspended = b }) ≡ part x

-- it suspends or continues something
abbrev pub is_mark : Primitive → Bool
is_mark SuspendItem = true
is_mark ContinueItem = true
is_mark SuspendCase = true
is_mark ContinueCase = true
is_mark p = false

abbrev pub marks : Event → Bool
marks (events.Suspend j) = true
marks (events.Continue j) = true
marks (events.Prim r p) = is_mark p
marks e = false

-- what a run takes or what it waited for ends there, and the run may go
abbrev pub is_run_of : Event → Ident → Bool
is_run_of (events.Prim r p) k = same k r
is_run_of (events.Compensated r) k = same k r
is_run_of e k = false

cut_kept : (a b : Bool) → (a && not b) ≡ false → (not a || b) ≡ true
cut_kept true true e = refl
cut_kept true false e = never (sym e)
cut_kept false b e = refl

pub neither : (a b : Bool) → a ≡ false → b ≡ false → (a || b) ≡ false
neither true b e f = never (sym e)
neither false b e f = f

second_false : (a b : Bool) → a ≡ true → (a && b) ≡ false → b ≡ false
second_false true b so e = e
second_false false b so e = never so

module _ {A : Type 0} (part : Site → Option A) (ignores : Ignores part) (k : Ident) where
  abbrev pub Kept : State → State → Type 0
  Kept s t = option_and_then part (get t.sites k) ≡ option_and_then part (get s.sites k)

  pub site-kept : (s t : State) → get t.sites k ≡ get s.sites k → Kept s t
  site-kept s t here = ap (option_and_then part) here

  pub changed-kept : (s : State) (j : Ident) (f : Site → Site) → ((x : Site) → part (f x) ≡ part x) → Kept s (change s j f)
  changed-kept s j f leaves = part-kept part f leaves s.sites j k

  some-kept : {B : Type 0} (o : Option B) (s : State) (f : B → State) → ((x : B) → o ≡ Some x → Kept s (f x)) → Kept s (where_some o s f)
  some-kept None s f each = refl
  some-kept (Some x) s f each = each x refl

  found-kept : {B : Type 0} (o : Option B) (s : State) (f : B → State) (p : B → Bool)
      → is_some_and o p ≡ true → ((x : B) → p x ≡ true → Kept s (f x)) → Kept s (where_some o s f)
  found-kept None s f p e each = refl
  found-kept (Some x) s f p e each = each x e

  if-kept : (b : Bool) (s t u : State) → Kept s t → Kept s u → Kept s (if b then t else u)
  if-kept true s t u there here = there
  if-kept false s t u there here = here

  put-kept : (s : State) (j : Ident) (x : Site) → same k j ≡ false → Kept s (put s j x)
  put-kept s j x other = site-kept s (put s j x) (get-insert_other by_name s.sites j x k (apart k j other))

  -- ---- nets begin and end

  begin-kept : (s : State) (j : Ident) (name : List ℕ) (number : ℕ) (source : Valuation) (who : Option (List ℕ)) (net : Net)
      → Kept s (begin_at s j name number source who net)
  begin-kept s j name number source who net =
      changed-kept s j (λ x. stands (new_net name number net (first_values source net)) (with_item (begun who) x))
      (λ y. ignores.net (with_item (begun who) y) _ ∙ ignores.item y _)

  complete-kept : (s : State) (j : Ident) (out : Row) (x : ItemAt) → Kept s (complete s j out x)
  complete-kept s j out x =
      changed-kept (change s j (with_item (completed out))) j _ (λ y. ignores.due y _) ∙ changed-kept s j _ (λ y. ignores.item y _)

  end_net-kept : (s : State) (j : Ident) (made : NetAt → ItemAt → Row) (x : ItemAt) → strictly_under k j ≡ false → Kept s (end_net s j made x)
  end_net-kept s j made x out =
      some-kept (net_at s j) s _ (λ n e. complete-kept (with_sites s (bare s.sites j)) j _ x ∙ bared)
    where
      bared : Kept s (with_sites s (bare s.sites j))
      bared =
          part-kept part without_net (λ y. ignores.net y None) (retain s.sites (λ q. not (strictly_under q j))) j k
          ∙ ap (option_and_then part) (get-retain_kept by_name s.sites _ k (ap not out))

  -- ---- a task of the net at k exits

  abbrev IsBelow : Ident × ItemPart → Type 0
  IsBelow e = is_child e.0 k ≡ true

  drop_all-above : (es : List (Ident × ItemPart)) (m : Sites) → All IsBelow es → get (drop_all m (idents es)) k ≡ get m k
  drop_all-above [] m below = refl
  drop_all-above (e ∷ es) m below =
      drop_all-above es (drop m e.0) (All-tail IsBelow e es below)
      ∙ get-retain_kept by_name m _ k (ap not (not_under_child e.0 k (All-head IsBelow e es below)))

  items-kept : (s : State) (n : ℕ) → Kept s (without_items k s n)
  items-kept s n = site-kept s (without_items k s n) (drop_all-above (items_of s k n) s.sites (children s k n))

  each-kept : (ns : List ℕ) (s : State) → Kept s (fold (without_items k) s ns)
  each-kept [] s = refl
  each-kept (n ∷ ns) s = each-kept ns (without_items k s n) ∙ items-kept s n

  exit-kept : (s : State) (places : List Place) (x : TaskAt) → Kept s (exit s k places x)
  exit-kept s places x =
      let cs : List ℕ = unwrap_or (place_numbers x.within.net places) [] in
      let gone : State = items_gone s k x in
      let assigned : State = values_assigned s k x in
      let emptied : State = region_emptied s k x in
      let marked : State = produce emptied k cs in
      let before : Kept s assigned = changed-kept gone k _ (λ y. ignores.net y _) ∙ items-kept s x.number in
      let wiped : State = wipe assigned k x.task.drop_places in
      let there : Kept s marked =
      changed-kept emptied k _ (λ y. ignores.net y _)
      ∙ each-kept x.task.drop_tasks wiped ∙ changed-kept assigned k _ (λ y. ignores.net y _) ∙ before in
      if-kept _ s (make_due marked k (case_place x.within.part.spec kinds.Post)) marked (changed-kept marked k _ (λ y. ignores.due y _) ∙ there) there

  -- ---- a primitive of the run at r

  module _ (s : State) (r : Ident) (not_run : same k r ≡ false) where
    abbrev going : State
    going = change s r (with_run taken_first)

    pub over-kept : (u : State) → Kept u (end_if_over u r)
    over-kept u =
        if-kept _ u (with_sites u (remove u.sites r)) u
        (site-kept u (with_sites u (remove u.sites r)) (get-remove_other by_name u.sites r k (apart k r not_run))) refl

    -- behind the primitive the run may go
    ended : (p : Primitive) → Kept going (primitive going r (parent r) p) → Kept s (take_primitive s r p)
    ended p done = over-kept (primitive going r (parent r) p) ∙ done ∙ changed-kept s r _ (λ y. ignores.run y _)

    cut_back-kept : (f : ItemPart → ItemPart) → cut_back_removes r k ≡ false → Kept going (cut_back going r (parent r) f)
    cut_back-kept f out =
        changed-kept (with_sites going (bare_but going.sites (parent r) r)) (parent r) _ (λ y. ignores.due _ _ ∙ ignores.item y _)
        ∙ part-kept part without_net (λ y. ignores.net y None) (retain going.sites (λ q. not (strictly_under q (parent r)) || same q r)) (parent r) k
        ∙ ap (option_and_then part) (get-retain_kept by_name going.sites _ k (cut_kept (strictly_under k (parent r)) (same k r) out))

    restarted-kept : (x : ItemAt) → cut_back_removes r k ≡ false → Kept going (make_select_due (cut_back going r (parent r) restarted) (parent r) x.of_task)
    restarted-kept x out =
        let cut : State = cut_back going r (parent r) restarted in
        let before : Kept going cut = cut_back-kept restarted out in
        if-kept (is_atomic x.of_task.task) going (make_due cut (parent r) (task_place x.of_task kinds.Select)) cut
        (changed-kept cut (parent r) _ (λ y. ignores.due y _) ∙ before) before

    -- it changes nothing at k
    other : (p : Primitive) (said : Said) → removes s (events.Prim r p) k ≡ false → is_changed r p k ≡ false → Kept s (take_primitive s r p)
    unfolding after
    other p said stays not_changed =
        site-kept s (after s (events.Prim r p) said)
        (others_stay k s (events.Prim r p) said refl stays (neither (same k r) (is_changed r p k) not_run not_changed))

    primitive-kept : (p : Primitive) (said : Said) → (is_mark p ≡ false) ⊎ IgnoresMarks part → removes s (events.Prim r p) k ≡ false
        → Kept s (take_primitive s r p)
    unfolding removes
    primitive-kept SuspendItem said (inl unmarked) stays = never (sym unmarked)
    primitive-kept ContinueItem said (inl unmarked) stays = never (sym unmarked)
    primitive-kept SuspendCase said (inl unmarked) stays = never (sym unmarked)
    primitive-kept ContinueCase said (inl unmarked) stays = never (sym unmarked)
    primitive-kept SuspendItem said (inr ignored) stays = ended SuspendItem (changed-kept going (parent r) _ (λ y. ignored y true))
    primitive-kept ContinueItem said (inr ignored) stays = ended ContinueItem (changed-kept going (parent r) _ (λ y. ignored y false))
    primitive-kept SuspendCase said (inr ignored) stays = ended SuspendCase (changed-kept going (case_above r) _ (λ y. ignored y true))
    primitive-kept ContinueCase said (inr ignored) stays = ended ContinueCase (changed-kept going (case_above r) _ (λ y. ignored y false))
    primitive-kept RestartItem said either stays =
        ended RestartItem (some-kept (item_at going (parent r)) going _ (λ x at.
        restarted-kept x (second_false (is_some (item_at s (parent r))) _ (ap is_some (sym (same_item_at s r (parent r)) ∙ at)) stays)))
    primitive-kept CompleteItem said either stays =
        ended CompleteItem (some-kept (item_at going (parent r)) going _ (λ x at. by_test (is_completed x.part.stage)
        (λ over. ap (λ c. option_and_then part (get (if c then going else cut_back going r (parent r) (completed (made_of_given x))).sites k)) over)
        (λ runs. ap (λ c. option_and_then part (get (if c then going else cut_back going r (parent r) (completed (made_of_given x))).sites k)) runs
        ∙ cut_back-kept (completed (made_of_given x)) (second_false (is_some_and (item_at s (parent r)) (λ z. not (is_completed z.part.stage))) _
        (ap (λ o. is_some_and o (λ (z : ItemAt). not (is_completed z.part.stage))) (sym (same_item_at s r (parent r)) ∙ at) ∙ ap not runs) stays))))
    primitive-kept RemoveItem said either stays = other RemoveItem said stays refl
    primitive-kept RemoveCase said either stays = other RemoveCase said stays refl
    primitive-kept (Compensate name) said either stays = other (Compensate name) said stays refl
    primitive-kept (Unknown text) said either stays = other (Unknown text) said stays refl

  -- ---- the events

  -- where it suspends or continues nothing, or the part doesn't hang on that
  abbrev pub MayMark : Event → Type 0
  MayMark e = (marks e ≡ false) ⊎ IgnoresMarks part

  mark-kept : (s : State) (e : Event) (j : Ident) (b : Bool) → marks e ≡ true → MayMark e → Kept s (change s j (λ x. record x { suspended = b }))
  mark-kept s e j b does (inl none) = never (sym none ∙ does)
  mark-kept s e j b does (inr ignored) = changed-kept s j _ (λ y. ignored y b)

  pub part_kept : (s : State) (e : Event) (said : Said) → Allowed s e said → MayMark e → removes s e k ≡ false → list_any (same k) (makes e) ≡ false
      → is_run_of e k ≡ false → Kept s (after s e said)
  unfolding after allows removes
  part_kept s (events.Person name roles) said ok may stays new run = refl
  part_kept s (events.Load name text) said ok may stays new run =
      site-kept s (after s (events.Load name text) said) (ap (λ m. get m k) (leaves_cases s (events.Load name text) said refl).sites)
  part_kept s (events.AddRule p at side when conclusion number) said ok may stays new run =
      site-kept s (after s (events.AddRule p at side when conclusion number) said)
      (ap (λ m. get m k) (leaves_cases s (events.AddRule p at side when conclusion number) said refl).sites)
  part_kept s (events.Launch n name vals) said ok may stays new run =
      some-kept (spec_called s name) s _ (λ spec e. some-kept (top_called s name) s _ (λ net d. put-kept s (case_ident n) _ (or_parts _ false new).0))
  part_kept s (events.Enter i t places first count) said ok may stays new run =
      found-kept (task_at s i t) s _ _ (and_right _ _ ok.0) (λ x fits.
      let taken : State = take s i (unwrap_or (place_numbers x.within.net places) []) in
      site-kept taken (enter s i places first x)
      (enter-same k s i places first count x (and_left _ _ (and_right _ _ (and_left _ _ fits))) new)
      ∙ changed-kept s i _ (λ y. ignores.net y _))
  part_kept s (events.Start j who) said ok may stays new run = changed-kept s j _ (λ y. ignores.item y _)
  part_kept s (events.Complete j out) said ok may stays new run = some-kept (item_at s j) s _ (λ x e. complete-kept s j out x)
  part_kept s (events.Exit i t places) said ok may stays new run =
      by_test (same k i)
      (λ here. subst (λ q. Kept s (where_some (task_at s q t) s (exit s q places))) (is_same k i here)
      (some-kept (task_at s k t) s _ (λ x e. exit-kept s places x)))
      (λ other_net. site-kept s (after s (events.Exit i t places) said) (others_stay k s (events.Exit i t places) said refl stays other_net))
  part_kept s (events.Add i t value n) said ok may stays new run = site-kept s (after s (events.Add i t value n) said) (added-same k s i t value n new)
  part_kept s (events.Finish n) said ok may stays new run =
      site-kept s (after s (events.Finish n) said) (others_stay k s (events.Finish n) said refl stays refl)
  part_kept s (events.Cancel n) said ok may stays new run =
      site-kept s (after s (events.Cancel n) said) (others_stay k s (events.Cancel n) said refl stays refl)
  part_kept s (events.StartSub j) said ok may stays new run =
      some-kept (item_at s j) s (start_sub s j) (λ x e.
      let name : List ℕ = x.of_task.within.part.spec in
      some-kept (option_and_then (λ spec. net_numbered spec x.of_task.task) (spec_called s name)) s
      (λ f. begin_at s j name f.0 (given_named x) x.part.who f.1) (λ f d. begin-kept s j name f.0 (given_named x) x.part.who f.1))
  part_kept s (events.CompleteSub j) said ok may stays new run = some-kept (item_at s j) s _ (λ x e. end_net-kept s j made_by_child x stays)
  part_kept s (events.CompleteEmpty j) said ok may stays new run = changed-kept s j _ (λ y. ignores.item y _)
  part_kept s (events.Pass j check) said ok may stays new run = changed-kept s j _ (λ y. ignores.due y _)
  part_kept s (events.Except j check node n) said ok may stays new run =
      put-kept (pass s j check) (child j n) _ (or_parts _ false new).0 ∙ changed-kept s j _ (λ y. ignores.due y _)
  part_kept s (events.Substitute j name) said ok may stays new run =
      some-kept (item_at s j) s _ (λ x e. some-kept (spec_called s name) s _ (λ spec d. some-kept (top_called s name) s _ (λ net c.
      begin-kept (pass s j kinds.Select) j name spec.top (given_named x) None net ∙ changed-kept s j _ (λ y. ignores.due y _))))
  part_kept s (events.CompleteWorklet j) said ok may stays new run = some-kept (item_at s j) s _ (λ x e. end_net-kept s j made_by_worklet x stays)
  part_kept s (events.Raise j kind node n) said ok may stays new run = put-kept s (child j n) _ (or_parts _ false new).0
  part_kept s (events.Prim r p) said ok may stays new run = primitive-kept s r run p said may stays
  part_kept s (events.Compensated r) said ok may stays new run =
      site-kept s (after s (events.Compensated r) said) (others_stay k s (events.Compensated r) said refl stays run)
  part_kept s (events.Suspend j) said ok may stays new run = mark-kept s (events.Suspend j) j true refl may
  part_kept s (events.Continue j) said ok may stays new run = mark-kept s (events.Continue j) j false refl may
  part_kept s (events.Advance n) said ok may stays new run = refl
