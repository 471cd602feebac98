-- Where nothing stands, no change of what stands brings anything.
use Rattle.std.specs.Prelude.{◌≡◌, ℕ, Bool, true, false, List, [], ◌∷◌, Option, Some, None, option_and_then, option_map, refl, fold, map, if◌then◌else◌}
use Rattle.std.specs.Ordering.{eq_by_cmp}
use Rattle.std.proofs.Common.{sym, ◌∙◌, ap, subst}
use Rattle.yw_state.specs.After.{change, make_select_due, where_some, without_items}
use Rattle.yw_state.specs.Exlets.{end_if_over}
use Rattle.yw_state.specs.Identity.{Ident}
use Rattle.yw_state.specs.Map.{get, lexical, retain, update}
use Rattle.yw_state.specs.State.{Site, Sites, State, TaskAt, drop, drop_all, items_of}
use Rattle.yw_state.proofs.MapLemmas.{by_name, by_option, by_test, get-update_other, get-update_same, never, nowhere, retain_stands, tied, tied_self, update_stands}

-- the identities of the items of a task
abbrev pub idents_of : State → Ident → ℕ → List Ident
idents_of s i t = map (λ e. e.0) (items_of s i t)

-- nothing stands at k
abbrev pub IsGone : Ident → State → Type 0
IsGone k s = get s.sites k ≡ None

pub update-keeps : (m : Sites) (j : Ident) (f : Site → Site) (k : Ident) → get m k ≡ None → get (update m j f) k ≡ None
update-keeps m j f k none = by_option (get (update m j f) k) (λ e. e) (λ y e. nowhere (sym none ∙ (update_stands by_name m j f k y e).1))

pub retain-keeps : (m : Sites) (p : Ident → Bool) (k : Ident) → get m k ≡ None → get (retain m p) k ≡ None
retain-keeps m p k none = by_option (get (retain m p) k) (λ e. e) (λ y e. nowhere (sym none ∙ (retain_stands by_name m p k y e).0))

pub drop_all-keeps : (js : List Ident) (m : Sites) (k : Ident) → get m k ≡ None → get (drop_all m js) k ≡ None
drop_all-keeps [] m k none = none
drop_all-keeps (j ∷ js) m k none = drop_all-keeps js (drop m j) k (retain-keeps m _ k none)

-- a part of what stands that a change leaves
left_by : {A : Type 0} (part : Site → Option A) (f : Site → Site) → ((x : Site) → part (f x) ≡ part x) → (o : Option Site) → option_and_then part (option_map f o) ≡ option_and_then part o
left_by part f leaves None = refl
left_by part f leaves (Some x) = leaves x

pub part-kept : {A : Type 0} (part : Site → Option A) (f : Site → Site) → ((x : Site) → part (f x) ≡ part x) → (m : Sites) (j k : Ident) → option_and_then part (get (update m j f) k) ≡ option_and_then part (get m k)
part-kept part f leaves m j k =
    by_test (eq_by_cmp lexical k j)
    (λ here. subst (λ (i : Ident). option_and_then part (get (update m i f) k) ≡ option_and_then part (get m k)) (tied by_name k j here)
    (ap (option_and_then part) (get-update_same by_name m k f) ∙ left_by part f leaves (get m k)))
    (λ there. ap (option_and_then part) (get-update_other by_name m j f k (λ same. never (sym there ∙ ap (eq_by_cmp lexical k) (sym same) ∙ tied_self by_name k))))

module _ (k : Ident) where
  pub change-keeps : (s : State) (j : Ident) (f : Site → Site) → IsGone k s → IsGone k (change s j f)
  change-keeps s j f none = update-keeps s.sites j f k none

  pub if-keeps : (b : Bool) (s t : State) → IsGone k s → IsGone k t → IsGone k (if b then s else t)
  if-keeps true s t there here = there
  if-keeps false s t there here = here

  pub make_select_due-keeps : (s : State) (j : Ident) (x : TaskAt) → IsGone k s → IsGone k (make_select_due s j x)
  make_select_due-keeps s j x none = if-keeps _ _ _ (change-keeps s j _ none) none

  pub end_if_over-keeps : (s : State) (r : Ident) → IsGone k s → IsGone k (end_if_over s r)
  end_if_over-keeps s r none = if-keeps _ _ _ (retain-keeps s.sites _ k none) none

  pub each-keeps : (i : Ident) (ts : List ℕ) (s : State) → IsGone k s → IsGone k (fold (without_items i) s ts)
  each-keeps i [] s none = none
  each-keeps i (t ∷ ts) s none = each-keeps i ts (without_items i s t) (drop_all-keeps (idents_of s i t) s.sites k none)

  -- where something is done, it is gone behind that
  pub where_some-gone : {A : Type 0} (o : Option A) (s : State) (f : A → State) (x : A) → o ≡ Some x → IsGone k (f x) → IsGone k (where_some o s f)
  where_some-gone o s f x e gone = rw e gone
