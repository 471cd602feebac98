-- Changes and restrictions of what stands, one behind the other.
use Rattle.std.specs.Prelude.{◌≡◌, Bool, true, false, not, cond, Option, Some, None, option_map, refl}
use Rattle.std.specs.Ordering.{eq_by_cmp}
use Rattle.std.proofs.Common.{sym, ◌∙◌, ap, subst}
use Rattle.yw_base.specs.Identity.{under}
use Rattle.yw_state.proofs.MapLemmas.{by_name, by_test, get-retain, get-update_other, get-update_same, never, retain_stands, same_map, tied, tied_self}
use Rattle.yw_state.proofs.RetainWell.{retained_is_well}
use Rattle.yw_state.proofs.Under.{outside}
use Rattle.yw_state.specs.After.{with_sites}
use Rattle.yw_state.specs.Identity.{Ident}
use Rattle.yw_state.specs.Map.{get, lexical, retain, update}
use Rattle.yw_state.specs.State.{State, Site, Sites, drop}
use Rattle.yw_state.specs.Texts.{Reader}
use Rattle.yw_state.specs.Well.{IsWell, NumbersFit}

-- at an identity, and elsewhere
pub at_each : (j : Ident) (P : Ident → Type 0) → P j → ((q : Ident) → ¬ (q ≡ j) → P q) → (q : Ident) → P q
at_each j P here elsewhere q =
    by_test (eq_by_cmp lexical q j)
    (λ e. subst P (sym (tied by_name q j e)) here)
    (λ e. elsewhere q (λ same. never (sym e ∙ ap (λ k. eq_by_cmp lexical k j) same ∙ tied_self by_name j)))

mapped_twice : (f g : Site → Site) (o : Option Site) → option_map g (option_map f o) ≡ option_map (λ x. g (f x)) o
mapped_twice f g None = refl
mapped_twice f g (Some x) = refl

-- two changes at one identity are one
pub updated_twice : (m : Sites) (j : Ident) (f g : Site → Site) → update (update m j f) j g ≡ update m j (λ x. g (f x))
updated_twice m j f g = same_map by_name _ _ (at_each j (λ q. get (update (update m j f) j g) q ≡ get (update m j (λ x. g (f x))) q)
    (get-update_same by_name (update m j f) j g
    ∙ ap (option_map g) (get-update_same by_name m j f)
    ∙ mapped_twice f g (get m j)
    ∙ sym (get-update_same by_name m j (λ x. g (f x))))
    (λ q other.
    get-update_other by_name (update m j f) j g q other
    ∙ get-update_other by_name m j f q other
    ∙ sym (get-update_other by_name m j (λ x. g (f x)) q other)))

-- changes at two identities, in either order
pub updates_swap : (m : Sites) (j k : Ident) (f g : Site → Site) → ¬ (j ≡ k) → update (update m k g) j f ≡ update (update m j f) k g
updates_swap m j k f g apart = same_map by_name _ _ (at_each j (λ q. get (update (update m k g) j f) q ≡ get (update (update m j f) k g) q)
    (get-update_same by_name (update m k g) j f
    ∙ ap (option_map f) (get-update_other by_name m k g j apart)
    ∙ sym (get-update_other by_name (update m j f) k g j apart ∙ get-update_same by_name m j f))
    (λ q other.
    get-update_other by_name (update m k g) j f q other
    ∙ at_each k (λ p. ¬ (p ≡ j) → get (update m k g) p ≡ get (update (update m j f) k g) p)
    (λ not_j. get-update_same by_name m k g ∙ sym (get-update_same by_name (update m j f) k g ∙ ap (option_map g) (get-update_other by_name m j f k not_j)))
    (λ p not_k not_j. get-update_other by_name m k g p not_k ∙ sym (get-update_other by_name (update m j f) k g p not_k ∙ get-update_other by_name m j f p not_j))
    q other))

mapped_where : (b : Bool) (f : Site → Site) (o : Option Site) → cond b (option_map f o) None ≡ option_map f (cond b o None)
mapped_where true f o = refl
mapped_where false f o = refl

-- a change before a restriction, or behind it
pub retain_update : (m : Sites) (p : Ident → Bool) (k : Ident) (f : Site → Site) → retain (update m k f) p ≡ update (retain m p) k f
retain_update m p k f = same_map by_name _ _ (at_each k (λ q. get (retain (update m k f) p) q ≡ get (update (retain m p) k f) q)
    (get-retain by_name (update m k f) p k
    ∙ ap (λ o. cond (p k) o None) (get-update_same by_name m k f)
    ∙ mapped_where (p k) f (get m k)
    ∙ sym (get-update_same by_name (retain m p) k f ∙ ap (option_map f) (get-retain by_name m p k)))
    (λ q other.
    get-retain by_name (update m k f) p q
    ∙ ap (λ o. cond (p q) o None) (get-update_other by_name m k f q other)
    ∙ sym (get-update_other by_name (retain m p) k f q other ∙ get-retain by_name m p q)))

module _ (reader : Reader) (s : State) (well : IsWell reader s) where
  -- what is left has its numbers still
  pub numbers_left : (p : Ident → Bool) → NumbersFit (with_sites s (retain s.sites p))
  numbers_left p =
      record {
        least = well.numbers.least;
        most = well.numbers.most;
        identities = λ k x e. well.numbers.identities k x (retain_stands by_name s.sites p k x e).0;
        drawn = λ k x e. well.numbers.drawn k x (retain_stands by_name s.sites p k x e).0;
        ended_some = well.numbers.ended_some;
        ended_drawn = well.numbers.ended_drawn;
        over = λ k x e. well.numbers.over k x (retain_stands by_name s.sites p k x e).0;
      }

  pub dropped_is_well : (j : Ident) → IsWell reader (with_sites s (drop s.sites j))
  dropped_is_well j = retained_is_well s (λ k. not (under k j)) s.ended (outside j) reader (numbers_left (λ k. not (under k j))) well
