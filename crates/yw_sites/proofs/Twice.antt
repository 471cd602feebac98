-- Two changes of a map at one identity.
use Rattle.std.proofs.Common.{None, Option, Some, ap, refl, subst, sym, ◌∙◌, ◌≡◌}
use Rattle.std.specs.Ordering.{eq_by_cmp}
use Rattle.std.specs.Prelude.{option_map}
use Rattle.yw_state.proofs.MapLemmas.{by_name, get-update_other, get-update_same, same_map, tied, tied_self}
use Rattle.yw_state.proofs.Tests.{by_test, never}
use Rattle.yw_state.specs.Identity.{Ident}
use Rattle.yw_state.specs.Map.{get, lexical, update}
use Rattle.yw_state.specs.State.{Site, Sites}

at_each : (j : Ident) (P : Ident → Type 0) → P j → ((q : Ident) → ¬ (q ≡ j) → P q) → (q : Ident) → P q
at_each j P here elsewhere q =
    by_test (eq_by_cmp lexical q j)
    (λ e. subst P (sym (tied by_name q j e)) here)
    (λ e. elsewhere q (λ same. never (sym e ∙ ap (λ k. eq_by_cmp lexical k j) same ∙ tied_self by_name j)))

mapped_twice : (f g : Site → Site) (o : Option Site) → option_map g (option_map f o) ≡ option_map (λ x. g (f x)) o
mapped_twice f g None = refl
mapped_twice f g (Some x) = refl

-- they are one
pub updated_twice : (m : Sites) (j : Ident) (f g : Site → Site) → update (update m j f) j g ≡ update m j (λ x. g (f x))
updated_twice m j f g = same_map by_name _ _ (at_each j (λ q. get (update (update m j f) j g) q ≡ get (update m j (λ x. g (f x))) q)
    (get-update_same by_name (update m j f) j g
    ∙ ap (option_map g) (get-update_same by_name m j f)
    ∙ mapped_twice f g (get m j)
    ∙ sym (get-update_same by_name m j (λ x. g (f x))))
    (λ q other.
    get-update_other by_name (update m j f) j g q other
    ∙ get-update_other by_name m j f q other
    ∙ sym (get-update_other by_name m j (λ x. g (f x)) q other)))
