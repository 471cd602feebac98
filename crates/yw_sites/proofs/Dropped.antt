-- What a look-up answers where all under some identities is gone.
use Rattle.std.proofs.Common.{Bool, List, None, Option, [], ap, cond, false, refl, sym, true, ◌∙◌, ◌∷◌, ◌≡◌}
use Rattle.std.specs.Prelude.{not, ◌||◌}
use Rattle.yw_base.specs.Identity.{under}
use Rattle.yw_sites.proofs.Prefix.{child_strict, under_child, under_refl}
use Rattle.yw_sites.specs.Idents.{Each, IsChild}
use Rattle.yw_state.proofs.MapLemmas.{by_name, get-retain_gone, get-retain_kept}
use Rattle.yw_state.proofs.Tests.{by_test, never}
use Rattle.yw_state.specs.Identity.{Ident}
use Rattle.yw_state.specs.Map.{get}
use Rattle.yw_state.specs.State.{Site, Sites, drop, drop_all}
use Rattle.yw_sites.specs.Entries.{under_any}

pub get-drop_all : (m : Sites) (js : List Ident) (q : Ident) → get (drop_all m js) q ≡ cond (under_any q js) None (get m q)
get-drop_all m [] q = refl
get-drop_all m (j ∷ js) q =
    get-drop_all (drop m j) js q
    ∙ by_test (under q j)
    (λ (u : under q j ≡ true).
    ap (cond (under_any q js) None) (get-retain_gone by_name m (λ k. not (under k j)) q (ap not u)) ∙ both_none (under_any q js)
    ∙ sym (ap (λ b. cond (b || under_any q js) None (get m q)) u))
    (λ (u : under q j ≡ false).
    ap (cond (under_any q js) None) (get-retain_kept by_name m (λ k. not (under k j)) q (ap not u))
    ∙ sym (ap (λ b. cond (b || under_any q js) None (get m q)) u))
  where
    both_none : (b : Bool) → cond b None None ≡ (let n : Option Site = None in n)
    both_none true = refl
    both_none false = refl

pub some_of : {G : Type 0} (q : Ident) (js : List Ident) → under_any q js ≡ true → Each (λ j. under q j ≡ true → G) js → G
some_of q [] e h = never e
some_of q (j ∷ js) e h =
    by_test (under q j)
    (λ (u : under q j ≡ true). h.0 u)
    (λ (u : under q j ≡ false). some_of q js (sym (ap (λ b. b || under_any q js) u) ∙ e) h.1)

pub none_of : (q : Ident) (js : List Ident) → under_any q js ≡ false → Each (λ j. under q j ≡ false) js
none_of q [] e = tt
none_of q (j ∷ js) e =
    by_test (under q j)
    (λ (u : under q j ≡ true). never (sym e ∙ ap (λ b. b || under_any q js) u))
    (λ (u : under q j ≡ false). (u, none_of q js (sym (ap (λ b. b || under_any q js) u) ∙ e)))

-- ---- what a restriction to some children leaves of all else
pub untouched : (i q : Ident) (js : List Ident) → Each (IsChild i) js → under q i ≡ false → under_any q js ≡ false
untouched i q [] c u = refl
untouched i q (j ∷ js) c u = ap (λ b. b || under_any q js) (under_child q i j c.0 u) ∙ untouched i q js c.1 u

pub above : (i : Ident) (js : List Ident) → Each (IsChild i) js → under_any i js ≡ false
above i [] c = refl
above i (j ∷ js) c =
    by_test (under i j)
    (λ (t : under i j ≡ true). never (sym (child_strict i i j c.0 (under_refl i)) ∙ t))
    (λ (t : under i j ≡ false). ap (λ b. b || under_any i js) t ∙ above i js c.1)
