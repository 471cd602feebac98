-- Whether flows go to and from places of the net, task by task.
use Rattle.std.proofs.Common.{◌≡◌, ℕ, zero, suc, ◌<◌, Bool, true, List, [], ◌∷◌, length, get_or, arith, sym, ◌∙◌}
use Rattle.std.specs.Prelude.{◌&&◌, Contains, nat_lt, slice_get}
use Rattle.std.specs.List.{list_all}
use Rattle.std.specs.Option.{option_map_or}
use Rattle.std.proofs.lemmas.Bool.{and_parts, ltb-true}
use Rattle.yw_path.proofs.FirstLemmas.{contains-nil}
use Rattle.yw_path.specs.Direct.{HasItsPlaces, are_below, fits}
use Rattle.yw_spec.specs.Net.{places_after, places_before}
use Rattle.yw_spec.specs.declared.spec.Net.{Net}
use Rattle.yw_spec.specs.declared.task.Task.{Task}

below_at : (n : ℕ) (cs : List ℕ) (k c : ℕ) → are_below n cs ≡ true → k < length cs → get_or cs k c ≡ c → c < n
below_at n [] k c all lt e = absurd (omega (arith, lt))
below_at n (x ∷ cs) zero c all lt e = let parts = and_parts (nat_lt x n) (are_below n cs) all in omega (arith, ltb-true x n parts.0, e)
below_at n (x ∷ cs) (suc k) c all lt e = let parts = and_parts (nat_lt x n) (are_below n cs) all in below_at n cs k c parts.1 (omega (arith, lt)) e

before_there : (n : ℕ) (ts : List Task) (t c : ℕ) → list_all (fits n) ts ≡ true → Contains (option_map_or (λ (x : Task). x.before) (slice_get ts t) []) c → c < n
before_there n [] t c all h = absurd (contains-nil c h)
before_there n (x ∷ ts) zero c all h =
    let parts = and_parts (fits n x) (list_all (fits n) ts) all in
    let own = and_parts (are_below n x.before) (are_below n x.after) parts.0 in
    below_at n x.before h.0 c own.0 h.1 h.2
before_there n (x ∷ ts) (suc t) c all h = let parts = and_parts (fits n x) (list_all (fits n) ts) all in before_there n ts t c parts.1 h

after_there : (n : ℕ) (ts : List Task) (t c : ℕ) → list_all (fits n) ts ≡ true → Contains (option_map_or (λ (x : Task). x.after) (slice_get ts t) []) c → c < n
after_there n [] t c all h = absurd (contains-nil c h)
after_there n (x ∷ ts) zero c all h =
    let parts = and_parts (fits n x) (list_all (fits n) ts) all in
    let own = and_parts (are_below n x.before) (are_below n x.after) parts.0 in
    below_at n x.after h.0 c own.1 h.1 h.2
after_there n (x ∷ ts) (suc t) c all h = let parts = and_parts (fits n x) (list_all (fits n) ts) all in after_there n ts t c parts.1 h

-- where each task fits, flows go to and from places of the net
pub fitting : (net : Net) (found : Bool) → found ≡ list_all (fits (length net.places)) net.tasks → found ≡ true → HasItsPlaces net
fitting net found e holds = record {
  before = λ t c h. before_there (length net.places) net.tasks t c (sym e ∙ holds) h;
  after = λ t c h. after_there (length net.places) net.tasks t c (sym e ∙ holds) h;
}
