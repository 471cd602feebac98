-- How tasks of a net lead to each other through one place.
use Rattle.std.specs.Prelude.{◌≡◌, ℕ, ◌<◌, ◌&&◌, ◌⊎◌, Bool, List, [], Contains, get_or, length, nat_lt}
use Rattle.std.specs.List.{list_all}
use Rattle.yw_path.specs.Bits.{Has, words_for}
use Rattle.yw_path.specs.Rows.{AreRows, Leads}
use Rattle.yw_spec.specs.Net.{places_after, places_before}
use Rattle.yw_spec.specs.declared.spec.Net.{Net}
use Rattle.yw_spec.specs.declared.task.Task.{Task}

-- the flows from tasks and to tasks go to and from places of the net
pub record HasItsPlaces (net : Net) : Type 0 where
  pub before : (t c : ℕ) → Contains (places_before net t) c → c < length net.places
  pub after : (t c : ℕ) → Contains (places_after net t) c → c < length net.places

-- a task leads to a place from which a flow leads to another task
abbrev pub Feeds : Net → ℕ → ℕ → Type 0
Feeds net u t = (c : ℕ) × Contains (places_after net u) c × Contains (places_before net t) c

-- For each place a list of tasks is kept. Task t was added to those of places of which P holds, and nothing else has changed.
pub record PushesEach (P : ℕ → Type 0) (t : ℕ) (old new : List (List ℕ)) : Type 0 where
  pub len : length new ≡ length old
  pub only : (c u : ℕ) → Contains (get_or new c []) u → Contains (get_or old c []) u ⊎ ((u ≡ t) × P c)
  pub keeps : (c u : ℕ) → Contains (get_or old c []) u → Contains (get_or new c []) u
  pub all : (c : ℕ) → P c → Contains (get_or new c []) t

-- For each place there is a list of the tasks below `count` that lead to it.
pub record AreInto (net : Net) (count : ℕ) (into : List (List ℕ)) : Type 0 where
  pub len : length into ≡ length net.places
  pub only : (c u : ℕ) → Contains (get_or into c []) u → (u < count) × Contains (places_after net u) c
  pub all : (c u : ℕ) → u < count → Contains (places_after net u) c → Contains (get_or into c []) u

-- Each task leads to itself, and to those that it feeds.
pub record AreDirect (net : Net) (rows : List (List ℕ)) : Type 0 where
  pub are_rows : AreRows (length net.tasks) rows
  pub only : (u t : ℕ) → Leads rows u t → (u ≡ t) ⊎ Feeds net u t
  pub itself : (t : ℕ) → t < length net.tasks → Leads rows t t
  pub all : (u t : ℕ) → Feeds net u t → Leads rows u t

-- Task t is in its row, and so are those that lead to a place of which P holds.
pub record IsDirectRow (count t : ℕ) (P : ℕ → Type 0) (into : List (List ℕ)) (row : List ℕ) : Type 0 where
  pub len : length row ≡ words_for count
  pub only : (u : ℕ) → Has row u → (u ≡ t) ⊎ ((c : ℕ) × P c × Contains (get_or into c []) u)
  pub itself : Has row t
  pub all : (c u : ℕ) → P c → Contains (get_or into c []) u → Has row u

-- all of them are below n
abbrev pub are_below : ℕ → List ℕ → Bool
are_below n cs = list_all (λ c. nat_lt c n) cs

-- the task's flows go to and from numbers below n
abbrev pub fits : ℕ → Task → Bool
fits n t = are_below n t.before && are_below n t.after

-- each task's flows do
abbrev pub has_its_places : Net → Bool
has_its_places net = list_all (fits (length net.places)) net.tasks
