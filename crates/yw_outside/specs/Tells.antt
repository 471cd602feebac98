-- What saying a text does. The desk was `old` and is `new`.
use Rattle.std.specs.Prelude.{◌≡◌, ◌++◌, ℕ, List}
use Rattle.yw_outside.specs.Image.{SaysPart, Speaks}
use Rattle.yw_outside.specs.Moments.{After}
use Rattle.yw_outside.specs.Since.{LeavesOnly}
use Rattle.yw_outside.specs.declared.desk.Desk.{Ghosts}

-- A text is said, all of it or a prefix; the files stay, also in what a crash at any moment leaves.
pub record Tells {D : Type 0} (g : Ghosts D) (text : List ℕ) (old new : D) : Type 0 where
  pub a : (g.state new).a ≡ (g.state old).a
  pub b : (g.state new).b ≡ (g.state old).b
  pub said : SaysPart (g.state old).said text (g.state new).said
  pub moments : LeavesOnly g old new (After (Speaks text) (g.may_leave old))

-- All of it is said.
pub record TellsWhole {D : Type 0} (g : Ghosts D) (text : List ℕ) (old new : D) : Type 0 where
  pub tells : Tells g text old new
  pub whole : (g.state new).said ≡ (g.state old).said ++ text
