-- From how a run ends to what its status says.
use Rattle.std.proofs.Common.{◌≡◌, ◌⊎◌, ◌≤◌, ℕ, List, length, Option, inl, inr, refl, sym, subst, arith}
use Rattle.yw_outside.specs.Moments.{IsSettled}
use Rattle.yw_outside.specs.declared.desk.File.{File}
use Rattle.yw_journal.specs.Files.{Content}
use Rattle.yw_journal.specs.declared.journal.Journal.{Journal}
use Rattle.yw_state.specs.State.{State}
use Rattle.yw_serve.specs.Damage.{IsDamagedNow}
use Rattle.yw_serve.specs.Ends.{EndsAs, EndsShort}
use Rattle.yw_serve.specs.Notices.{damage_line, full_line}
use Rattle.yw_serve.specs.Opening.{IsOpened, OpensBy}
use Rattle.yw_serve.specs.Session.{server_state, state_of}
use Rattle.yw_serve.specs.declared.server.Server.{Server}
use Rattle.yw_serve.specs.declared.run.Ending.{Ending}
use Rattle.yw_serve.specs.declared.session.Session.{Session}
use Rattle.yw_serve.specs.Served.{RunEnds, RunsFrom, OpeningEnds, IsTold}
use Rattle.yw_serve.specs.declared.server.Stop.TheVariants as stops
use Rattle.yw_serve.specs.declared.top.Status.{Status}
use Rattle.yw_serve.specs.declared.top.Status.TheVariants.{Ok, Findings, Usage, Disk, Memory, Read, Write, Damaged, Full, InputLimit}
use Rattle.yw_outside.specs.declared.desk.Desk.{Ghosts}

module _ {D : Type 0} (g : Ghosts D)
    (c : Content) (s : State) (full_at limit : ℕ) (bytes : List ℕ) (left : Option (List ℕ)) (piece : ℕ) (old : D) where
  -- where a line had no room, by what became of its notice
  pub full_ends : (r : Status) (n : ℕ) (mid new : D) → EndsShort g c s full_at limit (stops.Full n) bytes left piece old mid
      → IsTold g r Full (full_line n) mid new → RunEnds g r c s full_at limit bytes left piece old new
  full_ends r n mid new short told =
      let with_status : (q : Status) → r ≡ q → RunEnds g q c s full_at limit bytes left piece old new → RunEnds g r c s full_at limit bytes left piece old new =
      λ q e h. subst (λ (x : Status). RunEnds g x c s full_at limit bytes left piece old new) (sym e) h in
      elim told [
        | inl whole ↦ with_status Full whole.0 (record { length = n; mid = mid; short = short; said = whole.1 })
        | inr other ↦ elim other [
          | inl part ↦ with_status Write part.0 (inr (record { length = n; mid = mid; short = short; said = part.1 }))
          | inr none ↦ with_status Memory none.0 (inr (record { length = n; mid = mid; short = short; said = none.1 }))
        ]
      ]

  -- of the statuses of a run, those whose cause isn't there don't come
  pub completed : (r : Status) (new : D) (DiskRose ReadRose WriteRose : Type 0) → RunEnds g r c s full_at limit bytes left piece old new → length bytes ≤ limit
      → (r ≡ Disk → DiskRose) → (r ≡ Read → ReadRose) → (r ≡ Write → WriteRose) → (DiskRose → ⊥) → (ReadRose → ⊥) → (WriteRose → ⊥) → (r ≡ Ok) ⊎ (r ≡ Memory) ⊎ (r ≡ Full)
  completed Ok new DR RR WR e small disk read write no_disk no_read no_write = inl refl
  completed Memory new DR RR WR e small disk read write no_disk no_read no_write = inr (inl refl)
  completed Full new DR RR WR e small disk read write no_disk no_read no_write = inr (inr refl)
  completed Disk new DR RR WR e small disk read write no_disk no_read no_write = absurd (no_disk (disk refl))
  completed Read new DR RR WR e small disk read write no_disk no_read no_write = absurd (no_read (read refl))
  completed Write new DR RR WR e small disk read write no_disk no_read no_write = absurd (no_write (write refl))
  completed InputLimit new DR RR WR e small disk read write no_disk no_read no_write = absurd (omega (arith, e.past))
  completed Findings new DR RR WR e small disk read write no_disk no_read no_write = absurd e
  completed Usage new DR RR WR e small disk read write no_disk no_read no_write = absurd e
  completed Damaged new DR RR WR e small disk read write no_disk no_read no_write = absurd e

-- what a session's ending says, with its state and journal given
pub ends_from : {D : Type 0} (g : Ghosts D)
    (session : Session) (s : State) (journal : Journal) → state_of session ≡ s → session.server.journal ≡ journal
    → (ending : Ending) (c : Content) (limit piece : ℕ) (bytes : List ℕ) (left : Option (List ℕ)) (old new : D)
    → EndsAs g ending c (state_of session) session.server.journal.limit limit bytes left piece old new
    → EndsAs g ending c s journal.limit limit bytes left piece old new
ends_from g session s journal same_state same_journal ending c limit piece bytes left old new ends =
    subst (λ (j : Journal). EndsAs g ending c s j.limit limit bytes left piece old new) same_journal
    (subst (λ (t : State). EndsAs g ending c t session.server.journal.limit limit bytes left piece old new) same_state ends)

-- A damage was found, by what became of its line.
pub damage_ends : {D : Type 0} (g : Ghosts D)
    (r : Status) (f : File) (place : ℕ) (old mid new : D) → IsDamagedNow (g.state old) f place → g.state mid ≡ g.state old
    → IsSettled (g.state mid) (g.may_leave mid) → OpensBy g old mid → IsTold g r Damaged (damage_line f place) mid new
    → OpeningEnds g r old new
damage_ends g r f place old mid new damaged same settled opening told =
    let with_status : (q : Status) → r ≡ q → OpeningEnds g q old new → OpeningEnds g r old new =
    λ q e h. subst (λ (x : Status). OpeningEnds g x old new) (sym e) h in
    elim told [
      | inl whole ↦ with_status Damaged whole.0 (record { file = f; place = place; damaged = damaged; mid = mid; same = same; settled = settled; opening = opening; said = whole.1 })
      | inr other ↦ elim other [
        | inl part ↦ with_status Write part.0 (record { file = f; place = place; damaged = damaged; mid = mid; same = same; settled = settled; opening = opening; said = part.1 })
        | inr none ↦ with_status Memory none.0 (inr (record { file = f; place = place; damaged = damaged; mid = mid; same = same; settled = settled; opening = opening; said = none.1 }))
      ]
    ]

-- The files were opened, and the lines answered over them.
pub runs_from : {D : Type 0} (g : Ghosts D)
    (server : Server) (limit full_at piece : ℕ) (bytes : List ℕ) (left : Option (List ℕ)) (status : Status) (old mid new : D) → (o : IsOpened server (g.state old) (g.state mid))
    → IsSettled (g.state mid) (g.may_leave mid) → OpensBy g old mid → server.journal.limit ≡ full_at
    → RunEnds g status o.now (server_state server) server.journal.limit limit bytes left piece mid new
    → RunsFrom g (λ c s start. RunEnds g status c s full_at limit bytes left piece start new) old
runs_from g server limit full_at piece bytes left status old mid new o settled opening limited ends = record {
  s = server_state server;
  before = o.before;
  held = o.held;
  c = o.now;
  opened = mid;
  holds = o.holds;
  content = o.content;
  settled = settled;
  b = o.other;
  said = o.said;
  opening = opening;
  ends = subst (λ (n : ℕ). RunEnds g status o.now (server_state server) n limit bytes left piece mid new) limited ends;
}

-- of the statuses of an opening, those whose cause isn't there don't come
pub completed_opening : {D : Type 0} (g : Ghosts D)
    (r : Status) (old new : D) (DiskRose WriteRose : Type 0) → OpeningEnds g r old new → ((f : File) (place : ℕ) → IsDamagedNow (g.state old) f place → ⊥)
    → (r ≡ Disk → DiskRose) → (r ≡ Write → WriteRose) → (DiskRose → ⊥) → (WriteRose → ⊥) → (r ≡ Ok) ⊎ (r ≡ Memory) ⊎ (r ≡ Full)
completed_opening g Memory old new DR WR e sound disk write no_disk no_write = inr (inl refl)
completed_opening g Disk old new DR WR e sound disk write no_disk no_write = absurd (no_disk (disk refl))
completed_opening g Write old new DR WR e sound disk write no_disk no_write = absurd (no_write (write refl))
completed_opening g Damaged old new DR WR e sound disk write no_disk no_write = absurd (sound e.file e.place e.damaged)
completed_opening g Ok old new DR WR e sound disk write no_disk no_write = absurd e
completed_opening g Findings old new DR WR e sound disk write no_disk no_write = absurd e
completed_opening g Usage old new DR WR e sound disk write no_disk no_write = absurd e
completed_opening g Read old new DR WR e sound disk write no_disk no_write = absurd e
completed_opening g Full old new DR WR e sound disk write no_disk no_write = absurd e
completed_opening g InputLimit old new DR WR e sound disk write no_disk no_write = absurd e
