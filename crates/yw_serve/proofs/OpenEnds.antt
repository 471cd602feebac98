-- From how the files are opened to what the statuses say.
use Rattle.std.proofs.Common.{◌≡◌, ◌≢◌, ◌⊎◌, Result, Err, inl, inr, ⊎_elim}
use Rattle.yw_serve.specs.Opening.{IsUnsynced, OpensBy}
use Rattle.yw_serve.specs.Served.{OpensInPart}
use Rattle.yw_serve.specs.declared.opening.StartFault.{StartFault}
use Rattle.yw_serve.specs.declared.opening.StartFault.TheVariants.{Disk}
use Rattle.yw_serve.specs.declared.server.Server.{Server}
use Rattle.yw_outside.specs.declared.desk.Desk.{Ghosts}

module _ {D : Type 0} (g : Ghosts D) where
  module _ (result : Result Server StartFault) (old new : D)
      (opening : OpensBy g old new ⊎ ((result ≡ Err Disk) × IsUnsynced g old new)) where
    pub opens_in_part : (g.state new).said ≡ (g.state old).said → OpensInPart g old new
    opens_in_part said = record {
      said = said;
      opening = ⊎_elim
          (λ (o : OpensBy g old new). inl o)
          (λ (u : (result ≡ Err Disk) × IsUnsynced g old new). inr u.1)
          opening;
    }

    -- where no call failed, the files were synced
    pub opens_by : result ≢ Err Disk → OpensBy g old new
    opens_by other = ⊎_elim
        (λ (o : OpensBy g old new). o)
        (λ (u : (result ≡ Err Disk) × IsUnsynced g old new). absurd (other u.0))
        opening
