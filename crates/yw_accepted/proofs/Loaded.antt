-- Each specification that can be loaded is sound and within.
use Rattle.std.specs.Prelude.{◌≡◌, ℕ, List, Bool, true, false, cond, Result, Ok, Err}
use Rattle.std.specs.Str.{is_utf8}
use Rattle.yw_accepted.proofs.Soundness.{is_sound, said_inits}
use Rattle.yw_accepted.proofs.Whole.{is_within}
use Rattle.yw_texts.specs.Accepted.{document_in}
use Rattle.yw_texts.specs.Texts.{reader}
use Rattle.yw_read.specs.Reading.{spec_in}
use Rattle.yw_read.specs.declared.raw.RawSpec.{RawSpec}
use Rattle.yw_read.specs.declared.raw.ReadFault.{ReadFault}
use Rattle.yw_read.specs.declared.raw.ReadFault.TheVariants.{NotToml}
use Rattle.yw_sound.specs.Sound.{ReadsSound}
use Rattle.yw_within.specs.Within.{ReadsWithin}

-- a document is what its text says
text_says : (text : List ℕ) (raw : RawSpec) → document_in text ≡ Ok raw → spec_in text ≡ Ok raw
unfolding document_in
text_says text raw is = by_bytes (is_utf8 text) (spec_in text) is
  where
    by_bytes : (b : Bool) (said : Result RawSpec ReadFault) → cond b said (Err NotToml) ≡ Ok raw → said ≡ Ok raw
    by_bytes true said e = e
    by_bytes false said e = cc

pub accepted_are_sound : ReadsSound reader
accepted_are_sound text spec a = is_sound a.raw a.accepted (said_inits text a.raw (text_says text a.raw a.says)) spec a.is_spec

pub accepted_are_within : ReadsWithin reader
accepted_are_within text spec a = is_within a.raw a.accepted spec a.is_spec (accepted_are_sound text spec a)
