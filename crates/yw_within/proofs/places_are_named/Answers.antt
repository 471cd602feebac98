use Rattle.yw_within.proofs.Finding as finding
use Rattle.yw_within.proofs.places_are_named.Goals as goal

pub returns : goal.returns
returns c = λ spec net cs within all. finding.places_are_named spec net within cs all
