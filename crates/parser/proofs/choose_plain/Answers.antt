use Rattle.parser.proofs.Located.{locatable-anew, refusal}
use Rattle.parser.proofs.choose_plain.Goals as goal

pub locate_anew-place-requires : goal.locate_anew-place-requires
locate_anew-place-requires c = locatable-anew c.requires c.read.auto.main

pub returns-in-Err-NoReading : goal.returns-in-Err-NoReading
returns-in-Err-NoReading c =
    λ g ready. refusal g c.args.text.now (rw c.in-Err-NoReading.field-0-is at (c.in-Err-NoReading.ensures g ready)) (c.locate_anew-place.ensures g ready)
