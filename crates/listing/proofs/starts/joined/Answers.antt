use Rattle.listing.proofs.Untouched.{or_above}
use Rattle.listing.proofs.starts.joined.Goals as goal

pub returns : goal.returns
returns c = or_above _ _
