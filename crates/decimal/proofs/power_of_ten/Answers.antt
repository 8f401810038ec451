use Rattle.decimal.proofs.Constants.{powers, power_at}
use Rattle.decimal.proofs.power_of_ten.Goals as goal

pub returns : goal.returns
unfolding powers
returns c = power_at c.args.n c.requires
