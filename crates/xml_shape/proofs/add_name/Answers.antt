use mathlib.Core.Path.{sym}
use lib.Seq.{set_out}
use Rattle.xml_shape.proofs.add_name.Goals as goal

pub returns-else-count-seen : goal.returns-else-count-seen
returns-else-count-seen c =
    (sym (set_out c.args.seen.now c.args.count c.args.token c.if-count-seen.false), c.is_seen-found.ensures)
