use native.Mathlib.Omega.{arith}
use mathlib.Core.Path.{refl}
use Prim.Native.Nat.{◌+◌, ◌*◌}
use lib.ListN.{get_or}
use Rattle.items.proofs.Links.{single-written}
use Rattle.items.proofs.link.resolve.Goals as goal

pub returns : goal.returns
returns c =
    single-written c.args.table.now c.args.p c.kind_by-kind.result
    (get_or c.args.table.now (13825 + 2 * c.find-r.result) 0) c.requires.size (omega (arith, c.requires.few-items))
    c.args.rules c.find-r.result c.if-table-p-ne-ELEMENT.false c.find-r.ensures c.kind_by-kind.ensures refl
