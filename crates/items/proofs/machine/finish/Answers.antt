use native.Mathlib.Omega.{arith}
use mathlib.Core.Path.{◌≡◌, ap, refl}
use Prim.Native.Nat.{ℕ, suc, ◌+◌, ◌*◌}
use lib.ListN.{length-set}
use lib.ListN.{set, get_or}
use Rattle.items.proofs.Reps.{rep-finished, block-bounds, finished-items}
use Rattle.items.proofs.machine.finish.Goals as goal

pub block-next-requires : goal.block-next-requires
block-next-requires c =
    block-bounds c.requires.act.block (finished-items c.requires.act c.requires.fit).0 c.requires.rep.has.fit.depth _ _ _ _
    c.requires.rep.has.size c.requires.rep.items c.requires.rep.base c.requires.rep.depth

pub bounds-table-r-2 : goal.bounds-table-r-2
bounds-table-r-2 c =
    simp length-set (omega (arith, c.block-next.auto.table, c.requires.rep.has.size, c.requires.rep.rules, (finished-items c.requires.act c.requires.fit).1))

pub returns : goal.returns
returns c =
    λ a b rep act fit. rep-finished rep fit act c.block-next.ensures
    (ap (λ (n : ℕ). set (set c.block-next.new.table (13824 + 2 * c.args.s.rules)
    (get_or c.args.table.now (14850 + 3 * c.args.s.base) 0)) n c.args.s.items)
    (let z : 13825 + 2 * c.args.s.rules ≡ suc (13824 + 2 * c.args.s.rules) = omega arith in z)) refl refl refl refl
