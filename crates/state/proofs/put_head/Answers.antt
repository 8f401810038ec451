use mathlib.Core.Path.{refl}
use lib.ListN.{set}
use borrow.Author.Rules.{Below-set}
use native.Mathlib.Omega.{arith}
use Rattle.state.proofs.put_head.Goals as goal

pub bounds-state-0 : goal.bounds-state-0
bounds-state-0 c =
    omega (arith, c.requires)

pub bounds-state-1 : goal.bounds-state-1
bounds-state-1 c =
    Below-set _ c.args.state.now _ _ _ (omega (arith, c.requires))

pub bounds-state-2 : goal.bounds-state-2
bounds-state-2 c =
    Below-set _ (set c.args.state.now _ _) _ _ _ (Below-set _ c.args.state.now _ _ _ (omega (arith, c.requires)))

pub bounds-state-3 : goal.bounds-state-3
bounds-state-3 c =
    Below-set _ (set (set c.args.state.now _ _) _ _) _ _ _ (Below-set _ (set c.args.state.now _ _) _ _ _ (Below-set _ c.args.state.now _ _ _ (omega (arith, c.requires))))

pub bounds-state-4 : goal.bounds-state-4
bounds-state-4 c =
    Below-set _ (set (set (set c.args.state.now _ _) _ _) _ _) _ _ _ (Below-set _ (set (set c.args.state.now _ _) _ _) _ _ _
    (Below-set _ (set c.args.state.now _ _) _ _ _ (Below-set _ c.args.state.now _ _ _ (omega (arith, c.requires)))))

pub returns : goal.returns
returns c = refl
