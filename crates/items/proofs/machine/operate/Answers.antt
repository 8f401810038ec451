use native.Mathlib.Omega.{arith}
use mathlib.Core.Path.{refl}
use Prim.Native.Nat.{◌+◌, ◌*◌, ◌-◌}
use Rattle.items.proofs.Reps.{rep-one', rep-two', one-bounds, two-bounds, one-first, two-first}
use Rattle.items.proofs.machine.operate.Goals as goal

pub overflow_sub-d : goal.overflow_sub-d
overflow_sub-d c = omega (arith, (one-bounds (c.requires.act.0 c.if-k-lt-TO_REPEAT0SEP.true) c.requires.fit).1, c.requires.rep.depth)

pub one-m-requires : goal.one-m-requires
one-m-requires c =
    record {
      room = record {
        size = c.requires.rep.has.size;
        fits = omega (arith, (one-bounds (c.requires.act.0 c.if-k-lt-TO_REPEAT0SEP.true) c.requires.fit).0, c.requires.rep.items);
      };
      low = omega arith;
      high = omega (
        arith,
        (one-bounds (c.requires.act.0 c.if-k-lt-TO_REPEAT0SEP.true) c.requires.fit).1,
        c.requires.rep.depth,
        c.requires.rep.has.fit.depth,
      );
    }

pub overflow_cast-m : goal.overflow_cast-m
overflow_cast-m c =
    omega (arith, c.one-m.ensures.1, one-first c.args.k, (one-bounds (c.requires.act.0 c.if-k-lt-TO_REPEAT0SEP.true) c.requires.fit).0, c.requires.rep.items)

pub returns-then-k-lt-TO_REPEAT0SEP : goal.returns-then-k-lt-TO_REPEAT0SEP
returns-then-k-lt-TO_REPEAT0SEP c =
    λ a b rep act fit. rep-one' rep fit c.args.k (c.args.s.depth - 1) (14848 + 3 * (c.args.s.depth - 1))
    c.one-m.result.first (act.0 c.if-k-lt-TO_REPEAT0SEP.true)
    (omega (arith, (one-bounds (act.0 c.if-k-lt-TO_REPEAT0SEP.true) fit).1, rep.depth)) refl c.one-m.ensures.0
    c.one-m.ensures.1 c.renew.ensures c.one-m.ensures.2 refl refl refl

pub overflow_sub-d-2 : goal.overflow_sub-d-2
overflow_sub-d-2 c = omega (arith, (two-bounds (c.requires.act.1 c.if-k-lt-TO_REPEAT0SEP.false) c.requires.fit).1, c.requires.rep.depth)

pub two-m-requires : goal.two-m-requires
two-m-requires c =
    record {
      room = record {
        size = c.requires.rep.has.size;
        fits = omega (arith, (two-bounds (c.requires.act.1 c.if-k-lt-TO_REPEAT0SEP.false) c.requires.fit).0, c.requires.rep.items);
      };
      low = omega arith;
      high = omega (
        arith,
        (two-bounds (c.requires.act.1 c.if-k-lt-TO_REPEAT0SEP.false) c.requires.fit).1,
        c.requires.rep.depth,
        c.requires.rep.has.fit.depth,
      );
    }

pub overflow_cast-m-2 : goal.overflow_cast-m-2
overflow_cast-m-2 c =
    omega (arith, c.two-m.ensures.1, two-first c.args.k, (two-bounds (c.requires.act.1 c.if-k-lt-TO_REPEAT0SEP.false) c.requires.fit).0, c.requires.rep.items)

pub returns : goal.returns
returns c =
    λ a b rep act fit. rep-two' rep fit c.args.k (c.args.s.depth - 2) (14848 + 3 * (c.args.s.depth - 2))
    c.two-m.result.first (act.1 c.if-k-lt-TO_REPEAT0SEP.false)
    (omega (arith, (two-bounds (act.1 c.if-k-lt-TO_REPEAT0SEP.false) fit).1, rep.depth)) refl c.two-m.ensures.0 c.two-m.ensures.1
    c.renew-2.ensures c.two-m.ensures.2 refl refl refl
