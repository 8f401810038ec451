use mathlib.Core.Path.{refl, ap}
use native.Mathlib.Omega.{arith}
use Rattle.tags.specs.declared.Output.{Output}
use Rattle.writer.proofs.Folds.{room-left}
use Rattle.writer.proofs.Whole.{started, started-is, started-bare}
use borrow.Author.Rules.{rules}
use Rattle.writer.proofs.put_open.Goals as goal

pub put_start-tag-requires : goal.put_start-tag-requires
put_start-tag-requires c =
    (omega (arith, c.requires.limit_in_bounds), omega (arith, c.token_at-token.ensures.1))

pub inside-first-requires : goal.inside-first-requires
inside-first-requires c =
    (_, c.requires.item_value.1)

pub put_attributes-requires : goal.put_attributes-requires
put_attributes-requires c =
    let N = c.requires.item_value.1 in (
      room-left (ap (λ (o : Output). o.limit) c.put_start-tag.ensures.0) c.requires.limit_in_bounds (search rules),
      record { x = N.x; stands = c.inside-first.ensures.goes c.requires.item_value.0 _ N.S₀ N.n N.x N.k N.node },
    )

pub returns-then-o : goal.returns-then-o
returns-then-o c =
    let e = c.put_start-tag.ensures.0 in
    let A = c.put_attributes.ensures in
    record {
      kept = A.kept;
      is = started-is c.args.o e A;
      wrote = λ S₀ n x k N M. started c.args.o e A n x (c.put_start-tag.ensures.1 N.token n (rw c.token_at-token.ensures.0 N.named))
          (c.inside-first.ensures.goes c.requires.item_value.0 _ S₀ n x k N);
    }

pub returns : goal.returns
returns c =
    record {
      kept = refl;
      is = c.put_start-tag.ensures.0;
      wrote = λ S₀ n x k N M. started-bare c.args.o n x (M.bare c.if-o.false)
          (c.put_start-tag.ensures.1 N.token n (rw c.token_at-token.ensures.0 N.named));
    }
