use native.Mathlib.Omega.{arith}
use mathlib.Core.Path.{◌∙◌}
use Prim.Native.Nat.{◌+◌, ◌*◌}
use lib.ListN.{take, drop, get_or}
use Rattle.terminals.proofs.Places.{term-two, term-counted}
use Rattle.fault.proofs.Alike.{begun-quoted, begun-coded, begun-none, alike-within, begun-terminal, begun-other}
use Rattle.fault.proofs.begun.Goals as goal

pub overflow_mul-p : goal.overflow_mul-p
overflow_mul-p c =
    omega (arith, c.requires.0.tokened.long, c.requires.0.tokened.shape.small, c.requires.0.tokened.shape.room, c.requires.1)

pub offset_bounds-code-p : goal.offset_bounds-code-p
offset_bounds-code-p c =
    omega (arith, c.requires.0.tokened.long, c.requires.0.tokened.shape.small, c.requires.0.tokened.shape.room, c.requires.1)

pub bounds-code-p : goal.bounds-code-p
bounds-code-p c =
    omega (arith, c.requires.0.tokened.long, c.requires.0.tokened.shape.small, c.requires.0.tokened.shape.room, c.requires.1)

pub returns-then-code-p-ne-AT_TERMINAL : goal.returns-then-code-p-ne-AT_TERMINAL
returns-then-code-p-ne-AT_TERMINAL c = (begun-other c.if-code-p-ne-AT_TERMINAL.true, omega (arith, c.requires.0.on))

pub overflow_mul-p-2 : goal.overflow_mul-p-2
overflow_mul-p-2 c =
    omega (arith, c.requires.0.tokened.long, c.requires.0.tokened.shape.small, c.requires.0.tokened.shape.room, c.requires.1)

pub overflow_add-p : goal.overflow_add-p
overflow_add-p c =
    omega (arith, c.requires.0.tokened.long, c.requires.0.tokened.shape.small, c.requires.0.tokened.shape.room, c.requires.1)

pub offset_bounds-table-p : goal.offset_bounds-table-p
offset_bounds-table-p c =
    omega (arith, c.requires.0.tokened.long, c.requires.0.tokened.shape.small, c.requires.0.tokened.shape.room, c.requires.1)

pub bounds-table-p : goal.bounds-table-p
bounds-table-p c =
    omega (arith, c.requires.0.tokened.long, c.requires.0.tokened.shape.small, c.requires.0.tokened.shape.room, c.requires.1)

pub offset_bounds-table-token : goal.offset_bounds-table-token
offset_bounds-table-token c =
    let here = c.requires.0.tokened.here c.args.p c.requires.1 c.if-code-p-ne-AT_TERMINAL.false in
    omega (arith, c.requires.0.tokened.long, c.wide-token.ensures, term-two here.is)

pub bounds-table-token : goal.bounds-table-token
bounds-table-token c =
    let here = c.requires.0.tokened.here c.args.p c.requires.1 c.if-code-p-ne-AT_TERMINAL.false in
    omega (arith, c.requires.0.tokened.long, c.wide-token.ensures, term-two here.is)

pub overflow_add-token : goal.overflow_add-token
overflow_add-token c =
    let here = c.requires.0.tokened.here c.args.p c.requires.1 c.if-code-p-ne-AT_TERMINAL.false in
    omega (arith, c.requires.0.tokened.long, c.wide-token.ensures, term-two here.is)

pub overflow_add-token-then-kind-lt-CODED : goal.overflow_add-token-then-kind-lt-CODED
overflow_add-token-then-kind-lt-CODED c =
    let here = c.requires.0.tokened.here c.args.p c.requires.1 c.if-code-p-ne-AT_TERMINAL.false in
    omega (arith, c.requires.0.tokened.long, c.wide-token.ensures, term-two here.is)

pub offset_bounds-table-token-then-kind-lt-CODED : goal.offset_bounds-table-token-then-kind-lt-CODED
offset_bounds-table-token-then-kind-lt-CODED c =
    let here = c.requires.0.tokened.here c.args.p c.requires.1 c.if-code-p-ne-AT_TERMINAL.false in
    omega (arith, c.requires.0.tokened.long, c.wide-token.ensures, term-two here.is)

pub bounds-table-token-then-kind-lt-CODED : goal.bounds-table-token-then-kind-lt-CODED
bounds-table-token-then-kind-lt-CODED c =
    let here = c.requires.0.tokened.here c.args.p c.requires.1 c.if-code-p-ne-AT_TERMINAL.false in
    omega (arith, c.requires.0.tokened.long, c.wide-token.ensures, term-two here.is)

pub common-requires : goal.common-requires
common-requires c =
    let here = c.requires.0.tokened.here c.args.p c.requires.1 c.if-code-p-ne-AT_TERMINAL.false in
    let inside = term-counted here.is (rw c.wide-token.ensures at c.if-kind-lt-CODED.true) in
    record { small = omega (arith, c.requires.0.tokened.long); inside = rw (c.wide.ensures, c.wide-token.ensures) inside; short = c.requires.0.short; on = c.requires.0.on }

pub returns-then-kind-lt-CODED : goal.returns-then-kind-lt-CODED
returns-then-kind-lt-CODED c =
    let e = rw (c.wide.ensures, c.wide-token.ensures) at c.common.ensures in (
      begun-terminal c.if-code-p-ne-AT_TERMINAL.false (λ x v. e ∙ begun-quoted v.1 _ (rw c.wide-token.ensures at c.if-kind-lt-CODED.true)),
      alike-within (take (get_or c.args.table.now (get_or c.args.table.now (12290 + 3 * c.args.p) 0 + 1) 0)
          (drop (get_or c.args.table.now (12290 + 3 * c.args.p) 0 + 2) c.args.table.now)) c.args.text.now _ c.requires.0.on e,
    )

pub overflow_add-token-then-kind-lt-INCLUDE : goal.overflow_add-token-then-kind-lt-INCLUDE
overflow_add-token-then-kind-lt-INCLUDE c =
    let here = c.requires.0.tokened.here c.args.p c.requires.1 c.if-code-p-ne-AT_TERMINAL.false in
    omega (arith, c.requires.0.tokened.long, c.wide-token.ensures, term-two here.is)

pub common-requires-then-kind-lt-INCLUDE : goal.common-requires-then-kind-lt-INCLUDE
common-requires-then-kind-lt-INCLUDE c =
    let here = c.requires.0.tokened.here c.args.p c.requires.1 c.if-code-p-ne-AT_TERMINAL.false in
    record {
      small = omega (arith, c.requires.0.tokened.long);
      inside = omega (arith, c.wide-token.ensures, term-two here.is);
      short = c.requires.0.short;
      on = c.requires.0.on;
    }

pub returns-then-kind-lt-INCLUDE : goal.returns-then-kind-lt-INCLUDE
returns-then-kind-lt-INCLUDE c =
    let e = rw c.wide-token.ensures at c.common-then-kind-lt-INCLUDE.ensures in (
      begun-terminal c.if-code-p-ne-AT_TERMINAL.false (λ x v. e ∙ begun-coded v.1 _ (rw c.wide-token.ensures at c.if-kind-lt-CODED.false)
          (rw c.wide-token.ensures at c.if-kind-lt-INCLUDE.true)),
      alike-within (take 1 (drop (get_or c.args.table.now (12290 + 3 * c.args.p) 0 + 1) c.args.table.now))
          c.args.text.now _ c.requires.0.on e,
    )

pub returns : goal.returns
returns c =
    (begun-terminal c.if-code-p-ne-AT_TERMINAL.false (λ x v. begun-none v.1 _ (rw c.wide-token.ensures at c.if-kind-lt-INCLUDE.false)), omega (arith, c.requires.0.on))
