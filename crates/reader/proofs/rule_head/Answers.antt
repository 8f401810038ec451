use Prim.Native.Nat.{◌+◌}
use mathlib.Core.Path.{refl}
use native.Mathlib.Omega.{arith}
use Rattle.lexical.specs.Answers.{Mark-read}
use Rattle.syntax.specs.Lexical.{read_name}
use Rattle.reader.proofs.RulesHead.{room-on, word_in, mark-few, head-no-mark, head-closed}
use Rattle.reader.proofs.rule_head.Goals as goal

pub returns-in_err-q : goal.returns-in_err-q
returns-in_err-q c =
    let args' = c.args in
    let args = args' in
    rw c.from_residual.ensures (head-no-mark args.text.now args.p.0 c.in_err-q.ensures)

pub overflow_add-m : goal.overflow_add-m
overflow_add-m c =
    let args' = c.args in
    let args = args' in
    let v : Mark-read args.text.now args.p.0 c.in_ok-q.q.0 c.in_ok-q.m = c.in_ok-q.ensures in
    let h = mark-few _ _ _ _ v in
    omega arith

pub name-name-requires : goal.name-name-requires
name-name-requires c =
    let args' = c.args in
    let pre' = c.requires in
    let args = args' in
    let pre = pre' in
    let v : Mark-read args.text.now args.p.0 c.in_ok-q.q.0 c.in_ok-q.m = c.in_ok-q.ensures in
    room-on _ _ _ _ _ (pre) v.onward

pub closed-requires : goal.closed-requires
closed-requires c =
    let args' = c.args in
    let args = args' in (
      word_in read_name (20 + c.in_ok-q.m) args.text.now c.in_ok-q.q.0 args.out.now args.at.0 c.name-name.result
          c.name-name.new.out c.name-name.ensures,
      (omega arith, omega arith),
    )

pub returns : goal.returns
returns c =
    let args' = c.args in
    let args = args' in
    let v : Mark-read args.text.now args.p.0 c.in_ok-q.q.0 c.in_ok-q.m = c.in_ok-q.ensures in
    head-closed _ _ _ _ v _ refl args.out.now args.at.0 c.name-name.result c.name-name.new.out c.closed.result c.name-name.ensures
    c.closed.ensures
