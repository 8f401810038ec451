use mathlib.Core.Path.{◌≡◌}
use native.Mathlib.Omega.{arith}
use lib.ListN.{drop}
use Rattle.syntax.specs.Lexical.{read-use}
use Rattle.lexical.proofs.Words.{run_on, headable, counted-token}
use Rattle.lexical.proofs.Uses.{no-use, use-run, use-stop, stop-on}
use Rattle.lexical.proofs.names.used_name.Goals as goal

pub returns-in_err-q : goal.returns-in_err-q
returns-in_err-q c =
    let args = c.args in
    rw c.from_residual.ensures (no-use args.text.now args.p.0 c.in_err-q.ensures)

pub stops-requires : goal.stops-requires
stops-requires c =
    let args = c.args in
    let v = c.in_ok-q.ensures in
    (run_on args.text.now args.p.0 v.starts _ _ _ _ _ v.copied, v.copied.onward.within)

pub head-requires : goal.head-requires
head-requires c =
    let args = c.args in
    let pre = c.requires in
    let v = c.in_ok-q.ensures in
    let h = headable _ _ _ _ (pre) _ c.name_run.auto.out _ 0 _ _ v.copied (run_on args.text.now args.p.0 v.starts _ _ _ _ _ v.copied) in
    headable _ _ _ _ (pre) _ c.name_run.auto.out (λ x. read-use (drop args.p.0 args.text.now) ≡ x) 0 _ _
    (use-stop args.text.now args.p.0 _ _ _ _ _ v.starts v.copied c.stops.result c.stops.ensures c.if-stops.true h.high c.name_run.auto.out)
    (stop-on args.text.now args.p.0 _ _ _ _ _ v.starts v.copied c.stops.result c.stops.ensures c.if-stops.true)

pub overflow_sub-result : goal.overflow_sub-result
overflow_sub-result c =
    let args = c.args in
    let pre = c.requires in
    let v = c.in_ok-q.ensures in
    let h = run_on args.text.now args.p.0 v.starts _ _ _ _ _ v.copied in
    omega (arith, h, v.copied.cells, v.copied.count, pre.cells)

pub returns-then-stops : goal.returns-then-stops
returns-then-stops c =
    let args = c.args in
    let pre = c.requires in
    let v = c.in_ok-q.ensures in
    let h = headable _ _ _ _ (pre) _ c.name_run.auto.out _ 0 _ _ v.copied (run_on args.text.now args.p.0 v.starts _ _ _ _ _ v.copied) in
    counted-token _ _ _ _ (pre) _ c.name_run.auto.out (λ x. read-use (drop args.p.0 args.text.now) ≡ x) 0 _ _ _ _
    (use-stop args.text.now args.p.0 _ _ _ _ _ v.starts v.copied c.stops.result c.stops.ensures
    c.if-stops.true h.high c.name_run.auto.out)
    (stop-on args.text.now args.p.0 _ _ _ _ _ v.starts v.copied c.stops.result c.stops.ensures c.if-stops.true) c.head.ensures

pub head-requires-2 : goal.head-requires-2
head-requires-2 c =
    let pre = c.requires in
    let v = c.in_ok-q.ensures in
    headable _ _ _ _ (pre) _ c.name_run.auto.out _ 0 _ _ v.copied (run_on _ _ v.starts _ _ _ _ _ v.copied)

pub returns : goal.returns
returns c =
    let args = c.args in
    let pre = c.requires in
    let v = c.in_ok-q.ensures in
    counted-token _ _ _ _ (pre) _ c.name_run.auto.out (λ x. read-use (drop args.p.0 args.text.now) ≡ x) 0 _ _ _ _
    (use-run args.text.now args.p.0 _ _ _ _ _ v.starts v.copied c.stops.result c.stops.ensures c.if-stops.false)
    (run_on args.text.now args.p.0 v.starts _ _ _ _ _ v.copied) c.head-2.ensures
