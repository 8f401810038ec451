use mathlib.Core.Path.{◌≡◌}
use lib.ListN.{drop}
use Rattle.syntax.specs.Lexical.{run, read_name}
use Rattle.lexical.proofs.Copies.{recopy}
use Rattle.lexical.proofs.Words.{no_name, run_on, name-same, headable, counted-token}
use Rattle.lexical.proofs.names.name.Goals as goal

pub returns-in_err-q : goal.returns-in_err-q
returns-in_err-q c =
    let args = c.args in
    rw c.from_residual.ensures (no_name args.text.now args.p.0 c.in_err-q.ensures)

pub head-requires : goal.head-requires
head-requires c =
    let pre = c.requires in
    let v = c.in_ok-q.ensures in
    headable _ _ _ _ (pre) _ c.name_run.auto.out _ 0 _ _ v.copied (run_on _ _ v.starts _ _ _ _ _ v.copied)

pub returns : goal.returns
returns c =
    let args = c.args in
    let pre = c.requires in
    let v = c.in_ok-q.ensures in
    counted-token _ _ _ _ (pre) _ c.name_run.auto.out (λ x. read_name (drop args.p.0 args.text.now) ≡ x) 0 _ _ _ _
    (recopy (λ x. run (drop args.p.0 args.text.now) ≡ x) (λ x. read_name (drop args.p.0 args.text.now) ≡ x)
    (λ x e. name-same args.text.now args.p.0 v.starts x e) v.copied)
    (run_on args.text.now args.p.0 v.starts _ _ _ _ _ v.copied) c.head.ensures
