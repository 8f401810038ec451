use mathlib.Core.Path.{◌≡◌, sym, ◌∙◌}
use native.Mathlib.Omega.{arith}
use lib.ListN.{length}
use Rattle.syntax.specs.Lexical.{run}
use Rattle.lexical.proofs.Copies.{copy_start, copy-on, copy-end, copy-room, run-char, run-stop, run_end}
use Rattle.lexical.proofs.names.copy_run.Goals as goal

pub loop-i-init : goal.loop-i-init
loop-i-init c = copy_start run _ _ _ _ c.requires.place

pub returns-then-not-name_follower : goal.returns-then-not-name_follower
returns-then-not-name_follower c =
    copy-end run _ _ _ _ _ _ _ c.loop-i.invariant 0 _ (omega arith) (omega arith)
    (run-stop _ _ c.loop-i-test.true (sym c.name_follower.ensures ∙ c.if-not-name_follower.true))

pub loop-i-preserved : goal.loop-i-preserved
loop-i-preserved c =
    copy-on run _ _ _ _ _ _ _ c.loop-i.invariant _ _ (omega arith) (omega arith) (copy-room run _ _ _ _ _ _ _ c.loop-i.invariant c.requires c.loop-i-test.true)
    (run-char _ _ c.loop-i-test.true (sym c.name_follower.ensures ∙ c.if-not-name_follower.false))

pub returns : goal.returns
returns c =
    let end : c.loop-i.i ≡ length c.args.text.now = omega arith in
    rw (← end) (copy-end run _ _ _ _ _ _ _ c.loop-i.invariant 0 _ (omega arith) (omega arith) (run_end _ _ c.loop-i-test.false))
