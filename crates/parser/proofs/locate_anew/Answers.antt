use native.Mathlib.Omega.{arith}
use Prim.Native.Nat.{ℕ}
use lib.ListN.{length-replicate}
use Rattle.chart.proofs.Users.{all-zero}
use Rattle.right_pass.proofs.Given.{given-of, lefting-of}
use Rattle.sparse.proofs.Coded.{shape_of}
use Rattle.quick_reading.proofs.Finished.{left-flagged}
use Rattle.parser.proofs.Located.{coded}
use Rattle.parser.proofs.locate_anew.Goals as goal

pub code_rules-top-requires : goal.code_rules-top-requires
code_rules-top-requires c =
    let pre = c.requires in
    record { grammar = pre.grammar; ready = pre.ready; long = pre.long; small = pre.small; room = omega (arith, pre.small) }

pub note_rules-requires : goal.note_rules-requires
note_rules-requires c =
    let pre = c.requires in
    let k = c.code_rules-top.ensures pre.grammar pre.ready in
    (shape_of k pre.small (omega (arith, pre.small, c.code_rules-top.auto.code)), length-replicate {A = ℕ} 2048 0, all-zero 2048)

pub left-requires : goal.left-requires
left-requires c =
    let pre = c.requires in
    let code = c.code_rules-top.ensures pre.grammar pre.ready in
    lefting-of code (given-of code pre.long pre.small (omega (arith, pre.small, c.code_rules-top.auto.code)) pre.short
    (omega (arith, length-replicate {A = ℕ} 308736 0, pre.short)))
    (all-zero 308736)

pub locate-requires : goal.locate-requires
locate-requires c =
    let pre = c.requires in
    let k = c.code_rules-top.ensures pre.grammar pre.ready in
    (coded pre k c.code_rules-top.auto.code, c.note_rules.ensures, left-flagged c.left.ensures)

pub returns : goal.returns
returns c =
    λ g ready. c.locate.ensures g (c.code_rules-top.ensures g ready)
