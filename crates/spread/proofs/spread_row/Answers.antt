use mathlib.Core.List.{List}
use Prim.Native.Nat.{ℕ}
use native.Mathlib.Omega.{arith}
use Rattle.sparse.proofs.Rows.{flagged, unflagged}
use Rattle.spread.proofs.Handing.{spread_none, before-next}
use Rattle.spread.proofs.Listed.{row-away, row-none, row-offering}
use Rattle.spread.proofs.spread_row.Goals as goal

pub returns-then-not-reached : goal.returns-then-not-reached
returns-then-not-reached c =
    let p = c.requires in
    let a = c.args in
    let y = p.2 in
    λ (F : List ℕ). (
      spread_none _ _ _ _ _ _ _ _ _,
      row-away p.0 F a.main.now a.x.dot y.0 a.x.height y.1 y.2 (unflagged _ _ c.reached.ensures c.if-not-reached.true),
    )

pub returns-then-height : goal.returns-then-height
returns-then-height c =
    let p = c.requires in
    let a = c.args in
    let y = p.2 in
    λ (F : List ℕ). (
      spread_none _ _ _ _ _ _ _ _ _,
      row-none p.0 F a.main.now a.x.dot y.0 a.x.height y.1 y.2 c.height_by-height.result c.height_by-height.ensures
          (flagged _ _ c.reached.ensures c.if-not-reached.false) c.if-height.true,
    )

pub returns : goal.returns
returns c =
    let p = c.requires in
    let a = c.args in
    let y = p.2 in
    λ (F : List ℕ). let d = c.hand_on.ensures F
    (row-offering p.0 F a.main.now a.x.dot y.0 a.x.height y.1 y.2 c.height_by-height.result c.height_by-height.ensures
    (flagged _ _ c.reached.ensures c.if-not-reached.false) (omega (arith, c.if-height.false)) p.1) in
    (d.spread, before-next _ _ _ _ _ _ _ d.on)
