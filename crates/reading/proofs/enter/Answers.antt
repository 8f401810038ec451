use mathlib.Core.Path.{refl, sym, subst, ap}
use Prim.Native.Nat.{ℕ, ◌+◌}
use native.Mathlib.Omega.{arith}
use Rattle.reading.specs.declared.Cursor.{Cursor}
use Rattle.candidates.specs.Candidates.{SomeLow, FirstLow}
use Rattle.reading.specs.Walk.{full, wrote}
use Rattle.splits.proofs.Values.{reads}
use Rattle.candidates.proofs.Lines.{line-few}
use Rattle.reading.proofs.enter.Goals as goal

pub returns-then-at-ge-READING_NUMBERS : goal.returns-then-at-ge-READING_NUMBERS
returns-then-at-ge-READING_NUMBERS c =
    let pre = c.requires in
    let e = c.count_only.ensures in
    let n = ap (λ (z : Cursor). z.at) e in
    full (omega (arith, pre.most)) refl (ap (λ (z : Cursor). z.p) e) (omega (arith, pre.most)) (ap (λ (z : Cursor). z.depth) e)

pub rule_height-k-requires : goal.rule_height-k-requires
rule_height-k-requires c =
    let pre = c.requires in
    (reads pre.ready.tables, pre.rule, pre.ready.order, pre.ready.inside)

pub find_alternative-a-requires : goal.find_alternative-a-requires
find_alternative-a-requires c =
    let a = c.args in
    let pre = c.requires in (
      pre.ready,
      subst (λ (z : ℕ). SomeLow a.code.now a.marks.now a.notes.now a.h.size a.h.n.0 a.main.now a.rule.first a.h.i.0 a.h.j.0 z)
          (sym (c.rule_height-k.ensures a.code.now)) pre.some,
    )

pub overflow_cast-out : goal.overflow_cast-out
overflow_cast-out c =
    let pre = c.requires in
    omega (arith, c.find_alternative-a.ensures.exists, line-few c.find_alternative-a.ensures.line, pre.ready.tables.shape.small)

pub returns : goal.returns
returns c =
    let a = c.args in
    let r = c.find_alternative-a.result in
    let high = c.rule_height-k.ensures a.code.now in
    let mark = refl in
    wrote r c.other_alternative-other.result c.if-at-ge-READING_NUMBERS.false
    (subst (λ (z : ℕ). FirstLow a.code.now a.marks.now a.notes.now a.h.size a.h.n.0 a.main.now a.rule.first a.h.i.0 a.h.j.0 z r)
    high c.find_alternative-a.ensures) c.other_alternative-other.ensures refl
    (λ ι. record {
      size = a.h.size;
      n = a.h.n;
      p = r.place;
      i = a.h.i;
      j = a.h.j;
      k = high ι;
      at = a.h.at + 1;
      depth = a.h.depth;
      mark = mark ι;
    })
