use mathlib.Core.Path.{refl, sym, ap, ◌∙◌}
use Prim.Native.Nat.{ℕ, ◌%◌}
use Rattle.left_parse.proofs.Items.{wide_of}
use Rattle.markup.proofs.Pieces.{pieced-quoted, pieced-coded, pieced-deleted, pieced-read}
use Rattle.markup.proofs.piece_of.Goals as goal

pub returns-then-c-eq-INSERT_QUOTED : goal.returns-then-c-eq-INSERT_QUOTED
returns-then-c-eq-INSERT_QUOTED c =
    pieced-quoted c.args.table.now c.args.token c.args.place.0 (sym c.look-c.ensures.0 ∙ c.if-c-eq-INSERT_QUOTED.true) c.look-count.result c.look-count.ensures.0

pub returns-then-c-eq-INSERT_CODED : goal.returns-then-c-eq-INSERT_CODED
returns-then-c-eq-INSERT_CODED c =
    pieced-coded c.args.table.now c.args.token c.args.place.0 (sym c.look-c.ensures.0 ∙ c.if-c-eq-INSERT_CODED.true)

pub returns-then-c-eq-DELETED : goal.returns-then-c-eq-DELETED
returns-then-c-eq-DELETED c =
    let e = c.look-c.ensures.0 in
    pieced-deleted c.args.table.now c.args.token c.args.place.0 (λ q. c.if-c-eq-INSERT_QUOTED.false (e ∙ q))
    (λ q. c.if-c-eq-INSERT_CODED.false (e ∙ q)) (ap (λ (n : ℕ). n % 4) (sym e) ∙ c.if-c-eq-DELETED.true)

pub returns : goal.returns
returns c =
    let e = c.look-c.ensures.0 in
    pieced-read c.args.table.now c.args.token c.args.place.0 (λ q. c.if-c-eq-INSERT_QUOTED.false (e ∙ q))
    (λ q. c.if-c-eq-INSERT_CODED.false (e ∙ q)) (λ q. c.if-c-eq-DELETED.false (ap (λ (n : ℕ). n % 4) e ∙ q)) c.terminal_width-count.result
    (wide_of _ c.terminal_width-count.ensures.0 refl c.terminal_width-count.ensures.1)
