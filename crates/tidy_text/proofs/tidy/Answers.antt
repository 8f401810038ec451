use mathlib.Core.Path.{sym}
use native.Mathlib.Omega.{arith}
use lib.Seq.{length-take-le}
use Rattle.tidy_text.proofs.Concluded.{too_long, no_room, written}
use borrow.Author.Rules.{rules}
use Rattle.tidy_text.proofs.tidy.Goals as goal

pub returns-then-count-gt-GRAMMAR_BYTES : goal.returns-then-count-gt-GRAMMAR_BYTES
returns-then-count-gt-GRAMMAR_BYTES c =
    λ ts w f. too_long (search rules) (c.put_grammar-n.ensures ts w f) _ c.if-count-gt-GRAMMAR_BYTES.true

pub returns-then-count-room : goal.returns-then-count-room
returns-then-count-room c =
    λ ts w f. no_room (search rules) (c.put_grammar-n.ensures ts w f) c.if-count-gt-GRAMMAR_BYTES.false _ c.if-count-room.true

pub slice_bounds-put_all-end : goal.slice_bounds-put_all-end
slice_bounds-put_all-end c =
    sym (length-take-le c.put_grammar-n.result.0 c.put_grammar-n.new.out (omega (arith, c.if-count-gt-GRAMMAR_BYTES.false, c.put_grammar-n.auto.out)))

pub returns : goal.returns
returns c =
    λ ts w f. written (search rules) (c.put_grammar-n.ensures ts w f) c.if-count-gt-GRAMMAR_BYTES.false _ _ _ c.if-count-room.false c.put_all.ensures
