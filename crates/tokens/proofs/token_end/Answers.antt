use mathlib.Core.Path.{refl}
use native.Mathlib.Omega.{arith}
use Rattle.tokens.proofs.Forms.{first-in, sized, has_characters, length-text, length-code, length-range, length-class, length-bare}
use Rattle.tokens.proofs.token_end.Goals as goal

pub bounds-table-k : goal.bounds-table-k
bounds-table-k c = first-in c.args.table.now c.args.k c.requires

pub bounds-table-k-in-Name : goal.bounds-table-k-in-Name
bounds-table-k-in-Name c =
    omega (arith, sized c.args.table.now c.args.k c.requires _ _ c.of.ensures (length-text _ _ (has_characters c.in-Name.is)))

pub overflow_add-result : goal.overflow_add-result
overflow_add-result c =
    omega (arith, c.wide.ensures, sized c.args.table.now c.args.k c.requires _ _ c.of.ensures (length-text _ _ (has_characters c.in-Name.is)))

pub returns-in-Name : goal.returns-in-Name
returns-in-Name c = rw (← c.of.ensures, length-text _ _ (has_characters c.in-Name.is), c.wide.ensures)

pub returns-in-Code : goal.returns-in-Code
returns-in-Code c = rw (← c.in-Code.ensures, length-code 3 _ refl)

pub returns-in-Range : goal.returns-in-Range
returns-in-Range c = rw (← c.in-Range.ensures, length-range 4 _ refl)

pub returns-in-Class : goal.returns-in-Class
returns-in-Class c = rw (← c.in-Class.ensures, length-class 5 _ refl)

pub returns-in-Bare : goal.returns-in-Bare
returns-in-Bare c = rw (← c.in-Bare.ensures, length-bare 6 _ (omega arith) (λ z. omega arith) (λ z. omega arith) (λ z. omega arith))
