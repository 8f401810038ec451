use mathlib.Core.Path.{sym, ◌∙◌}
use Rattle.static_errors.proofs.Names.{guess-in}
use Rattle.static_errors.proofs.guessed.Goals as goal

pub same_name-requires : goal.same_name-requires
same_name-requires c =
    record {
      left = c.requires.name;
      right = rw c.wide.ensures (c.requires.listing.each c.args.guess c.if-guess-n.true);
    }

pub returns-then-guess-n : goal.returns-then-guess-n
returns-then-guess-n c =
    let a = c.args in
    λ e. guess-in a.table.now a.k a.index.now a.n a.guess c.requires.listing.few c.if-guess-n.true
    (rw c.wide.ensures at (sym c.same_name.ensures ∙ e))
