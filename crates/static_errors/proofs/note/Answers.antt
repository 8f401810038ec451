use Rattle.tokens.proofs.Forms as forms
use Rattle.static_errors.proofs.note.Goals as goal

pub bounds-table-k : goal.bounds-table-k
bounds-table-k c = forms.first-in c.args.table.now c.args.k c.requires.fits
