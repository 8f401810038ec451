use Rattle.tags.proofs.put_close.Goals as goal

pub returns : goal.returns
returns c = (rw c.no_words-none.ensures, c.put_end-pos.ensures)
