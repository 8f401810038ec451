use Rattle.cursor.proofs.text_at.Goals as goal

pub returns : goal.returns
returns c = rw c.token_at.ensures.0 at c.piece_of.ensures
