use Rattle.left_parse.proofs.jump.Goals as goal

pub returns : goal.returns
returns c = rw (c.note_at-e.ensures, c.note_at-m.ensures)
