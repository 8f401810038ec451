use Rattle.lexical.proofs.Words.{tokenable, chars-tokened}
use Rattle.lexical.proofs.read_chars.Goals as goal

pub put_chars-requires : goal.put_chars-requires
put_chars-requires c = tokenable _ _ _ _ c.requires _ c.chars.auto.out _ c.in_ok-c.ensures

pub returns : goal.returns
returns c = chars-tokened _ _ _ _ c.requires _ c.chars.auto.out _ _ _ c.in_ok-c.ensures c.put_chars.result _ c.put_chars.ensures
