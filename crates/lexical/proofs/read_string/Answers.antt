use Rattle.lexical.proofs.Words.{headable, counted-token, quoted-on}
use Rattle.lexical.proofs.read_string.Goals as goal

pub head-requires : goal.head-requires
head-requires c =
    let k = c.in_ok-q.ensures in
    headable _ _ _ _ c.requires _ c.string.auto.out _ 2 _ _ k (quoted-on _ _ _ _ c.requires _ c.string.auto.out _ _ _ k)

pub returns : goal.returns
returns c =
    let k = c.in_ok-q.ensures in
    counted-token _ _ _ _ c.requires _ c.string.auto.out _ 2 _ _ _ _ k (quoted-on _ _ _ _ c.requires _ c.string.auto.out _ _ _ k) c.head.ensures
