use Rattle.reach.specs.Lists.{list_number}
use Rattle.reach.proofs.Keys.{KeysTo}
use Rattle.reach.proofs.lists.put_keys.Given as goal

abbrev pub invariant-loop-p : goal.invariant-loop-p
invariant-loop-p l = KeysTo l.code l.size (list_number l.which) l.initial.keys l.keys l.p
