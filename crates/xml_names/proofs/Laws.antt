-- Laws of faults.
use mathlib.Core.Path.{◌≡◌}
use Rattle.text.proofs.Lists.{or-false, or_assoc}
use Rattle.xml_names.specs.Flags.{sound, both}
use Rattle.xml_names.specs.declared.Faults.{Faults}

pub both-assoc : (a b c : Faults) → both (both a b) c ≡ both a (both b c)
both-assoc a b c = rw (or_assoc a.misnamed b.misnamed c.misnamed, or_assoc a.unwritable b.unwritable c.unwritable, or_assoc a.namespaced b.namespaced c.namespaced)

pub both-sound : (a : Faults) → both a sound ≡ a
both-sound a = rw (or-false a.misnamed, or-false a.unwritable, or-false a.namespaced)
