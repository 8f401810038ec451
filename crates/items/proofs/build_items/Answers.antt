use mathlib.Core.Path.{refl}
use Rattle.items.proofs.Finals.{scanned-linkable, scanned-built, scanned-tokens}
use Rattle.items.proofs.build_items.Goals as goal

pub link-requires : goal.link-requires
link-requires c =
    scanned-linkable (c.scan-s.ensures c.requires.tree c.requires.readable)

pub returns : goal.returns
returns c =
    λ g r. (
      scanned-tokens (c.scan-s.ensures g r) c.link.ensures c.args.table.now c.args.end refl
          c.requires.inside,
      scanned-built (c.scan-s.ensures g r) c.link.ensures _ refl,
    )
