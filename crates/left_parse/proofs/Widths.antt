-- The width of an item's terminal.
use mathlib.Core.List.{List, ◌++◌, append_assoc}
use mathlib.Core.Path.{◌≡◌, ◌∙◌}
use Prim.Native.Nat.{ℕ, ◌<◌}
use native.Mathlib.Omega.{arith}
use lib.ListN.{length, drop}
use Rattle.tree.specs.Tree.{Terminal, literal, inclusion, exclusion, insertion, string, hex}
use Rattle.tree.specs.Tokens.{terminal_tokens, encode}
use Rattle.plain.specs.Plain.{width}
use Rattle.tokens.specs.Lengths.{width_at}
use Rattle.tokens.proofs.Walk.{drop-whole}
use Rattle.items.specs.Items.{Reads}
use Rattle.terminals.proofs.Widths.{width-at}

some_of : (x : Terminal) (more : List ℕ) → 0 < length (encode (terminal_tokens x) ++ more)
some_of (literal m (string cs)) more = omega arith
some_of (literal m (hex n)) more = omega arith
some_of (inclusion m ms) more = omega arith
some_of (exclusion m ms) more = omega arith
some_of (insertion (string cs)) more = omega arith
some_of (insertion (hex n)) more = omega arith

pub reads-width : {T : List ℕ} {at : ℕ} (x : Terminal) → Reads T at (terminal_tokens x) → width_at T at ≡ width x
reads-width {T} {at} x R =
    width-at T at x (R.more ++ drop 12288 T)
    (drop-whole T 12288 at (encode (terminal_tokens x) ++ R.more) R.stands (some_of x R.more) ∙ append_assoc (encode (terminal_tokens x)) R.more (drop 12288 T))
