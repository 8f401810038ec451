-- The sizes of two grammars, computed from their bytes.
use mathlib.Core.Path.{◌≡◌, refl, sym, ap, ◌∙◌}
use mathlib.Core.List.{List}
use Prim.Native.Nat.{ℕ}
use Rattle.text.specs.Lists.{chars}
use Rattle.text.specs.Utf8 as utf8
use Rattle.text.specs.Decode as decoding
use Rattle.tree.specs.Tree.{Grammar}
use Rattle.plain.specs.Plain.{size}
use Rattle.syntax.specs.Parser.{Parsed, parsed, no-parse}
use Rattle.syntax.proofs.Samples.{computing}
use Rattle.answer.specs.Answer.{GrammarTree}
use Rattle.answer.specs.Compute.{tree_of}
use Rattle.answer.proofs.Agree.{tree-complete}

sized : Parsed → ℕ
sized (parsed g) = size g
sized no-parse = 0

-- the size of the one tree that the bytes have
size-by : (bs : List ℕ) (n : ℕ) → sized (tree_of bs) ≡ n → (g : Grammar) → GrammarTree bs g → size g ≡ n
unfolding sized
size-by bs n e g w = sym (ap sized (tree-complete bs g w)) ∙ e

pub size-of-literal : (g : Grammar) → GrammarTree (chars "a: \"x\".") g → size g ≡ 2
unfolding sized computing utf8.utf8 utf8.utf8s utf8.unmarked decoding.second_low decoding.second_high decoding.rest_of decoding.char_of
    decoding.decode_in decoding.decode size tree_of
size-of-literal = size-by (chars "a: \"x\".") 2 refl

pub size-of-repetition : (g : Grammar) → GrammarTree (chars "a: \"x\"*.") g → size g ≡ 6
unfolding sized computing utf8.utf8 utf8.utf8s utf8.unmarked decoding.second_low decoding.second_high decoding.rest_of decoding.char_of
    decoding.decode_in decoding.decode size tree_of
size-of-repetition = size-by (chars "a: \"x\"*.") 6 refl
