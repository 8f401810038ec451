-- What is noted of each entry of a left parse, in two numbers: the entry after its subtree, and the place where its stretch ends.
use Rattle.std.specs.Prelude.{◌≡◌, List, ℕ, ◌+◌, ◌*◌, ◌<◌, ◌≤◌, length, get_or}
use Rattle.text.specs.Lists.{Text}
use Rattle.tree.specs.Tree.{Grammar}
use Rattle.derive.specs.Derive.{Row, end, leaf, node, left_parse, Derivation}
use Rattle.items.specs.Items.{Items}

-- of a row whose first entry is e
abbrev pub Noted : List ℕ → ℕ → Row → Type 0
Noted S e end = Unit {0}
Noted S e (leaf m t) = Noted S e t
Noted S e (node a m c t) = (get_or S (2 * e) 0 ≡ e + 1 + length (left_parse c)) × (get_or S (2 * e + 1) 0 ≡ m) × Noted S (e + 1) c × Noted S (e + 1 + length (left_parse c)) t

-- the list names a derivation of the record by the rules in the table
pub record Parsed (T : List ℕ) (root : ℕ) (P : List ℕ) (g : Grammar) (r : Text) (t : Row) : Type 0 where
  pub items : Items T g root
  pub derives : Derivation g r t
  pub parse : left_parse t ≡ P
  pub short : length r < 4294967296

-- numbers of the table and of the list fit where they are noted
pub record Room (T P S : List ℕ) : Type 0 where
  pub table : length T < 4294967296
  pub list : length P < 4611686018427387904
  pub scratch : 2 * length P ≤ length S
