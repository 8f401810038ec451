-- A left parse names one derivation.
use mathlib.Core.Path.{◌≡◌, refl, ap}
use mathlib.Core.List.{List, [], ◌++◌, append_assoc}
use Prim.Native.Nat.{ℕ, ◌+◌}
use native.Mathlib.Omega.{arith}
use Rattle.text.specs.Lists.{Text}
use Rattle.tree.specs.Tree.{Symbol, Grammar}
use Rattle.plain.specs.Plain.{width}
use Rattle.derive.specs.Derive.{Row, leaf, node, Derives, d-end, d-leaf, d-node, left_parse, Derivation}

-- what two derivations have in common whose left parses, followed by xs and by ys, are one list
pub record Same (t t' : Row) (j j' : ℕ) (xs ys : List ℕ) : Type 0 where
  pub rows : t ≡ t'
  pub stops : j ≡ j'
  pub follows : xs ≡ ys

module _ (g : Grammar) (r : Text) where
  pub same-parse : {t t' : Row} {ss : List Symbol} {i j j' : ℕ} (xs ys : List ℕ) → Derives g r t ss i j → Derives g r t' ss i j'
      → left_parse t ++ xs ≡ left_parse t' ++ ys → Same t t' j j' xs ys
  same-parse xs ys d-end d-end e = record { rows = refl; stops = refl; follows = e }
  same-parse xs ys (d-leaf {x} {i = i} l d) (d-leaf l' d') e =
      let s = same-parse xs ys d d' e in
      record { rows = ap (leaf (i + width x)) s.rows; stops = s.stops; follows = s.follows }
  same-parse xs ys (d-leaf l d) (d-node h c d') e = absurd (omega arith)
  same-parse xs ys (d-node h c d) (d-leaf l d') e = absurd (omega arith)
  same-parse xs ys (d-node {s} {ss} {c} {t} {a} {i} {m} h k d) (d-node {c = c'} {t = t'} {a = a'} {m = m'} {j = j'} h' k' d') e =
      let ea : a ≡ a' = cc in
      let er : (left_parse c ++ left_parse t) ++ xs ≡ (left_parse c' ++ left_parse t') ++ ys = cc in
      let s1 = same-parse (left_parse t ++ xs) (left_parse t' ++ ys) k (rw (← ea) at k') (simp append_assoc at er) in
      let d2 : Derives g r t' ss m j' = rw (← s1.stops) at d' in
      let s2 = same-parse xs ys d d2 s1.follows in
      record { rows = λ ι. node (ea ι) (s1.stops ι) (s1.rows ι) (s2.rows ι); stops = s2.stops; follows = s2.follows }

  -- "named by its left parse": of the same symbols
  pub same_row : {t t' : Row} {ss : List Symbol} {i j j' : ℕ} → Derives g r t ss i j → Derives g r t' ss i j' → left_parse t ≡ left_parse t' → t ≡ t'
  same_row d d' e = (same-parse [] [] d d' (ap (λ (p : List ℕ). p ++ []) e)).rows

  -- of the record
  pub same-derivation : {t t' : Row} → Derivation g r t → Derivation g r t' → left_parse t ≡ left_parse t' → t ≡ t'
  same-derivation = same_row
