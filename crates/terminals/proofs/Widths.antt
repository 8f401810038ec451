-- The width of a terminal, by the numbers of its token.
use mathlib.Core.List.{List, ◌++◌}
use mathlib.Core.Path.{◌≡◌, refl, sym, ap, ap₂, ◌∙◌}
use Prim.Native.Nat.{ℕ, ◌+◌}
use native.Mathlib.Omega.{arith}
use lib.ListN.{length, get_or, drop}
use lib.Seq.{get_or-drop}
use Rattle.tree.specs.Tree.{Terminal, literal, inclusion, exclusion, insertion, string, hex}
use Rattle.tree.specs.Tokens.{terminal_tokens, member_tokens, encode, capped}
use Rattle.plain.specs.Plain.{width}
use Rattle.tokens.specs.Lengths.{terminal_width, width_at}
use Rattle.tokens.proofs.Walk.{by-mark}

width_of : (x : Terminal) (more : List ℕ) → terminal_width (get_or (encode (terminal_tokens x) ++ more) 0 0) (get_or (encode (terminal_tokens x) ++ more) 1 0) ≡ width x
unfolding terminal_width
width_of (literal m (string cs)) more = by-mark (λ k. terminal_width (4 + k) (length cs) ≡ length cs) refl refl refl refl m
width_of (literal m (hex n)) more = by-mark (λ k. terminal_width (8 + k) (capped n) ≡ 1) refl refl refl refl m
width_of (inclusion m ms) more = by-mark (λ k. terminal_width (12 + k) (get_or (encode (member_tokens ms) ++ more) 0 0) ≡ 1) refl refl refl refl m
width_of (exclusion m ms) more = by-mark (λ k. terminal_width (16 + k) (get_or (encode (member_tokens ms) ++ more) 0 0) ≡ 1) refl refl refl refl m
width_of (insertion (string cs)) more = refl
width_of (insertion (hex n)) more = refl

pub width-at : (T : List ℕ) (at : ℕ) (x : Terminal) (more : List ℕ) → drop at T ≡ encode (terminal_tokens x) ++ more → width_at T at ≡ width x
width-at T at x more e =
    let first : get_or T at 0 ≡ get_or (drop at T) 0 0 = ap (λ (i : ℕ). get_or T i 0) (let z : at ≡ at + 0 = omega arith in z) ∙ sym (get_or-drop at T 0 0) in
    ap₂ terminal_width first (sym (get_or-drop at T 1 0)) ∙ ap (λ (l : List ℕ). terminal_width (get_or l 0 0) (get_or l 1 0)) e ∙ width_of x more
