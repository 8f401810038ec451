-- Terminals, terms and alternatives in the tidy layout read back as what they are, whatever text w follows.
use mathlib.Core.Path.{◌≡◌, refl}
use mathlib.Core.List.{◌∷◌, ◌++◌, append_assoc}
use Prim.Native.Nat.{ℕ}
use native.Mathlib.Omega.{arith}
use Rattle.text.specs.Lists.{Text, chars}
use Rattle.tree.specs.Tree.{Terminal, Symbol, Alternative, nil, cons, Body, also}
use Rattle.syntax.specs.Syntax.{is, ch, s-none, bar, TerminalOf, t-literal, t-inclusion, t-exclusion, t-insertion}
use Rattle.syntax.specs.Syntax.{Alts, alts-one, alts-also, Alt, alt-none, alt-some, Terms, terms-one, terms-more}
use Rattle.syntax.specs.Syntax.{Term, t-factor, t-option, t-repeat0, t-repeat0sep, t-repeat1, t-repeat1sep, Factor, f-terminal, f-nonterminal, f-group}
use Rattle.tidy.specs.Tidy.{chars_text, mark_text, set_text, terminal_text, symbol_text, alternative_text, body_text}
use Rattle.tidy.proofs.Lexical.{three, sign, space, chars-read, set_reads, tmark-reads, mark-reads, name-reads}

terminal-reads : (t u w : Text) (x : Terminal) → TerminalOf t u x → TerminalOf (terminal_text x ++ w) w x
unfolding ch
terminal-reads t u w x (t-literal {m = m} {k = k} h c s) =
    rw (append_assoc (mark_text m) (chars_text k) w) (t-literal (tmark-reads _ _ _ m h) (chars-read _ _ w k c) s-none)
terminal-reads t u w x (t-inclusion {m = m} {ms = ms} h c) =
    rw (append_assoc (mark_text m) (set_text ms) w) (t-inclusion (tmark-reads _ _ _ m h) (set_reads _ _ w ms c))
terminal-reads t u w x (t-exclusion {m = m} {ms = ms} h i s c) =
    rw (three (mark_text m) (chars "~") (set_text ms) w) (t-exclusion (tmark-reads _ _ _ m h) (is refl) s-none (set_reads _ _ w ms c))
terminal-reads t u w x (t-insertion {k = k} i s c s') = t-insertion (is refl) s-none (chars-read _ _ w k c) s-none

-- an alternative and a bar before the others, a term and a comma before the others
alternative-before : (d : ℕ) (w : Text) (a : Alternative) (c : Body) → let v = chars "; " ++ (body_text c ++ w) in
    Alt d (alternative_text a ++ v) v a → Alts d (body_text c ++ w) w c → Alts d (alternative_text a ++ v) w (also a c)
unfolding bar
alternative-before d w a c h hs = alts-also h (is refl) (space (body_text c ++ w)) hs

term-before : (d : ℕ) (w : Text) (f : Symbol) (a : Alternative) → let v = chars ", " ++ (alternative_text a ++ w) in
    Term d (symbol_text f ++ v) v f → Terms d (alternative_text a ++ w) w a → Terms d (symbol_text f ++ v) w (cons f a)
term-before d w f a h hs = terms-more h (sign 0x2c) (space (alternative_text a ++ w)) hs

pub some-term : {d : ℕ} {t u : Text} {a : Alternative} → Terms d t u a → a ≡ nil → ⊥
some-term (terms-one h) e = let z : ◌≡◌ {A = ℕ} 0 1 = cc in omega arith
some-term (terms-more h i s hs) e = let z : ◌≡◌ {A = ℕ} 0 1 = cc in omega arith

mutual
  pub body_reads : (d : ℕ) (t u w : Text) (b : Body) → Alts d t u b → Alts d (body_text b ++ w) w b
  body_reads d t u w b (alts-one {a = a} h) = alts-one (alternative-reads d _ _ w a h)
  body_reads d t u w b (alts-also {a = a} {b = c} h i s hs) =
      rw (three (alternative_text a) (chars "; ") (body_text c) w)
      (alternative-before d w a c (alternative-reads d _ _ (chars "; " ++ (body_text c ++ w)) a h) (body_reads d _ _ w c hs))

  alternative-reads : (d : ℕ) (t u w : Text) (a : Alternative) → Alt d t u a → Alt d (alternative_text a ++ w) w a
  alternative-reads d t u w a alt-none = alt-none
  alternative-reads d t u w a (alt-some h) = alt-some (terms-read d _ _ w a h)

  terms-read : (d : ℕ) (t u w : Text) (a : Alternative) → Terms d t u a → Terms d (alternative_text a ++ w) w a
  terms-read d t u w a (terms-one {f = f} h) = terms-one (term-reads d _ _ w f h)
  terms-read d t u w a (terms-more {f = f} {a = nil} h i s hs) = absurd (some-term hs refl)
  terms-read d t u w a (terms-more {f = f} {a = cons k b} h i s hs) =
      rw (three (symbol_text f) (chars ", ") (alternative_text (cons k b)) w)
      (term-before d w f (cons k b) (term-reads d _ _ (chars ", " ++ (alternative_text (cons k b) ++ w)) f h) (terms-read d _ _ w (cons k b) hs))

  term-reads : (d : ℕ) (t u w : Text) (f : Symbol) → Term d t u f → Term d (symbol_text f ++ w) w f
  term-reads d t u w f (t-factor h) = t-factor (factor-reads d _ _ w f h)
  term-reads d t u w f (t-option {f = k} h i s) =
      rw (append_assoc (symbol_text k) (chars "?") w) (t-option (factor-reads d _ _ (0x3f ∷ w) k h) (sign 0x3f) s-none)
  term-reads d t u w f (t-repeat0 {f = k} h i s) =
      rw (append_assoc (symbol_text k) (chars "*") w) (t-repeat0 (factor-reads d _ _ (0x2a ∷ w) k h) (sign 0x2a) s-none)
  term-reads d t u w f (t-repeat1 {f = k} h i s) =
      rw (append_assoc (symbol_text k) (chars "+") w) (t-repeat1 (factor-reads d _ _ (0x2b ∷ w) k h) (sign 0x2b) s-none)
  term-reads d t u w f (t-repeat0sep {f = k} {sep = q} h i i' s hq) =
      rw (three (symbol_text k) (chars "**") (symbol_text q) w)
      (t-repeat0sep (factor-reads d _ _ (chars "**" ++ (symbol_text q ++ w)) k h) (sign 0x2a) (sign 0x2a) s-none (factor-reads d _ _ w q hq))
  term-reads d t u w f (t-repeat1sep {f = k} {sep = q} h i i' s hq) =
      rw (three (symbol_text k) (chars "++") (symbol_text q) w)
      (t-repeat1sep (factor-reads d _ _ (chars "++" ++ (symbol_text q ++ w)) k h) (sign 0x2b) (sign 0x2b) s-none (factor-reads d _ _ w q hq))

  factor-reads : (d : ℕ) (t u w : Text) (f : Symbol) → Factor d t u f → Factor d (symbol_text f ++ w) w f
  factor-reads d t u w f (f-terminal {x = x} h) = f-terminal (terminal-reads _ _ w x h)
  factor-reads d t u w f (f-nonterminal {n = n} {m = m} h k s) =
      rw (append_assoc (mark_text m) n w) (f-nonterminal (mark-reads _ _ _ m h) (name-reads _ _ n w k) s-none)
  factor-reads d t u w f (f-group {d = e} {b = b} i s h j s') =
      rw (three (chars "(") (body_text b) (chars ")") w) (f-group (sign 0x28) s-none (body_reads e _ _ (0x29 ∷ w) b h) (sign 0x29) s-none)
