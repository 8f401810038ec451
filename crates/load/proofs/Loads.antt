-- From the stages' answers to the whole: characters, then bytes.
use Rattle.std.specs.Prelude.{Some, None, Ok, Err}
use mathlib.Core.Path.{◌≡◌, refl, sym, subst, ap}
use mathlib.Core.List.{List}
use Prim.Native.Nat.{ℕ, ◌≤◌}
use native.Mathlib.Omega.{arith}
use lib.ListN.{length}
use borrow.Author.Tests.{le-ltb}
use Rattle.text.specs.Lists.{Text}
use Rattle.text.specs.Stages.{refused, plainly}
use Rattle.text.specs.declared.Diagnostic.{Diagnostic}
use Rattle.syntax.proofs.Sound.{sound}
use Rattle.places.specs.Tokens.{place_of}
use Rattle.spacing.specs.declared.Cell.{Cell}
use Rattle.reader.specs.Answers.{Readable, Held, Read-as}
use Rattle.load.specs.Checked.{Loaded, Stands, Standing, at_character, place_for, Placed, TreeChecked, Passes, stage_of}
use Rattle.load.specs.Loaded.{Roomy, Reads, reads_none, reads-refused, reads-grammar}

-- a refusal from 5 to 10, with its place; 11, which has none
pub placed-is : (Q : ℕ → Type 0) (s : Text) (n p : ℕ) (d : Diagnostic) → d ≡ at_character n p → p ≡ place_for s n → Q n → Placed Q s d
placed-is Q s n p d e f h = subst (Placed Q s) (sym e) (record { holds = h; place = ap (at_character n) f })

pub plain-is : (Q : ℕ → Type 0) (s : Text) (d : Diagnostic) → d ≡ plainly 11 → Q 11 → Placed Q s d
plain-is Q s d e h = placed-is Q s 11 0 d e refl h

-- the place of a rule
pub place-for : (s : Text) (n p : ℕ) → n ≤ 10 → p ≡ place_of n s → p ≡ place_for s n
place-for s n p l e = rw (le-ltb 10 n l) e

pub readable : (s : Text) (T : List ℕ) → Roomy s T → Readable s T
readable s T r = let a = r.chars in let b = r.table in record { room = omega arith; few = omega arith }

pub no-tree : (s : Text) (T : List ℕ) → Read-as s None T → Reads s T (refused (plainly 4))
no-tree s T h = reads_none h.none

stands : (s : Text) (T : List ℕ) (end : ℕ) (h : Held s T end) → Stands T end h.tree
stands s T end h = record { text = s; derived = sound s h.tree h.same; held = h.holds }

pub standing : (s : Text) (T : List ℕ) (b : Cell) → Read-as s (Some b) T → length s ≤ 4096 → length T ≡ 16384 → Standing s T b.0
standing s T b w l n =
    let k = w.cells in
    record { grammar = w.tree; parse = w.same; stands = stands s T b.0 w; chars = l; within = omega arith; short = omega arith }

pub checked : (s : Text) (T : List ℕ) (b : Cell) → Read-as s (Some b) T → length s ≤ 4096 → (r : Loaded) → TreeChecked s T b.0 r → Reads s T (stage_of r)
checked s T b w l (Ok p) j =
    let q = j w.tree (stands s T b.0 w) in
    let k = w.cells in
    let t = q.tokens in
    reads-grammar {p = p} (record {
      tree = w.tree;
      parse = w.same;
      stands = subst (λ (n : ℕ). Stands T n w.tree) (sym t) (stands s T b.0 w);
      inside = omega arith;
      passes = subst (λ (n : ℕ). Passes w.tree n p) (sym t) q;
    })
checked s T b w l (Err d) j =
    let k = j w.tree (stands s T b.0 w) in
    reads-refused {d = d} (record { holds = record { tree = w.tree; parse = w.same; refuses = k.holds }; place = k.place })
