-- Every character is written as itself or as a reference to it, and is read back as it was.
use mathlib.Core.Path.{◌≡◌, sym, subst}
use mathlib.Core.Bool.{Bool, true, false, not}
use mathlib.Core.Logic.{⊎_elim}
use mathlib.Core.List.{[], ◌∷◌, ◌++◌, append_assoc}
use Prim.Native.Nat.{ℕ}
use lib.Dec.{T, eqb}
use borrow.Author.Tests.{eqb-true}
use Rattle.text.specs.Lists.{Text, chars, pick, among, concat_map}
use Rattle.text.proofs.Tests.{clash, look, T_true}
use Rattle.xml.specs.Bytes.{escape}
use Rattle.xml.specs.References.{Reference, amp, lt, gt, apos, tab, lf, cr, bare, delimiters, ReadsAs, r-end, r-reference, r-bare}

-- the characters that are written as references: in a value, and in text
abbrev pub special : Bool → ℕ → Bool
special v c = among c (pick v (chars "&<>\r'\n\t") (chars "&<>\r"))

pub data Escaped (v : Bool) (c : ℕ) : Text → Type 0 where
  as-reference : {n : Text} → Reference n c → Escaped v c (0x26 ∷ (n ++ 0x3b ∷ []))
  as-itself : special v c ≡ false → Escaped v c (c ∷ [])

-- at a character k, or at another one
at : (v : Bool) (c k : ℕ) → Escaped v k (escape v k) → (eqb c k ≡ false → Escaped v c (escape v c)) → Escaped v c (escape v c)
at v c k x f = ⊎_elim (λ e. subst (λ (d : ℕ). Escaped v d (escape v d)) (sym (eqb-true c k e)) x) f (look (eqb c k))

in-text : (c : ℕ) → Escaped false c (escape false c)
unfolding escape
in-text c =
    at false c 0x26 (as-reference amp) (λ e1. at false c 0x3c (as-reference lt) (λ e2. at false c 0x3e (as-reference gt) (λ e3. at false c 0xd (as-reference cr)
    (λ e4. simp (e1, e2, e3, e4) (as-itself (simp (e1, e2, e3, e4)))))))

in-value : (c : ℕ) → Escaped true c (escape true c)
unfolding escape
in-value c =
    at true c 0x26 (as-reference amp) (λ e1. at true c 0x3c (as-reference lt) (λ e2. at true c 0x3e (as-reference gt) (λ e3. at true c 0xd (as-reference cr)
    (λ e4. at true c 0x27 (as-reference apos) (λ e5. at true c 0xa (as-reference lf)
    (λ e6. at true c 0x9 (as-reference tab) (λ e7. simp (e1, e2, e3, e4, e5, e6, e7) (as-itself (simp (e1, e2, e3, e4, e5, e6, e7))))))))))

pub escaped : (v : Bool) (c : ℕ) → Escaped v c (escape v c)
escaped true c = in-value c
escaped false c = in-text c

-- 2. What stands bare is read as it is.
pub not_at : (c k : ℕ) (ks : Text) → among c ks ≡ false → T (among k ks) → eqb c k ≡ false
not_at c k ks h m =
    ⊎_elim (λ e. absurd (clash h (T_true (among c ks) (subst (λ (d : ℕ). T (among d ks)) (sym (eqb-true c k e)) m)))) (λ e. e) (look (eqb c k))

bare-is : (v : Bool) (c : ℕ) → special v c ≡ false → (bare v c ≡ c) × T (not (among c (delimiters v)))
bare-is true c h =
    let no : (k : ℕ) → T (special true k) → eqb c k ≡ false = λ k m. not_at c k (chars "&<>\r'\n\t") h m in
    (simp (no 0x9 tt, no 0xa tt, no 0xd tt), simp (no 0x26 tt, no 0x3c tt, no 0x27 tt) tt)
bare-is false c h =
    let no : (k : ℕ) → T (special false k) → eqb c k ≡ false = λ k m. not_at c k (chars "&<>\r") h m in
    (simp (no 0xd tt), simp (no 0x26 tt, no 0x3c tt) tt)

reads-one : (v : Bool) {c : ℕ} {e t u : Text} → Escaped v c e → ReadsAs v t u → ReadsAs v (e ++ t) (c ∷ u)
reads-one v {t = t} (as-reference {n} k) r = rw (append_assoc n (0x3b ∷ []) t) (r-reference k r)
reads-one v {c} {t = t} {u = u} (as-itself h) r =
    let b = bare-is v c h in
    subst (λ (d : ℕ). ReadsAs v (c ∷ t) (d ∷ u)) b.0 (r-bare b.1 r)

-- what is written is read back as it was, text and values, for every character
pub reads-back : (v : Bool) (t : Text) → ReadsAs v (concat_map (escape v) t) t
reads-back v [] = r-end
reads-back v (c ∷ t) = reads-one v (escaped v c) (reads-back v t)
