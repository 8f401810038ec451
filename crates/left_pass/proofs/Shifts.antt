-- Terminals take their characters: flags at the places after them.
use mathlib.Core.Bool.{Bool, true, false}
use mathlib.Core.List.{List, [], ◌∷◌}
use mathlib.Core.Logic.{◌⊎◌, inl, inr, ⊎_elim}
use mathlib.Core.Path.{◌≡◌, refl, sym, subst, ap, ◌∙◌}
use Prim.Native.Nat.{ℕ, ◌+◌, ◌*◌, ◌<◌, ◌≤◌}
use native.Mathlib.Decide.{ℕ_discrete}
use native.Mathlib.Omega.{arith}
use lib.Dec.{T, eqb}
use lib.ListN.{length, get_or, drop, length-drop}
use Rattle.text.specs.Lists.{Text, begins}
use Rattle.text.proofs.Tests.{is_t, not_t, split, and_right}
use Rattle.tree.specs.Tree.{Terminal, literal, inclusion, exclusion, insertion, codes}
use Rattle.plain.specs.Plain.{fits, width}
use Rattle.chart.specs.Code.{next_kind, goes_at}
use Rattle.items.specs.Items.{token_at}
use Rattle.terminals.specs.Places.{TerminalAt}
use Rattle.rules.specs.Ready.{Token}
use Rattle.reach.specs.Flags.{Reached, Fits}
use Rattle.reach.specs.Work.{Raised}
use Rattle.left_pass.specs.Left.{Given, Shifted}
use Rattle.reach.proofs.Queue.{raised-le}

-- what fits is there
begins-length : (cs t : Text) → T (begins cs t) → length cs ≤ length t
begins-length [] t f = omega arith
begins-length (x ∷ cs) [] f = absurd f
begins-length (x ∷ cs) (y ∷ t) f = omega (arith, begins-length cs t (and_right (eqb x y) (begins cs t) f))

fits-length : (x : Terminal) (t : Text) → T (fits x t) → width x ≤ length t
fits-length (literal m k) t f = begins-length (codes k) t f
fits-length (inclusion m ms) [] f = absurd f
fits-length (inclusion m ms) (d ∷ t) f = omega arith
fits-length (exclusion m ms) [] f = absurd f
fits-length (exclusion m ms) (d ∷ t) f = omega arith
fits-length (insertion k) t f = omega arith

pub fits-within : (x : Terminal) (R : Text) (i : ℕ) → i ≤ length R → T (fits x (drop i R)) → i + width x ≤ length R
fits-within x R i h f = omega (arith, fits-length x (drop i R) f, length-drop i R)

-- what a test says
module _ {Tb : List ℕ} (R : Text) (i p at : ℕ) {r : Bool} (e : at ≡ token_at Tb p) (f : (x : Terminal) → TerminalAt Tb at x → r ≡ fits x (drop i R)) where
  pub all_fit : r ≡ true → (x : Terminal) → Token Tb p x → T (fits x (drop i R))
  all_fit h x t = is_t (sym (f x (subst (λ (a : ℕ). TerminalAt Tb a x) (sym e) t.1)) ∙ h)

  pub none-fits : r ≡ false → (x : Terminal) → Token Tb p x → T (fits x (drop i R)) → ⊥
  none-fits h x t = not_t (sym (f x (subst (λ (a : ℕ). TerminalAt Tb a x) (sym e) t.1)) ∙ h)

pub not_none : {w g : ℕ} → w ≡ g → (w ≡ 0 → ⊥) → g ≡ 0 → ⊥
not_none e n z = n (e ∙ z)

pub some-reached : {a : ℕ} → (a ≡ 0 → ⊥) → 1 ≤ a
some-reached n = omega (arith, n)

module _ {Tb c : List ℕ} {R : Text} {size i p : ℕ} {M : List ℕ} (g : Given Tb c R size M) (on : i ≤ length R) (hp : p < size) where
  -- nothing is to do
  pub shift_none : (next_kind c p ≡ 1 → (goes_at c p ≡ 0 → ⊥) → Reached M p i → (x : Terminal) → Token Tb p x → T (fits x (drop i R)) → ⊥) → Shifted Tb c R size M M i p (p + 1)
  shift_none n = record {
    long = refl;
    grows = λ x. omega arith;
    before = λ x h. refl;
    rules = λ k e h l. (refl, refl);
    dots = λ q h r. r;
    ahead = λ q k h l d. d;
    fit = λ q x l h a k z r t f. absurd (let y : q ≡ p = omega arith in
        n (ap (next_kind c) (sym y) ∙ k) (λ v. z (ap (goes_at c) y ∙ v)) (subst (λ (v : ℕ). Reached M v i) y r) x (subst (λ (v : ℕ). Token Tb v x) y t) f);
    only = λ q h k f. inl f;
  }

  module _ (kind : next_kind c p ≡ 1) (some : goes_at c p ≡ 0 → ⊥) (r : Reached M p i) (all : (x : Terminal) → Token Tb p x → T (fits x (drop i R))) where
    pub shift-after : p + 1 < size
    shift-after = g.shape.after p hp (λ z. omega arith)

    pub shift-within : i + goes_at c p ≤ length R
    shift-within =
        let h = g.here p hp kind in
        let t = g.token p h.terminal hp kind h.is in
        omega (arith, fits-within h.terminal R i on (all h.terminal t), g.goes p h.terminal hp kind t)

    module _ {M₁ M₂ : List ℕ} (a : Raised M M₁ (1536 * i + p) 2) (b : Raised M₁ M₂ (1536 * (i + goes_at c p) + (p + 1)) 1) where
      other : (x : ℕ) → (x ≡ 1536 * i + p → ⊥) → (x ≡ 1536 * (i + goes_at c p) + (p + 1) → ⊥) → get_or M₂ x 0 ≡ get_or M x 0
      other x m n = ⊎_elim (λ y. y) (λ y. absurd (n y.0)) (b.cell x) ∙ ⊎_elim (λ y. y) (λ y. absurd (m y.0)) (a.cell x)

      here-two : Fits M₂ p i
      here-two = omega (arith, a.there, raised-le b (1536 * i + p))

      pub shift-some : Shifted Tb c R size M M₂ i p (p + 1)
      shift-some = record {
        long = b.long ∙ a.long;
        grows = λ x. omega (arith, raised-le a x, raised-le b x);
        before = λ x h. other x (λ y. omega arith) (λ y. omega arith);
        rules = λ k e h l. (
          other (1536 * k + (512 + e)) (λ y. omega (arith, hp, g.shape.small)) (λ y. omega (arith, shift-after, g.shape.small)),
          other (1536 * k + (1024 + e)) (λ y. omega (arith, hp, g.shape.small)) (λ y. omega (arith, shift-after, g.shape.small)),
        );
        dots = λ q h v. elim (ℕ_discrete q p) as (λ _. Reached M q i) [
          | yes y ↦ subst (λ (x : ℕ). Reached M x i) (sym y) r
          | no y ↦ omega (arith, other (1536 * i + q) (λ z. y (omega arith)) (λ z. omega (arith, some)))
        ];
        ahead = λ q k h l d. ⊎_elim
            (λ y. ⊎_elim (λ z. omega arith) (λ z. absurd (omega (arith, z.0, hp, g.shape.small))) (a.cell (1536 * k + q)))
            (λ y. omega (arith, y.2)) (b.cell (1536 * k + q));
        fit = λ q x l h u k z v t f. (let y : p ≡ q = omega arith in
            subst (λ (w : ℕ). Fits M₂ w i × Reached M₂ (w + 1) (i + goes_at c w)) y (here-two, b.there));
        only = λ q h k f. elim (ℕ_discrete q p) as (λ _. Fits M q i ⊎ ((x : Terminal) → Token Tb q x → T (fits x (drop i R)))) [
          | yes y ↦ inr (λ x t. all x (subst (λ (v : ℕ). Token Tb v x) y t))
          | no y ↦ inl (omega (arith, other (1536 * i + q) (λ z. y (omega arith)) (λ z. omega (arith, some, h, g.shape.small))))
        ];
      }

pub given-next : {Tb c : List ℕ} {R : Text} {size : ℕ} {M M' : List ℕ} → Given Tb c R size M → length M' ≡ length M → Given Tb c R size M'
given-next g l = record {
  table-long = g.table-long;
  shape = g.shape;
  here = g.here;
  token = g.token;
  goes = g.goes;
  short = g.short;
  marks-long = omega (arith, l, g.marks-long);
}

pub shift-start : (Tb c : List ℕ) (R : Text) (size : ℕ) (M : List ℕ) (i : ℕ) → Shifted Tb c R size M M i 0 0
shift-start Tb c R size M i = record {
  long = refl;
  grows = λ x. omega arith;
  before = λ x h. refl;
  rules = λ k e h l. (refl, refl);
  dots = λ q h r. r;
  ahead = λ q k h l d. d;
  fit = λ q x l h. absurd (omega arith);
  only = λ q h k f. inl f;
}

pub shift-join : {Tb c : List ℕ} {R : Text} {size i a b d : ℕ} {M M₁ M₂ : List ℕ} → Shifted Tb c R size M M₁ i a b → Shifted Tb c R size M₁ M₂ i b d → Shifted Tb c R size M M₂ i a d
shift-join {c = c} {i = i} {b = b} v w = record {
  long = w.long ∙ v.long;
  grows = λ x. omega (arith, v.grows x, w.grows x);
  before = λ x h. w.before x h ∙ v.before x h;
  rules = λ k e h l. ((w.rules k e h l).0 ∙ (v.rules k e h l).0, (w.rules k e h l).1 ∙ (v.rules k e h l).1);
  dots = λ q h r. v.dots q h (w.dots q h r);
  ahead = λ q k h l d. w.ahead q k h l (v.ahead q k h l d);
  fit = λ q x l h u k z r t f. ⊎_elim
      (λ y. (let o = v.fit q x l y u k z r t f in (omega (arith, o.0, w.grows (1536 * i + q)), omega (arith, o.1, w.grows (1536 * (i + goes_at c q) + (q + 1))))))
      (λ y. w.fit q x y h u k z (omega (arith, v.grows (1536 * i + q))) t f)
      (split q b);
  only = λ q h k f. ⊎_elim (λ y. v.only q h k y) inr (w.only q h k f);
}

pub shift-all : {Tb c : List ℕ} {R : Text} {size i a b d : ℕ} {M M' : List ℕ} → Shifted Tb c R size M M' i a b → d ≤ b → Shifted Tb c R size M M' i a d
shift-all v h = record {
  long = v.long;
  grows = v.grows;
  before = v.before;
  rules = v.rules;
  dots = v.dots;
  ahead = v.ahead;
  fit = λ q x l k. v.fit q x l (omega arith);
  only = v.only;
}
