-- The numbers of open nodes in the scratch.
use mathlib.Core.Path.{◌≡◌, refl, sym, ap, ◌∙◌}
use mathlib.Core.List.{List, [], ◌∷◌, ◌++◌, append_assoc}
use Prim.Native.Nat.{ℕ, ◌+◌, ◌*◌, ◌<◌, ◌≤◌}
use native.Mathlib.Omega.{arith}
use lib.ListN.{length, get_or, set, length-set, length-append}
use lib.Seq.{get_or-set_same, get_or-set_other, set-get_or, set-set, set_comm, get_or_at, append_snoc}
use Rattle.text.specs.Lists.{Text}
use Rattle.tree.specs.Tree.{Grammar}
use Rattle.derive.specs.Derive.{Row, end, leaf, node, left_parse}
use Rattle.items.specs.Items.{Starts}
use Rattle.left_parse.specs.Noted.{Noted}
use Rattle.left_parse.specs.Walk.{Frame, opened, Link, Chain, bottom, link}

pub opened-length : (fs : List Frame) (U : List ℕ) → length (opened fs U) ≡ length U
opened-length [] U = refl
opened-length (f ∷ fs) U = length-set (set (opened fs U) (2 * f.entry) f.link) (2 * f.entry + 1) f.item ∙ length-set (opened fs U) (2 * f.entry) f.link ∙ opened-length fs U

-- two numbers over two
over-two : (A : List ℕ) (k a b c d : ℕ) → set (set (set (set A k a) (k + 1) b) k c) (k + 1) d ≡ set (set A k c) (k + 1) d
over-two A k a b c d = rw (set_comm (set A k a) (k + 1) k b c (λ e. omega arith), set-set A k a c, set-set (set A k c) (k + 1) b d)

module _ {T : List ℕ} {r : Text} {S : List ℕ} {g : Grammar} {starts : Starts} {e₁ i₁ : ℕ} where
  pub innermost : {f : Frame} {fs : List Frame} {n e i : ℕ} → Chain T r S g starts e₁ i₁ (f ∷ fs) n e i → Link T r S g starts f n e i
  innermost (link l c) = l

  pub outer : {f : Frame} {fs : List Frame} {n e i : ℕ} → Chain T r S g starts e₁ i₁ (f ∷ fs) n e i → Chain T r S g starts e₁ i₁ fs f.link (e + length (left_parse f.row)) f.to
  outer (link l c) = c

  -- nothing is changed past the open nodes
  pub opened-past : {n e i : ℕ} {fs : List Frame} → Chain T r S g starts e₁ i₁ fs n e i → (U : List ℕ) (k : ℕ) → 2 * n ≤ k → get_or (opened fs U) k 0 ≡ get_or U k 0
  opened-past (bottom a b c) U k h = refl
  opened-past (link {f = f} {fs = fs} l c) U k h =
      let a = l.last in
      let b = l.lower in
      get_or-set_other (set (opened fs U) (2 * f.entry) f.link) (2 * f.entry + 1) k f.item 0 (λ e. omega arith)
      ∙ get_or-set_other (opened fs U) (2 * f.entry) k f.link 0 (λ e. omega arith) ∙ opened-past c U k (omega arith)

  opened-set : {n e i : ℕ} {fs : List Frame} → Chain T r S g starts e₁ i₁ fs n e i → (U : List ℕ) (k v : ℕ) → 2 * n ≤ k → opened fs (set U k v) ≡ set (opened fs U) k v
  opened-set (bottom a b c) U k v h = refl
  opened-set (link {f = f} {fs = fs} l c) U k v h =
      let a = l.last in
      let b = l.lower in
      rw (opened-set c U k v (omega arith), set_comm (opened fs U) k (2 * f.entry) v f.link (λ e. omega arith))
      (set_comm (set (opened fs U) (2 * f.entry) f.link) k (2 * f.entry + 1) v f.item (λ e. omega arith))

  -- a node is opened over the numbers that it will have
  pub opened-over : {n e i : ℕ} (f : Frame) {fs : List Frame} → Chain T r S g starts e₁ i₁ fs n e i → n ≤ f.entry → (U : List ℕ) (a b : ℕ)
      → set (set (opened fs U) (2 * f.entry) f.link) (2 * f.entry + 1) f.item ≡ opened (f ∷ fs) (set (set U (2 * f.entry) a) (2 * f.entry + 1) b)
  opened-over f {fs} c h U a b =
      let A = opened fs U in
      rw (opened-set c (set U (2 * f.entry) a) (2 * f.entry + 1) b (omega arith), opened-set c U (2 * f.entry) a (omega arith)) (sym (over-two A (2 * f.entry) a b f.link f.item))

  -- the innermost gets the numbers that are noted of it
  pub opened-back : {n e i : ℕ} {f : Frame} {fs : List Frame} → Chain T r S g starts e₁ i₁ (f ∷ fs) n e i → (U : List ℕ) (a b : ℕ)
      → get_or U (2 * f.entry) 0 ≡ a → get_or U (2 * f.entry + 1) 0 ≡ b
      → set (set (opened (f ∷ fs) U) (2 * f.entry) a) (2 * f.entry + 1) b ≡ opened fs U
  opened-back {f = f} {fs = fs} c U a b p q =
      let A = opened fs U in
      let l = (innermost c).lower in
      let x : get_or A (2 * f.entry) 0 ≡ a = opened-past (outer c) U (2 * f.entry) (omega arith) ∙ p in
      let y : get_or A (2 * f.entry + 1) 0 ≡ b = opened-past (outer c) U (2 * f.entry + 1) (omega arith) ∙ q in
      over-two A (2 * f.entry) f.link f.item a b ∙ put_back A (2 * f.entry) a b x y
    where
      put_back : (A : List ℕ) (k a b : ℕ) → get_or A k 0 ≡ a → get_or A (k + 1) 0 ≡ b → set (set A k a) (k + 1) b ≡ A
      put_back A k a b x y = rw (← x, set-get_or A k 0, ← y) (set-get_or A (k + 1) 0)

pub link-of : (f : Frame) (fs : List Frame) (U : List ℕ) → 2 * f.entry + 1 < length U → get_or (opened (f ∷ fs) U) (2 * f.entry) 0 ≡ f.link
link-of f fs U h =
    let l = opened-length fs U in
    get_or-set_other (set (opened fs U) (2 * f.entry) f.link) (2 * f.entry + 1) (2 * f.entry) f.item 0 (λ e. omega arith)
    ∙ get_or-set_same (opened fs U) (2 * f.entry) f.link 0 (omega arith)

pub item_of : (f : Frame) (fs : List Frame) (U : List ℕ) → 2 * f.entry + 1 < length U → get_or (opened (f ∷ fs) U) (2 * f.entry + 1) 0 ≡ f.item
item_of f fs U h =
    let l = opened-length fs U in
    let m = length-set (opened fs U) (2 * f.entry) f.link in
    get_or-set_same (set (opened fs U) (2 * f.entry) f.link) (2 * f.entry + 1) f.item 0 (omega arith)

-- Notes are of the numbers of their entries alone.
pub noted-same : (A B : List ℕ) (e : ℕ) (t : Row) → ((k : ℕ) → 2 * e ≤ k → k < 2 * (e + length (left_parse t)) → get_or A k 0 ≡ get_or B k 0) → Noted A e t → Noted B e t
noted-same A B e end q n = tt
noted-same A B e (leaf m t) q n = noted-same A B e t q n
noted-same A B e (node a m c t) q n =
    let l = length-append (left_parse c) (left_parse t) in (
      sym (q (2 * e) (omega arith) (omega arith)) ∙ n.0,
      sym (q (2 * e + 1) (omega arith) (omega arith)) ∙ n.1,
      noted-same A B (e + 1) c (λ k x y. q k (omega arith) (omega arith)) n.2,
      noted-same A B (e + 1 + length (left_parse c)) t (λ k x y. q k (omega arith) (omega arith)) n.3,
    )

-- The notes as a list.
notes : ℕ → Row → List ℕ
notes e end = []
notes e (leaf m t) = notes e t
notes e (node a m c t) = (e + 1 + length (left_parse c)) ∷ m ∷ (notes (e + 1) c ++ notes (e + 1 + length (left_parse c)) t)

notes-length : (e : ℕ) (t : Row) → length (notes e t) ≡ 2 * length (left_parse t)
unfolding notes
notes-length e end = refl
notes-length e (leaf m t) = notes-length e t
notes-length e (node a m c t) =
    let k = length-append (notes (e + 1) c) (notes (e + 1 + length (left_parse c)) t) in
    let l = length-append (left_parse c) (left_parse t) in
    let x = notes-length (e + 1) c in
    let y = notes-length (e + 1 + length (left_parse c)) t in
    omega arith

notes-noted : (F pre post : List ℕ) (e : ℕ) (t : Row) → length pre ≡ 2 * e → F ≡ pre ++ (notes e t ++ post) → Noted F e t
unfolding notes
notes-noted F pre post e end l q = tt
notes-noted F pre post e (leaf m t) l q = notes-noted F pre post e t l q
notes-noted F pre post e (node a m c t) l q =
    let x = e + 1 + length (left_parse c) in
    let N = notes (e + 1) c in
    let M = notes x t in
    let two : length (pre ++ (x ∷ m ∷ [])) ≡ 2 * (e + 1) = length-append pre (x ∷ m ∷ []) ∙ omega arith in
    let k = notes-length (e + 1) c in
    let q₁ : F ≡ pre ++ (x ∷ m ∷ ((N ++ M) ++ post)) = q in
    let q₂ : F ≡ (pre ++ (x ∷ m ∷ [])) ++ (N ++ (M ++ post)) = q₁ ∙ simp append_assoc in
    let q₃ : F ≡ ((pre ++ (x ∷ m ∷ [])) ++ N) ++ (M ++ post) = q₂ ∙ sym (append_assoc (pre ++ (x ∷ m ∷ [])) N (M ++ post)) in
    let q₄ : F ≡ (pre ++ (x ∷ [])) ++ (m ∷ ((N ++ M) ++ post)) = q₁ ∙ sym (append_snoc pre x (m ∷ ((N ++ M) ++ post))) in
    let one : length (pre ++ (x ∷ [])) ≡ 2 * e + 1 = length-append pre (x ∷ []) ∙ omega arith in
    let three : length ((pre ++ (x ∷ m ∷ [])) ++ N) ≡ 2 * x = length-append (pre ++ (x ∷ m ∷ [])) N ∙ omega arith in (
      ap (λ (z : List ℕ). get_or z (2 * e) 0) q₁ ∙ get_or_at pre x (m ∷ ((N ++ M) ++ post)) 0 (2 * e) l,
      ap (λ (z : List ℕ). get_or z (2 * e + 1) 0) q₄ ∙ get_or_at (pre ++ (x ∷ [])) m ((N ++ M) ++ post) 0 (2 * e + 1) one,
      notes-noted F (pre ++ (x ∷ m ∷ [])) (M ++ post) (e + 1) c two q₂,
      notes-noted F ((pre ++ (x ∷ m ∷ [])) ++ N) post x t three q₃,
    )

-- some list has the notes of a row, after two numbers
pub record Has (a b : ℕ) (t : Row) : Type 0 where
  pub list : List ℕ
  pub first : get_or list 0 0 ≡ a
  pub second : get_or list 1 0 ≡ b
  pub noted : Noted list 1 t

pub notes-of : (a b : ℕ) (t : Row) → Has a b t
notes-of a b t = record { list = a ∷ b ∷ (notes 1 t ++ []); first = refl; second = refl; noted = notes-noted (a ∷ b ∷ (notes 1 t ++ [])) (a ∷ b ∷ []) [] 1 t (omega arith) refl }
