-- What is counted, event by event.
use mathlib.Core.Path.{◌≡◌, refl, sym, ap, ◌∙◌}
use mathlib.Core.Bool.{true, false}
use mathlib.Core.List.{List, [], ◌∷◌}
use Prim.Native.Nat.{ℕ, ◌+◌, ◌*◌, ◌≤◌, ◌<◌}
use native.Mathlib.Omega.{arith}
use lib.ListN.{length, length-take}
use Rattle.text.specs.Lists.{Text, concat_map}
use Rattle.xml.specs.Document.{Xml, none, char, attr, elem, join, text}
use Rattle.xml.specs.Bytes.{escape}
use Rattle.encode.specs.Out.{enc}
use Rattle.markup.specs.Pieces.{said, sourced, Says}
use Rattle.markup.specs.declared.Piece.{Piece}
use Rattle.cursor.specs.Rest.{Rest, row, within, before}
use Rattle.extent.specs.Extent.{size, tag, most_of, attributes_of, none_at, unknown, Covers, Grown}
use Rattle.extent.specs.declared.Extent.{Extent}
use Rattle.extent.proofs.Sizes.{size-append, escapes-size}

most-join : (x y : Xml) → most_of (join x y) ≡ most_of x + most_of y
most-join none y = omega arith
most-join (char c x) y = omega (arith, most-join x y)
most-join (attr n v x) y = omega (arith, most-join x y)
most-join (elem n i x) y = omega (arith, most-join x y)

attributes-join : (x y : Xml) → attributes_of (join x y) ≡ attributes_of x + attributes_of y
attributes-join none y = omega arith
attributes-join (char c x) y = omega (arith, attributes-join x y)
attributes-join (attr n v x) y = omega (arith, attributes-join x y)
attributes-join (elem n i x) y = omega (arith, attributes-join x y)

-- of all that is ahead
abbrev most_ahead : Rest → ℕ
most_ahead (row x) = most_of x
most_ahead (within n x k) = most_of x + most_ahead k

abbrev pub attributes_ahead : Rest → ℕ
attributes_ahead (row x) = attributes_of x
attributes_ahead (within n x k) = attributes_of x + attributes_ahead k

most-before : (x : Xml) (k : Rest) → most_ahead (before x k) ≡ most_of x + most_ahead k
most-before x (row y) = most-join x y
most-before x (within n y k) = omega (arith, most-join x y)

pub attributes-before : (x : Xml) (k : Rest) → attributes_ahead (before x k) ≡ attributes_of x + attributes_ahead k
attributes-before x (row y) = attributes-join x y
attributes-before x (within n y k) = omega (arith, attributes-join x y)

most-text : (t : Text) → most_of (text t) ≡ size (concat_map (escape true) t)
unfolding enc
most-text [] = refl
most-text (c ∷ cs) = omega (arith, most-text cs, size-append (escape true c) (concat_map (escape true) cs))

pub attributes-text : (t : Text) → attributes_of (text t) ≡ 0
attributes-text [] = refl
attributes-text (c ∷ cs) = attributes-text cs

said-size : {T : List ℕ} {r : Text} {p : Piece} {t : Text} → Says T r p t → size (concat_map (escape true) t) ≤ 6 * p.count
said-size {T} {r} {p} {t} S =
    let l = length-take p.count (sourced T r p.from) in
    omega (arith, ap length (S.same true), escapes-size (said T r p), l)

-- from all that was ahead to what still is
pub record Spans (e : Extent) (r : Text) (k₀ k : Rest) : Type 0 where
  pub most : e.most < unknown → most_ahead k₀ ≤ e.most + most_ahead k
  pub bare : e.attributed ≡ false → attributes_ahead k₀ ≡ attributes_ahead k

pub spans-begin : {r : Text} {k : Rest} → Spans none_at r k k
spans-begin = record { most = λ h. omega arith; bare = λ h. refl }

module _ {e q : Extent} {r : Text} {k₀ : Rest} where
  -- what comes to so many bytes at most, and has no attribute
  on : {k k' : Rest} (by : ℕ) → Grown e q by → q.attributed ≡ e.attributed → most_ahead k ≤ by + most_ahead k' → attributes_ahead k ≡ attributes_ahead k'
      → Spans e r k₀ k → Spans q r k₀ k'
  on by G a h b S = record { most = λ l. let z = G.is l in omega (arith, S.most (omega arith)); bare = λ f. S.bare (sym a ∙ f) ∙ b }

  pub spans-text : {T : List ℕ} {p : Piece} (t : Text) (k : Rest) → Says T r p t → Grown e q (6 * p.count) → q.attributed ≡ e.attributed
      → Spans e r k₀ (before (text t) k) → Spans q r k₀ k
  spans-text {p = p} t k s G a = on (6 * p.count) G a (omega (arith, most-before (text t) k, most-text t, said-size s))
      (omega (arith, attributes-before (text t) k, attributes-text t))

  pub spans-element : (n : Text) (i : Xml) (k : Rest) → Grown e q (tag n) → q.attributed ≡ e.attributed
      → Spans e r k₀ (before (elem n i none) k) → Spans q r k₀ (within n i k)
  spans-element n i k G a = on (tag n) G a (omega (arith, most-before (elem n i none) k)) (omega (arith, attributes-before (elem n i none) k))

  pub spans-attribute : (n v : Text) (k : Rest) → Grown e q (tag n) → q.attributed ≡ true
      → Spans e r k₀ (before (attr n v none) k) → Spans q r k₀ (within n (text v) k)
  spans-attribute n v k G a S = record {
    most = λ l. let z = G.is l in omega (arith, S.most (omega arith), most-before (attr n v none) k, most-text v);
    bare = λ f. absurd (let c = sym a ∙ f in clash c);
  }
    where
      clash : true ≡ false → ⊥
      clash h = absurd (let z : ◌≡◌ {A = ℕ} 0 1 = cc in omega arith)

pub spans-close : {e : Extent} {r : Text} {k₀ : Rest} (n : Text) (k : Rest) → Spans e r k₀ (within n none k) → Spans e r k₀ k
spans-close n k S = record { most = λ l. omega (arith, S.most l); bare = λ f. omega (arith, S.bare f) }

pub spans-end : {e : Extent} {r : Text} {x : Xml} → Spans e r (row x) (row none) → Covers e x
spans-end S = record { most = λ l. omega (arith, S.most l); bare = λ f. omega (arith, S.bare f) }
