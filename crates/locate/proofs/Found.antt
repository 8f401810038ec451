-- From the first spot at fault to its place.
use native.Mathlib.Omega.{arith}
use mathlib.Core.Bool.{Bool, true, false}
use mathlib.Core.Path.{◌≡◌, refl, sym, ap, subst, ◌∙◌}
use mathlib.Core.List.{List, []}
use Prim.Native.Nat.{ℕ, ◌+◌, ◌<◌, ◌≤◌}
use lib.Dec.{ltb}
use lib.ListN.{length, get_or, take}
use Rattle.text.specs.Lists.{Text, pick, any, concat_map}
use Rattle.text.proofs.Tests.{is_t}
use Rattle.tree.specs.Tree.{Grammar}
use Rattle.tree.specs.Tokens.{Token, grammar_tokens}
use Rattle.syntax.specs.Syntax.{Ixml}
use Rattle.syntax.proofs.Sound.{sound}
use Rattle.syntax.proofs.Complete.{unique}
use Rattle.plain.specs.Static.{undefined, duplicate, beyond, banned, backwards, unclassed}
use Rattle.static_errors.specs.Held.{Holds, Held, static_of}
use Rattle.static_errors.specs.Scan.{Tokens, Indexed, names_at}
use Rattle.static_errors.proofs.ProperTrees.{tokens-of, heads-are}
use Rattle.places.specs.Place.{hexes_at, at_fault, Place}
use Rattle.places.specs.Scan.{between, lefts}
use Rattle.places.specs.Tokens.{parts, index, fault_index, place_of}
use Rattle.places.proofs.Parts.{parts-known}
use Rattle.places.proofs.Unique.{left-known, place_is}
use Rattle.places.proofs.Exists.{written-hexes, place-5, place-6, place-7, place-8, place-9, place-10}
use Rattle.locate.specs.Spots.{Located}
use Rattle.locate.specs.Faults.{Fine, FaultAt, Rated}
use Rattle.locate.specs.Asked.{Asked}

-- 1. Of all tokens of a grammar.
rated-fine : (rule : ℕ) (g : Grammar) → Rated rule g → Fine rule (grammar_tokens g)
unfolding beyond
rated-fine rule g r = record {
  low = r.low;
  high = r.high;
  fine = λ l. ap (any (ltb 0x10ffff)) (ap (concat_map hexes_at) (sym (parts-known r.derived)) ∙ written-hexes r.derived) ∙ r.fine l;
}

pub fault-at : (t : List ℕ) (end : ℕ) (list : List ℕ) (n rule r : ℕ) → Indexed t end n list → ((ts : List Token) → Tokens t end 0 ts → FaultAt rule (names_at t (take n list)) ts r)
    → (g : Grammar) → Holds t end g → Rated rule g → r ≡ fault_index rule g
fault-at t end list n rule r i f g h x =
    let k = tokens-of t end g h in
    (f (grammar_tokens g) k).is (rated-fine rule g x) ∙ ap (λ (hs : List Text). index (at_fault rule hs) [] (parts g)) (i.heads (grammar_tokens g) k ∙ heads-are g h.proper)

-- 2. A static rule that is broken has a place.
record Applies (rule : ℕ) (t : Text) (g : Grammar) : Type 0 where
  place : (p : ℕ) × Place rule t p
  low : 5 ≤ rule
  high : rule ≤ 10
  fine : 8 ≤ rule → beyond g ≡ false

applies : (t : Text) (g : Grammar) → Ixml t g → (rule : ℕ) → static_of g ≡ rule → (rule ≡ 0 → ⊥) → Applies rule t g
unfolding static_of
applies t g d rule e z = by (undefined g) (duplicate g) (beyond g) (banned g) (backwards g) (unclassed g) refl refl refl refl refl refl e
  where
    at : (n : ℕ) → n ≡ rule → Applies n t g → Applies rule t g
    at n q a = subst (λ (m : ℕ). Applies m t g) q a

    by : (a b c f h i : Bool) → undefined g ≡ a → duplicate g ≡ b → beyond g ≡ c → banned g ≡ f → backwards g ≡ h → unclassed g ≡ i
        → pick a 5 (pick b 6 (pick c 7 (pick f 8 (pick h 9 (pick i 10 0))))) ≡ rule → Applies rule t g
    by true b c f h i p5 p6 p7 p8 p9 p10 q = at 5 q (record { place = place-5 t g d (is_t p5); low = omega arith; high = omega arith; fine = λ l. absurd (omega arith) })
    by false true c f h i p5 p6 p7 p8 p9 p10 q = at 6 q (record { place = place-6 t g d (is_t p6); low = omega arith; high = omega arith; fine = λ l. absurd (omega arith) })
    by false false true f h i p5 p6 p7 p8 p9 p10 q = at 7 q (record { place = place-7 t g d (is_t p7); low = omega arith; high = omega arith; fine = λ l. absurd (omega arith) })
    by false false false true h i p5 p6 p7 p8 p9 p10 q = at 8 q (record { place = place-8 t g d (is_t p8); low = omega arith; high = omega arith; fine = λ l. p7 })
    by false false false false true i p5 p6 p7 p8 p9 p10 q = at 9 q (record { place = place-9 t g d (is_t p9); low = omega arith; high = omega arith; fine = λ l. p7 })
    by false false false false false true p5 p6 p7 p8 p9 p10 q = at 10 q (record { place = place-10 t g d (is_t p10); low = omega arith; high = omega arith; fine = λ l. p7 })
    by false false false false false false p5 p6 p7 p8 p9 p10 q = absurd (z (sym q))

-- 3. The array has it.
module _ (t : Text) (table : List ℕ) (end rule : ℕ) (a : Asked t table end rule) where
  derived : Ixml t a.grammar
  derived = sound t a.grammar a.parse

  applied : Applies rule t a.grammar
  applied = applies t a.grammar derived rule a.broken a.some

  pub rated : Rated rule a.grammar
  rated = record { text = t; derived = derived; low = applied.low; high = applied.high; fine = applied.fine }

  pub held : Held table end
  held = record { grammar = a.grammar; holds = a.holds; short = a.short }

  pub place_at : (places : List ℕ) (spot r : ℕ) → Located t places → spot ≡ fault_index rule a.grammar → r ≡ get_or places spot 0 → r ≡ place_of rule t
  place_at places spot r l e q = go applied.place.0 applied.place.1
    where
      equal : (a p r k n : ℕ) → a + k ≡ n → p + k ≡ n → r ≡ a → r ≡ p
      equal a p r k n u v w = omega arith

      go : (p : ℕ) → Place rule t p → r ≡ place_of rule t
      go p x =
          let k = left-known rule x.derived x.first in
          let same : x.grammar ≡ a.grammar = unique t x.grammar a.grammar x.derived derived in
          let s : spot ≡ fault_index rule x.grammar = e ∙ ap (fault_index rule) (sym same) in
          let m : spot < length (lefts between t) = subst (λ (j : ℕ). j < length (lefts between t)) (sym s) k.numbered.there in
          let v : get_or (lefts between t) spot 0 ≡ x.left = ap (λ (j : ℕ). get_or (lefts between t) j 0) s ∙ k.numbered.is in
          let w = l.each spot m in
          let c = x.counted in
          equal (get_or places spot 0) p r x.left (length t) (ap (◌+◌ (get_or places spot 0)) (sym v) ∙ w) c q ∙ place_is rule t p x
