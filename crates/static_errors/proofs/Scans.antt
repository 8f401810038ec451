-- The scans over all tokens: the rule at each, and the list of heads.
use mathlib.Core.Path.{◌≡◌, refl, sym, ap, ◌∙◌}
use mathlib.Core.Bool.{Bool, true, false, ◌||◌}
use mathlib.Core.List.{List, [], ◌∷◌, ◌++◌, append_assoc, append-nil}
use Prim.Native.Nat.{ℕ, ◌+◌, ◌≤◌, ◌<◌}
use native.Mathlib.Omega.{arith}
use native.Mathlib.Decide.{ℕ_discrete}
use native.Mathlib.Numerals.{add-one}
use lib.ListN.{length, get_or, take, set, length-set}
use lib.Seq.{take-suc-set, get_or-set_same, get_or-set_other}
use borrow.Author.Tests.{eq-eqb, ne_eqb}
use Rattle.text.specs.Lists.{Text, any}
use Rattle.tree.specs.Tokens.{Token}
use Rattle.tokens.specs.Lengths.{form_of, length_at}
use Rattle.tokens.specs.Names.{name_at, Named}
use Rattle.tokens.proofs.Forms.{sized, length-text}
use Rattle.static_errors.specs.Parts.{part_at, part, heads_in, failing}
use Rattle.static_errors.specs.Scan.{Tokens, Some, names_at, Indexing, Indexed, heads_of, Noting, Noted, fails}
use Rattle.static_errors.proofs.Leaf.{is-headed, not-headed}
use Rattle.static_errors.proofs.View.{Step, step, none_left, some_left}

-- the tokens from k on, of any tokens that the table may hold
pub record Reached (t : List ℕ) (end k : ℕ) (R : List Token → List Token → Type 0) : Type 0 where
  pub low : k ≤ end
  pub go : (ts : List Token) → Tokens t end 0 ts → (us : List Token) × Tokens t end k us × R ts us

module _ (t : List ℕ) (end k : ℕ) (R : List Token → List Token → Type 0) (w : Reached t end k R) (h : k < end) where
  pub record Here (ts : List Token) : Type 0 where
    pub first : Token
    pub later : List Token
    pub related : R ts (first ∷ later)
    pub step : Step t end k first later

  pub here : (ts : List Token) → Tokens t end 0 ts → Here ts
  here ts e =
      let (us, u, r) = w.go ts e in
      let (x, xs, f) = some_left t end k us u h in
      record { first = x; later = xs; related = rw f at r; step = step t end k x xs (rw f at u) }

  pub fits : Some t end → k + length_at t k ≤ length t
  fits s = let a = (here s.tokens s.held).step in let b = a.fits in let c = s.held.high in omega arith

  pub inside : Some t end → k + length_at t k ≤ end
  inside s = (here s.tokens s.held).step.fits

  pub some : Some t end → 0 < length_at t k
  some s = (here s.tokens s.held).step.some

-- the scan for a rule
abbrev pub Same : (Token → Bool) → List Token → List Token → Type 0
Same f ts us = any f ts ≡ any f us

pub begin : (t : List ℕ) (end : ℕ) (f : Token → Bool) → Reached t end 0 (Same f)
begin t end f = record { low = omega arith; go = λ ts h. (ts, h, refl) }

module _ (t : List ℕ) (end k : ℕ) (rule : ℕ) (hs : List Text) (w : Reached t end k (Same (fails rule hs))) where
  pub none : end ≤ k → (ts : List Token) → Tokens t end 0 ts → false ≡ any (fails rule hs) ts
  none l ts e =
      let (us, u, r) = w.go ts e in
      sym (r ∙ ap (any (fails rule hs)) (none_left t end k us u l))

  module _ (h : k < end) (r : Bool) (e : r ≡ failing rule hs (part_at t k)) where
    pub hit : r ≡ true → (ts : List Token) → Tokens t end 0 ts → true ≡ any (fails rule hs) ts
    hit f ts u =
        let s = here t end k (Same (fails rule hs)) w h ts u in
        let g : failing rule hs (part s.first) ≡ true = ap (failing rule hs) (sym s.step.part) ∙ sym e ∙ f in
        sym (s.related ∙ rw g)

    pub pass : r ≡ false → Some t end → (m : ℕ) → m ≡ k + length_at t k → Reached t end m (Same (fails rule hs))
    pass f so m q = rw q (record {
      low = inside t end k (Same (fails rule hs)) w h so;
      go = λ ts u.
          (let s = here t end k (Same (fails rule hs)) w h ts u in
          let g : failing rule hs (part s.first) ≡ false = ap (failing rule hs) (sym s.step.part) ∙ sym e ∙ f in
          (s.later, s.step.next, s.related ∙ rw g));
    })

-- where no token breaks any rule, none breaks each
pub record Clear (hs : List Text) (ts : List Token) : Type 0 where
  pub names : any (fails 5 hs) ts ≡ false
  pub large : any (fails 7 hs) ts ≡ false
  pub banned : any (fails 8 hs) ts ≡ false
  pub back : any (fails 9 hs) ts ≡ false
  pub classes : any (fails 10 hs) ts ≡ false

neither : (a b : Bool) → (a || b) ≡ false → (a ≡ false) × (b ≡ false)
neither true b h = absurd (let z : ◌≡◌ {A = ℕ} 0 1 = cc in omega arith)
neither false b h = (refl, h)

pub clear : (hs : List Text) (ts : List Token) → any (fails 0 hs) ts ≡ false → Clear hs ts
unfolding failing
clear hs [] h = record { names = refl; large = refl; banned = refl; back = refl; classes = refl }
clear hs (x ∷ xs) h =
    let a = neither (fails 0 hs x) (any (fails 0 hs) xs) h in
    let b = neither (fails 5 hs x) (fails 7 hs x || (fails 8 hs x || (fails 9 hs x || fails 10 hs x))) a.0 in
    let c = neither (fails 7 hs x) (fails 8 hs x || (fails 9 hs x || fails 10 hs x)) b.1 in
    let d = neither (fails 8 hs x) (fails 9 hs x || fails 10 hs x) c.1 in
    let e = neither (fails 9 hs x) (fails 10 hs x) d.1 in
    let C = clear hs xs a.1 in
    record {
      names = rw b.0 C.names;
      large = rw c.0 C.large;
      banned = rw d.0 C.banned;
      back = rw e.0 C.back;
      classes = rw e.1 C.classes;
    }

-- the list of heads
abbrev Heads : List ℕ → List ℕ → ℕ → List Token → List Token → Type 0
Heads t index n ts us = names_at t (take n index) ++ heads_of us ≡ heads_of ts

pub record HeadsAt (t : List ℕ) (end : ℕ) (old index : List ℕ) (n k : ℕ) : Type 0 where
  pub same : length index ≡ length old
  pub following : n ≤ k
  pub each : (i : ℕ) → i < n → Named t (get_or index i 0)
  pub reached : Reached t end k (Heads t index n)

pub start : (t : List ℕ) (end : ℕ) (old : List ℕ) → HeadsAt t end old old 0 0
start t end old = record { same = refl; following = omega arith; each = λ i l. absurd (omega arith); reached = record { low = omega arith; go = λ ts h. (ts, h, refl) } }

names-append : (t xs ys : List ℕ) → names_at t (xs ++ ys) ≡ names_at t xs ++ names_at t ys
names-append t [] ys = refl
names-append t (x ∷ xs) ys = ap (◌∷◌ (name_at t x)) (names-append t xs ys)

module _ (t : List ℕ) (end : ℕ) (old index : List ℕ) (n k : ℕ) (w : HeadsAt t end old index n k) (i : Indexing t end old) where
  pub done : end ≤ k → Indexed t end n index
  done l =
      let a = w.following in
      let b = w.same in
      let c = w.reached.low in
      let d = i.room in
      record {
        listing = record { few = omega arith; each = w.each };
        heads = λ ts u. (let (us, v, r) = w.reached.go ts u in
            sym (append-nil (names_at t (take n index))) ∙ ap (λ (z : List Token). names_at t (take n index) ++ heads_of z) (sym (none_left t end k us v l)) ∙ r);
      }

  module _ (h : k < end) where
    pub ready : Noting t k index n
    ready =
        let a = w.following in
        let b = w.same in
        let c = i.room in
        let d = i.short in
        record { fits = fits t end k (Heads t index n) w.reached h i.some; short = omega arith; room = omega arith; following = w.following }

    pub enough : k + length_at t k ≤ end
    enough = inside t end k (Heads t index n) w.reached h i.some

    pub some_size : 0 < length_at t k
    some_size = some t end k (Heads t index n) w.reached h i.some

    module _ (r : ℕ) (new : List ℕ) (m : Noted t k index n r new) where
      kept : (form_of (get_or t k 0) ≡ 1 → ⊥) → HeadsAt t end old new r (k + length_at t k)
      kept e =
          let p : r ≡ n = m.count ∙ rw (ne_eqb (form_of (get_or t k 0)) 1 e) in
          let q : new ≡ index = m.index ∙ rw (ne_eqb (form_of (get_or t k 0)) 1 e) in
          rw (p, q) (record {
            same = w.same;
            following = (let a = w.following in omega arith);
            each = w.each;
            reached = record {
              low = enough;
              go = λ ts u. (let s = here t end k (Heads t index n) w.reached h ts u in
                  let z : heads_in (part s.first) ≡ [] = ap heads_in (sym s.step.part) ∙ not-headed t k (form_of (get_or t k 0)) refl e in
                  (s.later, s.step.next, sym (ap (λ (y : List Text). names_at t (take n index) ++ (y ++ heads_of s.later)) z) ∙ s.related));
            };
          })

      listed : form_of (get_or t k 0) ≡ 1 → HeadsAt t end old new r (k + length_at t k)
      listed e =
          let p : r ≡ n + 1 = m.count ∙ rw (eq-eqb (form_of (get_or t k 0)) 1 e) in
          let q : new ≡ set index n k = m.index ∙ rw (eq-eqb (form_of (get_or t k 0)) 1 e) in
          let room = ready.room in
          rw (p, q) (record {
            same = length-set index n k ∙ w.same;
            following = (let a = w.following in let b = some_size in omega arith);
            each = λ j l. elim (ℕ_discrete j n) as (λ _. Named t (get_or (set index n k) j 0)) [
              | yes f ↦ rw (f, get_or-set_same index n k 0 room)
                  (omega (
                    arith,
                    sized t k ready.fits (form_of (get_or t k 0)) (get_or t (k + 1) 0 + 2) refl
                        (length-text (form_of (get_or t k 0)) (get_or t (k + 1) 0) (omega arith)),
                  ))
              | no f ↦ rw (get_or-set_other index n j k 0 f) (w.each j (omega arith))
            ];
            reached = record {
              low = enough;
              go = λ ts u. (let s = here t end k (Heads t index n) w.reached h ts u in
                  let z : heads_in (part s.first) ≡ name_at t k ∷ [] = ap heads_in (sym s.step.part ∙ is-headed t k (form_of (get_or t k 0)) refl e) in
                  let b : take (n + 1) (set index n k) ≡ take n index ++ k ∷ [] = rw (add-one n) (take-suc-set index n k room) in
                  let a : names_at t (take (n + 1) (set index n k)) ≡ names_at t (take n index) ++ name_at t k ∷ [] = ap (names_at t) b ∙ names-append t (take n index) (k ∷ []) in (
                    s.later,
                    s.step.next,
                    ap (λ (y : List Text). y ++ heads_of s.later) a
                        ∙ append_assoc (names_at t (take n index)) (name_at t k ∷ []) (heads_of s.later)
                        ∙ sym (ap (λ (y : List Text). names_at t (take n index) ++ (y ++ heads_of s.later)) z) ∙ s.related,
                  ));
            };
          })

      pub next : (m : ℕ) → m ≡ k + length_at t k → HeadsAt t end old new r m
      next m q = rw q (elim (ℕ_discrete (form_of (get_or t k 0)) 1) as (λ _. HeadsAt t end old new r (k + length_at t k)) [ yes e ↦ listed e | no e ↦ kept e ])
