-- A part of a table that is filled with one number.
use Rattle.std.proofs.Common.{List, ℕ, ◌≡◌, ◌-◌, ◌<◌, ◌≤◌, length, take, drop, get_or, rules}
use Rattle.std.proofs.lemmas.List.{places}
use lib.ListN.{replicate}
use borrow.Rule.Slice.PartMut.{put_mid}

-- the cells from a on before b are v; others stay
pub record Fills (a b v : ℕ) (F F' : List ℕ) : Type 0 where
  pub long : length F' ≡ length F
  pub inside : (x : ℕ) → a ≤ x → x < b → get_or F' x 0 ≡ v
  pub below : (x : ℕ) → x < a → get_or F' x 0 ≡ get_or F x 0
  pub above : (x : ℕ) → b ≤ x → get_or F' x 0 ≡ get_or F x 0

-- as `fill` leaves the part ys
pub fills : (a b v : ℕ) (F : List ℕ) {ys : List ℕ} → a ≤ b → b ≤ length F → ys ≡ replicate (length (take (b - a) (drop a F))) v
    → Fills a b v F (put_mid a (b - a) F ys)
fills a b v F {ys} h l e =
    let n : length (take (b - a) (drop a F)) ≡ b - a = search (rules, places) in
    rw (e, n) (record {
      long = search (rules, places);
      inside = λ x p q. search (rules, places);
      below = λ x p. search (rules, places);
      above = λ x p. search (rules, places);
    })
