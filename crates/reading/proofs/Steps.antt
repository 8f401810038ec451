-- What a symbol asks and does, once its numbers are read.
use mathlib.Core.Path.{◌≡◌, subst}
use mathlib.Core.Bool.{Bool, ◌||◌}
use mathlib.Core.List.{List}
use Prim.Native.Nat.{ℕ, ◌+◌}
use native.Mathlib.Omega.{arith}
use Rattle.chart.specs.Code.{next_kind, goes_at, rule_at}
use Rattle.reading.specs.declared.Cursor.{Cursor}
use Rattle.candidates.specs.Candidates.{Tells, FirstEnd, OtherEnd}
use Rattle.reading.specs.Walk.{pushed, Entered, Stepped, at_symbol, CanEnter, CanStep}

-- before the node: the mark is m
abbrev pub inner : Cursor → ℕ → Bool → Cursor
inner h j m = record { size = h.size; n = h.n; p = h.p; i = h.i; j = record { 0 = j }; k = h.k; at = h.at; depth = h.depth + 1; mark = m }

module _ {c M F H : List ℕ} {size n : ℕ} {out st : List ℕ} {h : Cursor} (C : CanStep c M F size n H out st h) (z : next_kind c h.p ≡ 2)
    (e q : ℕ) (is : e ≡ rule_at c h.p) (from : q ≡ goes_at c h.p) where
  pub can-enter : (m : ℕ) (k : Bool) → FirstEnd c M F size n H h.p h.i.0 h.j.0 h.k m → CanEnter c M F size n H e q out (inner h m k)
  can-enter m k f = record {
    ready = record { tables = C.ready.tables; order = f.after; inside = omega (arith, f.before, C.ready.inside) };
    rule = rw is (C.ready.tables.shape.names h.p C.position.inside z).0;
    some = rw (is, from) ((C.on z).lows m f.after f.before f.low);
    room = C.room;
    most = C.most;
  }

  pub stepped : {out' st' : List ℕ} {r : Cursor} (m : ℕ) (b k : Bool) → FirstEnd c M F size n H h.p h.i.0 h.j.0 h.k m
      → Tells b (OtherEnd c M F size n H h.p h.i.0 h.j.0 m) → st' ≡ pushed st h.depth (h.p + 1) h.j.0 h.k → k ≡ (h.mark || b)
      → Entered c M F size n H e q out out' (inner h m k) r → Stepped c M F size n H out out' st st' h r
  stepped {out'} {st'} {r} m b k f o s ks E =
      at_symbol z m b f o s
      (subst (λ (x : ℕ). Entered c M F size n H x (goes_at c h.p) out out' (inner h m (h.mark || b)) r) is
      (subst (λ (x : ℕ). Entered c M F size n H e x out out' (inner h m (h.mark || b)) r) from (subst (λ (x : Bool). Entered c M F size n H e q out out' (inner h m x) r) ks E)))
