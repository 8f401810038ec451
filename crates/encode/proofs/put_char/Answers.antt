use mathlib.Core.Path.{◌≡◌, ap, ◌∙◌}
use mathlib.Core.List.{[], ◌∷◌}
use Prim.Native.Nat.{ℕ, ◌+◌, ◌/◌, ◌%◌, ◌<◌, ◌≤◌}
use native.Mathlib.Omega.{arith}
use Rattle.text.specs.Utf8.{utf8}
use Rattle.text.proofs.Step.{utf8-1, utf8-2}
use Rattle.tree.specs.Tokens.{capped}
use Rattle.encode.specs.Out.{enc}
use Rattle.encode.proofs.Puts.{then, wrote-bytes, enc-one}
use Rattle.encode.proofs.put_char.Goals as goal

small : (c : ℕ) → c < 0x110000 → enc (c ∷ []) ≡ utf8 c
small c h = let e : capped c ≡ c = omega arith in enc-one c ∙ ap utf8 e

large : (c : ℕ) → 0x110000 ≤ c → enc (c ∷ []) ≡ utf8 0x110000
large c h = let e : capped c ≡ 0x110000 = omega arith in enc-one c ∙ ap utf8 e

pub returns-then-c-lt128 : goal.returns-then-c-lt128
returns-then-c-lt128 c =
    let x = c.args.c in
    wrote-bytes (x ∷ []) c.put.ensures (small x (omega (arith, c.if-c-lt128.true)) ∙ utf8-1 x c.if-c-lt128.true)

pub returns-then-c-lt2048 : goal.returns-then-c-lt2048
returns-then-c-lt2048 c =
    let x = c.args.c in
    wrote-bytes ((0xc0 + x / 64) ∷ (0x80 + x % 64) ∷ [])
    (then c.args.limit.0 _ ((0xc0 + x / 64) ∷ []) ((0x80 + x % 64) ∷ []) c.put-q.ensures
    c.put-then-c-lt2048.ensures) (small x (omega (arith, c.if-c-lt2048.true))
    ∙ utf8-2 x c.if-c-lt128.false c.if-c-lt2048.true)

pub returns-then-c-lt65536 : goal.returns-then-c-lt65536
returns-then-c-lt65536 c =
    let x = c.args.c in
    wrote-bytes (utf8 x) c.put_three.ensures (small x (omega (arith, c.if-c-lt65536.true)))

pub returns-then-c-lt1114112 : goal.returns-then-c-lt1114112
returns-then-c-lt1114112 c =
    let x = c.args.c in
    wrote-bytes (utf8 x) c.put_four.ensures (small x c.if-c-lt1114112.true)

pub returns : goal.returns
returns c =
    let x = c.args.c in
    wrote-bytes (utf8 0x110000) c.put_four-2.ensures (large x c.if-c-lt1114112.false)
