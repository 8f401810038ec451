-- The bytes of one character: what its first byte says, and one byte more.
use Rattle.std.specs.Prelude.{ℕ, ◌+◌, ◌*◌, ◌-◌, ◌<◌, ◌≤◌, ltb}
use Rattle.text.specs.Lists.{pick}
use Rattle.text.specs.Decode.{second_low, second_high}
use Rattle.decode.specs.declared.sequence.Sequence.{Sequence}

abbrev pub lead : ℕ → ℕ → ℕ → Sequence
lead m v b = record { more = m; low = second_low b; high = second_high b; bits = v }

-- what a first byte says: how many bytes follow (4: no character begins so), the limits of the next byte, and its bits
unfoldable pub lead_of : ℕ → Sequence
lead_of b =
    pick (ltb b 0x80) (lead 0 b b)
    (pick (ltb b 0xc2) (lead 4 0 b)
    (pick (ltb b 0xe0) (lead 1 (b - 0xc0) b)
    (pick (ltb b 0xf0) (lead 2 (b - 0xe0) b)
    (pick (ltb b 0xf5) (lead 3 (b - 0xf0) b) (lead 4 0 b)))))

-- with the next byte
abbrev pub taking : Sequence → ℕ → Sequence
taking s b = record { more = s.more - 1; low = 0x80; high = 0xbf; bits = s.bits * 64 + (b - 0x80) }

-- a byte that may stand next
pub record Takes (s : Sequence) (b : ℕ) : Type 0 where
  pub some : 0 < s.more
  pub small : s.bits < 32768
  pub low : 0x80 ≤ b
  pub high : b ≤ 0xbf
