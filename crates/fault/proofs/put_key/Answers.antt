use native.Mathlib.Omega.{arith}
use mathlib.Core.Logic.{inl, inr}
use mathlib.Core.Path.{◌∙◌}
use Prim.Native.Nat.{◌+◌, ◌*◌, ◌-◌}
use lib.ListN.{length-set, set, get_or}
use Rattle.fault.proofs.Keys.{key-none, key-some}
use Rattle.fault.proofs.put_key.Goals as goal

pub overflow_mul-owner : goal.overflow_mul-owner
overflow_mul-owner c = omega (arith, c.requires.0, c.requires.1, c.requires.2)

pub overflow_add-owner : goal.overflow_add-owner
overflow_add-owner c = omega (arith, c.requires.0, c.requires.1, c.requires.2)

pub offset_bounds-code-p : goal.offset_bounds-code-p
offset_bounds-code-p c = omega (arith, c.requires.0, c.requires.1, c.requires.2)

pub bounds-code-p : goal.bounds-code-p
bounds-code-p c = omega (arith, c.requires.0, c.requires.1, c.requires.2)

pub returns-then-owner-eq0 : goal.returns-then-owner-eq0
returns-then-owner-eq0 c = key-none (inl c.if-owner-eq0.true)

pub overflow_mul-keys : goal.overflow_mul-keys
overflow_mul-keys c = omega (arith, c.requires.0, c.requires.1, c.requires.2)

pub offset_bounds-keys-p : goal.offset_bounds-keys-p
offset_bounds-keys-p c = omega (arith, c.requires.0, c.requires.1, c.requires.2)

pub bounds-keys-p : goal.bounds-keys-p
bounds-keys-p c = omega (arith, c.requires.0, c.requires.1, c.requires.2)

pub overflow_sub-keys : goal.overflow_sub-keys
overflow_sub-keys c = omega (arith, c.if-owner-eq0.false)

pub overflow_mul-keys-then-alive : goal.overflow_mul-keys-then-alive
overflow_mul-keys-then-alive c = omega (arith, c.requires.0, c.requires.1, c.requires.2)

pub overflow_add-keys : goal.overflow_add-keys
overflow_add-keys c = omega (arith, c.requires.0, c.requires.1, c.requires.2)

pub offset_bounds-keys-p-then-alive : goal.offset_bounds-keys-p-then-alive
offset_bounds-keys-p-then-alive c = omega (arith, c.requires.0, c.requires.1, c.requires.2)

pub bounds-keys-p-then-alive : goal.bounds-keys-p-then-alive
bounds-keys-p-then-alive c = omega (arith, c.requires.1, length-set c.args.keys.now (4 * c.args.p) 2)

pub shape_of-keys : goal.shape_of-keys
shape_of-keys c =
    length-set (set c.args.keys.now (4 * c.args.p) 2) (4 * c.args.p + 2) (get_or c.args.code.now (4 * c.args.p + 3) 0 - 1)
    ∙ length-set c.args.keys.now (4 * c.args.p) 2

pub returns-then-alive : goal.returns-then-alive
returns-then-alive c = key-some c.requires.1 c.if-owner-eq0.false c.if-alive.true

pub returns-else-alive : goal.returns-else-alive
returns-else-alive c = key-none (inr c.if-alive.false)
