-- The kind, and then what its kind goes by.
-- Assumes nothing.
use native.Mathlib.Omega.{arith}
use Rattle.writing.proofs.order.rank.Goals as goal

pub overflow_mul-result : goal.overflow_mul-result
overflow_mul-result c = omega (arith, c.kind.ensures.1)

pub overflow_add-result : goal.overflow_add-result
overflow_add-result c = omega (arith, c.kind.ensures.1, c.of_its_kind.ensures.1)

pub returns : goal.returns
returns c = omega (arith, c.kind.ensures.0, c.of_its_kind.ensures.0)
