-- At most 32 prompts and 32 spreads.
-- Assumes nothing.
use native.Mathlib.Nat.{mul-le-mul}
use native.Mathlib.Omega.{arith}
use Rattle.spread.specs.Accepted.{sound_prompts, sound_table}
use Rattle.spread.proofs.Both.{and_left, and_right}
use Rattle.spread.proofs.Gathering.{few, few_in_table}
use Rattle.margin.proofs.uses.uses_count.Goals as goal

pub overflow_mul-result : goal.overflow_mul-result
overflow_mul-result c = let p = few c.args.prompts
    (and_left (sound_prompts c.args.prompts) (sound_table c.args.table) c.requires) in omega arith

pub overflow_mul-result-2 : goal.overflow_mul-result-2
overflow_mul-result-2 c =
    let p = few c.args.prompts (and_left (sound_prompts c.args.prompts) (sound_table c.args.table) c.requires) in
    let t = few_in_table c.args.table (and_right (sound_prompts c.args.prompts) (sound_table c.args.table) c.requires) in
    let m = mul-le-mul t p in
    omega arith
