-- At most 32 prompts and 32 spreads.
-- Assumes nothing.
use Prim.Native.Nat.{◌≤◌}
use native.Mathlib.Omega.{arith}
use Rattle.spread.specs.Accepted.{sound_prompts, sound_table, prompt_places, spread_places}
use Rattle.spread.proofs.Both.{and_left, and_right}
use Rattle.spread.proofs.Gathering.{few, few_in_table}
use Rattle.margin.proofs.books.book_count.Goals as goal
use Rattle.margin.proofs.books.book_count.Goals.{Start}

prompts_few : (s : Start) → s.args.prompts.count ≤ prompt_places
prompts_few s = few s.args.prompts (and_left (sound_prompts s.args.prompts) (sound_table s.args.table) s.requires)

spreads_few : (s : Start) → s.args.table.count ≤ spread_places
spreads_few s = few_in_table s.args.table (and_right (sound_prompts s.args.prompts) (sound_table s.args.table) s.requires)

pub overflow_mul-result : goal.overflow_mul-result
overflow_mul-result c = omega (arith, prompts_few (goal.at.overflow_mul-result c).Start)

pub overflow_mul-result-2 : goal.overflow_mul-result-2
overflow_mul-result-2 c = omega (arith, spreads_few (goal.at.overflow_mul-result-2 c).Start)

pub overflow_add-result : goal.overflow_add-result
overflow_add-result c = omega (arith, prompts_few (goal.at.overflow_add-result c).Start, spreads_few (goal.at.overflow_add-result c).Start)

pub overflow_add-result-2 : goal.overflow_add-result-2
overflow_add-result-2 c = omega (arith, prompts_few (goal.at.overflow_add-result-2 c).Start, spreads_few (goal.at.overflow_add-result-2 c).Start)
