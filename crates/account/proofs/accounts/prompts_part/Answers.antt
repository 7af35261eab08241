-- A contract's prompts: the stretch that its whereabouts tell.
-- Assumes nothing.
use native.Mathlib.Omega.{arith}
use Rattle.account.proofs.Standing.{part_where}
use Rattle.account.proofs.accounts.prompts_part.Goals as goal

pub returns : goal.returns
returns c =
    let s = c.args in
    λ j n st h is.
    part_where s.morning.now s.noon.now j st.places 2 n (omega arith) h _ _ _ is.late is.prompts is.prompt_count
    c.supplied.result.now c.supplied.ensures
