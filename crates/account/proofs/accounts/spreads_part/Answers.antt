-- A contract's interprompt spreads: the stretch that its whereabouts tell.
-- Assumes nothing.
use native.Mathlib.Omega.{arith}
use Rattle.account.proofs.Standing.{part_where}
use Rattle.account.proofs.accounts.spreads_part.Goals as goal

pub returns : goal.returns
returns c =
    let s = c.args in
    λ j n st h is.
    part_where s.morning.now s.noon.now j st.places 4 n (omega arith) h _ _ _ is.late is.spreads is.spread_count
    c.supplied.result.now c.supplied.ensures
