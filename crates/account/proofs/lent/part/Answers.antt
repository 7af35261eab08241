-- A part of an account: none past the last, else the stretch that the account notes of it.
-- Assumes nothing.
use native.Mathlib.Omega.{arith}
use mathlib.Core.Path.{refl, ap, ap₂, sym, ◌∙◌}
use mathlib.Core.Bool.{Bool, ◌&&◌, cond}
use Prim.Native.Nat.{◌+◌, ◌%◌, ◌<◌}
use lib.ListN.{get_or}
use lib.Dec.{ltb}
use Rattle.account.specs.Check.{most_contracts}
use Rattle.account.specs.PartNumbers.{parts, entry_part}
use Rattle.account.specs.Records.{stretch}
use Rattle.account.specs.code.Lent.{late_note, flagged, account_in}
use Rattle.account.proofs.LentLaws.{read_late, read_first, read_count}
use Rattle.account.proofs.Standing.{part_stands}
use Rattle.account.proofs.lent.part.Goals as goal

pub returns : goal.returns
returns c =
    let notes = c.args.account.now in
    let v = c.args.v in
    let inside : v < parts = omega (arith, c.if-v-gt-RATES.false) in
    let file = cond (ltb v entry_part && flagged (get_or notes (late_note + v % most_contracts) 0)) c.args.noon.now c.args.morning.now in
    part_stands c.args.morning.now c.args.noon.now (account_in notes) c.requires.places v (omega arith) _
    (ap (λ (t : Bool). ltb v entry_part && t) (sym (read_late notes (v % most_contracts) (omega arith))))
    c.supplied.result.now
    (c.supplied.ensures ∙ ap₂ (stretch file) (read_first notes v inside) (read_count notes v inside _ refl))
