-- Each note of the contract, in its place.
-- Assumes nothing.
use native.Mathlib.Omega.{arith}
use mathlib.Core.Path.{sym}
use Rattle.account.specs.PartNumbers.{part}
use Rattle.account.proofs.LentLaws.{read_late, read_first, read_count}
use Rattle.account.proofs.lent.whereabouts_of.Goals as goal

pub returns : goal.returns
returns c =
    let notes = c.args.account.now in
    let k = c.args.c in
    let h = c.requires in
    record {
      late = sym (read_late notes k (omega (arith, h)));
      own = read_first notes (part 1 k) (omega (arith, h));
      own_count = read_count notes (part 1 k) (omega (arith, h)) _ (omega arith);
      prompts = read_first notes (part 2 k) (omega (arith, h));
      prompt_count = read_count notes (part 2 k) (omega (arith, h)) _ (omega arith);
      rows = read_first notes (part 3 k) (omega (arith, h));
      row_count = read_count notes (part 3 k) (omega (arith, h)) _ (omega arith);
      spreads = read_first notes (part 4 k) (omega (arith, h));
      spread_count = read_count notes (part 4 k) (omega (arith, h)) _ (omega arith);
    }
