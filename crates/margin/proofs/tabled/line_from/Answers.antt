-- Six of the eight numbers are read.
-- Assumes nothing.
use Prim.Native.Nat.{◌+◌}
use lib.IntN.{pos, nat_abs}
use lib.ListN.{get_or}
use Rattle.exact.proofs.Integers.{seen}
use Rattle.margin.proofs.tabled.line_from.Goals as goal

pub returns : goal.returns
returns c =
    let out = c.args.out.now in
    let at = c.args.at in
    let number = seen nat_abs (get_or out at (pos 0)) (record { sfits = c.magnitude-arg-1.given }) c.magnitude.ensures in
    let active = seen nat_abs (get_or out (at + 1) (pos 0)) (record { sfits = c.magnitude-arg-2-1.given }) c.magnitude-2.ensures in
    let scanning = seen nat_abs (get_or out (at + 2) (pos 0)) (record { sfits = c.magnitude-arg-3-1.given }) c.magnitude-3.ensures in
    let interprompt = seen nat_abs (get_or out (at + 3) (pos 0)) (record { sfits = c.magnitude-arg-4-1.given }) c.magnitude-4.ensures in
    let prompt = seen nat_abs (get_or out (at + 4) (pos 0)) (record { sfits = c.magnitude-arg-5-1.given }) c.magnitude-5.ensures in
    let minimum = seen nat_abs (get_or out (at + 6) (pos 0)) (record { sfits = c.magnitude-arg-6-1.given }) c.magnitude-6.ensures in
    λ j. record {
      contract = number j;
      unit = 0;
      active = active j;
      scanning = record { 0 = scanning j };
      interprompt = record { 0 = interprompt j };
      prompt = record { 0 = prompt j };
      minimum = record { 0 = minimum j };
      twice_price = 0;
      net = record { 0 = pos 0 };
    }
