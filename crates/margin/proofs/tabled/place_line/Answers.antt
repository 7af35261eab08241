-- The eight numbers, and a store in each array.
-- Assumes nothing.
use mathlib.Core.Path.{refl, ap}
use lib.IntN.{nat_abs}
use lib.ListN.{set}
use mir.Syntax.{w64}
use mir.Val.{SFits}
use Rattle.std.proofs.Common.{rules}
use Rattle.exact.proofs.Integers.{back, seen}
use Rattle.margin.proofs.tabled.place_line.Goals as goal

pub returns : goal.returns
returns c =
    let l = c.args.line in
    let own : SFits w64 l.net.0 = search rules in record {
      placed = record {
        written = c.put_line-margin.ensures.written;
        tier-put = refl;
        net_put = ap (set c.args.nets.now c.args.i) (back l.net.0 own);
        unit-put = refl;
        price_put = refl;
        size_put = ap (set c.args.sizes.now l.contract) (seen nat_abs l.net.0 own c.magnitude.ensures);
      };
      margin = c.put_line-margin.ensures.margin;
    }
