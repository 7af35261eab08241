-- No account, and nothing summed.
-- Assumes nothing.
use mathlib.Core.Path.{refl}
use lib.ListN.{get_or-replicate}
use Rattle.committee.proofs.sums.none.Goals as goal

pub returns : goal.returns
returns c = record {
  accepted_is = refl;
  refused_is = refl;
  refusals_long = refl;
  refusals_are = λ k l. get_or-replicate 15 k 0 0 l;
  margin_is = refl;
  largest_is = refl;
  place_is = refl;
  credits_are = refl;
  above_is = refl;
}
