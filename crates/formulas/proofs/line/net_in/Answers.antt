use Rattle.std.proofs.Common.{◌≡◌, sym, ◌∙◌, arith, ℕ, ◌+◌, ◌≤◌, ◌<◌, List, map, take, length, get_or, ℤ, pos, nat_abs, ◌+ℤ◌, w64, to_z, of_z, SFits, add-one}
use Rattle.exact.specs.Lists.{sum, sum_ℤ}
use Rattle.exact.proofs.Integers.{back, sfits_abs, abs_add}
use Rattle.exact.proofs.Lists.{sum_ℤ-take-suc}
use Rattle.formulas.specs.Bounds.{most_delta}
use Rattle.formulas.proofs.Calls.{handed}
use Rattle.formulas.proofs.LineLaws.{net_so_far}
use Rattle.formulas.proofs.line.net_in.Goals as goal

-- the net delta of the prompts before i, with that of prompt i
module _ (nets : List ℤ) (i : ℕ) (h : i < length nets) (m : sum (map nat_abs nets) ≤ most_delta) where
  read : handed (get_or nets i (pos 0)) ≡ get_or nets i (pos 0)
  read = back (get_or nets i (pos 0)) (sfits_abs (get_or nets i (pos 0)) (omega (arith, net_so_far nets i most_delta h m)))

  fits : (z : ℤ) → z ≡ sum_ℤ (take i nets) → SFits w64 (z +ℤ handed (get_or nets i (pos 0)))
  fits z e =
      rw (e, read) (sfits_abs (sum_ℤ (take i nets) +ℤ get_or nets i (pos 0))
      (omega (arith, net_so_far nets i most_delta h m, abs_add (sum_ℤ (take i nets)) (get_or nets i (pos 0)))))

  next : (z : ℤ) → z ≡ sum_ℤ (take i nets) → to_z w64 (of_z w64 (z +ℤ handed (get_or nets i (pos 0)))) ≡ sum_ℤ (take (i + 1) nets)
  next z e = back (z +ℤ handed (get_or nets i (pos 0))) (fits z e) ∙ rw (e, read, add-one) (sym (sum_ℤ-take-suc nets i h))

pub overflow_add-net : goal.overflow_add-net
overflow_add-net c = fits c.args.nets.now c.loop-more.more-index (omega (arith, c.requires.0)) c.requires.1 _ c.loop-more.invariant

pub loop-more-preserved : goal.loop-more-preserved
loop-more-preserved c = next c.args.nets.now c.loop-more.more-index (omega (arith, c.requires.0)) c.requires.1 _ c.loop-more.invariant
