-- The first places sorted.
-- Assumes nothing.
use Rattle.std.proofs.Common.{ℕ, replicate}
use Rattle.std.proofs.lemmas.List.{length-replicate}
use Rattle.account.specs.Check.{most_records}
use Rattle.writing.proofs.Ranks.{ordered_by}
use Rattle.writing.proofs.order.order_of.Goals as goal

pub returns : goal.returns
returns c =
    ordered_by c.args.entries.now (replicate most_records 0)
    c.requires
    c.keys_of-keys.ensures
    c.record_count-count.ensures
    (length-replicate {A = ℕ} most_records 0)
    c.sort.ensures
