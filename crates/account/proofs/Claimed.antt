-- The claims about the check, for any bytes whatever.
-- Assumes nothing.
use Prim.Native.Nat.{ℕ}
use mathlib.Core.List.{List}
use Rattle.account.specs.Claims.{Claims}
use Rattle.account.proofs.Accepted.{accepts}
use Rattle.account.proofs.Alone.{lawful}
use Rattle.account.proofs.ByKind.{by_kinds}
use Rattle.account.proofs.Orders.{orders}
use Rattle.account.proofs.RatesExactly.{file_exactly}

pub claimed : (file : List ℕ) → Claims file
claimed file =
    record {
      exactly = file_exactly file;
      by_kind = by_kinds file;
      accepts = accepts file;
      orders = orders file;
      lawful = lawful file;
    }
