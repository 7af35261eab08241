-- What calls of `times` and `plus` ask and give.
-- Assumes nothing.
pub use Rattle.exact.proofs.SignedCalls.{abs_times, abs_plus, times_fits, plus_fits, times_is, plus_is, sized_back}
