-- What is known of the records of an account.
-- Assumes nothing.
use Rattle.std.specs.Prelude.{ℕ, List}
use Rattle.record.specs.Layout.{Record}
use Rattle.account.specs.Accepted.{Each, Ranges, Limits, OnePrompt, Named}
use Rattle.account.specs.Orders.{Orders}
use Rattle.account.specs.Parts.{rows_of, rates_of}
use Rattle.account.specs.Products.{Convertible}

-- by refusals 1 to 9: every field is within its range, the limits hold, every row belongs to exactly one prompt of its contract,
-- what a record names is listed, and the orders of refusal 8 hold
pub record Recorded (rs : List Record) : Type 0 where
  pub ranges : Ranges rs
  pub limits : Limits rs
  pub one_prompt : OnePrompt rs
  pub named : Named rs
  pub orders : Orders rs

-- by these and 14 and 15: every row has its rate, and its conversions are within the most
pub record Lawful (rs : List Record) : Type 0 where
  pub ranges : Ranges rs
  pub limits : Limits rs
  pub one_prompt : OnePrompt rs
  pub named : Named rs
  pub orders : Orders rs
  pub conversions : (c : ℕ) → Each (Convertible (rates_of rs)) (rows_of c rs)
