-- Prompts and books as they are lent: plain numbers, each of the unit that its name says.
-- Assumes nothing.
use Rattle.std.specs.Prelude.{ℕ, true, List, map, ℤ}
use Rattle.spread.specs.declared.Delta.{Delta}
use Rattle.spread.specs.declared.Spreads.{Spreads}
use Rattle.spread.specs.declared.Prompts.{Prompts}
use Rattle.spread.specs.declared.book.Book.{Book}

-- lent numbers as deltas, and as numbers of spreads
abbrev pub deltas_from : List ℤ → List Delta
deltas_from zs = map (λ z. record { 0 = z }) zs

abbrev pub spreads_from : List ℕ → List Spreads
spreads_from ns = map (λ n. record { 0 = n }) ns

-- and deltas as the numbers that are lent
abbrev pub deltas_in : List Delta → List ℤ
deltas_in ds = map (λ d. d.0) ds

-- the first `count` prompts, by their tiers and net deltas
abbrev pub prompts_in : ℕ → List ℕ → List ℤ → Prompts
prompts_in n tiers nets = record { count = n; tier = tiers; net = deltas_from nets }

-- the book of what is accepted
abbrev pub book_in : List ℕ → List ℕ → List ℤ → List ℤ → Book
book_in first second used unused =
    record {
      accepted = true;
      first = spreads_from first;
      second = spreads_from second;
      used = deltas_from used;
      unused = deltas_from unused;
    }
