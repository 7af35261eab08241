-- A record put among the first bytes of what is lent: what stands there afterwards.
-- Assumes nothing.
use Rattle.std.specs.Prelude.{ℕ, ◌+◌, ◌-◌, List, ◌++◌, take, drop}
use Rattle.record.specs.Layout.{record_bytes}

-- the bytes from one place to before another stand a record higher; what was there before them stays
abbrev pub moved_up : ℕ → ℕ → List ℕ → List ℕ
moved_up at end lent = take (at + record_bytes) lent ++ (take (end - at) (drop at lent) ++ drop (end + record_bytes) lent)

-- the record between the bytes before `at` and those from there to before `end`; nothing after it is changed
abbrev pub inserted : ℕ → ℕ → List ℕ → List ℕ → List ℕ
inserted at end row lent = take at lent ++ (row ++ (take (end - at) (drop at lent) ++ drop (end + record_bytes) lent))
