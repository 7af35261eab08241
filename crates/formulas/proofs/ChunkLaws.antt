-- A walk over the whole records of a part of the file, 96 bytes at a time.
-- Assumes nothing.
use Rattle.std.proofs.Common.{◌≡◌, sym, ◌∙◌, ap, arith, ℕ, ◌+◌, ◌*◌, ◌≤◌, ◌<◌, zero-le, List, [], ◌++◌, length, get_or, take, drop, length-drop, length-append, Bor, Some, None}
use Rattle.std.proofs.lemmas.List.{take_at, drop_at, drop-drop}
use Rattle.std.specs.Slice.Iter.{chunks_exact_rest, chunks_exact_size, chunks_exact_steps}
use Rattle.std.specs.Iterator.Adapters.{enumerate_source, enumerate_count, enumerate_steps}
use Rattle.std.specs.declared.iter.Enumerate.{Enumerate}
use Rattle.std.specs.declared.slice.ChunksExact.{ChunksExact}
use Rattle.record.specs.Bytes.{record_bytes}
use Rattle.account.specs.Records.{records, record_count}
use Rattle.formulas.proofs.RecordLaws.{record_here}

-- k records are passed, and the walk has the rest
pub record Passed (f : List ℕ) (k : ℕ) (s : ChunksExact ℕ) : Type 0 where
  pub size : chunks_exact_size s ≡ record_bytes
  pub rest : chunks_exact_rest s ≡ drop (k * record_bytes) f
  pub within : k ≤ record_count f

pub none_passed : (f : List ℕ) (s : ChunksExact ℕ) → chunks_exact_rest s ≡ f → chunks_exact_size s ≡ record_bytes → Passed f 0 s
none_passed f s e h = record { size = h; rest = e; within = zero-le }

-- what the next turn is given: record k, which is passed then
pub record Turn (f : List ℕ) (k : ℕ) (r : List ℕ) (t : ChunksExact ℕ) : Type 0 where
  pub there : k < record_count f
  pub is : get_or (records f) k [] ≡ r
  pub passed : Passed f (k + 1) t

module _ (f : List ℕ) (k : ℕ) (s : ChunksExact ℕ) (at : Passed f k s) (t : ChunksExact ℕ) where
  pub turn : (x : Bor (List ℕ)) → chunks_exact_steps s (Some x) t → Turn f k x.now t
  turn x step = record {
    there = more;
    is = record_here f k more ∙ ap (take record_bytes) (sym whole) ∙ take_at x.now rest record_bytes long;
    passed = record {
      size = step.0 ∙ at.size;
      rest =
          sym (drop_at x.now rest record_bytes long)
          ∙ ap (drop record_bytes) whole
          ∙ drop-drop record_bytes (k * record_bytes) f
          ∙ ap (λ (n : ℕ). drop n f) (omega arith);
      within = omega (arith, more);
    };
  }
    where
      rest : List ℕ
      rest = chunks_exact_rest t

      long : length x.now ≡ record_bytes
      long = step.1.1 ∙ at.size

      whole : x.now ++ rest ≡ drop (k * record_bytes) f
      whole = sym step.1.0 ∙ at.rest

      more : k < record_count f
      more = omega (arith, long, ap length whole, length-append x.now rest, length-drop (k * record_bytes) f)

  pub all_passed : chunks_exact_steps s None t → k ≡ record_count f
  all_passed step = omega (arith, step.1.0, at.size, ap length at.rest, length-drop (k * record_bytes) f, at.within)

-- the same where the walk numbers the records
pub record Numbered (f : List ℕ) (k : ℕ) (s : Enumerate (ChunksExact ℕ)) : Type 0 where
  pub number : enumerate_count s ≡ k
  pub walk : Passed f k (enumerate_source s)

pub record NumberedTurn (f : List ℕ) (k i : ℕ) (r : List ℕ) (t : Enumerate (ChunksExact ℕ)) : Type 0 where
  pub number : i ≡ k
  pub there : k < record_count f
  pub is : get_or (records f) k [] ≡ r
  pub passed : Numbered f (k + 1) t

module _ (f : List ℕ) (k : ℕ) (s : Enumerate (ChunksExact ℕ)) (at : Numbered f k s) (t : Enumerate (ChunksExact ℕ)) where
  pub numbered_turn : (i : ℕ) (x : Bor (List ℕ)) → enumerate_steps (chunks_exact_steps {A = ℕ}) s (Some (i, x)) t → NumberedTurn f k i x.now t
  numbered_turn i x step =
      let one = turn f k (enumerate_source s) at.walk (enumerate_source t) x step.0 in
      record {
        number = step.1 ∙ at.number;
        there = one.there;
        is = one.is;
        passed = record { number = step.2 ∙ ap (λ (n : ℕ). n + 1) at.number; walk = one.passed };
      }

  pub all_numbered : enumerate_steps (chunks_exact_steps {A = ℕ}) s None t → k ≡ record_count f
  all_numbered step = all_passed f k (enumerate_source s) at.walk (enumerate_source t) step.0

pub none_numbered : (f : List ℕ) (s : Enumerate (ChunksExact ℕ)) → enumerate_count s ≡ 0 → chunks_exact_rest (enumerate_source s) ≡ f
    → chunks_exact_size (enumerate_source s) ≡ record_bytes → Numbered f 0 s
none_numbered f s n e h = record { number = n; walk = none_passed f (enumerate_source s) e h }
