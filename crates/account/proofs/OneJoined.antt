-- The promises about a joined account leave one outcome.
-- Assumes nothing.
use Rattle.std.specs.Prelude.{Result, Ok, Err}
use Prim.Native.Nat.{ℕ, zero, suc, ◌+◌, ◌-◌, ◌<◌}
use mathlib.Core.Path.{◌≡◌, refl, sym, ap, ap₂, subst⁻¹, ◌∙◌}
use mathlib.Core.Bool.{Bool, false}
use mathlib.Core.List.{List, ◌++◌, map}
use lib.ListN.{length, get_or, replicate, length-map, take-append-drop}
use lib.Seq.{ext_get_or, length-take-le}
use native.Mathlib.Omega.{arith}
use Rattle.exact.specs.Lists.{sum}
use Rattle.exact.proofs.Lists.{get_d_map}
use Rattle.record.specs.Bytes.{count_from}
use Rattle.account.specs.Check.{records_checked, most_contracts}
use Rattle.account.specs.code.Determined.{Determined}
use Rattle.account.specs.code.Pair.{PairBy}
use Rattle.account.specs.PartNumbers.{parts, contract_count, part_start, part_count}
use Rattle.account.specs.Records.{record_count}
use Rattle.account.specs.code.Standing.{listed_in, Filled, Flagged, Numbered, JoinedBy, AloneBy, CheckedBy}
use Rattle.account.specs.code.Surveyed.{converts_in, Surveyed}
use Rattle.account.specs.declared.check.Survey.{Survey}
use Rattle.account.specs.declared.accounts.Account.{Account}
use Rattle.account.specs.declared.answers.Refusal.{Refusal}
use Rattle.account.specs.declared.noon.CheckedPair.{CheckedPair}
use Rattle.account.proofs.Going.{same_survey}

-- ---- lists given place by place

one_filled : (n : ℕ) (f : ℕ → ℕ) (xs ys : List ℕ) → Filled n f xs → Filled n f ys → xs ≡ ys
one_filled n f xs ys a b =
    ext_get_or 0 xs ys (a.long ∙ sym b.long) (λ v h. a.each v (omega (arith, a.long)) ∙ sym (b.each v (omega (arith, a.long))))

one_flagged : (counts : List ℕ) (xs ys : List Bool) → Flagged counts xs → Flagged counts ys → xs ≡ ys
one_flagged counts xs ys a b =
    ext_get_or false xs ys (a.long ∙ sym b.long) (λ c h. a.each c (omega (arith, a.long)) ∙ sym (b.each c (omega (arith, a.long))))

-- the numbers, and how many there are
module _ (counts : List ℕ) where
  abbrev listed : List ℕ
  listed = listed_in counts

  how_many : (n : ℕ) (xs : List ℕ) → Numbered counts n xs → n ≡ length listed
  how_many n xs a = sym (length-take-le n xs (omega (arith, a.long, a.few))) ∙ ap length a.those

  which : (n : ℕ) (xs : List ℕ) → Numbered counts n xs → xs ≡ listed ++ replicate (most_contracts - length listed) 0
  which n xs a =
      sym (take-append-drop n xs)
      ∙ ap₂ (λ (l r : List ℕ). l ++ r) a.those (a.rest ∙ ap (λ (k : ℕ). replicate (most_contracts - k) 0) (how_many n xs a))

  one_many : (n k : ℕ) (xs ys : List ℕ) → Numbered counts n xs → Numbered counts k ys → n ≡ k
  one_many n k xs ys a b = how_many n xs a ∙ sym (how_many k ys b)

  one_numbered : (n k : ℕ) (xs ys : List ℕ) → Numbered counts n xs → Numbered counts k ys → xs ≡ ys
  one_numbered n k xs ys a b = which n xs a ∙ sym (which k ys b)

same_numbered : (j k : Account) → j.counts ≡ k.counts → Numbered k.counts k.contracts k.numbers
    → Numbered j.counts k.contracts k.numbers
same_numbered j k e a = subst⁻¹ (λ (cs : List ℕ). Numbered cs k.contracts k.numbers) e a

-- ---- a joined account, field by field

pub one_joined : (m n : Survey) (j k : Account) → JoinedBy m n j → JoinedBy m n k → j ≡ k
one_joined m n j k a b =
    let first = one_filled parts _ j.first k.first a.first b.first in
    let counts = one_filled parts _ j.counts k.counts a.counts b.counts in
    let flags = one_flagged n.counts j.noon k.noon a.noon b.noon in
    let own = same_numbered j k counts b.numbers in
    λ i.
    record {
      records = (a.records ∙ ap (λ (cs : List ℕ). sum cs) counts ∙ sym b.records) i;
      contracts = one_many j.counts j.contracts k.contracts j.numbers k.numbers a.numbers own i;
      numbers = one_numbered j.counts j.contracts k.contracts j.numbers k.numbers a.numbers own i;
      noon = flags i;
      first = first i;
      counts = counts i;
    }

pub one_alone : (first counts : List ℕ) (records : ℕ) (j k : Account) → AloneBy first counts records j → AloneBy first counts records k → j ≡ k
one_alone first-noted counted records j k a b =
    let counts : j.counts ≡ k.counts = a.counts ∙ sym b.counts in
    let own = same_numbered j k counts b.numbers in
    λ i.
    record {
      records = (a.records_are ∙ sym b.records_are) i;
      contracts = one_many j.counts j.contracts k.contracts j.numbers k.numbers a.numbers own i;
      numbers = one_numbered j.counts j.contracts k.contracts j.numbers k.numbers a.numbers own i;
      noon = (a.noon ∙ sym b.noon) i;
      first = (a.first ∙ sym b.first) i;
      counts = counts i;
    }

-- ---- what the check hands out of any file, written down

count-length : (a n : ℕ) → length (count_from a n) ≡ n
count-length a zero = refl
count-length a (suc n) = ap suc (count-length (a + 1) n)

count_at : (a n v : ℕ) → v < n → get_or (count_from a n) v 0 ≡ a + v
count_at a zero v h = absurd (omega arith)
count_at a (suc n) zero h = omega arith
count_at a (suc n) (suc v) h = count_at (a + 1) n v (omega arith) ∙ omega arith

noted : (f : ℕ → ℕ) → List ℕ
noted f = map f (count_from 0 parts)

noted_length : (f : ℕ → ℕ) → length (noted f) ≡ parts
unfolding noted
noted_length f = length-map (count_from 0 parts) f ∙ count-length 0 parts

noted_at : (f : ℕ → ℕ) (v : ℕ) → v < parts → get_or (noted f) v 0 ≡ f v
unfolding noted
noted_at f v h =
    get_d_map f (count_from 0 parts) v 0 0 (omega (arith, count-length 0 parts, h))
    ∙ ap f (count_at 0 parts v h ∙ omega arith)

taken : List ℕ → Survey
taken file =
    record {
      answer = records_checked file;
      contracts = contract_count file;
      first = noted (part_start file);
      counts = noted (part_count file);
      converts = converts_in file;
    }

surveyed : (file : List ℕ) → Surveyed file (taken file)
unfolding taken
surveyed file =
    record {
      answer = refl;
      contracts = refl;
      firsts = noted_length (part_start file);
      first = noted_at (part_start file);
      sizes = noted_length (part_count file);
      counts = noted_at (part_count file);
      converts = refl;
    }

pub one_file_lem : (file : List ℕ) (r s : Result Account Refusal) → CheckedBy file r → CheckedBy file s → r ≡ s
one_file_lem file (Ok r) (Ok s) a b =
    let m = taken file in
    ap Ok (one_alone m.first m.counts (record_count file) r s (a.accepted.alone_by m (surveyed file)) (b.accepted.alone_by m (surveyed file)))
one_file_lem file (Ok r) (Err d) a b = let e = a.answer_is ∙ sym b.answer_is in cc
one_file_lem file (Err c) (Ok s) a b = let e = a.answer_is ∙ sym b.answer_is in cc
one_file_lem file (Err c) (Err d) a b = let e = a.answer_is ∙ sym b.answer_is in cc

pub one_checked : (morning noon : List ℕ) (r s : CheckedPair) → PairBy morning noon r → PairBy morning noon s → r ≡ s
one_checked morning noon r s a b =
    let m = taken morning in
    let n = taken noon in
    let joined =
    one_joined m n r.account s.account
    (a.joined_by m n (surveyed morning) (surveyed noon)) (b.joined_by m n (surveyed morning) (surveyed noon))
    in
    λ i. record { verdict = (a.verdict_is ∙ sym b.verdict_is) i; account = joined i }

pub determined : Determined
determined = record { survey = same_survey; joined = one_joined; alone = one_alone; file = one_file_lem; pair = one_checked }
