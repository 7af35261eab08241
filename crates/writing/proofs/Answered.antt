-- What comes back from the verdict on the written file and the bytes lent.
-- Assumes nothing.
use Rattle.std.specs.Prelude.{Ok, Err}
use Prim.Native.Nat.{ℕ, ◌*◌, ◌≤◌, ◌<◌}
use mathlib.Core.Path.{◌≡◌, refl, sym, ap, ◌∙◌}
use mathlib.Core.Bool.{Bool, true, false, cond, ◌&&◌}
use mathlib.Core.List.{List, ◌++◌}
use lib.Dec.{eqb, ltb}
use lib.ListN.{length, get_or, drop}
use lib.Seq.{take_all}
use native.Mathlib.Omega.{arith}
use borrow.Author.Tests.{ne_eqb, lt-ltb, le-ltb}
use Rattle.record.specs.Bytes.{record_bytes}
use Rattle.account.specs.Answers.{number_of, record_of, refusal, refusal_number}
use Rattle.account.specs.Check.{too_long, cut_record}
use Rattle.account.specs.Checked.{rates_checked, checked}
use Rattle.account.specs.Records.{records, record_count}
use Rattle.account.specs.Answers.{Answer}
use Rattle.account.specs.declared.answers.Refusal.{Refusal}
use Rattle.account.specs.declared.answers.Refusal.TheVariants.{TooLong, CutRecord, TooFewBytes}
use Rattle.account.proofs.AcceptedOnly.{refused_some}
use Rattle.account.proofs.Verdict.{too_long_lem, cut_short}
use Rattle.writing.specs.Order.{places}
use Rattle.writing.specs.Written.{written, filled_in, as_entered, verdict_on, fine, writing_answer, WrittenBy}
use Rattle.writing.proofs.Placed.{written_long, nothing_over, long_same, cut_same}

-- ---- too long, and cut: as the list itself
checked_long : (file : List ℕ) → too_long file ≡ true → checked file ≡ Err TooLong
checked_long file e = ap (λ (a : Answer). cond (eqb (number_of a) 0) (rates_checked (records file)) a) (too_long_lem file e)

checked-cut : (file : List ℕ) → too_long file ≡ false → cut_record file ≡ true → checked file ≡ Err CutRecord
checked-cut file e f = ap (λ (a : Answer). cond (eqb (number_of a) 0) (rates_checked (records file)) a) (cut_short file e f)

long_verdict : (entries : List ℕ) → too_long entries ≡ true → verdict_on entries ≡ Err TooLong
long_verdict entries e =
    ap (as_entered (places entries))
    (checked_long (written entries) (long_same entries ∙ e))

cut_verdict : (entries : List ℕ) → too_long entries ≡ false → cut_record entries ≡ true → verdict_on entries ≡ Err CutRecord
cut_verdict entries e f =
    ap (as_entered (places entries))
    (checked-cut (written entries) (long_same entries ∙ e) (cut_same entries ∙ f))

module _ (entries lent after : List ℕ) (same : after ≡ lent) where
  -- a refusal of the written file
  pub refuses : (r : Refusal) → Err r ≡ verdict_on entries → WrittenBy entries lent (Err r) after
  refuses r e =
      let some : fine (Err r) ≡ false = ne_eqb (refusal_number r) 0 (refused_some {a = Err r} refl) in
      let f : fine (verdict_on entries) ≡ false = ap fine (sym e) ∙ some in
      let is : writing_answer entries (length lent) ≡ Err r =
      ap (λ (b : Bool). cond (b && ltb (length lent) (length (written entries))) (Err TooFewBytes) (verdict_on entries)) f ∙ sym e in
      let off : fine (writing_answer entries (length lent)) ≡ false = ap fine is ∙ some in
      record {
        answer = sym is;
        bytes = sym (ap (λ (b : Bool). cond b (length (written entries)) 0) off);
        out = same ∙ sym (ap (λ (b : Bool). cond b (written entries ++ drop (length (written entries)) lent) lent) off);
      }

  pub refuses_long : too_long entries ≡ true → WrittenBy entries lent (Err TooLong) after
  refuses_long e = refuses TooLong (sym (long_verdict entries e))

  pub refuses_cut : too_long entries ≡ false → cut_record entries ≡ true → WrittenBy entries lent (Err CutRecord) after
  refuses_cut e f = refuses CutRecord (sym (cut_verdict entries e f))

  pub refuses_room : verdict_on entries ≡ Ok tt → length lent < length entries → WrittenBy entries lent (Err TooFewBytes) after
  refuses_room z l =
      let s : ltb (length lent) (length (written entries)) ≡ true =
      lt-ltb (length lent) (length (written entries)) (omega (arith, written_long entries)) in
      let is : writing_answer entries (length lent) ≡ Err TooFewBytes =
      ap (λ (b : Bool). cond (b && ltb (length lent) (length (written entries))) (Err TooFewBytes) (verdict_on entries)) (ap fine z)
      ∙ ap (λ (b : Bool). cond b (Err TooFewBytes) (verdict_on entries)) s in
      let off : fine (writing_answer entries (length lent)) ≡ false = ap fine is in
      record {
        answer = sym is;
        bytes = sym (ap (λ (b : Bool). cond b (length (written entries)) 0) off);
        out = same ∙ sym (ap (λ (b : Bool). cond b (written entries ++ drop (length (written entries)) lent) lent) off);
      }

pub writes :
    (entries lent after : List ℕ) → cut_record entries ≡ false → verdict_on entries ≡ Ok tt
    → length entries ≤ length lent → after ≡ filled_in entries 0 (record_count entries) lent → WrittenBy entries lent (Ok (length entries)) after
writes entries lent after whole z l h =
    let s : ltb (length lent) (length (written entries)) ≡ false =
    le-ltb (length lent) (length (written entries)) (omega (arith, written_long entries)) in
    let is : writing_answer entries (length lent) ≡ Ok tt =
    ap (λ (b : Bool). cond (b && ltb (length lent) (length (written entries))) (Err TooFewBytes) (verdict_on entries)) (ap fine z)
    ∙ ap (λ (b : Bool). cond b (Err TooFewBytes) (verdict_on entries)) s ∙ z in
    let on : fine (writing_answer entries (length lent)) ≡ true = ap fine is in
    let n : record_count entries * record_bytes ≡ length (written entries) = nothing_over entries whole ∙ sym (written_long entries) in
    record {
      answer = sym is;
      bytes = sym (written_long entries) ∙ sym (ap (λ (b : Bool). cond b (length (written entries)) 0) on);
      out =
          h ∙ ap (λ (xs : List ℕ). xs ++ drop (record_count entries * record_bytes) lent) (take_all (record_count entries * record_bytes) (written entries)
          (omega arith))
          ∙ ap (λ (m : ℕ). written entries ++ drop m lent) n
          ∙ sym (ap (λ (b : Bool). cond b (written entries ++ drop (length (written entries)) lent) lent) on);
    }

-- ---- the place as entered
pub entered_early :
    (order : List ℕ) (a : Answer) {n : ℕ} → n ≡ number_of a → n < 3 → a ≡ as_entered order a
entered_early order a {n} e h =
    let t : ltb (number_of a) 3 ≡ true = lt-ltb (number_of a) 3 (omega arith) in
    rw t

pub entered_late :
    (order : List ℕ) (a : Answer) {n k p x : ℕ} {r : Answer} → n ≡ number_of a → 3 ≤ n → k ≡ record_of a → p ≡ get_or order k 0 → x ≡ p
    → r ≡ refusal n x → r ≡ as_entered order a
entered_late order a {n} {k} {p} {x} {r} hn h hk hp hx hr =
    let t : ltb (number_of a) 3 ≡ false = le-ltb (number_of a) 3 (omega arith) in
    hr ∙ ap (λ (m : ℕ). refusal m x) hn
    ∙ ap (refusal (number_of a)) (hx ∙ hp ∙ ap (λ (i : ℕ). get_or order i 0) hk)
    ∙ sym (ap (λ (b : Bool). cond b a (refusal (number_of a) (get_or order (record_of a) 0))) t)
