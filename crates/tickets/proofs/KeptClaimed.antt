-- One kept account goes with a file and its tickets.
-- Assumes nothing.
use Rattle.std.specs.Prelude.{Ok, Err}
use Prim.Native.Nat.{ℕ}
use mathlib.Core.Path.{◌≡◌, refl, sym, ap, ◌∙◌}
use mathlib.Core.Bool.{Bool, true, false, cond}
use mathlib.Core.List.{List}
use native.Mathlib.Omega.{arith}
use borrow.Author.Tests.{eqb-true}
use lib.Dec.{eqb}
use lib.Seq.{ext_get_or}
use Rattle.record.specs.Layout.{Record}
use Rattle.account.specs.Answers.{number_of, record_of}
use Rattle.account.specs.Records.{records}
use Rattle.account.specs.declared.answers.Refusal.TheVariants.{NoTicketLeft}
use Rattle.account.proofs.OneJoined.{one_file_lem}
use Rattle.margin.proofs.PositionsLaws.{one_positions}
use Rattle.tickets.specs.code.Counts.{CountsOf}
use Rattle.tickets.specs.code.Kept.{KeptBy, withdrawal}
use Rattle.tickets.specs.code.KeptClaims.{KeptClaims}
use Rattle.tickets.specs.Ticket.{with_tickets}
use Rattle.tickets.specs.declared.counts.Counts.{Counts}
use Rattle.tickets.specs.declared.kept.Kept.{Kept}

one_counts : (file : List ℕ) (ts : List Record) (a b : Counts) → CountsOf file ts a → CountsOf file ts b → a ≡ b
one_counts file ts a b x y =
    let same = one_file_lem file (Ok a.account) (Ok b.account) x.from_check y.from_check in
    let account : a.account ≡ b.account = cc in
    let rows = ext_get_or 0 a.rows b.rows (x.places ∙ sym y.places) (λ c h. x.rows_are c ∙ sym (y.rows_are c)) in
    λ i.
    record {
      account = account i;
      above = (x.above_is ∙ sym y.above_is) i;
      rows = rows i;
      tickets = (x.many ∙ sym y.many) i;
    }

one_kept : (file : List ℕ) (ts : List Record) (a b : Kept) → KeptBy file ts a → KeptBy file ts b → a ≡ b
one_kept file ts a b x y =
    let counts = one_counts file ts a.counts b.counts x.counts y.counts in
    let positions = one_positions (records (with_tickets file ts)) a.positions b.positions x.positions y.positions in
    λ i. record { counts = counts i; positions = positions i }

none_told : (n : ℕ) → number_of (withdrawal n) ≡ 22 → n ≡ 0
none_told n h = go (eqb n 0) refl
  where
    go : (b : Bool) → eqb n 0 ≡ b → n ≡ 0
    go true e = eqb-true n 0 e
    go false e =
        let z : ◌≡◌ {A = ℕ} 0 22 = sym (ap (λ (b : Bool). number_of (cond b (Err NoTicketLeft) (Ok tt))) e) ∙ h in
        absurd (omega arith)

no_record : (n : ℕ) → record_of (withdrawal n) ≡ 0
no_record n = go (eqb n 0)
  where
    go : (b : Bool) → record_of (cond b (Err NoTicketLeft) (Ok tt)) ≡ 0
    go true = refl
    go false = refl

pub kept_claims : KeptClaims
kept_claims =
    record {
      one = one_kept;
      twenty_two = λ n. record { forth = none_told n; back = λ e. ap (λ (m : ℕ). number_of (withdrawal m)) e };
      no_record = no_record;
    }
