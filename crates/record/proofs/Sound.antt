-- A whole record of a kind and a contract, by what its own kind covers and allows.
-- Assumes nothing.
use Prim.Native.Nat.{ℕ}
use mathlib.Core.Path.{◌≡◌, refl, sym, ap, ◌∙◌}
use mathlib.Core.Bool.{Bool, true, false, not, ◌&&◌, ◌||◌, and-true, and-false}
use mathlib.Core.List.{List}
use lib.ListN.{length}
use lib.Dec.{eqb, leb}
use borrow.Author.Tests.{eqb-true}
use Rattle.record.specs.Bytes.{Record, Field, record_bytes}
use Rattle.record.specs.Layout.{kind, contract, fields_of}
use Rattle.record.specs.Ranges.{unused_beside, outside_among, unused_byte, field_outside, of_kind_and_contract, sound_record}
use Rattle.record.proofs.Within.{both_true, neither}

-- one test more among those that a record must not meet
pub but_for : (b u h l m : Bool) → b && not ((u || (h || not m)) || l) ≡ (b && not (u || (h || l))) && m
but_for false u h l m = refl
but_for true true h l m = refl
but_for true false true l m = refl
but_for true false false l true = sym (and-true (not l))
but_for true false false l false = sym (and-false (not l))

module _ (n c : ℕ) (r : Record) where
  pub sound-short : leb record_bytes (length r) ≡ false → false ≡ sound_record n c r
  sound-short h = rw h

  pub sound-whole :
      (fs : List Field) → (kind r ≡ n → fields_of r ≡ fs) → leb record_bytes (length r) ≡ true → {b u o : Bool}
      → b ≡ of_kind_and_contract n c r → u ≡ unused_beside fs r → o ≡ outside_among fs r → b && not (u || o) ≡ sound_record n c r
  sound-whole fs f h {b} {u} {o} eb eu eo =
      λ i. go (of_kind_and_contract n c r) refl i
    where
      go : (t : Bool) → of_kind_and_contract n c r ≡ t → b && not (u || o) ≡ sound_record n c r
      go true e =
          let k = f (eqb-true (kind r) n (both_true (eqb (kind r) n) (eqb (contract r) c) e).0) in
          let v : unused_byte r ≡ u = ap (λ (gs : List Field). unused_beside gs r) k ∙ sym eu in
          let w : field_outside r ≡ o = ap (λ (gs : List Field). outside_among gs r) k ∙ sym eo in
          rw (h, eb, e, v, w)
      go false e = rw (h, eb, e)

  -- what is known of a sound record
  pub record Sound : Type 0 where
    pub kinds : kind r ≡ n
    pub contracts : contract r ≡ c
    pub unused : unused_byte r ≡ false
    pub within : field_outside r ≡ false

  off : (b : Bool) → not b ≡ true → b ≡ false
  off true h = sym h
  off false h = refl

  pub sound_known : sound_record n c r ≡ true → Sound
  sound_known h =
      let a = (both_true (leb record_bytes (length r)) _ h).1 in
      let b = both_true (of_kind_and_contract n c r) _ a in
      let k = both_true (eqb (kind r) n) _ b.0 in
      let z = neither (unused_byte r) (field_outside r) (off (unused_byte r || field_outside r) b.1) in
      record {
        kinds = eqb-true (kind r) n k.0;
        contracts = eqb-true (contract r) c k.1;
        unused = z.0;
        within = z.1;
      }
