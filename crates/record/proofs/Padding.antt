-- A shorter record, and the same with zeros after it: what is refused goes by the bytes alone, which are the same.
-- Assumes nothing.
use Prim.Native.Nat.{ℕ, ◌+◌, ◌-◌, ◌*◌, ◌≤◌, ◌<◌}
use mathlib.Core.Path.{◌≡◌, refl, sym, ap, ◌∙◌}
use mathlib.Core.Bool.{Bool, true, false, not, ◌&&◌}
use mathlib.Core.List.{List, [], ◌∷◌, ◌++◌}
use lib.ListN.{length, get_or, set, drop, length-append, length-drop, length-set, get_or-append, replicate, length-replicate, get_or-replicate}
use lib.Seq.{get_or-set_same, get_or-set_other, get_or-append_right, get_or-drop}
use lib.Dec.{eqb, ltb}
use native.Mathlib.Omega.{arith}
use borrow.Author.Tests.{ltb-true, ltb-false, eqb-true, eqb-false}
use Rattle.record.specs.Bytes.{Record, byte_at, one, two, four, Width, Field, plain_at, number_in, record_bytes}
use Rattle.record.specs.Layout.{fields_of}
use Rattle.record.specs.Ranges.{beyond, outside_among, named, unused_byte, field_outside}
use Rattle.record.proofs.Reading.{byte_past}
use Rattle.record.proofs.Tests.{both, any_same}

-- ---- on the way: i bytes are copied, and zeros stand after them
pub record Padding (r whole : List ℕ) (i : ℕ) : Type 0 where
  pub long : length whole ≡ record_bytes
  pub inside : i ≤ length r
  pub copied : (o : ℕ) → o < i → byte_at whole o ≡ byte_at r o
  pub zeros : (o : ℕ) → i ≤ o → byte_at whole o ≡ 0

pub padding_start : (r : List ℕ) → Padding r (replicate record_bytes 0) 0
padding_start r =
    record {
      long = length-replicate {A = ℕ} record_bytes 0;
      inside = omega arith;
      copied = λ o h. absurd (omega arith);
      zeros = λ o h. go o (ltb o record_bytes) refl;
    }
  where
    go : (o : ℕ) (t : Bool) → ltb o record_bytes ≡ t → byte_at (replicate record_bytes 0) o ≡ 0
    go o true e = get_or-replicate {A = ℕ} record_bytes o 0 0 (ltb-true o record_bytes e)
    go o false e =
        let l : length (replicate {A = ℕ} record_bytes 0) ≤ o = omega (arith, ltb-false o record_bytes e, length-replicate {A = ℕ} record_bytes 0) in
        byte_past (replicate record_bytes 0) o l

module _ {r whole : List ℕ} {i : ℕ} (p : Padding r whole i) where
  pub padding_next : i < length r → i < record_bytes → Padding r (set whole i (get_or r i 0)) (i + 1)
  padding_next h g =
      record {
        long = length-set whole i (get_or r i 0) ∙ p.long;
        inside = omega arith;
        copied = λ o l. here o l (eqb o i) refl;
        zeros = λ o l. get_or-set_other whole i o (get_or r i 0) 0 (λ e. omega arith) ∙ p.zeros o (omega arith);
      }
    where
      here : (o : ℕ) → o < i + 1 → (t : Bool) → eqb o i ≡ t → byte_at (set whole i (get_or r i 0)) o ≡ byte_at r o
      here o l true e =
          let s = eqb-true o i e in
          ap (byte_at (set whole i (get_or r i 0))) s
          ∙ get_or-set_same whole i (get_or r i 0) 0 (omega (arith, p.long)) ∙ ap (byte_at r) (sym s)
      here o l false e =
          let d = eqb-false o i e in
          get_or-set_other whole i o (get_or r i 0) 0 d ∙ p.copied o (omega arith)

  pub padding_ends : length r ≤ i → (o : ℕ) → byte_at whole o ≡ byte_at r o
  padding_ends h o = go (ltb o i) refl
    where
      go : (t : Bool) → ltb o i ≡ t → byte_at whole o ≡ byte_at r o
      go true e = p.copied o (ltb-true o i e)
      go false e =
          let l = ltb-false o i e in
          p.zeros o l ∙ sym (byte_past r o (omega arith))

-- ---- the bytes, and zeros
zero_at : (o : ℕ) → byte_at (replicate record_bytes 0) o ≡ 0
zero_at o = go (ltb o record_bytes) refl
  where
    go : (t : Bool) → ltb o record_bytes ≡ t → byte_at (replicate record_bytes 0) o ≡ 0
    go true e = get_or-replicate {A = ℕ} record_bytes o 0 0 (ltb-true o record_bytes e)
    go false e =
        let l : length (replicate {A = ℕ} record_bytes 0) ≤ o = omega (arith, ltb-false o record_bytes e, length-replicate {A = ℕ} record_bytes 0) in
        byte_past (replicate record_bytes 0) o l

module _ (r : Record) where
  abbrev pub rest : List ℕ
  rest = drop (length r) (replicate record_bytes 0)

  padded_long : length r < record_bytes → length (r ++ rest) ≡ record_bytes
  padded_long h =
      omega (arith, length-append r rest, length-drop (length r) (replicate {A = ℕ} record_bytes 0), length-replicate {A = ℕ} record_bytes 0)

  padded_same : (o : ℕ) → byte_at (r ++ rest) o ≡ byte_at r o
  padded_same o = go (ltb o (length r)) refl
    where
      go : (t : Bool) → ltb o (length r) ≡ t → byte_at (r ++ rest) o ≡ byte_at r o
      go true e = get_or-append r rest 0 o (ltb-true o (length r) e)
      go false e =
          let h = ltb-false o (length r) e in
          get_or-append_right r rest o 0 h ∙ get_or-drop (length r) (replicate record_bytes 0) (o - length r) 0
          ∙ zero_at (length r + (o - length r)) ∙ sym (byte_past r o h)

  pub padded_is :
      length r < record_bytes → (q : List ℕ) → q ≡ r
      → (length (q ++ rest) ≡ record_bytes) × ((o : ℕ) → byte_at (q ++ rest) o ≡ byte_at r o)
  padded_is h q e = rw e (padded_long h, padded_same)

-- ---- records with the same bytes get the same refusals
module _ (q r : Record) (same : (o : ℕ) → byte_at q o ≡ byte_at r o) where
  number_same : (f : Field) → number_in f q ≡ number_in f r
  number_same f = go f.width
    where
      go : (w : Width) → plain_at w q f.start ≡ plain_at w r f.start
      go one = same f.start
      go two = λ i. same f.start i + 256 * same (f.start + 1) i
      go four =
          λ i. (same f.start i + 256 * same (f.start + 1) i)
          + 65536 * (same (f.start + 2) i + 256 * same (f.start + 2 + 1) i)

  fields_same : fields_of q ≡ fields_of r
  fields_same = rw (same 0, same 2, same 8)

  among_same : (fs : List Field) → outside_among fs q ≡ outside_among fs r
  among_same [] = refl
  among_same (f ∷ fs) = both (ap (beyond f.range) (number_same f)) (among_same fs)

  pub same_outside : field_outside q ≡ field_outside r
  same_outside = ap (λ (fs : List Field). outside_among fs q) fields_same ∙ among_same (fields_of r)

  pub same_unused : unused_byte q ≡ unused_byte r
  same_unused =
      any_same _ _ record_bytes 0 (λ k l h. λ i. not (named (fields_same i) k) && not (eqb (same k i) 0))
