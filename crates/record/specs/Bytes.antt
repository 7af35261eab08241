-- "Records of 96 bytes, no header, little-endian, two's complement where signed." (document 01, "The account file")
-- Assumes nothing.
use Rattle.std.specs.Prelude.{ℕ, zero, suc, ◌+◌, ◌-◌, ◌*◌, cond, List, [], ◌∷◌, get_or, ltb, ℤ, pos, negsuc}

-- A record is the list of its bytes.
abbrev pub Record : Type 0
Record = List ℕ

abbrev pub record_bytes : ℕ
record_bytes = 96

abbrev pub byte_at : Record → ℕ → ℕ
byte_at r o = get_or r o 0

abbrev pub u16_at : Record → ℕ → ℕ
u16_at r o = byte_at r o + 256 * byte_at r (o + 1)

abbrev pub u32_at : Record → ℕ → ℕ
u32_at r o = u16_at r o + 65536 * u16_at r (o + 2)

abbrev pub twos_complement : ℕ → ℤ
twos_complement x = cond (ltb x 2147483648) (pos x) (negsuc (4294967295 - x))

abbrev pub i32_at : Record → ℕ → ℤ
i32_at r o = twos_complement (u32_at r o)

-- How wide a field is.
pub data Width : Type 0 where
  one two four : Width

abbrev pub bytes_of : Width → ℕ
bytes_of one = 1
bytes_of two = 2
bytes_of four = 4

abbrev pub plain_at : Width → Record → ℕ → ℕ
plain_at one r o = byte_at r o
plain_at two r o = u16_at r o
plain_at four r o = u32_at r o

-- What a field may hold: the lowest and the highest number, plain, or signed and of four bytes.
pub data Range : Type 0 where
  plain : ℕ → ℕ → Range
  signed : ℤ → ℤ → Range

-- A field: the byte at which it starts, its width, and what it may hold.
pub record Field : Type 0 where
  pub start : ℕ
  pub width : Width
  pub range : Range

abbrev pub field : ℕ → Width → Range → Field
field o w range = record { start = o; width = w; range = range }

abbrev pub number_in : Field → Record → ℕ
number_in f r = plain_at f.width r f.start

abbrev pub signed_in : Field → Record → ℤ
signed_in f r = i32_at r f.start

-- the numbers from n on, k of them
abbrev pub count_from : ℕ → ℕ → List ℕ
count_from n zero = []
count_from n (suc k) = n ∷ count_from (n + 1) k
