-- A cursor that holds up to 64 bits, the highest first: filling it up with data bytes, taking bits. All of it for any numbers that its
-- three fields can have. And when such a cursor stands where a bit place of the file stands.
use Rattle.std.specs.Prelude.{◌≡◌, ℕ, zero, suc, ◌+◌, ◌-◌, ◌*◌, ◌/◌, ◌%◌, ◌^◌, ◌<◌, ◌≤◌, cond, List, length, drop, ℤ, pos, ◌-ℤ◌, ◌==◌, nat_le, nat_lt, slice_index}
use Rattle.std.specs.Prelude.{Some, None}
use Rattle.std.specs.Prelude as Std
use Rattle.std.proofs.Math.Option.{Option, none, some}
use Rattle.std.proofs.Math.ListN.{get_elem?}
use Rattle.reading.specs.declared.Bits.{Bits}
use Rattle.reading.specs.declared.Fault.{Fault}
use Rattle.reading.specs.declared.Fault.TheVariants.{RanOut, Bare}
use Rattle.reading.specs.Reader.{got, fault, Reader}
use Rattle.reading.specs.Huffman.{bits_of}
use Rattle.reading.specs.Code.Coming.{Plain, ahead, unstuff, pending}
use Rattle.jpeg_bits_wide.specs.declared.Wide.{Wide}

abbrev pub fresh : ℕ → Wide
fresh at = record { at = at; acc = 0; left = 0 }

-- ---- filling up

-- a data byte x behind the bits that are there; the next one stands at `at`
abbrev pub joined : Wide → ℕ → ℕ → Wide
joined w x at = record { at = at; acc = (w.acc + x * 2 ^ (56 - w.left)) % 2 ^ 64; left = w.left + 8 }

-- a 255 is data where 0 follows, which is skipped
abbrev pub behind_full : Wide → Option ℕ → Wide
behind_full w none = w
behind_full w (some y) = cond (y == 0) (joined w 255 (w.at + 2)) w

abbrev pub behind_byte : List ℕ → Wide → Option ℕ → Wide
behind_byte s w none = w
behind_byte s w (some x) = cond (x == 255) (behind_full w (get_elem? s (w.at + 1))) (joined w x (w.at + 1))

-- one data byte more, where there is room and one to come
unfoldable pub byte_more : List ℕ → Wide → Wide
byte_more s w = cond (nat_le w.left 56) (behind_byte s w (get_elem? s w.at)) w

-- n times
unfoldable pub bytes_more : List ℕ → ℕ → Wide → Wide
bytes_more s zero w = w
bytes_more s (suc n) w = bytes_more s n (byte_more s w)

-- all that there is room for: eight bytes are enough
unfoldable pub filled : List ℕ → Wide → Wide
unfolding bytes_more
filled s w = bytes_more s 8 w

-- four data bytes as one number, where there are four and none of them is 255
unfoldable pub word_at : List ℕ → ℕ → Std.Option ℕ
word_at s at =
    cond (nat_lt (length s) (at + 4)) None
    (cond (slice_index s at == 255) None
    (cond (slice_index s (at + 1) == 255) None
    (cond (slice_index s (at + 2) == 255) None
    (cond (slice_index s (at + 3) == 255) None
    (Some (slice_index s at * 16777216 + slice_index s (at + 1) * 65536 + slice_index s (at + 2) * 256 + slice_index s (at + 3)))))))

-- four data bytes more where they make a number, else all that there is room for
abbrev pub more_by : List ℕ → Wide → Std.Option ℕ → Wide
more_by s w (Some v) = bytes_more s 4 w
more_by s w None = filled s w

-- where fewer than 32 bits are there
unfoldable pub topped : List ℕ → Wide → Wide
unfolding bytes_more filled word_at
topped s w = cond (nat_le 32 w.left) w (more_by s w (word_at s w.at))

-- ---- taking

-- without the highest n bits
abbrev pub taken : ℕ → Wide → Wide
taken n w = record { at = w.at; acc = w.acc * 2 ^ n % 2 ^ 64; left = w.left - n }

-- why no bit can be read from `at` on, where no data byte stands
unfoldable pub fault_at : List ℕ → ℕ → Fault
fault_at s at = cond (nat_le (length s) (at + 1)) RanOut Bare

-- the next of the bits that are there: a reader that fills nothing up
unfoldable pub bit : List ℕ → Reader Wide ℕ
unfolding fault_at
bit s = λ w. cond (w.left == 0) (fault (fault_at s w.at)) (got (w.acc / 2 ^ 63) (taken 1 w))

-- what n bits that make v mean, by the halves of 2^n
unfoldable pub meant_by : ℕ → ℕ → ℤ
meant_by n v = cond (nat_lt (2 * v) (2 ^ n)) (pos (v + 1) -ℤ pos (2 ^ n)) (pos v)

-- ---- where a cursor stands

-- the bit place of a cursor that has at most seven bits, as the plain engine keeps it
unfoldable pub narrowed : Wide → Bits
narrowed w = record { at = w.at; byte = w.acc / 2 ^ (64 - w.left) % 256; left = w.left % 256 }

-- below the bits that are there acc is 0: they make the number `high`
pub record Proper (w : Wide) : Type 0 where
  pub high : ℕ
  pub few : w.left ≤ 64
  pub below : high < 2 ^ w.left
  pub is : w.acc ≡ high * 2 ^ (64 - w.left)

-- what is to come at a cursor: the bits that are there, and then those of the data bytes
abbrev pub to_come : List ℕ → Wide → Plain
to_come s w = ahead (bits_of w.left (w.acc / 2 ^ (64 - w.left))) (unstuff (drop w.at s))

-- a cursor stands where a bit place of the file stands: the same is to come at both
pub record Meets (s : List ℕ) (b : Bits) (w : Wide) : Type 0 where
  pub proper : Proper w
  pub same : to_come s w ≡ pending s b
  pub few : b.left < 8
