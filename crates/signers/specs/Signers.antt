-- Document 02, card 8: "Signers are a set over the 8 subscribers, and the number of signatures given is the count of
-- signers; two or more make the order released". Document 01: "Signers as bits of a u8".
use Rattle.std.specs.Prelude.{ℕ, zero, suc, ◌+◌, ◌-◌, ◌/◌, ◌%◌, ◌^◌, Bool, cond, ◌&&◌, eqb, leb}

-- "bits of a u8", one for each of "the 8 subscribers"
abbrev pub bit_count : ℕ
bit_count = 8

-- "two or more"
abbrev pub releasing : ℕ
releasing = 2

-- whether a subscriber has a bit: 1 to 8
unfoldable pub has_bit : ℕ → Bool
has_bit s = leb 1 s && leb s bit_count

-- the bit of subscriber s, as a number: "the bit of value 1 is subscriber 1, of 128 subscriber 8"
abbrev pub value_of : ℕ → ℕ
value_of s = 2 ^ (s - 1)

-- whether the subscriber is a signer
unfoldable pub is_signer : ℕ → ℕ → Bool
is_signer s set = has_bit s && eqb (set / value_of s % 2) 1

-- "the subscriber becomes a signer"; "Signing again ... adds nobody"
unfoldable pub with_signer : ℕ → ℕ → ℕ
with_signer s set = cond (is_signer s set) set (cond (has_bit s) (set + value_of s) set)

-- how many of n subscribers from s on are signers
unfoldable pub count_from : ℕ → ℕ → ℕ → ℕ
count_from s zero set = 0
count_from s (suc n) set = cond (is_signer s set) 1 0 + count_from (suc s) n set

-- "the number of signatures given is the count of signers": the set's size over the 8 subscribers
unfoldable pub signer_count : ℕ → ℕ
signer_count set = count_from 1 bit_count set

-- "two or more make the order released"
unfoldable pub is_released : ℕ → Bool
is_released set = leb releasing (signer_count set)
