-- The CRC-32 of a text, byte by byte, by the table of what each byte leaves.
use Rattle.std.specs.Prelude.{ℕ, ◌/◌, ◌%◌, List, [], ◌∷◌, slice_index, bit_xor}
use Rattle.cq_records.specs.declared.crc.TheConstants.{TABLE}

abbrev pub advanced : ℕ → List ℕ → ℕ
advanced sum [] = sum
advanced sum (byte ∷ bytes) = advanced (bit_xor (sum / 256) (slice_index TABLE (bit_xor (sum % 256) byte))) bytes

abbrev pub checksum : List ℕ → ℕ
checksum bytes = bit_xor (advanced 0xffff_ffff bytes) 0xffff_ffff
