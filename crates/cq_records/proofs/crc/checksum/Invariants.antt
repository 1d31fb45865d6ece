use Rattle.std.proofs.Common.{◌≡◌, drop}
use Rattle.cq_records.specs.Checksum.{advanced}
use Rattle.cq_records.proofs.crc.checksum.Given as goal

abbrev pub invariant-loop-byte : goal.invariant-loop-byte
invariant-loop-byte l = record { so_far : advanced l.sum (drop l.byte-index l.text) ≡ advanced 0xffff_ffff l.text }
