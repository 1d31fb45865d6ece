-- So far each byte is plain.
use Rattle.std.proofs.Common.{◌≤◌, ◌<◌, ◌-◌, length}
use Rattle.cq_base.proofs.PlainBytes.{ArePlain}
use Rattle.cq_base.proofs.text.are_plain_bytes.Given as goal

abbrev pub invariant-loop-from : goal.invariant-loop-from
invariant-loop-from l = record {
  plain : ArePlain l.bytes l.from;
  some : 0 < l.from;
  within : l.from ≤ length l.bytes;
}

abbrev pub decreases-loop-from : goal.decreases-loop-from
decreases-loop-from l = length l.bytes - l.from
