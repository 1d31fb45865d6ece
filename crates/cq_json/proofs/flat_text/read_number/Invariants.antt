-- The number so far is that of the bytes so far.
use Rattle.std.proofs.Common.{◌≡◌, ◌-◌, ◌<◌, ◌≤◌, length, take, get_or, decimal}
use Rattle.cq_json.proofs.flat_text.read_number.Given as goal

abbrev pub invariant-loop-len : goal.invariant-loop-len
invariant-loop-len l = record {
  digits : decimal l.number ≡ take l.len l.bytes;
  positive : 0 < l.number;
  some : 0 < l.len;
  within : l.len ≤ length l.bytes;
  ascii : get_or l.bytes (l.len - 1) 0 < 128;
}

abbrev pub decreases-loop-len : goal.decreases-loop-len
decreases-loop-len l = length l.bytes - l.len
