-- What the bytes before this one stand for was added.
use Rattle.std.proofs.Common.{◌≡◌, false, drop}
use Rattle.cq_kept_base.specs.Stuffed.{put_before, unstuffed}
use Rattle.cq_kept_base.proofs.stuffing.unstuffed.Given as goal

abbrev pub invariant-loop-byte : goal.invariant-loop-byte
invariant-loop-byte l = unstuffed false l.text ≡ put_before l.bytes.items (unstuffed l.is_escaped (drop l.byte-index l.text))
