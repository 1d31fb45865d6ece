-- The bytes before this one have been added.
use Rattle.std.proofs.Common.{◌≡◌, take}
use Rattle.cq_kept_session.specs.Texts.{as_kept}
use Rattle.cq_kept_session.proofs.text.as_kept.Given as goal

abbrev pub invariant-loop-byte : goal.invariant-loop-byte
invariant-loop-byte l = l.text.items ≡ as_kept (take l.byte-index l.bytes)
