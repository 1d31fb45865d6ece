-- Bytes of two messages differ.
use Rattle.cq_wire.proofs.Wholes.{whole_differs}
use Rattle.cq_chain_wire.specs.Layout.{message}
use Rattle.cq_chain_wire.specs.Limits.{IsMessage}
use Rattle.cq_chain_wire.specs.Reading.{message_at}
use Rattle.cq_chain_wire.proofs.MessageLaws.{message_is_read}
use Rattle.cq_chain_wire.proofs.laws.two_messages_differ.Goals as goal

pub returns : goal.returns
returns c = whole_differs message message_at IsMessage message_is_read
