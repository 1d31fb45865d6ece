-- What is written is read.
use Rattle.cq_wire.proofs.Wholes.{whole_is_read}
use Rattle.cq_chain_wire.specs.Layout.{message}
use Rattle.cq_chain_wire.specs.Limits.{IsMessage}
use Rattle.cq_chain_wire.specs.Reading.{message_at}
use Rattle.cq_chain_wire.proofs.MessageLaws.{message_is_read}
use Rattle.cq_chain_wire.proofs.laws.what_is_written_is_read.Goals as goal

pub returns : goal.returns
returns c = whole_is_read message message_at IsMessage message_is_read
