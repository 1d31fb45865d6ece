use Rattle.cq_frames.specs.Layout.{command}
use Rattle.cq_frames.specs.Limits.{IsCommand}
use Rattle.cq_frames.specs.Reading.{command_at}
use Rattle.cq_frames.proofs.CommandLaws.{command_is_read}
use Rattle.cq_wire.proofs.Wholes.{whole_differs}
use Rattle.cq_frames.proofs.laws.two_commands_differ.Goals as goal

pub returns : goal.returns
returns c = whole_differs command command_at IsCommand command_is_read
