-- What a server whose entries are kept does from its start on.
use Rattle.std.specs.Prelude.{ℕ, List, ◌++◌, Option, IsTrue}
use Rattle.std.specs.Io.KnownBytes.{Appends, Consumes, IsAtEnd}
use Rattle.cq_base.specs.declared.ask.Entry.{Entry}
use Rattle.cq_base.specs.Relations.{IsPrefix}
use Rattle.cq_disk.specs.declared.device.Device.{Ghosts}
use Rattle.cq_frame_loop.specs.Chains.{AnswersAll}
use Rattle.cq_frame_loop.specs.Cutting.{frames_of}
use Rattle.cq_frame_loop.specs.Settling.{StopsFront}
use Rattle.cq_frames.specs.declared.response.Response.TheVariants as responses
use Rattle.cq_frames.specs.declared.response.Standing.{Standing}
use Rattle.cq_kept_entries.specs.Kept.{BytesStandFor}
use Rattle.cq_kept_server.specs.declared.server.KeptServer.{KeptServer}
use Rattle.cq_kept_server.specs.Keeping.{Answers, Stops}
use Rattle.cq_kept_server.specs.Servers.{BeginsWith, IsSettled, server_device}
use Rattle.cq_process_frames.specs.Frames.{frame}
use Rattle.cq_server_process.specs.Answers.{StandsSo}
use Rattle.cq_kept_run.specs.declared.sizes.TheConstants.{HALF, REGION}

-- Whatever entries these bytes of its device stood for at its start, the server began behind these.
abbrev pub BeginsBehind : {D : Type 0} {g : Ghosts D} → List ℕ → KeptServer D g → Type 0
BeginsBehind {D} {g} seen first = IsTrue (g.is_honest (server_device first)) → (all : List Entry) → BytesStandFor HALF REGION seen all → BeginsWith first all

-- It told where it stands. Then it answered all frames of the reader, and told what came of them; all of it is kept.
pub record ServesFrames {D : Type 0} {g : Ghosts D} (first last : KeptServer D g) (unread left before after : Option (List ℕ)) : Type 0 where
  pub standing : Standing
  pub stands : StandsSo first.process.process.core standing
  pub input : List ℕ
  pub output : List ℕ
  pub read : Consumes unread left input × IsAtEnd left
  pub tells : Appends before after (frame (responses.Done standing) ++ output)
  pub answers : AnswersAll Answers first (frames_of input) output last
  pub settled : IsSettled last

-- It told no more than where it stands, and maybe not all of that.
pub record TellsPart {D : Type 0} {g : Ghosts D} (first : KeptServer D g) (before after : Option (List ℕ)) : Type 0 where
  pub standing : Standing
  pub stands : StandsSo first.process.process.core standing
  pub told : List ℕ
  pub tells : Appends before after told
  pub part : IsPrefix told (frame (responses.Done standing))

-- It told where it stands. Then it answered frames of the reader up to a fault: what was told of them is a front of what the first ones were
-- answered by, and these were kept. More were answered then, of which nothing was told, and the fault left that one of it.
pub record StopsFrames {D : Type 0} {g : Ghosts D} (first left : KeptServer D g) (unread rest before after : Option (List ℕ)) : Type 0 where
  pub standing : Standing
  pub stands : StandsSo first.process.process.core standing
  pub input : List ℕ
  pub output : List ℕ
  pub read : Consumes unread rest input
  pub tells : Appends before after (frame (responses.Done standing) ++ output)
  pub front : StopsFront Answers Stops IsSettled first (frames_of input) output left
