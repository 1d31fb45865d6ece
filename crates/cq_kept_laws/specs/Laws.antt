-- The statements of the laws.
use Rattle.std.specs.Prelude.{List}
use Rattle.cq_base.specs.declared.ask.Entry.{Entry}
use Rattle.cq_disk.specs.declared.device.Device.{Ghosts}
use Rattle.cq_frame_loop.specs.Chains.{IsChain, Step}
use Rattle.cq_kept_server.specs.declared.server.KeptServer.{KeptServer}
use Rattle.cq_kept_server.specs.Keeping.{Answers}
use Rattle.cq_kept_server.specs.Servers.{BeginsWith}
use Rattle.cq_kept_laws.specs.Runs.{KeptRun}

-- Whatever entries a server begins behind, and whatever frames it answers then, its process ran so.
abbrev pub KeptServersRun : {D : Type 0} {g : Ghosts D} → KeptServer D g → KeptServer D g → Type 0
KeptServersRun {D} {g} first last = (all : List Entry) (steps : List (Step (KeptServer D g))) → BeginsWith first all → IsChain Answers first steps last → KeptRun all first steps last
