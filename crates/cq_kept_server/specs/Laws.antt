-- The law of a server whose entries are kept.
use Rattle.std.specs.Prelude.{◌≡◌, ℕ, List, [], ◌∷◌, ◌++◌, IsTrue}
use Rattle.cq_base.specs.declared.ask.Entry.{Entry}
use Rattle.cq_disk.specs.declared.device.Device.{Ghosts}
use Rattle.cq_frame_loop.specs.Chains.{IsChain, Step}
use Rattle.cq_kept_server.specs.declared.server.KeptServer.{KeptServer}
use Rattle.cq_kept_server.specs.Keeping.{Answers, Brings, LeavesAtLeast, Stops}
use Rattle.cq_kept_server.specs.Servers.{Has, IsReady, IsSettled, device_of, state_of}

module _ {D : Type 0} {g : Ghosts D} where
  -- these entries came of the frames of these steps, in order, behind those that were there
  abbrev pub CameOf : KeptServer D g → List (Step (KeptServer D g)) → List Entry → List Entry → Type 0
  CameOf p [] all news = news ≡ []
  CameOf p (step ∷ steps) all news = (new : List Entry) × (Brings (state_of p) step.frame all new × ((more : List Entry) × (CameOf step.after steps (all ++ new) more × (news ≡ new ++ more))))

  -- Where all of these entries were kept at first: the server had settled those that came of the first frames, and what a crash leaves from then
  -- on begins with all of them.
  pub record Keeps (all : List Entry) (first : KeptServer D g) (steps : List (Step (KeptServer D g))) (settled : KeptServer D g) (later : List (Step (KeptServer D g))) (left : KeptServer D g) : Type 0 where
    pub told : List Entry
    pub came : CameOf first steps all told
    pub has : Has (state_of settled) (all ++ told) []
    pub more : List Entry
    pub came_later : CameOf settled later (all ++ told) more
    pub leaves : LeavesAtLeast (state_of settled) (state_of left) (all ++ told) ((all ++ told) ++ more)

  -- So it is for all frames, all faults and all crashes.
  abbrev pub Outlives : KeptServer D g → KeptServer D g → KeptServer D g → KeptServer D g → Type 0
  Outlives first settled last left = (all : List Entry) (steps later : List (Step (KeptServer D g))) → IsReady first → Has (state_of first) all [] → IsChain Answers first steps settled → IsSettled settled
      → IsChain Answers settled later last → Stops last left → IsTrue (g.is_honest (device_of (state_of left))) → Keeps all first steps settled later left
