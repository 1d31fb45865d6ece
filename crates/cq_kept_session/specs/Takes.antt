-- A kept session over chunks that it has taken.
use Rattle.std.specs.Prelude.{◌≡◌, ℕ, List, [], ◌∷◌, ◌++◌, IsTrue}
use Rattle.cq_disk.specs.declared.device.Device.{Ghosts}
use Rattle.cq_records.specs.Frames.{joined}
use Rattle.cq_kept_session.specs.declared.kept.KeptSession.{KeptSession}
use Rattle.cq_kept_session.specs.Kept.{StandsFor, session_device, session_size, told_text}

-- a chunk as it was kept, and what was written of it
pub record Taken : Type 0 where
  pub chunk : List ℕ
  pub output : List ℕ

-- the chunks, in order
abbrev pub chunks : List Taken → List (List ℕ)
chunks [] = []
chunks (t ∷ ts) = t.chunk ∷ chunks ts

-- all that was written, in order
abbrev pub outputs : List Taken → List ℕ
outputs [] = []
outputs (t ∷ ts) = t.output ++ outputs ts

module _ {D : Type 0} {g : Ghosts D} where
  -- A chunk was taken and answered, where the records stood for these bytes. A rewrite is such a call whose chunk is empty.
  pub record Takes (bytes : List ℕ) (t : Taken) (old new : KeptSession D g) : Type 0 where
    pub size : session_size new ≡ session_size old
    pub honest : IsTrue (g.is_honest (session_device new)) → IsTrue (g.is_honest (session_device old))
    pub stands : IsTrue (g.is_honest (session_device new)) → StandsFor new (bytes ++ t.chunk)
    pub text : IsTrue (g.is_honest (session_device new)) → told_text new (bytes ++ t.chunk) ≡ told_text old bytes ++ t.output

  -- so were these, one behind the other
  abbrev pub TakesAll : List ℕ → List Taken → KeptSession D g → KeptSession D g → Type 0
  TakesAll bytes [] old new = new ≡ old
  TakesAll bytes (t ∷ ts) old new = (mid : KeptSession D g) × Takes bytes t old mid × TakesAll (bytes ++ t.chunk) ts mid new

  -- The records stand for the bytes from before and all chunks, and what was written of the chunks is what one session writes on all
  -- these bytes, behind what it writes on those from before.
  pub record Continues (bytes : List ℕ) (ts : List Taken) (old new : KeptSession D g) : Type 0 where
    pub size : session_size new ≡ session_size old
    pub honest : IsTrue (g.is_honest (session_device new)) → IsTrue (g.is_honest (session_device old))
    pub stands : IsTrue (g.is_honest (session_device new)) → StandsFor new (bytes ++ joined (chunks ts))
    pub text : IsTrue (g.is_honest (session_device new)) → told_text new (bytes ++ joined (chunks ts)) ≡ told_text old bytes ++ outputs ts
