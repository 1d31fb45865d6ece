-- The arrivals of one stream: those that a process was given, and those that it took.
use Rattle.std.specs.Prelude.{ℕ, ◌==◌, List, [], ◌∷◌, ◌++◌, Bool, false, if◌then◌else◌, Option, None, Some}
use Rattle.cq_frame_loop.specs.Chains.{Step}
use Rattle.cq_frames.specs.declared.response.Response.{Response}
use Rattle.cq_frames.specs.Streams.{stream_of}
use Rattle.cq_server_process.specs.declared.process.ServerProcess.{ServerProcess}
use Rattle.cq_process_laws.specs.Passing.{refusal_of}

-- whether it is that stream
abbrev pub is_of : ℕ → Option ℕ → Bool
is_of stream None = false
is_of stream (Some other) = other == stream

-- the bytes of a frame, where they begin as those of an arrival of that stream: those that can't be read, too
abbrev pub given_in : ℕ → Option (List ℕ) → List (List ℕ)
given_in stream None = []
given_in stream (Some bytes) = if is_of stream (stream_of bytes) then bytes ∷ [] else []

-- all of them
abbrev pub given_of : ℕ → List (Step ServerProcess) → List (List ℕ)
given_of stream [] = []
given_of stream (step ∷ steps) = given_in stream step.frame ++ given_of stream steps

-- what was given, but where it was refused or not read
abbrev pub taken_by : Option ℕ → List (List ℕ) → List (List ℕ)
taken_by None given = given
taken_by (Some code) given = []

-- the arrival of that stream that a frame brings, where it was taken, by what was told
abbrev pub taken_in : ℕ → Option (List ℕ) → List Response → List (List ℕ)
taken_in stream frame told = taken_by (refusal_of None told) (given_in stream frame)
