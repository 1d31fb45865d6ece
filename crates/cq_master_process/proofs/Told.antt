-- What is told of a message, by what became of it.
use Rattle.std.proofs.Common.{◌≡◌, ◌∙◌, ℕ, ◌+◌, ◌≤◌, ap, sym, List, [], ◌∷◌, ◌++◌, length, take, length-append, Some, arith}
use Rattle.std.proofs.Math.Seq.{take-append_seam}
use Rattle.cq_base.specs.declared.party.Party.TheVariants as parties
use Rattle.cq_chain.specs.declared.master.Master as rust_master
use Rattle.cq_chain.specs.declared.message.Message as rust
use Rattle.cq_chain.specs.Messages.{Message}
use Rattle.cq_chain.specs.Stands.{IsFirst}
use Rattle.cq_chain_wire.specs.Limits.{IsMessage}
use Rattle.cq_frames.specs.declared.piece.TheConstants.{PIECE_LIMIT}
use Rattle.cq_frames.specs.declared.response.Response.TheVariants.{Put}
use Rattle.cq_master_process.specs.declared.telling.Putting.{Putting}
use Rattle.cq_master_process.specs.declared.telling.Putting.TheVariants as what
use Rattle.cq_master_process.specs.Cores.{piece_of}
use Rattle.cq_master_process.specs.Putting.{only_piece}
use Rattle.cq_master_process.specs.within.Telling.{IsFirstFor, OnIdle, OnNoMemory, OnNothing, OnPut, TellsFirst, WaitsFor}
use Rattle.cq_process_frames.specs.Frames.{frame}
use Rattle.cq_wire.specs.Limits.{IsServer}

-- ---- by what became of it

pub on-put : (w : Putting) (A B : Type 0) → (A → B) → OnPut w A → OnPut w B
on-put what.Put A B f h = f h
on-put what.Nothing A B f h = tt
on-put what.NoMemory A B f h = tt
on-put what.Untellable A B f h = tt

pub on-nothing : (w : Putting) (A : Type 0) → OnNothing w ⊥ → OnNothing w A
on-nothing what.Put A h = tt
on-nothing what.Nothing A h = absurd h
on-nothing what.NoMemory A h = tt
on-nothing what.Untellable A h = tt

pub on-no-memory : (w : Putting) (A : Type 0) → A → OnNoMemory w A
on-no-memory what.Put A h = tt
on-no-memory what.Nothing A h = tt
on-no-memory what.NoMemory A h = h
on-no-memory what.Untellable A h = tt

pub no-memory-never : (w : Putting) (A : Type 0) → OnNoMemory w ⊥ → OnNoMemory w A
no-memory-never what.Put A h = tt
no-memory-never what.Nothing A h = tt
no-memory-never what.NoMemory A h = absurd h
no-memory-never what.Untellable A h = tt

pub on-idle : (w : Putting) (A B : Type 0) → (A → B) → OnIdle w A → OnIdle w B
on-idle what.Put A B f h = tt
on-idle what.Nothing A B f h = f h
on-idle what.NoMemory A B f h = f h
on-idle what.Untellable A B f h = f h

pub idle-by : (w : Putting) (A : Type 0) → A → OnIdle w A
idle-by what.Put A h = tt
idle-by what.Nothing A h = h
idle-by what.NoMemory A h = h
idle-by what.Untellable A h = h

-- ---- bytes

-- what is left where all behind a place is cut off
pub cut-off : (old behind all : List ℕ) (start : ℕ) → all ≡ old ++ behind → length old ≡ start → take start all ≡ old
cut-off old behind all start is at = ap (λ xs. take start xs) is ∙ ap (λ n. take n (old ++ behind)) (sym at) ∙ take-append_seam old behind

-- how long the piece is
pub piece-short : (all old piece : List ℕ) (body : ℕ) → all ≡ old ++ piece → length old ≡ body → length all ≤ body + PIECE_LIMIT → length piece ≤ PIECE_LIMIT
piece-short all old piece body is at short = let long = ap (λ xs. length xs) is ∙ length-append old piece in omega arith

-- ---- the first message

waits-by : (x : rust.Message) (box : List Message) → IsFirst (Some x) box → box ≡ [] → ⊥
waits-by x [] h e = h
waits-by x (m ∷ ms) h e = absurd cc

pub first-waits : (core : rust_master.Master) (to : ℕ) (x : rust.Message) → IsFirstFor core to x → WaitsFor core to
first-waits core to x first m outbox h = waits-by x (outbox (parties.Server to)) (first m outbox h)

pub tells-first : (w : Putting) (core : rust_master.Master) (to number : ℕ) (old new : List ℕ) (x : rust.Message) → IsFirstFor core to x → OnPut w (new ≡ old ++ frame (Put (parties.Server to) (only_piece number) (piece_of x)))
    → OnPut w (IsMessage x × (IsServer to × (length (piece_of x) ≤ PIECE_LIMIT))) → OnPut w (TellsFirst core to number old new)
tells-first what.Put core to number old new x first told fits = record { message = x; first = first; bytes = told; fits = fits.0; server = fits.1.0; short = fits.1.1 }
tells-first what.Nothing core to number old new x first told fits = tt
tells-first what.NoMemory core to number old new x first told fits = tt
tells-first what.Untellable core to number old new x first told fits = tt
