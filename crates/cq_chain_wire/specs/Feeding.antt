-- Reading a message from its pieces, one after another, up to the first fault.
use Rattle.std.specs.Prelude.{ℕ, ◌==◌, List, [], ◌∷◌, length, Option, None, Some, Result, Ok, Err, unwrap_or, if◌then◌else◌}
use Rattle.cq_chain.specs.declared.message.Message.TheVariants as kinds
use Rattle.cq_store_wire.specs.declared.build.State.{State}
use Rattle.cq_store_wire.specs.declared.build.State.TheVariants as states
use Rattle.cq_store_wire.specs.Building.{fed, store_of}
use Rattle.cq_wire.specs.declared.version.TheConstants.{VERSION}
use Rattle.cq_wire.specs.declared.fault.WireFault.{WireFault}
use Rattle.cq_wire.specs.declared.fault.WireFault.TheVariants.{Truncated, BadTag, BytesLeft, OtherVersion}
use Rattle.cq_wire.specs.Reading.{◌>>=◌, all_of}
use Rattle.cq_chain_wire.specs.declared.reader.Progress.{Progress}
use Rattle.cq_chain_wire.specs.declared.reader.Progress.TheVariants.{More, Whole}
use Rattle.cq_chain_wire.specs.Reading.{message_at}

-- What was read so far is nothing, or the store of a snapshot, as far as its parts came.

-- a chunk of the store of a snapshot
unfoldable pub chunk_fed : List ℕ → Option State → Result Progress WireFault
chunk_fed bytes so_far = fed bytes (unwrap_or so_far states.Empty) >>= λ next. Ok (More (Some next))

-- a snapshot ends where its store does
unfoldable pub end_fed : List ℕ → Option State → Result Progress WireFault
end_fed bytes None = Err BadTag
end_fed bytes (Some state) = store_of state >>= λ kept. if length bytes == 0 then Ok (Whole (kinds.Snap kept)) else Err BytesLeft

-- a plain message, which isn't within a snapshot
unfoldable pub plain_fed : List ℕ → Option State → Result Progress WireFault
plain_fed bytes None = all_of message_at bytes >>= λ m. Ok (Whole m)
plain_fed bytes (Some state) = Err BadTag

-- by the byte for the kind
unfoldable pub kind_fed : List ℕ → Option State → Result Progress WireFault
kind_fed [] so_far = Err Truncated
kind_fed (kind ∷ rest) so_far =
    if kind == 1 then chunk_fed rest so_far
    else (if kind == 13 then end_fed rest so_far else plain_fed (kind ∷ rest) so_far)

-- behind the version
unfoldable pub piece_fed : List ℕ → Option State → Result Progress WireFault
piece_fed [] so_far = Err Truncated
piece_fed (version ∷ rest) so_far = if version == VERSION then kind_fed rest so_far else Err OtherVersion

-- no piece is behind a whole message
abbrev pub next_fed : List ℕ → Progress → Result Progress WireFault
next_fed bytes (More so_far) = piece_fed bytes so_far
next_fed bytes (Whole m) = Err BytesLeft

-- pieces one after another
unfoldable pub all_fed : List (List ℕ) → Progress → Result Progress WireFault
all_fed [] progress = Ok progress
all_fed (bytes ∷ more) progress = next_fed bytes progress >>= λ next. all_fed more next
