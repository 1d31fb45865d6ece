-- What is written so far is a chunk, of the parts from the start up to the place; and where nothing has moved, it is the version.
use Rattle.std.proofs.Common.{◌≡◌, ◌<◌, ◌⊎◌, length}
use Rattle.cq_base.specs.Relations.{IsPrefix}
use Rattle.cq_store_wire.specs.Chunks.{IsChunk}
use Rattle.cq_store_wire.specs.Order.{parts_from}
use Rattle.cq_store_wire.proofs.writer.put_chunk.Given as goal

abbrev pub invariant-loop-out : goal.invariant-loop-out
invariant-loop-out l = record {
  chunk : IsChunk (parts_from l.store l.fn.bodies l.fn.start) (parts_from l.store l.bodies l.place) l.out.value;
  moves : ((l.place ≡ l.fn.start) × ((l.bodies ≡ l.fn.bodies) × (length l.out.value ≡ 1))) ⊎ (length (parts_from l.store l.bodies l.place) < length (parts_from l.store l.fn.bodies l.fn.start));
  more : IsPrefix l.fn.bodies l.bodies;
  before : l.out.before ≡ l.fn.out.before;
}

abbrev pub decreases-loop-out : goal.decreases-loop-out
decreases-loop-out l = length (parts_from l.store l.bodies l.place)
