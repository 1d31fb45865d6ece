use Rattle.cq_store_wire.specs.declared.build.State.TheVariants as states
use Rattle.cq_store_wire.proofs.Chunked.{chunks-found}
use Rattle.cq_store_wire.proofs.Spelled.{whole-spelled}
use Rattle.cq_store_wire.proofs.laws.what_is_read_was_written.Goals as goal

pub returns : goal.returns
returns c = λ kept texts bytes e. let found = chunks-found texts states.Empty (states.Whole kept) bytes e in (found.chunks, found.are, whole-spelled kept found.chunks found.fit found.make)
