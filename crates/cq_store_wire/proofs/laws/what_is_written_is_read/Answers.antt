use Rattle.std.proofs.Common.{List, ap, ◌∙◌}
use Rattle.cq_store_wire.specs.declared.part.Part.{Part}
use Rattle.cq_store_wire.specs.declared.build.State.TheVariants as states
use Rattle.cq_store_wire.specs.Building.{built}
use Rattle.cq_store_wire.proofs.Chunked.{chunks-fed}
use Rattle.cq_store_wire.proofs.Rebuilt.{store-built}
use Rattle.cq_store_wire.proofs.laws.what_is_written_is_read.Goals as goal

pub returns : goal.returns
returns c = λ kept chunks sound fit are. chunks-fed chunks states.Empty fit ∙ ap (λ (ps : List Part). built ps states.Empty) are ∙ store-built kept sound
