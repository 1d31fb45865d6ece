use Rattle.std.proofs.Common.{List, ℕ, ◌++◌, sym, ◌∙◌, ap, subst}
use Rattle.cq_store_wire.specs.Chunks.{IsChunk}
use Rattle.cq_kept_base.proofs.records.next_chunk.Goals as goal

pub returns-in-Ok-clause-chunk : goal.returns-in-Ok-clause-chunk
returns-in-Ok-clause-chunk c =
    let one = c.in-Ok.ensures.ok in
    subst (IsChunk _ _) (sym (one.1 ∙ ap (λ (l : List ℕ). l ++ one.0) c.new-chunk.ensures.items)) one.2
