use Rattle.std.proofs.Common.{◌≡◌, ℕ, List, [], ◌∷◌, ◌++◌, length, ◌∙◌, ap, refl, inl, inr}
use Rattle.cq_wire.specs.declared.version.TheConstants.{VERSION}
use Rattle.cq_store_wire.proofs.Mentions.{prefix-same, prefix-then}
use Rattle.cq_store_wire.proofs.Places.{chunk-next, chunk-start, moved}
use Rattle.cq_store_wire.proofs.writer.put_chunk.Goals as goal

pub loop-out-init : goal.loop-out-init
loop-out-init c =
    let written : c.put.new.self.value ≡ VERSION ∷ [] = c.in_ok-put.ensures.ok ∙ ap (λ (t : List ℕ). t ++ VERSION ∷ []) c.requires in
    record { chunk = chunk-start _ c.put.new.self.value written; moves = inl (refl, (refl, ap length written)); more = prefix-same _; before = c.put.ensures.before }

pub loop-out-preserved : goal.loop-out-preserved
loop-out-preserved c = record {
  chunk = chunk-next _ _ _ _ _ c.loop-out.invariant.chunk c.in_ok-place.ensures.ok;
  moves = inr (moved c.args.store.now c.args.bodies.now c.loop-out.bodies c.put_at.new.bodies c.args.start c.loop-out.place c.in_ok-place.place _ _ c.loop-out.out.value c.loop-out.invariant.moves c.in_ok-place.ensures.ok);
  more = prefix-then _ _ _ c.loop-out.invariant.more c.put_at.ensures.more;
  before = c.put_at.ensures.before ∙ c.loop-out.invariant.before;
}
