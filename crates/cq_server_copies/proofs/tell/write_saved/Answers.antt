-- The response fits into a frame.
use Rattle.std.proofs.Common.{◌∙◌, ◌++◌, ap}
use Rattle.cq_frames.specs.declared.response.Response.TheVariants.{Saved}
use Rattle.cq_frames.specs.Layout.{response}
use Rattle.cq_wire.specs.Layout.{whole}
use Rattle.cq_server_copies.proofs.Chunks.{saved-fits}
use Rattle.cq_server_copies.proofs.tell.write_saved.Goals as goal

pub write_frame-requires : goal.write_frame-requires
write_frame-requires c = saved-fits c.args.count c.args.chunk c.as_slice.result.now c.as_bytes-few.ensures.few (c.as_slice.ensures.value ∙ c.in-Ok.ensures.ok ∙ ap (λ xs. xs ++ whole response (Saved c.args.count c.args.chunk)) c.new-bytes.ensures.items)
