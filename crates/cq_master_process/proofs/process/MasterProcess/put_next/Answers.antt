-- By whether the server is gone.
use Rattle.std.proofs.Common.{◌≡◌, ◌∙◌, sym, refl, false}
use Rattle.cq_master_process.specs.Links.{gone_of}
use Rattle.cq_master_process.proofs.Told.{idle-by, no-memory-never, on-no-memory}
use Rattle.cq_master_process.proofs.process.MasterProcess.put_next.Goals as goal

pub put_thrown-requires-clause-gone : goal.put_thrown-requires-clause-gone
put_thrown-requires-clause-gone c = sym c.is_gone.ensures ∙ c.if-is_gone.true

pub put_told-requires-clause-here : goal.put_told-requires-clause-here
put_told-requires-clause-here c = sym c.is_gone.ensures ∙ c.if-is_gone.false

pub returns-then-is_gone-clause-put : goal.returns-then-is_gone-clause-put
returns-then-is_gone-clause-put c = c.put_thrown.ensures.put c.args.out.now.items

pub returns-then-is_gone-clause-bytes : goal.returns-then-is_gone-clause-bytes
returns-then-is_gone-clause-bytes c = idle-by c.put_thrown.result (c.args.out.now.items ≡ c.args.out.now.items) refl

pub returns-clause-memory : goal.returns-clause-memory
returns-clause-memory c = on-no-memory c.put_told.result (gone_of c.args.self.now.links c.args.to ≡ false) (sym c.is_gone.ensures ∙ c.if-is_gone.false)

pub returns-then-is_gone-clause-memory : goal.returns-then-is_gone-clause-memory
returns-then-is_gone-clause-memory c = no-memory-never c.put_thrown.result (gone_of c.args.self.now.links c.args.to ≡ false) c.put_thrown.ensures.memory
