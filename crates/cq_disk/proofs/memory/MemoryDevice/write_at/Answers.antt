use Rattle.std.proofs.Common.{refl, arith}
use Rattle.std.proofs.lemmas.Grind.{common_steps}
use Rattle.cq_disk.specs.Device.{Overlaid}
use Rattle.cq_disk.proofs.Past.{elapses_to}
use Rattle.cq_disk.proofs.Tears.{done, undone, follows, stays}
use Rattle.cq_disk.proofs.memory.MemoryDevice.write_at.Goals as goal

pub returns-in_err-next-clause-crash : goal.returns-in_err-next-clause-crash
returns-in_err-next-clause-crash c = stays _ _ _ _ _ c.requires refl

pub returns-in_err-extend_from_slice-clause-crash : goal.returns-in_err-extend_from_slice-clause-crash
returns-in_err-extend_from_slice-clause-crash c = stays _ _ _ _ _ c.requires refl

pub returns-in_err-extend_from_slice-2-clause-crash : goal.returns-in_err-extend_from_slice-2-clause-crash
returns-in_err-extend_from_slice-2-clause-crash c = stays _ _ _ _ _ c.requires refl

pub returns-in_err-replace-clause-crash : goal.returns-in_err-replace-clause-crash
returns-in_err-replace-clause-crash c = stays _ _ _ _ _ c.requires c.in_err-replace.ensures.err

pub returns-clause-crash : goal.returns-clause-crash
returns-clause-crash c =
    let overlaid : Overlaid c.args.self.now.bytes.items c.args.at c.args.bytes.now c.replace.new.bytes.items = grind (arith, common_steps) in
    follows _ _ _ _ _ c.requires overlaid

pub returns-clause-time : goal.returns-clause-time
returns-clause-time c =
    let past = c.in_ok-replace.ensures.past in
    elapses_to c.args.self.now.past.items c.replace.new.past.items past.0 c.args.self.now.bytes.items c.replace.new.bytes.items past.1 past.2

pub returns-in_err-next-clause-range : goal.returns-in_err-next-clause-range
returns-in_err-next-clause-range c = undone _ _ _ _ _ c.requires refl

pub returns-in_err-extend_from_slice-clause-range : goal.returns-in_err-extend_from_slice-clause-range
returns-in_err-extend_from_slice-clause-range c = undone _ _ _ _ _ c.requires refl

pub returns-in_err-extend_from_slice-2-clause-range : goal.returns-in_err-extend_from_slice-2-clause-range
returns-in_err-extend_from_slice-2-clause-range c = undone _ _ _ _ _ c.requires refl

pub returns-in_err-replace-clause-range : goal.returns-in_err-replace-clause-range
returns-in_err-replace-clause-range c = undone _ _ _ _ _ c.requires c.in_err-replace.ensures.err

pub returns-clause-range : goal.returns-clause-range
returns-clause-range c =
    let overlaid : Overlaid c.args.self.now.bytes.items c.args.at c.args.bytes.now c.replace.new.bytes.items = grind (arith, common_steps) in
    done _ _ _ _ _ c.requires overlaid
