use Rattle.std.proofs.Common.{◌≡◌, ◌+◌, ◌≤◌, ◌∷◌, ◌∙◌, length, true, List, sym, ap, subst, arith}
use Rattle.cq_disk.specs.Events.{Event, sync_failed, all_within, resized}
use Rattle.cq_disk.proofs.Histories.{tried, no_sync, within_too, tried_follows, tried_range, seen_len, one_more}
use Rattle.cq_disk.proofs.modelled.ModelledDevice.write_at.Goals as goal

pub invariant_of-self : goal.invariant_of-self
invariant_of-self g c =
    let d = c.args.self.now in
    let h = g.C.Calls.history d.calls in
    let long = seen_len d.len g.S.Start.shown h d.within in
    let fits : c.args.at + length c.args.bytes.now ≤ d.len = omega (arith, long, c.requires) in
    let noted : g.C.Calls.history c.write.new.self ≡ tried c.write.result c.args.at c.args.bytes.now ∷ h = c.write.ensures in
    record {
      tied = d.tied ∙ sym (ap sync_failed noted ∙ no_sync c.write.result c.args.at c.args.bytes.now h);
      within = subst (λ (l : List Event). all_within d.len l ≡ true) (sym noted) (within_too d.len c.write.result c.args.at c.args.bytes.now h fits d.within);
    }

pub returns-then-write-clause-crash : goal.returns-then-write-clause-crash
returns-then-write-clause-crash g c =
    let d = c.args.self.now in
    tried_follows d.torn g.S.Start.beneath (resized d.len g.S.Start.shown) (g.C.Calls.history d.calls) (g.C.Calls.history c.write.new.self) c.write.result c.args.at c.args.bytes.now c.requires c.write.ensures

pub returns-else-write-clause-crash : goal.returns-else-write-clause-crash
returns-else-write-clause-crash g c =
    let d = c.args.self.now in
    tried_follows d.torn g.S.Start.beneath (resized d.len g.S.Start.shown) (g.C.Calls.history d.calls) (g.C.Calls.history c.write.new.self) c.write.result c.args.at c.args.bytes.now c.requires c.write.ensures

pub returns-then-write-clause-keeps : goal.returns-then-write-clause-keeps
returns-then-write-clause-keeps g c =
    let d = c.args.self.now in
    one_more d.torn d.len (g.C.Calls.history d.calls) (g.C.Calls.history c.write.new.self) (tried c.write.result c.args.at c.args.bytes.now) c.write.ensures

pub returns-else-write-clause-keeps : goal.returns-else-write-clause-keeps
returns-else-write-clause-keeps g c =
    let d = c.args.self.now in
    one_more d.torn d.len (g.C.Calls.history d.calls) (g.C.Calls.history c.write.new.self) (tried c.write.result c.args.at c.args.bytes.now) c.write.ensures

pub returns-then-write-clause-range : goal.returns-then-write-clause-range
returns-then-write-clause-range g c =
    let d = c.args.self.now in
    tried_range d.torn (resized d.len g.S.Start.shown) (g.C.Calls.history d.calls) (g.C.Calls.history c.write.new.self) c.write.result c.args.at c.args.bytes.now c.requires c.write.ensures

pub returns-else-write-clause-range : goal.returns-else-write-clause-range
returns-else-write-clause-range g c =
    let d = c.args.self.now in
    tried_range d.torn (resized d.len g.S.Start.shown) (g.C.Calls.history d.calls) (g.C.Calls.history c.write.new.self) c.write.result c.args.at c.args.bytes.now c.requires c.write.ensures
