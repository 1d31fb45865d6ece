use Rattle.std.proofs.Common.{◌≡◌, ◌⊎◌, ◌∙◌, inr, List, ℕ, [], ◌∷◌, sym, subst}
use Rattle.std.specs.Prelude.{IsTrue, slice_index}
use Rattle.cq_disk.specs.Device.{Torn}
use Rattle.cq_disk.proofs.Moments.{started, goes_on}
use Rattle.cq_records.specs.Frames.{frames}
use Rattle.cq_records.proofs.Gates.{torn_shut, gate_read}
use Rattle.cq_records.proofs.blanks.shut.Goals as goal

pub returns-clause-any_moment : goal.returns-clause-any_moment
returns-clause-any_moment g c = λ honest.
    let old = g.D.Device.seen c.args.device.now in
    let P : List ℕ → Type 0 = λ f. (frames f ≡ []) ⊎ (f ≡ old) in
    let honest_read : IsTrue (g.D.Device.is_honest c.read_at.new.self) = sym (c.sync.ensures.honest ∙ c.write_at.ensures.honest) ∙ honest in
    let open_gate : slice_index old 0 ≡ 2 = sym (gate_read old c.read_at.new.bytes c.requires.some (c.in_ok-read_at.ensures.bytes honest_read)) ∙ c.if-gate-ne2.false in
    let torn = g.D.Device.torn c.read_at.new.self in
    let begun = started g.D.Device.moment g.D.Device.left_since c.args.device.now P (λ f left. inr (c.requires.durable f (g.met.D.Device.only_now c.args.device.now f left))) in
    let was_read = goes_on g.D.Device.moment g.D.Device.left_since c.args.device.now c.args.device.now c.read_at.new.self P _ begun c.read_at.ensures.time (λ f now. inr (c.requires.durable f (c.read_at.ensures.crash f now))) in
    let crash : (f : List ℕ) → g.D.Device.may_leave c.write_at.new.self f → P f = λ f now. let from = c.write_at.ensures.crash f now in
    torn_shut torn old f open_gate c.requires.some (subst (λ d. Torn torn 0 (0 ∷ []) d f) (c.requires.durable from.0 (c.read_at.ensures.crash from.0 from.1)) from.2) in
    let wrote = goes_on g.D.Device.moment g.D.Device.left_since c.args.device.now c.read_at.new.self c.write_at.new.self P _ was_read c.write_at.ensures.time crash in
    goes_on g.D.Device.moment g.D.Device.left_since c.args.device.now c.write_at.new.self c.sync.new.self P _ wrote c.sync.ensures.time (λ f now. crash f (c.sync.ensures.crash f now))
