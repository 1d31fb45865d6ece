use Rattle.std.proofs.Common.{◌≡◌, ◌∙◌, ℕ, List, [], length, take, sym, arith, length-take}
use Rattle.std.specs.Prelude.{slice_index}
use Rattle.std.proofs.lemmas.List.{take-replicate}
use Rattle.cq_disk.proofs.Moments.{goes_on}
use Rattle.cq_records.specs.Frames.{frames}
use Rattle.cq_records.proofs.Gates.{zeros_on, torn_first, no_records}
use Rattle.cq_records.proofs.blanks.write_zeros.Goals as goal

pub loop-done-preserved : goal.loop-done-preserved
loop-done-preserved g c =
    let i = c.loop-done.invariant in
    let old = g.D.Device.seen c.args.device.now in
    let one : length (take 1 old) ≡ 1 = omega (arith, length-take 1 old, c.requires.some) in
    let first : (f : List ℕ) → g.D.Device.may_leave c.write_at.new.self f → slice_index f 0 ≡ slice_index old 0 = λ f now. let from = c.write_at.ensures.crash f now in
    torn_first _ c.loop-done.done _ from.0 f i.some from.2 ∙ i.first from.0 from.1 in
    record {
      some = omega (arith, i.some);
      within = omega (arith, c.min-many.ensures, c.loop-done-test.true, i.within);
      len = i.len ∙ sym c.write_at.ensures.length;
      same = c.write_at.ensures.length ∙ i.same;
      zeros = zeros_on (take 1 old) (g.D.Device.seen c.loop-done.device) (g.D.Device.seen c.write_at.new.self) _ c.loop-done.done c.min-many.result
          (take-replicate c.min-many.result 4096 0 (omega (arith, c.min-many.ensures))) i.some one i.zeros c.in_ok-write_at.ensures.written;
      first = first;
      moments = λ shut. goes_on g.D.Device.moment g.D.Device.left_since c.args.device.now c.loop-done.device c.write_at.new.self (λ f. frames f ≡ []) _ (i.moments shut) c.write_at.ensures.time (λ f now. no_records f _ (first f now) shut);
      honest = c.write_at.ensures.honest ∙ i.honest;
      keeps = g.met.D.Device.keeps_on _ _ _ i.keeps c.write_at.ensures.keeps;
      faults = omega (arith, i.faults, c.write_at.ensures.cause.later);
    }

pub returns-in_err-write_at-clause-any_moment : goal.returns-in_err-write_at-clause-any_moment
returns-in_err-write_at-clause-any_moment g c = λ shut.
    let i = c.loop-done.invariant in
    let old = g.D.Device.seen c.args.device.now in
    let first : (f : List ℕ) → g.D.Device.may_leave c.write_at.new.self f → slice_index f 0 ≡ slice_index old 0 = λ f now. let from = c.write_at.ensures.crash f now in
    torn_first _ c.loop-done.done _ from.0 f i.some from.2 ∙ i.first from.0 from.1 in
    goes_on g.D.Device.moment g.D.Device.left_since c.args.device.now c.loop-done.device c.write_at.new.self (λ f. frames f ≡ []) _ (i.moments shut) c.write_at.ensures.time (λ f now. no_records f _ (first f now) shut)
