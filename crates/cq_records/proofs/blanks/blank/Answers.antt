use Rattle.std.proofs.Common.{◌≡◌, ◌≢◌, ◌⊎◌, ◌<◌, ◌∙◌, inl, List, ℕ, [], ◌∷◌, length, sym, subst, arith}
use Rattle.std.specs.Prelude.{IsTrue, slice_index}
use Rattle.cq_disk.specs.Device.{Torn, LeavesOnly}
use Rattle.cq_disk.proofs.Moments.{runs_on, goes_on, weakened}
use Rattle.cq_records.specs.Frames.{frames}
use Rattle.cq_records.proofs.Gates.{torn_last}
use Rattle.cq_records.proofs.blanks.blank.Goals as goal

pub returns-clause-any_moment : goal.returns-clause-any_moment
returns-clause-any_moment g c = λ honest.
    let old = g.D.Device.seen c.args.device.now in
    let mid = g.D.Device.seen c.shut.new.device in
    let P : List ℕ → Type 0 = λ f. (frames f ≡ []) ⊎ (f ≡ old) in
    let honest_mid : IsTrue (g.D.Device.is_honest c.shut.new.device) = sym (c.sync.ensures.honest ∙ c.write_at.ensures.honest ∙ c.write_zeros.ensures.honest) ∙ honest in
    let shut : slice_index mid 0 ≢ 2 = c.in_ok-shut.ensures.shut honest_mid in
    let first : LeavesOnly g.D.Device.moment g.D.Device.left_since c.args.device.now c.shut.new.device P = c.shut.ensures.any_moment honest_mid in
    let second : LeavesOnly g.D.Device.moment g.D.Device.left_since c.shut.new.device c.write_zeros.new.device P =
    weakened g.D.Device.moment g.D.Device.left_since c.shut.new.device c.write_zeros.new.device (λ f. frames f ≡ []) P (c.write_zeros.ensures.any_moment shut) (λ f none. inl none) in
    let blanked = runs_on g.D.Device.moment g.D.Device.left_since c.args.device.now c.shut.new.device c.write_zeros.new.device P first second in
    let some : 0 < length mid = omega (arith, c.shut.ensures.length, c.len.ensures, c.if-len-eq0.false) in
    let last : (f : List ℕ) → g.D.Device.may_leave c.write_at.new.self f → P f = λ f now. let from = c.write_at.ensures.crash f now in
    inl (torn_last (g.D.Device.torn c.write_zeros.new.device) mid (g.D.Device.seen c.write_zeros.new.device) f c.in_ok-write_zeros.ensures.zeros some
    (subst (λ d. Torn (g.D.Device.torn c.write_zeros.new.device) 0 (0 ∷ []) d f) (c.in_ok-write_zeros.ensures.durable from.0 from.1) from.2)) in
    let wrote = goes_on g.D.Device.moment g.D.Device.left_since c.args.device.now c.write_zeros.new.device c.write_at.new.self P _ blanked c.write_at.ensures.time last in
    goes_on g.D.Device.moment g.D.Device.left_since c.args.device.now c.write_at.new.self c.sync.new.self P _ wrote c.sync.ensures.time (λ f now. last f (c.sync.ensures.crash f now))

pub returns-in_err-write_at-clause-any_moment : goal.returns-in_err-write_at-clause-any_moment
returns-in_err-write_at-clause-any_moment g c = λ honest.
    let old = g.D.Device.seen c.args.device.now in
    let mid = g.D.Device.seen c.shut.new.device in
    let P : List ℕ → Type 0 = λ f. (frames f ≡ []) ⊎ (f ≡ old) in
    let honest_mid : IsTrue (g.D.Device.is_honest c.shut.new.device) = sym (c.write_at.ensures.honest ∙ c.write_zeros.ensures.honest) ∙ honest in
    let shut : slice_index mid 0 ≢ 2 = c.in_ok-shut.ensures.shut honest_mid in
    let first : LeavesOnly g.D.Device.moment g.D.Device.left_since c.args.device.now c.shut.new.device P = c.shut.ensures.any_moment honest_mid in
    let second : LeavesOnly g.D.Device.moment g.D.Device.left_since c.shut.new.device c.write_zeros.new.device P =
    weakened g.D.Device.moment g.D.Device.left_since c.shut.new.device c.write_zeros.new.device (λ f. frames f ≡ []) P (c.write_zeros.ensures.any_moment shut) (λ f none. inl none) in
    let blanked = runs_on g.D.Device.moment g.D.Device.left_since c.args.device.now c.shut.new.device c.write_zeros.new.device P first second in
    let some : 0 < length mid = omega (arith, c.shut.ensures.length, c.len.ensures, c.if-len-eq0.false) in
    let last : (f : List ℕ) → g.D.Device.may_leave c.write_at.new.self f → P f = λ f now. let from = c.write_at.ensures.crash f now in
    inl (torn_last (g.D.Device.torn c.write_zeros.new.device) mid (g.D.Device.seen c.write_zeros.new.device) f c.in_ok-write_zeros.ensures.zeros some
    (subst (λ d. Torn (g.D.Device.torn c.write_zeros.new.device) 0 (0 ∷ []) d f) (c.in_ok-write_zeros.ensures.durable from.0 from.1) from.2)) in
    goes_on g.D.Device.moment g.D.Device.left_since c.args.device.now c.write_zeros.new.device c.write_at.new.self P _ blanked c.write_at.ensures.time last
