-- The device is synced, and then only read.
use Rattle.std.proofs.Common.{◌≡◌, ◌⊎◌, inl, inr, List, ℕ, sym, ◌∙◌}
use Rattle.std.specs.Prelude.{Result, Ok, Err, OnOk}
use Rattle.cq_disk.specs.Device.{Only}
use Rattle.cq_disk.proofs.Moments.{started, goes_on, runs_on, weakened}
use Rattle.std.proofs.Common.{rules, ap}
use Rattle.std.specs.Prelude.{IsErrOf}
use Rattle.cq_disk.specs.Region.{part}
use Rattle.cq_records.specs.Frames.{frames, all_sound}
use Rattle.cq_records.specs.declared.fault.ReadFault.TheVariants.{Damaged}
use Rattle.cq_journal.specs.Found.{items_of}
use Rattle.cq_journal.specs.Roots.{number_in, half_of}
use Rattle.cq_journal.proofs.Refused.{not_both}
use Rattle.cq_journal.proofs.opening.find_root.Goals as goal

always : {T E P : Type 0} (r : Result T E) → P → OnOk r P
always (Ok x) p = p
always (Err e) p = tt

pub returns-clause-durable : goal.returns-clause-durable
returns-clause-durable g c =
    let only : Only (g.D.Device.seen c.sync.new.self) (g.D.Device.may_leave c.sync.new.self) = λ f left. c.in_ok-sync.ensures.durable f left ∙ sym c.sync.ensures.seen in
    always c.choose.result (c.read_half-2.ensures.durable (c.read_half.ensures.durable only))

pub returns-in_err-sync-clause-any_moment : goal.returns-in_err-sync-clause-any_moment
returns-in_err-sync-clause-any_moment g c =
    let d = g.D.Device in
    let device = c.args.region.now.device in
    let P : List ℕ → Type 0 = λ f. d.may_leave device f ⊎ (f ≡ d.seen device) in
    let begun = started d.moment d.left_since device P (λ f left. inl (g.met.D.Device.only_now device f left)) in
    let synced = goes_on d.moment d.left_since device device c.sync.new.self P _ begun c.sync.ensures.time (λ f now. inl (c.sync.ensures.crash f now)) in
    synced

pub returns-in_err-first-clause-any_moment : goal.returns-in_err-first-clause-any_moment
returns-in_err-first-clause-any_moment g c =
    let d = g.D.Device in
    let device = c.args.region.now.device in
    let P : List ℕ → Type 0 = λ f. d.may_leave device f ⊎ (f ≡ d.seen device) in
    let begun = started d.moment d.left_since device P (λ f left. inl (g.met.D.Device.only_now device f left)) in
    let synced = goes_on d.moment d.left_since device device c.sync.new.self P _ begun c.sync.ensures.time (λ f now. inl (c.sync.ensures.crash f now)) in
    let only : Only (d.seen c.sync.new.self) (d.may_leave c.sync.new.self) = λ f left. c.in_ok-sync.ensures.durable f left ∙ sym c.sync.ensures.seen in
    let first = runs_on d.moment d.left_since device c.sync.new.self c.read_half.new.region.device P synced
    (weakened d.moment d.left_since c.sync.new.self c.read_half.new.region.device _ P (c.read_half.ensures.any_moment only) (λ f is. inr (is ∙ c.sync.ensures.seen))) in
    first

pub returns-in_err-second-clause-any_moment : goal.returns-in_err-second-clause-any_moment
returns-in_err-second-clause-any_moment g c =
    let d = g.D.Device in
    let device = c.args.region.now.device in
    let P : List ℕ → Type 0 = λ f. d.may_leave device f ⊎ (f ≡ d.seen device) in
    let begun = started d.moment d.left_since device P (λ f left. inl (g.met.D.Device.only_now device f left)) in
    let synced = goes_on d.moment d.left_since device device c.sync.new.self P _ begun c.sync.ensures.time (λ f now. inl (c.sync.ensures.crash f now)) in
    let only : Only (d.seen c.sync.new.self) (d.may_leave c.sync.new.self) = λ f left. c.in_ok-sync.ensures.durable f left ∙ sym c.sync.ensures.seen in
    let first = runs_on d.moment d.left_since device c.sync.new.self c.read_half.new.region.device P synced
    (weakened d.moment d.left_since c.sync.new.self c.read_half.new.region.device _ P (c.read_half.ensures.any_moment only) (λ f is. inr (is ∙ c.sync.ensures.seen))) in
    runs_on d.moment d.left_since device c.read_half.new.region.device c.read_half-2.new.region.device P first
    (weakened d.moment d.left_since c.read_half.new.region.device c.read_half-2.new.region.device _ P (c.read_half-2.ensures.any_moment (c.read_half.ensures.durable only)) (λ f is. inr (is ∙ (c.read_half.ensures.seen ∙ c.sync.ensures.seen))))

pub returns-clause-any_moment : goal.returns-clause-any_moment
returns-clause-any_moment g c =
    let d = g.D.Device in
    let device = c.args.region.now.device in
    let P : List ℕ → Type 0 = λ f. d.may_leave device f ⊎ (f ≡ d.seen device) in
    let begun = started d.moment d.left_since device P (λ f left. inl (g.met.D.Device.only_now device f left)) in
    let synced = goes_on d.moment d.left_since device device c.sync.new.self P _ begun c.sync.ensures.time (λ f now. inl (c.sync.ensures.crash f now)) in
    let only : Only (d.seen c.sync.new.self) (d.may_leave c.sync.new.self) = λ f left. c.in_ok-sync.ensures.durable f left ∙ sym c.sync.ensures.seen in
    let first = runs_on d.moment d.left_since device c.sync.new.self c.read_half.new.region.device P synced
    (weakened d.moment d.left_since c.sync.new.self c.read_half.new.region.device _ P (c.read_half.ensures.any_moment only) (λ f is. inr (is ∙ c.sync.ensures.seen))) in
    runs_on d.moment d.left_since device c.read_half.new.region.device c.read_half-2.new.region.device P first
    (weakened d.moment d.left_since c.read_half.new.region.device c.read_half-2.new.region.device _ P (c.read_half-2.ensures.any_moment (c.read_half.ensures.durable only)) (λ f is. inr (is ∙ (c.read_half.ensures.seen ∙ c.sync.ensures.seen))))

pub returns-in_err-first-clause-damaged : goal.returns-in_err-first-clause-damaged
returns-in_err-first-clause-damaged g c = λ err honest halves.
    let r = c.args.region.now in
    let is : IsErrOf c.read_half.result Damaged = search rules in
    not_both halves.first (sym (λ i. all_sound (frames (part (c.requires.start i) r.len (c.sync.ensures.seen i)))) ∙ c.read_half.ensures.damaged is honest)

pub returns-in_err-second-clause-damaged : goal.returns-in_err-second-clause-damaged
returns-in_err-second-clause-damaged g c = λ err honest halves.
    let place = c.read_half.ensures.place in
    let is : IsErrOf c.read_half-2.result Damaged = search rules in
    not_both halves.second (sym (λ i. all_sound (frames (part (place.1 i) (place.1 i) ((c.read_half.ensures.seen ∙ c.sync.ensures.seen) i)))) ∙ c.read_half-2.ensures.damaged is honest)

pub returns-clause-damaged : goal.returns-clause-damaged
returns-clause-damaged g c = λ err honest halves.
    let r = c.args.region.now in
    let place = c.read_half.ensures.place in
    let first : half_of 0 r.len (g.D.Device.seen r.device) ≡ items_of c.in_ok-first.first =
    sym (λ i. half_of (c.requires.start i) r.len (c.sync.ensures.seen i)) ∙ c.in_ok-first.ensures.half (c.read_half-2.ensures.honest honest) in
    let second : half_of r.len r.len (g.D.Device.seen r.device) ≡ items_of c.in_ok-second.second =
    sym (λ i. half_of (place.1 i) (place.1 i) ((c.read_half.ensures.seen ∙ c.sync.ensures.seen) i)) ∙ c.in_ok-second.ensures.half honest in
    halves.differ (ap number_in first ∙ c.choose.ensures.damaged err ∙ sym (ap number_in second))
