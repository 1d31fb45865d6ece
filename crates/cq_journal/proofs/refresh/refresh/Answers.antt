-- A range is read, and written over itself.
use Rattle.std.proofs.Common.{◌≡◌, inl, inr, ℕ, List, length, take, drop, refl, sym, ◌∙◌, ap, subst, arith}
use Rattle.std.proofs.lemmas.List.{take_at}
use Rattle.cq_disk.specs.declared.device.TornWrites.{TornWrites}
use Rattle.cq_disk.specs.declared.device.TornWrites.TheVariants.{OldOrNew}
use Rattle.cq_disk.specs.Device.{Torn}
use Rattle.cq_disk.specs.Region.{part}
use Rattle.cq_disk.proofs.Moments.{started, goes_on}
use Rattle.cq_journal.specs.within.Refreshed.{IsRefreshed}
use Rattle.cq_journal.proofs.Refreshed.{torn_same}
use Rattle.cq_journal.proofs.refresh.refresh.Goals as goal

pub returns-in_err-write_at-clause-seen : goal.returns-in_err-write_at-clause-seen
returns-in_err-write_at-clause-seen g c = λ honest.
    let d = g.D.Device in
    let old = d.seen c.args.device.now in
    let at = c.args.at in
    let len = c.args.len in
    let bytes = c.read_at.new.bytes in
    let asked : length c.deref_mut.result.now ≡ len = omega (arith, c.deref_mut.ensures.len, c.in_ok-bytes.ensures.len) in
    let read_is : bytes ≡ part at len old = c.in_ok-read_at.ensures.bytes (sym c.write_at.ensures.honest ∙ honest) ∙ ap (λ (n : ℕ). take n (drop at old)) asked in
    let long : length bytes ≡ c.in_ok-bytes.bytes.len = omega (arith, c.read_at.auto.bytes, c.deref_mut.ensures.len) in
    let written_is : c.deref.result.now ≡ part at len old =
    c.deref.ensures.value ∙ take_at bytes (drop (length bytes) c.in_ok-bytes.bytes.items) c.in_ok-bytes.bytes.len long ∙ read_is in
    let torn_is : d.torn c.read_at.new.self ≡ OldOrNew = c.read_at.ensures.torn ∙ c.requires.torn in
    torn_same at len old (d.seen c.write_at.new.self) c.requires.within
    (subst (λ (w : TornWrites). Torn w at (part at len old) old (d.seen c.write_at.new.self)) torn_is
    (subst (λ (bs : List ℕ). Torn (d.torn c.read_at.new.self) at bs old (d.seen c.write_at.new.self)) written_is
    (subst (λ (o : List ℕ). Torn (d.torn c.read_at.new.self) at c.deref.result.now o (d.seen c.write_at.new.self)) c.read_at.ensures.seen c.write_at.ensures.range)))

pub returns-clause-seen : goal.returns-clause-seen
returns-clause-seen g c = λ honest.
    let d = g.D.Device in
    let old = d.seen c.args.device.now in
    let at = c.args.at in
    let len = c.args.len in
    let bytes = c.read_at.new.bytes in
    let asked : length c.deref_mut.result.now ≡ len = omega (arith, c.deref_mut.ensures.len, c.in_ok-bytes.ensures.len) in
    let read_is : bytes ≡ part at len old = c.in_ok-read_at.ensures.bytes (sym c.write_at.ensures.honest ∙ (sym c.sync.ensures.honest ∙ honest)) ∙ ap (λ (n : ℕ). take n (drop at old)) asked in
    let long : length bytes ≡ c.in_ok-bytes.bytes.len = omega (arith, c.read_at.auto.bytes, c.deref_mut.ensures.len) in
    let written_is : c.deref.result.now ≡ part at len old =
    c.deref.ensures.value ∙ take_at bytes (drop (length bytes) c.in_ok-bytes.bytes.items) c.in_ok-bytes.bytes.len long ∙ read_is in
    let torn_is : d.torn c.read_at.new.self ≡ OldOrNew = c.read_at.ensures.torn ∙ c.requires.torn in
    c.sync.ensures.seen ∙ torn_same at len old (d.seen c.write_at.new.self) c.requires.within
    (subst (λ (w : TornWrites). Torn w at (part at len old) old (d.seen c.write_at.new.self)) torn_is
    (subst (λ (bs : List ℕ). Torn (d.torn c.read_at.new.self) at bs old (d.seen c.write_at.new.self)) written_is
    (subst (λ (o : List ℕ). Torn (d.torn c.read_at.new.self) at c.deref.result.now o (d.seen c.write_at.new.self)) c.read_at.ensures.seen c.write_at.ensures.range)))

pub returns-in_err-write_at-clause-any_moment : goal.returns-in_err-write_at-clause-any_moment
returns-in_err-write_at-clause-any_moment g c = λ honest.
    let d = g.D.Device in
    let device = c.args.device.now in
    let old = d.seen device in
    let at = c.args.at in
    let len = c.args.len in
    let bytes = c.read_at.new.bytes in
    let asked : length c.deref_mut.result.now ≡ len = omega (arith, c.deref_mut.ensures.len, c.in_ok-bytes.ensures.len) in
    let read_is : bytes ≡ part at len old = c.in_ok-read_at.ensures.bytes (sym c.write_at.ensures.honest ∙ honest) ∙ ap (λ (n : ℕ). take n (drop at old)) asked in
    let long : length bytes ≡ c.in_ok-bytes.bytes.len = omega (arith, c.read_at.auto.bytes, c.deref_mut.ensures.len) in
    let written_is : c.deref.result.now ≡ part at len old =
    c.deref.ensures.value ∙ take_at bytes (drop (length bytes) c.in_ok-bytes.bytes.items) c.in_ok-bytes.bytes.len long ∙ read_is in
    let torn_is : d.torn c.read_at.new.self ≡ OldOrNew = c.read_at.ensures.torn ∙ c.requires.torn in
    let P : List ℕ → Type 0 = IsRefreshed (d.may_leave device) at (part at len old) in
    let begun = started d.moment d.left_since device P (λ f left. (f, g.met.D.Device.only_now device f left, inl refl)) in
    let read = goes_on d.moment d.left_since device device c.read_at.new.self P _ begun c.read_at.ensures.time (λ f now. (f, c.read_at.ensures.crash f now, inl refl)) in
    goes_on d.moment d.left_since device c.read_at.new.self c.write_at.new.self P _ read c.write_at.ensures.time (λ f now.
    let from = c.write_at.ensures.crash f now in
    (from.0, c.read_at.ensures.crash from.0 from.1, inr (subst (λ (w : TornWrites). Torn w at (part at len old) from.0 f) torn_is (subst (λ (bs : List ℕ). Torn (d.torn c.read_at.new.self) at bs from.0 f) written_is from.2))))

pub returns-clause-any_moment : goal.returns-clause-any_moment
returns-clause-any_moment g c = λ honest.
    let d = g.D.Device in
    let device = c.args.device.now in
    let old = d.seen device in
    let at = c.args.at in
    let len = c.args.len in
    let bytes = c.read_at.new.bytes in
    let asked : length c.deref_mut.result.now ≡ len = omega (arith, c.deref_mut.ensures.len, c.in_ok-bytes.ensures.len) in
    let read_is : bytes ≡ part at len old = c.in_ok-read_at.ensures.bytes (sym c.write_at.ensures.honest ∙ (sym c.sync.ensures.honest ∙ honest)) ∙ ap (λ (n : ℕ). take n (drop at old)) asked in
    let long : length bytes ≡ c.in_ok-bytes.bytes.len = omega (arith, c.read_at.auto.bytes, c.deref_mut.ensures.len) in
    let written_is : c.deref.result.now ≡ part at len old =
    c.deref.ensures.value ∙ take_at bytes (drop (length bytes) c.in_ok-bytes.bytes.items) c.in_ok-bytes.bytes.len long ∙ read_is in
    let torn_is : d.torn c.read_at.new.self ≡ OldOrNew = c.read_at.ensures.torn ∙ c.requires.torn in
    let P : List ℕ → Type 0 = IsRefreshed (d.may_leave device) at (part at len old) in
    let begun = started d.moment d.left_since device P (λ f left. (f, g.met.D.Device.only_now device f left, inl refl)) in
    let read = goes_on d.moment d.left_since device device c.read_at.new.self P _ begun c.read_at.ensures.time (λ f now. (f, c.read_at.ensures.crash f now, inl refl)) in
    let crash : (f : List ℕ) → d.may_leave c.write_at.new.self f → P f = λ f now.
    let from = c.write_at.ensures.crash f now in
    (from.0, c.read_at.ensures.crash from.0 from.1, inr (subst (λ (w : TornWrites). Torn w at (part at len old) from.0 f) torn_is (subst (λ (bs : List ℕ). Torn (d.torn c.read_at.new.self) at bs from.0 f) written_is from.2))) in
    let wrote = goes_on d.moment d.left_since device c.read_at.new.self c.write_at.new.self P _ read c.write_at.ensures.time crash in
    goes_on d.moment d.left_since device c.write_at.new.self c.sync.new.self P _ wrote c.sync.ensures.time (λ f now. crash f (c.sync.ensures.crash f now))
