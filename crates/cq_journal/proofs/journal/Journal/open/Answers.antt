-- The root is read, and then the journal is recovered.
use Rattle.std.proofs.Common.{◌≡◌, ◌⊎◌, refl, inl, inr, ⊎_elim, List, ℕ, sym, ◌∙◌, ap, subst}
use Rattle.std.specs.Prelude.{Option, Some, IsTrue, MatchOption, ⊤}
use Rattle.cq_journal.specs.Roots.{HasSoundHalves}
use Rattle.cq_journal.specs.declared.opening.Found.{Found}
use Rattle.cq_disk.specs.Device.{LeavesOnly}
use Rattle.cq_disk.proofs.Moments.{runs_on, weakened}
use Rattle.cq_journal.specs.Journal.{journal_records}
use Rattle.cq_journal.specs.Regions.{kept}
use Rattle.std.proofs.Common.{rules}
use Rattle.std.specs.Prelude.{IsErrOf}
use Rattle.cq_records.specs.declared.fault.ReadFault.TheVariants.{Damaged as ReadDamaged}
use Rattle.cq_journal.specs.declared.fault.OpenFault.TheVariants.{Damaged, NoJournal}
use Rattle.cq_journal.specs.Intact.{IsIntact}
use Rattle.cq_journal.proofs.Intact.{at_lengths}
use Rattle.cq_journal.specs.Intact.{HasRoomBehind}
use Rattle.cq_journal.specs.declared.fault.OpenFault.TheVariants.{Full}
use Rattle.cq_journal.proofs.Rooms.{room_again, room_at_lengths}
use Rattle.cq_journal.proofs.journal.Journal.open.Goals as goal

pub returns-clause-any_moment : goal.returns-clause-any_moment
returns-clause-any_moment g c = λ honest.
    let d = g.D.Device in
    let device = c.args.device in
    let half = c.args.half in
    let len = c.args.len in
    let mid = c.read_root.new.region in
    let j = c.in_ok-journal.journal in
    let new = c.recover.new.self.root.log.device.device in
    let found = c.in_ok-journal.ensures.device in
    let device_is : j.root.log.device.device ≡ mid.device = found.0 ∙ c.at-root.ensures.device.0 in
    let half_is : j.root.log.device.len ≡ half = found.1 ∙ c.at-root.ensures.device.1 ∙ c.in_ok-found.ensures.place.1 in
    let len_is : j.len ≡ len = found.2 in
    let honest_found : IsTrue (d.is_honest j.root.log.device.device) = c.recover.ensures.honest honest in
    let honest_mid : IsTrue (d.is_honest mid.device) = subst (λ (x : g.row.D.Denot). IsTrue (d.is_honest x)) device_is honest_found in
    let seen_is : d.seen j.root.log.device.device ≡ d.seen device = ap d.seen device_is ∙ c.read_root.ensures.seen honest_mid in
    let records_are : kept half len (d.seen device) ≡ Some (journal_records j) = sym (λ i. kept (half_is i) (len_is i) (seen_is i)) ∙ c.in_ok-journal.ensures.kept honest_found in
    let P : List ℕ → Type 0 = λ f. d.may_leave device f ⊎ (kept half len f ≡ kept half len (d.seen device)) in
    let first : LeavesOnly d.moment d.left_since device mid.device P =
    weakened d.moment d.left_since device mid.device _ P (c.read_root.ensures.any_moment honest_mid) (λ f either. ⊎_elim (λ before. inl before) (λ same. inr (ap (kept half len) same)) either) in
    let second : LeavesOnly d.moment d.left_since j.root.log.device.device new P =
    weakened d.moment d.left_since j.root.log.device.device new _ P (c.recover.ensures.any_moment honest) (λ f is. inr (sym (λ i. kept (half_is i) (len_is i) f) ∙ (is ∙ sym records_are))) in
    runs_on d.moment d.left_since device mid.device new P first (subst (λ (x : g.row.D.Denot). LeavesOnly d.moment d.left_since x new P) device_is second)

pub returns-clause-intact : goal.returns-clause-intact
returns-clause-intact g c = λ honest i.
    let d = g.D.Device in
    let device = c.args.device in
    let half = c.args.half in
    let len = c.args.len in
    let mid = c.read_root.new.region in
    let j = c.in_ok-journal.journal in
    let new = c.recover.new.self.root.log.device.device in
    let found = c.in_ok-journal.ensures.device in
    let device_is : j.root.log.device.device ≡ mid.device = found.0 ∙ c.at-root.ensures.device.0 in
    let half_is : j.root.log.device.len ≡ half = found.1 ∙ c.at-root.ensures.device.1 ∙ c.in_ok-found.ensures.place.1 in
    let len_is : j.len ≡ len = found.2 in
    let honest_found : IsTrue (d.is_honest j.root.log.device.device) = c.recover.ensures.honest honest in
    let honest_mid : IsTrue (d.is_honest mid.device) = subst (λ (x : g.row.D.Denot). IsTrue (d.is_honest x)) device_is honest_found in
    let seen_is : d.seen j.root.log.device.device ≡ d.seen device = ap d.seen device_is ∙ c.read_root.ensures.seen honest_mid in
    let found_intact : IsIntact j.root.log.device.len j.len (d.seen j.root.log.device.device) =
    at_lengths j.root.log.device.len half j.len len (d.seen j.root.log.device.device) (sym half_is) (sym len_is) (subst (IsIntact half len) (sym seen_is) i) in
    let P : List ℕ → Type 0 = λ f. d.may_leave device f ⊎ IsIntact half len f in
    let first : LeavesOnly d.moment d.left_since device mid.device P =
    weakened d.moment d.left_since device mid.device _ P (c.read_root.ensures.any_moment honest_mid) (λ f either. ⊎_elim (λ before. inl before) (λ same. inr (subst (IsIntact half len) (sym same) i)) either) in
    let second : LeavesOnly d.moment d.left_since j.root.log.device.device new P =
    weakened d.moment d.left_since j.root.log.device.device new _ P (c.recover.ensures.intact honest found_intact) (λ f is. inr (at_lengths half j.root.log.device.len len j.len f half_is len_is is)) in
    runs_on d.moment d.left_since device mid.device new P first (subst (λ (x : g.row.D.Denot). LeavesOnly d.moment d.left_since x new P) device_is second)

pub returns-clause-stays : goal.returns-clause-stays
returns-clause-stays g c = λ honest i.
    let d = g.D.Device in
    let device = c.args.device in
    let half = c.args.half in
    let len = c.args.len in
    let mid = c.read_root.new.region in
    let j = c.in_ok-journal.journal in
    let new = c.recover.new.self.root.log.device.device in
    let found = c.in_ok-journal.ensures.device in
    let device_is : j.root.log.device.device ≡ mid.device = found.0 ∙ c.at-root.ensures.device.0 in
    let half_is : j.root.log.device.len ≡ half = found.1 ∙ c.at-root.ensures.device.1 ∙ c.in_ok-found.ensures.place.1 in
    let len_is : j.len ≡ len = found.2 in
    let honest_found : IsTrue (d.is_honest j.root.log.device.device) = c.recover.ensures.honest honest in
    let honest_mid : IsTrue (d.is_honest mid.device) = subst (λ (x : g.row.D.Denot). IsTrue (d.is_honest x)) device_is honest_found in
    let seen_is : d.seen j.root.log.device.device ≡ d.seen device = ap d.seen device_is ∙ c.read_root.ensures.seen honest_mid in
    let found_intact : IsIntact j.root.log.device.len j.len (d.seen j.root.log.device.device) =
    at_lengths j.root.log.device.len half j.len len (d.seen j.root.log.device.device) (sym half_is) (sym len_is) (subst (IsIntact half len) (sym seen_is) i) in
    at_lengths half j.root.log.device.len len j.len (d.seen new) half_is len_is (c.in_ok-recover.ensures.stays honest found_intact)

pub returns-in_err-found-clause-damaged : goal.returns-in_err-found-clause-damaged
returns-in_err-found-clause-damaged g c = λ err.
    let is : IsErrOf c.read_root.result ReadDamaged = search rules in
    (c.read_root.new.region.device, λ honest i. c.read_root.ensures.damaged is honest i.4.halves)

pub returns-in_default-clause-nothing : goal.returns-in_default-clause-nothing
returns-in_default-clause-nothing g c = λ err. (
  c.read_root.new.region.device,
  λ honest i. (subst (λ (o : Option Found). MatchOption o (IsTrue (g.D.Device.is_honest c.read_root.new.region.device) → HasSoundHalves c.args.half (g.D.Device.seen c.args.device) → ⊥) (λ _. ⊤)) c.in_default.is c.in_ok-found.ensures.none) honest i.4.halves,
)

pub returns-in_err-journal-clause-damaged : goal.returns-in_err-journal-clause-damaged
returns-in_err-journal-clause-damaged g c = λ err.
    let d = g.D.Device in
    let half = c.args.half in
    let len = c.args.len in
    let is : IsErrOf c.at.result Damaged = search rules in
    let root = c.at-root.result in
    let made = c.at-root.ensures.device in (
      c.read_root.new.region.device,
      λ honest i.
          let honest_root : IsTrue (d.is_honest root.log.device.device) = subst (λ (x : g.row.D.Denot). IsTrue (d.is_honest x)) (sym made.0) honest in
          let seen_is : d.seen root.log.device.device ≡ d.seen c.args.device = ap d.seen made.0 ∙ c.read_root.ensures.seen honest in
          let half_is : root.log.device.len ≡ half = made.1 ∙ c.in_ok-found.ensures.place.1 in
          c.at.ensures.damaged is honest_root (at_lengths root.log.device.len half len len (d.seen root.log.device.device) (sym half_is) refl (subst (IsIntact half len) (sym seen_is) i)),
    )

pub returns-in_err-recover-clause-damaged : goal.returns-in_err-recover-clause-damaged
returns-in_err-recover-clause-damaged g c = λ err.
    let is : IsErrOf c.recover.result Damaged = search rules in (
      c.recover.new.self.root.log.device.device,
      λ honest i.
          let d = g.D.Device in
          let device = c.args.device in
          let half = c.args.half in
          let len = c.args.len in
          let mid = c.read_root.new.region in
          let j = c.in_ok-journal.journal in
          let new = c.recover.new.self.root.log.device.device in
          let found = c.in_ok-journal.ensures.device in
          let device_is : j.root.log.device.device ≡ mid.device = found.0 ∙ c.at-root.ensures.device.0 in
          let half_is : j.root.log.device.len ≡ half = found.1 ∙ c.at-root.ensures.device.1 ∙ c.in_ok-found.ensures.place.1 in
          let len_is : j.len ≡ len = found.2 in
          let honest_found : IsTrue (d.is_honest j.root.log.device.device) = c.recover.ensures.honest honest in
          let honest_mid : IsTrue (d.is_honest mid.device) = subst (λ (x : g.row.D.Denot). IsTrue (d.is_honest x)) device_is honest_found in
          let seen_is : d.seen j.root.log.device.device ≡ d.seen device = ap d.seen device_is ∙ c.read_root.ensures.seen honest_mid in
          let found_intact : IsIntact j.root.log.device.len j.len (d.seen j.root.log.device.device) =
          at_lengths j.root.log.device.len half j.len len (d.seen j.root.log.device.device) (sym half_is) (sym len_is) (subst (IsIntact half len) (sym seen_is) i) in
          c.recover.ensures.refused is honest found_intact,
    )

pub returns-in_err-journal-clause-nothing : goal.returns-in_err-journal-clause-nothing
returns-in_err-journal-clause-nothing g c = λ err.
    let is : IsErrOf c.at.result NoJournal = search rules in
    absurd (c.at.ensures.nothing is)

pub returns-in_err-recover-clause-nothing : goal.returns-in_err-recover-clause-nothing
returns-in_err-recover-clause-nothing g c = λ err.
    let is : IsErrOf c.recover.result NoJournal = search rules in
    absurd (c.recover.ensures.nothing is)

pub returns-in_err-journal-clause-full : goal.returns-in_err-journal-clause-full
returns-in_err-journal-clause-full g c = λ err.
    let is : IsErrOf c.at.result Full = search rules in
    absurd (c.at.ensures.full is)

pub returns-in_err-recover-clause-full : goal.returns-in_err-recover-clause-full
returns-in_err-recover-clause-full g c = λ err.
    let is : IsErrOf c.recover.result Full = search rules in (
      c.recover.new.self.root.log.device.device,
      λ honest i.
          let d = g.D.Device in
          let half = c.args.half in
          let len = c.args.len in
          let mid = c.read_root.new.region in
          let j = c.in_ok-journal.journal in
          let found = c.in_ok-journal.ensures.device in
          let device_is : j.root.log.device.device ≡ mid.device = found.0 ∙ c.at-root.ensures.device.0 in
          let half_is : j.root.log.device.len ≡ half = found.1 ∙ c.at-root.ensures.device.1 ∙ c.in_ok-found.ensures.place.1 in
          let len_is : j.len ≡ len = found.2 in
          let honest_found : IsTrue (d.is_honest j.root.log.device.device) = c.recover.ensures.honest honest in
          let honest_mid : IsTrue (d.is_honest mid.device) = subst (λ (x : g.row.D.Denot). IsTrue (d.is_honest x)) device_is honest_found in
          let seen_is : d.seen j.root.log.device.device ≡ d.seen c.args.device = ap d.seen device_is ∙ c.read_root.ensures.seen honest_mid in
          c.recover.ensures.crowded is (room_again j c.in_ok-journal.ensures.regions honest_found
          (room_at_lengths half j.root.log.device.len len j.len (d.seen j.root.log.device.device) (sym half_is) (sym len_is) (subst (HasRoomBehind half len) (sym seen_is) i))),
    )
