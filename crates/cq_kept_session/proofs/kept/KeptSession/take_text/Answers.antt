-- The chunk is kept, and then told.
use Rattle.std.proofs.Common.{[], ◌∷◌, sym, subst}
use Rattle.cq_journal.specs.Changes.{adds}
use Rattle.cq_journal.specs.Histories.{Tries}
use Rattle.cq_journal.specs.Journal.{IsJournal}
use Rattle.cq_kept_session.specs.Kept.{kept_bytes}
use Rattle.cq_kept_session.proofs.Runs.{honest_on, kept_on, ran_before, records_on, settled, stands_on, told_all, told_so_far}
use Rattle.cq_kept_session.proofs.kept.KeptSession.take_text.Goals as goal

pub tell-requires : goal.tell-requires
tell-requires g c =
    let old = c.args.self.now in
    let mid = c.keep.new.self in
    let e = c.keep.ensures in
    record { settled = settled old mid mid c.args.chunk.now c.requires.unmarked c.requires.kept e.same.0 e.same.1 e.same.2 c.in_ok-keep.ensures.records e.tries.honest c.in_ok-keep.ensures.journal }

pub returns-in-Ok-clause-kept : goal.returns-in-Ok-clause-kept
returns-in-Ok-clause-kept g c =
    let old = c.args.self.now in
    let mid = c.keep.new.self in
    let new = c.tell.new.session in
    let e = c.keep.ensures in
    let t = c.tell.ensures in
    kept_on old mid new c.args.chunk.now c.requires.unmarked c.requires.kept e.same.0 e.same.1 e.same.2 c.in_ok-keep.ensures.records e.tries.honest t.same.0 t.same.1 c.in_ok-keep.ensures.journal
    (λ honest bytes stands. c.in-Ok.ensures.runs bytes (ran_before old mid new c.args.chunk.now c.requires.unmarked c.requires.kept e.same.0 e.same.1 e.same.2 c.in_ok-keep.ensures.records e.tries.honest honest bytes stands))
    (t.ended (kept_bytes old))

pub returns-in-Ok-clause-records : goal.returns-in-Ok-clause-records
returns-in-Ok-clause-records g c =
    let e = c.keep.ensures in
    records_on c.args.self.now c.keep.new.self c.tell.new.session c.args.chunk.now c.requires.unmarked c.requires.kept e.same.0 e.same.1 e.same.2 c.in_ok-keep.ensures.records e.tries.honest c.tell.ensures.same.0 c.tell.ensures.same.1

pub returns-in-Ok-clause-stands : goal.returns-in-Ok-clause-stands
returns-in-Ok-clause-stands g c = λ honest.
    let e = c.keep.ensures in
    let t = c.tell.ensures in
    stands_on c.args.self.now c.keep.new.self c.tell.new.session c.args.chunk.now c.requires.unmarked c.requires.kept e.same.0 e.same.1 e.same.2 c.in_ok-keep.ensures.records e.tries.honest t.same.0 t.same.1

pub returns-in-Ok-clause-told : goal.returns-in-Ok-clause-told
returns-in-Ok-clause-told g c = λ honest bytes stands.
    let old = c.args.self.now in
    let mid = c.keep.new.self in
    let new = c.tell.new.session in
    let e = c.keep.ensures in
    let t = c.tell.ensures in
    let honest_mid = honest_on old mid new c.args.chunk.now c.requires.unmarked c.requires.kept e.same.0 e.same.1 e.same.2 c.in_ok-keep.ensures.records e.tries.honest t.same.0 t.same.1 honest in
    let ran = ran_before old mid new c.args.chunk.now c.requires.unmarked c.requires.kept e.same.0 e.same.1 e.same.2 c.in_ok-keep.ensures.records e.tries.honest honest_mid bytes stands in
    let w = c.in-Ok.ensures.writes bytes ran in (
      w.0,
      w.1,
      told_so_far old mid new c.args.chunk.now c.requires.unmarked c.requires.kept e.same.0 e.same.1 e.same.2 c.in_ok-keep.ensures.records e.tries.honest t.same.0 t.same.1 bytes w.0 w.2,
      told_all old mid new c.args.chunk.now c.requires.unmarked c.requires.kept e.same.0 e.same.1 e.same.2 c.in_ok-keep.ensures.records e.tries.honest t.same.0 t.same.1 bytes w.0 w.3,
    )

pub returns-in-Ok-clause-tries : goal.returns-in-Ok-clause-tries
returns-in-Ok-clause-tries g c = subst (λ j. Tries (adds (c.args.chunk.now ∷ [])) c.args.self.now.journal j) (sym c.tell.ensures.same.0) c.keep.ensures.tries

pub returns-in-Err-clause-records : goal.returns-in-Err-clause-records
returns-in-Err-clause-records g c =
    let e = c.keep.ensures in
    records_on c.args.self.now c.keep.new.self c.tell.new.session c.args.chunk.now c.requires.unmarked c.requires.kept e.same.0 e.same.1 e.same.2 c.in_ok-keep.ensures.records e.tries.honest c.tell.ensures.same.0 c.tell.ensures.same.1

pub returns-in-Err-clause-stands : goal.returns-in-Err-clause-stands
returns-in-Err-clause-stands g c = λ honest.
    let e = c.keep.ensures in
    let t = c.tell.ensures in
    stands_on c.args.self.now c.keep.new.self c.tell.new.session c.args.chunk.now c.requires.unmarked c.requires.kept e.same.0 e.same.1 e.same.2 c.in_ok-keep.ensures.records e.tries.honest t.same.0 t.same.1

pub returns-in-Err-clause-told : goal.returns-in-Err-clause-told
returns-in-Err-clause-told g c = λ honest bytes stands.
    let old = c.args.self.now in
    let mid = c.keep.new.self in
    let new = c.tell.new.session in
    let e = c.keep.ensures in
    let t = c.tell.ensures in
    let honest_mid = honest_on old mid new c.args.chunk.now c.requires.unmarked c.requires.kept e.same.0 e.same.1 e.same.2 c.in_ok-keep.ensures.records e.tries.honest t.same.0 t.same.1 honest in
    let ran = ran_before old mid new c.args.chunk.now c.requires.unmarked c.requires.kept e.same.0 e.same.1 e.same.2 c.in_ok-keep.ensures.records e.tries.honest honest_mid bytes stands in
    let w = c.in-Err.ensures.writes bytes ran in (
      w.0,
      w.1,
      told_so_far old mid new c.args.chunk.now c.requires.unmarked c.requires.kept e.same.0 e.same.1 e.same.2 c.in_ok-keep.ensures.records e.tries.honest t.same.0 t.same.1 bytes w.0 w.2,
      tt,
    )

pub returns-in-Err-clause-tries : goal.returns-in-Err-clause-tries
returns-in-Err-clause-tries g c = subst (λ j. Tries (adds (c.args.chunk.now ∷ [])) c.args.self.now.journal j) (sym c.tell.ensures.same.0) c.keep.ensures.tries

pub returns-in-Ok-clause-journal : goal.returns-in-Ok-clause-journal
returns-in-Ok-clause-journal g c = subst (λ j. IsJournal j) (sym c.tell.ensures.same.0) c.in_ok-keep.ensures.journal

pub returns-in-Err-clause-journal : goal.returns-in-Err-clause-journal
returns-in-Err-clause-journal g c = subst (λ j. IsJournal j) (sym c.tell.ensures.same.0) c.in_ok-keep.ensures.journal
