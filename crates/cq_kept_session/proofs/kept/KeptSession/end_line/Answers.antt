-- The line feed is kept, and then run.
use Rattle.std.proofs.Common.{[], ◌∷◌, refl}
use Rattle.cq_kept_session.specs.declared.kept.KeptSession.{KeptSession}
use Rattle.cq_kept_session.specs.Kept.{kept_bytes}
use Rattle.cq_kept_session.proofs.Runs.{kept_on, ran_before}
use Rattle.cq_kept_session.proofs.kept.KeptSession.end_line.Goals as goal

pub returns-clause-kept : goal.returns-clause-kept
returns-clause-kept g c =
    let old = c.args.self.now in
    let mid = c.keep.new.self in
    let new : KeptSession _ _ = record { alloc = mid.alloc; size = mid.size; journal = mid.journal; session = c.restore.new.self; ended = c.has_ended-self.result; highest = mid.highest; schedule = mid.schedule } in
    let e = c.keep.ensures in
    kept_on old mid new (10 ∷ []) refl c.requires e.same.0 e.same.1 e.same.2 c.in_ok-keep.ensures.records e.tries.honest refl refl c.in_ok-keep.ensures.journal
    (λ honest bytes stands. c.in_ok-restore.ensures mid.size bytes (ran_before old mid new (10 ∷ []) refl c.requires e.same.0 e.same.1 e.same.2 c.in_ok-keep.ensures.records e.tries.honest honest bytes stands))
    (c.has_ended-self.ensures (kept_bytes old))
