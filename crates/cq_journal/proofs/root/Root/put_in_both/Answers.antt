-- A root that is put into one half, and then into the other one.
use Rattle.std.proofs.Common.{◌≡◌, ℕ, ◌+◌, List, subst}
use Rattle.std.proofs.lemmas.Result.{on_ok_weaker}
use Rattle.std.specs.Prelude.{Some}
use Rattle.cq_disk.proofs.Moments.{weakened, runs_on}
use Rattle.cq_journal.specs.Roots.{root_of, numbered, IsOldOrNew, IsOldOrPut}
use Rattle.cq_journal.proofs.Puts.{put_once, put_again}
use Rattle.cq_journal.proofs.root.Root.put_in_both.Goals as goal

pub returns-then-not-has_room-2-clause-any_moment : goal.returns-then-not-has_room-2-clause-any_moment
returns-then-not-has_room-2-clause-any_moment g c = λ honest.
    let d = g.D.Device in
    let r = c.args.self.now in
    let device = r.log.device.device in
    let h = r.log.device.len in
    let text = c.args.text.now in
    let small = (c.has_room.ensures.room c.if-not-has_room.false).0 in
    weakened d.moment d.left_since device c.put.new.self.log.device.device _ (IsOldOrPut h (d.seen device) text) (c.put.ensures.any_moment honest)
    (put_once h (d.seen device) text (r.number + 1) small)

pub returns-clause-shown : goal.returns-clause-shown
returns-clause-shown g c =
    let d = g.D.Device in
    let r = c.args.self.now in
    let mid = c.put.new.self in
    let h = r.log.device.len in
    let text = c.args.text.now in
    let fin = d.seen c.put-2.new.self.log.device.device in
    let ok = c.in_ok-put.ensures in
    on_ok_weaker c.put-2.result (λ shown honest.
    let honest_mid = c.put-2.ensures.honest honest in
    put_again h (d.seen r.log.device.device) text (r.number + 1) (c.has_room.ensures.room c.if-not-has_room.false).0 (d.seen mid.log.device.device) (ok.shown honest_mid)
    (subst (λ (k : ℕ). root_of k (d.seen mid.log.device.device) ≡ Some (numbered (r.number + 1) text)) ok.half (ok.text honest_mid))
    (mid.number + 1) (c.has_room-2.ensures.room c.if-not-has_room-2.false).0 fin
    (subst (λ (k : ℕ). IsOldOrNew k (d.seen mid.log.device.device) (numbered (mid.number + 1) text) fin) ok.half (shown honest))) c.put-2.ensures.shown

pub returns-clause-any_moment : goal.returns-clause-any_moment
returns-clause-any_moment g c = λ honest.
    let d = g.D.Device in
    let r = c.args.self.now in
    let mid = c.put.new.self in
    let device = r.log.device.device in
    let h = r.log.device.len in
    let text = c.args.text.now in
    let ok = c.in_ok-put.ensures in
    let honest_mid = c.put-2.ensures.honest honest in
    let small = (c.has_room.ensures.room c.if-not-has_room.false).0 in
    let P : List ℕ → Type 0 = IsOldOrPut h (d.seen device) text in
    runs_on d.moment d.left_since device mid.log.device.device c.put-2.new.self.log.device.device P
    (weakened d.moment d.left_since device mid.log.device.device _ P (c.put.ensures.any_moment honest_mid) (put_once h (d.seen device) text (r.number + 1) small))
    (weakened d.moment d.left_since mid.log.device.device c.put-2.new.self.log.device.device _ P (c.put-2.ensures.any_moment honest) (λ f either.
    put_again h (d.seen device) text (r.number + 1) small (d.seen mid.log.device.device) (ok.shown honest_mid)
    (subst (λ (k : ℕ). root_of k (d.seen mid.log.device.device) ≡ Some (numbered (r.number + 1) text)) ok.half (ok.text honest_mid))
    (mid.number + 1) (c.has_room-2.ensures.room c.if-not-has_room-2.false).0 f
    (subst (λ (k : ℕ). IsOldOrNew k (d.seen mid.log.device.device) (numbered (mid.number + 1) text) f) ok.half either)))
