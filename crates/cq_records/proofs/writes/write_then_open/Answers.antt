use Rattle.std.proofs.Common.{◌≡◌, List, ℕ, ◌+◌, ◌-◌, ◌<◌, ◌∙◌, length, take, drop, sym, subst, arith, length-drop}
use Rattle.std.proofs.lemmas.List.{take_all}
use Rattle.std.proofs.lemmas.Bool.{eqb-false}
use Rattle.std.proofs.lemmas.Result.{on_ok_weaker}
use Rattle.cq_disk.specs.Device.{Torn, Overlaid}
use Rattle.cq_disk.proofs.Moments.{started, goes_on}
use Rattle.cq_records.specs.Frames.{frames}
use Rattle.cq_records.specs.Layout.{IsPrefixOf}
use Rattle.cq_records.proofs.Commits.{not_old_or_new, at_start, torn_behind, torn_gate, opened, stands, new_log}
use Rattle.cq_records.proofs.writes.write_then_open.Goals as goal

tail_is : (bytes : List ℕ) → take (length bytes - 1) (drop 1 bytes) ≡ drop 1 bytes
tail_is bytes = take_all (length bytes - 1) (drop 1 bytes) (omega (arith, length-drop 1 bytes))

pub returns-in_err-write_at-clause-any_moment : goal.returns-in_err-write_at-clause-any_moment
returns-in_err-write_at-clause-any_moment g c =
    let seen = g.D.Device.seen c.args.device.now in
    let torn = g.D.Device.torn c.args.device.now in
    let r = c.requires in
    let P = IsPrefixOf torn (frames seen) (frames c.args.batch.now) in
    let begun = started g.D.Device.moment g.D.Device.left_since c.args.device.now P (λ f left. at_start seen c.args.batch.now c.args.end r.log r.batch r.room torn f (r.durable f (g.met.D.Device.only_now c.args.device.now f left))) in
    let some : 0 < length c.args.batch.now = omega (arith, eqb-false (length c.args.batch.now) 0 (sym c.is_empty.ensures ∙ c.if-is_empty.false)) in
    let crash : (f : List ℕ) → g.D.Device.may_leave c.write_at.new.self f → P f = λ f now. let from = c.write_at.ensures.crash f now in
    torn_behind seen c.args.batch.now c.args.end r.log r.batch r.room some torn (not_old_or_new torn r.torn) torn f (subst (λ o. Torn torn (c.args.end + 1) (drop 1 c.args.batch.now) o f) (r.durable from.0 from.1) (subst (λ l. Torn torn (c.args.end + 1) l from.0 f) (tail_is c.args.batch.now) from.2)) in
    let wrote = goes_on g.D.Device.moment g.D.Device.left_since c.args.device.now c.args.device.now c.write_at.new.self P _ begun c.write_at.ensures.time crash in
    wrote

pub returns-in_err-sync-clause-any_moment : goal.returns-in_err-sync-clause-any_moment
returns-in_err-sync-clause-any_moment g c =
    let seen = g.D.Device.seen c.args.device.now in
    let torn = g.D.Device.torn c.args.device.now in
    let r = c.requires in
    let P = IsPrefixOf torn (frames seen) (frames c.args.batch.now) in
    let begun = started g.D.Device.moment g.D.Device.left_since c.args.device.now P (λ f left. at_start seen c.args.batch.now c.args.end r.log r.batch r.room torn f (r.durable f (g.met.D.Device.only_now c.args.device.now f left))) in
    let some : 0 < length c.args.batch.now = omega (arith, eqb-false (length c.args.batch.now) 0 (sym c.is_empty.ensures ∙ c.if-is_empty.false)) in
    let crash : (f : List ℕ) → g.D.Device.may_leave c.write_at.new.self f → P f = λ f now. let from = c.write_at.ensures.crash f now in
    torn_behind seen c.args.batch.now c.args.end r.log r.batch r.room some torn (not_old_or_new torn r.torn) torn f (subst (λ o. Torn torn (c.args.end + 1) (drop 1 c.args.batch.now) o f) (r.durable from.0 from.1) (subst (λ l. Torn torn (c.args.end + 1) l from.0 f) (tail_is c.args.batch.now) from.2)) in
    let wrote = goes_on g.D.Device.moment g.D.Device.left_since c.args.device.now c.args.device.now c.write_at.new.self P _ begun c.write_at.ensures.time crash in
    let synced = goes_on g.D.Device.moment g.D.Device.left_since c.args.device.now c.write_at.new.self c.sync.new.self P _ wrote c.sync.ensures.time (λ f now. crash f (c.sync.ensures.crash f now)) in
    synced

pub returns-in_err-write_at-2-clause-any_moment : goal.returns-in_err-write_at-2-clause-any_moment
returns-in_err-write_at-2-clause-any_moment g c =
    let seen = g.D.Device.seen c.args.device.now in
    let torn = g.D.Device.torn c.args.device.now in
    let r = c.requires in
    let P = IsPrefixOf torn (frames seen) (frames c.args.batch.now) in
    let begun = started g.D.Device.moment g.D.Device.left_since c.args.device.now P (λ f left. at_start seen c.args.batch.now c.args.end r.log r.batch r.room torn f (r.durable f (g.met.D.Device.only_now c.args.device.now f left))) in
    let some : 0 < length c.args.batch.now = omega (arith, eqb-false (length c.args.batch.now) 0 (sym c.is_empty.ensures ∙ c.if-is_empty.false)) in
    let crash : (f : List ℕ) → g.D.Device.may_leave c.write_at.new.self f → P f = λ f now. let from = c.write_at.ensures.crash f now in
    torn_behind seen c.args.batch.now c.args.end r.log r.batch r.room some torn (not_old_or_new torn r.torn) torn f (subst (λ o. Torn torn (c.args.end + 1) (drop 1 c.args.batch.now) o f) (r.durable from.0 from.1) (subst (λ l. Torn torn (c.args.end + 1) l from.0 f) (tail_is c.args.batch.now) from.2)) in
    let wrote = goes_on g.D.Device.moment g.D.Device.left_since c.args.device.now c.args.device.now c.write_at.new.self P _ begun c.write_at.ensures.time crash in
    let synced = goes_on g.D.Device.moment g.D.Device.left_since c.args.device.now c.write_at.new.self c.sync.new.self P _ wrote c.sync.ensures.time (λ f now. crash f (c.sync.ensures.crash f now)) in
    let mid = g.D.Device.seen c.write_at.new.self in
    let torn_mid = g.D.Device.torn c.sync.new.self in
    let is_mid = subst (λ l. Overlaid seen (c.args.end + 1) l mid) (tail_is c.args.batch.now) c.in_ok-write_at.ensures.written in
    let crash_2 : (f : List ℕ) → g.D.Device.may_leave c.write_at-2.new.self f → P f = λ f now. let from = c.write_at-2.ensures.crash f now in
    torn_gate seen c.args.batch.now c.args.end r.log r.batch r.room some mid is_mid torn (not_old_or_new torn r.torn) torn_mid f (subst (λ o. Torn torn_mid c.args.end (take 1 c.args.batch.now) o f) (c.in_ok-sync.ensures.durable from.0 from.1) from.2) in
    let opened_to = goes_on g.D.Device.moment g.D.Device.left_since c.args.device.now c.sync.new.self c.write_at-2.new.self P _ synced c.write_at-2.ensures.time crash_2 in
    opened_to

pub returns-clause-any_moment : goal.returns-clause-any_moment
returns-clause-any_moment g c =
    let seen = g.D.Device.seen c.args.device.now in
    let torn = g.D.Device.torn c.args.device.now in
    let r = c.requires in
    let P = IsPrefixOf torn (frames seen) (frames c.args.batch.now) in
    let begun = started g.D.Device.moment g.D.Device.left_since c.args.device.now P (λ f left. at_start seen c.args.batch.now c.args.end r.log r.batch r.room torn f (r.durable f (g.met.D.Device.only_now c.args.device.now f left))) in
    let some : 0 < length c.args.batch.now = omega (arith, eqb-false (length c.args.batch.now) 0 (sym c.is_empty.ensures ∙ c.if-is_empty.false)) in
    let crash : (f : List ℕ) → g.D.Device.may_leave c.write_at.new.self f → P f = λ f now. let from = c.write_at.ensures.crash f now in
    torn_behind seen c.args.batch.now c.args.end r.log r.batch r.room some torn (not_old_or_new torn r.torn) torn f (subst (λ o. Torn torn (c.args.end + 1) (drop 1 c.args.batch.now) o f) (r.durable from.0 from.1) (subst (λ l. Torn torn (c.args.end + 1) l from.0 f) (tail_is c.args.batch.now) from.2)) in
    let wrote = goes_on g.D.Device.moment g.D.Device.left_since c.args.device.now c.args.device.now c.write_at.new.self P _ begun c.write_at.ensures.time crash in
    let synced = goes_on g.D.Device.moment g.D.Device.left_since c.args.device.now c.write_at.new.self c.sync.new.self P _ wrote c.sync.ensures.time (λ f now. crash f (c.sync.ensures.crash f now)) in
    let mid = g.D.Device.seen c.write_at.new.self in
    let torn_mid = g.D.Device.torn c.sync.new.self in
    let is_mid = subst (λ l. Overlaid seen (c.args.end + 1) l mid) (tail_is c.args.batch.now) c.in_ok-write_at.ensures.written in
    let crash_2 : (f : List ℕ) → g.D.Device.may_leave c.write_at-2.new.self f → P f = λ f now. let from = c.write_at-2.ensures.crash f now in
    torn_gate seen c.args.batch.now c.args.end r.log r.batch r.room some mid is_mid torn (not_old_or_new torn r.torn) torn_mid f (subst (λ o. Torn torn_mid c.args.end (take 1 c.args.batch.now) o f) (c.in_ok-sync.ensures.durable from.0 from.1) from.2) in
    let opened_to = goes_on g.D.Device.moment g.D.Device.left_since c.args.device.now c.sync.new.self c.write_at-2.new.self P _ synced c.write_at-2.ensures.time crash_2 in
    goes_on g.D.Device.moment g.D.Device.left_since c.args.device.now c.write_at-2.new.self c.sync-2.new.self P _ opened_to c.sync-2.ensures.time (λ f now. crash_2 f (c.sync-2.ensures.crash f now))

pub returns-clause-log : goal.returns-clause-log
returns-clause-log g c =
    let seen = g.D.Device.seen c.args.device.now in
    let r = c.requires in
    let some : 0 < length c.args.batch.now = omega (arith, eqb-false (length c.args.batch.now) 0 (sym c.is_empty.ensures ∙ c.if-is_empty.false)) in
    let mid = g.D.Device.seen c.write_at.new.self in
    let written = subst (λ o. Overlaid o c.args.end (take 1 c.args.batch.now) (g.D.Device.seen c.write_at-2.new.self)) c.sync.ensures.seen c.in_ok-write_at-2.ensures.written in
    let is = c.sync-2.ensures.seen ∙ opened seen c.args.batch.now c.args.end r.log r.batch r.room some mid (subst (λ l. Overlaid seen (c.args.end + 1) l mid) (tail_is c.args.batch.now) c.in_ok-write_at.ensures.written) _ written in
    on_ok_weaker c.sync-2.result (λ _. new_log seen c.args.batch.now c.args.end r.log r.batch r.room _ is) c.sync-2.ensures.durable

pub returns-clause-frames : goal.returns-clause-frames
returns-clause-frames g c =
    let seen = g.D.Device.seen c.args.device.now in
    let r = c.requires in
    let some : 0 < length c.args.batch.now = omega (arith, eqb-false (length c.args.batch.now) 0 (sym c.is_empty.ensures ∙ c.if-is_empty.false)) in
    let mid = g.D.Device.seen c.write_at.new.self in
    let written = subst (λ o. Overlaid o c.args.end (take 1 c.args.batch.now) (g.D.Device.seen c.write_at-2.new.self)) c.sync.ensures.seen c.in_ok-write_at-2.ensures.written in
    let is = c.sync-2.ensures.seen ∙ opened seen c.args.batch.now c.args.end r.log r.batch r.room some mid (subst (λ l. Overlaid seen (c.args.end + 1) l mid) (tail_is c.args.batch.now) c.in_ok-write_at.ensures.written) _ written in
    on_ok_weaker c.sync-2.result (λ _. stands seen c.args.batch.now c.args.end r.log r.batch r.room _ is) c.sync-2.ensures.durable
