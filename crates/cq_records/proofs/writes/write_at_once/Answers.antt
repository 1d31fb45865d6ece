use Rattle.std.proofs.Common.{List, ℕ, ◌∙◌, subst}
use Rattle.std.proofs.lemmas.Result.{on_ok_weaker}
use Rattle.cq_disk.specs.Device.{Torn}
use Rattle.cq_disk.proofs.Moments.{started, goes_on}
use Rattle.cq_records.specs.Frames.{frames}
use Rattle.cq_records.specs.Layout.{IsPrefixOf}
use Rattle.cq_records.proofs.Commits.{at_start, at_once, torn_at_once, stands, new_log}
use Rattle.cq_records.proofs.writes.write_at_once.Goals as goal

pub returns-in_err-write_at-clause-any_moment : goal.returns-in_err-write_at-clause-any_moment
returns-in_err-write_at-clause-any_moment g c =
    let seen = g.D.Device.seen c.args.device.now in
    let torn = g.D.Device.torn c.args.device.now in
    let r = c.requires in
    let P = IsPrefixOf torn (frames seen) (frames c.args.batch.now) in
    let begun = started g.D.Device.moment g.D.Device.left_since c.args.device.now P (λ f left. at_start seen c.args.batch.now c.args.end r.log r.batch r.room torn f (r.durable f (g.met.D.Device.only_now c.args.device.now f left))) in
    let crash : (f : List ℕ) → g.D.Device.may_leave c.write_at.new.self f → P f = λ f now. let from = c.write_at.ensures.crash f now in
    torn_at_once seen c.args.batch.now c.args.end r.log r.batch r.room torn r.torn f (subst (λ o. Torn torn c.args.end c.args.batch.now o f) (r.durable from.0 from.1) from.2) in
    goes_on g.D.Device.moment g.D.Device.left_since c.args.device.now c.args.device.now c.write_at.new.self P _ begun c.write_at.ensures.time crash

pub returns-clause-log : goal.returns-clause-log
returns-clause-log g c =
    let seen = g.D.Device.seen c.args.device.now in
    let r = c.requires in
    let is = c.sync.ensures.seen ∙ at_once seen c.args.batch.now c.args.end r.log r.batch r.room _ c.in_ok-write_at.ensures.written in
    on_ok_weaker c.sync.result (λ _. new_log seen c.args.batch.now c.args.end r.log r.batch r.room _ is) c.sync.ensures.durable

pub returns-clause-frames : goal.returns-clause-frames
returns-clause-frames g c =
    let seen = g.D.Device.seen c.args.device.now in
    let r = c.requires in
    let is = c.sync.ensures.seen ∙ at_once seen c.args.batch.now c.args.end r.log r.batch r.room _ c.in_ok-write_at.ensures.written in
    on_ok_weaker c.sync.result (λ _. stands seen c.args.batch.now c.args.end r.log r.batch r.room _ is) c.sync.ensures.durable

pub returns-clause-any_moment : goal.returns-clause-any_moment
returns-clause-any_moment g c =
    let seen = g.D.Device.seen c.args.device.now in
    let torn = g.D.Device.torn c.args.device.now in
    let r = c.requires in
    let P = IsPrefixOf torn (frames seen) (frames c.args.batch.now) in
    let begun = started g.D.Device.moment g.D.Device.left_since c.args.device.now P (λ f left. at_start seen c.args.batch.now c.args.end r.log r.batch r.room torn f (r.durable f (g.met.D.Device.only_now c.args.device.now f left))) in
    let crash : (f : List ℕ) → g.D.Device.may_leave c.write_at.new.self f → P f = λ f now. let from = c.write_at.ensures.crash f now in
    torn_at_once seen c.args.batch.now c.args.end r.log r.batch r.room torn r.torn f (subst (λ o. Torn torn c.args.end c.args.batch.now o f) (r.durable from.0 from.1) from.2) in
    let wrote = goes_on g.D.Device.moment g.D.Device.left_since c.args.device.now c.args.device.now c.write_at.new.self P _ begun c.write_at.ensures.time crash in
    goes_on g.D.Device.moment g.D.Device.left_since c.args.device.now c.write_at.new.self c.sync.new.self P _ wrote c.sync.ensures.time (λ f now. crash f (c.sync.ensures.crash f now))
