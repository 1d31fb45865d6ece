use Rattle.std.proofs.Common.{ap, sym, ◌∙◌, true, false}
use Rattle.crossbeam_channel.specs.Claims.{view}
use Rattle.cq_link.specs.Tags.{put_by}
use Rattle.cq_link.specs.within.Rules.{may_put}
use Rattle.cq_link.proofs.Deliver.{joins_first, joins_second, settle_is}
use Rattle.cq_link.proofs.inbox.Inbox.settle.Goals as goal

pub absorb-requires-clause-rule : goal.absorb-requires-clause-rule
absorb-requires-clause-rule g c = joins_second c.args.first.pass.id (view c.args.first.pass) c.args.taker.pass.id (view c.args.taker.pass) c.args.taker.role

pub absorb-requires-2-clause-rule : goal.absorb-requires-2-clause-rule
absorb-requires-2-clause-rule g c =
    let is = c.absorb.ensures.rule in
    let one = sym (ap (λ b. may_put b (view c.args.first.pass)) c.requires.ends.0) ∙ c.args.first.role in
    let two = sym (ap (λ b. may_put b (view c.args.second.pass)) c.requires.ends.1) ∙ c.args.second.role in
    joins_first c.absorb.new.pass.id (view c.absorb.new.pass) c.args.second.pass.id (view c.args.second.pass) (ap (λ v. v.first) is ∙ one) two (ap (λ v. v.takes) is)

pub returns-clause-first : goal.returns-clause-first
returns-clause-first g c =
    let is = c.absorb.ensures.rule in
    let all = c.absorb-2.ensures.rule in
    let learned = c.learn_as.ensures in
    settle_is false (view c.absorb-2.new.pass) (view c.learn_as.new.pass) (view c.args.taker.pass).got (put_by c.args.first.second (view c.args.first.pass)) learned.rule.0 learned.rule.1 learned.channel.2
    (sym (ap (λ v. v.got) all ∙ ap (λ v. v.got) is))
    (ap (λ b. put_by b (view c.args.first.pass)) c.requires.ends.0 ∙ sym (ap (λ v. v.of_first) all ∙ ap (λ v. v.of_first) is))

pub returns-clause-second : goal.returns-clause-second
returns-clause-second g c =
    let is = c.absorb.ensures.rule in
    let all = c.absorb-2.ensures.rule in
    let learned = c.learn_as.ensures in
    settle_is true (view c.absorb-2.new.pass) (view c.learn_as.new.pass) (view c.args.taker.pass).got (put_by c.args.second.second (view c.args.second.pass)) learned.rule.0 learned.rule.1 learned.channel.2
    (sym (ap (λ v. v.got) all ∙ ap (λ v. v.got) is))
    (ap (λ b. put_by b (view c.args.second.pass)) c.requires.ends.1 ∙ sym (ap (λ v. v.of_second) all))
