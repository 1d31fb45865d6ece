-- One more number.
use Rattle.std.proofs.Common.{◌≡◌, ◌+◌, ◌∙◌, ◌++◌, ap, sym, arith}
use Rattle.cq_show.specs.Worlds.{servers_at, servers_upto}
use Rattle.cq_show.specs.declared.servers.TheConstants.{SHOWN_NUMBERS}
use Rattle.cq_show.proofs.Loops.{servers-more, servers-none}
use Rattle.cq_show.proofs.servers.shown_servers.Goals as goal

pub loop-before-init : goal.loop-before-init
loop-before-init c = λ w h. c.new-servers.ensures.items ∙ sym (servers-none w)

pub loop-before-preserved : goal.loop-before-preserved
loop-before-preserved c = λ w h.
    let k = c.loop-before.before in
    let id : c.in-Some.id ≡ 1 + k = omega (arith, c.in-Some.ensures.value) in
    c.in_ok-add_server-in-Some.ensures w h ∙ ap (λ xs. xs ++ servers_at w c.in-Some.id) (c.loop-before.invariant w h) ∙ ap (λ n. servers_upto w k ++ servers_at w n) id ∙ sym (servers-more w k)

pub returns : goal.returns
returns c = λ w h.
    let all : c.loop-before.before ≡ SHOWN_NUMBERS = omega (arith, c.loop-before-test.false, c.loop-before.auto.before-end) in
    c.loop-before.invariant w h ∙ ap (λ n. servers_upto w n) all
