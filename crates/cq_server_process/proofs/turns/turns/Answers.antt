-- The turns of clients, of the master and of all servers.
use Rattle.std.proofs.Common.{◌≡◌, ◌∙◌, ap, subst}
use Rattle.std.specs.Prelude.{IfOk}
use Rattle.cq_base.specs.declared.party.Party.TheVariants.{Master, Clients}
use Rattle.cq_server_process.specs.Rounds.{TellsServers, first_waiting}
use Rattle.cq_server_process.specs.Turns.{TellsOf, at}
use Rattle.cq_server_process.proofs.Turning.{rounds-told}
use Rattle.cq_server_process.proofs.turns.turns.Goals as goal

pub returns-clause-tells : goal.returns-clause-tells
returns-clause-tells c =
    let gone = c.args.links.now.gone.keys in
    let a = at c.args.links.now c.args.core.now in
    let b = at c.turn.new.links c.turn.new.core in
    let m = at c.turn-2.new.links c.turn-2.new.core in
    let d = at c.turns_of_servers.new.links c.turns_of_servers.new.core in
    let master = subst (λ g. TellsOf g Master b m c.in-Ok-turn.stop c.turn.new.out.items c.turn-2.new.out.items) (ap (λ g. g.keys) c.turn.ensures.gone) c.in-Ok-turn.ensures.tells in
    let first : c.first_waiting-first-in-Ok-turn.result ≡ first_waiting (first_waiting c.args.before Clients c.in-Ok.stop) Master c.in-Ok-turn.stop = c.first_waiting-first-in-Ok-turn.ensures ∙ ap (λ f. first_waiting f Master c.in-Ok-turn.stop) c.first_waiting-first.ensures in
    let behind = subst (λ w. IfOk c.turns_of_servers.result (λ f. TellsServers c.turn-2.new.links.gone.keys w m d f c.turn-2.new.out.items c.turns_of_servers.new.out.items)) first c.turns_of_servers.ensures.tells in
    let servers = subst (λ g. IfOk c.turns_of_servers.result (λ f. TellsServers g (first_waiting (first_waiting c.args.before Clients c.in-Ok.stop) Master c.in-Ok-turn.stop) m d f c.turn-2.new.out.items c.turns_of_servers.new.out.items)) (ap (λ g. g.keys) (c.turn-2.ensures.gone ∙ c.turn.ensures.gone)) behind in
    rounds-told gone c.args.before a b m d c.in-Ok.stop c.in-Ok-turn.stop c.args.out.now.items c.turn.new.out.items c.turn-2.new.out.items c.turns_of_servers.new.out.items c.turns_of_servers.result c.in-Ok.ensures.tells master servers
