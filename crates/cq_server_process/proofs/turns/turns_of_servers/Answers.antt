-- One server more at each turn.
use Rattle.std.proofs.Common.{◌≡◌, ◌∙◌, Some, ap, subst, sym, refl}
use Rattle.cq_base.specs.declared.party.Party.TheVariants.{Server}
use Rattle.cq_server_process.specs.Rounds.{TellsSome, told_in}
use Rattle.cq_server_process.specs.Turns.{TellsOf, at}
use Rattle.cq_server_process.proofs.Sending.{prefix-behind, told-prefix}
use Rattle.cq_server_process.proofs.Turning.{all-in-turn, none-in-turn, one-in-turn}
use Rattle.cq_server_process.proofs.turns.turns_of_servers.Goals as goal

pub loop-init : goal.loop-init
loop-init c = record { tells = none-in-turn c.args.links.now.gone.keys c.args.before (at c.args.links.now c.args.core.now) c.args.out.now.items; incoming = refl; gone = refl }

pub loop-preserved : goal.loop-preserved
loop-preserved c =
    let l = c.loop in
    let a = at c.args.links.now c.args.core.now in
    let gone = c.args.links.now.gone.keys in
    let turn = subst (λ g. TellsOf g (Server c.in-Some.id) (at l.links l.core) (at c.turn.new.links c.turn.new.core) c.in-Ok.stop l.out.items c.turn.new.out.items) (ap (λ g. g.keys) l.invariant.gone) c.in-Ok.ensures.tells in
    record {
      tells = subst (λ first. TellsSome gone c.args.before a (Some c.in-Some.id) (at c.turn.new.links c.turn.new.core) first c.args.out.now.items c.turn.new.out.items) (sym c.first_waiting-first.ensures)
          (one-in-turn gone c.args.before a (at l.links l.core) (at c.turn.new.links c.turn.new.core) l.last c.in-Some.id c.in-Ok.stop l.first c.args.out.now.items l.out.items c.turn.new.out.items l.invariant.tells c.in-Some.ensures turn);
      incoming = c.turn.ensures.incoming ∙ l.invariant.incoming;
      gone = c.turn.ensures.gone ∙ l.invariant.gone;
    }

pub returns-in-None-clause-tells : goal.returns-in-None-clause-tells
returns-in-None-clause-tells c =
    let l = c.loop in
    all-in-turn c.args.links.now.gone.keys c.args.before (at c.args.links.now c.args.core.now) (at l.links l.core) l.last l.first c.args.out.now.items l.out.items l.invariant.tells c.in-None.ensures

pub returns-in-Err-clause-err : goal.returns-in-Err-clause-err
returns-in-Err-clause-err c = let l = c.loop in prefix-behind c.args.out.now.items l.out.items c.turn.new.out.items (told_in l.invariant.tells.0) l.invariant.tells.1.0 c.in-Err.ensures.err

pub returns-clause-err : goal.returns-clause-err
returns-clause-err c = let l = c.loop in told-prefix c.args.out.now.items l.out.items (told_in l.invariant.tells.0) l.invariant.tells.1.0
