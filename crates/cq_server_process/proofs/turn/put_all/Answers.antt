-- One message more at each turn, and the stop at the end.
use Rattle.std.proofs.Common.{◌≡◌, ◌∙◌, ◌++◌, sym, subst, append-nil, [], refl}
use Rattle.cq_server_process.specs.Turns.{TellsStep, at}
use Rattle.cq_server_process.proofs.Sending.{all-and-one, all-and-stop, prefix-behind, told-prefix}
use Rattle.cq_server_process.proofs.turn.put_all.Goals as goal

pub loop-init : goal.loop-init
loop-init c = record { tells = ([], (sym (append-nil c.args.out.now.items), refl)); incoming = refl; gone = refl }

pub loop-preserved : goal.loop-preserved
loop-preserved c =
    let l = c.loop in
    record {
      tells = all-and-one c.args.to.now (at c.args.links.now c.args.core.now) (at l.links l.core) (at c.step.new.links c.step.new.core) c.args.out.now.items l.out.items c.step.new.out.items l.invariant.tells
          (subst (λ stop. TellsStep c.args.to.now (at l.links l.core) (at c.step.new.links c.step.new.core) stop l.out.items c.step.new.out.items) c.in-Ok-None.field-0-is c.in-Ok-None.ensures.tells);
      incoming = c.step.ensures.incoming ∙ l.invariant.incoming;
      gone = c.step.ensures.gone ∙ l.invariant.gone;
    }

pub returns-in-Ok-Some-clause-tells : goal.returns-in-Ok-Some-clause-tells
returns-in-Ok-Some-clause-tells c =
    let l = c.loop in
    all-and-stop c.args.to.now (at c.args.links.now c.args.core.now) (at l.links l.core) (at c.step.new.links c.step.new.core) c.in-Ok-Some.stop c.args.out.now.items l.out.items c.step.new.out.items l.invariant.tells
    (subst (λ stop. TellsStep c.args.to.now (at l.links l.core) (at c.step.new.links c.step.new.core) stop l.out.items c.step.new.out.items) c.in-Ok-Some.field-0-is c.in-Ok-Some.ensures.tells)

pub returns-in-Err-clause-err : goal.returns-in-Err-clause-err
returns-in-Err-clause-err c = let l = c.loop in prefix-behind c.args.out.now.items l.out.items c.step.new.out.items l.invariant.tells.0 l.invariant.tells.1.0 c.in-Err.ensures.err

pub returns-clause-err : goal.returns-clause-err
returns-clause-err c = let l = c.loop in told-prefix c.args.out.now.items l.out.items l.invariant.tells.0 l.invariant.tells.1.0
