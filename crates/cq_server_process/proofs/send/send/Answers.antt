-- Room is made first, which changes no bytes.
use Rattle.std.proofs.Common.{◌∙◌, ◌++◌, sym, subst, append-nil, inr, [], refl}
use Rattle.std.specs.Prelude.{IfOk, OnErr}
use Rattle.cq_base.specs.Relations.{IsPrefix}
use Rattle.cq_server_process.specs.Turns.{Tells, at}
use Rattle.cq_server_process.proofs.send.send.Goals as goal

pub returns-then-make_room-clause-tells : goal.returns-then-make_room-clause-tells
returns-then-make_room-clause-tells c = subst (λ old. IfOk c.send_in_room.result (λ stop. Tells c.args.to.now (at c.args.links.now c.args.core.now) (at c.send_in_room.new.links c.send_in_room.new.core) stop old c.send_in_room.new.out.items)) c.make_room.ensures c.send_in_room.ensures.tells

pub returns-then-make_room-clause-err : goal.returns-then-make_room-clause-err
returns-then-make_room-clause-err c = subst (λ old. OnErr c.send_in_room.result (IsPrefix old c.send_in_room.new.out.items)) c.make_room.ensures c.send_in_room.ensures.err

pub returns-else-make_room-clause-tells : goal.returns-else-make_room-clause-tells
returns-else-make_room-clause-tells c = ([], (c.make_room.ensures ∙ sym (append-nil c.args.out.now.items), inr (refl, (refl, inr refl))))
