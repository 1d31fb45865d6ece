-- The next message was read.
use Rattle.std.proofs.Common.{◌∙◌, ◌≤◌, length, subst, arith, ◌++◌, ◌∷◌, [], ap, sym, append-nil}
use Rattle.cq_nodes.specs.Ends.{listed}
use Rattle.cq_nodes.proofs.moves.take_first.Goals as goal

pub returns-in-Ok-clause-taken : goal.returns-in-Ok-clause-taken
returns-in-Ok-clause-taken g c = λ back seen told is.
    let m = c.in-Some.message in
    record {
      message = m;
      list = c.in-Some.ensures.list seen told ∙ sym (append-nil (seen ++ m ∷ [])) ∙ ap (λ unread. (seen ++ m ∷ []) ++ listed unread) (sym c.in-Some.ensures.unread);
      done = c.in-Ok.ensures.ok back;
    }

pub returns-in-Ok-clause-unread : goal.returns-in-Ok-clause-unread
returns-in-Ok-clause-unread g c = subst (λ unread. length (listed unread) ≤ 0) (sym c.in-Some.ensures.unread) (omega arith)

pub returns-in-Err-clause-unread : goal.returns-in-Err-clause-unread
returns-in-Err-clause-unread g c = omega arith

pub returns-in-None-clause-unread : goal.returns-in-None-clause-unread
returns-in-None-clause-unread g c = subst (λ unread. length (listed unread) ≤ 0) (sym c.next_message.ensures.unread) (omega arith)
