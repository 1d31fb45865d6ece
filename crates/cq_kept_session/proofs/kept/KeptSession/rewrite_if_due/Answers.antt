-- What is kept stands for the same, whatever came of it.
use Rattle.std.proofs.Common.{refl}
use Rattle.std.proofs.Common.{rules}
use Rattle.std.specs.Prelude.{IsErrOf}
use Rattle.cq_records.specs.declared.fault.LogFault.TheVariants.{Full}
use Rattle.cq_kept_session.proofs.Pieces.{serves_none, serves_nothing}
use Rattle.cq_kept_session.proofs.Rewritten.{kept_same, serves_rewritten}
use Rattle.cq_kept_session.proofs.kept.KeptSession.rewrite_if_due.Goals as goal

pub returns-then-not-is_due-clause-serves : goal.returns-then-not-is_due-clause-serves
returns-then-not-is_due-clause-serves g c = λ contents. serves_none c.args.self.now contents

pub returns-in-Ok-true-clause-kept : goal.returns-in-Ok-true-clause-kept
returns-in-Ok-true-clause-kept g c = kept_same c.rewrite.new.self _ refl refl refl refl c.in-Ok-true.ensures.kept

pub returns-in-Ok-true-clause-serves : goal.returns-in-Ok-true-clause-serves
returns-in-Ok-true-clause-serves g c = λ contents. serves_rewritten c.args.self.now _ contents c.rewrite.ensures.size c.rewrite.ensures.honest c.in-Ok-true.ensures.stands

pub returns-in-Ok-false-clause-serves : goal.returns-in-Ok-false-clause-serves
returns-in-Ok-false-clause-serves g c = λ contents. serves_rewritten c.args.self.now _ contents c.rewrite.ensures.size c.rewrite.ensures.honest c.in-Ok-false.ensures.stands

pub returns-in-Err-Full-clause-kept : goal.returns-in-Err-Full-clause-kept
returns-in-Err-Full-clause-kept g c =
    let is : IsErrOf c.rewrite.result Full = search rules in
    let f = c.rewrite.ensures.full is in
    kept_same c.rewrite.new.self _ refl refl refl refl f.0

pub returns-in-Err-Full-clause-serves : goal.returns-in-Err-Full-clause-serves
returns-in-Err-Full-clause-serves g c = λ contents.
    let is : IsErrOf c.rewrite.result Full = search rules in
    let f = c.rewrite.ensures.full is in
    serves_nothing c.args.self.now _ contents contents refl c.rewrite.ensures.size f.1 c.rewrite.ensures.honest
