-- What is told is the text of the error.
use Rattle.std.proofs.Common.{inl, inr, refl}
use Rattle.cq_main.proofs.run.refuse.Goals as goal

pub returns-in_default : goal.returns-in_default
returns-in_default g c = inr c.report.ensures

pub returns : goal.returns
returns g c = inl (refl, (c.as_str.result.now, c.print.ensures.bytes))
