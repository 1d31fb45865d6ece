use Rattle.std.specs.Str.Parse.{ExplainsUnsignedError, HasUnsignedDigitsIfOk, ParsesUnsigned}
use Rattle.clap.specs.Words.{found_of}
use Rattle.cq_args.proofs.Asked.{digit_by, digit_without, sized_by, sized_without}
use Rattle.cq_args.proofs.invocation.servers_in.Goals as goal

pub returns-in-None-clause-asked : goal.returns-in-None-clause-asked
returns-in-None-clause-asked c = sized_without _ c.in-None.ensures.rows

pub returns-in-Some-clause-asked : goal.returns-in-Some-clause-asked
returns-in-Some-clause-asked c = sized_by (λ text r. ParsesUnsigned 8 10 text r × ExplainsUnsignedError 10 text r × HasUnsignedDigitsIfOk text r)
    (λ text n gives. gives.0.1) _ (found_of c.in-Some.options.now) _ c.in-Some.ensures.rows c.get_one.ensures.none c.get_one.ensures.value

pub returns-in-None-clause-digit : goal.returns-in-None-clause-digit
returns-in-None-clause-digit c = λ servers low is. digit_without _ c.in-None.ensures.rows servers is

pub returns-in-Some-clause-digit : goal.returns-in-Some-clause-digit
returns-in-Some-clause-digit c = λ servers low is. digit_by (λ text r. ParsesUnsigned 8 10 text r × ExplainsUnsignedError 10 text r × HasUnsignedDigitsIfOk text r)
    (λ text n gives. gives.0.1) (λ text e gives numeral small. gives.0 (numeral, small)) _ (found_of c.in-Some.options.now) _ c.in-Some.ensures.rows c.get_one.ensures.value servers low is
