use Rattle.std.proofs.Common.{◌^◌}
use Rattle.std.specs.Str.Parse.{ExplainsUnsignedError, HasUnsignedDigitsIfOk, ParsesUnsigned}
use Rattle.clap.specs.Words.{found_of}
use Rattle.cq_args.proofs.Asked.{numeral_by, turns_by}
use Rattle.cq_args.proofs.invocation.turns_in.Goals as goal

pub returns-clause-asked : goal.returns-clause-asked
returns-clause-asked c = turns_by (λ text r. ParsesUnsigned 64 10 text r × ExplainsUnsignedError 10 text r × HasUnsignedDigitsIfOk text r)
    (λ text n gives. gives.0.1) _ (found_of c.in_ok-options.options.now) _ c.in_ok-options.ensures.rows c.get_one.ensures.none c.get_one.ensures.value

pub returns-clause-numeral : goal.returns-clause-numeral
returns-clause-numeral c = λ text is numeral small. numeral_by (λ text r. ParsesUnsigned 64 10 text r × ExplainsUnsignedError 10 text r × HasUnsignedDigitsIfOk text r)
    (2 ^ 64) (λ text n gives. gives.0.1) (λ text e gives numeral small. gives.0 (numeral, small)) _ (found_of c.in_ok-options.options.now) _ c.in_ok-options.ensures.rows c.get_one.ensures.value text is numeral small
