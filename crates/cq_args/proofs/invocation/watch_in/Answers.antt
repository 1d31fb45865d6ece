-- The number of servers as it is found.
use Rattle.std.proofs.Common.{refl, codes}
use Rattle.std.specs.Str.Parse.{ExplainsUnsignedError, HasUnsignedDigitsIfOk, ParsesUnsigned}
use Rattle.clap.specs.Words.{found_of}
use Rattle.cq_args.proofs.Asked.{number_found}
use Rattle.cq_args.proofs.invocation.watch_in.Goals as goal

pub returns : goal.returns
returns c = (
  refl,
  tt,
  number_found (λ text r. ParsesUnsigned 8 10 text r × ExplainsUnsignedError 10 text r × HasUnsignedDigitsIfOk text r)
      (λ text n gives. gives.0.1) (codes "servers") (found_of c.args.options.now) c.get_one.result c.in_ok-get_one.field-0 c.in_ok-size.size c.get_one.ensures.none c.get_one.ensures.value c.in_ok-get_one.was c.in_ok-size.ensures.value,
)
