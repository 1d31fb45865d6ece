-- What a parse of the arguments gives is what they ask for, and where it fails it says why.
use Rattle.std.proofs.Common.{◌≡◌, ◌∙◌, Some, ap, map, subst, sym}
use Rattle.std.proofs.lemmas.Result.{err_from_is_err_and}
use Rattle.clap.specs.Words.{fault_of, is_simple, is_simple_and_free, subcommand_of, takes}
use Rattle.cq_args.specs.CommandLine.{IsAsked}
use Rattle.cq_args.proofs.Asked.{kinds_at, program_is_free, program_is_simple}
use Rattle.cq_args.proofs.Good.{is_found, is_good}
use Rattle.cq_args.proofs.invocation.invocation_of.Goals as goal

pub returns-in_err-matches-clause-good : goal.returns-in_err-matches-clause-good
returns-in_err-matches-clause-good g c = λ invocation asked.
    let args = map g.S.AsStr.text c.args.args.now in
    let good = is_good args invocation asked in
    let fault = err_from_is_err_and c.from_residual-in_err-matches.result c.from_residual-in_err-matches.ensures.1 in
    rw (fault.1, fault.2) (c.in_err-matches.ensures.passes (ap (λ app. takes app args) c.in_ok-program.ensures ∙ good.taken))

pub returns-in_err-matches-clause-faults : goal.returns-in_err-matches-clause-faults
returns-in_err-matches-clause-faults g c = λ some.
    let args = map g.S.AsStr.text c.args.args.now in
    let told = c.in_err-matches.ensures.kinds (ap is_simple_and_free c.in_ok-program.ensures ∙ program_is_free) in
    let fault = err_from_is_err_and c.from_residual-in_err-matches.result c.from_residual-in_err-matches.ensures.1 in
    rw (fault.1, fault.2) (kinds_at _ args c.in_err-matches.field-0.0 c.in_ok-program.ensures told)

pub returns-in-Some-clause-good : goal.returns-in-Some-clause-good
returns-in-Some-clause-good g c = λ invocation asked.
    let args = map g.S.AsStr.text c.args.args.now in
    let rows = (c.in_ok-matches.ensures.ok.2 (ap is_simple c.in_ok-program.ensures ∙ program_is_simple)).1 ∙ ap (λ app. subcommand_of app args) c.in_ok-program.ensures in
    let found : Some c.in-Some.invocation ≡ Some invocation = is_found _ args invocation rows asked c.in-Some.ensures.good in
    cc

pub returns-in-Some-clause-faults : goal.returns-in-Some-clause-faults
returns-in-Some-clause-faults g c = λ some.
    let args = map g.S.AsStr.text c.args.args.now in
    some (ap (λ app. fault_of app args) (sym c.in_ok-program.ensures) ∙ c.in_ok-matches.ensures.kinds (ap is_simple_and_free c.in_ok-program.ensures ∙ program_is_free))

pub returns-clause-good : goal.returns-clause-good
returns-clause-good g c = λ invocation asked.
    let args = map g.S.AsStr.text c.args.args.now in
    let rows = (c.in_ok-matches.ensures.ok.2 (ap is_simple c.in_ok-program.ensures ∙ program_is_simple)).1 ∙ ap (λ app. subcommand_of app args) c.in_ok-program.ensures in
    let found = is_found _ args invocation rows asked c.invocation_in.ensures.good in
    let none = c.in_default.is in
    cc

pub returns-in-Some-clause-asked : goal.returns-in-Some-clause-asked
returns-in-Some-clause-asked g c =
    let args = map g.S.AsStr.text c.args.args.now in
    let rows = (c.in_ok-matches.ensures.ok.2 (ap is_simple c.in_ok-program.ensures ∙ program_is_simple)).1 ∙ ap (λ app. subcommand_of app args) c.in_ok-program.ensures in
    subst (λ found. IsAsked found c.in-Some.invocation) rows c.in-Some.ensures.asked

pub returns-clause-faults : goal.returns-clause-faults
returns-clause-faults g c = λ some.
    let args = map g.S.AsStr.text c.args.args.now in
    absurd (some (ap (λ app. fault_of app args) (sym c.in_ok-program.ensures) ∙ c.in_ok-matches.ensures.kinds (ap is_simple_and_free c.in_ok-program.ensures ∙ program_is_free)))
