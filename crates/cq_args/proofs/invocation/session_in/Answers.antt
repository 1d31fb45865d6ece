-- The options as they are found.
use Rattle.std.proofs.Common.{◌≡◌, ◌⊎◌, ℕ, List, [], ◌∷◌, inl, inr, Bool, true, false, Option, Some, None, refl, subst, sym, ◌∙◌, ap, codes, Bor}
use Rattle.std.specs.Prelude.{IfSome, option_map, unwrap_or}
use Rattle.std.specs.Str.Parse.{ExplainsUnsignedError, HasUnsignedDigitsIfOk, ParsesUnsigned}
use Rattle.clap.specs.declared.parser.matches.Found.{Found}
use Rattle.clap.specs.Words.{Text, first_of, first_value, found_of, one_of, rows_of}
use Rattle.clap.proofs.WalkLemmas.{first_value-rows, one_text-rows}
use Rattle.cq_args.specs.CommandLine.{IsNumber}
use Rattle.cq_args.proofs.Asked.{no_path, number_read, read_or}
use Rattle.cq_args.proofs.invocation.session_in.Goals as goal

pub returns-in-Some-clause-asked : goal.returns-in-Some-clause-asked
returns-in-Some-clause-asked c =
    let f = found_of c.args.options.now in
    let path : first_of (codes "journal") (rows_of f) ≡ Some c.in-Some.path.now = sym (first_value-rows f (codes "journal")) ∙ sym c.get_str.ensures ∙ ap (option_map (λ s. s.now)) c.in-Some.is in
    let number = number_read (λ text r. ParsesUnsigned 64 10 text r × ExplainsUnsignedError 10 text r × HasUnsignedDigitsIfOk text r)
    (λ text n gives. gives.0.1) (codes "journal-size") (rows_of f) f c.get_one-mebibytes.result refl c.get_one-mebibytes.ensures.none c.get_one-mebibytes.ensures.value in
    (refl, refl, (path, read_or _ c.get_one-mebibytes.result _ c.unwrap_or-mebibytes.ensures number, λ is. c.get_flag-two_syncs.ensures.value (one_text-rows f (codes "two-syncs") ∙ is), λ is. c.get_flag-tell_store.ensures.value (one_text-rows f (codes "tell-store") ∙ is)))

pub returns-in-Some-clause-good : goal.returns-in-Some-clause-good
returns-in-Some-clause-good c = λ lacks.
    let f = found_of c.args.options.now in
    let path : first_of (codes "journal") (rows_of f) ≡ Some c.in-Some.path.now = sym (first_value-rows f (codes "journal")) ∙ sym c.get_str.ensures ∙ ap (option_map (λ s. s.now)) c.in-Some.is in
    let none : Some c.in-Some.path.now ≡ None = sym path ∙ lacks.0 in
    cc

pub returns-then-two_syncs-clause-good : goal.returns-then-two_syncs-clause-good
returns-then-two_syncs-clause-good c = λ lacks.
    let flag = c.get_flag-two_syncs.ensures.other (one_text-rows (found_of c.args.options.now) (codes "two-syncs") ∙ lacks.2) in
    let both : true ≡ false = sym c.if-two_syncs.true ∙ flag in
    cc

pub returns-then-tell_store-clause-good : goal.returns-then-tell_store-clause-good
returns-then-tell_store-clause-good c = λ lacks.
    let flag = c.get_flag-tell_store.ensures.other (one_text-rows (found_of c.args.options.now) (codes "tell-store") ∙ lacks.3) in
    let both : true ≡ false = sym c.if-tell_store.true ∙ flag in
    cc

pub returns-in-Some-mebibytes-clause-good : goal.returns-in-Some-mebibytes-clause-good
returns-in-Some-mebibytes-clause-good c = λ lacks.
    let none = c.get_one-mebibytes.ensures.none (one_text-rows (found_of c.args.options.now) (codes "journal-size") ∙ lacks.1) in
    let some = c.in-Some-mebibytes.is in
    cc

pub returns-in-None-clause-asked : goal.returns-in-None-clause-asked
returns-in-None-clause-asked c = (refl, refl, no_path (found_of c.args.options.now) c.get_str.result c.get_str.ensures c.in_default.is)
