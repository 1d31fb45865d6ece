-- The files as they are found.
use Rattle.std.proofs.Common.{◌≡◌, List, ℕ, Option, Some, Bor, sym, ◌∙◌, ap, codes}
use Rattle.std.specs.Prelude.{option_map}
use Rattle.clap.specs.Words.{Text, first_of, first_value, found_of, rows_of}
use Rattle.clap.specs.declared.parser.matches.Found.{Found}
use Rattle.clap.proofs.WalkLemmas.{first_value-rows}
use Rattle.cq_args.proofs.invocation.file_word_in.Goals as goal

path_is : (f : Found) (id : Text) (path : Option (Bor (List ℕ))) (found : Bor (List ℕ)) → option_map (λ s. s.now) path ≡ first_value f id → path ≡ Some found → first_of id (rows_of f) ≡ Some found.now
path_is f id path found is some = sym (first_value-rows f id) ∙ sym is ∙ ap (option_map (λ s. s.now)) some

pub returns-in_ok-get_str-in-verify : goal.returns-in_ok-get_str-in-verify
returns-in_ok-get_str-in-verify c =
    (sym c.in-verify.is, tt, path_is (found_of c.args.options.now) (codes "FILE") c.get_str.result _ c.get_str.ensures c.in_ok-get_str-in-verify.was)

pub returns-in_ok-get_str-in-copy-2 : goal.returns-in_ok-get_str-in-copy-2
returns-in_ok-get_str-in-copy-2 c = (
  sym c.in-copy.is,
  tt,
  (
    path_is (found_of c.args.options.now) (codes "FILE") c.get_str-in-copy.result _ c.get_str-in-copy.ensures c.in_ok-get_str-in-copy.was,
    path_is (found_of c.args.options.now) (codes "TO") c.get_str-in-copy-2.result _ c.get_str-in-copy-2.ensures c.in_ok-get_str-in-copy-2.was,
  ),
)

pub returns-in_ok-get_str-in-dump : goal.returns-in_ok-get_str-in-dump
returns-in_ok-get_str-in-dump c =
    (sym c.in-dump.is, tt, path_is (found_of c.args.options.now) (codes "FILE") c.get_str-in-dump.result _ c.get_str-in-dump.ensures c.in_ok-get_str-in-dump.was)
