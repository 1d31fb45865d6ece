-- The text by which a fault is told, which writers have failed, and which kinds of error ask for help or for the version.
use Rattle.std.proofs.Common.{ℕ, List, [], ◌∷◌, ◌++◌, Bool, true, false, Option, refl, codes, sym, ◌≡◌, ◌∙◌}
use Rattle.std.specs.Prelude.{decimal, ◌||◌}
use Rattle.clap.specs.declared.error.kind.ErrorKind.{ErrorKind}
use Rattle.clap.specs.declared.error.kind.ErrorKind.TheVariants.{DisplayHelp, DisplayVersion}
use Rattle.cq_lines.specs.Faults.{code_of, name_of}
use Rattle.cq_lines.specs.declared.fault.ScriptFault.{ScriptFault}
use Rattle.cq_args.specs.ArgFaults.{is_help, is_version}
use Rattle.cq_main.specs.Statuses.{fault_line, fault_text, line_text}

pub is_told : (fault : ScriptFault) (code : ℕ) (name : List ℕ) (line : Option ℕ) → code ≡ code_of fault → name ≡ name_of fault → fault_line fault ≡ line
    → codes "cq: " ++ (decimal code ++ (codes " " ++ (name ++ (line_text line ++ 10 ∷ [])))) ≡ fault_text fault
is_told fault code name line code_is name_is line_is = rw (code_is, name_is, line_is) refl

pub failed_by_error : (before error after is : Bool) → after ≡ (before || error) → is ≡ error → is ≡ true → after ≡ true
failed_by_error true error after is after_is error_is found = after_is
failed_by_error false error after is after_is error_is found = after_is ∙ (sym error_is ∙ found)

pub not_failed_before : (before error after : Bool) → after ≡ (before || error) → after ≡ false → before ≡ false
not_failed_before true error after after_is kept = cc
not_failed_before false error after after_is kept = refl

pub no_help : (kind : ErrorKind) → (kind ≡ DisplayHelp → ⊥) → is_help kind ≡ true → ⊥
no_help DisplayHelp not_help is = not_help refl
no_help _ not_help is = cc

pub no_version : (kind : ErrorKind) → (kind ≡ DisplayVersion → ⊥) → is_version kind ≡ true → ⊥
no_version DisplayVersion not_version is = not_version refl
no_version _ not_version is = cc
