-- Worked command lines: what each asks for, or which faults it may be told. They were worked out by hand.
use Rattle.std.proofs.Common.{◌≡◌, List, ◌∷◌, [], Option, None, Some, map, true, false, codes, refl}
use Rattle.std.specs.Prelude.{option_and_then}
use Rattle.clap.specs.Words.{Row, Text, fault_of, first_of, one_of, subcommand_of}
use Rattle.clap.specs.declared.error.kind.ErrorKind.TheVariants.{OutOfMemory}
use Rattle.clap.proofs.OnLiterals.{clap_on_literals}
use Rattle.cq_args.specs.declared.invocation.Invocation.TheVariants.{Live, Replay, Session}
use Rattle.cq_args.specs.CommandLine.{asked_invocation, program_app, text_in, turns_text}
use Rattle.cq_args.specs.ArgFaults.{all_are, is_help, is_usage, is_version}

good_args :
    map asked_invocation (
    [] ∷ (codes "replay" ∷ []) ∷ (codes "replay" ∷ codes "--servers" ∷ codes "1" ∷ []) ∷ (codes "replay" ∷ codes "--servers" ∷ codes "8" ∷ [])
    ∷ (codes "session" ∷ []) ∷ (codes "session" ∷ codes "--servers" ∷ codes "1" ∷ []) ∷ (codes "session" ∷ codes "--servers" ∷ codes "8" ∷ []) ∷ []
    )
    ≡ Some (Replay 1) ∷ Some (Replay 1) ∷ Some (Replay 1) ∷ Some (Replay 8)
    ∷ Some (Session 1) ∷ Some (Session 1) ∷ Some (Session 8) ∷ []
good_args = refl

good_live_args :
    map asked_invocation (
    (codes "live" ∷ []) ∷ (codes "live" ∷ codes "--servers" ∷ codes "8" ∷ []) ∷ (codes "live" ∷ codes "--turns" ∷ codes "1" ∷ [])
    ∷ (codes "live" ∷ codes "--turns" ∷ codes "0020" ∷ [])
    ∷ (codes "live" ∷ codes "--servers" ∷ codes "1" ∷ codes "--turns" ∷ codes "1000000000" ∷ [])
    ∷ (codes "live" ∷ codes "--turns" ∷ codes "999999999" ∷ codes "--servers" ∷ codes "2" ∷ []) ∷ []
    )
    ≡ Some (Live 3 1000000000) ∷ Some (Live 8 1000000000) ∷ Some (Live 3 1)
    ∷ Some (Live 3 20)
    ∷ Some (Live 1 1000000000)
    ∷ Some (Live 2 999999999) ∷ []
good_live_args = refl

other_args :
    map asked_invocation (
    (codes "replay" ∷ codes "--servers" ∷ codes "0" ∷ []) ∷ (codes "replay" ∷ codes "--servers" ∷ codes "9" ∷ [])
    ∷ (codes "session" ∷ codes "--servers" ∷ codes "9" ∷ []) ∷ (codes "session" ∷ codes "replay" ∷ [])
    ∷ (codes "alive" ∷ []) ∷ (codes "replay" ∷ codes "--server" ∷ codes "3" ∷ []) ∷ (codes "alive" ∷ codes "--servers" ∷ codes "3" ∷ []) ∷ []
    )
    ≡ None ∷ None ∷ None ∷ None ∷ None ∷ None ∷ None ∷ []
other_args = refl

other_live_args :
    map asked_invocation (
    (codes "live" ∷ codes "--servers" ∷ codes "9" ∷ []) ∷ (codes "live" ∷ codes "--turns" ∷ codes "0" ∷ []) ∷ (codes "live" ∷ codes "--turns" ∷ codes "1000000001" ∷ [])
    ∷ (codes "live" ∷ codes "--turns" ∷ codes "x" ∷ []) ∷ (codes "live" ∷ codes "--turns" ∷ [] ∷ []) ∷ (codes "live" ∷ codes "--turns" ∷ [])
    ∷ (codes "live" ∷ codes "--turns" ∷ codes "2" ∷ codes "--turns" ∷ codes "2" ∷ []) ∷ (codes "live" ∷ codes "extra" ∷ [])
    ∷ (codes "replay" ∷ codes "--turns" ∷ codes "2" ∷ []) ∷ (codes "session" ∷ codes "--servers" ∷ codes "1" ∷ codes "--turns" ∷ codes "2" ∷ []) ∷ []
    )
    ≡ None ∷ None ∷ None ∷ None ∷ None ∷ None ∷ None ∷ None ∷ None ∷ None ∷ []
other_live_args = refl

-- the text of the number of turns that a parse finds
live_turns :
    map (λ args. turns_text (subcommand_of program_app args)) (
    (codes "live" ∷ []) ∷ (codes "live" ∷ codes "--turns" ∷ codes "20" ∷ []) ∷ (codes "live" ∷ codes "--turns=+7" ∷ codes "--servers=5" ∷ [])
    ∷ (codes "replay" ∷ []) ∷ [] ∷ []
    )
    ≡ Some (codes "1000000000") ∷ Some (codes "20") ∷ Some (codes "+7")
    ∷ None ∷ None ∷ []
unfolding clap_on_literals
live_turns = refl

-- the text of the number of servers that a parse finds
servers_found :
    map (λ args. text_in (subcommand_of program_app args)) (
    (codes "live" ∷ []) ∷ (codes "live" ∷ codes "--turns=+7" ∷ codes "--servers=5" ∷ []) ∷ (codes "replay" ∷ []) ∷ (codes "session" ∷ codes "--servers=2" ∷ []) ∷ [] ∷ []
    )
    ≡ Some (codes "3") ∷ Some (codes "5") ∷ Some (codes "1") ∷ Some (codes "2") ∷ Some (codes "1") ∷ []
unfolding clap_on_literals
servers_found = refl

-- the files that a parse finds
abbrev file_in : Text → Option (Text × List Row) → Option Text
file_in id found = option_and_then (λ command. first_of id command.1) found

files_found :
    map {B = Option Text × Option Text} (λ args. (file_in (codes "FILE") (subcommand_of program_app args), file_in (codes "TO") (subcommand_of program_app args))) (
    (codes "verify" ∷ codes "a" ∷ []) ∷ (codes "copy" ∷ codes "a" ∷ codes "b" ∷ []) ∷ (codes "dump" ∷ codes "--" ∷ codes "-a" ∷ []) ∷ (codes "replay" ∷ []) ∷ [] ∷ []
    )
    ≡ (Some (codes "a"), None) ∷ (Some (codes "a"), Some (codes "b")) ∷ (Some (codes "-a"), None) ∷ (None, None) ∷ (None, None) ∷ []
unfolding clap_on_literals
files_found = refl

bad_file_args :
    map (λ args. all_are is_usage (fault_of program_app args)) (
    (codes "verify" ∷ []) ∷ (codes "copy" ∷ codes "a" ∷ []) ∷ (codes "dump" ∷ []) ∷ (codes "verify" ∷ codes "a" ∷ codes "b" ∷ []) ∷ (codes "copy" ∷ codes "a" ∷ codes "b" ∷ codes "c" ∷ [])
    ∷ (codes "dump" ∷ codes "a" ∷ codes "--servers" ∷ codes "1" ∷ [])
    ∷ (codes "verify" ∷ codes "a" ∷ []) ∷ (codes "copy" ∷ codes "a" ∷ codes "b" ∷ []) ∷ []
    )
    ≡ true ∷ true ∷ true ∷ true ∷ true
    ∷ true
    ∷ false ∷ false ∷ []
unfolding clap_on_literals
bad_file_args = refl

bad_process_args :
    map (λ args. all_are is_usage (fault_of program_app args)) (
    (codes "server" ∷ []) ∷ (codes "server" ∷ codes "--id" ∷ codes "0" ∷ codes "--joining" ∷ []) ∷ (codes "server" ∷ codes "--first" ∷ codes "3" ∷ [])
    ∷ (codes "server" ∷ codes "--id" ∷ codes "1" ∷ codes "--first" ∷ codes "9" ∷ []) ∷ (codes "server" ∷ codes "--id" ∷ codes "4294967296" ∷ codes "--joining" ∷ [])
    ∷ (codes "master" ∷ []) ∷ (codes "master" ∷ codes "--servers" ∷ codes "9" ∷ []) ∷ (codes "master" ∷ codes "--servers" ∷ codes "1" ∷ codes "extra" ∷ [])
    ∷ (codes "server" ∷ codes "--id" ∷ codes "1" ∷ codes "--first" ∷ codes "3" ∷ []) ∷ (codes "server" ∷ codes "--joining" ∷ codes "--id=4294967295" ∷ [])
    ∷ (codes "master" ∷ codes "--servers" ∷ codes "3" ∷ [])
    ∷ (codes "server" ∷ codes "--id" ∷ codes "2" ∷ codes "--joining" ∷ codes "--wire" ∷ codes "2" ∷ []) ∷ (codes "master" ∷ codes "--servers" ∷ codes "3" ∷ codes "--wire=0" ∷ [])
    ∷ (codes "server" ∷ codes "--wire" ∷ codes "1" ∷ codes "--id" ∷ codes "2" ∷ codes "--joining" ∷ []) ∷ (codes "master" ∷ codes "--servers" ∷ codes "3" ∷ codes "--wire=1" ∷ []) ∷ []
    )
    ≡ true ∷ true ∷ true
    ∷ true ∷ true
    ∷ true ∷ true ∷ true
    ∷ false ∷ false
    ∷ false
    ∷ true ∷ true
    ∷ false ∷ false ∷ []
unfolding clap_on_literals
bad_process_args = refl

-- the numbers that a parse finds
abbrev number_in : Text → Option (Text × List Row) → Option Text
number_in id found = option_and_then (λ command. one_of id command.1) found

processes_found :
    map {B = Option Text × Option Text} (λ args. (number_in (codes "id") (subcommand_of program_app args), number_in (codes "first") (subcommand_of program_app args))) (
    (codes "server" ∷ codes "--id" ∷ codes "1" ∷ codes "--first" ∷ codes "3" ∷ []) ∷ (codes "server" ∷ codes "--joining" ∷ codes "--id=4294967295" ∷ [])
    ∷ (codes "master" ∷ codes "--servers" ∷ codes "3" ∷ []) ∷ []
    )
    ≡ (Some (codes "1"), Some (codes "3")) ∷ (Some (codes "4294967295"), None) ∷ (None, None) ∷ []
unfolding clap_on_literals
processes_found = refl

help_args :
    map (λ args. all_are is_help (fault_of program_app args)) (
    (codes "--help" ∷ []) ∷ (codes "replay" ∷ codes "-h" ∷ []) ∷ (codes "session" ∷ codes "-h" ∷ []) ∷ (codes "live" ∷ codes "--help" ∷ [])
    ∷ [] ∷ (codes "live" ∷ []) ∷ (codes "alive" ∷ []) ∷ (codes "--version" ∷ []) ∷ []
    )
    ≡ true ∷ true ∷ true ∷ true
    ∷ false ∷ false ∷ false ∷ false ∷ []
unfolding clap_on_literals
help_args = refl

-- the version is asked for in front of a command alone
version_args :
    map (λ args. all_are is_version (fault_of program_app args)) (
    (codes "--version" ∷ []) ∷ (codes "-V" ∷ []) ∷ (codes "--version" ∷ codes "replay" ∷ [])
    ∷ [] ∷ (codes "--help" ∷ []) ∷ (codes "replay" ∷ []) ∷ (codes "version" ∷ [])
    ∷ (codes "replay" ∷ codes "--version" ∷ []) ∷ (codes "session" ∷ codes "-V" ∷ []) ∷ (codes "live" ∷ codes "--version" ∷ []) ∷ []
    )
    ≡ true ∷ true ∷ true
    ∷ false ∷ false ∷ false ∷ false
    ∷ false ∷ false ∷ false ∷ []
unfolding clap_on_literals
version_args = refl

bad_args :
    map (λ args. all_are is_usage (fault_of program_app args)) (
    (codes "alive" ∷ []) ∷ (codes "replay" ∷ codes "--servers" ∷ codes "9" ∷ []) ∷ (codes "replay" ∷ codes "--servers" ∷ codes "0" ∷ [])
    ∷ (codes "replay" ∷ codes "--server" ∷ codes "3" ∷ []) ∷ (codes "--servers" ∷ codes "3" ∷ []) ∷ (codes "replay" ∷ codes "extra" ∷ [])
    ∷ (codes "session" ∷ codes "--servers" ∷ codes "9" ∷ []) ∷ (codes "session" ∷ codes "replay" ∷ [])
    ∷ (codes "version" ∷ []) ∷ (codes "replay" ∷ codes "--version" ∷ []) ∷ (codes "session" ∷ codes "-V" ∷ [])
    ∷ [] ∷ (codes "--help" ∷ []) ∷ (codes "--version" ∷ []) ∷ []
    )
    ≡ true ∷ true ∷ true ∷ true ∷ true ∷ true ∷ true ∷ true
    ∷ true ∷ true ∷ true
    ∷ false ∷ false ∷ false ∷ []
unfolding clap_on_literals
bad_args = refl

bad_live_args :
    map (λ args. all_are is_usage (fault_of program_app args)) (
    (codes "live" ∷ codes "--servers" ∷ codes "9" ∷ []) ∷ (codes "live" ∷ codes "--servers" ∷ codes "0" ∷ [])
    ∷ (codes "live" ∷ codes "--turns" ∷ codes "0" ∷ []) ∷ (codes "live" ∷ codes "--turns" ∷ codes "1000000001" ∷ [])
    ∷ (codes "live" ∷ codes "--turns" ∷ codes "x" ∷ []) ∷ (codes "live" ∷ codes "--turns" ∷ []) ∷ (codes "live" ∷ codes "--turn" ∷ codes "3" ∷ [])
    ∷ (codes "live" ∷ codes "--turns" ∷ codes "2" ∷ codes "--turns" ∷ codes "2" ∷ []) ∷ (codes "live" ∷ codes "extra" ∷ [])
    ∷ (codes "replay" ∷ codes "--turns" ∷ codes "3" ∷ []) ∷ (codes "session" ∷ codes "--turns" ∷ codes "3" ∷ [])
    ∷ (codes "live" ∷ []) ∷ (codes "live" ∷ codes "--turns" ∷ codes "1000000000" ∷ codes "--servers" ∷ codes "8" ∷ []) ∷ []
    )
    ≡ true ∷ true
    ∷ true ∷ true
    ∷ true ∷ true ∷ true
    ∷ true ∷ true
    ∷ true ∷ true
    ∷ false ∷ false ∷ []
unfolding clap_on_literals
bad_live_args = refl

memory_is_neither : is_help OutOfMemory ≡ is_usage OutOfMemory
memory_is_neither = refl
