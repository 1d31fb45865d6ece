-- The command line of the program, in the words of clap's own specification.
use Rattle.std.specs.Prelude.{◌≡◌, ◌⊎◌, ℕ, ◌-◌, ◌≤◌, ◌&&◌, nat_le, if◌then◌else◌, List, Option, Some, None, option_and_then, option_map, Bool, true, false, [], ◌∷◌, codes, pos, ⊤}
use Rattle.std.specs.Str.{all_ascii_digits, bytes_eq}
use Rattle.std.specs.Str.Parse.{IsNumeral, digits_value, without_leading_plus}
use Rattle.clap.specs.Words.{App, Row, Rule, Text, first_of, new_app, new_rule, one_of, with_rule, with_subcommand}
use Rattle.clap.specs.Simple.{on_top}
use Rattle.clap.specs.declared.builder.action.ArgAction.TheVariants.{SetTrue}
use Rattle.clap.specs.declared.builder.value_parser.ValueParser.TheVariants.{Signed, Unsigned}
use Rattle.cq_args.specs.declared.invocation.Invocation.{Invocation}
use Rattle.cq_args.specs.declared.invocation.Invocation.TheVariants.{Copy, Dump, Explain, First, Joining, Kept, KeptServer, Live, Loaded, Master, Replay, Session, Verify, Watch}

-- how many servers the chain begins with; no command about a journal's file has any, and none about a server that joins
abbrev pub size_of : Invocation → ℕ
size_of (Replay size) = size
size_of (Session size) = size
size_of (Kept size journal) = size
size_of (Live size turns) = size
size_of (Verify path) = 0
size_of (Copy path to) = 0
size_of (Dump path) = 0
size_of (First id size) = size
size_of (Joining id) = 0
size_of Loaded = 0
size_of (KeptServer path mebibytes no_create) = 0
size_of (Master size) = size
size_of (Explain size is_live) = size
size_of (Watch size) = size

-- the name of the command
abbrev pub name_of : Invocation → Text
name_of (Replay size) = codes "replay"
name_of (Session size) = codes "session"
name_of (Kept size journal) = codes "session"
name_of (Live size turns) = codes "live"
name_of (Verify path) = codes "verify"
name_of (Copy path to) = codes "copy"
name_of (Dump path) = codes "dump"
name_of (First id size) = codes "server"
name_of (Joining id) = codes "server"
name_of Loaded = codes "server"
name_of (KeptServer path mebibytes no_create) = codes "server"
name_of (Master size) = codes "master"
name_of (Explain size is_live) = codes "explain"
name_of (Watch size) = codes "watch"

-- `--servers N`, a number from 1 to 8, and its text if it isn't given
abbrev pub servers_rule : Text → Rule
servers_rule default = record (new_rule (codes "servers")) {
  long = Some (codes "servers");
  value_names = 1;
  defaults = default ∷ [];
  parser = Some (Signed (pos 1) (pos 8));
}

-- a command of that name, with `[--servers N]`, and the text of that number if it isn't given
abbrev pub command_app : Text → Text → App
command_app name default = with_rule (new_app name) (servers_rule default)

-- the name of the command for sessions
abbrev pub session_name : Text
session_name = codes "session"

-- the names of the commands for processes
abbrev pub server_name : Text
server_name = codes "server"

abbrev pub master_name : Text
master_name = codes "master"

-- and that of the command that explains lines
abbrev pub explain_name : Text
explain_name = codes "explain"

-- and that of the one that shows what they do
abbrev pub watch_name : Text
watch_name = codes "watch"

-- `--journal FILE`
abbrev pub journal_rule : Rule
journal_rule = record (new_rule (codes "journal")) {
  long = Some (codes "journal");
  value_names = 1;
}

-- `--journal-size MIB`, a number from 64 to 1,048,576
abbrev pub journal_size_rule : Rule
journal_size_rule = record (new_rule (codes "journal-size")) {
  long = Some (codes "journal-size");
  value_names = 1;
  parser = Some (Unsigned 64 1048576);
}

-- `--no-create`
abbrev pub no_create_rule : Rule
no_create_rule = record (new_rule (codes "no-create")) {
  long = Some (codes "no-create");
  action = Some SetTrue;
}

-- `--two-syncs`
abbrev pub two_syncs_rule : Rule
two_syncs_rule = record (new_rule (codes "two-syncs")) {
  long = Some (codes "two-syncs");
  action = Some SetTrue;
}

-- `--tell-store`
abbrev pub tell_store_rule : Rule
tell_store_rule = record (new_rule (codes "tell-store")) {
  long = Some (codes "tell-store");
  action = Some SetTrue;
}

-- `session [--servers N] [--journal FILE] [--journal-size MIB] [--two-syncs] [--tell-store]`, on 1 server if no number is given
abbrev pub session_app : App
session_app = with_rule (with_rule (with_rule (with_rule (command_app (codes "session") (codes "1")) journal_rule) journal_size_rule) two_syncs_rule) tell_store_rule

-- the most turns that may be asked for
abbrev pub most_turns : ℕ
most_turns = 1000000000

-- `--turns T`, a number from 1 to the most, which is the most if it isn't given
abbrev pub turns_rule : Rule
turns_rule = record (new_rule (codes "turns")) {
  long = Some (codes "turns");
  value_names = 1;
  defaults = codes "1000000000" ∷ [];
  parser = Some (Unsigned 1 most_turns);
}

-- `live [--servers N] [--turns T]`, on 3 servers if no number is given
abbrev pub live_app : App
live_app = with_rule (command_app (codes "live") (codes "3")) turns_rule

-- `FILE` or `TO`, which has to be there
abbrev pub file_rule : Text → Rule
file_rule id = record (new_rule id) { required = true }

-- a command of that name, `verify FILE` or `dump FILE`
abbrev pub file_app : Text → App
file_app name = with_rule (new_app name) (file_rule (codes "FILE"))

-- a command of that name, `copy FILE TO`
abbrev pub files_app : Text → App
files_app name = with_rule (file_app name) (file_rule (codes "TO"))

-- the program without its commands; its arguments begin behind its name, and it has a version to tell
abbrev pub bare_app : App
bare_app = on_top (λ s. record s { no_binary_name = true; has_version = true }) (new_app (codes "cq"))

-- a program with that command added
abbrev pub with_command : App → App → App
with_command program command = with_subcommand program command.top

-- the program with its commands `replay`, `session` and `live`; the first two have 1 server if no number is given
abbrev pub serving_app : App
serving_app =
    with_command (with_command
    (with_command bare_app (command_app (codes "replay") (codes "1"))) session_app)
    live_app

-- the program, with `verify`, `copy` and `dump` too
abbrev pub journal_app : App
journal_app =
    with_command (with_command (with_command serving_app (file_app (codes "verify"))) (files_app (codes "copy"))) (file_app (codes "dump"))

-- `--id N`, a number from 1 to 2^32 - 1, which has to be there
abbrev pub id_rule : Rule
id_rule = record (new_rule (codes "id")) {
  long = Some (codes "id");
  value_names = 1;
  required = true;
  parser = Some (Signed (pos 1) (pos 4294967295));
}

-- `--first SIZE`, a number from 1 to 8
abbrev pub first_rule : Rule
first_rule = record (new_rule (codes "first")) {
  long = Some (codes "first");
  value_names = 1;
  parser = Some (Signed (pos 1) (pos 8));
}

-- `--joining`
abbrev pub joining_rule : Rule
joining_rule = record (new_rule (codes "joining")) {
  long = Some (codes "joining");
  action = Some SetTrue;
}

-- `--load`
abbrev pub load_rule : Rule
load_rule = record (new_rule (codes "load")) {
  long = Some (codes "load");
  action = Some SetTrue;
}

-- `--wire V`, which is 1, also if it isn't given
abbrev pub wire_rule : Rule
wire_rule = record (new_rule (codes "wire")) {
  long = Some (codes "wire");
  value_names = 1;
  defaults = codes "1" ∷ [];
  parser = Some (Signed (pos 1) (pos 1));
}

-- `server --id N [--first SIZE] [--joining] [--load]`, of which one of the second and the third has to be there
abbrev pub placed_server_app : App
placed_server_app = with_rule (with_rule (with_rule (with_rule (new_app (codes "server")) id_rule) first_rule) joining_rule) load_rule

-- and `[--journal FILE] [--journal-size MIB] [--no-create]`
abbrev pub stored_server_app : App
stored_server_app = with_rule (with_rule (with_rule placed_server_app journal_rule) journal_size_rule) no_create_rule

-- and `[--wire V]`
abbrev pub server_app : App
server_app = with_rule stored_server_app wire_rule

-- `--servers N`, a number from 1 to 8, which has to be there
abbrev pub size_rule : Rule
size_rule = record (new_rule (codes "servers")) {
  long = Some (codes "servers");
  value_names = 1;
  required = true;
  parser = Some (Signed (pos 1) (pos 8));
}

-- `master --servers N [--wire V]`
abbrev pub master_app : App
master_app = with_rule (with_rule (new_app (codes "master")) size_rule) wire_rule

-- the program, with `server` and `master` too
abbrev pub process_app : App
process_app = with_command (with_command journal_app server_app) master_app

-- `--live`
abbrev pub is_live_rule : Rule
is_live_rule = record (new_rule (codes "live")) {
  long = Some (codes "live");
  action = Some SetTrue;
}

-- `explain [--servers N] [--live]`, on 1 server if no number is given
abbrev pub explain_app : App
explain_app = with_rule (command_app (codes "explain") (codes "1")) is_live_rule

-- `watch [--servers N]`, on 1 server if no number is given
abbrev pub watch_app : App
watch_app = command_app (codes "watch") (codes "1")

-- the program, with `explain` and `watch` too
abbrev pub program_app : App
program_app = with_command (with_command process_app explain_app) watch_app

-- the text of the number of servers that a parse found: "1" where no subcommand stands
abbrev pub text_in : Option (Text × List Row) → Option Text
text_in None = Some (codes "1")
text_in (Some found) = one_of (codes "servers") found.1

-- the name of the command that a parse found: "replay" where no subcommand stands
abbrev pub name_in : Option (Text × List Row) → Text
name_in None = codes "replay"
name_in (Some found) = found.0

-- the text of the number of turns that a parse found, if it found one
abbrev pub turns_text : Option (Text × List Row) → Option Text
turns_text found = option_and_then (λ command. one_of (codes "turns") command.1) found

-- there is a text, of which a plus may stand first, and it is that number in decimal
abbrev pub IsNumber : Option Text → ℕ → Type 0
IsNumber found number = (text : Text) × (found ≡ Some text) × (number ≡ digits_value 10 (without_leading_plus text))

-- so many servers are asked for
abbrev pub IsSized : Option (Text × List Row) → ℕ → Type 0
IsSized found servers = IsNumber (text_in found) servers

-- so many turns are asked for, if it is a live run that is chosen
abbrev pub HasTurns : Option (Text × List Row) → Invocation → Type 0
HasTurns found (Live size turns) = IsNumber (turns_text found) turns
HasTurns found _ = ⊤

-- A session has no journal just where none is asked for, and else the one of that file: 256 mebibytes if none are given.
abbrev pub AsksJournal : List Row → Invocation → Type 0
AsksJournal rows (Session size) = first_of (codes "journal") rows ≡ None
AsksJournal rows (Kept size journal) =
    (first_of (codes "journal") rows ≡ Some journal.path.now)
    × (IsNumber (one_of (codes "journal-size") rows) journal.mebibytes ⊎ (journal.mebibytes ≡ 256))
    × (one_of (codes "two-syncs") rows ≡ Some (codes "true") → journal.two_syncs ≡ true)
    × (one_of (codes "tell-store") rows ≡ Some (codes "true") → journal.tell_store ≡ true)
AsksJournal rows _ = ⊤

-- and that is so of what a parse found
abbrev pub HasJournal : Option (Text × List Row) → Invocation → Type 0
HasJournal None invocation = ⊤
HasJournal (Some found) invocation = AsksJournal found.1 invocation

-- it is about a journal's file
abbrev pub IsOnFile : Invocation → Type 0
IsOnFile (Verify path) = ⊤
IsOnFile (Copy path to) = ⊤
IsOnFile (Dump path) = ⊤
IsOnFile _ = ⊥

-- so many servers are asked for, if the command has any
abbrev pub HasServers : Option (Text × List Row) → Invocation → Type 0
HasServers found (Verify path) = ⊤
HasServers found (Copy path to) = ⊤
HasServers found (Dump path) = ⊤
HasServers found (First id size) = ⊤
HasServers found (Joining id) = ⊤
HasServers found Loaded = ⊤
HasServers found (KeptServer path mebibytes no_create) = ⊤
HasServers found invocation = IsSized found (size_of invocation)

-- these files are named, if the command is about any
abbrev pub AsksFiles : List Row → Invocation → Type 0
AsksFiles rows (Verify path) = first_of (codes "FILE") rows ≡ Some path.now
AsksFiles rows (Copy path to) = (first_of (codes "FILE") rows ≡ Some path.now) × (first_of (codes "TO") rows ≡ Some to.now)
AsksFiles rows (Dump path) = first_of (codes "FILE") rows ≡ Some path.now
AsksFiles rows _ = ⊤

-- and that is so of what a parse found
abbrev pub HasFiles : Option (Text × List Row) → Invocation → Type 0
HasFiles None invocation = IsOnFile invocation → ⊥
HasFiles (Some found) invocation = AsksFiles found.1 invocation

-- it is a process of a chain, or it explains or watches lines
abbrev pub IsProcess : Invocation → Type 0
IsProcess (First id size) = ⊤
IsProcess (Joining id) = ⊤
IsProcess Loaded = ⊤
IsProcess (KeptServer path mebibytes no_create) = ⊤
IsProcess (Master size) = ⊤
IsProcess (Explain size is_live) = ⊤
IsProcess (Watch size) = ⊤
IsProcess _ = ⊥

-- without a journal, it keeps that server of a first chain of so many, that server which joins, or the only one which begins with a store
abbrev pub AsksServer : List Row → Invocation → Type 0
AsksServer rows (First id size) =
    IsNumber (one_of (codes "id") rows) id × IsNumber (one_of (codes "first") rows) size × (id ≤ size)
    × (one_of (codes "joining") rows ≡ Some (codes "true") → ⊥) × (one_of (codes "load") rows ≡ Some (codes "true") → ⊥)
AsksServer rows (Joining id) =
    IsNumber (one_of (codes "id") rows) id × (one_of (codes "joining") rows ≡ Some (codes "false") → ⊥) × (one_of (codes "load") rows ≡ Some (codes "true") → ⊥)
AsksServer rows Loaded =
    IsNumber (one_of (codes "id") rows) 1 × IsNumber (one_of (codes "first") rows) 1 × (one_of (codes "load") rows ≡ Some (codes "false") → ⊥)
AsksServer rows _ = ⊥

-- The only server of a first chain, with a journal in that file: of 256 mebibytes if none are given, and not made if `--no-create` is.
pub record AsksKept (rows : List Row) (path : Text) (mebibytes : ℕ) (no_create : Bool) : Type 0 where
  pub file : first_of (codes "journal") rows ≡ Some path
  pub id : IsNumber (one_of (codes "id") rows) 1
  pub first : IsNumber (one_of (codes "first") rows) 1
  pub length : IsNumber (one_of (codes "journal-size") rows) mebibytes ⊎ (mebibytes ≡ 256)
  pub alone : one_of (codes "joining") rows ≡ Some (codes "true") → ⊥
  pub empty : one_of (codes "load") rows ≡ Some (codes "true") → ⊥
  pub is_told : one_of (codes "no-create") rows ≡ Some (codes "true") → no_create ≡ true
  pub is_not_told : one_of (codes "no-create") rows ≡ Some (codes "false") → no_create ≡ false

-- So it keeps a server where no journal is named, or the only one of a first chain with a journal in that file. Or it keeps the master of a
-- first chain of so many servers, explains the lines of a script on so many, or of a live script, or watches those of a session on so many.
abbrev pub AsksProcess : List Row → Invocation → Type 0
AsksProcess rows (First id size) = AsksServer rows (First id size) × (first_of (codes "journal") rows ≡ None)
AsksProcess rows (Joining id) = AsksServer rows (Joining id) × (first_of (codes "journal") rows ≡ None)
AsksProcess rows Loaded = AsksServer rows Loaded × (first_of (codes "journal") rows ≡ None)
AsksProcess rows (KeptServer path mebibytes no_create) = AsksKept rows path.now mebibytes no_create
AsksProcess rows (Master size) = IsNumber (one_of (codes "servers") rows) size
AsksProcess rows (Explain size is_live) =
    IsNumber (one_of (codes "servers") rows) size × (one_of (codes "live") rows ≡ Some (codes "true") → is_live ≡ true)
    × (one_of (codes "live") rows ≡ Some (codes "false") → is_live ≡ false)
AsksProcess rows (Watch size) = IsNumber (one_of (codes "servers") rows) size
AsksProcess rows _ = ⊤

-- a server of that number of a first chain of so many, or the only one, which begins with a store
abbrev pub IsFirstIn : ℕ → ℕ → Bool → Invocation → Type 0
IsFirstIn id size is_loading it = ((it ≡ First id size) × (id ≤ size) × (is_loading ≡ false)) ⊎ ((it ≡ Loaded) × (id ≡ 1) × (size ≡ 1) × (is_loading ≡ true))

-- and that is so of what a parse found
abbrev pub HasProcess : Option (Text × List Row) → Invocation → Type 0
HasProcess None invocation = IsProcess invocation → ⊥
HasProcess (Some found) invocation = AsksProcess found.1 invocation

-- the command of that name is asked for, on so many servers, for so many turns, with that journal, about these files, or as that
-- process of a chain
abbrev pub IsAsked : Option (Text × List Row) → Invocation → Type 0
IsAsked found invocation =
    (name_in found ≡ name_of invocation) × HasServers found invocation × HasTurns found invocation × HasJournal found invocation × HasFiles found invocation
    × HasProcess found invocation

-- ---- good arguments

-- if a live run is chosen, there is a text, of which a plus may stand first: digits, which are the number of its turns
abbrev pub ReadsTurns : Option Text → Invocation → Type 0
ReadsTurns found (Live size turns) =
    (text : Text) × (found ≡ Some text) × IsNumeral 10 (without_leading_plus text)
    × (turns ≡ digits_value 10 (without_leading_plus text)) × (turns ≤ most_turns)
ReadsTurns found _ = ⊤

-- nothing is said of a journal
abbrev pub LacksJournal : List Row → Type 0
LacksJournal rows = (first_of (codes "journal") rows ≡ None) × (one_of (codes "journal-size") rows ≡ None) × (one_of (codes "two-syncs") rows ≡ Some (codes "false"))
    × (one_of (codes "tell-store") rows ≡ Some (codes "false"))

-- if it is a session without one that is chosen; no command about a file, and no process of a chain, is
abbrev pub LacksJournalIn : Option (Text × List Row) → Invocation → Type 0
LacksJournalIn (Some found) (Session size) = LacksJournal found.1
LacksJournalIn None (Session size) = ⊥
LacksJournalIn found (Kept size journal) = ⊥
LacksJournalIn found (Verify path) = ⊥
LacksJournalIn found (Copy path to) = ⊥
LacksJournalIn found (Dump path) = ⊥
LacksJournalIn found (First id size) = ⊥
LacksJournalIn found (Joining id) = ⊥
LacksJournalIn found Loaded = ⊥
LacksJournalIn found (KeptServer path mebibytes no_create) = ⊥
LacksJournalIn found (Master size) = ⊥
LacksJournalIn found (Explain size is_live) = ⊥
LacksJournalIn found (Watch size) = ⊥
LacksJournalIn found _ = ⊤

-- the number that a text of one digit from 1 to 8 is
abbrev pub digit_of : Text → Option ℕ
digit_of (byte ∷ []) = if nat_le 49 byte && nat_le byte 56 then Some (byte - 48) else None
digit_of _ = None

-- the number that a text of digits is, if that is from 1 to the most turns
abbrev pub turns_of : Text → Option ℕ
turns_of text =
    if all_ascii_digits text && (nat_le 1 (digits_value 10 text) && nat_le (digits_value 10 text) most_turns)
    then Some (digits_value 10 text) else None

-- the number of servers that the arguments behind `replay` or `session` ask for: none, or `--servers N`
abbrev pub asked_servers : List Text → Option ℕ
asked_servers [] = Some 1
asked_servers (option ∷ number ∷ []) = if bytes_eq option (codes "--servers") then digit_of number else None
asked_servers _ = None

-- a live run on so many servers, for so many turns, if both are known
abbrev pub live_of : Option ℕ → Option ℕ → Option Invocation
live_of (Some servers) (Some turns) = Some (Live servers turns)
live_of _ _ = None

-- the live run that one option and its number ask for
abbrev pub live_by_one : Text → Text → Option Invocation
live_by_one option number =
    if bytes_eq option (codes "--servers") then live_of (digit_of number) (Some most_turns)
    else (if bytes_eq option (codes "--turns") then live_of (Some 3) (turns_of number) else None)

-- the live run that two options and their numbers ask for, each option once, in either order
abbrev pub live_by_two : Text → Text → Text → Text → Option Invocation
live_by_two first one second two =
    if bytes_eq first (codes "--servers") && bytes_eq second (codes "--turns") then live_of (digit_of one) (turns_of two)
    else (if bytes_eq first (codes "--turns") && bytes_eq second (codes "--servers")
    then live_of (digit_of two) (turns_of one) else None)

-- the live run that the arguments behind `live` ask for: none, `--servers N`, `--turns T`, or both
abbrev pub asked_live : List Text → Option Invocation
asked_live [] = Some (Live 3 most_turns)
asked_live (option ∷ number ∷ []) = live_by_one option number
asked_live (first ∷ one ∷ second ∷ two ∷ []) = live_by_two first one second two
asked_live _ = None

-- what good arguments ask for: none, or `replay`, `session` or `live` and good arguments behind it
abbrev pub asked_invocation : List Text → Option Invocation
asked_invocation [] = Some (Replay 1)
asked_invocation (arg ∷ options) =
    if bytes_eq arg (codes "replay") then option_map Replay (asked_servers options)
    else (if bytes_eq arg (codes "session") then option_map Session (asked_servers options)
    else (if bytes_eq arg (codes "live") then asked_live options else None))
