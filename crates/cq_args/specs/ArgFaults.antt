-- Which faults of the arguments ask for help or for the version, and which say that the arguments are at fault.
use Rattle.std.specs.Prelude.{Bool, true, false, [], ◌∷◌}
use Rattle.std.specs.List.{list_all}
use Rattle.clap.specs.Kinds.{Kinds}
use Rattle.clap.specs.declared.error.kind.ErrorKind.{ErrorKind}
use Rattle.clap.specs.declared.error.kind.ErrorKind.TheVariants.{DisplayHelp, DisplayVersion, OutOfMemory}

-- help was asked for, and not what the arguments may else be taken for
abbrev pub is_help : ErrorKind → Bool
is_help DisplayHelp = true
is_help _ = false

-- the version was asked for
abbrev pub is_version : ErrorKind → Bool
is_version DisplayVersion = true
is_version _ = false

-- the arguments are at fault
abbrev pub is_usage : ErrorKind → Bool
is_usage DisplayHelp = false
is_usage DisplayVersion = false
is_usage OutOfMemory = false
is_usage _ = true

-- there is a fault, and each that may be told is such a one
abbrev pub all_are : (ErrorKind → Bool) → Kinds → Bool
all_are is_such [] = false
all_are is_such (kind ∷ kinds) = list_all is_such (kind ∷ kinds)
