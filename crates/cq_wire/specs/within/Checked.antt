-- Bytes that pass a test.
use Rattle.std.specs.Prelude.{ℕ, List, Result, Ok, Err, if◌then◌else◌}
use Rattle.std.specs.Str.{is_utf8}
use Rattle.cq_wire.specs.declared.fault.WireFault.{WireFault}
use Rattle.cq_wire.specs.declared.fault.WireFault.TheVariants.{BadText}

-- the same bytes, if they are UTF-8
abbrev pub utf8_in : List ℕ → Result (List ℕ) WireFault
utf8_in bytes = if is_utf8 bytes then Ok bytes else Err BadText
