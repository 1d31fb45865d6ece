-- What serde_json says of its reader, in the words of `json_of`.
use Rattle.std.proofs.Common.{◌≡◌, ℕ, List, Bool, true, false, Some, None, IsUtf8, refl}
use Rattle.std.proofs.lemmas.Str.{is_utf8-from_IsUtf8, IsUtf8-from_is_utf8}
use Rattle.std.specs.Str.{is_utf8}
use Rattle.serde_json.specs.Data.{Data}
use Rattle.serde_json.specs.Read.{read}
use Rattle.cq_json.specs.Fields.{json_of}

-- a text that reads as a value
pub json_of_read : (bytes : List ℕ) (d : Data) → IsUtf8 bytes → read bytes ≡ Some d → json_of bytes ≡ Some d
json_of_read bytes d text reads = rw (is_utf8-from_IsUtf8 bytes text) reads

refused_at : (bytes : List ℕ) (b : Bool) → is_utf8 bytes ≡ b → (IsUtf8 bytes → read bytes ≡ None) → json_of bytes ≡ None
refused_at bytes true is reads = rw is (reads (IsUtf8-from_is_utf8 bytes is))
refused_at bytes false is reads = rw is

-- bytes that are no text, or a text that reads as no value
pub json_of_refused : (bytes : List ℕ) → (IsUtf8 bytes → read bytes ≡ None) → json_of bytes ≡ None
json_of_refused bytes reads = refused_at bytes _ refl reads
