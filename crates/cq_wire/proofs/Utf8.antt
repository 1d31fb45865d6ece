-- What is known of bytes that are UTF-8, or aren't.
use Rattle.std.proofs.Common.{◌≡◌, List, ℕ, Bool, true, false, IsUtf8, refl}
use Rattle.std.specs.Prelude.{Ok, Err}
use Rattle.std.specs.Str.{is_utf8}
use Rattle.std.proofs.lemmas.Str.{is_utf8-from_IsUtf8, IsUtf8-from_is_utf8}
use Rattle.cq_wire.specs.declared.fault.WireFault.TheVariants.{BadText}
use Rattle.cq_wire.specs.within.Checked.{utf8_in}

pub utf8_is : (bytes : List ℕ) → IsUtf8 bytes → is_utf8 bytes ≡ true
utf8_is bytes h = is_utf8-from_IsUtf8 bytes h

pub utf8_found : (bytes : List ℕ) → IsUtf8 bytes → utf8_in bytes ≡ Ok bytes
utf8_found bytes h = rw (utf8_is bytes h) refl

not_utf8 : (bytes : List ℕ) (b : Bool) → is_utf8 bytes ≡ b → (IsUtf8 bytes → ⊥) → utf8_in bytes ≡ Err BadText
not_utf8 bytes true is never = absurd (never (IsUtf8-from_is_utf8 bytes is))
not_utf8 bytes false is never = rw is refl

pub utf8_refused : (bytes : List ℕ) → (IsUtf8 bytes → ⊥) → utf8_in bytes ≡ Err BadText
utf8_refused bytes never = not_utf8 bytes (is_utf8 bytes) refl never
