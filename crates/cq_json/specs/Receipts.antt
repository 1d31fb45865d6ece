-- The receipt handle that a text is. It is `Ok h` exactly if the text is that of a handle, and h is that
-- handle: clause `exact` of the function `receipt` in `src/texts.rt`.
use Rattle.std.specs.Prelude.{ℕ, ◌&&◌, ◌==◌, ◌^◌, List, Bool, nat_lt, if◌then◌else◌, Result, Ok, Err}
use Rattle.std.specs.List.{before_first, after_first}
use Rattle.std.specs.Str.{bytes_eq}
use Rattle.std.specs.Str.Parse.{digits_value}
use Rattle.cq_base.specs.Handle.{Handle, handle_text}
use Rattle.cq_json.specs.Fields.{Reason, bad}

-- the byte between two numbers of a handle
abbrev pub is_hyphen : ℕ → Bool
is_hyphen b = b == 45

-- The handle of the numbers before, between and after the first two hyphens. If the text is that of a
-- handle, it is that of this one.
unfoldable pub handle_in : List ℕ → Handle
handle_in text = record {
  incarnation = digits_value 10 (before_first is_hyphen text);
  sequence = digits_value 10 (before_first is_hyphen (after_first is_hyphen text));
  handing = digits_value 10 (after_first is_hyphen (after_first is_hyphen text));
}

-- from 1 to 2 ^ 64 - 1
abbrev pub is_handle_number : ℕ → Bool
is_handle_number n = nat_lt 0 n && nat_lt n (2 ^ 64)

-- so is each of the three numbers
abbrev pub is_handle : Handle → Bool
is_handle h = is_handle_number h.incarnation && is_handle_number h.sequence && is_handle_number h.handing

-- the text is that of this handle, whose numbers are within their limits
abbrev pub is_text_of : Handle → List ℕ → Bool
is_text_of h text = is_handle h && bytes_eq text (handle_text h)

-- the receipt handle with that text; where there is none, the line is bad
unfoldable pub receipt_handle : List ℕ → Result Handle Reason
receipt_handle text = if is_text_of (handle_in text) text then Ok (handle_in text) else Err bad
