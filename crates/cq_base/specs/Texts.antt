-- Which texts are names, ids and bodies. A text is the list of its bytes.
use Rattle.std.specs.Prelude.{ℕ, ◌-◌, ◌&&◌, ◌||◌, ◌==◌, Bool, List, length, take, codes, nat_le, nat_lt, nat_eq}
use Rattle.std.specs.List.{list_all, ends_with}
use Rattle.std.specs.Str.{chars}
use Rattle.cq_base.specs.declared.limits.TheConstants.{NAME_LIMIT, ID_LIMIT, FIRST_ID_BYTE, LAST_ID_BYTE, BODY_LIMIT}
use Rattle.hex.specs.Hex.{encode_lower}
use Rattle.sha2.specs.Sha256.{sha256}

-- n is from low to high
abbrev pub is_within : ℕ → ℕ → ℕ → Bool
is_within low high n = nat_le low n && nat_le n high

-- an ASCII letter, a digit, `-` or `_`
abbrev pub is_name_byte : ℕ → Bool
is_name_byte b = is_within 97 122 b || is_within 65 90 b || is_within 48 57 b || b == 45 || b == 95

-- A queue name: at most 80 bytes, `.fifo` at its end, and before that one or more letters, digits,
-- hyphens and underscores (SQS API Reference, "CreateQueue", `QueueName`; that something stands
-- before the suffix is a choice of this project).
abbrev pub is_queue_name : List ℕ → Bool
is_queue_name bytes = nat_le (length bytes) NAME_LIMIT && nat_lt 5 (length bytes) && ends_with nat_eq bytes (codes ".fifo") && list_all is_name_byte (take (length bytes - 5) bytes)

-- a letter, a digit or a punctuation mark of ASCII, without the space
abbrev pub is_id_byte : ℕ → Bool
is_id_byte b = is_within FIRST_ID_BYTE LAST_ID_BYTE b

-- A message group id or a message deduplication id: 1 to 128 letters, digits and punctuation marks of
-- ASCII, without the space (SQS API Reference, "SendMessage", `MessageGroupId` and
-- `MessageDeduplicationId`).
abbrev pub is_id : List ℕ → Bool
is_id bytes = nat_le 1 (length bytes) && nat_le (length bytes) ID_LIMIT && list_all is_id_byte bytes

-- A character that a message may have: tab, line feed, carriage return, and the Unicode characters
-- U+0020 to U+D7FF, U+E000 to U+FFFD and U+10000 to U+10FFFF (SQS API Reference, "SendMessage",
-- `MessageBody`).
abbrev pub is_body_character : ℕ → Bool
is_body_character c = c == 9 || c == 10 || c == 13 || is_within 0x20 0xD7FF c || is_within 0xE000 0xFFFD c || is_within 0x1_0000 0x10_FFFF c

-- each character of the text is one that a message may have
abbrev pub has_body_characters : List ℕ → Bool
has_body_characters bytes = list_all is_body_character (chars bytes)

-- from 1 to 262,144 bytes (256 KiB; the limit is a choice of this project)
abbrev pub has_body_length : List ℕ → Bool
has_body_length bytes = is_within 1 BODY_LIMIT (length bytes)

-- a message body
abbrev pub is_body : List ℕ → Bool
is_body bytes = has_body_characters bytes && has_body_length bytes

-- The deduplication id that is made of a body: the SHA-256 of its bytes, as 64 lower-case hex digits (SQS
-- API Reference, "CreateQueue", `ContentBasedDeduplication`; that the digits are hex, and lower case, is a
-- choice of this project).
abbrev pub made_id : List ℕ → List ℕ
made_id body = encode_lower (sha256 body)
