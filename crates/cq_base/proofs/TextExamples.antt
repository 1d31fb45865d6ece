-- Worked texts, receipts, and numbers and names of refusals and faults.
use Rattle.std.proofs.Common.{◌≡◌, ℕ, ◌+◌, ◌≤◌, [], ◌∷◌, ◌++◌, map, replicate, true, false, codes, inl, inr, refl, arith}
use Rattle.cq_base.specs.declared.fault.BaseFault.TheVariants.{BadQueueName, BadGroup, BadDedup, InvalidMessageContents, BodyLength, NoMemory}
use Rattle.cq_base.specs.declared.reply.Refusal.TheVariants.{QueueDoesNotExist, QueueNameExists, QueueDeletedRecently, ReceiptHandleIsInvalid, MessageNotInflight, VisibilityBeyondLimit, StaleNumber}
use Rattle.cq_base.specs.Fault.{code_of, name_of}
use Rattle.cq_base.specs.Handle.{Handle, IsHandle}
use Rattle.cq_base.specs.Refusals.{refusal_code, refusal_name}
use Rattle.cq_base.specs.Relations.{Among, Pairwise, IsPrefix}
use Rattle.cq_base.specs.Texts.{is_name_byte, is_queue_name, is_id, is_body_character, has_body_length}

-- ---- texts

-- `/` `0` `9` `:` `@` `A` `Z` `[` and `` ` `` `a` `z` `{`
name_bytes : map is_name_byte (47 ∷ 48 ∷ 57 ∷ 58 ∷ 64 ∷ 65 ∷ 90 ∷ 91 ∷ 96 ∷ 97 ∷ 122 ∷ 123 ∷ []) ≡ false ∷ true ∷ true ∷ false ∷ false ∷ true ∷ true ∷ false ∷ false ∷ true ∷ true ∷ false ∷ []
name_bytes = refl

-- `,` `-` `.`, then `^` `_`, and no byte beyond ASCII
name_marks : map is_name_byte (44 ∷ 45 ∷ 46 ∷ 94 ∷ 95 ∷ 195 ∷ []) ≡ false ∷ true ∷ false ∷ false ∷ true ∷ false ∷ []
name_marks = refl

names : map is_queue_name (codes "a.fifo" ∷ codes "a-Z_0.fifo" ∷ (replicate 75 97 ++ codes ".fifo") ∷ []) ≡ true ∷ true ∷ true ∷ []
names = refl

no_names : map is_queue_name ((replicate 76 97 ++ codes ".fifo") ∷ codes ".fifo" ∷ [] ∷ codes "a" ∷ codes "a.fif" ∷ codes "abcdef" ∷ codes "a.FIFO" ∷ codes "a b.fifo" ∷ codes "a.b.fifo" ∷ codes "a.fifo " ∷ []) ≡ false ∷ false ∷ false ∷ false ∷ false ∷ false ∷ false ∷ false ∷ false ∷ false ∷ []
no_names = refl

ids : map is_id (codes "a" ∷ codes "!~" ∷ codes "a.B/0{" ∷ replicate 128 97 ∷ []) ≡ true ∷ true ∷ true ∷ true ∷ []
ids = refl

no_ids : map is_id ([] ∷ replicate 129 97 ∷ codes "a b" ∷ (127 ∷ []) ∷ (32 ∷ []) ∷ (195 ∷ 164 ∷ []) ∷ []) ≡ false ∷ false ∷ false ∷ false ∷ false ∷ false ∷ []
no_ids = refl

body_characters : map is_body_character (9 ∷ 10 ∷ 13 ∷ 32 ∷ 55295 ∷ 57344 ∷ 65533 ∷ 65536 ∷ 1114111 ∷ []) ≡ true ∷ true ∷ true ∷ true ∷ true ∷ true ∷ true ∷ true ∷ true ∷ []
body_characters = refl

no_body_characters : map is_body_character (0 ∷ 8 ∷ 11 ∷ 12 ∷ 14 ∷ 31 ∷ 55296 ∷ 57343 ∷ 65534 ∷ 65535 ∷ 1114112 ∷ []) ≡ false ∷ false ∷ false ∷ false ∷ false ∷ false ∷ false ∷ false ∷ false ∷ false ∷ false ∷ []
no_body_characters = refl

body_lengths : map has_body_length ([] ∷ (97 ∷ []) ∷ replicate 262144 97 ∷ replicate 262145 97 ∷ []) ≡ false ∷ true ∷ true ∷ false ∷ []
body_lengths = refl

-- ---- receipts

abbrev handle : ℕ → ℕ → ℕ → Handle
handle incarnation sequence handing = record { incarnation = incarnation; sequence = sequence; handing = handing }

-- none of the numbers is 0 or has more than 64 bits
largest_handle : IsHandle (handle 1 1 18446744073709551615)
largest_handle = record { incarnation = (omega arith, omega arith); sequence = (omega arith, omega arith); handing = (omega arith, omega arith) }

no_zero : IsHandle (handle 1 1 0) → ⊥
no_zero h = omega (arith, h.handing.0)

no_zero_sequence : IsHandle (handle 1 0 1) → ⊥
no_zero_sequence h = omega (arith, h.sequence.0)

no_zero_incarnation : IsHandle (handle 0 1 1) → ⊥
no_zero_incarnation h = omega (arith, h.incarnation.0)

not_larger : IsHandle (handle 18446744073709551616 1 1) → ⊥
not_larger h = omega (arith, h.incarnation.1)

-- ---- refusals and faults

refusal_codes : map refusal_code (QueueDoesNotExist ∷ QueueNameExists ∷ QueueDeletedRecently ∷ ReceiptHandleIsInvalid ∷ MessageNotInflight ∷ VisibilityBeyondLimit ∷ StaleNumber ∷ []) ≡ 1 ∷ 2 ∷ 3 ∷ 4 ∷ 5 ∷ 6 ∷ 7 ∷ []
refusal_codes = refl

refusal_names : map refusal_name (QueueDoesNotExist ∷ QueueNameExists ∷ QueueDeletedRecently ∷ ReceiptHandleIsInvalid ∷ MessageNotInflight ∷ VisibilityBeyondLimit ∷ StaleNumber ∷ []) ≡ codes "QueueDoesNotExist" ∷ codes "QueueNameExists" ∷ codes "QueueDeletedRecently" ∷ codes "ReceiptHandleIsInvalid" ∷ codes "MessageNotInflight" ∷ codes "VisibilityBeyondLimit" ∷ codes "StaleNumber" ∷ []
refusal_names = refl

fault_codes : map code_of (BadQueueName ∷ BadGroup ∷ BadDedup ∷ InvalidMessageContents ∷ BodyLength ∷ NoMemory ∷ []) ≡ 11 ∷ 12 ∷ 13 ∷ 14 ∷ 15 ∷ 20 ∷ []
fault_codes = refl

fault_names : map name_of (BadQueueName ∷ BadGroup ∷ BadDedup ∷ InvalidMessageContents ∷ BodyLength ∷ NoMemory ∷ []) ≡ codes "BadQueueName" ∷ codes "BadGroup" ∷ codes "BadDedup" ∷ codes "InvalidMessageContents" ∷ codes "BodyLength" ∷ codes "NoMemory" ∷ []
fault_names = refl

-- ---- words on lists

among : Among {X = ℕ} 2 (1 ∷ 2 ∷ 3 ∷ [])
among = inr (inl refl)

not_among : Among {X = ℕ} 4 (1 ∷ 2 ∷ []) → ⊥
not_among (inl e) = omega (arith, e)
not_among (inr (inl e)) = omega (arith, e)
not_among (inr (inr none)) = none

-- each pair counts, also of elements that aren't neighbours
not_pairwise : Pairwise {X = ℕ} (λ x y. x ≤ y + 1) (3 ∷ 2 ∷ 1 ∷ []) → ⊥
not_pairwise h = omega (arith, h.0 1 (inr (inl refl)))

prefix : IsPrefix {X = ℕ} (1 ∷ []) (1 ∷ 2 ∷ [])
prefix = (2 ∷ [], refl)

not_prefix : IsPrefix {X = ℕ} (2 ∷ []) (1 ∷ 2 ∷ []) → ⊥
not_prefix (rest, e) = cc
