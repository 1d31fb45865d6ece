-- A device that loses its records: its first gate is shut, zeros are written behind it chunk by chunk, and over it in the end.
use Rattle.std.proofs.Common.{◌≡◌, ◌≢◌, ◌⊎◌, inl, inr, ⊎_elim, ℕ, zero, suc, ◌+◌, ◌-◌, ◌<◌, ◌≤◌, true, List, [], ◌∷◌, ◌++◌, length, take, drop, refl, sym, ◌∙◌, ap, arith, length-append, append_assoc, length-take, take-append-drop}
use Rattle.std.specs.Prelude.{nat_le, replicate, slice_index}
use Rattle.std.proofs.lemmas.Bool.{cases_Bool, cases_eq, and_parts, true≢false}
use Rattle.std.proofs.lemmas.List.{take_at, length-replicate, replicate-append-replicate}
use Rattle.cq_disk.specs.declared.device.TornWrites.{TornWrites}
use Rattle.cq_disk.specs.Device.{Torn, Overlaid}
use Rattle.cq_records.specs.Frames.{is_plain, is_whole, frames}
use Rattle.cq_records.specs.within.Blanks.{HasZerosBehind}
use Rattle.cq_records.proofs.Frames.{whole_parts, none_whole, closed, index_prefix}

pub zeros_on : (first old new bytes : List ℕ) (done many : ℕ) → bytes ≡ replicate many 0 → 1 ≤ done → length first ≡ 1 → take done old ≡ first ++ replicate (done - 1) 0 → Overlaid old done bytes new
    → take (done + many) new ≡ first ++ replicate (done + many - 1) 0
zeros_on first old new bytes done many zeros some one so_far written =
    let rest = drop (done + length bytes) old in
    let sum : (done - 1) + many ≡ done + many - 1 = omega (arith, some) in
    let prefix : List ℕ = first ++ replicate (done + many - 1) 0 in
    let joined : (first ++ replicate (done - 1) 0) ++ replicate many 0 ≡ prefix =
    append_assoc first (replicate (done - 1) 0) (replicate many 0) ∙ ap (λ (l : List ℕ). first ++ l) (replicate-append-replicate (done - 1) many 0 ∙ ap (λ (n : ℕ). replicate n 0) sum) in
    let is : new ≡ prefix ++ rest = written ∙ (λ i. so_far i ++ (zeros i ++ rest)) ∙ sym (append_assoc (first ++ replicate (done - 1) 0) (replicate many 0) rest) ∙ ap (λ (l : List ℕ). l ++ rest) joined in
    let long : length prefix ≡ done + many = omega (arith, length-append first (replicate (done + many - 1) 0), length-replicate {A = ℕ} (done + many - 1) 0, one, some) in
    ap (λ (l : List ℕ). take (done + many) l) is ∙ take_at prefix rest (done + many) long

first_of : (at : ℕ) (d : List ℕ) → 1 ≤ at → 1 ≤ length d → slice_index (take at d) 0 ≡ slice_index d 0
first_of at d some long = sym (index_prefix (take at d) (drop at d) 0 (omega (arith, length-take at d, some, long))) ∙ ap (λ (l : List ℕ). slice_index l 0) (take-append-drop at d)

-- a write behind the first byte leaves that one
pub torn_first : (torn : TornWrites) (at : ℕ) (bytes d c : List ℕ) → 1 ≤ at → Torn torn at bytes d c → slice_index c 0 ≡ slice_index d 0
torn_first torn at bytes d c some t =
    let long : 1 ≤ length d = omega (arith, t.within, some) in
    ap (λ (l : List ℕ). slice_index l 0) t.is ∙ index_prefix (take at d) (t.range ++ drop (at + length bytes) d) 0 (omega (arith, length-take at d, some, long)) ∙ first_of at d some long

pub no_records : (c : List ℕ) (g : ℕ) → slice_index c 0 ≡ g → g ≢ 2 → frames c ≡ []
no_records c g is shut = closed c (λ two. shut (sym is ∙ two))

-- zeros behind any first byte
headless : (x n : ℕ) → frames (x ∷ replicate n 0) ≡ []
headless x zero = none_whole (x ∷ []) (⊎_elim (λ whole. absurd (omega (arith, (whole_parts (x ∷ []) whole).within))) (λ is. is) (cases_Bool (is_whole (x ∷ []))))
headless x (suc n) = none_whole (x ∷ replicate (suc n) 0) (⊎_elim (λ whole. absurd (never whole)) (λ is. is) (cases_Bool (is_whole (x ∷ replicate (suc n) 0))))
  where
    never : is_whole (x ∷ replicate (suc n) 0) ≡ true → ⊥
    never whole =
        let w = whole_parts (x ∷ replicate (suc n) 0) whole in
        true≢false (sym (and_parts (nat_le 2 x) (is_plain (take 7 (replicate (suc n) 0))) w.head).1)

single : (l : List ℕ) → length l ≡ 1 → l ≡ slice_index l 0 ∷ []
single [] is = absurd (omega (arith, is))
single (x ∷ []) is = refl
single (x ∷ y ∷ l) is = absurd (omega (arith, is))

-- what one torn byte leaves
one_byte : (torn : TornWrites) (d c : List ℕ) → Torn torn 0 (0 ∷ []) d c → c ≡ slice_index c 0 ∷ drop 1 d
one_byte torn d c t =
    let is : c ≡ slice_index t.range 0 ∷ drop 1 d = t.is ∙ ap (λ (l : List ℕ). l ++ drop 1 d) (single t.range t.long) in
    is ∙ ap (λ (g : ℕ). g ∷ drop 1 d) (sym (ap (λ (l : List ℕ). slice_index l 0) is))

pub torn_shut : (torn : TornWrites) (d c : List ℕ) → slice_index d 0 ≡ 2 → 0 < length d → Torn torn 0 (0 ∷ []) d c → (frames c ≡ []) ⊎ (c ≡ d)
torn_shut torn d c was some t =
    let is = one_byte torn d c t in
    ⊎_elim (λ (one : slice_index c 0 ≡ 2). inr (is ∙ ap (λ (g : ℕ). g ∷ drop 1 d) (one ∙ sym was) ∙ sym (whole_again d some))) (λ (shut : slice_index c 0 ≢ 2). inl (closed c shut)) (cases_eq (slice_index c 0) 2)
  where
    whole_again : (l : List ℕ) → 0 < length l → l ≡ slice_index l 0 ∷ drop 1 l
    whole_again [] more = absurd (omega (arith, more))
    whole_again (x ∷ l) more = refl

pub torn_last : (torn : TornWrites) (old d c : List ℕ) → HasZerosBehind old d → 0 < length old → Torn torn 0 (0 ∷ []) d c → frames c ≡ []
torn_last torn old d c behind some t = ap frames (one_byte torn d c t ∙ ap (λ (l : List ℕ). slice_index c 0 ∷ l) (zeros_behind old d behind some)) ∙ headless (slice_index c 0) (length old - 1)
  where
    zeros_behind : (old d : List ℕ) → HasZerosBehind old d → 0 < length old → drop 1 d ≡ replicate (length old - 1) 0
    zeros_behind [] d is more = absurd (omega (arith, more))
    zeros_behind (x ∷ l) d is more = ap (λ (k : List ℕ). drop 1 k) is

pub all_zeros : (old d new : List ℕ) → HasZerosBehind old d → 0 < length old → Overlaid d 0 (0 ∷ []) new → new ≡ replicate (length old) 0
all_zeros [] d new behind some written = absurd (omega (arith, some))
all_zeros (x ∷ l) d new behind some written =
    let n : suc (length l) - 1 ≡ length l = omega arith in
    written ∙ ap (λ (k : List ℕ). 0 ∷ drop 1 k) behind ∙ ap (λ (m : ℕ). 0 ∷ replicate m 0) n

pub gate_read : (d bytes : List ℕ) → 0 < length d → bytes ≡ take 1 d → slice_index bytes 0 ≡ slice_index d 0
gate_read d bytes some is = ap (λ (l : List ℕ). slice_index l 0) is ∙ first_of 1 d (omega arith) some
