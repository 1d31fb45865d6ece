-- Each part that is read was written so, and what was written is read.
use Rattle.std.proofs.Common.{◌≡◌, ℕ, zero, suc, ◌^◌, ◌<◌, ◌≤◌, Bool, true, false, cond, ltb, leb, List, [], ◌∷◌, ◌++◌, length, take, drop, Option, Some, None, Ok, Err, refl, sym, subst, append_assoc, arith}
use Rattle.std.specs.Prelude.{⊤, ◌&&◌}
use Rattle.std.specs.Int.{Width, w32, w64, byte_len, from_le_bytes, to_le_bytes}
use Rattle.std.specs.Str.{is_utf8}
use Rattle.std.proofs.lemmas.Bool.{ltb-false, le-ltb, lt-ltb, leb-true, le-leb, ltb-true}
use Rattle.std.proofs.lemmas.List.{take_at, drop_at, take-append-drop, length-append, length-take}
use Rattle.std.proofs.lemmas.Nat.{le_bytes_4, le_bytes_8, from_le_bytes-to_le_bytes_4, from_le_bytes-to_le_bytes_8}
use Rattle.cq_base.specs.declared.limits.TheConstants.{MOMENT_LIMIT, SECONDS_LIMIT, BATCH_LIMIT}
use Rattle.cq_base.specs.Handle.{Handle, IsHandle}
use Rattle.cq_base.specs.Texts.{is_queue_name, is_id, is_body}
use Rattle.cq_wire.specs.declared.fault.WireFault.{WireFault}
use Rattle.cq_wire.specs.declared.fault.WireFault.TheVariants.{Truncated, BadText, BadNumber}
use Rattle.cq_wire.specs.Layout.{number32, number64, text, flag, optional, receipt}
use Rattle.cq_wire.specs.Limits.{IsServer, IsName, IsId, IsBody, IsSeconds, IsBatch, IfThere}
use Rattle.cq_wire.specs.Reading.{◌>>=◌, Reader, kept, number_at, bytes_at, run_at, server_at, text_at, flag_at, moment_at, seconds_at, batch_at, name_at, id_at, body_at, optional_at, receipt_at}
use Rattle.cq_wire.proofs.Fronts.{IsBytes, IsBytes-take, IsBytes-drop, IsBytes-rest, Takes, Takes-then, Reads, IsRead, bind_ok, ok_is, kept_ok}
use Rattle.cq_wire.proofs.Sequences.{kept_reads, kept_is_read}

-- a test that didn't fail
guard_ok : {A : Type 0} (b : Bool) (d : WireFault) (x y : A) → cond b (Err d) (Ok x) ≡ Ok y → (b ≡ false) × (x ≡ y)
guard_ok true d x y e = absurd cc
guard_ok false d x y e = (refl, cc)

-- ---- numbers

record IsWide (w : Width) (limit : ℕ) : Type 0 where
  len : (n : ℕ) → length (to_le_bytes w n) ≡ byte_len w
  back : (bytes : List ℕ) → length bytes ≡ byte_len w → IsBytes bytes → to_le_bytes w (from_le_bytes w bytes) ≡ bytes
  again : (n : ℕ) → n < limit → from_le_bytes w (to_le_bytes w n) ≡ n
  below : (bytes : List ℕ) → IsBytes bytes → from_le_bytes w bytes < limit

wide32 : IsWide w32 (2 ^ 32)
wide32 = record {
  len = λ n. refl;
  back = λ bytes len fits. le_bytes_4 bytes _ len fits refl;
  again = λ n lt. from_le_bytes-to_le_bytes_4 n lt;
  below = λ bytes fits. omega (arith, fits 0, fits 1, fits 2, fits 3);
}

wide64 : IsWide w64 (2 ^ 64)
wide64 = record {
  len = λ n. refl;
  back = λ bytes len fits. le_bytes_8 bytes _ len fits refl;
  again = λ n lt. from_le_bytes-to_le_bytes_8 n lt;
  below = λ bytes fits. omega (arith, fits 0, fits 1, fits 2, fits 3, fits 4, fits 5, fits 6, fits 7);
}

number_reads : (w : Width) (limit : ℕ) → IsWide w limit → Reads (to_le_bytes w) (number_at w) (λ n. n < limit)
unfolding number_at
number_reads w limit wide bytes x fits e =
    let g = guard_ok (ltb (length bytes) (byte_len w)) Truncated (from_le_bytes w (take (byte_len w) bytes), drop (byte_len w) bytes) x e in
    let long : byte_len w ≤ length bytes = ltb-false _ _ g.0 in
    let front-fits = IsBytes-take (byte_len w) bytes fits in
    let back = wide.back (take (byte_len w) bytes) (omega (arith, length-take (byte_len w) bytes)) front-fits in
    let made : Takes bytes (to_le_bytes w (from_le_bytes w (take (byte_len w) bytes))) (drop (byte_len w) bytes) = record { parts = rw back (sym (take-append-drop (byte_len w) bytes)); rest_fits = IsBytes-drop (byte_len w) bytes fits } in
    subst (λ y. Takes bytes (to_le_bytes w y.0) y.1 × (y.0 < limit)) g.1 (made, wide.below (take (byte_len w) bytes) front-fits)

number_is_read : (w : Width) (limit : ℕ) → IsWide w limit → IsRead (to_le_bytes w) (number_at w) (λ n. n < limit)
unfolding number_at
number_is_read w limit wide n rest lt =
    let len = wide.len n in
    let long : ltb (length (to_le_bytes w n ++ rest)) (byte_len w) ≡ false = le-ltb _ _ (omega (arith, length-append (to_le_bytes w n) rest)) in
    rw (long, take_at (to_le_bytes w n) rest (byte_len w) len, drop_at (to_le_bytes w n) rest (byte_len w) len, wide.again n lt) refl

pub reads32 : Reads number32 (number_at w32) (λ n. n < 2 ^ 32)
unfolding number32
reads32 bytes x fits e = number_reads w32 (2 ^ 32) wide32 bytes x fits e

pub reads64 : Reads number64 (number_at w64) (λ n. n < 2 ^ 64)
unfolding number64
reads64 bytes x fits e = number_reads w64 (2 ^ 64) wide64 bytes x fits e

pub is_read32 : IsRead number32 (number_at w32) (λ n. n < 2 ^ 32)
unfolding number32
is_read32 n rest lt = number_is_read w32 (2 ^ 32) wide32 n rest lt

pub is_read64 : IsRead number64 (number_at w64) (λ n. n < 2 ^ 64)
unfolding number64
is_read64 n rest lt = number_is_read w64 (2 ^ 64) wide64 n rest lt

-- ---- texts

abbrev IsText : List ℕ → Type 0
IsText t = (length t < 2 ^ 32) × (is_utf8 t ≡ true)

bytes_take : (n : ℕ) (bytes : List ℕ) (x : List ℕ × List ℕ) → IsBytes bytes → bytes_at n bytes ≡ Ok x → Takes bytes x.0 x.1 × (length x.0 ≡ n)
unfolding bytes_at
bytes_take n bytes x fits e =
    let g = guard_ok (ltb (length bytes) n) Truncated (take n bytes, drop n bytes) x e in
    let long : n ≤ length bytes = ltb-false _ _ g.0 in
    let len : length (take n bytes) ≡ n = omega (arith, length-take n bytes) in
    let made : Takes bytes (take n bytes) (drop n bytes) = record { parts = sym (take-append-drop n bytes); rest_fits = IsBytes-drop n bytes fits } in
    subst (λ (y : List ℕ × List ℕ). Takes bytes y.0 y.1 × (length y.0 ≡ n)) g.1 (made, len)

pub run_reads : Reads text run_at (λ t. length t < 2 ^ 32)
unfolding run_at text
run_reads bytes x fits e =
    let n = bind_ok (number_at w32 bytes) (λ n. bytes_at n.0 n.1) x e in
    let number = reads32 bytes n.0 fits n.1 in
    let front = bytes_take n.0.0 n.0.1 x number.0.rest_fits n.2 in
    let both = Takes-then bytes (number32 n.0.0) n.0.1 x.0 x.1 number.0 front.0 in
    (subst (λ (m : ℕ). Takes bytes (number32 m ++ x.0) x.1) (sym front.1) both, omega (arith, front.1, number.1))

pub run_is_read : IsRead text run_at (λ t. length t < 2 ^ 32)
unfolding run_at bytes_at text
run_is_read t rest fits =
    let long : ltb (length (t ++ rest)) (length t) ≡ false = le-ltb _ _ (omega (arith, length-append t rest)) in
    let grouped : (number32 (length t) ++ t) ++ rest ≡ number32 (length t) ++ (t ++ rest) = simp append_assoc in
    rw (grouped, is_read32 (length t) (t ++ rest) fits, long, take_at t rest (length t) refl, drop_at t rest (length t) refl) refl

pub server_reads : Reads number32 server_at IsServer
unfolding server_at
server_reads bytes x fits e = let r = kept_reads number32 (number_at w32) (λ n. n < 2 ^ 32) (λ n. leb 1 n) BadNumber reads32 bytes x fits e in (r.0, (leb-true _ _ r.1.1, r.1.0))

pub server_is_read : IsRead number32 server_at IsServer
unfolding server_at
server_is_read n rest le = kept_is_read number32 (number_at w32) (λ n. n < 2 ^ 32) (λ n. leb 1 n) BadNumber is_read32 n rest (le.1, le-leb _ _ le.0)

pub text_reads : Reads text text_at IsText
unfolding text_at text
text_reads bytes x fits e =
    let n = bind_ok (number_at w32 bytes) (λ n. bytes_at n.0 n.1 >>= λ t. kept (is_utf8 t.0) BadText t) x e in
    let number = reads32 bytes n.0 fits n.1 in
    let t = bind_ok (bytes_at n.0.0 n.0.1) (λ t. kept (is_utf8 t.0) BadText t) x n.2 in
    let k = kept_ok (is_utf8 t.0.0) BadText t.0 x t.2 in
    let front = bytes_take n.0.0 n.0.1 t.0 number.0.rest_fits t.1 in
    let both = Takes-then bytes (number32 n.0.0) n.0.1 t.0.0 t.0.1 number.0 front.0 in
    let whole : Takes bytes (number32 (length t.0.0) ++ t.0.0) t.0.1 = subst (λ (m : ℕ). Takes bytes (number32 m ++ t.0.0) t.0.1) (sym front.1) both in
    subst (λ (y : List ℕ × List ℕ). Takes bytes (number32 (length y.0) ++ y.0) y.1 × IsText y.0) k.1 (whole, (omega (arith, front.1, number.1), k.0))

pub text_is_read : IsRead text text_at IsText
unfolding text_at bytes_at text
text_is_read t rest fits =
    let long : ltb (length (t ++ rest)) (length t) ≡ false = le-ltb _ _ (omega (arith, length-append t rest)) in
    let grouped : (number32 (length t) ++ t) ++ rest ≡ number32 (length t) ++ (t ++ rest) = simp append_assoc in
    rw (grouped, is_read32 (length t) (t ++ rest) fits.0, long, take_at t rest (length t) refl, drop_at t rest (length t) refl, fits.1) refl

name_length : (t : List ℕ) → is_queue_name t ≡ true → length t < 2 ^ 32
name_length t h = grind (arith, h)

id_length : (t : List ℕ) → is_id t ≡ true → length t < 2 ^ 32
id_length t h = grind (arith, h)

body_length : (t : List ℕ) → is_body t ≡ true → length t < 2 ^ 32
body_length t h = grind (arith, h)

pub name_reads : Reads text name_at IsName
unfolding name_at
name_reads bytes x fits e = let r = kept_reads text text_at IsText is_queue_name BadText text_reads bytes x fits e in (r.0, (r.1.0.1, r.1.1))

pub name_is_read : IsRead text name_at IsName
unfolding name_at
name_is_read t rest fits = kept_is_read text text_at IsText is_queue_name BadText text_is_read t rest ((name_length t fits.1, fits.0), fits.1)

pub id_reads : Reads text id_at IsId
unfolding id_at
id_reads bytes x fits e = let r = kept_reads text text_at IsText is_id BadText text_reads bytes x fits e in (r.0, (r.1.0.1, r.1.1))

pub id_is_read : IsRead text id_at IsId
unfolding id_at
id_is_read t rest fits = kept_is_read text text_at IsText is_id BadText text_is_read t rest ((id_length t fits.1, fits.0), fits.1)

pub body_reads : Reads text body_at IsBody
unfolding body_at
body_reads bytes x fits e = let r = kept_reads text text_at IsText is_body BadText text_reads bytes x fits e in (r.0, (r.1.0.1, r.1.1))

pub body_is_read : IsRead text body_at IsBody
unfolding body_at
body_is_read t rest fits = kept_is_read text text_at IsText is_body BadText text_is_read t rest ((body_length t fits.1, fits.0), fits.1)

-- ---- flags and options

pub flag_reads : Reads flag flag_at (λ _. ⊤)
unfolding flag_at flag
flag_reads [] x fits e = absurd cc
flag_reads (zero ∷ bytes) x fits e = subst (λ (y : Bool × List ℕ). Takes (0 ∷ bytes) (flag y.0) y.1 × ⊤) (ok_is (false, bytes) x e) (record { parts = refl; rest_fits = IsBytes-rest 0 bytes fits }, tt)
flag_reads (suc zero ∷ bytes) x fits e = subst (λ (y : Bool × List ℕ). Takes (1 ∷ bytes) (flag y.0) y.1 × ⊤) (ok_is (true, bytes) x e) (record { parts = refl; rest_fits = IsBytes-rest 1 bytes fits }, tt)
flag_reads (suc (suc b) ∷ bytes) x fits e = absurd cc

pub flag_is_read : IsRead flag flag_at (λ _. ⊤)
unfolding flag_at flag
flag_is_read false rest _ = refl
flag_is_read true rest _ = refl

there_reads : {A : Type 0} (layout : A → List ℕ) (read : Reader A) (P : A → Type 0) → Reads layout read P → (bytes rest : List ℕ) (b : Bool) (x : Option A × List ℕ) → Takes bytes (flag b) rest
    → cond b (read rest >>= λ y. Ok (Some y.0, y.1)) (Ok (None, rest)) ≡ Ok x → Takes bytes (optional layout x.0) x.1 × IfThere P x.0
unfolding flag optional
there_reads {A} layout read P reads bytes rest false x t e = subst (λ (y : Option A × List ℕ). Takes bytes (optional layout y.0) y.1 × IfThere P y.0) (ok_is (None, rest) x e) (t, tt)
there_reads {A} layout read P reads bytes rest true x t e =
    let y = bind_ok (read rest) (λ y. Ok (Some y.0, y.1)) x e in
    let r = reads rest y.0 t.rest_fits y.1 in
    subst (λ (z : Option A × List ℕ). Takes bytes (optional layout z.0) z.1 × IfThere P z.0) (ok_is (Some y.0.0, y.0.1) x y.2) (Takes-then bytes (1 ∷ []) rest (layout y.0.0) y.0.1 t r.0, r.1)

pub optional_reads : {A : Type 0} (layout : A → List ℕ) (read : Reader A) (P : A → Type 0) → Reads layout read P → Reads (optional layout) (optional_at read) (IfThere P)
unfolding optional_at
optional_reads layout read P reads bytes x fits e =
    let b = bind_ok (flag_at bytes) (λ there. cond there.0 (read there.1 >>= λ y. Ok (Some y.0, y.1)) (Ok (None, there.1))) x e in
    let t = flag_reads bytes b.0 fits b.1 in
    there_reads layout read P reads bytes b.0.1 b.0.0 x t.0 b.2

pub optional_is_read : {A : Type 0} (layout : A → List ℕ) (read : Reader A) (P : A → Type 0) → IsRead layout read P → IsRead (optional layout) (optional_at read) (IfThere P)
unfolding optional optional_at flag_at
optional_is_read layout read P is_read None rest fits = refl
optional_is_read layout read P is_read (Some x) rest fits = rw (is_read x rest fits) refl

-- ---- numbers that keep a rule

pub moment_reads : Reads number64 moment_at (λ n. n ≤ MOMENT_LIMIT)
unfolding moment_at
moment_reads bytes x fits e = let r = kept_reads number64 (number_at w64) (λ n. n < 2 ^ 64) (λ n. leb n MOMENT_LIMIT) BadNumber reads64 bytes x fits e in (r.0, leb-true _ _ r.1.1)

pub moment_is_read : IsRead number64 moment_at (λ n. n ≤ MOMENT_LIMIT)
unfolding moment_at
moment_is_read n rest le = kept_is_read number64 (number_at w64) (λ n. n < 2 ^ 64) (λ n. leb n MOMENT_LIMIT) BadNumber is_read64 n rest (omega (arith, le), le-leb _ _ le)

pub seconds_reads : Reads number32 seconds_at IsSeconds
unfolding seconds_at
seconds_reads bytes x fits e = let r = kept_reads number32 (number_at w32) (λ n. n < 2 ^ 32) (λ n. leb n SECONDS_LIMIT) BadNumber reads32 bytes x fits e in (r.0, leb-true _ _ r.1.1)

pub seconds_is_read : IsRead number32 seconds_at IsSeconds
unfolding seconds_at
seconds_is_read n rest le = kept_is_read number32 (number_at w32) (λ n. n < 2 ^ 32) (λ n. leb n SECONDS_LIMIT) BadNumber is_read32 n rest (omega (arith, le), le-leb _ _ le)

both_true : (a b : Bool) → (a && b) ≡ true → (a ≡ true) × (b ≡ true)
both_true true true e = (refl, refl)
both_true true false e = absurd cc
both_true false b e = absurd cc

pub batch_reads : Reads number32 batch_at IsBatch
unfolding batch_at
batch_reads bytes x fits e =
    let r = kept_reads number32 (number_at w32) (λ n. n < 2 ^ 32) (λ n. leb 1 n && leb n BATCH_LIMIT) BadNumber reads32 bytes x fits e in
    let b = both_true (leb 1 x.0) (leb x.0 BATCH_LIMIT) r.1.1 in
    (r.0, (leb-true _ _ b.0, leb-true _ _ b.1))

pub batch_is_read : IsRead number32 batch_at IsBatch
unfolding batch_at
batch_is_read n rest le = kept_is_read number32 (number_at w32) (λ n. n < 2 ^ 32) (λ n. leb 1 n && leb n BATCH_LIMIT) BadNumber is_read32 n rest (omega (arith, le.1), rw (le-leb _ _ le.0, le-leb _ _ le.1) refl)

-- ---- receipts

three_true : (a b c : Bool) → (a && b && c) ≡ true → (a ≡ true) × ((b ≡ true) × (c ≡ true))
three_true true true true e = (refl, (refl, refl))
three_true true true false e = absurd cc
three_true true false c e = absurd cc
three_true false b c e = absurd cc

pub receipt_reads : Reads receipt receipt_at IsHandle
unfolding receipt_at receipt
receipt_reads bytes x fits e =
    let a = bind_ok (number_at w64 bytes) (λ a. number_at w64 a.1 >>= λ b. number_at w64 b.1 >>= λ c. kept (ltb 0 a.0 && ltb 0 b.0 && ltb 0 c.0) BadNumber (record { incarnation = a.0; sequence = b.0; handing = c.0 }, c.1)) x e in
    let b = bind_ok (number_at w64 a.0.1) (λ b. number_at w64 b.1 >>= λ c. kept (ltb 0 a.0.0 && ltb 0 b.0 && ltb 0 c.0) BadNumber (record { incarnation = a.0.0; sequence = b.0; handing = c.0 }, c.1)) x a.2 in
    let c = bind_ok (number_at w64 b.0.1) (λ c. kept (ltb 0 a.0.0 && ltb 0 b.0.0 && ltb 0 c.0) BadNumber (record { incarnation = a.0.0; sequence = b.0.0; handing = c.0 }, c.1)) x b.2 in
    let made : Handle × List ℕ = (record { incarnation = a.0.0; sequence = b.0.0; handing = c.0.0 }, c.0.1) in
    let k = kept_ok (ltb 0 a.0.0 && ltb 0 b.0.0 && ltb 0 c.0.0) BadNumber made x c.2 in
    let above = three_true (ltb 0 a.0.0) (ltb 0 b.0.0) (ltb 0 c.0.0) k.0 in
    let ta = reads64 bytes a.0 fits a.1 in
    let tb = reads64 a.0.1 b.0 ta.0.rest_fits b.1 in
    let tc = reads64 b.0.1 c.0 tb.0.rest_fits c.1 in
    let second = Takes-then a.0.1 (number64 b.0.0) b.0.1 (number64 c.0.0) c.0.1 tb.0 tc.0 in
    let whole = Takes-then bytes (number64 a.0.0) a.0.1 (number64 b.0.0 ++ number64 c.0.0) c.0.1 ta.0 second in
    let handle : IsHandle made.0 = record { incarnation = (ltb-true _ _ above.0, ta.1); sequence = (ltb-true _ _ above.1.0, tb.1); handing = (ltb-true _ _ above.1.1, tc.1) } in
    subst (λ (y : Handle × List ℕ). Takes bytes (number64 y.0.incarnation ++ (number64 y.0.sequence ++ number64 y.0.handing)) y.1 × IsHandle y.0) k.1 (whole, handle)

pub receipt_is_read : IsRead receipt receipt_at IsHandle
unfolding receipt_at receipt
receipt_is_read h rest fits =
    let grouped : (number64 h.incarnation ++ (number64 h.sequence ++ number64 h.handing)) ++ rest ≡ number64 h.incarnation ++ (number64 h.sequence ++ (number64 h.handing ++ rest)) = simp append_assoc in
    rw (grouped, is_read64 h.incarnation (number64 h.sequence ++ (number64 h.handing ++ rest)) fits.incarnation.1, is_read64 h.sequence (number64 h.handing ++ rest) fits.sequence.1, is_read64 h.handing rest fits.handing.1, lt-ltb 0 h.incarnation fits.incarnation.0, lt-ltb 0 h.sequence fits.sequence.0, lt-ltb 0 h.handing fits.handing.0) refl
