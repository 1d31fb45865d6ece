-- The bytes of responses of a fixed length.
use Rattle.std.proofs.Common.{◌≡◌, ℕ, ◌∙◌, ap, sym, refl, List, [], ◌∷◌, ◌++◌, length, append_assoc, length-append, arith, Bool, true, false}
use Rattle.cq_base.specs.declared.party.Party.TheVariants.{Server}
use Rattle.cq_frames.specs.declared.response.Response.TheVariants.{Refused, Unread, Waiting, Done}
use Rattle.cq_frames.specs.declared.response.Standing.{Standing}
use Rattle.cq_frames.specs.Layout.{party, response, standing}
use Rattle.cq_process_frames.specs.Frames.{frame}
use Rattle.cq_process_frames.proofs.Overwriting.{length64}
use Rattle.cq_wire.specs.declared.version.TheConstants.{VERSION}
use Rattle.cq_wire.specs.Layout.{flag, number32, number64, text, whole}

-- one behind the other
pub both-behind : (a b c xs ys : List ℕ) → b ≡ a ++ xs → c ≡ b ++ ys → c ≡ a ++ (xs ++ ys)
both-behind a b c xs ys h k = k ∙ ap (λ zs. zs ++ ys) h ∙ append_assoc a xs ys

pub refused-frame : (code : ℕ) → (6 ∷ 0 ∷ 0 ∷ 0 ∷ VERSION ∷ 1 ∷ []) ++ number32 code ≡ frame (Refused code)
unfolding number32 text whole response
refused-frame code = refl

pub unread-frame : (code : ℕ) → (6 ∷ 0 ∷ 0 ∷ 0 ∷ VERSION ∷ 2 ∷ []) ++ number32 code ≡ frame (Unread code)
unfolding number32 text whole response
unread-frame code = refl

pub waiting-frame : (id n : ℕ) → n ≡ id → (7 ∷ 0 ∷ 0 ∷ 0 ∷ VERSION ∷ 3 ∷ 2 ∷ []) ++ number32 n ≡ frame (Waiting (Server id))
unfolding number32 text whole response party
waiting-frame id n is = ap (λ m. (7 ∷ 0 ∷ 0 ∷ 0 ∷ VERSION ∷ 3 ∷ 2 ∷ []) ++ number32 m) is

flag-length : (b : Bool) → length (flag b) ≡ 1
unfolding flag
flag-length true = refl
flag-length false = refl

standing-length : (s : Standing) → length (VERSION ∷ 5 ∷ standing s) ≡ 29
unfolding standing
standing-length s =
    let a = length-append (number64 s.count) (number64 s.acked ++ (number64 s.last ++ (flag s.is_head ++ (flag s.is_acting ++ flag s.is_full)))) in
    let b = length-append (number64 s.acked) (number64 s.last ++ (flag s.is_head ++ (flag s.is_acting ++ flag s.is_full))) in
    let d = length-append (number64 s.last) (flag s.is_head ++ (flag s.is_acting ++ flag s.is_full)) in
    let e = length-append (flag s.is_head) (flag s.is_acting ++ flag s.is_full) in
    let f = length-append (flag s.is_acting) (flag s.is_full) in
    let count = length64 s.count in
    let acked = length64 s.acked in
    let last = length64 s.last in
    let head = flag-length s.is_head in
    let acting = flag-length s.is_acting in
    let full = flag-length s.is_full in
    omega arith

standing-frame : (s : Standing) → (29 ∷ 0 ∷ 0 ∷ 0 ∷ VERSION ∷ 5 ∷ []) ++ standing s ≡ frame (Done s)
unfolding number32 text whole response
standing-frame s = ap (λ n. number32 n ++ (VERSION ∷ 5 ∷ standing s)) (sym (standing-length s))

pub done-frame : (s : Standing) (last : ℕ) → last ≡ s.last
    → (29 ∷ 0 ∷ 0 ∷ 0 ∷ VERSION ∷ 5 ∷ []) ++ (number64 s.count ++ (number64 s.acked ++ (number64 last ++ (flag s.is_head ++ (flag s.is_acting ++ flag s.is_full))))) ≡ frame (Done s)
unfolding standing
done-frame s last is = ap (λ n. (29 ∷ 0 ∷ 0 ∷ 0 ∷ VERSION ∷ 5 ∷ []) ++ (number64 s.count ++ (number64 s.acked ++ (number64 n ++ (flag s.is_head ++ (flag s.is_acting ++ flag s.is_full)))))) is ∙ standing-frame s
