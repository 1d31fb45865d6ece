-- What of a text is written, in parts.
use Rattle.std.proofs.Common.{◌≡◌, ℕ, List, [], ◌∷◌, ◌++◌, length, take, Option, Result, Ok, Err, IfErr, refl, sym, ap, ◌∙◌, append_assoc, append-nil}
use Rattle.std.specs.Io.KnownBytes.{Appends}
use Rattle.std.proofs.lemmas.List.{take_at}
use Rattle.cq_base.specs.Relations.{IsPrefix}
use Rattle.cq_frame_loop.specs.Chains.{Relation, Breaks, Step}
use Rattle.cq_frame_loop.specs.within.Advances.{FailsAt, StopsAt}
use Rattle.cq_frame_loop.specs.Writes.{BreaksOffAt, IsWriteFault, Passes, Takes}
use Rattle.cq_frame_loop.specs.declared.fault.LoopFault.{LoopFault}
use Rattle.cq_frame_loop.specs.declared.fault.LoopFault.TheVariants.{NoMemory, ReadFailed, WriteFailed, Unanswered, Interrupted, TooManyBytes}

-- a prefix of a text is one of that text and another
pub prefix_more : (out end output : List ℕ) → IsPrefix output out → IsPrefix output (out ++ end)
prefix_more out end output part = (part.0 ++ end, ap (λ xs. xs ++ end) part.1 ∙ append_assoc output part.0 end)

-- a text was written, and then another one
pub both_passed : (result : Result (Unit {0}) LoopFault) (out end first second rest : List ℕ) → out ≡ first ++ [] → rest ≡ [] → Passes result end second [] → Passes result (out ++ end) (first ++ second) rest
both_passed (Ok _) out end first second rest all none more =
    ap (λ xs. xs ++ end) (all ∙ append-nil first) ∙ ap (λ xs. first ++ xs) more ∙ sym (append_assoc first second []) ∙ ap (λ xs. (first ++ second) ++ xs) (sym none)
both_passed (Err fault) out end first second rest all none more =
    (more.0, (more.1.0, ap (λ xs. xs ++ end) (all ∙ append-nil first) ∙ ap (λ xs. first ++ xs) more.1.1 ∙ sym (append_assoc first second more.1.0)))

-- a write failed at a frame
stops_by : {S : Type 0} (answers : Relation S) (breaks : Breaks S) (fault : LoopFault) (s end : S) (frame : Option (List ℕ)) (told output : List ℕ) → IsWriteFault fault → StopsAt answers s frame told output → FailsAt answers breaks fault s frame told output end
stops_by answers breaks NoMemory s end frame told output kind stops = absurd kind
stops_by answers breaks ReadFailed s end frame told output kind stops = absurd kind
stops_by answers breaks WriteFailed s end frame told output kind stops = stops
stops_by answers breaks Unanswered s end frame told output kind stops = absurd kind
stops_by answers breaks Interrupted s end frame told output kind stops = stops
stops_by answers breaks TooManyBytes s end frame told output kind stops = absurd kind

-- a frame was answered, and then the writing failed
pub take_fails : {S : Type 0} (answers : Relation S) (breaks : Breaks S) (result : Result (Unit {0}) LoopFault) (s t : S) (frame : Option (List ℕ)) (text told all rest : List ℕ) (old new : Option (List ℕ))
    → answers s frame text t → all ≡ told ++ text → Takes result all rest old new → IfErr result (λ fault. (output : List ℕ) × Appends old new output × FailsAt answers breaks fault s frame told output t)
take_fails answers breaks (Ok _) s t frame text told all rest old new answered is took = tt
take_fails {S} answers breaks (Err fault) s t frame text told all rest old new answered is took =
    let one : List (Step S) = record { frame = frame; text = text; after = t } ∷ [] in
    let stops : StopsAt answers s frame told took.0 = (one, t, (answered, refl), ([], refl), (took.2.1.0, ap (λ xs. told ++ xs) (append-nil text) ∙ sym is ∙ took.2.1.1)) in
    (took.0, took.1, stops_by answers breaks fault s t frame told took.0 took.2.0 stops)

-- what was told before, and then the text of a frame, of which some was written
pub told_on : (output out text more rest : List ℕ) → out ++ text ≡ more ++ rest → (output ++ more) ++ rest ≡ (output ++ out) ++ text
told_on output out text more rest is = append_assoc output more rest ∙ ap (λ xs. output ++ xs) (sym is) ∙ sym (append_assoc output out text)

-- what was told before is the front of what is there
pub cut_back : (told all : List ℕ) (len : ℕ) → len ≡ length told → IsPrefix told all → take len all ≡ told
cut_back told all len is front = ap (take len) front.1 ∙ take_at told front.0 len (sym is)

-- a frame can't be answered
pub off_fails : {S : Type 0} (answers : Relation S) (breaks : Breaks S) (fault : LoopFault) (s end : S) (frame : Option (List ℕ)) (told left output : List ℕ) → left ≡ told → breaks s frame end → BreaksOffAt fault left output → FailsAt answers breaks fault s frame told output end
off_fails answers breaks NoMemory s end frame told left output is broke off = absurd off
off_fails answers breaks ReadFailed s end frame told left output is broke off = absurd off
off_fails answers breaks WriteFailed s end frame told left output is broke off = ([], s, refl, (frame ∷ [], refl), (off.0, append-nil told ∙ sym is ∙ off.1))
off_fails answers breaks Unanswered s end frame told left output is broke off = (off ∙ is, broke)
off_fails answers breaks Interrupted s end frame told left output is broke off = ([], s, refl, (frame ∷ [], refl), (off.0, append-nil told ∙ sym is ∙ off.1))
off_fails answers breaks TooManyBytes s end frame told left output is broke off = absurd off
