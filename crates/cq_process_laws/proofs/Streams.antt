-- The arrivals of one stream: those that were taken are the first ones of those that were given.
use Rattle.std.proofs.Common.{◌≡◌, ℕ, ◌∙◌, ap, sym, refl, subst, Bool, true, false, cond, eqb, leb, leb-true, le-leb, List, [], ◌∷◌, ◌++◌, append_assoc, Option, Some, None, ◌⊎◌, inl, inr, arith}
use Rattle.std.proofs.lemmas.Bool.{eqb-true, leb-false, true≢false}
use Rattle.cq_base.specs.Relations.{IsPrefix}
use Rattle.cq_frame_loop.specs.Chains.{Step}
use Rattle.cq_frames.specs.declared.response.Response.{Response}
use Rattle.cq_frames.specs.Streams.{stream_of}
use Rattle.cq_server_process.specs.declared.process.ServerProcess.{ServerProcess}
use Rattle.cq_server_process.specs.Answers.{ended_with, has_ended}
use Rattle.cq_process_laws.specs.Passing.{refusal_of}
use Rattle.cq_process_laws.specs.Runs.{Done, taken_of}
use Rattle.cq_process_laws.specs.Streams.{given_in, given_of, is_of, taken_by, taken_in}

-- What becomes of a stream by a frame, where all streams up to one had ended before it.
pub record Follows (stream before : ℕ) (given taken : List (List ℕ)) (after : ℕ) : Type 0 where
  -- once it has ended nothing of it is taken
  pub late : has_ended before (Some stream) ≡ true → (taken ≡ []) × (has_ended after (Some stream) ≡ true)
  -- and it has where what was given isn't taken
  pub ends : (taken ≡ given) ⊎ ((taken ≡ []) × (has_ended after (Some stream) ≡ true))

-- so of each stream
abbrev pub FollowsIn : ℕ → Option (List ℕ) → List Response → ℕ → Type 0
FollowsIn before frame told after = (stream : ℕ) → Follows stream before (given_in stream frame) (taken_in stream frame told) after

-- ---- ends

-- a stream that has ended has ended behind each end
still-by : (n t s : ℕ) (b : Bool) → leb t n ≡ b → leb s n ≡ true → leb s (cond b n t) ≡ true
still-by n t s true is h = h
still-by n t s false is h = le-leb s t (omega (arith, leb-true s n h, leb-false t n is))

still-ended : (n : ℕ) (x : Option ℕ) (s : ℕ) → has_ended n (Some s) ≡ true → has_ended (ended_with n x) (Some s) ≡ true
still-ended n None s h = h
still-ended n (Some t) s h = still-by n t s (leb t n) refl h

-- and so has the one that ends
own-by : (n s : ℕ) (b : Bool) → leb s n ≡ b → leb s (cond b n s) ≡ true
own-by n s true is = is
own-by n s false is = le-leb s s (omega arith)

own-ended : (n s : ℕ) → has_ended (ended_with n (Some s)) (Some s) ≡ true
own-ended n s = own-by n s (leb s n) refl

-- ---- of a frame that begins as an arrival of the stream x, or of none

-- what is given of a stream
abbrev given : ℕ → Option ℕ → List ℕ → List (List ℕ)
given stream x bytes = cond (is_of stream x) (bytes ∷ []) []

-- a frame that isn't taken ends its stream
ends-own : (stream before other : ℕ) (bytes : List ℕ) (b : Bool) → eqb other stream ≡ b → ([] ≡ cond b (bytes ∷ []) []) ⊎ (has_ended (ended_with before (Some other)) (Some stream) ≡ true)
ends-own stream before other bytes true is = inr (subst (λ s. has_ended (ended_with before (Some other)) (Some s) ≡ true) (eqb-true other stream is) (own-ended before other))
ends-own stream before other bytes false is = inl refl

ends-by : (stream before : ℕ) (x : Option ℕ) (bytes : List ℕ) → ([] ≡ given stream x bytes) ⊎ (has_ended (ended_with before x) (Some stream) ≡ true)
ends-by stream before None bytes = inl refl
ends-by stream before (Some other) bytes = ends-own stream before other bytes (eqb other stream) refl

-- one of a stream that has ended is one of it
late-own : (stream before other : ℕ) (bytes : List ℕ) (b : Bool) → eqb other stream ≡ b → has_ended before (Some other) ≡ true → ([] ≡ cond b (bytes ∷ []) []) ⊎ (has_ended before (Some stream) ≡ true)
late-own stream before other bytes true is h = inr (subst (λ s. has_ended before (Some s) ≡ true) (eqb-true other stream is) h)
late-own stream before other bytes false is h = inl refl

late-by : (stream before : ℕ) (x : Option ℕ) (bytes : List ℕ) → has_ended before x ≡ true → ([] ≡ given stream x bytes) ⊎ (has_ended before (Some stream) ≡ true)
late-by stream before None bytes h = inl refl
late-by stream before (Some other) bytes h = late-own stream before other bytes (eqb other stream) refl h

-- one of a stream that hasn't ended is none of one that has
other-own : (stream before other : ℕ) (bytes : List ℕ) (b : Bool) → eqb other stream ≡ b → has_ended before (Some other) ≡ false → has_ended before (Some stream) ≡ true → cond b (bytes ∷ []) [] ≡ []
other-own stream before other bytes true is fresh h = absurd (true≢false (sym h ∙ ap (λ s. has_ended before (Some s)) (sym (eqb-true other stream is)) ∙ fresh))
other-own stream before other bytes false is fresh h = refl

other-by : (stream before : ℕ) (x : Option ℕ) (bytes : List ℕ) → has_ended before x ≡ false → has_ended before (Some stream) ≡ true → given stream x bytes ≡ []
other-by stream before None bytes fresh h = refl
other-by stream before (Some other) bytes fresh h = other-own stream before other bytes (eqb other stream) refl fresh h

-- ---- by what is told of it

-- where it is refused or not read, nothing is taken
none-taken : (stream : ℕ) (bytes : List ℕ) (told : List Response) {code : ℕ} → refusal_of None told ≡ Some code → taken_in stream (Some bytes) told ≡ []
none-taken stream bytes told is = ap (λ refusal. taken_by refusal (given_in stream (Some bytes))) is

pub refused-in : (before : ℕ) (bytes : List ℕ) (told : List Response) (after : ℕ) {code : ℕ} → refusal_of None told ≡ Some code → after ≡ ended_with before (stream_of bytes) → FollowsIn before (Some bytes) told after
refused-in before bytes told after is ended stream =
    let none = none-taken stream bytes told is in
    subst (λ n. Follows stream before (given_in stream (Some bytes)) (taken_in stream (Some bytes) told) n) (sym ended) (record {
      late = λ h. (none, still-ended before (stream_of bytes) stream h);
      ends = elim (ends-by stream before (stream_of bytes) bytes) [ inl same ↦ inl (none ∙ same) | inr ends ↦ inr (none, ends) ];
    })

pub late-in : (before : ℕ) (bytes : List ℕ) (told : List Response) {code : ℕ} → refusal_of None told ≡ Some code → has_ended before (stream_of bytes) ≡ true → FollowsIn before (Some bytes) told before
late-in before bytes told is late stream =
    let none = none-taken stream bytes told is in
    record {
      late = λ h. (none, h);
      ends = elim (late-by stream before (stream_of bytes) bytes late) [ inl same ↦ inl (none ∙ same) | inr ended ↦ inr (none, ended) ];
    }

pub goes-in : (before : ℕ) (bytes : List ℕ) (told : List Response) → refusal_of None told ≡ None → has_ended before (stream_of bytes) ≡ false → FollowsIn before (Some bytes) told before
goes-in before bytes told is fresh stream =
    let all : taken_in stream (Some bytes) told ≡ given_in stream (Some bytes) = ap (λ refusal. taken_by refusal (given_in stream (Some bytes))) is in
    record { late = λ h. (all ∙ other-by stream before (stream_of bytes) bytes fresh h, h); ends = inl all }

-- a frame that is too long is none of any stream
nothing-taken : (refusal : Option ℕ) → taken_by refusal [] ≡ []
nothing-taken None = refl
nothing-taken (Some code) = refl

pub none-in : (before : ℕ) (told : List Response) (after : ℕ) → after ≡ before → FollowsIn before None told after
none-in before told after same stream =
    let none = nothing-taken (refusal_of None told) in
    record { late = λ h. (none, ap (λ n. has_ended n (Some stream)) same ∙ h); ends = inl none }

-- ---- of frames one after another

abbrev pub AllFollow : ℕ → List (Step ServerProcess) → List Done → Type 0
AllFollow before [] [] = Unit {0}
AllFollow before [] (one ∷ rest) = ⊥
AllFollow before (step ∷ steps) [] = ⊥
AllFollow before (step ∷ steps) (one ∷ rest) = FollowsIn before step.frame one.told step.after.streams.ended × AllFollow step.after.streams.ended steps rest

none-later : (stream before : ℕ) (steps : List (Step ServerProcess)) (done : List Done) → AllFollow before steps done → has_ended before (Some stream) ≡ true → taken_of stream steps done ≡ []
none-later stream before [] [] h ended = refl
none-later stream before [] (one ∷ rest) h ended = refl
none-later stream before (step ∷ steps) [] h ended = refl
none-later stream before (step ∷ steps) (one ∷ rest) h ended =
    let k = (h.0 stream).late ended in
    ap (λ xs. xs ++ taken_of stream steps rest) k.0 ∙ none-later stream step.after.streams.ended steps rest h.1 k.1

-- one list more in front of both
both-behind : (xs ys zs : List (List ℕ)) → IsPrefix ys zs → IsPrefix (xs ++ ys) (xs ++ zs)
both-behind xs ys zs h = (h.0, ap (λ us. xs ++ us) h.1 ∙ sym (append_assoc xs ys h.0))

empty-first : (xs ys : List (List ℕ)) → xs ≡ [] → IsPrefix xs ys
empty-first xs ys h = subst (λ us. IsPrefix us ys) (sym h) (ys, refl)

pub streams-are-fronts : (stream before : ℕ) (steps : List (Step ServerProcess)) (done : List Done) → AllFollow before steps done → IsPrefix (taken_of stream steps done) (given_of stream steps)
streams-are-fronts stream before [] [] h = ([], refl)
streams-are-fronts stream before [] (one ∷ rest) h = absurd h
streams-are-fronts stream before (step ∷ steps) [] h = absurd h
streams-are-fronts stream before (step ∷ steps) (one ∷ rest) h = elim (h.0 stream).ends [
  | inl same ↦ subst (λ xs. IsPrefix (xs ++ taken_of stream steps rest) (given_in stream step.frame ++ given_of stream steps)) (sym same)
      (both-behind (given_in stream step.frame) (taken_of stream steps rest) (given_of stream steps) (streams-are-fronts stream step.after.streams.ended steps rest h.1))
  | inr none ↦ empty-first (taken_in stream step.frame one.told ++ taken_of stream steps rest) (given_in stream step.frame ++ given_of stream steps)
      (ap (λ xs. xs ++ taken_of stream steps rest) none.0 ∙ none-later stream step.after.streams.ended steps rest h.1 none.1)
]
