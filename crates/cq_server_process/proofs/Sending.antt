-- What is sent, as frames.
use Rattle.std.proofs.Common.{◌≡◌, ℕ, ◌∙◌, ap, sym, refl, subst, List, [], ◌∷◌, ◌++◌, append-nil, append_assoc, Option, None, Some, is_some, Bool, true, false, inl, inr, Result, Ok, Err}
use Rattle.std.specs.Prelude.{IfOk, ◌⊎◌}
use Rattle.std.specs.List.{flat_map}
use Rattle.std.proofs.lemmas.Bool.{true≢false}
use Rattle.cq_base.specs.declared.ask.Entry.{Entry}
use Rattle.cq_base.specs.declared.party.Party.{Party}
use Rattle.cq_base.specs.Relations.{IsPrefix}
use Rattle.cq_chain.specs.declared.message.Message as rust
use Rattle.cq_chain.specs.declared.message.Message.TheVariants as kinds
use Rattle.cq_chain.specs.Messages as messages
use Rattle.cq_chain.specs.Stands.{IsFirst, Keeps, Means}
use Rattle.cq_chain_wire.specs.Limits.{IsPlain}
use Rattle.cq_frames.specs.declared.response.Response.{Response}
use Rattle.cq_process.specs.declared.outgoing.PutFault.{PutFault}
use Rattle.cq_process.specs.declared.outgoing.PutFault.TheVariants as put_faults
use Rattle.cq_process.specs.declared.outgoing.Written.{Written}
use Rattle.cq_process.specs.declared.outgoing.Written.TheVariants as written_as
use Rattle.cq_process.specs.Links.{ChangesOnly, is_gone}
use Rattle.cq_process.specs.Outgoing.{End}
use Rattle.cq_process_frames.specs.Frames.{PutsFrame, frame, told_of}
use Rattle.cq_server_process.specs.declared.turn.Stop.{Stop}
use Rattle.cq_server_process.specs.declared.turn.Stop.TheVariants as stops
use Rattle.cq_server_process.specs.Turns.{At, IsPlainFirst, IsPlainNext, IsSnapFirst, Opens, Sends, SendsAll, Steps, Tells, TellsAll, TellsAt, TellsOf, TellsStep, TellsTurn, ThrowsFor, Writes, frames, put_of, stop_of}

-- a piece as it is told
told-is : (to : Party) (result : Result Written PutFault) (piece : List ℕ) → told_of to result piece ≡ frames (put_of to result piece)
told-is to (Ok written_as.Nothing) piece = refl
told-is to (Ok (written_as.Piece number)) piece = sym (append-nil (told_of to (Ok (written_as.Piece number)) piece))
told-is to (Ok (written_as.Message number)) piece = sym (append-nil (told_of to (Ok (written_as.Message number)) piece))
told-is to (Err fault) piece = refl

pub written-told : (to : Party) (a b : At) (old new : List ℕ) (result : Result Written PutFault) (stop : Option Stop) → stop ≡ stop_of result → PutsFrame a.ends b.ends a.core b.core to old new result → TellsAt to a b stop old new
written-told to a b old new result stop is h = (put_of to result h.piece, (h.told ∙ ap (λ xs. old ++ xs) (told-is to result h.piece), inl (result, (record { piece = h.piece; puts = h.puts; is = refl }, is))))

pub unwritten-told : (to : Party) (a b : At) (old new : List ℕ) → Keeps a.core b.core → b.ends ≡ a.ends → new ≡ old → TellsAt to a b (Some stops.NoMemory) old new
unwritten-told to a b old new keeps ends same = ([], (same ∙ sym (append-nil old), inr (record { stops = refl; none = refl; ends = ends; keeps = keeps })))

-- one list of frames behind another
pub frames-append : (xs ys : List Response) → frames (xs ++ ys) ≡ frames xs ++ frames ys
frames-append [] ys = refl
frames-append (x ∷ xs) ys = ap (λ zs. frame x ++ zs) (frames-append xs ys) ∙ sym (append_assoc (frame x) (frames xs) (frames ys))

pub told-behind : (old mid new : List ℕ) (xs ys : List Response) → mid ≡ old ++ frames xs → new ≡ mid ++ frames ys → new ≡ old ++ frames (xs ++ ys)
told-behind old mid new xs ys h k = k ∙ ap (λ zs. zs ++ frames ys) h ∙ append_assoc old (frames xs) (frames ys) ∙ ap (λ zs. old ++ zs) (sym (frames-append xs ys))

pub prefix-behind : (old mid new : List ℕ) (told : List Response) → mid ≡ old ++ frames told → IsPrefix mid new → IsPrefix old new
prefix-behind old mid new told is h = (frames told ++ h.0, h.1 ∙ ap (λ xs. xs ++ h.0) is ∙ append_assoc old (frames told) h.0)

-- ---- a look

-- a message that isn't plain is a snapshot
pub snap-first : (x : rust.Message) (ms : List messages.Message) → (IsPlain x → ⊥) → IsFirst (Some x) ms → IsSnapFirst ms
snap-first x [] long h = absurd h
snap-first (kinds.Snap state) (m ∷ ms) long h = (h.entries, h.is)
snap-first (kinds.Fwd place entry) (m ∷ ms) long h = absurd (long tt)
snap-first (kinds.Ack place) (m ∷ ms) long h = absurd (long tt)
snap-first kinds.BeHead (m ∷ ms) long h = absurd (long tt)
snap-first (kinds.Report pred) (m ∷ ms) long h = absurd (long tt)
snap-first (kinds.Adopt succ have) (m ∷ ms) long h = absurd (long tt)
snap-first (kinds.BeTail least) (m ∷ ms) long h = absurd (long tt)
snap-first (kinds.Feed succ) (m ∷ ms) long h = absurd (long tt)
snap-first (kinds.Have pred count) (m ∷ ms) long h = absurd (long tt)
snap-first (kinds.Adopted succ count) (m ∷ ms) long h = absurd (long tt)
snap-first (kinds.Caught pred count) (m ∷ ms) long h = absurd (long tt)
snap-first kinds.Ready (m ∷ ms) long h = absurd (long tt)
snap-first (kinds.Answer answer) (m ∷ ms) long h = absurd (long tt)

-- and one that is plain is none
not-snap : (x : rust.Message) (m : messages.Message) → IsPlain x → Means x m → (entries : List Entry) → m ≡ messages.Snap entries → ⊥
not-snap (kinds.Snap state) m plain h entries is = plain
not-snap (kinds.Fwd place entry) m plain h entries is = let both : messages.Fwd place entry ≡ messages.Snap entries = sym h ∙ is in cc
not-snap (kinds.Ack place) m plain h entries is = let both : messages.Ack place ≡ messages.Snap entries = sym h ∙ is in cc
not-snap kinds.BeHead m plain h entries is = let both : messages.BeHead ≡ messages.Snap entries = sym h ∙ is in cc
not-snap (kinds.Report pred) m plain h entries is = let both : messages.Report pred ≡ messages.Snap entries = sym h ∙ is in cc
not-snap (kinds.Adopt succ have) m plain h entries is = let both : messages.Adopt succ have ≡ messages.Snap entries = sym h ∙ is in cc
not-snap (kinds.BeTail least) m plain h entries is = let both : messages.BeTail least ≡ messages.Snap entries = sym h ∙ is in cc
not-snap (kinds.Feed succ) m plain h entries is = let both : messages.Feed succ ≡ messages.Snap entries = sym h ∙ is in cc
not-snap (kinds.Have pred count) m plain h entries is = let both : messages.Have pred count ≡ messages.Snap entries = sym h ∙ is in cc
not-snap (kinds.Adopted succ count) m plain h entries is = let both : messages.Adopted succ count ≡ messages.Snap entries = sym h ∙ is in cc
not-snap (kinds.Caught pred count) m plain h entries is = let both : messages.Caught pred count ≡ messages.Snap entries = sym h ∙ is in cc
not-snap kinds.Ready m plain h entries is = let both : messages.Ready ≡ messages.Snap entries = sym h ∙ is in cc
not-snap (kinds.Answer answer) m plain h entries is = let both : messages.Answers answer ≡ messages.Snap entries = sym h ∙ is in cc

pub plain-first : (x : rust.Message) (ms : List messages.Message) → IsPlain x → IsFirst (Some x) ms → IsPlainFirst ms
plain-first x [] plain h = absurd h
plain-first x (m ∷ ms) plain h = not-snap x m plain h

-- ---- one message more

-- what puts a whole message is one response
sent-one : (to : Party) (result : Result Written PutFault) (piece : List ℕ) → None ≡ stop_of result → (one : Response) × (put_of to result piece ≡ one ∷ [])
sent-one to (Ok written_as.Nothing) piece h = absurd (true≢false (sym (ap is_some h)))
sent-one to (Ok (written_as.Piece number)) piece h = absurd (true≢false (sym (ap is_some h)))
sent-one to (Ok (written_as.Message number)) piece h = (_, refl)
sent-one to (Err put_faults.NumbersSpent) piece h = absurd (true≢false (sym (ap is_some h)))
sent-one to (Err put_faults.NoMemory) piece h = absurd (true≢false (sym (ap is_some h)))

no-stop : {P : Type 0} (stop : Stop) → None ≡ Some stop → P
no-stop stop h = absurd (true≢false (sym (ap is_some h)))

not-stopped : {P : Type 0} (stop : Option Stop) → stop ≡ None → is_some stop ≡ true → P
not-stopped stop h k = absurd (true≢false (sym k ∙ ap is_some h))

sends-one : (to : Party) (a b : At) (told : List Response) → Sends to a b told None → (one : Response) × (told ≡ one ∷ [])
sends-one to a b told (inl h) = elim h.writes [
  | inl w ↦ let s = sent-one to w.0 w.1.0.piece w.1.1 in (s.0, w.1.0.is ∙ s.1)
  | inr w ↦ no-stop _ w.stops
]
sends-one to a b told (inr h) = no-stop _ h.0

steps-one : (to : Party) (a b : At) (told : List Response) → Steps to a b told None → (one : Response) × (told ≡ one ∷ [])
steps-one to a b told (inl h) = absurd (true≢false (sym h.1.1.0))
steps-one to a b told (inr h) = sends-one to a b told h.1

sends-last : (to : Party) (a m b : At) (told : List Response) (one : Response) → SendsAll to a told m → Steps to m b (one ∷ []) None → SendsAll to a (told ++ one ∷ []) b
sends-last to a m b [] one h k = (b, (subst (λ x. Steps to x b (one ∷ []) None) h k, refl))
sends-last to a m b (x ∷ told) one h k = (h.0, (h.1.0, sends-last to h.0 m b told one h.1.1 k))

pub all-and-one : (to : Party) (a m b : At) (old mid new : List ℕ) → TellsAll to a m old mid → TellsStep to m b None mid new → TellsAll to a b old new
all-and-one to a m b old mid new h k =
    let s = steps-one to m b k.0 k.1.1 in
    (h.0 ++ s.0 ∷ [], (told-behind old mid new h.0 (s.0 ∷ []) h.1.0 (k.1.0 ∙ ap (λ xs. mid ++ frames xs) s.1), sends-last to a m b h.0 s.0 h.1.1 (subst (λ xs. Steps to m b xs None) s.1 k.1.1)))

pub all-and-stop : (to : Party) (a m b : At) (stop : Stop) (old mid new : List ℕ) → TellsAll to a m old mid → TellsStep to m b (Some stop) mid new → TellsTurn to a b stop old new
all-and-stop to a m b stop old mid new h k = (h.0 ++ k.0, (told-behind old mid new h.0 k.0 h.1.0 k.1.0, record { sent = h.0; mid = m; last = k.0; is = refl; sends = h.1.1; stops = k.1.1 }))

pub told-prefix : (old new : List ℕ) (told : List Response) → new ≡ old ++ frames told → IsPrefix old new
told-prefix old new told is = (frames told, is)

-- ---- at an open link, and by a look

pub opened-tells : {F : Type 0} (to : Party) (a b : At) (mid : List (Party × End)) (old new : List ℕ) (r : Result (Option Stop) F) → Opens to a.ends mid → ChangesOnly mid b.ends to
    → IfOk r (λ stop. TellsAt to (record { ends = mid; core = a.core }) b stop old new) → IfOk r (λ stop. Tells to a b stop old new)
opened-tells to a b mid old new (Ok stop) opens others h = (h.0, (h.1.0, inl (record { mid = mid; opens = opens; writes = h.1.1; others = others })))
opened-tells to a b mid old new (Err fault) opens others h = tt

pub sent-step : {F : Type 0} (to : Party) (a b : At) (old new : List ℕ) (r : Result (Option Stop) F) → IsPlainNext to a → IfOk r (λ stop. Tells to a b stop old new) → IfOk r (λ stop. TellsStep to a b stop old new)
sent-step to a b old new (Ok stop) plain h = (h.0, (h.1.0, inr (plain, h.1.1)))
sent-step to a b old new (Err fault) plain h = tt

-- ---- by whether the party is gone

pub thrown-told : (gone : List Party) (to : Party) (a b : At) (stop : Stop) (old : List ℕ) {is : Bool} → is_gone gone to ≡ is → is ≡ true → ThrowsFor to a b stop → TellsOf gone to a b stop old old
thrown-told gone to a b stop old same away h = ([], (sym (append-nil old), record { lives = λ here. absurd (true≢false (sym (same ∙ away) ∙ here)); thrown = λ _. (refl, h) }))

pub turn-told : {F : Type 0} (gone : List Party) (to : Party) (a b : At) (old new : List ℕ) (r : Result Stop F) {is : Bool} → is_gone gone to ≡ is → is ≡ false → IfOk r (λ stop. TellsTurn to a b stop old new) → IfOk r (λ stop. TellsOf gone to a b stop old new)
turn-told gone to a b old new (Ok stop) same here h = (h.0, (h.1.0, record { lives = λ _. h.1.1; thrown = λ away. absurd (true≢false (sym away ∙ (same ∙ here))) }))
turn-told gone to a b old new (Err fault) same here h = tt
