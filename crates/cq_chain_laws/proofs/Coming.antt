-- What a process of a master takes from one server, and the pieces that came from it.
use Rattle.std.proofs.Common.{◌≡◌, ◌∙◌, ℕ, ◌+◌, ap, sym, refl, subst, List, [], ◌∷◌, ◌++◌, length, append-nil, Ok, arith}
use Rattle.cq_base.specs.Relations.{Among}
use Rattle.cq_chain.specs.declared.message.Message.{Message}
use Rattle.cq_chain.specs.declared.message.Message.TheVariants as kinds
use Rattle.cq_chain_wire.specs.declared.reader.Progress.TheVariants.{Whole}
use Rattle.cq_chain_wire.specs.Feeding.{all_fed}
use Rattle.cq_chain_wire.specs.Limits.{IsMessage}
use Rattle.cq_chain_wire.specs.Pieces.{ArePieces}
use Rattle.cq_chain_wire.proofs.PieceLaws.{read-back}
use Rattle.cq_master_process.specs.Cores.{piece_of}
use Rattle.cq_process.specs.Taking.{nothing}
use Rattle.cq_process_laws.specs.Passing.{Numbered, WasRead, WereRead, number_at}
use Rattle.cq_process_laws.proofs.Coming.{among-behind, among-more, were-in}
use Rattle.cq_process_laws.proofs.Numbering.{length-last}
use Rattle.cq_chain_laws.proofs.Putting.{plain-sound}

-- a plain message is one piece
plain-pieces : (m : Message) → IsMessage m → ArePieces m (piece_of m ∷ [])
plain-pieces (kinds.Fwd place one) fits = refl
plain-pieces (kinds.Snap state) fits = absurd fits
plain-pieces (kinds.Ack place) fits = refl
plain-pieces kinds.BeHead fits = refl
plain-pieces (kinds.Report pred) fits = refl
plain-pieces (kinds.Adopt succ have) fits = refl
plain-pieces (kinds.BeTail least) fits = refl
plain-pieces (kinds.Feed succ) fits = refl
plain-pieces (kinds.Have pred count) fits = refl
plain-pieces (kinds.Adopted succ count) fits = refl
plain-pieces (kinds.Caught pred count) fits = refl
plain-pieces kinds.Ready fits = refl
plain-pieces (kinds.Answer answer) fits = refl

-- and is read of it
was-read : (k : ℕ) (m : Message) (piece : List ℕ) (came : List Numbered) → IsMessage m → piece ≡ piece_of m → Among (number_at k 0, piece) came → WasRead k m came
was-read k m piece came fits is there = record {
  texts = piece ∷ [];
  there = (there, tt);
  whole = subst (λ (t : List ℕ). all_fed (t ∷ []) nothing ≡ Ok (Whole m)) (sym is) (read-back m (piece_of m ∷ []) (plain-sound m fits) (plain-pieces m fits));
}

were-last : (k : ℕ) (ms : List Message) (m : Message) (came : List Numbered) → WereRead k ms came → WasRead (k + length ms) m came → WereRead k (ms ++ m ∷ []) came
were-last k [] m came h was = let same : k + 0 ≡ k = omega arith in (subst (λ n. WasRead n m came) same was, tt)
were-last k (x ∷ ms) m came h was =
    let same : k + length (x ∷ ms) ≡ (k + 1) + length ms = omega arith in
    (h.0, were-last (k + 1) ms m came h.1 (subst (λ n. WasRead n m came) same was))

-- So many messages were taken, and each was read of a piece that came.
pub record Taken (count : ℕ) (messages : List Message) (came : List Numbered) : Type 0 where
  pub each : WereRead 1 messages came
  pub many : count ≡ length messages

pub taken-none : Taken 0 [] []
taken-none = record { each = tt; many = refl }

-- none is taken, whatever comes
pub taken-more : (count : ℕ) (messages : List Message) (came more : List Numbered) → Taken count messages came → Taken count (messages ++ []) (came ++ more)
taken-more count messages came more h = subst (λ ms. Taken count ms (came ++ more)) (sym (append-nil messages)) (record { each = were-in 1 messages came (came ++ more) (λ one there. among-more one came more there) h.each; many = h.many })

-- one is taken, the next one
pub taken-one : (count : ℕ) (messages : List Message) (came more : List Numbered) (m : Message) (piece : List ℕ) → IsMessage m → piece ≡ piece_of m → Among (number_at (count + 1) 0, piece) more → Taken count messages came
    → Taken (count + 1) (messages ++ m ∷ []) (came ++ more)
taken-one count messages came more m piece fits is there h =
    let all = came ++ more in
    let turned : count + 1 ≡ 1 + length messages = let same = h.many in omega arith in
    record {
      each = were-last 1 messages m all (were-in 1 messages came all (λ one k. among-more one came more k) h.each)
          (subst (λ n. WasRead n m all) turned (was-read (count + 1) m piece all fits is (among-behind (number_at (count + 1) 0, piece) came more there)));
      many = ap (λ n. n + 1) h.many ∙ sym (length-last messages m);
    }
