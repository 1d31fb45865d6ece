-- Pieces that are written and read one at a time.
use Rattle.std.proofs.Common.{◌≡◌, ℕ, ◌∙◌, ap, sym, refl, List, [], ◌∷◌, ◌++◌, Option, None, Result, Ok, Err}
use Rattle.cq_chain.specs.declared.message.Message.{Message}
use Rattle.cq_chain_wire.specs.declared.reader.Progress.{Progress}
use Rattle.cq_chain_wire.specs.declared.reader.Progress.TheVariants.{More, Whole}
use Rattle.cq_chain_wire.specs.declared.writer.MessageWriter.{MessageWriter}
use Rattle.cq_chain_wire.specs.Feeding.{all_fed, next_fed, piece_fed}
use Rattle.cq_chain_wire.specs.Laws.{IsSound}
use Rattle.cq_chain_wire.proofs.Passing.{IsPassedOn, none-passed, passed-on, whole-passed}
use Rattle.cq_process.specs.Laws.{AreReadOn, AreWritten, IsReadAsWritten}
use Rattle.cq_process.specs.Taking.{nothing}
use Rattle.cq_store_wire.specs.declared.build.State.{State}
use Rattle.cq_wire.specs.declared.fault.WireFault.{WireFault}
use Rattle.cq_wire.proofs.Fronts.{ok_is}
use Rattle.cq_wire.specs.Reading.{◌>>=◌}

bind-ok : (r : Result Progress WireFault) → (r >>= λ n. Ok n) ≡ r
bind-ok (Ok p) = refl
bind-ok (Err e) = refl

read-more : (texts : List (List ℕ)) (piece : List ℕ) (p : Progress) (so_far : Option State) → all_fed texts p ≡ Ok (More so_far) → all_fed (texts ++ piece ∷ []) p ≡ piece_fed piece so_far
unfolding all_fed
read-more [] piece p so_far h = ap (λ (q : Progress). next_fed piece q >>= λ n. Ok n) (ok_is p (More so_far) h) ∙ bind-ok (piece_fed piece so_far)
read-more (text ∷ texts) piece p so_far h = by (next_fed text p) (λ n. read-more texts piece n so_far) h where
  by : (r : Result Progress WireFault) → ((n : Progress) → all_fed texts n ≡ Ok (More so_far) → all_fed (texts ++ piece ∷ []) n ≡ piece_fed piece so_far) → (r >>= λ n. all_fed texts n) ≡ Ok (More so_far)
      → (r >>= λ n. all_fed (texts ++ piece ∷ []) n) ≡ piece_fed piece so_far
  by (Ok n) more h = more n h
  by (Err e) more h = absurd cc

pub are-read-on : AreReadOn
are-read-on texts piece so_far h = read-more texts piece nothing so_far h

whole-is : (texts : List (List ℕ)) (m other : Message) → all_fed texts (Whole m) ≡ Ok (Whole other) → m ≡ other
unfolding all_fed
whole-is [] m other h = let same = ok_is (Whole m) (Whole other) h in cc
whole-is (text ∷ texts) m other h = absurd cc

written-read : (m other : Message) (texts : List (List ℕ)) (a b : MessageWriter) (so_far : Option State) → IsSound m → IsPassedOn m a so_far → AreWritten m a texts b → all_fed texts (More so_far) ≡ Ok (Whole other) → other ≡ m
unfolding all_fed
written-read m other [] a b so_far sound passed written h = let wrong = ok_is (More so_far) (Whole other) h in absurd cc
written-read m other (text ∷ texts) a b so_far sound passed written h = by (piece_fed text so_far) refl (λ next on rest. written-read m other texts written.0 b next sound on written.2 rest) h where
  by : (r : Result Progress WireFault) → piece_fed text so_far ≡ r → ((next : Option State) → IsPassedOn m written.0 next → all_fed texts (More next) ≡ Ok (Whole other) → other ≡ m)
      → (r >>= λ n. all_fed texts n) ≡ Ok (Whole other) → other ≡ m
  by (Ok (More next)) is more h = more next (passed-on m a written.0 so_far next [] text text refl refl passed written.1 is) h
  by (Ok (Whole one)) is more h = sym (whole-is texts one other h) ∙ whole-passed m one a written.0 so_far [] text text sound refl refl passed written.1 is
  by (Err e) is more h = absurd cc

pub read-as-written : IsReadAsWritten
read-as-written m other start end texts sound fresh written h = written-read m other texts start end None sound (none-passed m start None fresh.start fresh.bodies refl) written h
