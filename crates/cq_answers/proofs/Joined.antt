-- Pieces that were written one after another.
use Rattle.std.proofs.Common.{◌≡◌, ℕ, List, ◌++◌, codes, decimal, Result, OnOk, ap, ◌∙◌, append_assoc}
use Rattle.std.proofs.lemmas.Result.{on_ok_weaker}
use Rattle.cq_chain.specs.declared.message.Answer.{Answer}
use Rattle.cq_answers.specs.within.Told.{client_text}

-- two pieces are one
pub two : (old first second a b : List ℕ) → first ≡ old ++ a → second ≡ first ++ b → second ≡ old ++ (a ++ b)
two old first second a b one next = next ∙ ap (λ t. t ++ b) one ∙ append_assoc old a b

-- and the last is written, or is not
pub last : {E : Type 0} (r : Result (Unit {0}) E) (old told new a b whole : List ℕ) → told ≡ old ++ a → OnOk r (new ≡ told ++ b) → a ++ b ≡ whole → OnOk r (new ≡ old ++ whole)
last r old told new a b whole one next is = on_ok_weaker r (λ wrote. two old told new a b one wrote ∙ ap (λ t. old ++ t) is) next

pub three : {E : Type 0} (r : Result (Unit {0}) E) (old t1 t2 new a b c whole : List ℕ)
    → t1 ≡ old ++ a → t2 ≡ t1 ++ b → OnOk r (new ≡ t2 ++ c) → a ++ (b ++ c) ≡ whole → OnOk r (new ≡ old ++ whole)
three r old t1 t2 new a b c whole one more next is = last r old t2 new (a ++ b) c whole (two old t1 t2 a b one more) next (append_assoc a b c ∙ is)

pub five : {E : Type 0} (r : Result (Unit {0}) E) (old t1 t2 t3 t4 new a b c d e whole : List ℕ)
    → t1 ≡ old ++ a → t2 ≡ t1 ++ b → t3 ≡ t2 ++ c → t4 ≡ t3 ++ d → OnOk r (new ≡ t4 ++ e) → a ++ (b ++ (c ++ (d ++ e))) ≡ whole
    → OnOk r (new ≡ old ++ whole)
five r old t1 t2 t3 t4 new a b c d e whole i1 i2 i3 i4 next is =
    three r old t2 t4 new (a ++ b) (c ++ d) e whole (two old t1 t2 a b i1 i2) (two t2 t3 t4 c d i3 i4) next
    (ap (λ t. (a ++ b) ++ t) (append_assoc c d e) ∙ append_assoc a b (c ++ (d ++ e)) ∙ is)

pub seven : {E : Type 0} (r : Result (Unit {0}) E) (old t1 t2 t3 t4 t5 t6 new a b c d e f g whole : List ℕ)
    → t1 ≡ old ++ a → t2 ≡ t1 ++ b → t3 ≡ t2 ++ c → t4 ≡ t3 ++ d → t5 ≡ t4 ++ e → t6 ≡ t5 ++ f → OnOk r (new ≡ t6 ++ g)
    → a ++ (b ++ (c ++ (d ++ (e ++ (f ++ g))))) ≡ whole → OnOk r (new ≡ old ++ whole)
seven r old t1 t2 t3 t4 t5 t6 new a b c d e f g whole i1 i2 i3 i4 i5 i6 next is =
    five r old t2 t4 t5 t6 new (a ++ b) (c ++ d) e f g whole (two old t1 t2 a b i1 i2) (two t2 t3 t4 c d i3 i4) i5 i6 next
    (ap (λ t. (a ++ b) ++ t) (append_assoc c d (e ++ (f ++ g))) ∙ append_assoc a b (c ++ (d ++ (e ++ (f ++ g)))) ∙ is)

pub six : {E : Type 0} (r : Result (Unit {0}) E) (old t1 t2 t3 t4 t5 new a b c d e f whole : List ℕ)
    → t1 ≡ old ++ a → t2 ≡ t1 ++ b → t3 ≡ t2 ++ c → t4 ≡ t3 ++ d → t5 ≡ t4 ++ e → OnOk r (new ≡ t5 ++ f)
    → a ++ (b ++ (c ++ (d ++ (e ++ f)))) ≡ whole → OnOk r (new ≡ old ++ whole)
six r old t1 t2 t3 t4 t5 new a b c d e f whole i1 i2 i3 i4 i5 next is =
    five r old t2 t3 t4 t5 new (a ++ b) c d e f whole (two old t1 t2 a b i1 i2) i3 i4 i5 next
    (append_assoc a b (c ++ (d ++ (e ++ f))) ∙ is)

-- what comes behind the first members of an answer
pub client-then : (line : ℕ) (answer : Answer) (rest : List ℕ) → client_text line answer ++ rest
    ≡ codes "{\"client\":" ++ (decimal answer.client ++ (codes ",\"length\":" ++ (decimal answer.length ++ (codes ",\"line\":" ++ (decimal line ++ rest)))))
unfolding client_text
client-then line answer rest =
    ap (λ t. codes "{\"client\":" ++ t) (append_assoc (decimal answer.client) (codes ",\"length\":" ++ (decimal answer.length ++ (codes ",\"line\":" ++ decimal line))) rest
    ∙ ap (λ t. decimal answer.client ++ (codes ",\"length\":" ++ t)) (append_assoc (decimal answer.length) (codes ",\"line\":" ++ decimal line) rest))
