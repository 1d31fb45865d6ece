-- What was answered and waits to be written.
use Rattle.std.proofs.Common.{◌≡◌, ℕ, List, [], ◌∷◌, ◌++◌, Option, refl, sym, ap, ◌∙◌, subst, append-nil}
use Rattle.cq_frame_loop.specs.Chains.{Relation, Step, IsChain, text_in}
use Rattle.cq_frame_loop.specs.Settling.{IsAnswered}
use Rattle.cq_frame_loop.specs.within.Settled.{Proceeds, Waits}
use Rattle.cq_frame_loop.proofs.Chaining.{chain-append, one_step, text-on}

module _ {S : Type 0} (answers : Relation S) where
  -- nothing waits
  pub waits_none : (s : S) (told : List ℕ) → told ≡ [] → Waits answers told s
  waits_none s told none = record { first = s; steps = []; chain = refl; whole = sym none }

  pub waits_same : (s : S) (told all : List ℕ) → told ≡ all → Waits answers told s → Waits answers all s
  waits_same s told all same w = subst (λ xs. Waits answers xs s) same w

  -- one answer more
  pub waits_more : (p q : S) (frame : Option (List ℕ)) (told text all : List ℕ) → answers p frame text q → all ≡ told ++ text → Waits answers told p → Waits answers all q
  waits_more p q frame told text all answered is w = record {
    first = w.first;
    steps = w.steps ++ one_step frame text q;
    chain = chain-append answers w.first p q w.steps (one_step frame text q) w.chain (answered, refl);
    whole = sym (text-on w.steps (one_step frame text q) told text (sym w.whole) (sym (append-nil text))) ∙ sym is;
  }

  -- what was answered behind the last time that all was settled
  pub waits_proceeding : (is_settled : S → Type 0) (s t : S) (count later : ℕ) (bytes output unsaid rest : List ℕ) → Proceeds answers is_settled s count bytes output unsaid t later rest → Waits answers unsaid t
  waits_proceeding is_settled s t count later bytes output unsaid rest p = record { first = p.mid; steps = p.waiting; chain = p.went_on; whole = sym p.told }

  -- ---- settling

  rested_more : (rests : S → S → Type 0) → ((p q r : S) (frame : Option (List ℕ)) (text : List ℕ) → answers p frame text q → rests q r → answers p frame text r) → (first q r : S) (x : Step S) (xs : List (Step S)) → IsChain answers first (x ∷ xs) q → rests q r
      → (ys : List (Step S)) × IsChain answers first ys r × (text_in ys ≡ text_in (x ∷ xs))
  rested_more rests on first q r x [] chain rested =
      (one_step x.frame x.text r, (on first q r x.frame x.text (subst (λ s. answers first x.frame x.text s) chain.1 chain.0) rested, refl), refl)
  rested_more rests on first q r x (y ∷ ys) chain rested =
      let more = rested_more rests on x.after q r y ys chain.1 rested in (x ∷ more.0, (chain.0, more.1), ap (λ t. x.text ++ t) more.2)

  rested_steps : (rests : S → S → Type 0) → ((p q r : S) (frame : Option (List ℕ)) (text : List ℕ) → answers p frame text q → rests q r → answers p frame text r) → (first q r : S) (xs : List (Step S)) (told : List ℕ) → IsChain answers first xs q → text_in xs ≡ told → rests q r
      → Waits answers told r
  rested_steps rests on first q r [] told chain whole rested = record { first = r; steps = []; chain = refl; whole = whole }
  rested_steps rests on first q r (x ∷ xs) told chain whole rested =
      let more = rested_more rests on first q r x xs chain rested in record { first = first; steps = more.0; chain = more.1; whole = more.2 ∙ whole }

  -- what waits is settled, and waits still
  pub waits_rested : (rests : S → S → Type 0) → ((p q r : S) (frame : Option (List ℕ)) (text : List ℕ) → answers p frame text q → rests q r → answers p frame text r) → (q r : S) (told : List ℕ) → rests q r → Waits answers told q → Waits answers told r
  waits_rested rests on q r told rested w = rested_steps rests on w.first q r w.steps told w.chain w.whole rested

  -- ---- writing

  pub answered_front : (s : S) (out end : List ℕ) → Waits answers (out ++ end) s → IsAnswered answers out s
  answered_front s out end w = record { first = w.first; steps = w.steps; chain = w.chain; before = []; behind = end; among = w.whole }

  pub answered_end : (s : S) (out end : List ℕ) → Waits answers (out ++ end) s → IsAnswered answers end s
  answered_end s out end w = record { first = w.first; steps = w.steps; chain = w.chain; before = out; behind = []; among = w.whole ∙ ap (λ xs. out ++ xs) (sym (append-nil end)) }
