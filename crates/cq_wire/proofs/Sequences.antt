-- Readers one after the other, and readers whose value has to pass a test.
use Rattle.std.proofs.Common.{◌≡◌, ℕ, Bool, true, List, ◌++◌, Ok, refl, subst, append_assoc}
use Rattle.cq_wire.specs.declared.fault.WireFault.{WireFault}
use Rattle.cq_wire.specs.Reading.{◌>>=◌, Reader, kept}
use Rattle.cq_wire.proofs.Fronts.{IsBytes, Takes, Takes-then, Reads, IsRead, bind_ok, ok_is, kept_ok, read_as}

-- ---- a test

pub kept_reads : {A : Type 0} (layout : A → List ℕ) (read : Reader A) (P : A → Type 0) (test : A → Bool) (fault : WireFault) → Reads layout read P
    → Reads layout (λ bytes. read bytes >>= λ x. kept (test x.0) fault x) (λ x. P x × (test x ≡ true))
kept_reads layout read P test fault reads bytes x fits e =
    let a = bind_ok (read bytes) (λ y. kept (test y.0) fault y) x e in
    let k = kept_ok (test a.0.0) fault a.0 x a.2 in
    let r = reads bytes a.0 fits a.1 in
    subst (λ y. Takes bytes (layout y.0) y.1 × (P y.0 × (test y.0 ≡ true))) k.1 (r.0, (r.1, k.0))

pub kept_is_read : {A : Type 0} (layout : A → List ℕ) (read : Reader A) (P : A → Type 0) (test : A → Bool) (fault : WireFault) → IsRead layout read P
    → IsRead layout (λ bytes. read bytes >>= λ x. kept (test x.0) fault x) (λ x. P x × (test x ≡ true))
kept_is_read layout read P test fault is_read x rest fits = rw (is_read x rest fits.0, fits.1) refl

-- ---- One to four parts of a value: whatever holds of each value that is made of such parts holds of what was read.

pub one : {A Z : Type 0} (la : A → List ℕ) (ra : Reader A) (P : A → Type 0) (make : A → Z)
    → Reads la ra P → (bytes : List ℕ) (x : Z × List ℕ) → IsBytes bytes → (ra bytes >>= λ a. read_as (make a.0) a.1) ≡ Ok x
    → (G : Z × List ℕ → Type 0) → ((a : A) (rest : List ℕ) → Takes bytes (la a) rest → P a → G (make a, rest)) → G x
one la ra P make reads_a bytes x fits e G g =
    let y = bind_ok (ra bytes) (λ a. read_as (make a.0) a.1) x e in
    let t = reads_a bytes y.0 fits y.1 in
    subst G (ok_is (make y.0.0, y.0.1) x y.2) (g y.0.0 y.0.1 t.0 t.1)

pub two : {A B Z : Type 0} (la : A → List ℕ) (ra : Reader A) (P : A → Type 0) (lb : B → List ℕ) (rb : Reader B) (Q : B → Type 0) (make : A → B → Z)
    → Reads la ra P → Reads lb rb Q → (bytes : List ℕ) (x : Z × List ℕ) → IsBytes bytes → (ra bytes >>= λ a. rb a.1 >>= λ b. read_as (make a.0 b.0) b.1) ≡ Ok x
    → (G : Z × List ℕ → Type 0) → ((a : A) (b : B) (rest : List ℕ) → Takes bytes (la a ++ lb b) rest → P a × Q b → G (make a b, rest)) → G x
two la ra P lb rb Q make reads_a reads_b bytes x fits e G g =
    let y = bind_ok (ra bytes) (λ a. rb a.1 >>= λ b. read_as (make a.0 b.0) b.1) x e in
    let t = reads_a bytes y.0 fits y.1 in
    one lb rb Q (make y.0.0) reads_b y.0.1 x t.0.rest_fits y.2 G
    (λ b rest u others. g y.0.0 b rest (Takes-then bytes (la y.0.0) y.0.1 (lb b) rest t.0 u) (t.1, others))

pub three : {A B C Z : Type 0} (la : A → List ℕ) (ra : Reader A) (P : A → Type 0) (lb : B → List ℕ) (rb : Reader B) (Q : B → Type 0) (lc : C → List ℕ) (rc : Reader C) (R : C → Type 0) (make : A → B → C → Z)
    → Reads la ra P → Reads lb rb Q → Reads lc rc R → (bytes : List ℕ) (x : Z × List ℕ) → IsBytes bytes → (ra bytes >>= λ a. rb a.1 >>= λ b. rc b.1 >>= λ c. read_as (make a.0 b.0 c.0) c.1) ≡ Ok x
    → (G : Z × List ℕ → Type 0) → ((a : A) (b : B) (c : C) (rest : List ℕ) → Takes bytes (la a ++ (lb b ++ lc c)) rest → P a × (Q b × R c) → G (make a b c, rest)) → G x
three la ra P lb rb Q lc rc R make reads_a reads_b reads_c bytes x fits e G g =
    let y = bind_ok (ra bytes) (λ a. rb a.1 >>= λ b. rc b.1 >>= λ c. read_as (make a.0 b.0 c.0) c.1) x e in
    let t = reads_a bytes y.0 fits y.1 in
    two lb rb Q lc rc R (make y.0.0) reads_b reads_c y.0.1 x t.0.rest_fits y.2 G
    (λ b c rest u others. g y.0.0 b c rest (Takes-then bytes (la y.0.0) y.0.1 (lb b ++ lc c) rest t.0 u) (t.1, others))

pub four : {A B C D Z : Type 0} (la : A → List ℕ) (ra : Reader A) (P : A → Type 0) (lb : B → List ℕ) (rb : Reader B) (Q : B → Type 0) (lc : C → List ℕ) (rc : Reader C) (R : C → Type 0) (ld : D → List ℕ) (rd : Reader D) (S : D → Type 0) (make : A → B → C → D → Z)
    → Reads la ra P → Reads lb rb Q → Reads lc rc R → Reads ld rd S → (bytes : List ℕ) (x : Z × List ℕ) → IsBytes bytes → (ra bytes >>= λ a. rb a.1 >>= λ b. rc b.1 >>= λ c. rd c.1 >>= λ d. read_as (make a.0 b.0 c.0 d.0) d.1) ≡ Ok x
    → (G : Z × List ℕ → Type 0) → ((a : A) (b : B) (c : C) (d : D) (rest : List ℕ) → Takes bytes (la a ++ (lb b ++ (lc c ++ ld d))) rest → P a × (Q b × (R c × S d)) → G (make a b c d, rest)) → G x
four la ra P lb rb Q lc rc R ld rd S make reads_a reads_b reads_c reads_d bytes x fits e G g =
    let y = bind_ok (ra bytes) (λ a. rb a.1 >>= λ b. rc b.1 >>= λ c. rd c.1 >>= λ d. read_as (make a.0 b.0 c.0 d.0) d.1) x e in
    let t = reads_a bytes y.0 fits y.1 in
    three lb rb Q lc rc R ld rd S (make y.0.0) reads_b reads_c reads_d y.0.1 x t.0.rest_fits y.2 G
    (λ b c d rest u others. g y.0.0 b c d rest (Takes-then bytes (la y.0.0) y.0.1 (lb b ++ (lc c ++ ld d)) rest t.0 u) (t.1, others))

pub one_read : {A Z : Type 0} (la : A → List ℕ) (ra : Reader A) (P : A → Type 0) (make : A → Z)
    → IsRead la ra P → (a : A) (rest : List ℕ) → P a
    → (ra (la a ++ rest) >>= λ y0. read_as (make y0.0) y0.1) ≡ read_as (make a) rest
one_read la ra P make is_a a rest fits = rw (is_a a rest fits) refl

pub two_read : {A B Z : Type 0} (la : A → List ℕ) (ra : Reader A) (P : A → Type 0) (lb : B → List ℕ) (rb : Reader B) (Q : B → Type 0) (make : A → B → Z)
    → IsRead la ra P → IsRead lb rb Q → (a : A) (b : B) (rest : List ℕ) → P a × Q b
    → (ra ((la a ++ lb b) ++ rest) >>= λ y0. rb y0.1 >>= λ y1. read_as (make y0.0 y1.0) y1.1) ≡ read_as (make a b) rest
two_read la ra P lb rb Q make is_a is_b a b rest fits =
    rw (append_assoc (la a) (lb b) rest, is_a a ((lb b) ++ rest) fits.0) (one_read lb rb Q (make a) is_b b rest fits.1)

pub three_read : {A B C Z : Type 0} (la : A → List ℕ) (ra : Reader A) (P : A → Type 0) (lb : B → List ℕ) (rb : Reader B) (Q : B → Type 0) (lc : C → List ℕ) (rc : Reader C) (R : C → Type 0) (make : A → B → C → Z)
    → IsRead la ra P → IsRead lb rb Q → IsRead lc rc R → (a : A) (b : B) (c : C) (rest : List ℕ) → P a × (Q b × R c)
    → (ra ((la a ++ (lb b ++ lc c)) ++ rest) >>= λ y0. rb y0.1 >>= λ y1. rc y1.1 >>= λ y2. read_as (make y0.0 y1.0 y2.0) y2.1) ≡ read_as (make a b c) rest
three_read la ra P lb rb Q lc rc R make is_a is_b is_c a b c rest fits =
    rw (append_assoc (la a) (lb b ++ lc c) rest, is_a a ((lb b ++ lc c) ++ rest) fits.0) (two_read lb rb Q lc rc R (make a) is_b is_c b c rest fits.1)

pub four_read : {A B C D Z : Type 0} (la : A → List ℕ) (ra : Reader A) (P : A → Type 0) (lb : B → List ℕ) (rb : Reader B) (Q : B → Type 0) (lc : C → List ℕ) (rc : Reader C) (R : C → Type 0) (ld : D → List ℕ) (rd : Reader D) (S : D → Type 0) (make : A → B → C → D → Z)
    → IsRead la ra P → IsRead lb rb Q → IsRead lc rc R → IsRead ld rd S → (a : A) (b : B) (c : C) (d : D) (rest : List ℕ) → P a × (Q b × (R c × S d))
    → (ra ((la a ++ (lb b ++ (lc c ++ ld d))) ++ rest) >>= λ y0. rb y0.1 >>= λ y1. rc y1.1 >>= λ y2. rd y2.1 >>= λ y3. read_as (make y0.0 y1.0 y2.0 y3.0) y3.1) ≡ read_as (make a b c d) rest
four_read la ra P lb rb Q lc rc R ld rd S make is_a is_b is_c is_d a b c d rest fits =
    rw (append_assoc (la a) (lb b ++ (lc c ++ ld d)) rest, is_a a ((lb b ++ (lc c ++ ld d)) ++ rest) fits.0) (three_read lb rb Q lc rc R ld rd S (make a) is_b is_c is_d b c d rest fits.1)
