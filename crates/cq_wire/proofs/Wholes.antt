-- Wholes that are read were written so, and what was written is read.
use Rattle.std.proofs.Common.{◌≡◌, ℕ, Bool, true, false, cond, eqb, List, [], ◌∷◌, ◌++◌, length, Result, Ok, Err, refl, sym, ap, subst, ◌∙◌}
use Rattle.std.specs.Prelude.{IfOk}
use Rattle.std.proofs.lemmas.Bool.{eqb-true}
use Rattle.std.proofs.lemmas.List.{append-nil, nil_from_length}
use Rattle.cq_wire.specs.declared.version.TheConstants.{VERSION}
use Rattle.cq_wire.specs.declared.fault.WireFault.{WireFault}
use Rattle.cq_wire.specs.declared.fault.WireFault.TheVariants.{BytesLeft, OtherVersion}
use Rattle.cq_wire.specs.declared.fault.ReadFault.{ReadFault}
use Rattle.cq_wire.specs.Layout.{whole}
use Rattle.cq_wire.specs.Reading.{Reader, Gives, all_of, whole_at}
use Rattle.cq_wire.proofs.Fronts.{IsBytes, IsBytes-rest, Reads, IsRead, bind_ok, either}

all_ended : {A : Type 0} (b : Bool) (x y : A) → cond b (Ok x) (Err BytesLeft) ≡ Ok y → (b ≡ true) × (x ≡ y)
all_ended true x y e = (refl, cc)
all_ended false x y e = absurd cc

all_read : {A : Type 0} (layout : A → List ℕ) (read : Reader A) (P : A → Type 0) → Reads layout read P → (bytes : List ℕ) (x : A) → IsBytes bytes → all_of read bytes ≡ Ok x → P x × (bytes ≡ layout x)
unfolding all_of
all_read {A} layout read P reads bytes x fits e =
    let a = bind_ok (read bytes) (λ y. cond (eqb (length y.1) 0) (Ok y.0) (Err BytesLeft)) x e in
    let k = all_ended (eqb (length a.0.1) 0) a.0.0 x a.2 in
    let r = reads bytes a.0 fits a.1 in
    let nothing : a.0.1 ≡ [] = nil_from_length a.0.1 (eqb-true _ _ k.0) in
    let is : bytes ≡ layout a.0.0 = r.0.parts ∙ ap (λ (rest : List ℕ). layout a.0.0 ++ rest) nothing ∙ append-nil (layout a.0.0) in
    subst (λ (y : A). P y × (bytes ≡ layout y)) k.1 (r.1, is)

pub whole_reads : {A : Type 0} (layout : A → List ℕ) (read : Reader A) (P : A → Type 0) → Reads layout read P → (bytes : List ℕ) (x : A) → IsBytes bytes → whole_at read bytes ≡ Ok x → P x × (bytes ≡ whole layout x)
unfolding whole_at whole
whole_reads layout read P reads [] x fits e = absurd cc
whole_reads layout read P reads (version ∷ rest) x fits e =
    either (eqb version VERSION) (all_of read rest) (Err OtherVersion) x (P x × (version ∷ rest ≡ VERSION ∷ layout x)) e
    (λ is found. let r = all_read layout read P reads rest x (IsBytes-rest version rest fits) found in (r.0, rw (eqb-true version VERSION is) (ap (λ (b : List ℕ). VERSION ∷ b) r.1)))
    (λ no. absurd cc)

pub whole_is_read : {A : Type 0} (layout : A → List ℕ) (read : Reader A) (P : A → Type 0) → IsRead layout read P → (x : A) → P x → whole_at read (whole layout x) ≡ Ok x
unfolding whole_at whole all_of
whole_is_read layout read P is_read x fits =
    let e : read (layout x) ≡ Ok (x, []) = ap read (sym (append-nil (layout x))) ∙ is_read x [] fits in
    rw e refl

pub is_found : {A : Type 0} (layout : A → List ℕ) (read : Reader A) (P : A → Type 0) → Reads layout read P → (bytes : List ℕ) (r : Result A ReadFault) → IsBytes bytes
    → Gives (λ x. x) r (whole_at read bytes) → IfOk r (λ x. P x × (bytes ≡ whole layout x))
is_found layout read P reads bytes (Ok x) fits given = whole_reads layout read P reads bytes x fits given
is_found layout read P reads bytes (Err e) fits given = tt

abbrev found : {A : Type 0} → A → Result A WireFault
found x = Ok x

same_found : {A : Type 0} (x y : A) → found x ≡ found y → x ≡ y
same_found x y e = cc

pub whole_differs : {A : Type 0} (layout : A → List ℕ) (read : Reader A) (P : A → Type 0) → IsRead layout read P → (x y : A) → P x → P y → whole layout x ≡ whole layout y → x ≡ y
whole_differs {A} layout read P is_read x y fits others same =
    let e : whole_at read (whole layout x) ≡ Ok y = ap (whole_at read) same ∙ whole_is_read layout read P is_read y others in
    same_found x y (sym (whole_is_read layout read P is_read x fits) ∙ e)
