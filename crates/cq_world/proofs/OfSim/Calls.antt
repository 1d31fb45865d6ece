-- What calls of a server tell of calls of the world.
use Rattle.std.proofs.Common.{◌≡◌, sym, subst, Option, None, Result, Ok, Err, OnOk, OnErr, IfOk, IfErr, true, false}
use Rattle.std.specs.Result.{IsOk, IsErr, IsErrAnd, is_err}
use Rattle.cq_chain.specs.declared.fault.WorldFault.{WorldFault}
use Rattle.cq_chain.specs.declared.fault.WorldFault.TheVariants.{NoMemory}
use Rattle.cq_chain.specs.Faults.{IsRefusal}
use Rattle.cq_chain.specs.Stands.{IsRefusedBy}

-- a success
pub ok-step : {A B D : Type 0} (refusal : Option WorldFault) (result : Result (Unit {0}) WorldFault) → IsRefusedBy refusal result → (refusal ≡ None → A) → (D → B) → OnOk result D → OnOk result (A × B)
ok-step refusal (Ok x) h f g d = (f h, g d)
ok-step refusal (Err e) h f g d = tt

-- a refusal
pub err-step : {B D : Type 0} (refusal whole : Option WorldFault) (result : Result (Unit {0}) WorldFault) → IsRefusedBy refusal result → whole ≡ refusal → (D → B) → OnErr result D → IfErr result (λ fault. IsRefusal fault whole × B)
err-step refusal whole (Ok x) h same g d = tt
err-step refusal whole (Err e) h same g d = (subst (λ r. IsRefusal e r) (sym same) h, g d)

-- want of memory, where nothing else refuses
pub err-none : {A B : Type 0} (whole : Option WorldFault) (result : Result A WorldFault) → IsErrAnd result (λ fault. fault ≡ NoMemory) → whole ≡ None → B → IfErr result (λ fault. IsRefusal fault whole × B)
err-none whole (Ok x) h none b = tt
err-none whole (Err e) h none b = (subst (λ f. IsRefusal f whole) (sym h) none, b)

-- the same fault
pub err-same : {A B : Type 0} (whole : Option WorldFault) (fault : WorldFault) (result : Result A WorldFault) → IsErrAnd result (λ f. f ≡ fault) → IsRefusal fault whole → B → IfErr result (λ f. IsRefusal f whole × B)
err-same whole fault (Ok x) h is b = tt
err-same whole fault (Err e) h is b = (subst (λ f. IsRefusal f whole) (sym h) is, b)

-- no success
pub no-ok : {A : Type 0} (D : Type 0) (result : Result A WorldFault) → IsErr result → OnOk result D
no-ok D (Ok x) h = absurd cc
no-ok D (Err e) h = tt

-- what follows of a success, and of an error
pub on-ok : {A E P Q : Type 0} (result : Result A E) → (P → Q) → OnOk result P → OnOk result Q
on-ok (Ok x) f h = f h
on-ok (Err e) f h = tt

pub if-err : {A E : Type 0} (P Q : E → Type 0) (result : Result A E) → ((e : E) → P e → Q e) → IfErr result P → IfErr result Q
if-err P Q (Ok x) f h = tt
if-err P Q (Err e) f h = f e h

-- a result that is no error
pub had-ok : {A E P : Type 0} (result : Result A E) → is_err result ≡ false → OnOk result P → P
had-ok (Ok x) ok h = h
had-ok (Err e) ok h = absurd cc

-- an error gives nothing
pub if-no-ok : {A E : Type 0} (P : A → Type 0) (result : Result A E) → IsErr result → IfOk result P
if-no-ok P (Ok x) h = absurd cc
if-no-ok P (Err e) h = tt

-- what follows of an error alone
pub on-err : {A E P Q : Type 0} (result : Result A E) → (P → Q) → OnErr result P → OnErr result Q
on-err (Ok x) f h = tt
on-err (Err e) f h = f h

-- a result that is an error
pub had-err : {A E P : Type 0} (result : Result A E) → is_err result ≡ true → OnErr result P → P
had-err (Ok x) err h = absurd cc
had-err (Err e) err h = h

-- no error
pub no-err : {A E : Type 0} (D : Type 0) (result : Result A E) → IsOk result → OnErr result D
no-err D (Ok x) h = tt
no-err D (Err e) h = absurd cc
