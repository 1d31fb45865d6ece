-- The numbers and flags as they are found.
use Rattle.std.proofs.Common.{◌≡◌, ◌∙◌, ℕ, ◌≤◌, Bool, true, false, List, Option, Some, None, inl, inr, refl, subst, sym, codes}
use Rattle.std.specs.Prelude.{IfSome}
use Rattle.std.specs.Str.Parse.{ExplainsUnsignedError, HasUnsignedDigitsIfOk, ParsesUnsigned}
use Rattle.clap.specs.Words.{Row, found_of, one_of, rows_of}
use Rattle.clap.proofs.WalkLemmas.{one_text-rows}
use Rattle.cq_args.specs.declared.invocation.Invocation.{Invocation}
use Rattle.cq_args.specs.declared.invocation.Invocation.TheVariants.{First, Joining, Loaded}
use Rattle.cq_args.specs.CommandLine.{AsksServer, IsFirstIn, IsNumber}
use Rattle.cq_args.proofs.Asked.{number_found}
use Rattle.cq_args.proofs.invocation.unkept_server_in.Goals as goal

not_both : {P : Type 0} (b : Bool) → b ≡ true → b ≡ false → P
not_both b yes_ no_ = let both : true ≡ false = sym yes_ ∙ no_ in cc

joins : (rows : List Row) (id : ℕ) (is_loading : Bool) (r : Option Invocation) → IsNumber (one_of (codes "id") rows) id
    → (one_of (codes "joining") rows ≡ Some (codes "false") → ⊥) → (one_of (codes "load") rows ≡ Some (codes "true") → is_loading ≡ true)
    → IfSome r (λ it. (it ≡ Joining id) × (is_loading ≡ false)) → IfSome r (AsksServer rows)
joins rows id is_loading None number joining load h = tt
joins rows id is_loading (Some it) number joining load h = subst (AsksServer rows) (sym h.0) (number, joining, λ is. not_both is_loading (load is) h.1)

begins : (rows : List Row) (id size : ℕ) (is_loading : Bool) (it : Invocation) → IsNumber (one_of (codes "id") rows) id → IsNumber (one_of (codes "first") rows) size
    → (one_of (codes "joining") rows ≡ Some (codes "true") → ⊥) → (one_of (codes "load") rows ≡ Some (codes "true") → is_loading ≡ true)
    → (one_of (codes "load") rows ≡ Some (codes "false") → is_loading ≡ false) → IsFirstIn id size is_loading it → AsksServer rows it
begins rows id size is_loading it number first joining load other (inl h) =
    subst (AsksServer rows) (sym h.0) (number, first, h.1, joining, λ is. not_both is_loading (load is) h.2)
begins rows id size is_loading it number first joining load other (inr h) =
    subst (AsksServer rows) (sym h.0) (subst (λ n. IsNumber (one_of (codes "id") rows) n) h.1 number, subst (λ n. IsNumber (one_of (codes "first") rows) n) h.2 first, λ is. not_both is_loading h.3 (other is))

begins_if : (rows : List Row) (id size : ℕ) (is_loading : Bool) (r : Option Invocation) → IsNumber (one_of (codes "id") rows) id → IsNumber (one_of (codes "first") rows) size
    → (one_of (codes "joining") rows ≡ Some (codes "true") → ⊥) → (one_of (codes "load") rows ≡ Some (codes "true") → is_loading ≡ true)
    → (one_of (codes "load") rows ≡ Some (codes "false") → is_loading ≡ false) → IfSome r (IsFirstIn id size is_loading) → IfSome r (AsksServer rows)
begins_if rows id size is_loading None number first joining load other h = tt
begins_if rows id size is_loading (Some it) number first joining load other h = begins rows id size is_loading it number first joining load other h

pub returns-then-get_flag : goal.returns-then-get_flag
returns-then-get_flag c =
    let f = found_of c.args.options.now in
    joins (rows_of f) c.in_ok-id.id c.get_flag-is_loading.result c.joining_in.result
    (number_found (λ text r. ParsesUnsigned 32 10 text r × ExplainsUnsignedError 10 text r × HasUnsignedDigitsIfOk text r)
    (λ text n gives. gives.0.1) (codes "id") f c.get_one.result c.in_ok-get_one.field-0 c.in_ok-id.id c.get_one.ensures.none c.get_one.ensures.value c.in_ok-get_one.was c.in_ok-id.ensures.value)
    (λ is. not_both c.get_flag.result c.if-get_flag.true (c.get_flag.ensures.other (one_text-rows f (codes "joining") ∙ is)))
    (λ is. c.get_flag-is_loading.ensures.value (one_text-rows f (codes "load") ∙ is))
    c.joining_in.ensures

pub returns : goal.returns
returns c =
    let f = found_of c.args.options.now in
    begins_if (rows_of f) c.in_ok-id.id c.in_ok-new.field-0 c.get_flag-is_loading.result c.first_in.result
    (number_found (λ text r. ParsesUnsigned 32 10 text r × ExplainsUnsignedError 10 text r × HasUnsignedDigitsIfOk text r)
    (λ text n gives. gives.0.1) (codes "id") f c.get_one.result c.in_ok-get_one.field-0 c.in_ok-id.id c.get_one.ensures.none c.get_one.ensures.value c.in_ok-get_one.was c.in_ok-id.ensures.value)
    (number_found (λ text r. ParsesUnsigned 8 10 text r × ExplainsUnsignedError 10 text r × HasUnsignedDigitsIfOk text r)
    (λ text n gives. gives.0.1) (codes "first") f c.get_one-size.result c.in_ok-size.field-0 c.in_ok-new.field-0 c.get_one-size.ensures.none c.get_one-size.ensures.value c.in_ok-size.was c.in_ok-new.ensures.value)
    (λ is. not_both c.get_flag.result (c.get_flag.ensures.value (one_text-rows f (codes "joining") ∙ is)) c.if-get_flag.false)
    (λ is. c.get_flag-is_loading.ensures.value (one_text-rows f (codes "load") ∙ is))
    (λ is. c.get_flag-is_loading.ensures.other (one_text-rows f (codes "load") ∙ is))
    c.first_in.ensures
