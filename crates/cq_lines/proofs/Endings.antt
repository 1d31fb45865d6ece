-- How reading a whole text ends.
use Rattle.std.proofs.Common.{◌≡◌, ℕ, Bool, true, false, cond, List, [], ◌++◌, take, Option, None, Some, IfSome, Ok, Err, sym, ap, ◌∙◌, subst, append_assoc, append-nil}
use Rattle.std.specs.Global.{Vec}
use Rattle.std.specs.Io.KnownBytes.{Consumes, IsAtEnd}
use Rattle.std.proofs.KnownBytes.{Consumes-trans}
use Rattle.cq_lines.specs.Grammars.{Grammar, Parsed, Yields, parse_text}
use Rattle.cq_lines.specs.Texts.{EndsAt, HasNoFaultYet, ReadsText}
use Rattle.cq_lines.specs.Progress.{Progress, nothing_read, parse_after, FeedsChunk, HasRead}
use Rattle.cq_lines.specs.declared.fault.ScriptFault.{ScriptFault}
use Rattle.cq_lines.specs.declared.fault.ScriptFault.TheVariants.{BadLine, LineTooLong, TooManyLines, ReadFailed, WriteFailed, NoMemory}
use Rattle.cq_lines.specs.declared.limits.Limits.{Limits}
use Rattle.cq_lines.proofs.Chunks.{parse_after-start}

pub Consumes-nothing : (a b c : Option (List ℕ)) (input chunk : List ℕ) (n : ℕ) → n ≡ 0 → Consumes a b input → Consumes b c (take n chunk) → Consumes a c input
Consumes-nothing a b c input chunk n none before now =
    let more : Consumes b c [] = rw none at now in
    subst (Consumes a c) (append-nil input) (Consumes-trans a b c input [] before more)

module _ {T : Type 0} (grammar : Grammar T) (limits : Limits) where
  -- at a fault in a chunk
  stopped : (f : ScriptFault) (s : Progress T) (values : List T) (input chunk : List ℕ) (left : Option (List ℕ)) → HasRead grammar limits input s
      → ((more : List ℕ) → parse_after grammar s (chunk ++ more) ≡ record { values = values; fault = Some f }) → EndsAt grammar limits f (input ++ chunk) left
  stopped f s values input chunk left read stop = record {
    here = ap (λ bytes. (parse_text grammar limits bytes).fault) (sym (append-nil (input ++ chunk))) ∙ always [];
    whole = later left;
  } where
    always : (more : List ℕ) → (parse_text grammar limits ((input ++ chunk) ++ more)).fault ≡ Some f
    always more =
        ap (λ (x : Parsed T). x.fault) (sym (parse_after-start grammar limits ((input ++ chunk) ++ more)) ∙ ap (parse_after grammar (nothing_read limits)) (append_assoc input chunk more)
        ∙ read.continues (chunk ++ more) ∙ stop more)

    later : (left : Option (List ℕ)) → IfSome left (λ more. (parse_text grammar limits ((input ++ chunk) ++ more)).fault ≡ Some f)
    later None = tt
    later (Some more) = always more

  pub text-fault : (f : ScriptFault) (s new : Progress T) (input chunk : List ℕ) (left : Option (List ℕ)) → HasRead grammar limits input s → FeedsChunk grammar (Err f) s chunk new
      → ReadsText grammar limits (Err f) (input ++ chunk) left
  text-fault (BadLine n) s new input chunk left read stop = stopped (BadLine n) s new.values input chunk left read stop.here
  text-fault (LineTooLong n) s new input chunk left read stop = stopped (LineTooLong n) s new.values input chunk left read stop.here
  text-fault TooManyLines s new input chunk left read stop = stopped TooManyLines s new.values input chunk left read stop.here
  text-fault ReadFailed s new input chunk left read stop = absurd stop
  text-fault WriteFailed s new input chunk left read stop = absurd stop
  text-fault NoMemory s new input chunk left read stop = tt

  -- `ReadFailed` is no fault of a chunk
  pub feeds_no_read_fault : (f : ScriptFault) (s new : Progress T) (chunk : List ℕ) → FeedsChunk grammar (Err f) s chunk new → f ≡ ReadFailed → ⊥
  feeds_no_read_fault f s new chunk stop is =
      let never : FeedsChunk grammar (Err ReadFailed) s chunk new = rw is at stop in
      never

  -- at the end of the text
  pub parse_text-end : (s : Progress T) (input : List ℕ) → HasRead grammar limits input s → parse_text grammar limits input ≡ parse_after grammar s []
  parse_text-end s input read = ap (parse_text grammar limits) (sym (append-nil input)) ∙ sym (parse_after-start grammar limits (input ++ [])) ∙ read.continues []

  pub text-end : (values : Vec T) (s new : Progress T) (input : List ℕ) (left : Option (List ℕ)) → IsAtEnd left → HasRead grammar limits input s
      → parse_after grammar s [] ≡ record { values = new.values; fault = None } → values.items ≡ new.values → ReadsText grammar limits (Ok values) input left
  text-end values s new input left end read is all = (end, parse_text-end s input read ∙ is ∙ ap (λ list. record { values = list; fault = None }) (sym all))

  ends_at_last : (f : ScriptFault) (s new : Progress T) (input : List ℕ) (left : Option (List ℕ)) → IsAtEnd left → HasRead grammar limits input s
      → parse_after grammar s [] ≡ record { values = new.values; fault = Some f } → EndsAt grammar limits f input left
  ends_at_last f s new input left end read is = record { here = fault; whole = whole left end } where
    fault : (parse_text grammar limits input).fault ≡ Some f
    fault = ap (λ (x : Parsed T). x.fault) (parse_text-end s input read ∙ is)

    whole : (left : Option (List ℕ)) → IsAtEnd left → IfSome left (λ more. (parse_text grammar limits (input ++ more)).fault ≡ Some f)
    whole None end = tt
    whole (Some more) end = rw (end, append-nil input) fault

  pub text-last_fault : (f : ScriptFault) (s new : Progress T) (input : List ℕ) (left : Option (List ℕ)) → IsAtEnd left → HasRead grammar limits input s
      → Yields (Err f) new.values (parse_after grammar s []) → ReadsText grammar limits (Err f) input left
  text-last_fault (BadLine n) s new input left end read is = ends_at_last (BadLine n) s new input left end read is
  text-last_fault (LineTooLong n) s new input left end read is = ends_at_last (LineTooLong n) s new input left end read is
  text-last_fault TooManyLines s new input left end read is = ends_at_last TooManyLines s new input left end read is
  text-last_fault ReadFailed s new input left end read is = absurd is
  text-last_fault WriteFailed s new input left end read is = absurd is
  text-last_fault NoMemory s new input left end read is = tt

  pub no_fault_yet : (s : Progress T) (input : List ℕ) → HasRead grammar limits input s → HasNoFaultYet grammar limits input
  no_fault_yet s input read = record { ended = ap (λ (x : Parsed T). x.fault) read.ended; goes_on = rw (parse_text-end s input read) read.stays_open }

  -- where a read failed, or memory ran out
  pub text-failed : (failed : Bool) (f : ScriptFault) (input : List ℕ) (left : Option (List ℕ)) → f ≡ cond failed ReadFailed NoMemory → HasNoFaultYet grammar limits input
      → ReadsText grammar limits (Err f) input left
  text-failed true f input left is yet = rw is yet
  text-failed false f input left is yet = rw is tt
