-- Values that were cleared after each chunk: with them, what was read is a text as if they were kept.
use Rattle.cq_base.specs.Relations.{IsPrefix}
use Rattle.std.proofs.Common.{◌≡◌, ℕ, Bool, true, false, List, [], ◌++◌, Some, Result, Ok, Err, refl, sym, ap, ◌∙◌, append_assoc, append-nil}
use Rattle.cq_lines.specs.Lines.{has_line_feed, ended_part}
use Rattle.cq_lines.specs.Grammars.{Grammar, Parsed, Yields, with_prefix, parse_text}
use Rattle.cq_lines.specs.Faults.{ends_by_memory}
use Rattle.cq_lines.specs.Progress.{Progress, parse_after, with_earlier, ReadsOn, MeetsFault, FeedsChunk, HasRead, AreFirstValues}
use Rattle.cq_lines.specs.declared.fault.ScriptFault.{ScriptFault}
use Rattle.cq_lines.specs.declared.fault.ScriptFault.TheVariants.{BadLine, LineTooLong, TooManyLines, ReadFailed, WriteFailed, NoMemory}
use Rattle.cq_lines.specs.declared.limits.Limits.{Limits}
use Rattle.cq_lines.proofs.Continuing.{with_prefix-twice}
use Rattle.cq_lines.proofs.Chunks.{parse_after-start, ended_part-before, ended_part-behind, chunk_is_read}
use Rattle.cq_lines.proofs.Endings.{parse_text-end}

module _ {T : Type 0} (grammar : Grammar T) where
  parse_after-earlier : (xs : List T) (s : Progress T) (bytes : List ℕ) → parse_after grammar (with_earlier xs s) bytes ≡ with_prefix xs (parse_after grammar s bytes)
  unfolding parse_after
  parse_after-earlier xs s bytes = sym (with_prefix-twice xs s.values _)

  reads_on-earlier : (xs : List T) (old new : Progress T) (bytes : List ℕ) → ReadsOn grammar old bytes new → ReadsOn grammar (with_earlier xs old) bytes (with_earlier xs new)
  reads_on-earlier xs old new bytes goes = record {
    continues = λ more. parse_after-earlier xs old (bytes ++ more) ∙ ap (with_prefix xs) (goes.continues more) ∙ sym (parse_after-earlier xs new more);
    ended = λ some. parse_after-earlier xs old (ended_part bytes) ∙ ap (with_prefix xs) (goes.ended some);
    unended = λ none. ap (λ values. xs ++ values) (goes.unended none);
    stays_open = λ yet.
        let old_fault : (parse_after grammar (with_earlier xs old) []).fault ≡ (parse_after grammar old []).fault = ap (λ (x : Parsed T). x.fault) (parse_after-earlier xs old []) in
        let new_fault : (parse_after grammar (with_earlier xs new) []).fault ≡ (parse_after grammar new []).fault = ap (λ (x : Parsed T). x.fault) (parse_after-earlier xs new []) in
        rw new_fault (goes.stays_open (rw old_fault at yet));
  }

  fault-earlier : (xs : List T) (f : ScriptFault) (old new : Progress T) (bytes : List ℕ) → MeetsFault grammar f old bytes new → MeetsFault grammar f (with_earlier xs old) bytes (with_earlier xs new)
  fault-earlier xs f old new bytes fault = record {
    here = λ more. parse_after-earlier xs old (bytes ++ more) ∙ ap (with_prefix xs) (fault.here more);
    ended = λ some. ap (λ (x : Parsed T). x.values) (parse_after-earlier xs old (ended_part bytes)) ∙ ap (λ values. xs ++ values) (fault.ended some);
    unended = λ none. ap (λ values. xs ++ values) (fault.unended none);
  }

  feeds-earlier : (xs : List T) (r : Result (Unit {0}) ScriptFault) (old new : Progress T) (bytes : List ℕ) → FeedsChunk grammar r old bytes new → FeedsChunk grammar r (with_earlier xs old) bytes (with_earlier xs new)
  feeds-earlier xs (Ok _) old new bytes feeds = reads_on-earlier xs old new bytes feeds
  feeds-earlier xs (Err (BadLine n)) old new bytes feeds = fault-earlier xs (BadLine n) old new bytes feeds
  feeds-earlier xs (Err (LineTooLong n)) old new bytes feeds = fault-earlier xs (LineTooLong n) old new bytes feeds
  feeds-earlier xs (Err TooManyLines) old new bytes feeds = fault-earlier xs TooManyLines old new bytes feeds
  feeds-earlier xs (Err ReadFailed) old new bytes feeds = feeds
  feeds-earlier xs (Err WriteFailed) old new bytes feeds = feeds
  feeds-earlier xs (Err NoMemory) old new bytes feeds = tt

  yields-earlier : (xs : List T) (r : Result (Unit {0}) ScriptFault) (values : List T) (parsed : Parsed T) → Yields r values parsed → Yields r (xs ++ values) (with_prefix xs parsed)
  yields-earlier xs (Ok _) values parsed is = ap (with_prefix xs) is
  yields-earlier xs (Err (BadLine n)) values parsed is = ap (with_prefix xs) is
  yields-earlier xs (Err (LineTooLong n)) values parsed is = ap (with_prefix xs) is
  yields-earlier xs (Err TooManyLines) values parsed is = ap (with_prefix xs) is
  yields-earlier xs (Err ReadFailed) values parsed is = is
  yields-earlier xs (Err WriteFailed) values parsed is = is
  yields-earlier xs (Err NoMemory) values parsed is = tt

module _ {T : Type 0} (grammar : Grammar T) (limits : Limits) where
  from_start : (s : Progress T) (input more : List ℕ) → HasRead grammar limits input s → parse_text grammar limits (input ++ more) ≡ parse_after grammar s more
  from_start s input more read = sym (parse_after-start grammar limits (input ++ more)) ∙ read.continues more

  first_of_rest : (s : Progress T) (bytes : List ℕ) → IsPrefix s.values (parse_after grammar s bytes).values
  unfolding parse_after
  first_of_rest s bytes = (_, refl)

  IsPrefix-equal : (xs ys zs : List T) → ys ≡ zs → IsPrefix xs zs → IsPrefix xs ys
  IsPrefix-equal xs ys zs is prefix = rw is prefix

  IsPrefix-self : (xs ys : List T) → ys ≡ xs → IsPrefix xs ys
  IsPrefix-self xs ys is = ([], is ∙ sym (append-nil xs))

  -- the values so far are the first ones, whatever comes
  pub first_values : (s : Progress T) (input : List ℕ) → HasRead grammar limits input s → AreFirstValues grammar limits s.values input
  first_values s input read = record {
    prefix = λ more. IsPrefix-equal s.values _ _ (ap (λ (x : Parsed T). x.values) (from_start s input more read)) (first_of_rest s more);
    ended = IsPrefix-self s.values _ (ap (λ (x : Parsed T). x.values) read.ended);
  }

  first_ended : (s : Progress T) (input chunk : List ℕ) (some : Bool) → has_line_feed chunk ≡ some → HasRead grammar limits input s → IsPrefix s.values (parse_text grammar limits (ended_part (input ++ chunk))).values
  first_ended s input chunk true is read =
      IsPrefix-equal s.values _ _ (ap (λ (x : Parsed T). x.values) (ap (parse_text grammar limits) (ended_part-behind input chunk is) ∙ from_start s input (ended_part chunk) read))
      (first_of_rest s (ended_part chunk))
  first_ended s input chunk false is read = IsPrefix-self s.values _ (ap (λ (x : Parsed T). x.values) (ap (parse_text grammar limits) (ended_part-before input chunk is) ∙ read.ended))

  -- also behind a chunk that was not read to its end
  pub first_before_chunk : (s : Progress T) (input chunk : List ℕ) → HasRead grammar limits input s → AreFirstValues grammar limits s.values (input ++ chunk)
  first_before_chunk s input chunk read = record {
    prefix = λ more.
        IsPrefix-equal s.values _ _ (ap (λ (x : Parsed T). x.values) (ap (parse_text grammar limits) (append_assoc input chunk more) ∙ from_start s input (chunk ++ more) read)) (first_of_rest s (chunk ++ more));
    ended = first_ended s input chunk _ refl read;
  }

  -- the text of a chunk with a fault
  text_of_fault : (f : ScriptFault) (old new : Progress T) (input chunk : List ℕ) → HasRead grammar limits input old → MeetsFault grammar f old chunk new
      → (more : List ℕ) → parse_text grammar limits ((input ++ chunk) ++ more) ≡ record { values = new.values; fault = Some f }
  text_of_fault f old new input chunk read fault more =
      ap (parse_text grammar limits) (append_assoc input chunk more) ∙ from_start old input (chunk ++ more) read ∙ fault.here more

  ended_of_fault : (f : ScriptFault) (old new : Progress T) (input chunk : List ℕ) (some : Bool) → has_line_feed chunk ≡ some → HasRead grammar limits input old → MeetsFault grammar f old chunk new
      → (parse_text grammar limits (ended_part (input ++ chunk))).values ≡ new.values
  ended_of_fault f old new input chunk true is read fault =
      ap (λ (x : Parsed T). x.values) (ap (parse_text grammar limits) (ended_part-behind input chunk is) ∙ from_start old input (ended_part chunk) read) ∙ fault.ended is
  ended_of_fault f old new input chunk false is read fault =
      ap (λ (x : Parsed T). x.values) (ap (parse_text grammar limits) (ended_part-before input chunk is) ∙ read.ended) ∙ sym (fault.unended is)

  first_at_fault : (f : ScriptFault) (old new : Progress T) (input chunk : List ℕ) → HasRead grammar limits input old → MeetsFault grammar f old chunk new
      → AreFirstValues grammar limits new.values (input ++ chunk)
  first_at_fault f old new input chunk read fault = record {
    prefix = λ more. IsPrefix-self new.values _ (ap (λ (x : Parsed T). x.values) (text_of_fault f old new input chunk read fault more));
    ended = IsPrefix-self new.values _ (ended_of_fault f old new input chunk _ refl read fault);
  }

  first_of_chunk : (r : Result (Unit {0}) ScriptFault) (old new : Progress T) (input chunk : List ℕ) → ends_by_memory r ≡ false → HasRead grammar limits input old → FeedsChunk grammar r old chunk new
      → AreFirstValues grammar limits new.values (input ++ chunk)
  first_of_chunk (Ok _) old new input chunk lasts read feeds = first_values new (input ++ chunk) (chunk_is_read grammar limits old new input chunk read feeds)
  first_of_chunk (Err (BadLine n)) old new input chunk lasts read feeds = first_at_fault (BadLine n) old new input chunk read feeds
  first_of_chunk (Err (LineTooLong n)) old new input chunk lasts read feeds = first_at_fault (LineTooLong n) old new input chunk read feeds
  first_of_chunk (Err TooManyLines) old new input chunk lasts read feeds = first_at_fault TooManyLines old new input chunk read feeds
  first_of_chunk (Err ReadFailed) old new input chunk lasts read feeds = absurd feeds
  first_of_chunk (Err WriteFailed) old new input chunk lasts read feeds = absurd feeds
  first_of_chunk (Err NoMemory) old new input chunk lasts read feeds = cc

  -- ---- with the values that were cleared

  pub fed_values : (taken : List T) (r : Result (Unit {0}) ScriptFault) (old new : Progress T) (input chunk : List ℕ) → ends_by_memory r ≡ false → HasRead grammar limits input (with_earlier taken old)
      → FeedsChunk grammar r old chunk new → AreFirstValues grammar limits (taken ++ new.values) (input ++ chunk)
  fed_values taken r old new input chunk lasts read feeds = first_of_chunk r (with_earlier taken old) (with_earlier taken new) input chunk lasts read (feeds-earlier grammar taken r old new chunk feeds)

  pub fed_on : (taken : List T) (old new : Progress T) (input chunk : List ℕ) → HasRead grammar limits input (with_earlier taken old) → ReadsOn grammar old chunk new
      → HasRead grammar limits (input ++ chunk) (with_earlier taken new)
  fed_on taken old new input chunk read goes = chunk_is_read grammar limits (with_earlier taken old) (with_earlier taken new) input chunk read (reads_on-earlier grammar taken old new chunk goes)

  pub fed_fault : (taken : List T) (f : ScriptFault) (old new : Progress T) (input chunk : List ℕ) → HasRead grammar limits input (with_earlier taken old) → MeetsFault grammar f old chunk new
      → (more : List ℕ) → parse_text grammar limits ((input ++ chunk) ++ more) ≡ record { values = taken ++ new.values; fault = Some f }
  fed_fault taken f old new input chunk read fault = text_of_fault f (with_earlier taken old) (with_earlier taken new) input chunk read (fault-earlier grammar taken f old new chunk fault)

  -- at the end of the text
  pub fed_end : (taken : List T) (r : Result (Unit {0}) ScriptFault) (old new : Progress T) (input : List ℕ) → HasRead grammar limits input (with_earlier taken old)
      → Yields r new.values (parse_after grammar old []) → Yields r (taken ++ new.values) (parse_text grammar limits input)
  fed_end taken r old new input read is =
      rw (parse_text-end grammar limits (with_earlier taken old) input read, parse_after-earlier grammar taken old []) (yields-earlier grammar taken r new.values (parse_after grammar old []) is)
