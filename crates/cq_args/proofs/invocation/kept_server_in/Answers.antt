-- The numbers, flags and the file as they are found.
use Rattle.std.proofs.Common.{◌≡◌, ◌∙◌, Bool, true, false, Some, refl, sym, codes}
use Rattle.std.specs.Str.Parse.{ExplainsUnsignedError, HasUnsignedDigitsIfOk, ParsesUnsigned}
use Rattle.clap.specs.Words.{found_of, rows_of}
use Rattle.clap.proofs.WalkLemmas.{one_text-rows}
use Rattle.cq_args.proofs.Asked.{number_found, number_read, read_or}
use Rattle.cq_args.proofs.invocation.kept_server_in.Goals as goal

not_both : {P : Type 0} (b : Bool) → b ≡ true → b ≡ false → P
not_both b yes_ no_ = let both : true ≡ false = sym yes_ ∙ no_ in cc

pub returns : goal.returns
returns c =
    let f = found_of c.args.options.now in
    let size = number_read (λ text r. ParsesUnsigned 64 10 text r × ExplainsUnsignedError 10 text r × HasUnsignedDigitsIfOk text r)
    (λ text n gives. gives.0.1) (codes "journal-size") (rows_of f) f c.get_one-mebibytes.result refl c.get_one-mebibytes.ensures.none c.get_one-mebibytes.ensures.value in (
      refl,
      tt,
      record {
        file = c.requires;
        id = number_found (λ text r. ParsesUnsigned 32 10 text r × ExplainsUnsignedError 10 text r × HasUnsignedDigitsIfOk text r)
            (λ text n gives. gives.0.1) (codes "id") f c.get_one.result c.in_ok-id.id 1 c.get_one.ensures.none c.get_one.ensures.value c.in_ok-id.was (sym c.if-id-ne1.false);
        first = number_found (λ text r. ParsesUnsigned 8 10 text r × ExplainsUnsignedError 10 text r × HasUnsignedDigitsIfOk text r)
            (λ text n gives. gives.0.1) (codes "first") f c.get_one-2.result c.in_ok-size.size 1 c.get_one-2.ensures.none c.get_one-2.ensures.value c.in_ok-size.was (sym c.if-size-ne1.false);
        length = read_or _ c.get_one-mebibytes.result _ c.unwrap_or-mebibytes.ensures size;
        alone = λ is. not_both c.get_flag.result (c.get_flag.ensures.value (one_text-rows f (codes "joining") ∙ is)) c.if-get_flag.false;
        empty = λ is. not_both c.get_flag-2.result (c.get_flag-2.ensures.value (one_text-rows f (codes "load") ∙ is)) c.if-get_flag-2.false;
        is_told = λ is. c.get_flag-no_create.ensures.value (one_text-rows f (codes "no-create") ∙ is);
        is_not_told = λ is. c.get_flag-no_create.ensures.other (one_text-rows f (codes "no-create") ∙ is);
      },
    )
