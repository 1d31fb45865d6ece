-- What was written in parts.
use Rattle.std.proofs.Common.{◌≡◌, ℕ, ◌∙◌, ◌++◌, List, [], ◌∷◌, Bool, true, false, Option, Result, Ok, Err, ap, sym, refl, subst, drop, length, append_assoc, append-nil, if◌then◌else◌}
use Rattle.std.specs.Prelude.{OnOk}
use Rattle.std.specs.Io.KnownBytes.{Appends}
use Rattle.std.proofs.KnownBytes.{Appends-nil, Appends-trans}
use Rattle.std.proofs.Math.Seq.{drop-append_seam}
use Rattle.cq_base.specs.Relations.{IsPrefix}
use Rattle.cq_lines.specs.Lines.{has_line_feed}
use Rattle.cq_lines.specs.declared.fault.ScriptFault.{ScriptFault}
use Rattle.cq_script.specs.Resumed.{HasRun, world_behind}
use Rattle.cq_show.specs.Worlds.{world_text}
use Rattle.cq_script.specs.declared.resumed.ResumedSession.{ResumedSession}
use Rattle.cq_watching.specs.Coming.{Come, after_bytes, after_end, asks, by_bytes}
use Rattle.cq_watching.specs.Watching.{Adds, Keeps, answered_text, line_text}
use Rattle.cq_watching.specs.declared.watcher.Watcher.{Watcher}
use Rattle.cq_watching.proofs.Coming.{by-append, by-end, by-part, by-rest, left-line}

pub on_ok_so : {A P : Type 0} (r : Result A ScriptFault) → P → OnOk r P
on_ok_so (Ok x) p = p
on_ok_so (Err f) p = tt

pub on_ok_map : {A P Q : Type 0} (r : Result A ScriptFault) → (P → Q) → OnOk r P → OnOk r Q
on_ok_map (Ok x) by p = by p
on_ok_map (Err f) by p = tt

-- what comes behind a text that has been written
pub more-adds : (r : Result (Unit {0}) ScriptFault) (old new : Option (List ℕ)) (text whole out : List ℕ) → Appends old new out → IsPrefix (text ++ out) whole → OnOk r (whole ≡ text ++ out)
    → Adds r (drop (length text) whole) old new
more-adds r old new text whole out adds part all = (
  out,
  adds,
  (part.0, ap (drop (length text)) (part.1 ∙ append_assoc text out part.0) ∙ drop-append_seam text (out ++ part.0)),
  exact r all,
) where
  exact : (r : Result (Unit {0}) ScriptFault) → OnOk r (whole ≡ text ++ out) → OnOk r (out ≡ drop (length text) whole)
  exact (Ok x) all = sym (ap (drop (length text)) all ∙ drop-append_seam text out)
  exact (Err f) all = tt

-- the first part was written, and of the second one what the answer says
pub adds-then : {A : Type 0} (r : Result A ScriptFault) (old mid new : Option (List ℕ)) (first second out : List ℕ) → Appends old mid out → out ≡ first → Adds r second mid new → Adds r (first ++ second) old new
adds-then r old mid new first second out adds is more = (
  out ++ more.0,
  Appends-trans old mid new out more.0 adds more.1,
  (more.2.0, ap (λ t. first ++ t) more.2.1 ∙ sym (append_assoc first more.0 more.2.0) ∙ ap (λ t. (t ++ more.0) ++ more.2.0) (sym is)),
  on_ok_map r (λ all. ap (λ t. t ++ more.0) is ∙ ap (λ t. first ++ t) all) more.3,
)

-- a part of the first part was written, and then a fault came
pub adds-cut : (r : Result (Unit {0}) ScriptFault) (f : ScriptFault) (old new : Option (List ℕ)) (first second : List ℕ) → Adds r first old new → Adds {A = Unit {0}} (Err f) (first ++ second) old new
adds-cut r f old new first second adds = (
  adds.0,
  adds.1,
  (adds.2.0 ++ second, ap (λ t. t ++ second) adds.2.1 ∙ append_assoc adds.0 adds.2.0 second),
  tt,
)

pub none-adds : (f : ScriptFault) (old : Option (List ℕ)) (text : List ℕ) → Adds {A = Unit {0}} (Err f) text old old
none-adds f old text = ([], Appends-nil old, (text, refl), tt)

-- ---- the same in other words

pub adds-as : {A : Type 0} (r : Result A ScriptFault) (text other : List ℕ) (old new : Option (List ℕ)) → text ≡ other → Adds r text old new → Adds r other old new
adds-as r text other old new is adds = subst (λ t. Adds r t old new) is adds

pub keeps-as : (size : ℕ) (come other : Come) (watcher : Watcher) → come ≡ other → Keeps size come watcher → Keeps size other watcher
keeps-as size come other watcher is keeps = subst (λ c. Keeps size c watcher) is keeps

pub ran-as : (size : ℕ) (given bytes other : List ℕ) (session : ResumedSession) → bytes ≡ other → HasRun size (given ++ bytes) session → HasRun size (given ++ other) session
ran-as size given bytes other session is ran = subst (λ b. HasRun size (given ++ b) session) is ran

-- ---- the end of a line

abbrev plain-line : List ℕ → Bool → List ℕ
plain-line line is = (if is then [] else line) ++ 10 ∷ []

abbrev text-by : ℕ → Come → Bool → List ℕ
text-by size come is =
    answered_text size come.given (plain-line come.line is) ++ (if is then world_text (world_behind size (come.given ++ plain-line come.line is)) else [])

pub line-asked : (size : ℕ) (come : Come) → asks come.line ≡ true
    → line_text size come ≡ answered_text size come.given (10 ∷ []) ++ world_text (world_behind size (come.given ++ 10 ∷ []))
line-asked size come is = ap (text-by size come) is

pub line-answered : (size : ℕ) (come : Come) → asks come.line ≡ false → line_text size come ≡ answered_text size come.given (come.line ++ 10 ∷ [])
line-answered size come is = ap (text-by size come) is ∙ append-nil (answered_text size come.given (come.line ++ 10 ∷ []))

pub end-asked : (come : Come) → asks come.line ≡ true → after_end come ≡ record { given = come.given ++ 10 ∷ []; line = [] }
end-asked come is = ap (λ b. record { given = come.given ++ ((if b then [] else come.line) ++ 10 ∷ []); line = [] }) is

pub end-answered : (come : Come) → asks come.line ≡ false → after_end come ≡ record { given = come.given ++ (come.line ++ 10 ∷ []); line = [] }
end-answered come is = ap (λ b. record { given = come.given ++ ((if b then [] else come.line) ++ 10 ∷ []); line = [] }) is

-- ---- lines one after another

-- more lines were run
pub more-lines : (of_line : Come → List ℕ) (come : Come) (done more out : List ℕ) (old mid new : Option (List ℕ)) → Appends old mid (by_bytes of_line come done) → Appends mid new out
    → out ≡ by_bytes of_line (after_bytes come done) more → Appends old new (by_bytes of_line come (done ++ more))
more-lines of_line come done more out old mid new first second is =
    subst (Appends old new) (ap (λ t. by_bytes of_line come done ++ t) is ∙ sym (by-append of_line come done more))
    (Appends-trans old mid new (by_bytes of_line come done) out first second)

-- of the bytes behind those that are done, so much was written
pub rest-adds : {A : Type 0} (r : Result A ScriptFault) (of_line : Come → List ℕ) (come : Come) (bytes done rest : List ℕ) (old mid new : Option (List ℕ)) → bytes ≡ done ++ rest
    → Appends old mid (by_bytes of_line come done) → Adds r (by_bytes of_line (after_bytes come done) rest) mid new → Adds r (by_bytes of_line come bytes) old new
rest-adds r of_line come bytes done rest old mid new is first more =
    subst (λ t. Adds r t old new) (by-rest of_line come bytes done rest is)
    (adds-then r old mid new (by_bytes of_line come done) (by_bytes of_line (after_bytes come done) rest) (by_bytes of_line come done) first refl more)

-- a fault came in a line of what is left
pub line-cut : (r : Result (Unit {0}) ScriptFault) (f : ScriptFault) (of_line : Come → List ℕ) (come : Come) (rest line later : List ℕ) (old new : Option (List ℕ)) → rest ≡ line ++ 10 ∷ later
    → Adds r (by_bytes of_line come (line ++ 10 ∷ [])) old new → Adds {A = Unit {0}} (Err f) (by_bytes of_line come rest) old new
line-cut r f of_line come rest line later old new cut adds =
    subst (λ t. Adds {A = Unit {0}} (Err f) t old new) (by-rest of_line come rest (line ++ 10 ∷ []) later (cut ∙ left-line line later))
    (adds-cut r f old new (by_bytes of_line come (line ++ 10 ∷ [])) (by_bytes of_line (after_bytes come (line ++ 10 ∷ [])) later) adds)

-- of a part in which no line ends nothing is written
pub part-adds : (of_line : Come → List ℕ) (come : Come) (part : List ℕ) (old : Option (List ℕ)) → has_line_feed part ≡ false → Adds {A = Unit {0}} (Ok tt) (by_bytes of_line come part) old old
part-adds of_line come part old none = ([], Appends-nil old, (by_bytes of_line come part, refl), sym (by-part of_line come part none))

-- at the end of the input a line ends
pub end-adds : {A : Type 0} (r : Result A ScriptFault) (of_line : Come → List ℕ) (come : Come) (input : List ℕ) (old mid new : Option (List ℕ)) → Appends old mid (by_bytes of_line come input)
    → Adds r (of_line (after_bytes come input)) mid new → Adds r (by_bytes of_line come (input ++ 10 ∷ [])) old new
end-adds r of_line come input old mid new first last =
    rest-adds r of_line come (input ++ 10 ∷ []) input (10 ∷ []) old mid new refl first (adds-as r _ _ mid new (sym (by-end of_line (after_bytes come input))) last)

-- it was not read to its end
pub unended : (of_line : Come → List ℕ) (come : Come) (input : List ℕ) → IsPrefix (by_bytes of_line come input) (by_bytes of_line come (input ++ 10 ∷ []))
unended of_line come input = (by_bytes of_line (after_bytes come input) (10 ∷ []), by-append of_line come input (10 ∷ []))

pub unended-adds : (f : ScriptFault) (of_line : Come → List ℕ) (come : Come) (input chunk : List ℕ) (old mid new : Option (List ℕ)) → Appends old mid (by_bytes of_line come input)
    → Adds {A = Unit {0}} (Err f) (by_bytes of_line (after_bytes come input) chunk) mid new → Adds {A = Unit {0}} (Err f) (by_bytes of_line come ((input ++ chunk) ++ 10 ∷ [])) old new
unended-adds f of_line come input chunk old mid new first more =
    adds-as {A = Unit {0}} (Err f) _ _ old new (sym (by-append of_line come (input ++ chunk) (10 ∷ [])))
    (adds-cut (Err f) f old new (by_bytes of_line come (input ++ chunk)) (by_bytes of_line (after_bytes come (input ++ chunk)) (10 ∷ []))
    (rest-adds {A = Unit {0}} (Err f) of_line come (input ++ chunk) input chunk old mid new refl first more))
