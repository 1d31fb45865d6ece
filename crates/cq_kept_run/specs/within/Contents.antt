-- What a journal has, and the line that tells it.
use Rattle.std.specs.Prelude.{◌≡◌, ℕ, Bool, List, [], ◌∷◌, ◌++◌, Option, None, Some, codes, decimal, length}
use Rattle.std.specs.Io.KnownBytes.{Appends}
use Rattle.cq_store.specs.Stands.{StoreKept}
use Rattle.cq_journal.specs.Regions.{all_records, kept, kept_regions}
use Rattle.cq_kept_session.specs.Contents.{Holds}
use Rattle.cq_kept_session.specs.declared.base.Header.{Header}
use Rattle.cq_kept_session.specs.declared.contents.Contents.{Contents}
use Rattle.cq_kept_run.specs.declared.sizes.TheConstants.{HALF, REGION}

-- These bytes have a root that names such regions, in order, and what is told is of their records. The bytes of the lines are told where
-- they are to be kept.
pub record IsContentsOf (bytes : List ℕ) (keeps : Bool) (told : Contents) : Type 0 where
  pub regions : List (List (List ℕ))
  pub named : kept_regions HALF REGION bytes ≡ Some regions
  pub records : kept HALF REGION bytes ≡ Some (all_records regions)
  pub holds : Holds (all_records regions) (length regions) keeps told

-- the numbers of a journal, as they are told
abbrev pub numbers_text : Contents → List ℕ
numbers_text told =
    codes "\"bytes\":" ++ (decimal told.bytes ++ (codes ",\"kind\":\"journal\",\"lines\":" ++ (decimal told.line_count
    ++ (codes ",\"records\":" ++ (decimal told.records ++ (codes ",\"regions\":" ++ (decimal told.regions ++ (codes "}" ++ 10 ∷ []))))))))

-- before them the numbers of the header of its base
abbrev pub header_text : Header → List ℕ
header_text header =
    codes "{\"base\":{\"clients\":" ++ (decimal header.highest.clients ++ (codes ",\"lines\":" ++ (decimal header.lines
    ++ (codes ",\"queriers\":" ++ (decimal header.highest.queriers ++ codes "},")))))

-- if it has one
abbrev pub front_text : Option (Header × StoreKept) → List ℕ
front_text None = 123 ∷ []
front_text (Some base) = header_text base.0

-- The line that tells what a journal has is written.
pub record TellsContents (told : Contents) (before after : Option (List ℕ)) : Type 0 where
  pub begun : Option (List ℕ)
  pub front : Appends before begun (front_text told.base)
  pub numbers : Appends begun after (numbers_text told)

-- the line that tells the header of a base, behind the chunks of its store
abbrev pub base_line : Header → List ℕ
base_line header =
    codes "{\"clients\":" ++ (decimal header.highest.clients ++ (codes ",\"kind\":\"base\",\"lines\":" ++ (decimal header.lines
    ++ (codes ",\"queriers\":" ++ (decimal header.highest.queriers ++ (codes "}" ++ 10 ∷ []))))))
