-- The cache's answers as the numbers that C sees, and what the exported calls promise with them.
-- Assumes nothing.
use Rattle.std.specs.Prelude.{◌≡◌, List, ℕ, ◌<◌, ◌^◌, ℤ, pos, neg_ℤ, Float, Result}
use Rattle.rules.specs.declared.Turned.{Turned}
use Rattle.rules.specs.declared.Turned.TheVariants.{BadRecord}
use Rattle.rules.specs.Refusals.{number_of}
use Rattle.runs.specs.declared.Fed.{Fed}
use Rattle.s3_fifo.specs.Calls.{Said, gave, halted, turned, created_says, ran_says, Created, Called}
use Rattle.s3_fifo.specs.Feeds.{fed_says, finish_says, replies_in, FedAs, FinishAs}

-- the reply bytes, or minus the refusal's number; a stream that stops gives that of a bad record
abbrev pub code_of : Said → ℤ
code_of (gave n) = pos n
code_of (halted n d) = neg_ℤ (pos (number_of (BadRecord d)))
code_of (turned n d) = neg_ℤ (pos n)

-- the refusal's detail, 0 otherwise
abbrev pub detail_in : Said → ℕ
detail_in (gave n) = 0
detail_in (halted n d) = d
detail_in (turned n d) = d

-- an answer as number and detail tell it: a stream that stops is a bad record
abbrev pub as_told : Said → Said
as_told (gave n) = gave n
as_told (halted n d) = turned (number_of (BadRecord d)) d
as_told (turned n d) = turned n d

-- the reply bytes fit an `i64`, as they fit the reply buffer
abbrev pub FitsIn : Said → Type 0
FitsIn (gave n) = n < 2 ^ 63
FitsIn (halted n d) = Unit {0}
FitsIn (turned n d) = Unit {0}

-- a creation with the settings spelled out, as a number
pub record CreatedAs (capacity : ℕ) (small ghost : Float) (s : List ℕ) (code : ℤ) (s' : List ℕ) : Type 0 where
  pub answer : Result (Unit {0}) Turned
  pub created : Created (record { capacity = capacity; small_ratio = small; ghost_ratio = ghost }) s answer s'
  pub code_is : code ≡ code_of (created_says answer)

-- a call, as a number and a detail
pub record CalledAs (s q p : List ℕ) (code : ℤ) (detail : ℕ) (s' p' : List ℕ) : Type 0 where
  pub answer : Result ℕ Turned
  pub called : Called s q p answer s' p'
  pub code_is : code ≡ code_of (ran_says answer)
  pub detail_is : detail ≡ detail_in (ran_says answer)

-- a feed, as a number, the reply bytes and a detail
pub record FedWith (s c q p : List ℕ) (code : ℤ) (replied detail : ℕ) (s' c' p' : List ℕ) : Type 0 where
  pub answer : Result Fed Turned
  pub fed : FedAs s c q p answer s' c' p'
  pub code_is : code ≡ code_of (fed_says answer)
  pub replied_is : replied ≡ replies_in (fed_says answer)
  pub detail_is : detail ≡ detail_in (fed_says answer)

-- a finish, as a number and a detail
pub record FinishedWith (c : List ℕ) (code : ℤ) (detail : ℕ) : Type 0 where
  pub answer : Result (Unit {0}) Turned
  pub finished : FinishAs c answer
  pub code_is : code ≡ code_of (finish_says answer)
  pub detail_is : detail ≡ detail_in (finish_says answer)
