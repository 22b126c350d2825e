-- The statements of a feed and a finish (RULES 7.3): what their verdicts leave in the answer, the store, the carried record and the reply buffer.
-- Assumes nothing.
use Rattle.std.specs.Prelude.{◌≡◌, cond, List, [], ◌++◌, ℕ, length, drop, Result, Ok, Err}
use Rattle.rules.specs.declared.Turned.{Turned}
use Rattle.rules.specs.Records.{Request, AllPeeks}
use Rattle.rules.specs.Refusals.{number_of, detail_of}
use Rattle.rules.specs.Verdict.{Verdict, refused, done, Reads}
use Rattle.rules.specs.Carry.{Carry, carry_bytes, carry_written, Carried, ReadsCarry}
use Rattle.rules.specs.Feed.{Onward, completed_of, feed, finish_on}
use Rattle.runs.specs.declared.Fed.{Fed}
use Rattle.runs.specs.declared.Fed.TheVariants.{Done, Stopped}
use Rattle.s3_fifo.specs.Calls.{Said, gave, halted, turned, created_says, ReadsAs, Settled}

abbrev pub fed_says : Result Fed Turned → Said
fed_says (Ok (Done n)) = gave n
fed_says (Ok (Stopped n at)) = halted n at
fed_says (Err t) = turned (number_of t) (detail_of t)

-- a finish says what a creation does, on a record that is complete and on one that is not
abbrev pub finish_says : Result (Unit {0}) Turned → Said
finish_says = created_says

-- the reply bytes of an answer, and which of the requests it has carried out: a feed that is turned away carries out none
abbrev pub replies_in : Said → ℕ
replies_in (gave n) = n
replies_in (halted n d) = n
replies_in (turned n d) = 0

abbrev pub carried_out : Said → List Request → List Request
carried_out (gave n) rs = rs
carried_out (halted n d) rs = rs
carried_out (turned n d) rs = []

-- what is said with so many reply bytes, by what is carried on: the stream goes on, or stops now
abbrev pub said_with : Carry → ℕ → Said
said_with c n = cond c.stopped (halted n c.offset) (gave n)

-- what a feed's verdict leaves: a refusal changes no byte; otherwise the next record stands in the lent bytes too, in front of what was there
abbrev pub FollowsFeed : Verdict Onward → Said → List ℕ → List ℕ → List ℕ → List ℕ → List ℕ → List ℕ → Type 0
FollowsFeed (refused n d) a s s' c c' p p' = (a ≡ turned n d) × (s' ≡ s) × (c' ≡ c) × (p' ≡ p)
FollowsFeed (done w bs) a s s' c c' p p' =
    (a ≡ said_with w.carry (length bs)) × Settled s s' w.state × (c' ≡ carry_written w.carry ++ drop carry_bytes c) × (p' ≡ bs ++ drop (length bs) p)

-- a feed: store, carried record, piece and replies before; the answer, the store, the record and the replies after; a feed that completes peeks alone, or no
-- request, changes no byte of the store
pub record FedAs (s c q p : List ℕ) (r : Result Fed Turned) (s' c' p' : List ℕ) : Type 0 where
  pub store : Reads
  pub store_is : ReadsAs s store
  pub carry : Carried
  pub carry_is : ReadsCarry c carry
  pub leaves : FollowsFeed (feed store carry q (length p)) (fed_says r) s s' c c' p p'
  pub untouched : AllPeeks (completed_of carry q) → s' ≡ s

-- what a finish's verdict says
abbrev pub verdict_says : Verdict (Unit {0}) → Said
verdict_says (refused n d) = turned n d
verdict_says (done t bs) = gave (length bs)

-- a finish: the carried record, which it only reads, and the answer
pub record FinishAs (c : List ℕ) (r : Result (Unit {0}) Turned) : Type 0 where
  pub carry : Carried
  pub carry_is : ReadsCarry c carry
  pub says : finish_says r ≡ verdict_says (finish_on carry)
