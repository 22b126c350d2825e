-- Streams: feeds one after the other, each lent the store and the carried record as the last one left them, and what is promised of all their bytes
-- together, however they are cut (RULES 7.3).
-- Assumes nothing.
use Rattle.std.specs.Prelude.{◌≡◌, List, [], ◌∷◌, ◌++◌, ℕ, take, Result, Ok}
use Rattle.rules.specs.declared.Turned.{Turned}
use Rattle.rules.specs.declared.Turned.TheVariants.{BadRecord}
use Rattle.rules.specs.Refusals.{number_of}
use Rattle.runs.specs.declared.Fed.{Fed}
use Rattle.s3_fifo.specs.Feeds.{fed_says, replies_in, FedAs, FinishAs}
use Rattle.s3_fifo.specs.Calls.{Said, gave, halted, turned}
use Rattle.s3_fifo.specs.Once.{SameState}

-- an answer to a feed that was not turned away by 6, 7, 8, 10 or 17; a stream that has stopped before gives 9
abbrev pub NotTurned : Said → Type 0
NotTurned (gave n) = Unit {0}
NotTurned (halted n d) = Unit {0}
NotTurned (turned n d) = n ≡ number_of (BadRecord d)

-- from the store s and the record c: the pieces, the replies joined, the store and the record after them
pub data Stream : List ℕ → List ℕ → List (List ℕ) → List ℕ → List ℕ → List ℕ → Type 0 where
  over : {s c : List ℕ} → Stream s c [] [] s c
  feeds : {s c q p s₁ c₁ p₁ bs s' c' : List ℕ} {ps : List (List ℕ)} {r : Result Fed Turned} → FedAs s c q p r s₁ c₁ p₁ → NotTurned (fed_says r)
      → Stream s₁ c₁ ps bs s' c' → Stream s c (q ∷ ps) (take (replies_in (fed_says r)) p₁ ++ bs) s' c'

-- two streams that nobody can tell apart by what they gave and left
pub record OneStream (bs₁ bs₂ s₁ s₂ c₁ c₂ : List ℕ) : Type 0 where
  pub replies : bs₁ ≡ bs₂
  pub carries : c₁ ≡ c₂
  pub stores : SameState s₁ s₂

-- what one call on all bytes gave, with n reply bytes in front of p₁ and the store s₁: the stream gave and left the same, and a finish finds it complete
pub record AsOneCall (bs s' c' : List ℕ) (n : ℕ) (s₁ p₁ : List ℕ) : Type 0 where
  pub replies : bs ≡ take n p₁
  pub stores : SameState s₁ s'
  pub complete : (r : Result (Unit {0}) Turned) → FinishAs c' r → r ≡ Ok tt
