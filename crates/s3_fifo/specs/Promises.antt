-- What the calls promise, on one page: start here. `promises` (proofs/PromisesLaws.antt) is the theorem that gives it.
-- `Created`, `Called` (Calls.antt), `FedAs` and `FinishAs` (Feeds.antt) are the contracts of `S3FifoCache::create`, `run`, `feed` and `finish`, which ask
-- nothing of their caller: whatever bytes are lent, a call ends, and they hold of its outcome. So what is said here of every outcome that satisfies them is
-- said of the calls.
-- Assumes nothing.
use Rattle.std.specs.Prelude.{◌≡◌, true, List, ◌∷◌, ◌++◌, ℕ, Result, Ok}
use Rattle.cells.specs.Cells.{Bytes}
use Rattle.rules.specs.State.{State}
use Rattle.rules.specs.Records.{Request, IN}
use Rattle.rules.specs.Bytes.{parse}
use Rattle.rules.specs.Verdict.{damaged}
use Rattle.rules.specs.Carry.{Carry, opening, could_leave, CarryAs, unfit, ReadsCarry}
use Rattle.rules.specs.Feed.{glued, ended, Reached}
use Rattle.sizing.specs.declared.Settings.{Settings}
use Rattle.rules.specs.declared.Turned.{Turned}
use Rattle.runs.specs.declared.Fed.{Fed}
use Rattle.s3_fifo.specs.Calls.{ReadsAs, Created, Called}
use Rattle.s3_fifo.specs.Feeds.{fed_says, finish_says, FedAs, verdict_says, FinishAs}
use Rattle.s3_fifo.specs.Once.{OneCreation, OneCall, OneFeed}
use Rattle.s3_fifo.specs.Streams.{NotTurned, Stream, OneStream, AsOneCall}
use Rattle.s3_fifo.specs.Chains.{Chain, Kept, FullWithin}

pub record Promises : Type 0 where
  -- demands 1 and 2: a call has one outcome, and after a refusal no byte is another
  pub created_once : {settings : Settings} {s s₁ s₂ : List ℕ} (r t : Result (Unit {0}) Turned) → Created settings s r s₁ → Created settings s t s₂
      → OneCreation r t s₁ s₂
  pub called_once : {s q p s₁ s₂ p₁ p₂ : List ℕ} (r t : Result ℕ Turned) → Called s q p r s₁ p₁ → Called s q p t s₂ p₂ → OneCall r t s₁ s₂ p₁ p₂
  pub fed_once : {s c q p s₁ s₂ c₁ c₂ p₁ p₂ : List ℕ} (r t : Result Fed Turned) → FedAs s c q p r s₁ c₁ p₁ → FedAs s c q p t s₂ c₂ p₂
      → OneFeed r t s₁ s₂ c₁ c₂ p₁ p₂
  pub finished_once : {c : List ℕ} (r t : Result (Unit {0}) Turned) → FinishAs c r → FinishAs c t → r ≡ t
  -- a fresh store never counts as damaged, nor does one that an accepted call or a feed left; nor is the record that a feed left ever
  -- one that no feed could have left
  pub created_intact : {settings : Settings} {s s' : List ℕ} → Created settings s (Ok tt) s' → ReadsAs s' damaged → ⊥
  pub called_intact : {s q p s' p' : List ℕ} {n : ℕ} → Called s q p (Ok n) s' p' → ReadsAs s' damaged → ⊥
  pub fed_intact : {s c q p s' c' p' : List ℕ} (r : Result Fed Turned) → FedAs s c q p r s' c' p' → NotTurned (fed_says r) → ReadsAs s' damaged → ⊥
  pub fed_fit : {s c q p s' c' p' : List ℕ} (r : Result Fed Turned) → FedAs s c q p r s' c' p' → NotTurned (fed_says r) → ReadsCarry c' unfit → ⊥
  -- refusal 17 is exact: a record passes its test exactly where accepted feeds leave it
  pub could_reach : (c : Carry) → Bytes c.kept → could_leave c ≡ true → Reached c
  pub reach_could : {c : Carry} → Reached c → could_leave c ≡ true
  -- where a stream is cut makes no difference to the replies joined, the state and the record; a new stream that is fed and finished gives what one call on
  -- the whole gives, where that call is accepted; and a finish says how the whole ended
  pub cut_anywhere : {s c bs₁ bs₂ s₁ s₂ c₁ c₂ : List ℕ} (ps qs : List (List ℕ)) → Stream s c ps bs₁ s₁ c₁ → Stream s c qs bs₂ s₂ c₂ → glued ps ≡ glued qs
      → OneStream bs₁ bs₂ s₁ s₂ c₁ c₂
  pub as_one_call : {s c bs s' c' p s₁ p₁ : List ℕ} {n : ℕ} (ps : List (List ℕ)) → CarryAs c opening → Stream s c ps bs s' c'
      → Called s (glued ps) p (Ok n) s₁ p₁ → AsOneCall bs s' c' n s₁ p₁
  pub finish-says : {s c bs s' c' : List ℕ} (ps : List (List ℕ)) → CarryAs c opening → Stream s c ps bs s' c'
      → (r : Result (Unit {0}) Turned) → FinishAs c' r → finish_says r ≡ verdict_says (ended (parse (glued ps)).end)
  -- demand 3, over any chain of calls and feeds: the ledger and one place for each key; and the full insert, wherever in the chain it comes
  pub chain_keeps : {s : List ℕ} {σ₀ : State} {rs : List Request} {bs : List ℕ} → Chain s σ₀ rs bs → Kept s σ₀ rs bs
  pub full_within : (a : List Request) (k v : ℕ) (b : List Request) {s bs : List ℕ} {σ₀ : State} {rs : List Request} → Chain s σ₀ rs bs
      → rs ≡ a ++ IN k v ∷ b → FullWithin σ₀ a k v b bs
