-- Calls one after the other on one store, each lent the store as the last one left it: the state that they began with, what was asked and answered since,
-- and what is promised of all that.
-- Assumes nothing.
use Rattle.std.specs.Prelude.{◌≡◌, List, [], ◌++◌, ℕ, ◌≤◌, length, take, Result, Ok}
use Rattle.cells.specs.Cells.{Bytes}
use Rattle.rules.specs.State.{Limits, State, empty_at, keyed, residents, Sound}
use Rattle.rules.specs.Records.{Request, IN, AllNarrow}
use Rattle.rules.specs.Requests.{apply, run}
use Rattle.rules.specs.Bytes.{encode_all, parse}
use Rattle.rules.specs.Feed.{completed_of}
use Rattle.rules.specs.Sizing.{limits_for}
use Rattle.rules.specs.Refusals.{store_bytes}
use Rattle.rules.specs.Ledger.{Answered, history}
use Rattle.rules.specs.Replies.{ReadAs}
use Rattle.rules.specs.Demand3.{FullInsert, Demand3}
use Rattle.sizing.specs.declared.Settings.{Settings}
use Rattle.store.specs.Holds.{Holds}
use Rattle.rules.specs.declared.Turned.{Turned}
use Rattle.runs.specs.declared.Fed.{Fed}
use Rattle.s3_fifo.specs.Calls.{turned, ran_says, Created, Called}
use Rattle.s3_fifo.specs.Feeds.{fed_says, replies_in, carried_out, FedAs}

-- the limits that settings stand for, where they are not refused
abbrev pub limits_made : Settings → Limits
limits_made settings = limits_for settings.capacity settings.small_ratio settings.ghost_ratio

-- the store now, the state that it held at first, the requests carried out since, by calls and by feeds of any streams, and the reply bytes to them. A finish
-- is lent no store
pub data Chain : List ℕ → State → List Request → List ℕ → Type 0 where
  start : {settings : Settings} {s s' : List ℕ} → Created settings s (Ok tt) s' → Chain s' (empty_at (limits_made settings)) [] []
  accepted : {s q p s' p' : List ℕ} {n : ℕ} {σ₀ : State} {rs : List Request} {bs : List ℕ} → Chain s σ₀ rs bs → Bytes q
      → Called s q p (Ok n) s' p' → Chain s' σ₀ (rs ++ (parse q).requests) (bs ++ take n p')
  refused : {s q p s' p' : List ℕ} {r : Result ℕ Turned} {σ₀ : State} {rs : List Request} {bs : List ℕ} (n d : ℕ) → Chain s σ₀ rs bs
      → Called s q p r s' p' → ran_says r ≡ turned n d → Chain s' σ₀ rs bs
  fed : {s c q p s' c' p' : List ℕ} {r : Result Fed Turned} {σ₀ : State} {rs : List Request} {bs : List ℕ} → Chain s σ₀ rs bs → Bytes c → Bytes q
      → (f : FedAs s c q p r s' c' p')
      → Chain s' σ₀ (rs ++ carried_out (fed_says r) (completed_of f.carry q)) (bs ++ take (replies_in (fed_says r)) p')

-- ---- what is promised of a chain

-- it started from a sound state; the store holds what the rules make of the requests, and the reply bytes are theirs
pub record Grown (s : List ℕ) (σ₀ : State) (rs : List Request) (bs : List ℕ) : Type 0 where
  pub sound : Sound σ₀
  pub narrow : AllNarrow rs
  pub holds : Holds s (run σ₀ rs).state
  pub told : bs ≡ encode_all (run σ₀ rs).replies
  pub long : store_bytes ≤ length s

-- demand 3, of the state that the store holds and the history of the requests; and that history is the only way to read the reply bytes as answers to them
pub record Kept (s : List ℕ) (σ₀ : State) (rs : List Request) (bs : List ℕ) : Type 0 where
  pub grown : Grown s σ₀ rs bs
  pub read : ReadAs rs bs (history σ₀ rs)
  pub only : (h : List Answered) → ReadAs rs bs h → h ≡ history σ₀ rs
  pub demand : Demand3 σ₀ (run σ₀ rs).state (history σ₀ rs)

-- the insert of k and v after the requests a and before the requests b, wherever in a chain that is, also in the middle of a call: what it did where its key
-- was absent and the cache full, and where its replies stand
pub record FullWithin (σ₀ : State) (a : List Request) (k v : ℕ) (b : List Request) (bs : List ℕ) : Type 0 where
  pub before : State
  pub before_is : before ≡ (run σ₀ a).state
  pub full : keyed k before ≡ 0 → residents before ≡ before.limits.capacity → FullInsert k v before (apply before (IN k v))
  pub told : bs ≡ encode_all (run σ₀ a).replies ++ (encode_all (apply before (IN k v)).replies ++ encode_all (run (apply before (IN k v)).state b).replies)
