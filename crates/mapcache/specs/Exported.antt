-- What the exported calls promise: what crates/s3_fifo/specs/Promises.antt says of the calls below them, in the numbers that C sees. `exported`
-- (proofs/ExportedLaws.antt) gives it. Calls one after the other are a `Chain`, so all that `Promises` says of chains is said of them.
-- Assumes nothing.
use Rattle.std.specs.Prelude.{◌≡◌, List, [], ◌∷◌, ◌++◌, ℕ, take, ℤ, pos, negsuc, Float, Result}
use Rattle.cells.specs.Cells.{Bytes}
use Rattle.rules.specs.State.{State, empty_at}
use Rattle.rules.specs.Records.{Request}
use Rattle.rules.specs.Bytes.{parse}
use Rattle.rules.specs.Carry.{opening, CarryAs, unfit, ReadsCarry}
use Rattle.rules.specs.Feed.{completed_of, glued, ended}
use Rattle.rules.specs.Sizing.{limits_for}
use Rattle.rules.specs.Verdict.{damaged}
use Rattle.sizing.specs.declared.Settings.{Settings}
use Rattle.rules.specs.declared.Turned.{Turned}
use Rattle.s3_fifo.specs.Calls.{Said, halted, created_says, ran_says, ReadsAs, Created}
use Rattle.s3_fifo.specs.Feeds.{fed_says, replies_in, carried_out, verdict_says}
use Rattle.s3_fifo.specs.Once.{Agrees}
use Rattle.s3_fifo.specs.Streams.{OneStream, AsOneCall}
use Rattle.s3_fifo.specs.Chains.{Chain}
use Rattle.mapcache.specs.Codes.{code_of, detail_in, CreatedAs, CalledAs, FedWith, FinishedWith}

-- below 0: a refusal
abbrev pub Negative : ℤ → Type 0
Negative (pos n) = ⊥
Negative (negsuc n) = Unit {0}

-- two outcomes of one call: codes, details, stores and replies
pub record OneOutcome (m n : ℤ) (d e : ℕ) (s₁ s₂ p₁ p₂ : List ℕ) : Type 0 where
  pub code : m ≡ n
  pub detail : d ≡ e
  pub replies : p₁ ≡ p₂
  pub refused_same : Negative m → s₁ ≡ s₂
  pub said : Said
  pub said_is : m ≡ code_of said
  pub stores : Agrees said s₁ s₂

-- the code of a bad record, which a stream that stops gives, and one that has stopped
abbrev pub nine : ℤ
nine = code_of (halted 0 0)

-- two outcomes of one feed, which may have stopped the stream
pub record OneFed (m n : ℤ) (i j d e : ℕ) (s₁ s₂ c₁ c₂ p₁ p₂ : List ℕ) : Type 0 where
  pub code : m ≡ n
  pub replied : i ≡ j
  pub detail : d ≡ e
  pub carries : c₁ ≡ c₂
  pub replies : p₁ ≡ p₂
  pub refused_same : Negative m → (m ≡ nine → ⊥) → s₁ ≡ s₂
  pub said : Said
  pub said_is : (m ≡ code_of said) × (i ≡ replies_in said) × (d ≡ detail_in said)
  pub stores : Agrees said s₁ s₂

-- a stream as C sees it: feeds whose code is not below 0, or is nine
pub data Streamed : List ℕ → List ℕ → List (List ℕ) → List ℕ → List ℕ → List ℕ → Type 0 where
  over : {s c : List ℕ} → Streamed s c [] [] s c
  feeds : {s c q p s₁ c₁ p₁ bs s' c' : List ℕ} {ps : List (List ℕ)} {m : ℤ} {n d : ℕ} → FedWith s c q p m n d s₁ c₁ p₁
      → (Negative m → m ≡ nine) → Streamed s₁ c₁ ps bs s' c' → Streamed s c (q ∷ ps) (take n p₁ ++ bs) s' c'

pub record Exported : Type 0 where
  -- a call has one outcome
  pub created_once : {capacity : ℕ} {small ghost : Float} {s s₁ s₂ : List ℕ} {m n : ℤ} → CreatedAs capacity small ghost s m s₁
      → CreatedAs capacity small ghost s n s₂ → OneOutcome m n 0 0 s₁ s₂ [] []
  pub called_once : {s q p s₁ s₂ p₁ p₂ : List ℕ} {m n : ℤ} {d e : ℕ} → CalledAs s q p m d s₁ p₁ → CalledAs s q p n e s₂ p₂ → OneOutcome m n d e s₁ s₂ p₁ p₂
  pub fed_once : {s c q p s₁ s₂ c₁ c₂ p₁ p₂ : List ℕ} {m n : ℤ} {i j d e : ℕ} → FedWith s c q p m i d s₁ c₁ p₁ → FedWith s c q p n j e s₂ c₂ p₂
      → OneFed m n i j d e s₁ s₂ c₁ c₂ p₁ p₂
  pub finished_once : {c : List ℕ} {m n : ℤ} {d e : ℕ} → FinishedWith c m d → FinishedWith c n e → (m ≡ n) × (d ≡ e)
  -- no two answers share number and detail, so that a host knows why it was turned away; of a creation the number is enough
  pub created_apart : {g h : Settings} {s₁ s₂ t₁ t₂ : List ℕ} (r t : Result (Unit {0}) Turned) → Created g s₁ r s₂ → Created h t₁ t t₂
      → code_of (created_says r) ≡ code_of (created_says t) → r ≡ t
  pub called_apart : (r t : Result ℕ Turned) → code_of (ran_says r) ≡ code_of (ran_says t) → detail_in (ran_says r) ≡ detail_in (ran_says t) → r ≡ t
  -- a fresh store never counts as damaged, nor does one that an accepted call or a feed left; nor is the record that a feed left ever one that no
  -- feed could have left
  pub created_intact : {capacity : ℕ} {small ghost : Float} {s s' : List ℕ} → CreatedAs capacity small ghost s (pos 0) s' → ReadsAs s' damaged → ⊥
  pub called_intact : {s q p s' p' : List ℕ} {n d : ℕ} → CalledAs s q p (pos n) d s' p' → ReadsAs s' damaged → ⊥
  pub fed_intact : {s c q p s' c' p' : List ℕ} {m : ℤ} {n d : ℕ} → FedWith s c q p m n d s' c' p' → (Negative m → m ≡ nine) → ReadsAs s' damaged → ⊥
  pub fed_fit : {s c q p s' c' p' : List ℕ} {m : ℤ} {n d : ℕ} → FedWith s c q p m n d s' c' p' → (Negative m → m ≡ nine) → ReadsCarry c' unfit → ⊥
  -- a creation starts a chain, an accepted call adds its requests and its reply bytes, a refused one leaves it as it is
  pub chain_starts : {capacity : ℕ} {small ghost : Float} {s s' : List ℕ} → CreatedAs capacity small ghost s (pos 0) s'
      → Chain s' (empty_at (limits_for capacity small ghost)) [] []
  pub chain_grows : {s q p s' p' : List ℕ} {n d : ℕ} {σ₀ : State} {rs : List Request} {bs : List ℕ} → Chain s σ₀ rs bs → Bytes q
      → CalledAs s q p (pos n) d s' p' → Chain s' σ₀ (rs ++ (parse q).requests) (bs ++ take n p')
  pub chain_stays : {s q p s' p' : List ℕ} {m : ℤ} {d : ℕ} {σ₀ : State} {rs : List Request} {bs : List ℕ} → Chain s σ₀ rs bs → CalledAs s q p m d s' p'
      → Negative m → Chain s' σ₀ rs bs
  -- a feed adds the requests that it carried out and so many reply bytes as it says, whatever its code; one that is turned away adds none
  pub chain_feeds : {s c q p s' c' p' : List ℕ} {m : ℤ} {n d : ℕ} {σ₀ : State} {rs : List Request} {bs : List ℕ} → Chain s σ₀ rs bs → Bytes c → Bytes q
      → (f : FedWith s c q p m n d s' c' p')
      → Chain s' σ₀ (rs ++ carried_out (fed_says f.answer) (completed_of f.fed.carry q)) (bs ++ take n p')
  -- where a stream is cut makes no difference, and one that is fed and finished gives what one call on the whole gives
  pub cut_anywhere : {s c bs₁ bs₂ s₁ s₂ c₁ c₂ : List ℕ} (ps qs : List (List ℕ)) → Streamed s c ps bs₁ s₁ c₁ → Streamed s c qs bs₂ s₂ c₂ → glued ps ≡ glued qs
      → OneStream bs₁ bs₂ s₁ s₂ c₁ c₂
  pub as_one_call : {s c bs s' c' p s₁ p₁ : List ℕ} {n d : ℕ} (ps : List (List ℕ)) → CarryAs c opening → Streamed s c ps bs s' c'
      → CalledAs s (glued ps) p (pos n) d s₁ p₁ → AsOneCall bs s' c' n s₁ p₁
  pub finish-says : {s c bs s' c' : List ℕ} {m : ℤ} {d : ℕ} (ps : List (List ℕ)) → CarryAs c opening → Streamed s c ps bs s' c' → FinishedWith c' m d
      → let a = verdict_says (ended (parse (glued ps)).end) in (m ≡ code_of a) × (d ≡ detail_in a)
