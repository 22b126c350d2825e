-- The statements of the public calls: what a store reads as, and what a verdict of the rules leaves in the answer, the store and the reply buffer.
-- Assumes nothing.
use Rattle.std.specs.Prelude.{◌≡◌, List, [], ◌++◌, ℕ, ◌≤◌, ◌<◌, length, drop, Result, Ok, Err}
use Rattle.nodes.specs.Nodes.{used}
use Rattle.rules.specs.declared.Turned.{Turned}
use Rattle.rules.specs.State.{State}
use Rattle.rules.specs.Records.{AllPeeks}
use Rattle.rules.specs.Bytes.{parse}
use Rattle.rules.specs.Refusals.{number_of, detail_of, store_bytes}
use Rattle.rules.specs.Verdict.{Verdict, refused, done, create, Reads, short, damaged, reads, call}
use Rattle.sizing.specs.declared.Settings.{Settings}
use Rattle.store.specs.Holds.{shape_for, Holds}

-- an answer in the rules' terms (RULES 7, RULES 8): so many reply bytes; so many, and the stream stops at a mark with that offset; or turned away by a number,
-- with a detail
pub data Said : Type 0 where
  gave : ℕ → Said
  halted turned : ℕ → ℕ → Said

abbrev pub created_says : Result (Unit {0}) Turned → Said
created_says (Ok u) = gave 0
created_says (Err t) = turned (number_of t) (detail_of t)

abbrev pub ran_says : Result ℕ Turned → Said
ran_says (Ok n) = gave n
ran_says (Err t) = turned (number_of t) (detail_of t)

-- what the bytes of a store read as: too short, no sound state, or the state that they hold
abbrev pub ReadsAs : List ℕ → Reads → Type 0
ReadsAs s short = length s < store_bytes
ReadsAs s damaged = (store_bytes ≤ length s) × ((σ : State) → Holds s σ → ⊥)
ReadsAs s (reads σ) = (store_bytes ≤ length s) × Holds s σ

-- s' is s with the state σ: it holds σ, and what stands behind the bytes in use stayed
pub record Settled (s s' : List ℕ) (σ : State) : Type 0 where
  pub holds : Holds s' σ
  pub surplus : drop (used (shape_for σ.limits)) s' ≡ drop (used (shape_for σ.limits)) s
  pub same_length : length s' ≡ length s

-- what a verdict leaves: a refusal changes no byte; otherwise the replies stand in front of what was there
abbrev pub Follows : Verdict State → Said → List ℕ → List ℕ → List ℕ → List ℕ → Type 0
Follows (refused n d) a s s' p p' = (a ≡ turned n d) × (s' ≡ s) × (p' ≡ p)
Follows (done σ bs) a s s' p p' = (a ≡ gave (length bs)) × Settled s s' σ × (p' ≡ bs ++ drop (length bs) p)

-- creation: settings and the store before; the answer and the store after
pub record Created (settings : Settings) (s : List ℕ) (r : Result (Unit {0}) Turned) (s' : List ℕ) : Type 0 where
  pub leaves : Follows (create settings.capacity settings.small_ratio settings.ghost_ratio (length s)) (created_says r) s s' [] []

-- a call: store, requests and replies before; the answer, the store and the replies after; a call of peeks alone, or of no request, changes no byte of the
-- store
pub record Called (s q p : List ℕ) (r : Result ℕ Turned) (s' p' : List ℕ) : Type 0 where
  pub store : Reads
  pub store_is : ReadsAs s store
  pub leaves : Follows (call store q (length p)) (ran_says r) s s' p p'
  pub untouched : AllPeeks (parse q).requests → s' ≡ s
