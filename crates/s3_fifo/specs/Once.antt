-- What two outcomes of one call have in common, so that nobody can tell them apart.
-- Assumes nothing.
use Rattle.std.specs.Prelude.{◌≡◌, List, ℕ, length, drop, Result}
use Rattle.nodes.specs.Nodes.{used}
use Rattle.rules.specs.State.{State}
use Rattle.store.specs.Holds.{shape_for, Holds}
use Rattle.rules.specs.declared.Turned.{Turned}
use Rattle.runs.specs.declared.Fed.{Fed}
use Rattle.s3_fifo.specs.Calls.{Said, turned, created_says, ran_says}
use Rattle.s3_fifo.specs.Feeds.{fed_says}

-- two stores that hold the same state, if they hold one
pub record SameState (s₁ s₂ : List ℕ) : Type 0 where
  pub holds : (σ : State) → Holds s₁ σ → Holds s₂ σ
  pub back : (σ : State) → Holds s₂ σ → Holds s₁ σ
  pub same_length : length s₁ ≡ length s₂

-- two stores after an answer: the same bytes where it is a refusal; otherwise they hold the same state, and the same bytes stand behind it
pub record Agrees (a : Said) (s₁ s₂ : List ℕ) : Type 0 where
  pub refused_same : (n d : ℕ) → a ≡ turned n d → s₁ ≡ s₂
  pub alike : SameState s₁ s₂
  pub surplus : (σ : State) → Holds s₁ σ → drop (used (shape_for σ.limits)) s₁ ≡ drop (used (shape_for σ.limits)) s₂

pub record OneCreation (r t : Result (Unit {0}) Turned) (s₁ s₂ : List ℕ) : Type 0 where
  pub answer : r ≡ t
  pub stores : Agrees (created_says r) s₁ s₂

pub record OneCall (r t : Result ℕ Turned) (s₁ s₂ p₁ p₂ : List ℕ) : Type 0 where
  pub answer : r ≡ t
  pub replies : p₁ ≡ p₂
  pub stores : Agrees (ran_says r) s₁ s₂

pub record OneFeed (r t : Result Fed Turned) (s₁ s₂ c₁ c₂ p₁ p₂ : List ℕ) : Type 0 where
  pub answer : r ≡ t
  pub carries : c₁ ≡ c₂
  pub replies : p₁ ≡ p₂
  pub stores : Agrees (fed_says r) s₁ s₂
