-- Eviction: one step, and steps until a pair has left (RULES 4).
-- Assumes nothing.
use Rattle.std.specs.Prelude.{ℕ, suc, zero, ◌≤◌, Bool, cond, ◌||◌, ◌≡◌, List, [], ◌∷◌, ltb, leb, length}
use Rattle.rules.specs.Parts.{Pop, empty, popped, pop_tail, null}
use Rattle.rules.specs.State.{Entry, Limits, State, Queue, Small, Main, cool, queue_of, set_queue, set_ghosts, push_to, residents, warmth}
use Rattle.rules.specs.Records.{Reply, ES, EM}
use Rattle.rules.specs.Ghosts.{record_ghost}

-- what a step does: nothing is there to pop; the popped entry went to Main's head; it left
pub data Turn : Type 0 where
  idle : Turn
  moved : Queue → State → Turn
  left : Queue → Entry → State → Turn

-- Small holds more than its limit
abbrev pub above : State → Bool
above σ = ltb σ.limits.small_limit (length σ.small)

-- the queue whose tail is popped
abbrev pub victim : State → Queue
victim σ = cond (above σ || null σ.main) Small Main

-- whether a popped entry goes back
abbrev pub wanted : Entry → Bool
wanted e = ltb 0 e.freq

-- the same in eviction, whatever the limits and the queue
abbrev pub stays : Limits → Queue → Entry → Bool
stays L q e = wanted e

-- what leaves Small is recorded as a ghost
abbrev pub ghosted : Queue → Entry → State → State
ghosted Small e σ = set_ghosts (record_ghost σ.limits.ghost_limit e.key σ.ghosts).ghosts σ
ghosted Main e σ = σ

abbrev pub back : Queue → List Entry → Entry → State → State
back q r e σ = push_to Main (cool q e) (set_queue q r σ)

unfoldable pub on_pop : Queue → State → Pop Entry → Turn
unfolding record_ghost
on_pop q σ empty = idle
on_pop q σ (popped r e) = cond (stays σ.limits q e) (moved q (back q r e σ)) (left q e (ghosted q e (set_queue q r σ)))

unfoldable pub step : State → Turn
unfolding on_pop
step σ = on_pop (victim σ) σ (pop_tail (queue_of (victim σ) σ))

-- ---- steps until a pair has left

pub record Evicted : Type 0 where
  pub state : State
  pub told : List Reply
  pub pops : ℕ

abbrev pub tell : Queue → Entry → Reply
tell Small e = ES e.key e.value
tell Main e = EM e.key e.value

abbrev pub one_pop : Evicted → Evicted
one_pop w = record { state = w.state; told = w.told; pops = suc w.pops }

abbrev pub untouched : State → Evicted
untouched σ = record { state = σ; told = []; pops = 0 }

unfoldable pub finish : (State → Evicted) → State → Turn → Evicted
finish more σ idle = untouched σ
finish more σ (moved q τ) = one_pop (more τ)
finish more σ (left q e τ) = record { state = τ; told = tell q e ∷ []; pops = 1 }

-- at most so many steps
unfoldable pub steps : ℕ → State → Evicted
unfolding finish step
steps zero σ = untouched σ
steps (suc n) σ = finish (steps n) σ (step σ)

-- each step that moves an entry lowers F, so F + 1 steps are enough (`evict_law`)
unfoldable pub evict : State → Evicted
unfolding steps
evict σ = steps (suc (warmth σ)) σ

-- full: as many residents as the capacity; a sound state has no more
unfoldable pub evict_if_full : State → Evicted
unfolding evict
evict_if_full σ = cond (leb σ.limits.capacity (residents σ)) (evict σ) (untouched σ)

-- n steps from σ, the last of which has the entry e leave the queue q, and lead to τ
pub data Walk : State → ℕ → Queue → Entry → State → Type 0 where
  last : {σ τ : State} {q : Queue} {e : Entry} → step σ ≡ left q e τ → Walk σ 1 q e τ
  on : {σ ρ τ : State} {n : ℕ} {p q : Queue} {e : Entry} → step σ ≡ moved p ρ → Walk ρ n q e τ → Walk σ (suc n) q e τ

-- a whole eviction: the pair that leaves is told, and the pops are the steps walked, at most F + 1
pub record Evicts (σ : State) (w : Evicted) : Type 0 where
  pub queue : Queue
  pub entry : Entry
  pub walk : Walk σ w.pops queue entry w.state
  pub told_is : w.told ≡ tell queue entry ∷ []
  pub few : w.pops ≤ suc (warmth σ)
