-- What each request does (RULES 5).
-- Assumes nothing.
use Rattle.std.specs.Prelude.{ℕ, Bool, true, false, cond, List, [], ◌∷◌, ◌++◌}
use Rattle.rules.specs.Parts.{Pop, empty, popped, pop_tail, null}
use Rattle.rules.specs.State.{Entry, State, Queue, Small, Main, fresh, raise, revalue, queue_of, set_queue, set_ghosts, push_to, empty_at, Place, nowhere}
use Rattle.rules.specs.State.{here, place, put_at}
use Rattle.rules.specs.Records.{Request, GT, PK, RM, IN, EV, CL, MI, OK, HI, RE, NW, GO, EX, Outcome, says, tell_first}
use Rattle.rules.specs.Ghosts.{Removed, remove_ghost}
use Rattle.rules.specs.Eviction.{wanted, back, Evicted, evict_if_full}

-- ---- lookup, peek, remove

unfoldable pub on_get : State → Place → Outcome
on_get σ nowhere = says σ MI
on_get σ (here q b e a) = says (put_at q b (raise e ∷ []) a σ) (HI e.value)

unfoldable pub on_peek : State → Place → Outcome
on_peek σ nowhere = says σ MI
on_peek σ (here q b e a) = says σ (HI e.value)

unfoldable pub on_remove : State → Place → Outcome
on_remove σ nowhere = says σ MI
on_remove σ (here q b e a) = says (put_at q b [] a σ) (GO e.value)

-- ---- insert

-- where a new pair goes: to Main if its key was a ghost
abbrev pub admits : Bool → Queue
admits true = Main
admits false = Small

abbrev pub arrive : Queue → ℕ → ℕ → Evicted → Outcome
arrive q k v w = record { state = push_to q (fresh k v) w.state; replies = w.told ++ (NW w.pops ∷ []) }

-- the key was taken off the ghosts; then eviction runs if the cache is full; then the pair goes in
unfoldable pub on_new : ℕ → ℕ → State → Removed → Outcome
unfolding evict_if_full
on_new k v σ w = arrive (admits w.was) k v (evict_if_full (set_ghosts w.ghosts σ))

unfoldable pub on_insert : ℕ → ℕ → State → Place → Outcome
unfolding on_new remove_ghost
on_insert k v σ nowhere = on_new k v σ (remove_ghost k σ.ghosts)
on_insert k v σ (here q b e a) = says (put_at q b (revalue v (raise e) ∷ []) a σ) (RE e.value)

-- ---- evict_one: what it pops after the eviction rule has run

-- the pair that it hands back
abbrev pub hands : Queue → List Entry → Entry → State → Outcome
hands q r e σ = says (set_queue q r σ) (EX e.key e.value)

unfoldable pub on_second : State → Pop Entry → Outcome
on_second σ empty = says σ MI
on_second σ (popped r e) = cond (wanted e) (says (back Main r e σ) MI) (hands Main r e σ)

unfoldable pub on_first : Queue → State → Pop Entry → Outcome
unfolding on_second
on_first q σ empty = says σ MI
on_first q σ (popped r e) = cond (wanted e) (on_second (back q r e σ) (pop_tail (back q r e σ).main)) (hands q r e σ)

abbrev pub first_queue : State → Queue
first_queue σ = cond (null σ.small) Main Small

unfoldable pub on_evict_one : Evicted → Outcome
unfolding on_first
on_evict_one w = tell_first w.told (on_first (first_queue w.state) w.state (pop_tail (queue_of (first_queue w.state) w.state)))

-- ---- each request, and a run of them

unfoldable pub apply : State → Request → Outcome
unfolding on_get on_peek on_remove on_insert on_evict_one
apply σ (GT k) = on_get σ (place k σ)
apply σ (PK k) = on_peek σ (place k σ)
apply σ (RM k) = on_remove σ (place k σ)
apply σ (IN k v) = on_insert k v σ (place k σ)
apply σ EV = on_evict_one (evict_if_full σ)
apply σ CL = says (empty_at σ.limits) OK

unfoldable pub run : State → List Request → Outcome
unfolding apply
run σ [] = record { state = σ; replies = [] }
run σ (r ∷ rs) = let o = apply σ r in tell_first o.replies (run o.state rs)
