-- What an operation on a ghost list by itself comes to, and what it answers, by the rules (RULES 3).
-- Assumes nothing.
use Rattle.std.specs.Prelude.{◌≡◌, Bool, cond, List, ℕ, eqb, ltb, length, Some, None}
use Rattle.std.specs.Prelude.{Option as Maybe}
use Rattle.std.proofs.Math.Option.{Option}
use Rattle.cells.specs.Cells.{le}
use Rattle.nodes.specs.declared.Shape.{Shape}
use Rattle.rules.specs.State.{Limits, State, set_ghosts, empty_at}
use Rattle.rules.specs.Ghosts.{record_ghost, remove_ghost, evict_lru, clear_ghosts}
use Rattle.store.specs.Holds.{state_in, Becomes}
use Rattle.ghost_list.specs.Ghosts.{given_of, GhostsAlone}
use Rattle.ghosts.specs.declared.Operation.{Operation}
use Rattle.ghosts.specs.declared.Operation.TheVariants.{Record, Remove, Oldest, Clear}
use Rattle.ghosts.specs.declared.Wanted.{Wanted}
use Rattle.ghosts.specs.declared.Wanted.TheVariants.{New, Of}
use Rattle.ghosts.specs.declared.Answer.{Answer}
use Rattle.ghosts.specs.declared.Answer.TheVariants.{Dropped, Was, Cleared}

-- what a record asks for by its letter, one of N, R, D, E and C, and its number; another letter asks for nothing
abbrev pub wants_of : ℕ → ℕ → Maybe Wanted
wants_of letter n =
    cond (eqb letter 78) (Some (New n))
    (cond (eqb letter 82) (Some (Of (Record (record { 0 = n }))))
    (cond (eqb letter 68) (Some (Of (Remove (record { 0 = n }))))
    (cond (eqb letter 69) (Some (Of Oldest)) (cond (eqb letter 67) (Some (Of Clear)) None))))

-- a record is a letter and a number; one that is cut short asks for nothing
abbrev pub wanted_in : List ℕ → Maybe Wanted
wanted_in s = cond (ltb (length s) 9) None (wants_of (le 1 s 0) (le 8 s 1))

-- what an operation answers: the key that it gives back, whether a key was there, or no more than that it is done
pub data Reported : Type 0 where
  gave_back : Option ℕ → Reported
  was_there : Bool → Reported
  is_done : Reported

-- the program's answer
abbrev pub answer_of : Answer → Reported
answer_of (Dropped k) = gave_back (given_of k)
answer_of (Was b) = was_there b
answer_of Cleared = is_done

-- the ghosts of a state after an operation
abbrev pub ghosts_after : Operation → State → List ℕ
ghosts_after (Record k) σ = (record_ghost σ.limits.ghost_limit k.0 σ.ghosts).ghosts
ghosts_after (Remove k) σ = (remove_ghost k.0 σ.ghosts).ghosts
ghosts_after Oldest σ = (evict_lru σ.ghosts).ghosts
ghosts_after Clear σ = clear_ghosts σ.ghosts

-- and what it answers
abbrev pub report_on : Operation → State → Reported
report_on (Record k) σ = gave_back (record_ghost σ.limits.ghost_limit k.0 σ.ghosts).back
report_on (Remove k) σ = was_there (remove_ghost k.0 σ.ghosts).was
report_on Oldest σ = gave_back (evict_lru σ.ghosts).back
report_on Clear σ = is_done

-- the operation o was answered by r
pub record Taken (z : Shape) (s s' : List ℕ) (o : Operation) (r : Answer) : Type 0 where
  pub alone : GhostsAlone z s'
  pub becomes : Becomes z s s' (set_ghosts (ghosts_after o (state_in z s)) (state_in z s))
  pub report : answer_of r ≡ report_on o (state_in z s)

-- the limits of a ghost list by itself: a store has room for one resident at least
abbrev pub limits_alone : ℕ → Limits
limits_alone n = record { capacity = 1; small_limit = 0; ghost_limit = n }

-- s is a new list with the limit n
pub record Opened (s : List ℕ) (n : ℕ) (z : Shape) : Type 0 where
  pub alone : GhostsAlone z s
  pub state : state_in z s ≡ empty_at (limits_alone n)
