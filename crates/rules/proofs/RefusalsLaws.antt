-- A refusal is known by its number and its detail: no two share both.
-- Assumes nothing.
use Prim.Native.Nat.{ℕ, ◌≤◌}
use native.Mathlib.Omega.{arith}
use mathlib.Core.Path.{◌≡◌, refl, sym, ap₂, ◌∙◌}
use mathlib.Core.Bool.{cond}
use lib.Dec.{eqb}
use Rattle.rules.specs.declared.Turned.{Turned}
use Rattle.rules.specs.declared.Turned.TheVariants.{NoCapacity, CapacityAbove, SmallRatio, GhostRatio, GhostLimit, ShortStore, DamagedStore}
use Rattle.rules.specs.declared.Turned.TheVariants.{LongRequests, BadRecord, NoRoom, BadCarry}
use Rattle.rules.specs.Refusals.{number_of, detail_of}

-- the refusal that a number and a detail stand for
abbrev pub turned_away_by : ℕ → ℕ → Turned
turned_away_by n d =
    cond (eqb n 1) NoCapacity
    (cond (eqb n 2) CapacityAbove
    (cond (eqb n 3) SmallRatio
    (cond (eqb n 4) GhostRatio
    (cond (eqb n 5) GhostLimit
    (cond (eqb n 6) ShortStore
    (cond (eqb n 7) DamagedStore
    (cond (eqb n 8) LongRequests
    (cond (eqb n 9) (BadRecord d)
    (cond (eqb n 10) (NoRoom d) BadCarry)))))))))

pub turned-back : (t : Turned) → turned_away_by (number_of t) (detail_of t) ≡ t
turned-back NoCapacity = refl
turned-back CapacityAbove = refl
turned-back SmallRatio = refl
turned-back GhostRatio = refl
turned-back GhostLimit = refl
turned-back ShortStore = refl
turned-back DamagedStore = refl
turned-back LongRequests = refl
turned-back (BadRecord at) = refl
turned-back (NoRoom room) = refl
turned-back BadCarry = refl

pub turned-once : (t u : Turned) → number_of t ≡ number_of u → detail_of t ≡ detail_of u → t ≡ u
turned-once t u n d = sym (turned-back t) ∙ ap₂ turned_away_by n d ∙ turned-back u

-- each has a number, so that none is taken for an accepted call
pub some_number : (t : Turned) → 1 ≤ number_of t
some_number NoCapacity = omega arith
some_number CapacityAbove = omega arith
some_number SmallRatio = omega arith
some_number GhostRatio = omega arith
some_number GhostLimit = omega arith
some_number ShortStore = omega arith
some_number DamagedStore = omega arith
some_number LongRequests = omega arith
some_number (BadRecord at) = omega arith
some_number (NoRoom room) = omega arith
some_number BadCarry = omega arith
