-- The laws of the walk along a part of a chain that nobody vouches for, at the store's columns.
-- Assumes nothing.
use mathlib.Core.Path.{◌≡◌, sym}
use mathlib.Core.List.{List}
use mathlib.Core.Bool.{Bool, true, false, not}
use Prim.Native.Nat.{ℕ, ◌+◌, ◌-◌, ◌≤◌, ◌<◌}
use native.Mathlib.Omega.{arith}
use borrow.Author.Tests.{not-true, not-false}
use mir.Val.{Fits}
use mir.Syntax.{w64}
use Rattle.cells.specs.Decides.{Decides}
use Rattle.nodes.specs.Nodes.{Key, Chain, Cols, cols, Room, GetsField}
use Rattle.nodes.specs.declared.Shape.{Shape}
use Rattle.std.specs.Prelude.{Some, None}
use Rattle.std.proofs.lemmas.Option.{none-some, same_Some}
use Rattle.key_index.specs.Stored.{col, LiveIn}
use Rattle.census.specs.Check.{LinkOk, CleanIn, CleanHas, WalkSays}
use Rattle.census.proofs.WalkedLaws.{Walked, walked_start, walked_next, walked_done, walked_few, walked_good, walked_up}

-- ---- the chain from the link h₀, walked up to h over `count` nodes

abbrev pub Walks : Shape → List ℕ → ℕ → ℕ → ℕ → ℕ → Type 0
Walks z s b h₀ h count = Walked z.room z.buckets (col (cols z s Key)) (col (cols z s Chain)) (LiveIn z (cols z s)) b h₀ h count

module _ {z : Shape} {c : Cols} {b h : ℕ} where
  says-broken : (CleanIn z c b h → ⊥) → WalkSays z c b h None
  says-broken f = record { count = λ m e. absurd (none-some m e); broken = λ e. f }

  says-count : {m : ℕ} → CleanHas z c b h m → WalkSays z c b h (Some m)
  says-count {m} f = record { count = λ j e. rw (same_Some m j e) at f; broken = λ e. absurd (none-some m (sym e)) }

pub walks_start : (z : Shape) (s : List ℕ) {b h : ℕ} → h < z.room → Walks z s b h h 0
walks_start z s o = walked_start (omega arith)

module _ (z : Shape) (s : List ℕ) {b h₀ h count : ℕ} (w : Walks z s b h₀ h count) where
  pub walks_end : z.room ≤ h → WalkSays z (cols z s) b h₀ (Some count)
  walks_end o = let d = walked_done h count w o in says-count (record { clean = d.0; size = d.1 })

  module _ (below : h < z.room) where
    pub walks_fits : Room z s → Fits w64 (count + 1)
    walks_fits room = omega (arith, walked_few h count w below, room.few)

    pub walks_less : z.room - (count + 1) < z.room - count
    walks_less = omega (arith, walked_few h count w below)

    module _ {r : Bool} (ok : Decides (LinkOk z (cols z s) b h) r) where
      pub walks_broken : not r ≡ true → WalkSays z (cols z s) b h₀ None
      walks_broken e = says-broken (λ c.
          let g = walked_good h count w below c in
          ok.fails (not-true _ e) (record { lives = g.0; own = g.1; up = walked_up h count w below c }))

      pub walks_next : not r ≡ false → {m : ℕ} → GetsField z s Chain h m → Walks z s b h₀ m (count + 1)
      walks_next e on = let l = ok.holds (not-false _ e) in rw on.value (walked_next h count w below l.lives l.own l.up)
