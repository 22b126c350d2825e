-- evict_one's own pops: what was popped, sent back and handed out is what the rules say.
-- Assumes nothing.
use mathlib.Core.Path.{◌≡◌, refl, sym, ap, ◌∙◌}
use mathlib.Core.Bool.{cond}
use mathlib.Core.List.{List, [], ◌∷◌, append-nil}
use Prim.Native.Nat.{ℕ, ◌≤◌}
use native.Mathlib.Omega.{arith}
use lib.ListN.{length}
use Rattle.std.specs.Prelude.{Option, Some, None}
use Rattle.nodes.specs.declared.Shape.{Shape}
use Rattle.rules.specs.declared.GuestBlock.{GuestBlock}
use Rattle.rules.specs.declared.PhysicalBlock.{PhysicalBlock}
use Rattle.rules.specs.State.{Entry, State, Queue, Main, queue_of}
use Rattle.rules.specs.Records.{Reply, EX}
use Rattle.rules.specs.Eviction.{wanted, back}
use Rattle.rules.specs.Requests.{hands, first_queue}
use Rattle.rules.proofs.PartsLaws.{nil}
use Rattle.rules.proofs.EngineLaws.{first-pops, first-empty, second-pops}
use Rattle.rules.proofs.SoundLaws.{back-sound}
use Rattle.store.specs.Holds.{state_in, Held}
use Rattle.store.specs.Seats.{EntryRemoved}
use Rattle.wire.specs.declared.Reply.TheVariants.{Miss, Handed}
use Rattle.wire.specs.Wire.{told}
use Rattle.evict.specs.declared.Cold.{Cold}
use Rattle.evict.specs.Evicts.{PopsTail}
use Rattle.evict.proofs.PopLaws.{cold-wanted}
use Rattle.handing.specs.Handing.{Comes, Starts, first_of, PopsOut, second_of}
use Rattle.handing.proofs.ComesLaws.{becomes-same, comes_as, comes_then}

-- ---- a pop

-- a cold tail is handed out
cold-out : {z : Shape} {s s₁ s₂ : List ℕ} {q : Queue} {r : Option Cold} (p : PopsTail z s s₁ q r) {d : Cold} → r ≡ Some d
    → EntryRemoved z s₁ s₂ q d.node → Comes z s s₂ (hands q p.before p.entry (state_in z s)) (told (Handed d.key d.value) ∷ [])
cold-out {z} {s} {s₂ = s₂} {q = q} p {d} e m₀ =
    let c = p.stays d e in
    let m : EntryRemoved z s s₂ q d.node = rw c.same at m₀ in
    record {
      becomes = rw (← append-nil p.before) (m.of p.before p.entry [] c.seat);
      replies = ap (λ (y : Entry). EX y.key y.value ∷ []) (sym c.pair);
    }

-- what a pop hands out
abbrev Pair : Type 0
Pair = Option (GuestBlock × PhysicalBlock)

-- no pair is none, and two that are one have the same blocks
some-not : {y : GuestBlock × PhysicalBlock} → ◌≡◌ {A = Pair} (Some y) None → ⊥
some-not e = let z : ◌≡◌ {A = ℕ} 0 1 = cc in omega arith

same-pair : {k l : GuestBlock} {v w : PhysicalBlock} → ◌≡◌ {A = Pair} (Some (k, v)) (Some (l, w)) → (k ≡ l) × (v ≡ w)
same-pair {k} {l} {v} {w} e =
    let i : ◌≡◌ {A = GuestBlock × PhysicalBlock} (k, v) (l, w) = cc in
    (ap (λ (y : GuestBlock × PhysicalBlock). y.0) i, ap (λ (y : GuestBlock × PhysicalBlock). y.1) i)

module _ {z : Shape} {s s₁ : List ℕ} {q : Queue} {r : Option Cold} (p : PopsTail z s s₁ q r) where
  pub out-back : r ≡ None → {a : Pair} → a ≡ None → PopsOut z s s₁ q a
  out-back e i =
      record {
        before = p.before;
        entry = p.entry;
        tail_is = p.tail_is;
        cold = λ k v n. absurd (some-not (sym n ∙ i));
        out = λ k v n. absurd (some-not (sym n ∙ i));
        went = λ j. p.went e;
      }

  pub out-cold : {c : Cold} → r ≡ Some c → {s₂ : List ℕ} → EntryRemoved z s₁ s₂ q c.node → PopsOut z s s₂ q (Some (c.key, c.value))
  out-cold {c} e {s₂} m =
      record {
        before = p.before;
        entry = p.entry;
        tail_is = p.tail_is;
        cold = λ l w n. cold-wanted p e;
        out = λ l w n. ap_pair l w (same-pair n);
        went = λ i. absurd (some-not i);
      }
    where
      ap_pair : (l : GuestBlock) (w : PhysicalBlock) → (c.key ≡ l) × (c.value ≡ w)
          → Comes z s s₂ (hands q p.before p.entry (state_in z s)) (told (Handed l w) ∷ [])
      ap_pair l w n = rw (← n.0, ← n.1) (cold-out p e m)

-- ---- the second

module _ {z : Shape} {s s₁ : List ℕ} {r : Pair} (p : PopsOut z s s₁ Main r) where
  pub second_back : r ≡ None → Comes z s s₁ (second_of (state_in z s)) (told Miss ∷ [])
  second_back e =
      comes_as (second-pops (state_in z s) p.before p.entry p.tail_is) (rw (p.went e).warm (record { becomes = (p.went e).becomes; replies = refl }))

  pub second-out : {k : GuestBlock} {v : PhysicalBlock} → r ≡ Some (k, v) → Comes z s s₁ (second_of (state_in z s)) (told (Handed k v) ∷ [])
  second-out {k} {v} e = comes_as (second-pops (state_in z s) p.before p.entry p.tail_is) (rw (p.cold k v e) (p.out k v e))

-- ---- the first

module _ {z : Shape} {s s₁ : List ℕ} {q : Queue} {r : Pair} (p : PopsOut z s s₁ q r) where
  first_is : first_queue (state_in z s) ≡ q
      → first_of (state_in z s) ≡ cond (wanted p.entry) (second_of (back q p.before p.entry (state_in z s))) (hands q p.before p.entry (state_in z s))
  first_is f = first-pops (state_in z s) q p.before p.entry f p.tail_is

  pub first_out : Starts z s q → {k : GuestBlock} {v : PhysicalBlock} → r ≡ Some (k, v) → Comes z s s₁ (first_of (state_in z s)) (told (Handed k v) ∷ [])
  first_out f {k} {v} e = comes_as (first_is f.first) (rw (p.cold k v e) (p.out k v e))

  -- it went back to Main
  module _ (e : r ≡ None) where
    pub back-held : Held z s → Held z s₁
    back-held h =
        let b = (p.went e).becomes in
        record { keeps = b.keeps; sound = rw b.state (back-sound q p.before p.entry (state_in z s) p.tail_is h.sound) }

    pub back_some : 1 ≤ length (state_in z s₁).main
    back_some = omega (arith, ap (λ (σ : State). length σ.main) (p.went e).becomes.state)

    pub first_back : Starts z s q → {s₂ : List ℕ} {l : List Reply} → Comes z s₁ s₂ (second_of (state_in z s₁)) l → Comes z s s₂ (first_of (state_in z s)) l
    first_back f c = comes_as (first_is f.first) (rw (p.went e).warm (comes_then second_of (p.went e).becomes c))

pub first-none : {z : Shape} {s : List ℕ} {q : Queue} → Held z s → Starts z s q → {n : ℕ} → n ≡ length (queue_of q (state_in z s)) → n ≡ 0
    → Comes z s s (first_of (state_in z s)) (told Miss ∷ [])
first-none {z} {s} {q} h f e n =
    comes_as (first-empty (state_in z s) q f.first (nil (queue_of q (state_in z s)) (sym e ∙ n))) (record { becomes = becomes-same h.keeps; replies = refl })
