-- Insert of a key that is not resident: off the ghosts, room made, and then the pair goes in.
-- Assumes nothing.
use mathlib.Core.Path.{◌≡◌, ap, ap₂, ◌∙◌}
use mathlib.Core.Bool.{true, false}
use mathlib.Core.List.{List, [], ◌∷◌, ◌++◌}
use Prim.Native.Nat.{ℕ}
use native.Mathlib.Omega.{arith}
use lib.Dec.{eqb}
use lib.ListN.{length}
use Rattle.nodes.specs.declared.Shape.{Shape}
use Rattle.rules.specs.State.{Limits, State, Queue, Small, Main, set_ghosts, residents, places}
use Rattle.rules.specs.Records.{IN, NW}
use Rattle.rules.specs.Ghosts.{Removed, without, remove_ghost}
use Rattle.rules.specs.Eviction.{evict_if_full}
use Rattle.rules.specs.Requests.{apply, on_insert, on_new, admits, arrive}
use Rattle.rules.proofs.EngineLaws.{split-none}
use Rattle.rules.proofs.SoundLaws.{Lessened, kept-sound, roomy_law, roomy_kept, roomy_less, Unghosted, remove_law}
use Rattle.store.specs.declared.Lookup.{Lookup}
use Rattle.store.specs.declared.Lookup.TheVariants.{Ghost, Absent}
use Rattle.store.specs.Holds.{state_in, Held, Becomes}
use Rattle.store.specs.Seats.{GhostRemoved, CanAttachHead, AttachedHead}
use Rattle.store.specs.Looks.{Looks, Lacks}
use Rattle.store.proofs.KeepsLaws.{becomes_then}
use Rattle.wire.specs.declared.Reply.TheVariants.{New}
use Rattle.wire.specs.Wire.{told}
use Rattle.evict.specs.declared.Evicted.{Evicted as Evicted·}
use Rattle.evict.specs.Evicts.{pushed_of, Makes}
use Rattle.handing.specs.Handing.{Comes}
use Rattle.handing.proofs.ComesLaws.{comes_then}
use Rattle.requests.specs.declared.Spoken.{Spoken}
use Rattle.requests.specs.Answers.{spoken_of, Answers, Arrives}
use Rattle.requests.proofs.KeyLaws.{answers, Nowhere, nowhere-keyed, nowhere_ghost, nowhere-absent}

-- ---- room is made

module _ {z : Shape} {s s₁ : List ℕ} {w : Evicted·} (h : Held z s) (m : Makes z s s₁ (evict_if_full (state_in z s)) w) where
  kept : Lessened (state_in z s) (evict_if_full (state_in z s)).state
  kept = roomy_kept (roomy_law (state_in z s) h.sound.fine)

  pub makes_held : Held z s₁
  makes_held = record { keeps = m.becomes.keeps; sound = rw m.becomes.state (kept-sound kept h.sound) }

  -- a key that stood nowhere still does, and there is a node for it
  pub can_attach : {k : ℕ} → Lacks z s k → CanAttachHead z s₁ k
  can_attach {k} l =
      let e = m.becomes.state in
      let limits = ap (λ (σ : State). σ.limits) e ∙ kept.limits-are in
      record {
        none = omega (arith, l.none, ap (places k) e, kept.no_oftener k);
        less = omega (
          arith,
          ap residents e,
          roomy_less h.sound (roomy_law (state_in z s) h.sound.fine),
          ap (λ (L : Limits). L.capacity) limits,
        );
        few = omega (
          arith,
          ap (λ (σ : State). length σ.ghosts) e,
          kept.ghosts-fit h.sound.few_ghosts,
          ap (λ (L : Limits). L.ghost_limit) limits,
        );
      }

-- and the pair goes in
pub arrived : {z : Shape} {s s₁ s₂ : List ℕ} {w : Evicted·} → Makes z s s₁ (evict_if_full (state_in z s)) w → {q : Queue} {k v : ℕ} → AttachedHead z s₁ s₂ q k v
    → (a : Spoken) → a.pushed ≡ w.pushed → a.closing ≡ New w.pops → Arrives z s s₂ q k v a
arrived m b a e c =
    record {
      comes = record {
        becomes = becomes_then m.becomes (rw m.becomes.state at b.becomes);
        replies = ap₂ (λ p r. pushed_of p ++ (told r ∷ [])) e c ∙ ap₂ (λ l n. l ++ (NW n ∷ [])) m.told m.pops;
      };
    }

-- ---- the key is taken off the ghosts

module _ {z : Shape} {s : List ℕ} {k : ℕ} {r : Lookup} (l : Looks z s k r) where
  -- an insert that finds its key nowhere
  new : {s' : List ℕ} {v : ℕ} {a : Spoken} (w : Removed) → remove_ghost k (state_in z s).ghosts ≡ w → Nowhere z s k
      → Comes z s s' (arrive (admits w.was) k v (evict_if_full (set_ghosts w.ghosts (state_in z s)))) (spoken_of a) → Answers z s s' (IN k v) a
  unfolding apply on_insert on_new
  new {v = v} w e n c =
      answers (arrive (admits w.was) k v (evict_if_full (set_ghosts w.ghosts (state_in z s))))
      (ap (on_insert k v (state_in z s)) n.place_is ∙ ap (on_new k v (state_in z s)) e) c.becomes c.replies (λ u. absurd u)

  module _ {x : ℕ} (e : r ≡ Ghost x) where
    off : remove_ghost k (state_in z s).ghosts ≡ record { ghosts = (l.is_ghost x e).before ++ (l.is_ghost x e).after; was = true }
    unfolding remove_ghost
    off = ap (without (state_in z s).ghosts) (l.is_ghost x e).split_is

    module _ {s₁ : List ℕ} (m : GhostRemoved z s s₁ x) where
      fell : Becomes z s s₁ (set_ghosts ((l.is_ghost x e).before ++ (l.is_ghost x e).after) (state_in z s))
      fell = let t = l.is_ghost x e in m.of t.before k t.after t.seat

      module _ (h : Held z s) where
        gone : Unghosted k (state_in z s) (record { ghosts = (l.is_ghost x e).before ++ (l.is_ghost x e).after; was = true })
        gone = rw off at (remove_law k (state_in z s) (nowhere-keyed (nowhere_ghost l e)) h.sound)

        pub removed-held : Held z s₁
        removed-held = record { keeps = fell.keeps; sound = rw fell.state gone.sound }

        pub removed_lacks : Lacks z s₁ k
        removed_lacks = record { none = rw fell.state gone.none }

      pub insert_ghost : {s₂ : List ℕ} {v : ℕ} {a : Spoken} → Arrives z s₁ s₂ Main k v a → Answers z s s₂ (IN k v) a
      insert_ghost {v = v} c = new _ off (nowhere_ghost l e) (comes_then (λ σ. arrive Main k v (evict_if_full σ)) fell c.comes)

  pub insert_absent : r ≡ Absent → {s' : List ℕ} {v : ℕ} {a : Spoken} → Arrives z s s' Small k v a → Answers z s s' (IN k v) a
  unfolding remove_ghost
  insert_absent e c =
      new (record { ghosts = (state_in z s).ghosts; was = false })
      (ap (without (state_in z s).ghosts) (split-none (eqb k) (state_in z s).ghosts (omega (arith, (l.absent e).none)))) (nowhere-absent l e) c.comes
