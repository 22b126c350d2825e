-- The laws of a pop: what was read at the tail says whether the entry goes back, and what went back is what the rules say.
-- Assumes nothing.
use mathlib.Core.Path.{◌≡◌, refl, sym, ap, ap₂, ◌∙◌, subst}
use mathlib.Core.Bool.{false}
use mathlib.Core.List.{List, [], append-nil}
use Prim.Native.Nat.{ℕ, ◌≤◌, ◌<◌}
use native.Mathlib.Omega.{arith}
use borrow.Author.Tests.{lt-ltb}
use Rattle.std.specs.Prelude.{Option, Some, None}
use Rattle.nodes.specs.declared.Shape.{Shape}
use Rattle.rules.specs.State.{Entry, Queue, Small, Main, with_freq, cool, set_queue, push_to}
use Rattle.rules.specs.Eviction.{wanted}
use Rattle.store.specs.declared.Entry.{Entry as Entry·}
use Rattle.store.specs.Holds.{state_in, Keeps, Held}
use Rattle.store.specs.Entries.{GetsEntry}
use Rattle.store.specs.Seats.{Seated, Tail, Reattached}
use Rattle.store.proofs.KeepsLaws.{seat-entry, seat-queue, seat-node}
use Rattle.store.proofs.LookLaws.{tail_seated}
use Rattle.evict.specs.declared.Cold.{Cold}
use Rattle.evict.specs.Evicts.{cool_to, StaysTail, PopsTail}

-- ---- the frequency of an entry that goes back

cool-is : (q : Queue) (e : Entry) → with_freq (cool_to q e.freq) e ≡ cool q e
cool-is Small e = refl
cool-is Main e = refl

-- ---- the pop

pub tail-node : {z : Shape} {s : List ℕ} → Held z s → {q : Queue} {x : ℕ} → Tail z s q x → x < z.room
tail-node h t = seat-node h.keeps t.seat

module _ {z : Shape} {s : List ℕ} {q : Queue} {x : ℕ} (t : Tail z s q x) {e : Entry·} (g : GetsEntry z s x e) where
  freq-is : e.freq ≡ t.entry.freq
  freq-is = ap (λ (y : Entry). y.freq) (seat-entry t.seat g)

  pub pop_back : 0 < e.freq → {n : ℕ} → n ≡ cool_to q e.freq → {s' : List ℕ} → Reattached z s s' q x n → PopsTail z s s' q None
  pop_back w {n} m {s'} b =
      let r = b.of t.before t.entry [] t.seat in
      let c : with_freq n t.entry ≡ cool q t.entry = ap (λ i. with_freq i t.entry) (m ∙ ap (cool_to q) freq-is) ∙ cool-is q t.entry in
      record {
        before = t.before;
        entry = t.entry;
        tail_is = seat-queue z s t.seat;
        went = λ i.
            record {
              warm = lt-ltb 0 t.entry.freq (omega (arith, freq-is));
              becomes = record {
                keeps = r.keeps;
                state = r.state ∙ ap₂ (λ (y : Entry) (l : List Entry). push_to Main y (set_queue q l (state_in z s))) c (append-nil t.before);
                rest = r.rest;
              };
            };
        stays = λ c i. let n : ◌≡◌ {A = ℕ} 0 1 = cc in absurd (omega arith);
      }

  pub pop_cold : e.freq ≤ 0 → (c : Cold) → c.node ≡ x → c.key ≡ e.key → c.value ≡ e.value → PopsTail z s s q (Some c)
  pop_cold w c n k v =
      record {
        before = t.before;
        entry = t.entry;
        tail_is = seat-queue z s t.seat;
        went = λ i. let n : ◌≡◌ {A = ℕ} 0 1 = cc in absurd (omega arith);
        stays = λ d i. let same : c ≡ d = cc in subst (λ (y : Cold). StaysTail z s s q t.before t.entry y.node y.key.0 y.value.0) same stays_here;
      }
    where
      stays_here : StaysTail z s s q t.before t.entry c.node c.key.0 c.value.0
      stays_here =
          let none : e.freq ≡ 0 = omega arith in
          record {
            pair = sym (seat-entry t.seat g) ∙ (λ j. record { key = (sym k j).0; value = (sym v j).0; freq = none j });
            same = refl;
            seat = rw n t.seat;
          }

-- ---- a cold tail is still there

module _ {z : Shape} {s s₁ : List ℕ} {q : Queue} {r : Option Cold} (p : PopsTail z s s₁ q r) {c : Cold} (e : r ≡ Some c) where
  cold-at : StaysTail z s s₁ q p.before p.entry c.node c.key.0 c.value.0
  cold-at = p.stays c e

  pub cold-held : Held z s → Held z s₁
  cold-held h = rw cold-at.same h

  pub cold-keeps : Held z s → Keeps z s₁
  cold-keeps h = (cold-held h).keeps

  pub cold-tail : Tail z s₁ q c.node
  cold-tail = rw cold-at.same (record { before = p.before; entry = p.entry; seat = cold-at.seat })

  pub cold_seated : Seated z s₁ q c.node
  cold_seated = tail_seated cold-tail

  pub cold-wanted : wanted p.entry ≡ false
  cold-wanted = ap wanted cold-at.pair
