-- What a node found by its key says of the state: which entry it carries, and that no other place has the key.
-- Assumes nothing.
use mathlib.Core.Path.{◌≡◌, refl, sym, ap, ◌∙◌, subst}
use mathlib.Core.Bool.{Bool, true, false}
use mathlib.Core.List.{List, [], ◌∷◌, map}
use Prim.Native.Nat.{ℕ, zero, suc, ◌+◌, ◌≤◌, ◌<◌}
use native.Mathlib.Omega.{arith}
use lib.Dec.{eqb}
use lib.ListN.{get_or}
use borrow.Author.Tests.{eq-eqb, ne_eqb}
use Rattle.nodes.specs.Nodes.{Key, Queue as Tag, Cols, cols, GetsField}
use Rattle.nodes.specs.declared.Shape.{Shape}
use Rattle.cells.specs.Members.{Among}
use Rattle.key_index.specs.Stored.{Hit, Miss, IsFound}
use Rattle.std.specs.Prelude.{Option, Some, None}
use Rattle.lists.specs.Lists.{list_count}
use Rattle.pool.specs.Carries.{lists_of, Pooled, LiveList}
use Rattle.pool.proofs.CarriesLaws.{lives-kind, lives-among, among-miss}
use Rattle.rules.specs.Parts.{bit, total, found, split_by}
use Rattle.rules.specs.State.{Queue, Small, key_is, places}
use Rattle.rules.proofs.PartsLaws.{total_mid}
use Rattle.rules.proofs.EngineLaws.{place_is, place_none, split_is}
use Rattle.store.specs.declared.QueueKind.{QueueKind}
use Rattle.store.specs.declared.QueueKind.TheVariants.{Small as Small·, Main as Main·}
use Rattle.store.specs.declared.Lookup.{Lookup}
use Rattle.store.specs.declared.Lookup.TheVariants.{Resident, Ghost, Absent}
use Rattle.store.specs.Holds.{list_no, ghosts_no, entry_at, key_at, state_in, Held}
use Rattle.store.specs.Seats.{queue_kind, Seated, GhostSeated, Oldest, Tail}
use Rattle.store.specs.Looks.{IsResident, IsGhost, Lacks, Looks}
use Rattle.store.proofs.MapLaws.{map-append, total-map, total-none, total-some}
use Rattle.store.proofs.ShownLaws.{queue-shown, ghosts-shown}

-- ---- counts over a mapped list

-- the key k stands nowhere in a list none of whose nodes has it
count_none : {A : Type 0} (g : ℕ → A) (p : A → Bool) (l : List ℕ) → ((x : ℕ) → Among x l → p (g x) ≡ false) → total (λ e. bit (p e)) (map g l) ≡ 0
count_none g p l h = total-map (λ e. bit (p e)) g l ∙ total-none (λ x. bit (p (g x))) l (λ x m. ap bit (h x m))

-- and somewhere in one that has a node with it
count-some : {A : Type 0} (g : ℕ → A) (p : A → Bool) {x : ℕ} {l : List ℕ} → Among x l → p (g x) ≡ true → 1 ≤ total (λ e. bit (p e)) (map g l)
count-some g p {x} {l} m h = omega (arith, total-map (λ e. bit (p e)) g l, total-some (λ y. bit (p (g y))) m, ap bit h)

-- ---- a key and the lists

module _ (z : Shape) (s : List ℕ) (p : Pooled z s) where
  abbrev c : Cols
  c = cols z s

  abbrev f : ℕ → List ℕ
  f = lists_of z (cols z s)

  not-here : (k t : ℕ) → LiveList t → Miss z c k → (x : ℕ) → Among x (f t) → eqb k (get_or (c Key) x 0) ≡ false
  not-here k t kind m x a = ne_eqb k (get_or (c Key) x 0) (λ e. among-miss p.carries kind a m (sym e))

  -- a key that is not found stands nowhere
  pub miss-places : (k : ℕ) → Miss z c k → places k (state_in z s) ≡ 0
  unfolding state_in
  miss-places k m =
      let kind : (t : ℕ) → 1 ≤ t → t < list_count → LiveList t = λ t a b. record { above = a; below = b } in
      omega (
        arith,
        count_none (entry_at c) (key_is k) (f 1) (not-here k 1 (kind 1 (omega arith) (omega arith)) m),
        count_none (entry_at c) (key_is k) (f 2) (not-here k 2 (kind 2 (omega arith) (omega arith)) m),
        count_none (key_at c) (eqb k) (f 3) (not-here k 3 (kind 3 (omega arith) (omega arith)) m),
      )

  counted : (k t x : ℕ) → LiveList t → Among x (f t) → get_or (c Key) x 0 ≡ k → 1 ≤ places k (state_in z s)
  unfolding state_in
  counted k zero x kind a e = absurd (omega (arith, kind.above))
  counted k (suc zero) x kind a e = omega (arith, count-some (entry_at c) (key_is k) a (eq-eqb k (get_or (c Key) x 0) (sym e)))
  counted k (suc (suc zero)) x kind a e = omega (arith, count-some (entry_at c) (key_is k) a (eq-eqb k (get_or (c Key) x 0) (sym e)))
  counted k (suc (suc (suc zero))) x kind a e = omega (arith, count-some (key_at c) (eqb k) a (eq-eqb k (get_or (c Key) x 0) (sym e)))
  counted k (suc (suc (suc (suc t)))) x kind a e = absurd (omega (arith, kind.below))

  -- a key that stands nowhere is not found
  pub places-miss : (k : ℕ) → places k (state_in z s) ≡ 0 → Miss z c k
  places-miss k h =
      record {
        none = λ y l e. let n = counted k (get_or (c Tag) y 0) y (lives-kind p.carries l refl) (lives-among p.carries l refl) e in omega arith;
      }

-- ---- the three answers

module _ {z : Shape} {s : List ℕ} (h : Held z s) where
  pool : Pooled z s
  pool = h.keeps.pooled

  resident_in : (k x : ℕ) (q : Queue) → get_or (cols z s Key) x 0 ≡ k → Among x (lists_of z (cols z s) (list_no q)) → IsResident z s k q x
  resident_in k x q e a =
      record {
        before = map (entry_at (cols z s)) a.front;
        entry = entry_at (cols z s) x;
        after = map (entry_at (cols z s)) a.back;
        seat = record { front = a.front; back = a.back; is = a.is; before = refl; here = refl; after = refl };
        key = e;
        place_is = place_is k (state_in z s) q _ (entry_at (cols z s) x) _ (h.sound.once k)
            (queue-shown z s q ∙ ap (map (entry_at (cols z s))) a.is ∙ map-append (entry_at (cols z s)) a.front (x ∷ a.back))
            (eq-eqb k (get_or (cols z s Key) x 0) (sym e));
      }

  ghost_at : (k x : ℕ) → get_or (cols z s Key) x 0 ≡ k → Among x (lists_of z (cols z s) ghosts_no) → IsGhost z s k x
  ghost_at k x e a =
      let g = ghosts-shown z s ∙ ap (map (key_at (cols z s))) a.is ∙ map-append (key_at (cols z s)) a.front (x ∷ a.back) in
      let t = eq-eqb k (get_or (cols z s Key) x 0) (sym e) in
      let m = total_mid (λ y. bit (eqb k y)) (map (key_at (cols z s)) a.front) (key_at (cols z s) x) (map (key_at (cols z s)) a.back) g in
      record {
        before = map (key_at (cols z s)) a.front;
        after = map (key_at (cols z s)) a.back;
        seat = record { front = a.front; back = a.back; is = a.is; before = refl; here = e; after = refl };
        place_is = place_none k (state_in z s) (omega (arith, h.sound.once k, ap bit t));
        split_is =
            ap (split_by (eqb k)) g
            ∙ split_is (eqb k) (map (key_at (cols z s)) a.front) (key_at (cols z s) x) (map (key_at (cols z s)) a.back)
            (omega (arith, h.sound.once k, ap bit t)) t
            ∙ ap (λ y. found (map (key_at (cols z s)) a.front) y (map (key_at (cols z s)) a.back)) e;
      }

  module _ {k : ℕ} {r : Option ℕ} (f : IsFound z (cols z s) k r) where
    pub look_node : {x : ℕ} → r ≡ Some x → x < z.room + 4
    look_node {x} e = omega (arith, (f.hit x e).lives.below)

    module _ {x : ℕ} (e : r ≡ Some x) {t : ℕ} (g : GetsField z s Tag x t) where
      hit : Hit z (cols z s) k x
      hit = f.hit x e

      among : Among x (lists_of z (cols z s) t)
      among = lives-among pool.carries hit.lives g.value

      at-list : (q : QueueKind) → t ≡ list_no (queue_kind q) → Looks z s k (Resident q x)
      at-list q n =
          record {
            resident = λ p y w. rw (same_queue w, same-node w) at (resident_in k x (queue_kind q) hit.holds (rw n at among));
            is_ghost = λ y w. let b : ◌≡◌ {A = ℕ} 0 1 = cc in absurd (omega arith);
            absent = λ w. let b : ◌≡◌ {A = ℕ} 0 1 = cc in absurd (omega arith);
          }
        where
          same_queue : {p : QueueKind} {y : ℕ} → Resident q x ≡ Resident p y → q ≡ p
          same_queue w = cc

          same-node : {p : QueueKind} {y : ℕ} → Resident q x ≡ Resident p y → x ≡ y
          same-node w = cc

      pub look_small : t ≡ list_no Small → Looks z s k (Resident Small· x)
      look_small e = at-list Small· e

      pub look_main : (t ≡ ghosts_no → ⊥) → (t ≡ list_no Small → ⊥) → Looks z s k (Resident Main· x)
      look_main n m = at-list Main· (let w = lives-kind pool.carries hit.lives g.value in omega (arith, w.above, w.below))

      pub look_ghost : t ≡ ghosts_no → Looks z s k (Ghost x)
      look_ghost n =
          record {
            resident = λ p y q. let b : ◌≡◌ {A = ℕ} 0 1 = cc in absurd (omega arith);
            is_ghost = λ y q. subst (IsGhost z s k) (same-node q) (ghost_at k x hit.holds (subst (λ i. Among x (lists_of z (cols z s) i)) n among));
            absent = λ q. let b : ◌≡◌ {A = ℕ} 0 1 = cc in absurd (omega arith);
          }
        where
          same-node : {y : ℕ} → Ghost x ≡ Ghost y → x ≡ y
          same-node q = cc

    pub look_absent : r ≡ None → Looks z s k Absent
    look_absent e =
        record {
          resident = λ p y q. let b : ◌≡◌ {A = ℕ} 0 1 = cc in absurd (omega arith);
          is_ghost = λ y q. let b : ◌≡◌ {A = ℕ} 0 1 = cc in absurd (omega arith);
          absent = λ q. record { none = miss-places z s pool k (f.miss e) };
        }

-- ---- from an answer to what the moves ask for

pub looks_lacks : {z : Shape} {s : List ℕ} {k : ℕ} {r : Lookup} → Looks z s k r → r ≡ Absent → Lacks z s k
looks_lacks l e = l.absent e

pub looks_seated : {z : Shape} {s : List ℕ} {k : ℕ} {r : Lookup} → Looks z s k r → (q : QueueKind) {x : ℕ} → r ≡ Resident q x → Seated z s (queue_kind q) x
looks_seated l q {x} e = let t = l.resident q x e in record { before = t.before; entry = t.entry; after = t.after; seat = t.seat }

pub looks_ghost_seated : {z : Shape} {s : List ℕ} {k : ℕ} {r : Lookup} → Looks z s k r → {x : ℕ} → r ≡ Ghost x → GhostSeated z s x
looks_ghost_seated {k = k} l {x} e = let t = l.is_ghost x e in record { before = t.before; key = k; after = t.after; seat = t.seat }

pub oldest_seated : {z : Shape} {s : List ℕ} {x : ℕ} → Oldest z s x → GhostSeated z s x
oldest_seated o = record { before = o.before; key = o.key; after = []; seat = o.seat }

pub tail_seated : {z : Shape} {s : List ℕ} {q : Queue} {x : ℕ} → Tail z s q x → Seated z s q x
tail_seated t = record { before = t.before; entry = t.entry; after = []; seat = t.seat }
