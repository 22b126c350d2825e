-- What makes a pool's state sound: its index lets no key stand twice, its bytes are no wider than 64 bits, and its freqs say whether it is cool enough.
-- Assumes nothing.
use mathlib.Core.Path.{◌≡◌, refl, sym, ap, ◌∙◌, subst}
use mathlib.Core.Logic.{◌≢◌}
use mathlib.Core.Bool.{Bool, true, false}
use mathlib.Core.List.{List, ◌∷◌, ◌++◌}
use Prim.Native.Nat.{ℕ, ◌+◌, ◌≤◌, ◌<◌}
use native.Mathlib.Omega.{arith}
use lib.Dec.{eqb, ltb}
use lib.ListN.{get_or}
use borrow.Author.Tests.{ne_eqb, eqb-true, ltb-false, le-ltb, lt-leb}
use Rattle.cells.specs.Cells.{Bytes}
use Rattle.nodes.specs.Nodes.{Key, Value, Queue as Tag, Freq, cols}
use Rattle.nodes.specs.declared.Shape.{Shape}
use Rattle.nodes.proofs.NodesLaws.{cols-lt}
use Rattle.cells.specs.Members.{Every, Out, Among}
use Rattle.cells.proofs.MembersLaws.{every_append, every-less}
use Rattle.lists.proofs.ListsLaws.{lists-once, lists-place}
use Rattle.pool.specs.Carries.{lists_of, Pooled, LiveList}
use Rattle.pool.proofs.CarriesLaws.{every-among, among-tag, among-once}
use Rattle.pool.proofs.PoolLaws.{pooled-node}
use Rattle.rules.specs.Parts.{bit, total, Split, missing, found, split_by}
use Rattle.rules.specs.State.{Entry, Queue, Small, Main, max_freq, words, key_is, places, too_warm, wide, too_wide}
use Rattle.rules.proofs.PartsLaws.{total-append, total_mid, Splits, split_law}
use Rattle.store.specs.Holds.{list_no, entry_at, key_at, state_in}
use Rattle.store.specs.Entries.{HoldsResident}
use Rattle.store.proofs.MapLaws.{total-map, total-none, total_but, total-some}
use Rattle.store.proofs.KeepsLaws.{kind, ghost_kind}

-- ---- no key stands twice

module _ (z : Shape) (s : List ℕ) (p : Pooled z s) (k : ℕ) where
  abbrev f : ℕ → List ℕ
  f = lists_of z (cols z s)

  abbrev key : ℕ → ℕ
  key y = get_or (cols z s Key) y 0

  -- 1 for a node with the key k
  abbrev has : ℕ → ℕ
  has y = bit (eqb k (key y))

  -- a node that has it is the only one
  module _ {t : ℕ} (kt : LiveList t) (a : List ℕ) (x : ℕ) (b : List ℕ) (e : f t ≡ a ++ (x ∷ b)) (h : eqb k (key x) ≡ true) where
    here : Among x (f t)
    here = record { front = a; back = b; is = e }

    others : (u y : ℕ) → LiveList u → Among y (f u) → y ≢ x → has y ≡ 0
    others u y ku m n = ap bit (ne_eqb k (key y) (λ i. n (among-once p.carries ku m kt here (sym i ∙ eqb-true k (key x) h))))

    there : total has (f t) ≡ 1
    there =
        let o : Out x a × Out x b = lists-once p.carries.lists kt.below a x b e in
        let n : Every (λ y. y ≢ x → has y ≡ 0) (a ++ (x ∷ b)) =
        subst (Every (λ y. y ≢ x → has y ≡ 0)) e (every-among (λ y. y ≢ x → has y ≡ 0) (f t) (λ y m. others t y kt m)) in
        omega (
          arith,
          total_mid has a x b e,
          ap bit h,
          total-append has a b,
          total_but has x (a ++ b) (every-less (λ y. y ≢ x → has y ≡ 0) a x b n) (every_append (λ y. y ≢ x) a b o.0 o.1),
        )

    elsewhere : (u : ℕ) → LiveList u → u ≢ t → total has (f u) ≡ 0
    elsewhere u ku n =
        total-none has (f u)
        (λ y m. others u y ku m (λ i. n (sym (among-tag p.carries ku m) ∙ ap (λ w. get_or (cols z s Tag) w 0) i ∙ among-tag p.carries kt here)))

  once_by : (u v w : Split ℕ) → Splits (λ y. eqb k (key y)) (f 1) u → Splits (λ y. eqb k (key y)) (f 2) v → Splits (λ y. eqb k (key y)) (f 3) w
      → total has (f 1) + total has (f 2) + total has (f 3) ≤ 1
  once_by missing missing missing g h i = omega arith
  once_by missing missing (found b x a) g h i = omega (arith, there ghost_kind b x a i.0 i.1)
  once_by missing (found b x a) w g h i =
      omega (arith, there (kind Main) b x a h.0 h.1, elsewhere (kind Main) b x a h.0 h.1 3 ghost_kind (omega arith))
  once_by (found b x a) v w g h i =
      omega (
        arith,
        there (kind Small) b x a g.0 g.1,
        elsewhere (kind Small) b x a g.0 g.1 2 (kind Main) (omega arith),
        elsewhere (kind Small) b x a g.0 g.1 3 ghost_kind (omega arith),
      )

  pub pooled-places : places k (state_in z s) ≤ 1
  unfolding state_in
  pooled-places =
      let has_key : ℕ → Bool = λ y. eqb k (key y) in
      omega (
        arith,
        total-map (λ (e : Entry). bit (key_is k e)) (entry_at (cols z s)) (f 1),
        total-map (λ (e : Entry). bit (key_is k e)) (entry_at (cols z s)) (f 2),
        total-map (λ g. bit (eqb k g)) (key_at (cols z s)) (f 3),
        once_by (split_by has_key (f 1)) (split_by has_key (f 2)) (split_by has_key (f 3))
            (split_law has_key (f 1)) (split_law has_key (f 2)) (split_law has_key (f 3)),
      )

-- ---- bytes are narrow

module _ (z : Shape) (s : List ℕ) (b : Bytes s) where
  narrow-key : (y : ℕ) → wide (get_or (cols z s Key) y 0) ≡ 0
  narrow-key y = ap bit (lt-leb words (get_or (cols z s Key) y 0) (cols-lt z s Key refl b y))

  narrow-value : (y : ℕ) → wide (get_or (cols z s Value) y 0) ≡ 0
  narrow-value y = ap bit (lt-leb words (get_or (cols z s Value) y 0) (cols-lt z s Value refl b y))

  narrow_entries : (l : List ℕ) → total (λ y. wide (get_or (cols z s Key) y 0) + wide (get_or (cols z s Value) y 0)) l ≡ 0
  narrow_entries l =
      total-none (λ y. wide (get_or (cols z s Key) y 0) + wide (get_or (cols z s Value) y 0)) l (λ y m. omega (arith, narrow-key y, narrow-value y))

  pub bytes-narrow : too_wide (state_in z s) ≡ 0
  unfolding state_in
  bytes-narrow =
      omega (
        arith,
        total-map (λ (e : Entry). wide e.key + wide e.value) (entry_at (cols z s)) (lists_of z (cols z s) 1) ∙ narrow_entries (lists_of z (cols z s) 1),
        total-map (λ (e : Entry). wide e.key + wide e.value) (entry_at (cols z s)) (lists_of z (cols z s) 2) ∙ narrow_entries (lists_of z (cols z s) 2),
        total-map wide (key_at (cols z s)) (lists_of z (cols z s) 3)
            ∙ total-none (λ y. wide (get_or (cols z s Key) y 0)) (lists_of z (cols z s) 3) (λ y m. narrow-key y),
      )

-- ---- freqs and frequencies

module _ (z : Shape) (s : List ℕ) (p : Pooled z s) where
  abbrev freq_at : ℕ → ℕ
  freq_at y = get_or (cols z s Freq) y 0

  -- how many nodes of a queue are too warm
  abbrev warm : Queue → ℕ
  warm q = total (λ y. bit (ltb max_freq (freq_at y))) (lists_of z (cols z s) (list_no q))

  warm-shown : too_warm (state_in z s) ≡ warm Small + warm Main
  unfolding state_in
  warm-shown =
      omega (
        arith,
        total-map (λ (e : Entry). bit (ltb max_freq e.freq)) (entry_at (cols z s)) (lists_of z (cols z s) 1),
        total-map (λ (e : Entry). bit (ltb max_freq e.freq)) (entry_at (cols z s)) (lists_of z (cols z s) 2),
      )

  cool-queue : ((y : ℕ) → y < z.room → HoldsResident z s y → freq_at y ≤ max_freq) → (q : Queue) → warm q ≡ 0
  cool-queue h q =
      total-none (λ y. bit (ltb max_freq (freq_at y))) (lists_of z (cols z s) (list_no q))
      (λ y m. ap bit (le-ltb max_freq (freq_at y) (h y (pooled-node p (kind q) m) (record { queue = q; names = among-tag p.carries (kind q) m }))))

  -- residents' nodes that are cool make a state that is
  pub nodes-cool : ((y : ℕ) → y < z.room → HoldsResident z s y → freq_at y ≤ max_freq) → too_warm (state_in z s) ≡ 0
  nodes-cool h = omega (arith, warm-shown, cool-queue h Small, cool-queue h Main)

  queue-cool : too_warm (state_in z s) ≡ 0 → (q : Queue) → warm q ≡ 0
  queue-cool h Small = omega (arith, warm-shown)
  queue-cool h Main = omega (arith, warm-shown)

  cool-by : (n : ℕ) (t : Bool) → ltb max_freq n ≡ t → bit t ≤ 0 → n ≤ max_freq
  cool-by n true e h = absurd (omega arith)
  cool-by n false e h = ltb-false max_freq n e

  -- and the other way
  pub cool-nodes : too_warm (state_in z s) ≡ 0 → (y : ℕ) → y < z.room → HoldsResident z s y → freq_at y ≤ max_freq
  cool-nodes h y b r =
      cool-by (freq_at y) (ltb max_freq (freq_at y)) refl
      (omega (
        arith,
        queue-cool h r.queue,
        total-some (λ x. bit (ltb max_freq (freq_at x))) (lists-place p.carries.lists p.carries.whole y b r.names),
      ))
