-- What the pool's moves and writes are in the state that a store shows.
-- Assumes nothing.
use mathlib.Core.Path.{◌≡◌, refl, ap, ap₂, ◌∙◌}
use mathlib.Core.Logic.{◌≢◌}
use mathlib.Core.List.{List, [], ◌∷◌, ◌++◌, map}
use Prim.Native.Nat.{ℕ, ◌<◌}
use native.Mathlib.Omega.{arith}
use lib.ListN.{get_or, set}
use lib.Seq.{get_or-set_same, get_or-set_other}
use Rattle.nodes.specs.Nodes.{Head, Key, Value, Next, Freq, Cols, cols, SetsField}
use Rattle.nodes.specs.declared.Shape.{Shape}
use Rattle.nodes.proofs.NodesLaws.{length-cols}
use Rattle.nodes.proofs.OverLaws.{over-at}
use Rattle.cells.specs.Members.{Out}
use Rattle.lists.specs.Pool.{view}
use Rattle.lists.proofs.ListsLaws.{lists-view, lists-node, lists-once, lists-elsewhere}
use Rattle.lists.specs.Lists.{list_count}
use Rattle.pool.specs.Carries.{Carries, lists_of, Pooled, Aside, Alike, Moved, Released, Filled}
use Rattle.rules.specs.State.{Entry, Limits, Queue, Small, Main, fresh, with_freq, revalue, queue_of, set_queue, set_ghosts, push_to, put_at}
use Rattle.store.specs.Holds.{list_no, ghosts_no, entry_by, entry_at, node_key, key_at, limits_in, shown, state_in}
use Rattle.store.proofs.MapLaws.{map-append, map-out, map_at}

-- ---- columns that show the same

-- the limits in a header
abbrev pub limits_by : List ℕ → Limits
limits_by h = record { capacity = get_or h 0 0; small_limit = get_or h 1 0; ghost_limit = get_or h 2 0 }

pub limits-aside : {c d : Cols} → Aside c d → limits_in d ≡ limits_in c
limits-aside a i = record { capacity = a.limits 0 (omega arith) i; small_limit = a.limits 1 (omega arith) i; ghost_limit = a.limits 2 (omega arith) i }

-- a store's lists are those that its columns carry
pub carried : (z : Shape) (s : List ℕ) (f : ℕ → List ℕ) → Carries z (cols z s) f → state_in z s ≡ shown (cols z s) f
unfolding state_in
carried z s f k i =
    record {
      limits = limits_in (cols z s);
      small = map (entry_at (cols z s)) (lists-view k.lists {t = 1} (omega arith) i);
      main = map (entry_at (cols z s)) (lists-view k.lists {t = 2} (omega arith) i);
      ghosts = map (key_at (cols z s)) (lists-view k.lists {t = 3} (omega arith) i);
    }

-- nodes moved: other lists, the same keys, values and freqs
pub carried-alike : (z : Shape) (s s' : List ℕ) (f : ℕ → List ℕ) → Carries z (cols z s') f → Alike (cols z s) (cols z s') → state_in z s' ≡ shown (cols z s) f
carried-alike z s s' f k a =
    carried z s' f k
    ∙ (λ i.
    record {
      limits = limits-aside a.aside i;
      small = map (entry_by (a.keys i) (a.values i) (a.freqs i)) (f 1);
      main = map (entry_by (a.keys i) (a.values i) (a.freqs i)) (f 2);
      ghosts = map (node_key (a.keys i)) (f 3);
    })

-- ---- a node moves

-- the entries of a queue are those of its list's nodes
pub queue-shown : (z : Shape) (s : List ℕ) (q : Queue) → queue_of q (state_in z s) ≡ map (entry_at (cols z s)) (lists_of z (cols z s) (list_no q))
unfolding state_in
queue-shown z s Small = refl
queue-shown z s Main = refl

pub ghosts-shown : (z : Shape) (s : List ℕ) → (state_in z s).ghosts ≡ map (key_at (cols z s)) (lists_of z (cols z s) ghosts_no)
unfolding state_in
ghosts-shown z s = refl

module _ (z : Shape) (s s' : List ℕ) (a : List ℕ) (x : ℕ) (b : List ℕ) where
  abbrev e : ℕ → Entry
  e = entry_at (cols z s)

  abbrev k : ℕ → ℕ
  k = key_at (cols z s)

  -- to the head of Main
  pub moved-main : (q : Queue) → lists_of z (cols z s) (list_no q) ≡ a ++ x ∷ b → Moved z s s' (list_no q) (list_no Main) x
      → state_in z s' ≡ push_to Main (e x) (set_queue q (map e a ++ map e b) (state_in z s))
  unfolding state_in
  moved-main Small h m =
      carried-alike z s s' _ (m.of a b h) m.alike ∙ ap (λ l. push_to Main (e x) (set_queue Small l (state_in z s))) (map-append e a b)
  moved-main Main h m =
      carried-alike z s s' _ (m.of a b h) m.alike ∙ ap (λ l. push_to Main (e x) (set_queue Main l (state_in z s))) (map-append e a b)

  -- from a queue to the front of the ghosts
  pub moved-to-ghosts : (q : Queue) → lists_of z (cols z s) (list_no q) ≡ a ++ x ∷ b → Moved z s s' (list_no q) ghosts_no x
      → state_in z s' ≡ set_ghosts (k x ∷ (state_in z s).ghosts) (set_queue q (map e a ++ map e b) (state_in z s))
  unfolding state_in
  moved-to-ghosts Small h m =
      carried-alike z s s' _ (m.of a b h) m.alike ∙ ap (λ l. set_ghosts (k x ∷ (state_in z s).ghosts) (set_queue Small l (state_in z s))) (map-append e a b)
  moved-to-ghosts Main h m =
      carried-alike z s s' _ (m.of a b h) m.alike ∙ ap (λ l. set_ghosts (k x ∷ (state_in z s).ghosts) (set_queue Main l (state_in z s))) (map-append e a b)

  -- within the ghosts, to the front
  pub moved_ghost : lists_of z (cols z s) ghosts_no ≡ a ++ x ∷ b → Moved z s s' ghosts_no ghosts_no x
      → state_in z s' ≡ set_ghosts (k x ∷ (map k a ++ map k b)) (state_in z s)
  unfolding state_in
  moved_ghost h m = carried-alike z s s' _ (m.of a b h) m.alike ∙ ap (λ l. set_ghosts (k x ∷ l) (state_in z s)) (map-append k a b)

  -- out of its queue
  pub released-queue : (q : Queue) → lists_of z (cols z s) (list_no q) ≡ a ++ x ∷ b → Released z s s' (list_no q) x
      → state_in z s' ≡ set_queue q (map e a ++ map e b) (state_in z s)
  unfolding state_in
  released-queue Small h m = carried-alike z s s' _ (m.of a b h) m.alike ∙ ap (λ l. set_queue Small l (state_in z s)) (map-append e a b)
  released-queue Main h m = carried-alike z s s' _ (m.of a b h) m.alike ∙ ap (λ l. set_queue Main l (state_in z s)) (map-append e a b)

  -- out of the ghosts
  pub released_ghost : lists_of z (cols z s) ghosts_no ≡ a ++ x ∷ b → Released z s s' ghosts_no x
      → state_in z s' ≡ set_ghosts (map k a ++ map k b) (state_in z s)
  unfolding state_in
  released_ghost h m = carried-alike z s s' _ (m.of a b h) m.alike ∙ ap (λ l. set_ghosts l (state_in z s)) (map-append k a b)

-- ---- a node is filled

module _ (z : Shape) (s s' : List ℕ) (k v x : ℕ) (p : Pooled z s) where
  module _ (t : ℕ) (f : Filled z s s' t k v x) where
    free-node : x < z.room
    free-node = lists-node p.carries.lists {t = 0} (omega arith) [] x f.left f.was

    apart : (i : ℕ) → i ≢ 0 → i < list_count → Out x (lists_of z (cols z s) i)
    apart = lists-elsewhere p.carries.lists {t = 0} (omega arith) [] x f.left f.was

    other-entry : (y : ℕ) → y ≢ x → entry_at (cols z s') y ≡ entry_at (cols z s) y
    other-entry y n =
        rw (
          f.keys,
          f.values,
          f.freqs,
          get_or-set_other (cols z s Key) x y k 0 n,
          get_or-set_other (cols z s Value) x y v 0 n,
          get_or-set_other (cols z s Freq) x y 0 0 n,
        )

    own-entry : entry_at (cols z s') x ≡ fresh k v
    own-entry =
        let n = free-node in
        rw (
          f.keys,
          f.values,
          f.freqs,
          get_or-set_same (cols z s Key) x k 0 (rw (length-cols z s Key refl) (omega arith)),
          get_or-set_same (cols z s Value) x v 0 (rw (length-cols z s Value refl) (omega arith)),
          get_or-set_same (cols z s Freq) x 0 0 (rw (length-cols z s Freq refl) (omega arith)),
        )

    same_entries : (i : ℕ) → i ≢ 0 → i < list_count → map (entry_at (cols z s')) (lists_of z (cols z s) i) ≡ map (entry_at (cols z s)) (lists_of z (cols z s) i)
    same_entries i n l = map-out (entry_at (cols z s)) (entry_at (cols z s')) x (lists_of z (cols z s) i) (apart i n l) other-entry

    same_keys : (i : ℕ) → i ≢ 0 → i < list_count → map (key_at (cols z s')) (lists_of z (cols z s) i) ≡ map (key_at (cols z s)) (lists_of z (cols z s) i)
    same_keys i n l = map-out (key_at (cols z s)) (key_at (cols z s')) x (lists_of z (cols z s) i) (apart i n l) (λ y m. ap (λ e. e.key) (other-entry y m))

  -- a new resident
  pub filled-queue : (q : Queue) → Filled z s s' (list_no q) k v x → state_in z s' ≡ push_to q (fresh k v) (state_in z s)
  unfolding state_in
  filled-queue Small f =
      carried z s' _ f.carries
      ∙ (λ i.
      record {
        limits = limits-aside f.aside i;
        small = own-entry 1 f i ∷ same_entries 1 f 1 (omega arith) (omega arith) i;
        main = same_entries 1 f 2 (omega arith) (omega arith) i;
        ghosts = same_keys 1 f 3 (omega arith) (omega arith) i;
      })
  filled-queue Main f =
      carried z s' _ f.carries
      ∙ (λ i.
      record {
        limits = limits-aside f.aside i;
        small = same_entries 2 f 1 (omega arith) (omega arith) i;
        main = own-entry 2 f i ∷ same_entries 2 f 2 (omega arith) (omega arith) i;
        ghosts = same_keys 2 f 3 (omega arith) (omega arith) i;
      })

  -- a new ghost
  pub filled_ghost : Filled z s s' ghosts_no k v x → state_in z s' ≡ set_ghosts (k ∷ (state_in z s).ghosts) (state_in z s)
  unfolding state_in
  filled_ghost f =
      carried z s' _ f.carries
      ∙ (λ i.
      record {
        limits = limits-aside f.aside i;
        small = same_entries 3 f 1 (omega arith) (omega arith) i;
        main = same_entries 3 f 2 (omega arith) (omega arith) i;
        ghosts = (own-entry 3 f i).key ∷ same_keys 3 f 3 (omega arith) (omega arith) i;
      })

-- ---- a node's value or frequency is written

module _ (z : Shape) (s s' : List ℕ) (p : Pooled z s) (q : Queue) (a : List ℕ) (x : ℕ) (b : List ℕ) (h : lists_of z (cols z s) (list_no q) ≡ a ++ x ∷ b) where
  abbrev e₀ : ℕ → Entry
  e₀ = entry_at (cols z s)

  own-list : list_no q < list_count
  own-list = below q
    where
      below : (q : Queue) → list_no q < list_count
      below Small = omega arith
      below Main = omega arith

  node_in : x < z.room
  node_in = lists-node p.carries.lists own-list a x b h

  -- the columns d show what c does, but for the entry at x
  pub record Touched (n : Entry) : Type 0 where
    pub links-kept : cols z s' Next ≡ cols z s Next
    pub heads-kept : cols z s' Head ≡ cols z s Head
    pub keys_kept : cols z s' Key ≡ cols z s Key
    pub others : (y : ℕ) → y ≢ x → entry_at (cols z s') y ≡ entry_at (cols z s) y
    pub own : entry_at (cols z s') x ≡ n

  touched-list : (n : Entry) → Touched n → map (entry_at (cols z s')) (lists_of z (cols z s') (list_no q)) ≡ map e₀ a ++ (n ∷ map e₀ b)
  touched-list n t =
      ap (λ l. map (entry_at (cols z s')) (view z.room l (list_no q))) t.links-kept ∙ ap (map (entry_at (cols z s'))) h
      ∙ (let o = lists-once p.carries.lists own-list a x b h in map_at e₀ (entry_at (cols z s')) a x b o.0 o.1 t.others)
      ∙ ap (λ m. map e₀ a ++ (m ∷ map e₀ b)) t.own

  touched-other : (n : Entry) → Touched n → (i : ℕ) → i ≢ list_no q → i < list_count
      → map (entry_at (cols z s')) (lists_of z (cols z s') i) ≡ map e₀ (lists_of z (cols z s) i)
  touched-other n t i ne l =
      ap (λ m. map (entry_at (cols z s')) (view z.room m i)) t.links-kept
      ∙ map-out e₀ (entry_at (cols z s')) x (lists_of z (cols z s) i) (lists-elsewhere p.carries.lists own-list a x b h i ne l) t.others

  touched-ghosts : (n : Entry) → Touched n
      → map (key_at (cols z s')) (lists_of z (cols z s') ghosts_no) ≡ map (key_at (cols z s)) (lists_of z (cols z s) ghosts_no)
  touched-ghosts n t = ap₂ (λ l m. map (node_key m) (view z.room l ghosts_no)) t.links-kept t.keys_kept

-- the entry at x alone is another
pub touched : (z : Shape) (s s' : List ℕ) (p : Pooled z s) (q : Queue) (a : List ℕ) (x : ℕ) (b : List ℕ)
    (h : lists_of z (cols z s) (list_no q) ≡ a ++ x ∷ b) (n : Entry)
    → Touched z s s' p q a x b h n → state_in z s' ≡ put_at q (map (entry_at (cols z s)) a) (n ∷ []) (map (entry_at (cols z s)) b) (state_in z s)
unfolding state_in
touched z s s' p Small a x b h n t = λ i.
    record {
      limits = limits_by (t.heads-kept i);
      small = touched-list z s s' p Small a x b h n t i;
      main = touched-other z s s' p Small a x b h n t 2 (omega arith) (omega arith) i;
      ghosts = touched-ghosts z s s' p Small a x b h n t i;
    }
touched z s s' p Main a x b h n t = λ i.
    record {
      limits = limits_by (t.heads-kept i);
      small = touched-other z s s' p Main a x b h n t 1 (omega arith) (omega arith) i;
      main = touched-list z s s' p Main a x b h n t i;
      ghosts = touched-ghosts z s s' p Main a x b h n t i;
    }

-- a value is written: its own entry has it, and the others are as they were
module _ {z : Shape} {s s' : List ℕ} {x v : ℕ} (w : SetsField z s s' Value x v) where
  value-keys : cols z s' Key ≡ cols z s Key
  value-keys = rw (w.columns, over-at)

  value-freqs : cols z s' Freq ≡ cols z s Freq
  value-freqs = rw (w.columns, over-at)

  value-values : cols z s' Value ≡ set (cols z s Value) x v
  value-values = rw (w.columns, over-at)

  pub valued-other : (y : ℕ) → y ≢ x → entry_at (cols z s') y ≡ entry_at (cols z s) y
  valued-other y n = rw (value-keys, value-freqs, value-values, get_or-set_other (cols z s Value) x y v 0 n)

  pub valued-own : x < z.room → entry_at (cols z s') x ≡ revalue v (entry_at (cols z s) x)
  valued-own l = rw (value-keys, value-freqs, value-values, get_or-set_same (cols z s Value) x v 0 (rw (length-cols z s Value refl) (omega arith)))

module _ (z : Shape) (s s' : List ℕ) (p : Pooled z s) (q : Queue) (a : List ℕ) (x : ℕ) (b : List ℕ)
    (h : lists_of z (cols z s) (list_no q) ≡ a ++ x ∷ b) (v : ℕ) where
  abbrev e₁ : Entry
  e₁ = entry_at (cols z s) x

  below : x < z.room
  below = node_in z s s' p q a x b h

  pub freq-written : SetsField z s s' Freq x v
      → state_in z s' ≡ put_at q (map (entry_at (cols z s)) a) (with_freq v e₁ ∷ []) (map (entry_at (cols z s)) b) (state_in z s)
  freq-written w =
      let l = below in
      let k : cols z s' Key ≡ cols z s Key = rw (w.columns, over-at) in
      let u : cols z s' Value ≡ cols z s Value = rw (w.columns, over-at) in
      let m : cols z s' Freq ≡ set (cols z s Freq) x v = rw (w.columns, over-at) in
      touched z s s' p q a x b h (with_freq v e₁)
      (record {
        links-kept = rw (w.columns, over-at);
        heads-kept = rw (w.columns, over-at);
        keys_kept = k;
        others = λ y n. rw (k, u, m, get_or-set_other (cols z s Freq) x y v 0 n);
        own = rw (k, u, m, get_or-set_same (cols z s Freq) x v 0 (rw (length-cols z s Freq refl) (omega arith)));
      })

  pub valued : SetsField z s s' Value x v
      → state_in z s' ≡ put_at q (map (entry_at (cols z s)) a) (revalue v e₁ ∷ []) (map (entry_at (cols z s)) b) (state_in z s)
  valued w =
      touched z s s' p q a x b h (revalue v e₁)
      (record {
        links-kept = rw (w.columns, over-at);
        heads-kept = rw (w.columns, over-at);
        keys_kept = rw (w.columns, over-at);
        others = valued-other w;
        own = valued-own w below;
      })
