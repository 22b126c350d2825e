-- All nodes visited, and the live ones, the heads and the links counted: together they decide the index.
-- Assumes nothing.
use mathlib.Core.Path.{◌≡◌, refl, sym, ◌∙◌}
use mathlib.Core.List.{List}
use mathlib.Core.Bool.{Bool, false, not}
use mathlib.Core.Logic.{◌⊎◌, inl, inr}
use Prim.Native.Nat.{ℕ, ◌+◌, ◌≤◌, ◌<◌}
use native.Mathlib.Omega.{arith}
use lib.Dec.{eqb}
use borrow.Author.Tests.{ne_eqb}
use mir.Val.{Fits}
use Rattle.std.specs.Int.{from_bool}
use mir.Syntax.{w64}
use lib.ListN.{length, get_or}
use Rattle.cells.specs.Decides.{Decides}
use Rattle.cells.proofs.DecidesLaws.{refuse, decides_eq}
use Rattle.nodes.specs.Nodes.{Key, Chain, Queue, Bucket, Cols, cols, Room, GetsField}
use Rattle.nodes.specs.declared.Shape.{Shape}
use Rattle.std.specs.Prelude.{Option, Some, None}
use Rattle.std.proofs.lemmas.Option.{none-some, same_Some}
use Rattle.key_index.specs.Index.{bucket_of}
use Rattle.key_index.specs.Stored.{col, LiveIn, Indexes}
use Rattle.census.specs.Check.{Counts, lives, leads, is_going_on, EndOk}
use Rattle.census.specs.Check.{WalkSays, IsFirst, IsSecond, Visits}
use Rattle.census.proofs.CountLaws.{tag-lives, ones, ones-length, ones-are, ones-have, ones_nodup, goes-on-is}
use Rattle.census.proofs.CountLaws.{is-goes-on, CountedTo, counted_start, counted_next, counted-end, counts-few}
use Rattle.census.proofs.VouchLaws.{Second, Vouches, vouches_first, vouches_none, vouches_second, second-clean}
use Rattle.census.proofs.VouchLaws.{Vouching, vouching_start, vouching_next, vouching_few, vouching_stands, vouching_all}
use Rattle.census.proofs.ArrowLaws.{Arrows, arrows_index, arrows_count}

-- ---- all nodes, visited up to x

abbrev pub Vouched : Shape → List ℕ → ℕ → ℕ → Type 0
Vouched z s x sum = Vouching z.room z.buckets (col (cols z s Key)) (col (cols z s Chain)) (col (cols z s Bucket)) (LiveIn z (cols z s)) x sum

vouched-start : (z : Shape) (s : List ℕ) → Vouched z s 0 0
vouched-start z s = vouching_start z.room z.buckets (col (cols z s Key)) (col (cols z s Chain)) (col (cols z s Bucket)) (LiveIn z (cols z s))

module _ (z : Shape) (c : Cols) {x : ℕ} {t : Option ℕ} (v : Visits z c x t) where
  abbrev Backs : ℕ → Type 0
  Backs m = Vouches z.room z.buckets (col (c Key)) (col (c Chain)) (col (c Bucket)) (LiveIn z c) x m

  second-of : IsSecond z c x → Second z.room z.buckets (col (c Key)) (col (c Chain)) (col (c Bucket)) (LiveIn z c) x
  second-of i = record { lives = i.lives; head-lives = i.behind.lives; link-is = i.behind.link; under = i.behind.under }

  of-second : Second z.room z.buckets (col (c Key)) (col (c Chain)) (col (c Bucket)) (LiveIn z c) x → IsSecond z c x
  of-second i = record { lives = i.lives; behind = record { lives = i.head-lives; link = i.link-is; under = i.under } }

  backs : {m : ℕ} → t ≡ Some m → Backs m
  backs {m} e = go v.says
    where
      go : (IsFirst z c x × (t ≡ Some 1))
          ⊎ ((IsSecond z c x × WalkSays z c (bucket_of (get_or (c Key) x 0) z.buckets) x t)
          ⊎ ((IsFirst z c x → ⊥) × (IsSecond z c x → ⊥) × (t ≡ Some 0))) → Backs m
      go (inl f) =
          rw (same_Some 1 m (sym f.1 ∙ e)) at (vouches_first z.room z.buckets (col (c Key)) (col (c Chain)) (col (c Bucket)) (LiveIn z c) x f.0.lives f.0.head)
      go (inr (inl f)) =
          let h = f.1.count m e in
          vouches_second z.room z.buckets (col (c Key)) (col (c Chain)) (col (c Bucket)) (LiveIn z c) x (bucket_of (get_or (c Key) x 0) z.buckets) m
          (second-of f.0) refl h.clean h.size
      go (inr (inr f)) =
          rw (same_Some 0 m (sym f.2 ∙ e)) at (vouches_none z.room z.buckets (col (c Key)) (col (c Chain)) (col (c Bucket)) (LiveIn z c) x
          (λ l h. f.0 (record { lives = l; head = h }))
          (λ i. f.1 (of-second i)))

  breaks : 0 < z.buckets → t ≡ None → Indexes z c → ⊥
  breaks some e ix = go v.says
    where
      go : (IsFirst z c x × (t ≡ Some 1))
          ⊎ ((IsSecond z c x × WalkSays z c (bucket_of (get_or (c Key) x 0) z.buckets) x t)
          ⊎ ((IsFirst z c x → ⊥) × (IsSecond z c x → ⊥) × (t ≡ Some 0))) → ⊥
      go (inl f) = none-some 1 (sym e ∙ f.1)
      go (inr (inl f)) = f.1.broken e (second-clean ix.index some (second-of f.0))
      go (inr (inr f)) = none-some 0 (sym e ∙ f.2)

-- the counts
counted : (z : Shape) (s : List ℕ)
    → Arrows z.room z.buckets (col (cols z s Chain)) (col (cols z s Bucket)) (LiveIn z (cols z s))
    (ones (leads z (cols z s)) z.buckets) (ones (is_going_on z (cols z s)) z.room) (ones (lives (cols z s)) z.room)
counted z s =
    let c = cols z s in
    record {
      heads-apart = ones_nodup (leads z c) z.buckets;
      heads-are = λ b i. let r = ones-are (leads z c) z.buckets b i in (r.0, λ e. omega (arith, r.1, e));
      heads-have = λ b h ne. ones-have (leads z c) z.buckets b h (omega (arith, ne));
      links-apart = ones_nodup (is_going_on z c) z.room;
      links-are = λ p i.
          let r = ones-are (is_going_on z c) z.room p i in
          let g = goes-on-is z c p r.1 in
          (record { below = r.0; tagged = g.0 }, g.1);
      links-have = λ p l ne. ones-have (is_going_on z c) z.room p l.below (is-goes-on z c p l.tagged ne);
      apart = ones_nodup (lives c) z.room;
      are = λ y i. let r = ones-are (lives c) z.room y i in record { below = r.0; tagged = r.1 };
      have = λ y l. ones-have (lives c) z.room y l.below l.tagged;
      below = λ y l. l.below;
    }

-- and how many of them and of their links were counted
pub record Standing (z : Shape) (s : List ℕ) (x sum live links : ℕ) : Type 0 where
  pub vouched : Vouched z s x sum
  pub counted_live : CountedTo (lives (cols z s)) z.room x live
  pub counted-links : CountedTo (is_going_on z (cols z s)) z.room x links

pub standing_start : (z : Shape) (s : List ℕ) → Standing z s 0 0 0 0
standing_start z s = record { vouched = vouched-start z s; counted_live = counted_start; counted-links = counted_start }

pub standing_broken : (z : Shape) (s : List ℕ) {x : ℕ} {t : Option ℕ} → Visits z (cols z s) x t → Room z s → t ≡ None → Decides (Indexes z (cols z s)) false
standing_broken z s v room e = refuse (breaks z (cols z s) v room.some_buckets e)

module _ (z : Shape) (s : List ℕ) {x sum live links : ℕ} (g : Standing z s x sum live links) where
  module _ {t : Option ℕ} (v : Visits z (cols z s) x t) {m : ℕ} (e : t ≡ Some m) where
    pub standing_fits : Room z s → Fits w64 (sum + m)
    standing_fits room =
        omega (
          arith,
          vouching_few z.room z.buckets (col (cols z s Key)) (col (cols z s Chain)) (col (cols z s Bucket)) (LiveIn z (cols z s)) x sum m
              g.vouched
              (backs z (cols z s) v e) (λ y l. l.below),
          room.few,
        )

    pub standing_next : x < z.room → {q a b : ℕ} {r : Bool} → GetsField z s Queue x q → a ≡ from_bool (not (eqb q 0))
        → Decides (0 < is_going_on z (cols z s) x) r → b ≡ from_bool r → Standing z s (x + 1) (sum + m) (live + a) (links + b)
    standing_next h tag one d w = record {
      vouched = vouching_next z.room z.buckets (col (cols z s Key)) (col (cols z s Chain)) (col (cols z s Bucket)) (LiveIn z (cols z s)) x sum m
          g.vouched (backs z (cols z s) v e);
      counted_live = counted_next g.counted_live h (tag-lives z s tag) one;
      counted-links = counted_next g.counted-links h d w;
    }

  -- the heads are counted too
  module _ (room : Room z s) {heads : ℕ} (h : Counts (leads z (cols z s)) z.buckets heads) where
    pub standing_sum : Fits w64 (heads + links)
    standing_sum = omega (arith, counts-few h, g.counted-links.few, g.counted-links.bound, room.few, room.few_buckets)

    module _ (done : z.room ≤ x) where
      heads-long : length (ones (leads z (cols z s)) z.buckets) ≡ heads
      heads-long = ones-length (leads z (cols z s)) z.buckets ∙ sym h.number

      links-long : length (ones (is_going_on z (cols z s)) z.room) ≡ links
      links-long = ones-length (is_going_on z (cols z s)) z.room ∙ sym (counted-end g.counted-links done).number

      live_long : length (ones (lives (cols z s)) z.room) ≡ live
      live_long = ones-length (lives (cols z s)) z.room ∙ sym (counted-end g.counted_live done).number

      pub standing_uneven : (heads + links ≡ live → ⊥) → Decides (Indexes z (cols z s)) (eqb (heads + links) live)
      standing_uneven ne = rw (ne_eqb (heads + links) live ne) (refuse (λ ix.
          ne (omega (arith, arrows_count (col (cols z s Key)) (counted z s) room.some_buckets ix.index, heads-long, links-long, live_long))))

      pub standing_end : EndOk z (cols z s) → heads + links ≡ live → Decides (Indexes z (cols z s)) (eqb sum live)
      standing_end ends even =
          let c = cols z s in
          let a = counted z s in
          decides_eq sum live
          (λ e. record {
            index = arrows_index (col (c Key)) a room.some_buckets
                (vouching_stands z.room z.buckets (col (c Key)) (col (c Chain)) (col (c Bucket)) (LiveIn z c) x sum 0 g.vouched done a.below
                (ones (lives c) z.room) a.have (e ∙ sym live_long)) (omega (arith, heads-long, links-long, live_long, even)) ends.home;
            unlisted = ends.unlisted;
          })
          (λ ix. vouching_all z.room z.buckets (col (c Key)) (col (c Chain)) (col (c Bucket)) (LiveIn z c) x sum 0 g.vouched done a.below
          (ones (lives c) z.room) a.have a.apart a.are room.some_buckets ix.index ∙ live_long)
