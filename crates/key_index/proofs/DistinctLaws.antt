-- Lists of distinct numbers: joined and taken apart, what a function makes of them, and how many they are beside the numbers that they are among.
-- Assumes nothing.
use mathlib.Core.Path.{◌≡◌, refl, sym, ◌∙◌, ap, subst}
use mathlib.Core.List.{List, [], ◌∷◌, ◌++◌, map}
use mathlib.Core.Logic.{◌⊎◌, inl, inr, ⊎_elim, ◌≢◌}
use Prim.Native.Nat.{ℕ, ◌≤◌, ◌<◌}
use native.Mathlib.Omega.{arith}
use lib.ListN.{length, length-append}
use Rattle.cells.specs.Members.{Every, Out}
use Rattle.cells.proofs.MembersLaws.{among-or-out, Nodup, nodup_less, nodup_append, nodup_few}
use Rattle.key_index.specs.Links.{In}
use Rattle.key_index.proofs.LinksLaws.{in-append, in_split, in-more, in-less}

-- what holds of every member holds of one
every_in : (P : ℕ → Type 0) (y : ℕ) (xs : List ℕ) → Every P xs → In y xs → P y
every_in P y [] h x'' = elim x'' [ ]
every_in P y (x ∷ xs) h (inl e) = subst P (sym e) h.0
every_in P y (x ∷ xs) h (inr i) = every_in P y xs h.1 i

-- and what holds of each holds of every one
in-every : (P : ℕ → Type 0) (xs : List ℕ) → ((y : ℕ) → In y xs → P y) → Every P xs
in-every P [] h = tt
in-every P (x ∷ xs) h = (h x (inl refl), in-every P xs (λ y i. h y (inr i)))

pub out_of : (x : ℕ) (xs : List ℕ) → (In x xs → ⊥) → Out x xs
out_of x xs h = in-every (λ y. y ≢ x) xs (λ y i e. h (rw e at i))

pub not_in : (x : ℕ) (xs : List ℕ) → Out x xs → In x xs → ⊥
not_in x xs o i = every_in (λ y. y ≢ x) x xs o i refl

in-or-not : (y : ℕ) (xs : List ℕ) → In y xs ⊎ (In y xs → ⊥)
in-or-not y xs = ⊎_elim (λ a. inl (rw a.is (in-append y a.front (y ∷ a.back) (inr (inl refl))))) (λ o. inr (not_in y xs o)) (among-or-out y xs)

-- ---- how many

pub few : (n : ℕ) (xs : List ℕ) → ((y : ℕ) → In y xs → y < n) → Nodup xs → length xs ≤ n
few n xs b d = nodup_few n xs d (in-every (λ y. y < n) xs b)

-- distinct numbers that are all among ys are at most as many
pub fewer : (xs ys : List ℕ) → Nodup xs → ((y : ℕ) → In y xs → In y ys) → length xs ≤ length ys
fewer [] ys d sub = omega arith
fewer (x ∷ xs) ys d sub =
    let r = in_split x ys (sub x (inl refl)) in
    let s = r.0 in
    let t = r.1 in
    let h = fewer xs (s ++ t) d.1 (λ y i. in-less y x s t (λ q. not_in x xs d.0 (rw q at i)) (rw r.2 at (sub y (inr i)))) in
    omega (arith, h, length-append s t, length-append s (x ∷ t), ap length r.2)

-- where they are as many, each of ys is one of them
pub onto : (xs ys : List ℕ) → Nodup xs → ((y : ℕ) → In y xs → In y ys) → length ys ≤ length xs → (y : ℕ) → In y ys → In y xs
onto xs ys d sub long y i = ⊎_elim (λ w. w) (λ out. absurd (short out)) (in-or-not y xs)
  where
    short : (In y xs → ⊥) → ⊥
    short out =
        let r = in_split y ys i in
        let s = r.0 in
        let t = r.1 in
        let h = fewer xs (s ++ t) d (λ w j. in-less w y s t (λ q. out (rw q at j)) (rw r.2 at (sub w j))) in
        omega (arith, h, long, length-append s t, length-append s (y ∷ t), ap length r.2)

-- and ys are distinct too
pub tight : (xs ys : List ℕ) → Nodup xs → ((y : ℕ) → In y xs → In y ys) → length ys ≤ length xs → Nodup ys
tight xs [] d sub long = tt
tight xs (y ∷ ys) d sub long = go (onto xs (y ∷ ys) d sub long y (inl refl)) (in-or-not y ys) (λ zs. tight zs ys)
  where
    go : In y xs → In y ys ⊎ (In y ys → ⊥) → ((zs : List ℕ) → Nodup zs → ((w : ℕ) → In w zs → In w ys) → length ys ≤ length zs → Nodup ys) → Nodup (y ∷ ys)
    go i (inl again) less =
        let h = fewer xs ys d (λ w j. ⊎_elim (λ e. rw e again) (λ k. k) (sub w j)) in
        absurd (omega arith)
    go i (inr out) less =
        let r = in_split y xs i in
        let s = r.0 in
        let t = r.1 in
        let o = nodup_less s y t (subst Nodup r.2 d) in (
          out_of y ys out,
          less (s ++ t) o.0 (λ w j. ⊎_elim (λ e. absurd (not_in y (s ++ t) o.1 (rw e at j))) (λ k. k) (sub w (rw r.2 (in-more w y s t j))))
              (omega (arith, long, length-append s t, length-append s (y ∷ t), ap length r.2)),
        )

-- ---- two lists that share none

pub nodup_both : (s t : List ℕ) → Nodup s → Nodup t → ((y : ℕ) → In y s → In y t → ⊥) → Nodup (s ++ t)
nodup_both s t d e apart = nodup_append s t d e (in-every (λ y. Out y t) s (λ y i. out_of y t (apart y i)))

pub nodup_parts : (s t : List ℕ) → Nodup (s ++ t) → Nodup s × Nodup t × ((y : ℕ) → In y s → In y t → ⊥)
nodup_parts [] t d = (tt, d, λ y i. absurd i)
nodup_parts (x ∷ s) t d =
    let r = nodup_parts s t d.1 in
    let o = not_in x (s ++ t) d.0 in
    ((out_of x s (λ i. o (in-append x s t (inl i))), r.0), r.1, λ y i j. ⊎_elim (λ e. o (in-append x s t (inr (rw e at j)))) (λ k. r.2 y k j) i)

-- ---- what f makes of each number

module _ (f : ℕ → ℕ) where
  pub in_map : (x : ℕ) (xs : List ℕ) → In x xs → In (f x) (map f xs)
  in_map x [] x'' = elim x'' [ ]
  in_map x (y ∷ xs) (inl e) = inl (ap f e)
  in_map x (y ∷ xs) (inr i) = inr (in_map x xs i)

  pub map_in : (y : ℕ) (xs : List ℕ) → In y (map f xs) → (x : ℕ) × In x xs × (y ≡ f x)
  map_in y [] x' = elim x' [ ]
  map_in y (x ∷ xs) (inl e) = (x, inl refl, e)
  map_in y (x ∷ xs) (inr i) = let r = map_in y xs i in (r.0, inr r.1, r.2)

  pub map-once : (xs : List ℕ) → Nodup (map f xs) → (x y : ℕ) → In x xs → In y xs → f x ≡ f y → x ≡ y
  map-once [] d x y x6 _ e = elim x6 [ ]
  map-once (z ∷ xs) d x y (inl p) (inl q) e = rw (p, q)
  map-once (z ∷ xs) d x y (inl p) (inr j) e =
      let q : f z ≡ f y = ap f (sym p) ∙ e in absurd (not_in (f z) (map f xs) d.0 (rw q (in_map y xs j)))
  map-once (z ∷ xs) d x y (inr i) (inl p) e =
      let q : f z ≡ f x = ap f (sym p) ∙ sym e in absurd (not_in (f z) (map f xs) d.0 (rw q (in_map x xs i)))
  map-once (z ∷ xs) d x y (inr i) (inr j) e = map-once xs d.1 x y i j e

  pub map_nodup : (xs : List ℕ) → Nodup xs → ((x y : ℕ) → In x xs → In y xs → f x ≡ f y → x ≡ y) → Nodup (map f xs)
  map_nodup [] d once = tt
  map_nodup (x ∷ xs) d once = (
    out_of (f x) (map f xs) (λ i. let r = map_in (f x) xs i in not_in x xs d.0 (rw (once x r.0 (inl refl) (inr r.1) r.2) r.1)),
    map_nodup xs d.1 (λ y z i j. once y z (inr i) (inr j)),
  )
