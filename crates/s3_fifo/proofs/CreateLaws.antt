-- The laws of creation: each answer, and the verdict that it is.
-- Assumes nothing.
use mathlib.Core.Path.{◌≡◌, refl, sym, ap, ◌∙◌}
use mathlib.Core.List.{List}
use Prim.Native.Nat.{ℕ, ◌≤◌, ◌<◌}
use lib.ListN.{length}
use borrow.Author.Tests.{lt-ltb, le-ltb}
use Rattle.nodes.proofs.NodesLaws.{cols-rest}
use Rattle.rules.specs.State.{most, Fine}
use Rattle.rules.specs.Sizing.{sizing}
use Rattle.rules.specs.Refusals.{store_bytes}
use Rattle.rules.specs.Verdict.{create}
use Rattle.sizing.specs.declared.Settings.{Settings}
use Rattle.sizing.specs.declared.Limits.{Limits}
use Rattle.rules.specs.declared.Turned.{Turned}
use Rattle.rules.specs.declared.Turned.TheVariants.{ShortStore}
use Rattle.std.specs.Prelude.{Result, Ok, Err}
use Rattle.sizing.specs.Answers.{the_limits_of, sized_of, sizing_of}
use Rattle.sizing.proofs.AcceptedLaws.{accepted-fine}
use Rattle.store.specs.Holds.{shape_for}
use Rattle.store.specs.Created.{SetUp as CreatedIn}
use Rattle.store.proofs.CreatedLaws.{created-holds}
use Rattle.s3_fifo.specs.Calls.{Created}

module _ (settings : Settings) {r : Result Limits Turned} (e : sized_of r ≡ sizing_of most settings) where
  sized_as : {q : Result Limits Turned} → r ≡ q → sizing settings.capacity settings.small_ratio settings.ghost_ratio ≡ sized_of q
  sized_as h = sym e ∙ ap sized_of h

  -- refused by sizing
  pub create-refused : {t : Turned} → r ≡ Err t → (s : List ℕ) → Created settings s (Err t) s
  unfolding create
  create-refused h s =
      record { leaves = rw (sized_as h) (refl, refl, refl) }

  module _ {l : Limits} (h : r ≡ Ok l) where
    pub create-fine : Fine (the_limits_of l)
    create-fine = accepted-fine settings.capacity settings.small_ratio settings.ghost_ratio (sized_as h)

    pub create-short : {s : List ℕ} → length s < store_bytes → Created settings s (Err ShortStore) s
    unfolding create
    create-short {s} b = record { leaves = rw (sized_as h, lt-ltb (length s) store_bytes b) (refl, refl, refl) }

    pub create-made : {s s' : List ℕ} → store_bytes ≤ length s → CreatedIn (the_limits_of l) s s' → length s' ≡ length s → Created settings s (Ok tt) s'
    unfolding create
    create-made {s} {s'} b c n =
        let z = shape_for (the_limits_of l) in
        record {
          leaves =
              rw (sized_as h, le-ltb (length s) store_bytes b)
              (refl, record { holds = created-holds c; surplus = sym (cols-rest z s') ∙ c.rest ∙ cols-rest z s; same_length = n }, refl);
        }
