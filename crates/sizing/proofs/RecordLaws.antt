-- A settings record: its tests in their order, as the code makes them, and what the bytes ask for after each.
-- Assumes nothing.
use mathlib.Core.Path.{◌≡◌, sym, ◌∙◌}
use mathlib.Core.List.{List}
use Prim.Native.Nat.{ℕ, ◌≤◌, ◌<◌}
use lib.ListN.{length, get_or}
use borrow.Author.Tests.{eq-eqb, ne_eqb, le-leb, lt-leb}
use Rattle.rules.specs.Sizing.{Asked, no_settings, settings_bytes, settings_at, settings_of}

-- the length, then the two bytes of the mark
module _ (s : List ℕ) where
  pub short : length s < settings_bytes → no_settings ≡ settings_of s
  unfolding settings_of
  short l = simp (lt-leb settings_bytes (length s) l)

  pub other-first : settings_bytes ≤ length s → (get_or s 0 0 ≡ 67 → ⊥) → no_settings ≡ settings_of s
  unfolding settings_of
  other-first l n = simp (le-leb settings_bytes (length s) l, ne_eqb (get_or s 0 0) 67 n)

  pub other-second : settings_bytes ≤ length s → get_or s 0 0 ≡ 67 → (get_or s 1 0 ≡ 70 → ⊥) → no_settings ≡ settings_of s
  unfolding settings_of
  other-second l e n = simp (le-leb settings_bytes (length s) l, eq-eqb (get_or s 0 0) 67 e, ne_eqb (get_or s 1 0) 70 n)

  pub whole : (a : Asked) → settings_bytes ≤ length s → get_or s 0 0 ≡ 67 → get_or s 1 0 ≡ 70 → a ≡ settings_at s 2 → a ≡ settings_of s
  unfolding settings_of
  whole a l e f h = h ∙ sym (simp (le-leb settings_bytes (length s) l, eq-eqb (get_or s 0 0) 67 e, eq-eqb (get_or s 1 0) 70 f))
