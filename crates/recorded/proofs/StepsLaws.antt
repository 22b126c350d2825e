-- The laws of steps and cases: what was compared with the store as it was kept, and with replies that were untouched.
-- Assumes nothing.
use mathlib.Core.Path.{◌≡◌, refl, sym, ap, subst, ◌∙◌}
use mathlib.Core.Bool.{Bool}
use mathlib.Core.List.{List, ◌++◌, append-nil}
use Prim.Native.Nat.{ℕ, ◌≤◌}
use native.Mathlib.Omega.{arith}
use lib.ListN.{length, take, drop, replicate, drop_of_length-le}
use lib.Seq.{take-length}
use Rattle.std.specs.Prelude.{Option, Some}
use Rattle.cells.specs.Decides.{Decides}
use Rattle.rules.specs.Sizing.{settings_of}
use Rattle.rules.specs.Refusals.{store_bytes}
use Rattle.sizing.specs.declared.Settings.{Settings}
use Rattle.sizing.specs.Answers.{asked_of}
use Rattle.recorded.specs.declared.Told.{Told}
use Rattle.recorded.specs.declared.Step.{Step}
use Rattle.recorded.specs.Compared.{unwritten, CreatedAsWritten, CaseAsWritten}
use Rattle.recorded.specs.Steps.{CreatedIn, RanIn, CreateStepped, creates, CaseRun}

-- what was copied is all there was
pub copied : (s b : List ℕ) {b' : List ℕ} → length s ≡ length b → b' ≡ take (length s) s ++ drop (length s) b → b' ≡ s
copied s b h e = e ∙ rw (take-length s, drop_of_length-le b {i = length s} (omega arith), append-nil s) refl

pub create-called : {s : Step} {q store before store' : List ℕ} {read : Option Settings} {settings : Settings} {t : Told} {r : Bool} → s.store ≤ length store
    → read ≡ Some settings → asked_of read ≡ settings_of q → before ≡ store → CreatedIn s.store settings store t store'
    → Decides (CreatedAsWritten s.number t before store') r → CreateStepped s q store r store'
create-called {s} {store' = store'} {settings = settings} {t} {r} h e f k c d =
    creates h settings t (sym (ap asked_of e) ∙ f) c (subst (λ (x : List ℕ). Decides (CreatedAsWritten s.number t x store') r) k d)

pub case_run : {q w store p out store' : List ℕ} {room m : ℕ} {t : Told} {r : Bool} → p ≡ replicate room unwritten
    → RanIn store_bytes m store q p t store' out → m ≡ room → Decides (CaseAsWritten w t out) r → CaseRun q w store room r
case_run {q} {w} {store} {p} {out} {store'} {room} {m} {t} e c l d =
    record {
      told = t;
      store' = store';
      out = out;
      ran = subst (λ (x : List ℕ). RanIn store_bytes room store q x t store' out) e
          (subst (λ (k : ℕ). RanIn store_bytes k store q p t store' out) l c);
      says = d;
    }
