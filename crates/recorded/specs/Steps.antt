-- What the steps and cases of a file come to: the calls on a part of the store, whether all went as written, and the tally.
-- Assumes nothing.
use Rattle.std.specs.Prelude.{◌≡◌, Bool, true, false, cond, List, ◌++◌, ℕ, ◌+◌, ◌≤◌, ◌<◌, ◌%◌, eqb, leb, ltb, length, take, drop, replicate}
use Rattle.std.specs.Prelude.{Option, Some, None, Result, Ok, Err, IsErr}
use Rattle.cells.specs.Cells.{le}
use Rattle.cells.specs.Decides.{Decides}
use Rattle.rules.specs.Sizing.{no_settings, settings_of}
use Rattle.rules.specs.Refusals.{store_bytes}
use Rattle.rules.specs.declared.Turned.{Turned}
use Rattle.sizing.specs.declared.Settings.{Settings}
use Rattle.sizing.specs.Answers.{asks_of}
use Rattle.s3_fifo.specs.Calls.{created_says, ran_says, Created, Called}
use Rattle.recorded.specs.declared.Told.{Told}
use Rattle.recorded.specs.declared.Act.{Act}
use Rattle.recorded.specs.declared.Act.TheVariants.{Fill, Lay, Create, Run}
use Rattle.recorded.specs.declared.Step.{Step}
use Rattle.recorded.specs.declared.Broken.{Broken}
use Rattle.recorded.specs.declared.Tally.{Tally}
use Rattle.recorded.specs.Told.{told_of}
use Rattle.recorded.specs.Compared.{unwritten, CreatedAsWritten, RanAsWritten, CaseAsWritten}
use Rattle.recorded.specs.Fresh.{Accepted}

-- ---- files

-- what a step does, by its number: fill the store, lay bytes into it, create, or run
abbrev pub act_of : ℕ → Option Act
act_of n = cond (eqb n 0) (Some Fill) (cond (eqb n 1) (Some Lay) (cond (eqb n 2) (Some Create) (cond (eqb n 3) (Some Run) None)))

-- the step in the 32 bytes before its input
abbrev pub step_of : List ℕ → Step
step_of h =
    record {
      kind = act_of (le 4 h 0);
      store = le 4 h 4;
      room = le 4 h 8;
      number = le 4 h 12;
      input = le 4 h 16;
      output = le 4 h 20;
      detail = le 8 h 24;
    }

-- ---- calls on the first n bytes of a store

-- s' is s with those bytes as the creation left them
pub record CreatedIn (n : ℕ) (settings : Settings) (s : List ℕ) (t : Told) (s' : List ℕ) : Type 0 where
  pub created : Result Unit Turned
  pub part : List ℕ
  pub called : Created settings (take n s) created part
  pub store : s' ≡ part ++ drop n s
  pub told : t ≡ told_of (created_says created)

-- a call, with the first m bytes of p for replies
pub record RanIn (n m : ℕ) (s q p : List ℕ) (t : Told) (s' p' : List ℕ) : Type 0 where
  pub ran : Result ℕ Turned
  pub part : List ℕ
  pub replies : List ℕ
  pub called : Called (take n s) q (take m p) ran part replies
  pub store : s' ≡ part ++ drop n s
  pub out : p' ≡ replies ++ drop m p
  pub told : t ≡ told_of (ran_says ran)

-- bytes laid into s at a place, where they fit
pub record Laid (at : ℕ) (piece s s' : List ℕ) (r : Bool) : Type 0 where
  pub fits : r ≡ leb (at + length piece) (length s)
  pub store : s' ≡ cond (leb (at + length piece) (length s)) (take at s ++ piece ++ drop (at + length piece) s) s

-- ---- steps; r is whether one went as written

-- a creation: the store is shorter than what it is lent, the settings are none, or it is called
pub data CreateStepped (s : Step) (q store : List ℕ) (r : Bool) (store' : List ℕ) : Type 0 where
  lent_too_much : length store < s.store → r ≡ false → store' ≡ store → CreateStepped s q store r store'
  bad_settings : settings_of q ≡ no_settings → r ≡ false → store' ≡ store → CreateStepped s q store r store'
  creates : s.store ≤ length store → (settings : Settings) (t : Told) → asks_of settings ≡ settings_of q → CreatedIn s.store settings store t store'
      → Decides (CreatedAsWritten s.number t store store') r → CreateStepped s q store r store'

-- before a call: the store is kept, and so many bytes for replies are untouched
pub record Prepared (store : List ℕ) (room : ℕ) (before out : List ℕ) : Type 0 where
  pub keeps : before ≡ store
  pub clears : out ≡ replicate room unwritten

-- a call with the bytes p for replies, compared with the output w and with what was kept
pub record CallStepped (s : Step) (q w before store p : List ℕ) (r : Bool) (store' : List ℕ) : Type 0 where
  pub told : Told
  pub out : List ℕ
  pub ran : RanIn s.store s.room store q p told store' out
  pub says : Decides (RanAsWritten s w told out before store') r

-- and where store or reply buffer are shorter than what it is lent
pub data RunStepped (s : Step) (q w store : List ℕ) (room : ℕ) (r : Bool) (store' : List ℕ) : Type 0 where
  store_too_long : length store < s.store → r ≡ false → store' ≡ store → RunStepped s q w store room r store'
  room_too_long : room < s.room → r ≡ false → store' ≡ store → RunStepped s q w store room r store'
  runs : s.store ≤ length store → s.room ≤ room → CallStepped s q w store store (replicate room unwritten) r store' → RunStepped s q w store room r store'

-- a step of any kind, with the input q and the output w, where there is room for so many reply bytes
pub data Stepped (s : Step) (q w store : List ℕ) (room : ℕ) (r : Bool) (store' : List ℕ) : Type 0 where
  fill_step : s.kind ≡ Some Fill → r ≡ true → store' ≡ replicate (length store) (s.number % 256) → Stepped s q w store room r store'
  lay_step : s.kind ≡ Some Lay → Laid s.room q store store' r → Stepped s q w store room r store'
  create_step : s.kind ≡ Some Create → CreateStepped s q store r store' → Stepped s q w store room r store'
  run_step : s.kind ≡ Some Run → RunStepped s q w store room r store' → Stepped s q w store room r store'
  no_step : s.kind ≡ None → r ≡ false → store' ≡ store → Stepped s q w store room r store'

-- ---- cases

-- the requests of a case, on the store that its settings made
pub record CaseRun (q w store : List ℕ) (room : ℕ) (r : Bool) : Type 0 where
  pub told : Told
  pub store' : List ℕ
  pub out : List ℕ
  pub ran : RanIn store_bytes room store q (replicate room unwritten) told store' out
  pub says : Decides (CaseAsWritten w told out) r

-- ---- the next of a file

-- the step s with the first bytes of input and output
pub record StepWent (s : Step) (input output store : List ℕ) (room : ℕ) (r : Bool) (store' : List ℕ) : Type 0 where
  pub taken : Stepped s (take s.input input) (take s.output output) store room r store'

-- the case that is the first n bytes of input and the first m of output
pub record CaseWent (n m : ℕ) (input output : List ℕ) (room : ℕ) (r : Bool) : Type 0 where
  pub taken : Decides (Accepted (take n input) room (take m output)) r

-- the next step of a file, with what was read for input and output: which bytes they are, nothing says
pub data NextStep (input output store : List ℕ) (room : ℕ) (r : Result (Option Bool) Broken) (store' : List ℕ) : Type 0 where
  steps_end : r ≡ Ok None → NextStep input output store room r store'
  cut_step : IsErr r → NextStep input output store room r store'
  step_read : (s : Step) (well : Bool) → StepWent s input output store room well store' → r ≡ Ok (Some well) → NextStep input output store room r store'

-- and the next case
pub data NextCase (input output : List ℕ) (room : ℕ) (r : Result (Option Bool) Broken) : Type 0 where
  end_of_cases : r ≡ Ok None → NextCase input output room r
  case_cut : IsErr r → NextCase input output room r
  case_read : (n m : ℕ) (well : Bool) → CaseWent n m input output room well → r ≡ Ok (Some well) → NextCase input output room r

-- ---- the tally

-- a count stops at the largest number
abbrev pub more_of : ℕ → ℕ
more_of n = cond (ltb n 18446744073709551615) (n + 1) n

abbrev pub counted_as : Tally → Bool → Tally
counted_as t true = record { taken = more_of t.taken; differ = t.differ }
counted_as t false = record { taken = more_of t.taken; differ = more_of t.differ }

abbrev pub counted_by : Tally → Result (Option Bool) Broken → Result (Option Tally) Broken
counted_by t (Ok (Some well)) = Ok (Some (counted_as t well))
counted_by t (Ok None) = Ok None
counted_by t (Err b) = Err b

-- one more step or case, which goes as Goes says, and the tally after it
pub record TurnTaken (Goes : List ℕ → List ℕ → List ℕ → ℕ → Result (Option Bool) Broken → List ℕ → Type 0) (t : Tally) (input output store : List ℕ) (room : ℕ)
    (r : Result (Option Tally) Broken) (store' : List ℕ) : Type 0 where
  pub went : Result (Option Bool) Broken
  pub goes : Goes input output store room went store'
  pub is : r ≡ counted_by t went
