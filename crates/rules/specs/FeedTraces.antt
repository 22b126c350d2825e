-- Worked feeds (RULES 7.3): capacity 1 with the default ratios, and each row of a feed's order on both sides. `feed-rows` (proofs/FeedTracesLaws.antt) says
-- that the rules give them.
-- Assumes nothing.
use Rattle.std.specs.Prelude.{◌≡◌, true, false, List, [], ◌∷◌, ◌++◌, map, ℕ, suc, ◌-◌, ◌^◌, take, drop, replicate}
use Rattle.rules.specs.State.{State, empty_at}
use Rattle.rules.specs.Records.{IN, NW, ES}
use Rattle.rules.specs.Bytes.{written, all_written, encode_all, mark}
use Rattle.rules.specs.Refusals.{most_request_bytes}
use Rattle.rules.specs.Verdict.{Reads, short, damaged, reads, Verdict, refused, done}
use Rattle.rules.specs.Carry.{Carry, opening, carry_bytes, carry_written, Carried, unfit, carries}
use Rattle.rules.specs.Feed.{Onward, feed, finish_on}

-- a stream that goes on, and one that has stopped
abbrev goes : ℕ → List ℕ → Carry
goes o l = record { offset = o; kept = l; stopped = false }

abbrev halts : ℕ → Carry
halts o = record { offset = o; kept = []; stopped = true }

abbrev none : State
none = empty_at (record { capacity = 1; small_limit = 0; ghost_limit = 1 })

abbrev with7 : State
with7 = record { limits = none.limits; small = record { key = 7; value = 70; freq = 0 } ∷ []; main = []; ghosts = [] }

abbrev with8 : State
with8 = record { limits = none.limits; small = record { key = 8; value = 80; freq = 0 } ∷ []; main = []; ghosts = 7 ∷ [] }

-- IN 7 70, and the mark XX
abbrev in7 : List ℕ
in7 = written (IN 7 70)

abbrev xx : List ℕ
xx = mark 88 88

-- store, carried record, piece and reply room; and what comes of them
pub record Feeding : Type 0 where
  pub store : Reads
  pub carry : Carried
  pub piece : List ℕ
  pub room : ℕ
  pub gives : Verdict Onward

abbrev feeding : Reads → Carried → List ℕ → ℕ → Verdict Onward → Feeding
feeding s c q n v = record { store = s; carry = c; piece = q; room = n; gives = v }

abbrev left : State → List ℕ → Carry → Verdict Onward
left σ bs c = done (record { state = σ; carry = c }) bs

abbrev pub feedings : List Feeding
feedings =
    feeding short unfit [] 0 (refused 6 0)
    ∷ feeding damaged unfit [] 0 (refused 7 0)
    ∷ feeding (reads none) unfit [] 0 (refused 17 0)
    ∷ feeding (reads none) (carries opening) [] 0 (left none [] opening)
    ∷ feeding (reads none) (carries opening) (take 5 in7) 0 (left none [] (goes 0 (take 5 in7)))
    ∷ feeding (reads none) (carries (goes 0 (take 5 in7))) (drop 5 in7 ++ (88 ∷ [])) 28 (left with7 (encode_all (NW 0 ∷ [])) (goes 18 (88 ∷ [])))
    ∷ feeding (reads with7) (carries (goes 18 (88 ∷ []))) (88 ∷ []) 0 (left with7 [] (halts 18))
    ∷ feeding (reads with7) (carries (halts 18)) (mark 67 76) 100 (refused 9 18)
    ∷ feeding (reads with7) (carries (halts 18)) (replicate most_request_bytes 0) 0 (refused 9 18)
    ∷ feeding (reads none) (carries opening) (in7 ++ xx) 27 (refused 10 28)
    ∷ feeding (reads none) (carries opening) (in7 ++ xx) 28 (left with7 (encode_all (NW 0 ∷ [])) (halts 18))
    ∷ feeding (reads none) (carries opening) (all_written (IN 7 70 ∷ IN 8 80 ∷ []) ++ xx) 56 (left with8 (encode_all (NW 0 ∷ ES 7 70 ∷ NW 1 ∷ [])) (halts 36))
    ∷ feeding (reads none) (carries (goes (2 ^ 64 - 2) [])) (67 ∷ []) 0 (left none [] (goes (2 ^ 64 - 2) (67 ∷ [])))
    ∷ feeding (reads none) (carries (goes (2 ^ 64 - 2) [])) (mark 67 76) 100 (refused 17 0)
    ∷ feeding (reads none) (carries (halts (2 ^ 64 - 4))) (mark 67 76) 0 (refused 9 (2 ^ 64 - 4))
    ∷ []

abbrev pub fed_as : Feeding → Verdict Onward
fed_as r = feed r.store r.carry r.piece r.room

pub record FeedRows : Type 0 where
  -- a new stream is so many zeros
  pub zeros : carry_written opening ≡ replicate carry_bytes 0
  pub feeds : map fed_as feedings ≡ map (λ (r : Feeding). r.gives) feedings
  -- a piece that is too long: 17 comes before its 8, and 8 before the 9 of a stream that has stopped
  pub long : map (λ (c : Carry). feed (reads none) (carries c) (replicate (suc most_request_bytes) 0) 0) (goes (2 ^ 64 - 2) [] ∷ opening ∷ halts 18 ∷ [])
      ≡ refused 17 0 ∷ refused 8 0 ∷ refused 8 0 ∷ []
  pub finishes : map finish_on (unfit ∷ carries (halts 18) ∷ carries (goes 18 (88 ∷ [])) ∷ carries (goes 18 []) ∷ [])
      ≡ refused 17 0 ∷ refused 9 18 ∷ refused 9 18 ∷ done tt [] ∷ []
