-- The code's values in the terms of the rules: requests, replies, what stands at an offset, the survey; and what a writer promises.
-- Assumes nothing.
use Rattle.std.specs.Prelude.{ℕ, ◌+◌, ◌≡◌, Bool, List, ◌++◌, length, get_or, take, drop, Option, Result, Ok, Err}
use Rattle.rules.specs.declared.Kind.{Kind}
use Rattle.rules.specs.declared.Row.{Row}
use Rattle.rules.specs.Records.{Request, GT, PK, RM, IN, EV, CL, Reply, MI, OK, HI, RE, NW, GO, EX, ES, EM}
use Rattle.rules.specs.Bytes.{row, table, Spot, at, unknown, cut, over, marks, find, spot_at, made, Reading, ask, strange, short, end, End, whole, unknown_at}
use Rattle.rules.specs.Bytes.{cut_at}
use Rattle.rules.specs.Bytes.{Parsed, room_for}
use Rattle.wire.specs.declared.Request.{Request as Request·}
use Rattle.wire.specs.declared.Request.TheVariants.{Get, Peek, Remove, Insert, Evict, Clear}
use Rattle.wire.specs.declared.Reply.{Reply as Reply·}
use Rattle.wire.specs.declared.Reply.TheVariants.{Miss, Cleared, Hit, Replaced, New, Gone, Handed, FromSmall, FromMain}
use Rattle.wire.specs.declared.Stop.{Stop}
use Rattle.wire.specs.declared.Stop.TheVariants.{Whole, Unknown, Cut}
use Rattle.wire.specs.declared.Survey.{Survey}

-- the request that the code's is
abbrev pub asked : Request· → Request
asked (Get k) = GT k.0
asked (Peek k) = PK k.0
asked (Remove k) = RM k.0
asked (Insert k v) = IN k.0 v.0
asked Evict = EV
asked Clear = CL

-- the reply that the code's is
abbrev pub told : Reply· → Reply
told Miss = MI
told Cleared = OK
told (Hit v) = HI v.0
told (Replaced v) = RE v.0
told (New n) = NW n
told (Gone v) = GO v.0
told (Handed k v) = EX k.0 v.0
told (FromSmall k v) = ES k.0 v.0
told (FromMain k v) = EM k.0 v.0

-- the code's form of what stands at an offset
abbrev pub spotted : Spot → Result Row Stop
spotted (at k) = Ok (row k)
spotted unknown = Err Unknown
spotted cut = Err Cut
spotted over = Err Whole

abbrev pub meaning : Result (Request· × ℕ) Stop → Reading Request
meaning (Ok w) = ask (asked w.0) w.1
meaning (Err Unknown) = strange
meaning (Err Cut) = short
meaning (Err Whole) = end

-- ---- what a reader promises of the bytes at an offset

-- whether the two bytes there are the mark m
pub record Marked (s : List ℕ) (i : ℕ) (m : List ℕ) (r : Bool) : Type 0 where
  pub is : r ≡ marks (get_or s i 0) (get_or s (i + 1) 0) m

-- the row of the mark there
pub record Meets (s : List ℕ) (i : ℕ) (r : Option Row) : Type 0 where
  pub is : r ≡ find (get_or s i 0) (get_or s (i + 1) 0) table

-- what stands there
pub record Spots (s : List ℕ) (i : ℕ) (r : Result Row Stop) : Type 0 where
  pub is : r ≡ spotted (spot_at s i)

-- the request of kind k whose record starts there
pub record Asks (s : List ℕ) (i : ℕ) (k : Kind) (r : Request·) : Type 0 where
  pub is : asked r ≡ made s i k

-- ---- the survey

-- the survey of requests of n bytes that parse so: the reply room of those that are whole, and where and how the walk ended
abbrev pub end_at : ℕ → End → ℕ
end_at n whole = n
end_at n (unknown_at i) = i
end_at n (cut_at i) = i

abbrev pub stop_of : End → Stop
stop_of whole = Whole
stop_of (unknown_at i) = Unknown
stop_of (cut_at i) = Cut

abbrev pub surveyed : ℕ → Parsed Request → Survey
surveyed n p = record { room = room_for p.requests; at = end_at n p.end; stop = stop_of p.end }

-- ---- what a writer promises

-- s with bs in the place of as many bytes from an offset on
unfoldable pub splice : List ℕ → ℕ → List ℕ → List ℕ
splice s i bs = take i s ++ bs ++ drop (i + length bs) s

-- a writer's promise: bs stand at the offset, all else is as before, and the result is the offset after them
pub record Wrote (before : List ℕ) (i : ℕ) (bs after : List ℕ) (r : ℕ) : Type 0 where
  pub bytes : after ≡ splice before i bs
  pub end : r ≡ i + length bs
