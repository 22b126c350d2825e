-- Requests and replies as bytes: marks, numbers, the one table, and the records of a run of bytes (RULES 6).
-- A number is 8 bytes, least significant first: `le 8 s at` is the one that stands at an offset, `bytes_of 8 v` is how v is written.
-- Assumes nothing.
use Rattle.std.specs.Prelude.{ℕ, suc, zero, ◌+◌, ◌-◌, ◌/◌, ◌%◌, Bool, cond, ◌&&◌, List, [], ◌∷◌, ◌++◌, map, eqb, leb, ltb, length, get_or, Option, Some, None}
use Rattle.cells.specs.Cells.{le}
use Rattle.rules.specs.Parts.{total}
use Rattle.rules.specs.declared.Kind.{Kind}
use Rattle.rules.specs.declared.Kind.TheVariants.{Get, Peek, Remove, Insert, Evict, Clear}
use Rattle.rules.specs.declared.Row.{Row}
use Rattle.rules.specs.Records.{Request, GT, PK, RM, IN, EV, CL, Reply, MI, OK, HI, RE, NW, GO, EX, ES, EM}

-- a number's w lowest bytes, least significant first
unfoldable pub bytes_of : ℕ → ℕ → List ℕ
bytes_of zero v = []
bytes_of (suc w) v = v % 256 ∷ bytes_of w (v / 256)

-- two bytes of ASCII
abbrev pub mark : ℕ → ℕ → List ℕ
mark a b = a ∷ b ∷ []

-- ---- replies

abbrev pub encode : Reply → List ℕ
encode MI = mark 77 73
encode OK = mark 79 75
encode (HI v) = mark 72 73 ++ bytes_of 8 v
encode (RE v) = mark 82 69 ++ bytes_of 8 v
encode (NW n) = mark 78 87 ++ bytes_of 8 n
encode (GO v) = mark 71 79 ++ bytes_of 8 v
encode (EX k v) = mark 69 88 ++ bytes_of 8 k ++ bytes_of 8 v
encode (ES k v) = mark 69 83 ++ bytes_of 8 k ++ bytes_of 8 v
encode (EM k v) = mark 69 77 ++ bytes_of 8 k ++ bytes_of 8 v

unfoldable pub encode_all : List Reply → List ℕ
unfolding bytes_of
encode_all [] = []
encode_all (r ∷ rs) = encode r ++ encode_all rs

-- ---- the one table: mark, bytes of the record, reply room

abbrev pub row : Kind → Row
row Get = record { kind = Get; mark = mark 71 84; bytes = 10; room = 10 }
row Insert = record { kind = Insert; mark = mark 73 78; bytes = 18; room = 28 }
row Peek = record { kind = Peek; mark = mark 80 75; bytes = 10; room = 10 }
row Remove = record { kind = Remove; mark = mark 82 77; bytes = 10; room = 10 }
row Evict = record { kind = Evict; mark = mark 69 86; bytes = 2; room = 36 }
row Clear = record { kind = Clear; mark = mark 67 76; bytes = 2; room = 2 }

abbrev pub kinds : List Kind
kinds = Get ∷ Insert ∷ Peek ∷ Remove ∷ Evict ∷ Clear ∷ []

unfoldable pub table : List Row
table = map row kinds

abbrev pub kind_of : Request → Kind
kind_of (GT k) = Get
kind_of (PK k) = Peek
kind_of (RM k) = Remove
kind_of (IN k v) = Insert
kind_of EV = Evict
kind_of CL = Clear

-- the bytes of the longest record, and the most reply room for each byte of one: EV has 2 bytes, and 36 of room
abbrev pub longest_record : ℕ
longest_record = 18

abbrev pub room_to_byte : ℕ
room_to_byte = 18

-- the reply room of a request, and of all requests of a run
abbrev pub room_of : Request → ℕ
room_of r = (row (kind_of r)).room

unfoldable pub room_for : List Request → ℕ
room_for rs = total room_of rs

-- ---- what stands at an offset

-- a record of a kind, all of whose bytes are there; a mark that no row has; a record cut short; nothing more
pub data Spot : Type 0 where
  at : Kind → Spot
  unknown cut over : Spot

abbrev pub marks : ℕ → ℕ → List ℕ → Bool
marks a b m = eqb a (get_or m 0 0) && eqb b (get_or m 1 0)

-- the first row with the mark
unfoldable pub find : ℕ → ℕ → List Row → Option Row
find a b [] = None
find a b (r ∷ rs) = cond (marks a b r.mark) (Some r) (find a b rs)

abbrev pub within : ℕ → Option Row → Spot
within left None = unknown
within left (Some r) = cond (ltb left r.bytes) cut (at r.kind)

unfoldable pub spot_at : List ℕ → ℕ → Spot
unfolding find table
spot_at s i =
    cond (leb (length s) i) over
    (cond (ltb (length s - i) 2) cut
    (within (length s - i) (find (get_or s i 0) (get_or s (i + 1) 0) table)))

-- the request of a kind whose record starts at an offset
abbrev pub made : List ℕ → ℕ → Kind → Request
made s i Get = GT (le 8 s (i + 2))
made s i Peek = PK (le 8 s (i + 2))
made s i Remove = RM (le 8 s (i + 2))
made s i Insert = IN (le 8 s (i + 2)) (le 8 s (i + 10))
made s i Evict = EV
made s i Clear = CL

-- what stands at an offset, for requests of any type: a request with the offset after it; or why there is none
pub data Reading (A : Type 0) : Type 0 where
  ask : A → ℕ → Reading A
  strange short end : Reading A

abbrev pub reading : List ℕ → ℕ → Spot → Reading Request
reading s i (at k) = ask (made s i k) (i + (row k).bytes)
reading s i unknown = strange
reading s i cut = short
reading s i over = end

unfoldable pub reading_at : List ℕ → ℕ → Reading Request
unfolding spot_at le
reading_at s i = reading s i (spot_at s i)

-- ---- all records

-- how reading ends: all is read; or at the offset of a record whose mark is unknown, or that is cut short
pub data End : Type 0 where
  whole : End
  unknown_at cut_at : ℕ → End

-- the requests up to there
pub record Parsed (A : Type 0) : Type 0 where
  pub requests : List A
  pub end : End

abbrev pub ends : {A : Type 0} → End → Parsed A
ends e = record { requests = []; end = e }

abbrev pub with : {A : Type 0} → A → Parsed A → Parsed A
with r p = record { requests = r ∷ p.requests; end = p.end }

-- what was read at an offset, and what more gives for the offset after it
abbrev pub on_reading : {A : Type 0} → (ℕ → Parsed A) → ℕ → Reading A → Parsed A
on_reading more i (ask r after) = with r (more after)
on_reading more i strange = ends (unknown_at i)
on_reading more i short = ends (cut_at i)
on_reading more i end = ends whole

-- so many records from an offset on, by a reader of one record
unfoldable pub walk : {A : Type 0} → (ℕ → Reading A) → ℕ → ℕ → Parsed A
walk read zero i = ends whole
walk read (suc n) i = on_reading (walk read n) i (read i)

-- each record has bytes, so there are no more records than bytes
unfoldable pub parse_from : List ℕ → ℕ → Parsed Request
unfolding walk reading_at
parse_from s i = walk (reading_at s) (length s) i

unfoldable pub parse : List ℕ → Parsed Request
unfolding parse_from
parse s = parse_from s 0

-- ---- how requests are written

abbrev pub written : Request → List ℕ
written (GT k) = (row Get).mark ++ bytes_of 8 k
written (PK k) = (row Peek).mark ++ bytes_of 8 k
written (RM k) = (row Remove).mark ++ bytes_of 8 k
written (IN k v) = (row Insert).mark ++ bytes_of 8 k ++ bytes_of 8 v
written EV = (row Evict).mark
written CL = (row Clear).mark

unfoldable pub all_written : List Request → List ℕ
unfolding bytes_of
all_written [] = []
all_written (r ∷ rs) = written r ++ all_written rs
