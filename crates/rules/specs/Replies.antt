-- Which replies belong to which request, told from the reply bytes (RULES 6.3): to each request at most one pair that was pushed out, then one closing reply.
-- Assumes nothing.
use Rattle.std.specs.Prelude.{◌≡◌, Bool, true, false, List, [], ◌∷◌, map, ℕ, ◌<◌}
use Rattle.cells.specs.Members.{Every}
use Rattle.rules.specs.State.{words}
use Rattle.rules.specs.Records.{Request, Reply, MI, OK, HI, RE, NW, GO, EX, ES, EM}
use Rattle.rules.specs.Bytes.{encode_all}
use Rattle.rules.specs.Ledger.{Answered, replies_of}

-- whether a reply tells of a pair that eviction pushed out; every other one closes what is said to a request
abbrev pub of_pushed : Reply → Bool
of_pushed MI = false
of_pushed OK = false
of_pushed (HI v) = false
of_pushed (RE v) = false
of_pushed (NW n) = false
of_pushed (GO v) = false
of_pushed (EX k v) = false
of_pushed (ES k v) = true
of_pushed (EM k v) = true

-- what is said to one request
pub data OneAnswer : List Reply → Type 0 where
  closing : {r : Reply} → of_pushed r ≡ false → OneAnswer (r ∷ [])
  pushed : {p r : Reply} → of_pushed p ≡ true → of_pushed r ≡ false → OneAnswer (p ∷ r ∷ [])

-- its numbers have 64 bits
abbrev pub NarrowReply : Reply → Type 0
NarrowReply MI = Unit {0}
NarrowReply OK = Unit {0}
NarrowReply (HI v) = v < words
NarrowReply (RE v) = v < words
NarrowReply (NW n) = n < words
NarrowReply (GO v) = v < words
NarrowReply (EX k v) = (k < words) × (v < words)
NarrowReply (ES k v) = (k < words) × (v < words)
NarrowReply (EM k v) = (k < words) × (v < words)

-- answered as a request is
abbrev pub Formed : Answered → Type 0
Formed a = OneAnswer a.replies × Every NarrowReply a.replies

-- h is a reading of the bytes bs as the answers to the requests rs; there is one at most (`reading-once`)
pub record ReadAs (rs : List Request) (bs : List ℕ) (h : List Answered) : Type 0 where
  pub asked : map (λ a. a.request) h ≡ rs
  pub formed : Every Formed h
  pub told : encode_all (replies_of h) ≡ bs
