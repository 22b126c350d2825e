-- What is compared: bytes with bytes, and an answer with what is written.
-- Assumes nothing.
use Rattle.std.specs.Prelude.{◌≡◌, cond, List, ◌++◌, ℕ, ◌-◌, ◌≤◌, eqb, length, drop, replicate}
use Rattle.rules.specs.Refusals.{store_bytes}
use Rattle.recorded.specs.declared.Told.{Told}
use Rattle.recorded.specs.declared.Step.{Step}

-- what stands in the reply buffer before a call
abbrev pub unwritten : ℕ
unwritten = 165

-- a and b reach to a place, and are the same from there on
pub record SameFrom (a b : List ℕ) (from : ℕ) : Type 0 where
  pub in_a : from ≤ length a
  pub in_b : from ≤ length b
  pub same : drop from a ≡ drop from b

-- out is what is wanted, and untouched behind it
pub record WroteOnly (out wanted : List ℕ) : Type 0 where
  pub is : out ≡ wanted ++ replicate (length out - length wanted) unwritten

-- from where on a call keeps the store: all of it after a refusal, otherwise what stands behind the bytes that a cache needs
abbrev pub bytes_kept_from : Told → ℕ
bytes_kept_from t = cond (eqb t.number 0) store_bytes 0

-- a creation answered the number and kept what it should
pub record CreatedAsWritten (number : ℕ) (t : Told) (before store : List ℕ) : Type 0 where
  pub answer : t.number ≡ number
  pub kept : SameFrom before store (bytes_kept_from t)

-- an answer has the number, the detail and so many bytes
pub record AnsweredAs (number detail count : ℕ) (t : Told) : Type 0 where
  pub number_is : t.number ≡ number
  pub detail_is : t.detail ≡ detail
  pub count_is : t.count ≡ count

-- a call answered as the step says, wrote the output and nothing else, and kept what it should
pub record RanAsWritten (s : Step) (output : List ℕ) (t : Told) (out before store : List ℕ) : Type 0 where
  pub answer : AnsweredAs s.number s.detail (length output) t
  pub replies : WroteOnly out output
  pub kept : SameFrom before store (bytes_kept_from t)

-- the call of a case was accepted, and wrote the output and nothing else
pub record CaseAsWritten (output : List ℕ) (t : Told) (out : List ℕ) : Type 0 where
  pub answer : AnsweredAs 0 0 (length output) t
  pub replies : WroteOnly out output
