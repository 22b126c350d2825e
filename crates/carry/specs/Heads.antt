-- What the bytes kept begin, with a piece behind them: the record that was cut stands in a buffer, and the rest of the piece where it came.
-- Assumes nothing.
use Rattle.std.specs.Prelude.{◌≡◌, List, ◌++◌, ℕ, ◌+◌, ◌-◌, ◌≤◌, ◌<◌, length, take}
use Rattle.rules.specs.Bytes.{longest_record, unknown_at, cut_at, ends, parse_from, parse}
use Rattle.rules.specs.Carry.{most_kept, left_by}
use Rattle.carry.specs.declared.Head.{Head}
use Rattle.carry.specs.declared.Head.TheVariants.{Whole, Cut, Unknown}

-- the first n bytes of the buffer are a whole record, or none; the other requests stand in the piece, from its byte n - length kept on
pub record Completes (kept piece head : List ℕ) (n : ℕ) : Type 0 where
  pub fits : n ≤ length head
  pub begun : length kept ≤ n
  pub within : n - length kept ≤ length piece
  pub requests : (parse (kept ++ piece)).requests ≡ (parse (take n head)).requests ++ (parse_from piece (n - length kept)).requests
  pub left : (o : ℕ) → left_by o (kept ++ piece) (parse (kept ++ piece)).end ≡ left_by (o + length kept) piece (parse_from piece (n - length kept)).end

-- all there is stands in the first n bytes of the buffer, and is a record that is cut
pub record StillCut (kept piece head : List ℕ) (n : ℕ) : Type 0 where
  pub fits : n ≤ length head
  pub few : n ≤ most_kept
  pub all : take n head ≡ kept ++ piece
  pub cut : parse (kept ++ piece) ≡ ends (cut_at 0)

pub record HeadJoins (kept piece head : List ℕ) (r : Head) : Type 0 where
  pub whole : (n : ℕ) → r ≡ Whole n → Completes kept piece head n
  pub cut : (n : ℕ) → r ≡ Cut n → StillCut kept piece head n
  pub unknown : r ≡ Unknown → parse (kept ++ piece) ≡ ends (unknown_at 0)

-- the first n bytes of the buffer are the first of the bytes kept with the piece behind them: as many as there are, and as a record can have
pub record HeadFilled (kept piece head : List ℕ) (n : ℕ) : Type 0 where
  pub long : length head ≡ longest_record
  pub fits : n ≤ longest_record
  pub begun : length kept ≤ n
  pub within : n ≤ length (kept ++ piece)
  pub full : n < longest_record → n ≡ length (kept ++ piece)
  pub bytes : take n head ≡ take n (kept ++ piece)
