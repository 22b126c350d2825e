-- What the program writes for what it reads (RULES 9): the verdict on its input, and the verdict as bytes.
-- Assumes nothing.
use Rattle.std.specs.Prelude.{◌≡◌, List, ◌++◌, ℕ, ◌+◌, length, take, drop}
use Rattle.rules.specs.Bytes.{mark, bytes_of}
use Rattle.rules.specs.Sizing.{settings_bytes, settings_of}
use Rattle.rules.specs.State.{State}
use Rattle.rules.specs.Refusals.{most_request_bytes}
use Rattle.rules.specs.Verdict.{Verdict, refused, done, create, call, on_asked}
use Rattle.s3_fifo.specs.Calls.{Said, gave, turned}

-- the record of a refusal: NO, the number in one byte, the detail in 8
abbrev pub no_record : ℕ → ℕ → List ℕ
no_record n d = mark 78 79 ++ bytes_of 1 n ++ bytes_of 8 d

abbrev pub no_bytes : ℕ
no_bytes = 11

-- a verdict as bytes
abbrev pub printed : Verdict State → List ℕ
printed (refused n d) = no_record n d
printed (done σ bs) = bs

-- the output for an input
unfoldable pub output_for : List ℕ → ℕ → List ℕ
unfolding settings_of create call bytes_of
output_for s room = printed (on_asked (settings_of s) (drop settings_bytes s) room)

-- ---- the whole program

-- of its input the program looks at no more: the settings, the longest requests of a call, and one byte, so that more than that shows
abbrev pub most_input : ℕ
most_input = settings_bytes + most_request_bytes + 1

-- and it has so many bytes for replies
abbrev pub reply_room : ℕ
reply_room = 65536

-- what it writes for an input of any length
unfoldable pub written_for : List ℕ → List ℕ
unfolding output_for
written_for s = output_for (take most_input s) reply_room

-- ---- the steps to it

-- what a verdict leaves in the answer and in the bytes for replies: a refusal changes none, otherwise the replies stand in front
abbrev pub ReplyLeaves : Verdict State → Said → List ℕ → List ℕ → Type 0
ReplyLeaves (refused n d) a p p' = (a ≡ turned n d) × (p' ≡ p)
ReplyLeaves (done σ bs) a p p' = (a ≡ gave (length bs)) × (p' ≡ bs ++ drop (length bs) p)

pub record ReplyAs (v : Verdict State) (a : Said) (p p' : List ℕ) : Type 0 where
  pub leaves : ReplyLeaves v a p p'
