-- What the contracts leave open of an answer: nothing. Two answers that stand for the same are the same.
-- Assumes nothing.
use mathlib.Core.Path.{◌≡◌, refl, sym, ap, ◌∙◌}
use Rattle.std.specs.Prelude.{Result, Ok, Err}
use Rattle.rules.specs.Sizing as rules
use Rattle.rules.proofs.RefusalsLaws.{turned_away_by, turned-back}
use Rattle.rules.specs.declared.Turned.{Turned}
use Rattle.sizing.specs.declared.Limits.{Limits}
use Rattle.sizing.specs.Answers.{sized_of}

-- the answer that stands for a thing of the rules
abbrev back_sized : rules.Sized → Result Limits Turned
back_sized (rules.limits l) = Ok (record { capacity = l.capacity; small_limit = l.small_limit; ghost_limit = l.ghost_limit })
back_sized (rules.refused n d) = Err (turned_away_by n d)

back-sized : (a : Result Limits Turned) → back_sized (sized_of a) ≡ a
back-sized (Ok l) = refl
back-sized (Err t) = ap Err (turned-back t)

pub answer-one : (a b : Result Limits Turned) → sized_of a ≡ sized_of b → a ≡ b
answer-one a b h = sym (back-sized a) ∙ ap back_sized h ∙ back-sized b
