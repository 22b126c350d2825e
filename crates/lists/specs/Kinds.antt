-- The lists' numbers.
-- Assumes nothing.
use Rattle.std.specs.Prelude.{ℕ}
use Rattle.lists.specs.declared.ListKind.{ListKind}
use Rattle.lists.specs.declared.ListKind.TheVariants.{Free, Small, Main, Ghosts}

-- a list's number
abbrev pub number : ListKind → ℕ
number Free = 0
number Small = 1
number Main = 2
number Ghosts = 3
