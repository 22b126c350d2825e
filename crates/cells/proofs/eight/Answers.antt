-- `cells::eight` meets its contract: the sum of the bytes at their worths.
use Rattle.std.proofs.Common.{arith, ◌≡◌, ℕ, ◌+◌, ap}
use lib.ListN.{get_or}
use Rattle.cells.specs.Cells.{le}
use Rattle.cells.proofs.eight.Goals as goal

pub returns : goal.returns
unfolding le
returns c =
    let on : (i k : ℕ) → i ≡ c.args.at + k → get_or c.args.s.now i 0 ≡ get_or c.args.s.now (c.args.at + k) 0 =
    λ i k e. ap (λ (j : ℕ). get_or c.args.s.now j 0) e in
    omega (
      arith,
      on (c.args.at + 1 + 1) 2 (omega arith),
      on (c.args.at + 1 + 1 + 1) 3 (omega arith),
      on (c.args.at + 1 + 1 + 1 + 1) 4 (omega arith),
      on (c.args.at + 1 + 1 + 1 + 1 + 1) 5 (omega arith),
      on (c.args.at + 1 + 1 + 1 + 1 + 1 + 1) 6 (omega arith),
      on (c.args.at + 1 + 1 + 1 + 1 + 1 + 1 + 1) 7 (omega arith),
    )
