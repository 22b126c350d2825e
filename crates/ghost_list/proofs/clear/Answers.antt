-- `ghost_list::clear` meets its contract.
use borrow.Author.Rules.{rules}
use Rattle.ghost_list.proofs.GhostLaws.{ghosts_left, clearing_start, clearing_next, clearing_less, clearing_end}
use Rattle.ghost_list.proofs.clear.Goals as goal

ruleset laws = (rules, ghosts_left, clearing_start, clearing_next, clearing_less, clearing_end)

pub loop-z-smaller : goal.loop-z-smaller
loop-z-smaller c = search laws
