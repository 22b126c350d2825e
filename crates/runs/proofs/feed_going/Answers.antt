-- `runs::feed_going` meets its contract.
use borrow.Author.Rules.{rules}
use Rattle.runs.proofs.PieceLaws.{brings_long, brings_few, kept_few, kept-waits, cut-part, going_cut, going_unknown}
use Rattle.runs.proofs.PieceLaws.{whole_part, whole-begun, going_whole}
use Rattle.runs.proofs.feed_going.Goals as goal

pub kept-requires : goal.kept-requires
kept-requires c = (search brings_long, search brings_few)

pub join-requires : goal.join-requires
join-requires c = (search kept_few, search kept-waits, search rules)

pub slice_bounds-put-end : goal.slice_bounds-put-end
slice_bounds-put-end c = search cut-part

pub slice_bounds-feed_whole-end : goal.slice_bounds-feed_whole-end
slice_bounds-feed_whole-end c = search whole_part

pub overflow_sub-n : goal.overflow_sub-n
overflow_sub-n c = search whole-begun

pub returns-in-Cut : goal.returns-in-Cut
returns-in-Cut c = search going_cut

pub returns-in-Unknown : goal.returns-in-Unknown
returns-in-Unknown c = search going_unknown

pub returns-in-Whole : goal.returns-in-Whole
returns-in-Whole c = search going_whole
