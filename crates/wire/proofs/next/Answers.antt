-- `wire::next` meets its contract: the spot, and the request of its kind.
use borrow.Author.Rules.{rules}
use Rattle.wire.proofs.SpotLaws.{kind-inside, spot_fits, read-request, reads-none}
use Rattle.wire.proofs.next.Goals as goal

ruleset laws = (rules, kind-inside, spot_fits, read-request, reads-none)

pub request_at-requires : goal.request_at-requires
request_at-requires c = search laws

pub overflow_add-result : goal.overflow_add-result
overflow_add-result c = search laws

pub returns : goal.returns
returns c = search laws

pub returns-in_err-row : goal.returns-in_err-row
returns-in_err-row c = search laws
