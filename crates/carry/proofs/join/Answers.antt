-- `carry::join` meets its contract.
use borrow.Author.Rules.{rules}
use Rattle.carry.proofs.HeadsLaws.{joins-none, joins-whole, joins-unknown, joins-cut, joins-end}
use Rattle.carry.proofs.join.Goals as goal

ruleset laws = (rules, joins-none, joins-whole, joins-unknown, joins-cut, joins-end)

pub returns-then-is_empty : goal.returns-then-is_empty
returns-then-is_empty c = search laws

pub returns-in-Ok : goal.returns-in-Ok
returns-in-Ok c = search laws

pub returns-in-Err-Unknown : goal.returns-in-Err-Unknown
returns-in-Err-Unknown c = search laws

pub returns-in-Err-Cut : goal.returns-in-Err-Cut
returns-in-Err-Cut c = search laws

pub returns-in-Err-Whole : goal.returns-in-Err-Whole
returns-in-Err-Whole c = search laws
