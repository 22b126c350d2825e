-- `sizing::read_settings` meets its contract: the length, the two bytes of the mark, and then the three numbers.
use borrow.Author.Rules.{rules}
use Rattle.sizing.proofs.RecordLaws.{short, other-first, other-second, whole}
use Rattle.sizing.proofs.read_settings.Goals as goal
use Rattle.sizing.proofs.read_settings.Goals.{then-s-lt-SETTINGS_BYTES-via-then-s-lt-SETTINGS_BYTES}
use Rattle.sizing.proofs.read_settings.Goals.{then-s-lt-SETTINGS_BYTES-via-else-s-lt-SETTINGS_BYTES+then-s}
use Rattle.sizing.proofs.read_settings.Goals.{then-s-lt-SETTINGS_BYTES-via-else-s-lt-SETTINGS_BYTES+else-s+then-s-2}

ruleset laws = (rules, short, other-first, other-second, whole)

pub returns-then-s-lt-SETTINGS_BYTES : goal.returns-then-s-lt-SETTINGS_BYTES
returns-then-s-lt-SETTINGS_BYTES c = elim c.then-s-lt-SETTINGS_BYTES.branch [
  | then-s-lt-SETTINGS_BYTES-via-then-s-lt-SETTINGS_BYTES w ↦ search laws
  | then-s-lt-SETTINGS_BYTES-via-else-s-lt-SETTINGS_BYTES+then-s w ↦ search laws
  | then-s-lt-SETTINGS_BYTES-via-else-s-lt-SETTINGS_BYTES+else-s+then-s-2 w ↦ search laws
]

pub returns : goal.returns
returns c = search laws
