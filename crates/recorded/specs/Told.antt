-- An answer as the recorded files have it.
-- Assumes nothing.
use Rattle.rules.specs.declared.Turned.TheVariants.{BadRecord}
use Rattle.rules.specs.Refusals.{number_of}
use Rattle.s3_fifo.specs.Calls.{Said, gave, halted, turned}
use Rattle.recorded.specs.declared.Told.{Told}

-- number 0 and the reply bytes; or a refusal's number and its detail, with the reply bytes where a stream stops
abbrev pub told_of : Said → Told
told_of (gave n) = record { number = 0; detail = 0; count = n }
told_of (halted n d) = record { number = number_of (BadRecord d); detail = d; count = n }
told_of (turned n d) = record { number = n; detail = d; count = 0 }
