-- `sizing::double_of` meets its contract: which patterns are a NaN's is one comparison, and 0 / 0 is the NaN.
use mathlib.Core.Path.{sym, ◌∙◌, subst}
use mathlib.Core.Bool.{not}
use lib.Dec.{T}
use lib.Ieee.{binary64, of_bits, div}
use lib.Ieee.Bits.{nan_bits_is, nan_bits_above}
use borrow.Author.Tests.{lt-ltb, le-ltb}
use Rattle.sizing.proofs.FloatsLaws.{is-nan}
use Rattle.sizing.proofs.double_of.Goals as goal

pub returns-then-bits-gt9218868437227405312 : goal.returns-then-bits-gt9218868437227405312
unfolding div of_bits
returns-then-bits-gt9218868437227405312 c =
    sym
    (is-nan _ (sym (nan_bits_is binary64 c.args.bits) ∙ nan_bits_above binary64 c.args.bits ∙ lt-ltb _ _ c.if-bits-gt9218868437227405312.true))

pub float_from_bits-result : goal.float_from_bits-result
float_from_bits-result c =
    subst (λ b. T (not b)) (sym (nan_bits_above binary64 c.args.bits ∙ le-ltb _ _ c.if-bits-gt9218868437227405312.false)) tt
