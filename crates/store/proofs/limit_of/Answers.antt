-- `store::limit_of` meets its contract.
use mathlib.Core.Path.{◌≡◌, refl}
use denote.Enum.Declared.{tag_of}
use Rattle.store.specs.contracts.Limit.{the_type}
use Rattle.store.specs.declared.Limit.{Limit}
use Rattle.store.specs.declared.Limit.TheVariants.{Capacity, Small, Ghosts}
use Rattle.store.specs.Seats.{limit_no}
use Rattle.store.proofs.KeepsLaws.{limit-is}
use Rattle.store.proofs.limit_of.Goals as goal

-- the number of a variant is that of its cell
numbered : (which : Limit) → tag_of the_type which ≡ limit_no which
numbered Capacity = refl
numbered Small = refl
numbered Ghosts = refl

pub returns : goal.returns
returns c = limit-is c.args.which (numbered c.args.which) c.get64.ensures.gets_field
