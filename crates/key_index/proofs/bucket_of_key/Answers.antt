-- `key_index::bucket_of_key` meets its contract.
use mathlib.Core.Path.{refl}
use Rattle.key_index.specs.Index.{bucket_of}
use Rattle.key_index.proofs.IndexLaws.{bucket-below}
use Rattle.key_index.proofs.bucket_of_key.Goals as goal

pub returns : goal.returns
unfolding bucket_of
returns c = (refl, bucket-below c.args.k c.args.buckets c.requires.0)
