-- The theorem behind crates/s3_fifo/specs/Promises.antt.
-- Assumes nothing.
use Rattle.rules.proofs.ReachLaws.{could_reach, reach_could}
use Rattle.s3_fifo.specs.Promises.{Promises}
use Rattle.s3_fifo.proofs.OnceLaws.{created_once, called_once, fed_once, finished_once}
use Rattle.s3_fifo.proofs.WentLaws.{fed_intact, fed_fit}
use Rattle.s3_fifo.proofs.StreamLaws.{cut_anywhere, as_one_call, finish-says}
use Rattle.s3_fifo.proofs.ChainLaws.{created_intact, called_intact, chain_keeps, full_within}

pub promises : Promises
promises =
    record {
      created_once = created_once;
      called_once = called_once;
      fed_once = fed_once;
      finished_once = finished_once;
      created_intact = created_intact;
      called_intact = called_intact;
      fed_intact = fed_intact;
      fed_fit = fed_fit;
      could_reach = could_reach;
      reach_could = reach_could;
      cut_anywhere = cut_anywhere;
      as_one_call = as_one_call;
      finish-says = finish-says;
      chain_keeps = chain_keeps;
      full_within = full_within;
    }
