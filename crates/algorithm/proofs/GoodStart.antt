-- The run starts in a good state.
--     good_start     every pebble lies on its lowest bench, which it allows
use mathlib.Core.Path.{refl}
use Rattle.day.specs.Day.{Day}
use Rattle.algorithm.specs.Start.{start}
use Rattle.algorithm.specs.SoundDay.{SoundDay}
use Rattle.algorithm.proofs.Moves.{Good}
use Rattle.algorithm.proofs.Peeling.{start-peeled, start-allowed}

pub good_start : (d : Day) → SoundDay d → Good d (start d)
good_start d sound =
    record {
      left_kept = refl;
      one_to_a_job = (start-peeled d sound).place_length;
      pebble_allowed = λ j h p. start-allowed d sound j h;
      others_kept = λ j h p. refl;
    }
