-- States of runs are sound, from the laws of region safety.
use Rattle.std.proofs.Common.{◌≡◌, ℕ, Some}
use Rattle.rgo_sound.specs.Code.Code.{Code}
use Rattle.rgo_sound.specs.RegionMachine.Machine.{Event, region_step}
use Rattle.rgo_sound.specs.RegionMachine.States.{RegionState}
use Rattle.rgo_sound.proofs.plain.Steps.{yields_is}
use Rattle.rgo_sound.proofs.offers.Offers.{all_good_start, all_good_step}
use Rattle.rgo_sound.proofs.pointers.Owners.{owners_stay_made}
use Rattle.rgo_sound.proofs.plain.Running.{runs_on}
use Rattle.rgo_core_frames.specs.States.{IsSound, SoundStays}

pub next_sound : (code : Code) (page_words : ℕ) (s t : RegionState) (event : Event) → IsSound code s
    → region_step code page_words s event ≡ Some t → IsSound code t
next_sound code page_words s t event x e = record {
  checked = x.checked;
  written = x.written;
  good = yields_is (region_step code page_words s event) t
      (all_good_step code page_words s event x.checked x.written x.good) e;
  running = runs_on.step code page_words s t event x.running e;
  made = owners_stay_made.step code page_words s t event x.good x.made e;
}

pub sound_stays : SoundStays
sound_stays = record {
  start = λ code checked written. record {
    checked = checked;
    written = written;
    good = all_good_start code checked written;
    running = runs_on.start code;
    made = owners_stay_made.start code;
  };
  step = next_sound;
}
