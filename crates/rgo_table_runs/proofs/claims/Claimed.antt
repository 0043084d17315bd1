-- The run that explains a table, as the claim on the whole program states it: a repacking of what the closing laws give.
use Rattle.std.proofs.Common.{refl, subst}
use Rattle.std.specs.Prelude.{◌≡◌, List, Some}
use Rattle.rgo_sound.specs.RegionMachine.Machine.{Event}
use Rattle.rgo_sound.specs.RegionMachine.Room.{roomy_run}
use Rattle.rgo_sound.proofs.offers.Offers.{names_only_live}
use Rattle.rgo_sound.proofs.counts.Room.{room_is_kept}
use Rattle.rgo_sound.proofs.Safe.{safety}
use Rattle.rgo_table_runs.specs.claims.Laws.{GivesClaim, RunsAsCode}
use Rattle.rgo_sound.specs.Erasure.{picks_of}

pub runs_as_code : RunsAsCode
runs_as_code code sizes limits end tally old new t = (
  record {
    picks = picks_of code sizes t.events;
    tested = t.tested;
    state = t.plain;
    ran = t.ran;
    early = t.early;
    ends = t.ends;
    gives = t.gives;
  },
  refl,
  refl,
)

pub gives_claim : GivesClaim
unfolding runs_as_code
gives_claim code sizes limits end tally old new checked ascends t = record {
  runs = (runs_as_code code sizes limits end tally old new t).0;
  regions = record {
    events = t.events;
    late = t.late;
    state = t.state;
    last = t.last;
    run = t.run;
    more = t.more;
    is = t.is;
    printed = t.printed;
    safe = λ before after s is leads. (
      safety code sizes.page_words before s checked ascends leads,
      λ g h r at names. names_only_live code sizes.page_words before s g h r checked ascends leads at names,
    );
    within = λ before after s is leads. room_is_kept.fits code sizes before after s t.last
        (subst (λ (l : List Event). roomy_run code sizes l ≡ Some t.last) is t.room) leads;
    lacks = t.lacks;
  };
  same = refl;
  made = t.made;
}
