-- The law of safety, from its parts. The invariant holds in every state of a run (`runs_are_good`), and most of safety is read off from
-- it at one state. Only the bounds on pages and regions need the run itself: they have invariants of their own.
use Rattle.rgo_sound.proofs.names.Stakes.{all_removed, one_holding_name, stakes_counted}
use Rattle.rgo_sound.proofs.counts.Regions.{regions_always}
use Rattle.rgo_sound.proofs.offers.Offers.{runs_are_good}
use Rattle.rgo_sound.proofs.counts.Pages.{pages_always}
use Rattle.rgo_sound.proofs.pointers.Steps.{pointers_stay}
use Rattle.rgo_sound.specs.Good.{AllGood}
use Rattle.rgo_sound.specs.Safety.{Safety}

pub safety : Safety
safety code page_words events s checked written run =
    record {
      stakes = stakes_counted code s all.good.fine;
      names = one_holding_name code s all.good.fine;
      pointers = pointers_stay code s all.good;
      counts = record {
        pages = pages_always code page_words events s checked written run;
        regions = regions_always code page_words events s checked written run;
        all_removed = all_removed code s all.good.fine;
      };
    }
  where
    all : AllGood code s
    all = runs_are_good code page_words events s checked written run
