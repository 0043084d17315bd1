-- The first state has an image: it has no channel, so only the one record is to be compared with the one holder.
use Rattle.std.proofs.Common.{◌≡◌, ℕ, zero, suc, [], ◌∷◌, Some, slice_get, refl, ap, sym, subst, ◌∙◌}
use Rattle.std.proofs.lemmas.Option.{same_Some}
use Rattle.rgo_sound.specs.RegionMachine.Machine.{region_start}
use Rattle.rgo_sound.specs.RegionMachine.States.{Holder, NoOffer}
use Rattle.rgo_core_channels.specs.Channels.{Chan, On, channel}
use Rattle.rgo_core_channels.specs.Opening.{ChannelsOpen}
use Rattle.rgo_core_channels.specs.Records.{HoldsAt, InCell, KnowsOf, Nothing, Nowhere, Offering, Reached, ChannelRec, Shut, Sized, Stranded, Unknown, Unreached, at_rest}
use Rattle.rgo_core_channels.proofs.Steps.{rest_knows}
use Rattle.rgo_core_channels.proofs.Elsewhere.{nothing_there}

-- the only record of the opening
pub only : (j : ℕ) (y : ChannelRec) → slice_get (at_rest ∷ []) j ≡ Some y → at_rest ≡ y
only zero y e = same_Some at_rest y e
only (suc j) y e = absurd (nothing_there j y e)

pub opens : ChannelsOpen
opens code page_words encode place cell words at = record {
  controls = λ o k e. absurd (none o k e);
  capacities = λ o k e. absurd (none o k e);
  cells = λ o i v k e q. absurd (none o k e);
  buffered = λ o k e q. absurd (none o k e);
  unbuffered = λ o k e q. absurd (none o k e);
  small = λ o k e. absurd (none o k e);
  inside = λ o k e. absurd (none o k e);
  cells_inside = λ o i k e h. absurd (none o k e);
  row = λ o i k e w h. absurd (none o k e);
  apart = λ o p i j k l e e' h h'. absurd (none o k e);
  lockers = λ o j k e q. absurd (none o k e);
  locks = λ j a i y e q. absurd (subst (λ (r : ChannelRec). HoldsAt r.hold a i) (sym (only j y e)) q);
  in_cells = λ j a i x y e q. absurd (subst (λ (r : ChannelRec). InCell r.hold a i x) (sym (only j y e)) q);
  sizes = λ j a i y e q. absurd (let z : Unknown ≡ Sized a i = ap (λ (r : ChannelRec). r.size) (only j y e) ∙ q in cc z);
  reaches = λ j a i w y e q. absurd (let z : Unreached ≡ Reached a i w = ap (λ (r : ChannelRec). r.reach) (only j y e) ∙ q in cc z);
  saws = λ j a y e q. absurd (let z : Nothing ≡ Shut a = ap (λ (r : ChannelRec). r.saw) (only j y e) ∙ q in cc z);
  strands = λ j a y e q. absurd (let z : Nothing ≡ Stranded a = ap (λ (r : ChannelRec). r.saw) (only j y e) ∙ q in cc z);
  knows = λ j a y e q. absurd (rest_knows a (subst (λ (r : ChannelRec). KnowsOf r a) (sym (only j y e)) q));
  as_many = refl;
  calm = λ j y h e f q. calm j h f;
  posts = λ j a y e q. absurd (let z : Nowhere ≡ Offering a = ap (λ (r : ChannelRec). r.post) (only j y e) ∙ q in cc z);
  offers = λ o j k e q. absurd (none o k e);
  waits = λ o j k e q. absurd (none o k e);
}
  where
    none : (o : ℕ) (k : Chan) → On (region_start code) o k → ⊥
    none o k e = nothing_there o (channel k) e.0

    calm : (j : ℕ) (h : Holder) → slice_get (region_start code).holders j ≡ Some h → h.offer ≡ NoOffer
    calm zero h e = ap (λ (r : Holder). r.offer) (sym (same_Some _ h e))
    calm (suc j) h e = absurd (nothing_there j h e)
