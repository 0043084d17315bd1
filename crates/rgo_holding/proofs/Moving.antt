-- What a goroutine has, as names end and are made, and frames come and go. Entries stay, so only names and the numbers of protections
-- in the environments are to be compared.
use Rattle.std.proofs.Common.{◌≡◌, ◌-◌, ℕ, List, [], ◌∷◌, ◌++◌, None, ap, arith, length, refl, slice_set, subst, sym, ◌∙◌}
use Rattle.rgo_core_memory.specs.Records.{Fill}
use Rattle.rgo_sound.specs.RegionMachine.Regions.{Bindings, unbind}
use Rattle.rgo_sound.specs.RegionMachine.States.{RegionEnvironment, Holder, below, top_names, with_top}
use Rattle.rgo_sound.specs.RegionMachine.declared.regions.Region.{Region}
use Rattle.rgo_holding.specs.declared.frames.Frames.{Frames}
use Rattle.rgo_holding.specs.declared.holding.Holding.{Holding}
use Rattle.rgo_holding.specs.Changes.{EnvironmentsSettle, renamed, top_protections, without_name}
use Rattle.rgo_holding.specs.Holds.{IsHoldingOf, HoldingShows, region_of_key}
use Rattle.rgo_holding.specs.Known.{protections_of}
use Rattle.rgo_holding.specs.Naming.{Changed, NamedFrameReturns, Cuts, SameNames, keys_changed_at, cut}
use Rattle.rgo_holding.specs.Tables.{IsOrdered, Keys, NamesStand, StandFor, key_in, keys_at, named_frames, named_below, newest_keys}
use Rattle.rgo_holding.proofs.CountLemmas.{above_protections, bare_protections, below_protections, renamed_protections}
use Rattle.rgo_holding.proofs.NameLemmas.{change_newest, same_newest, settled, stand_unbound}

-- other frames, in which each region has equally many protections
pub moved : (k : Holding) (f : Frames) (slots : ℕ) (es others : List RegionEnvironment) (base : List Region)
    (pending stakes : List ℕ) (fills : List Fill) → HoldingShows slots k es base pending stakes fills → f.depth ≡ length others
    → IsOrdered f → NamesStand (region_of_key k) (named_frames f) others
    → ((r : Region) → protections_of r others base ≡ protections_of r es base)
    → HoldingShows slots (record k { frames = f }) others base pending stakes fills
moved k f slots es others base pending stakes fills h depth ordered names same = record {
  slots_are = h.slots_are;
  depth = depth;
  ordered = ordered;
  names = names;
  base_is = h.base_is;
  differ = h.differ;
  counted = λ a e at. h.counted a e at ∙ sym (same _);
  pages = h.pages;
  pending_are = h.pending_are;
  staked = h.staked;
}

renamed_length : (es : List RegionEnvironment) (names : Bindings) → length (with_top es names) ≡ length es
renamed_length [] names = refl
renamed_length (e ∷ es) names = refl

-- the newest frame has other names
pub renamed_shows : (k : Holding) (f : Frames) (slots : ℕ) (h : Holder) (fills : List Fill) → IsHoldingOf slots k h fills
    → (change : Keys → Keys) (names : Bindings → Bindings) → Changed k.frames f change → change [] ≡ []
    → ((bs : Bindings) → StandFor (region_of_key k) (newest_keys k.frames) bs
    → StandFor (region_of_key k) (change (newest_keys k.frames)) (names bs))
    → IsHoldingOf slots (record k { frames = f }) (renamed h names) fills
renamed_shows k f slots h fills shows change names changed none stands =
    moved k f slots h.environments (with_top h.environments (names (top_names h.environments))) h.base h.pending h.stakes
    fills shows
    (changed.depth ∙ shows.depth ∙ sym (renamed_length h.environments (names (top_names h.environments)))) changed.ordered
    (go h.environments shows.depth shows.names)
    (λ r. renamed_protections r h.environments (names (top_names h.environments)) h.base)
  where
    go : (es : List RegionEnvironment) → k.frames.depth ≡ length es → NamesStand (region_of_key k) (named_frames k.frames) es
        → NamesStand (region_of_key k) (named_frames f) (with_top es (names (top_names es)))
    go [] d s = changed.named ∙ ap (keys_changed_at k.frames.depth change) s
    go (e ∷ es) d s = subst (λ l. NamesStand (region_of_key k) l (record e { names = names e.names } ∷ es))
        (sym (changed.named ∙ ap (λ n. keys_changed_at n change (named_frames k.frames)) d))
        (change_newest (region_of_key k) (named_frames k.frames) change e es (names e.names) none
        (subst (λ n. StandFor (region_of_key k) (keys_at (named_frames k.frames) n) e.names
        → StandFor (region_of_key k) (change (keys_at (named_frames k.frames) n)) (names e.names)) d (stands e.names)) s)

pub unbind_shows : (k : Holding) (f : Frames) (slots : ℕ) (h : Holder) (fills : List Fill) → IsHoldingOf slots k h fills
    → (name : ℕ) → Changed k.frames f (λ keys. slice_set keys name None)
    → IsHoldingOf slots (record k { frames = f }) (without_name h name) fills
unbind_shows k f slots h fills shows name changed =
    renamed_shows k f slots h fills shows (λ keys. slice_set keys name None) (λ bs. unbind bs name) changed refl
    (λ bs s. stand_unbound (region_of_key k) (newest_keys k.frames) bs name s)

-- ---- returns

pub back_shows : (k : Holding) (f : Frames) (slots : ℕ) (h : Holder) (fills : List Fill) → IsHoldingOf slots k h fills
    → NamedFrameReturns k.frames f → top_protections h.environments ≡ []
    → IsHoldingOf slots (record k { frames = f }) (record h { environments = below h.environments }) fills
back_shows k f slots h fills shows back none =
    moved k f slots h.environments (below h.environments) h.base h.pending h.stakes fills shows
    (back.depth ∙ ap (λ n. n - 1) shows.depth ∙ fewer h.environments) (back.ordered shows.ordered)
    (go h.environments shows.depth shows.names) (λ r. below_protections r h.environments h.base none)
  where
    fewer : (es : List RegionEnvironment) → length es - 1 ≡ length (below es)
    fewer [] = omega arith
    fewer (e ∷ es) = omega arith

    go : (es : List RegionEnvironment) → k.frames.depth ≡ length es → NamesStand (region_of_key k) (named_frames k.frames) es
        → NamesStand (region_of_key k) (named_frames f) (below es)
    go [] d s = back.named shows.ordered ∙ ap (λ l. named_below l k.frames.depth) s
    go (e ∷ es) d s = subst (λ l. NamesStand (region_of_key k) l es)
        (sym (back.named shows.ordered ∙ ap (named_below (named_frames k.frames)) d)) s.1

-- ---- local steps in a row

pub settle_shows : (k : Holding) (f : Frames) (slots : ℕ) (h : Holder) (fills : List Fill) (es : List RegionEnvironment)
    (kept many : ℕ) → IsHoldingOf slots k h fills → Cuts k.frames f kept many → EnvironmentsSettle kept many h.environments es
    → IsHoldingOf slots (record k { frames = f }) (record h { environments = es }) fills
settle_shows k f slots h fills es kept many shows cuts settles =
    moved k f slots h.environments es h.base h.pending h.stakes fills shows (cuts.depth ∙ sym settles.depth_is)
    (cuts.ordered shows.ordered)
    (subst (NamesStand (region_of_key k) (named_frames f)) (sym settles.after_is)
    (subst (λ l. NamesStand (region_of_key k) l (settles.fresh ++ settles.stayed))
    (ap (λ n. cut n (named_frames k.frames)) settles.kept_are ∙ sym (cuts.named shows.ordered))
    (settled (region_of_key k) (named_frames k.frames) settles.above settles.fresh settles.stayed settles.bare
    (subst (NamesStand (region_of_key k) (named_frames k.frames)) settles.before_is shows.names))))
    (λ r. ap (λ l. protections_of r l h.base) settles.after_is
    ∙ bare_protections r settles.fresh settles.stayed h.base settles.bare
    ∙ sym (above_protections r settles.above settles.stayed h.base settles.unguarded)
    ∙ sym (ap (λ l. protections_of r l h.base) settles.before_is))

-- ---- memory

-- no name has changed
pub reserved_shows : (k : Holding) (f : Frames) (slots : ℕ) (h : Holder) (fills : List Fill) → IsHoldingOf slots k h fills
    → (k.frames.depth ≡ 0 → ⊥) → SameNames k.frames f → IsHoldingOf slots (record k { frames = f }) h fills
reserved_shows k f slots h fills shows some same =
    moved k f slots h.environments h.environments h.base h.pending h.stakes fills shows (same.depth ∙ shows.depth)
    same.ordered
    (same_newest (region_of_key k) (named_frames k.frames) (named_frames f) h.environments
    (λ n. ap (λ d. key_in (keys_at (named_frames f) d) n) (sym (same.depth ∙ shows.depth)) ∙ same.keys n
    ∙ ap (λ d. key_in (keys_at (named_frames k.frames) d) n) shows.depth)
    (ap (named_below (named_frames f)) (sym (same.depth ∙ shows.depth)) ∙ same.below ∙ ap (named_below (named_frames k.frames)) shows.depth)
    (omega (arith, some, shows.depth)) shows.names) (λ r. refl)
