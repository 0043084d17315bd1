-- The world after the start of a run shows the state in which a run of the region machine begins: the base of every claim about a
-- recorded run.
use Rattle.std.proofs.Common.{◌≡◌, ℕ, zero, suc, ◌≤◌, List, [], ◌∷◌, map, length, Some, refl, sym, ap, ◌∙◌, subst}
use Rattle.std.proofs.Common.{arith, drop, slice_get}
use Rattle.rgo_code.specs.Code.{Code}
use Rattle.rgo_code.specs.Erasure.{erased}
use Rattle.rgo_machine.specs.declared.limits.Sizes.{Sizes}
use Rattle.rgo_region_machine.specs.declared.regions.Region.TheVariants.{Global as GlobalRegion, Numbered}
use Rattle.rgo_region_machine.specs.Machine.{main_holder, region_start}
use Rattle.rgo_region_machine.specs.Objects.{fill_of}
use Rattle.rgo_region_machine.specs.Owed.{next_duties}
use Rattle.rgo_region_machine.specs.States as spec
use Rattle.rgo_region_machine.specs.States.{environment_of, frames_of}
use Rattle.rgo_sound.proofs.offers.Offers.{all_good_start}
use Rattle.rgo_tac.specs.declared.regions.Class.TheVariants.{NoClass}
use Rattle.rgo_tac.specs.Frames.{TacFrame}
use Rattle.rgo_tac.specs.Tac.{TacState, tac_start}
use Rattle.rgo_region_interpreter.specs.declared.holders.Holder.{Holder}
use Rattle.rgo_region_interpreter.specs.declared.worlds.World.{World}
use Rattle.rgo_region_interpreter.specs.Holders.{HolderBegins, HolderShows, SameBindings, fill_in}
use Rattle.rgo_region_interpreter.specs.Tables.{RegionTableShows}
use Rattle.rgo_region_interpreter.specs.Works.{Between, WorldStarts}
use Rattle.rgo_region_interpreter.specs.Worlds.{OwesNext, Prepared}
use Rattle.rgo_region_interpreter.proofs.holding.Orderly.{orderly_start}

-- the holder of `main`
first_shows : (code : Code) (frames : List TacFrame) (c : Holder) → HolderBegins c [] [] → HolderShows c (main_holder code frames)
first_shows code frames c begins = record {
  names = subst (λ fs. SameBindings fs (environment_of NoClass [] ∷ [])) (sym begins.frames) (λ k. refl, tt);
  protections = λ r. begins.protections r;
  base = ap (map Numbered) begins.base_is;
  fills = λ r i. cc;
  global_fill = begins.fills GlobalRegion;
  reserved = begins.reserved;
  no_offer = refl;
}

module _ (w : World) (c : Holder) (holders : w.holders.items ≡ c ∷ []) (begins : HolderBegins c [] []) where
  abbrev frames : List TacFrame
  frames = frames_of (tac_start (erased w.code.now)) 0

  abbrev first : spec.Holder
  first = main_holder w.code.now frames

  -- there is no other
  is_first : (g : ℕ) (x : Holder) → slice_get w.holders.items g ≡ Some x → c ≡ x
  is_first g x e = go g (sym (ap (λ l. slice_get l g) holders) ∙ e)
    where
      the_same : (x y : Holder) → Some x ≡ Some y → x ≡ y
      the_same x y e = cc

      go : (g : ℕ) → slice_get (c ∷ []) g ≡ Some x → c ≡ x
      go zero e = the_same c x e
      go (suc g) e = cc

  state_first : (g : ℕ) (h : spec.Holder) → slice_get (first ∷ []) g ≡ Some h → first ≡ h
  state_first zero h e = the_same first h e
    where
      the_same : (x y : spec.Holder) → Some x ≡ Some y → x ≡ y
      the_same x y e = cc
  state_first (suc g) h e = cc

  only_one : (g : ℕ) (h : spec.Holder) → slice_get (first ∷ []) g ≡ Some h → g ≡ 0
  only_one zero h e = refl
  only_one (suc g) h e = cc

  both_first : (P : Holder → spec.Holder → Type 0) → P c first → (g : ℕ) (x : Holder) (h : spec.Holder)
      → slice_get w.holders.items g ≡ Some x → slice_get (first ∷ []) g ≡ Some h → P x h
  both_first P p g x h e f =
      subst (λ y. P y h) (is_first g x e) (subst (P c) (state_first g h f) p)

  first_owes : OwesNext w.code.now (region_start w.code.now) 0 c first
  first_owes =
      let d = begins.done in
      record {
        left = sym (ap (λ n. drop n (next_duties w.code.now frames)) d);
        within = omega (arith, d);
        together = λ l. absurd (omega (arith, d, l));
      }

  starts_between : Prepared w → w.state ≡ tac_start (erased w.code.now) → RegionTableShows w.table [] 0 []
      → Between w (region_start w.code.now)
  starts_between prepared state table = record {
    prepared = prepared;
    good = all_good_start w.code.now prepared.checked prepared.ascends;
    orderly = orderly_start w.code.now;
    shown = record {
      goroutines = ap (λ (s : TacState). s.goroutines) state;
      memory = ap (λ (s : TacState). s.memory) state;
      before = [];
      printed = sym (ap (λ (s : TacState). s.printed) state);
      ended = ap (λ (s : TacState). s.ended) state;
      goes_on = refl;
      table = table;
      holders = λ m. record {
        as_many = ap length holders;
        each = both_first HolderShows (first_shows w.code.now frames c begins);
        unmade = both_first
            (λ x h. (r : ℕ) → 0 ≤ r → fill_in x (Numbered r) ≡ fill_of h.fills (Numbered r))
            (λ r l. begins.fills (Numbered r));
      };
    };
    running = refl;
    owes = λ g x h e f.
        subst (λ n. OwesNext w.code.now (region_start w.code.now) n x h) (sym (only_one g h f))
        (both_first (OwesNext w.code.now (region_start w.code.now) 0) first_owes g x h e f);
  }

-- the world after the start of a run of this code
pub starts : (code : Code) (sizes : Sizes) (w : World) (c : Holder) → w.code.now ≡ code → w.sizes ≡ sizes
    → w.holders.items ≡ c ∷ [] → HolderBegins c [] [] → Prepared w → w.state ≡ tac_start (erased w.code.now)
    → RegionTableShows w.table [] 0 [] → WorldStarts code sizes w
starts code sizes w c code_is sizes_are holders begins prepared state table = record {
  code_is = code_is;
  sizes_are = sizes_are;
  print = ap (λ (s : TacState). s.printed) state;
  between = subst (λ k. Between w (region_start k)) code_is
      (starts_between w c holders begins prepared state table);
}
