-- One region changes: which regions are live, what counts mean, and how many pages were taken.
use Rattle.std.proofs.Common.{◌≡◌, ◌≢◌, ℕ, suc, ◌<◌, true, List, Some, slice_get, option_map, refl, ap, sym, subst, ◌∙◌, arith}
use mathlib.Core.Logic.{dite}
use native.Mathlib.Decide.{ℕ_discrete}
use Rattle.rgo_sound.specs.Memory.Memory.{Object}
use Rattle.rgo_sound.specs.RegionMachine.Regions.{RegionInfo, has_stakes, is_live, with_info}
use Rattle.rgo_sound.specs.RegionMachine.declared.regions.Region.{Region}
use Rattle.rgo_sound.specs.RegionMachine.declared.regions.Region.TheVariants.{Global as GlobalRegion, Numbered}
use Rattle.rgo_sound.proofs.duties.Attends.{with_info_same, with_info_other}
use Rattle.rgo_sound.proofs.Tests.{ne_of}
use Rattle.rgo_core_memory.specs.declared.layout.TableSizes.{TableSizes}
use Rattle.rgo_core_memory.specs.Records.{Rec}
use Rattle.rgo_core_memory.specs.Ground.{IsLiveObject}
use Rattle.rgo_core_memory.specs.Parts.{Use, Vacant, Living, Closing, SlotCounts}

pub info_here : (regions : List RegionInfo) (k : ℕ) (change : RegionInfo → RegionInfo) (info : RegionInfo) → slice_get regions k ≡ Some info
    → slice_get (with_info regions k change) k ≡ Some (change info)
info_here regions k change info e = with_info_same regions k change ∙ ap (option_map change) e

pub info_else : (regions : List RegionInfo) (k j : ℕ) (change : RegionInfo → RegionInfo) → j ≢ k
    → slice_get (with_info regions k change) j ≡ slice_get regions j
info_else regions k j change n = with_info_other regions k j change (ne_of k j (λ e. n (sym e)))

-- what is live after a change of a live region was live before
pub info_fewer : (regions : List RegionInfo) (k : ℕ) (change : RegionInfo → RegionInfo) → is_live regions (Numbered k) ≡ true
    → (r : Region) → is_live (with_info regions k change) r ≡ true → is_live regions r ≡ true
info_fewer regions k change live GlobalRegion e = refl
info_fewer regions k change live (Numbered j) e = dite (ℕ_discrete j k)
    (λ s. ap (λ (n : ℕ). is_live regions (Numbered n)) s ∙ live)
    (λ n. sym (ap has_stakes (info_else regions k j change n)) ∙ e)

pub stands_fewer : (heap : List Object) (owners : List Region) (regions infos : List RegionInfo)
    → ((r : Region) → is_live infos r ≡ true → is_live regions r ≡ true)
    → (o : ℕ) (object : Object) (r : Region) → IsLiveObject heap owners infos o object r → IsLiveObject heap owners regions o object r
stands_fewer heap owners regions infos fewer o object r s = record { there = s.there; owner = s.owner; live = fewer r s.live }

-- a live region changes and stays live, and its count changes with it
pub counts_change : (z : TableSizes) (counts more top : ℕ → ℕ) (recs : List Rec) (regions : List RegionInfo) (slot : ℕ → ℕ) (uses : ℕ → Use)
    (k : ℕ) (change : RegionInfo → RegionInfo) (info : RegionInfo) → SlotCounts z counts top recs regions slot uses → slice_get regions k ≡ Some info
    → 0 < info.stakes
    → 0 < (change info).stakes → more (slot k) ≡ suc (change info).stakes → ((s : ℕ) → s ≢ slot k → more s ≡ counts s)
    → SlotCounts z more top recs (with_info regions k change) slot uses
counts_change z counts more top recs regions slot uses k change info c there lives still now others =
    let at = c.lives k info there lives in
    let away : (s : ℕ) (u : Use) → uses s ≡ u → Living k ≢ u → s ≢ slot k = λ s u e n q. n (sym at.1 ∙ (ap uses (sym q) ∙ e)) in
    record {
      global = others z.slots (λ e. let l = at.0 in omega arith) ∙ c.global;
      vacant = λ s l e. let t = c.vacant s l e in (others s (away s Vacant e (λ y. cc y)) ∙ t.0, t.1);
      living = λ s j l e. let t = c.living s j l e in dite (ℕ_discrete j k)
          (λ y. (
            t.0,
            change info,
            ap (slice_get (with_info regions k change)) y ∙ info_here regions k change info there,
            still,
            ap more (sym t.0 ∙ ap slot y) ∙ now,
          ))
          (λ n. (t.0, t.1, info_else regions k j change n ∙ t.2, t.3, others s (away s (Living j) e (λ y. n (let v : k ≡ j = cc y in sym v))) ∙ t.4));
      closing = λ s j l e. let t = c.closing s j l e in (others s (away s (Closing j) e (λ y. cc y)) ∙ t.0, t.1, t.2, t.3);
      lives = λ j other e q. dite (ℕ_discrete j k)
          (λ y. (subst (λ (n : ℕ). slot n < z.slots) (sym y) at.0, subst (λ (n : ℕ). uses (slot n) ≡ Living n) (sym y) at.1))
          (λ n. c.lives j other (sym (info_else regions k j change n) ∙ e) q);
      closes = c.closes;
    }
