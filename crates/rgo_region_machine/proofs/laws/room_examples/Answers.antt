use Rattle.std.proofs.Common.{◌≡◌, ◌≤◌, ◌∙◌, ap, arith, option_and_then, option_map, refl, sym, suc, zero, ℕ, Some, None}
use Rattle.std.proofs.lemmas.Option.{same_Some}
use Rattle.rgo_machine.specs.declared.limits.Sizes.{Sizes}
use Rattle.rgo_machine.specs.declared.picks.Pick.TheVariants.{One}
use Rattle.rgo_machine.specs.declared.limits.Shortage.TheVariants as shortage
use Rattle.rgo_tac.specs.Tac.{TacState}
use Rattle.rgo_code.specs.Code.{Code}
use Rattle.std.specs.Prelude.{IfSome}
use Rattle.std.proofs.Common.{Option}
use Rattle.rgo_region_machine.specs.Examples.{long_slice, small_sizes, taking_pages}
use Rattle.rgo_region_machine.specs.Machine.{plain_step, region_run}
use Rattle.rgo_region_machine.specs.Objects.{data_pages, most_data_pages, new_object}
use Rattle.rgo_region_machine.specs.Room.{LacksIn}
use Rattle.rgo_region_machine.specs.States.{RegionState}
use Rattle.rgo_region_machine.proofs.laws.room_examples.Goals as goal

two : 2 ≤ 2
two = omega arith

more : 2 ≤ 1 → ⊥
more l = omega (arith, l)

-- the data pages of the object that the first goroutine makes next
abbrev next_pages : Code → (page_words : ℕ) → RegionState → Option ℕ
next_pages code page_words s =
    option_and_then (λ (next : TacState). option_map (data_pages page_words) (new_object s.plain next))
    (plain_step code s.plain (One 0))

-- one goroutine alone has a step, and makes no object that is too large
no_lack : (code : Code) (sizes : Sizes) (s : RegionState) (n : ℕ) → next_pages code sizes.page_words s ≡ Some n → n ≤ most_data_pages sizes.page_words
    → ((g : ℕ) → plain_step code s.plain (One (suc g)) ≡ None) → LacksIn code sizes shortage.ObjectSize s → ⊥
no_lack code sizes s n is l none (suc g, next, step, large) =
    let x : None ≡ Some next = sym (none g) ∙ step in cc
no_lack code sizes s n is l none (zero, next, step, (object, made, large)) =
    let e : n ≡ data_pages sizes.page_words object = same_Some n (data_pages sizes.page_words object) (sym is
    ∙ ap (option_and_then (λ (p : TacState). option_map (data_pages sizes.page_words) (new_object s.plain p))) step
    ∙ ap (option_map (data_pages sizes.page_words)) made) in
    omega (arith, l, large, e)

no_lack_after : (code : Code) (sizes : Sizes) (o : Option RegionState) (n : ℕ)
    → option_and_then (next_pages code sizes.page_words) o ≡ Some n → n ≤ most_data_pages sizes.page_words
    → ((g : ℕ) → option_and_then (λ (s : RegionState). plain_step code s.plain (One (suc g))) o ≡ None)
    → IfSome o (LacksIn code sizes shortage.ObjectSize) → ⊥
no_lack_after code sizes None n is l none lacks = cc
no_lack_after code sizes (Some s) n is l none lacks = no_lack code sizes s n is l none lacks

pub returns : goal.returns
returns c = record {
  one = refl;
  none = refl;
  first_removed = refl;
  both = refl;
  room_for_one = refl;
  room_again = refl;
  room_for_both = refl;
  no_page = refl;
  no_region = refl;
  fits = record { pages = two; regions = two };
  too_many_pages = λ f. more f.pages;
  too_many_regions = λ f. more f.regions;
  enough_for_one = refl;
  enough_for_both = refl;
  enough_before = refl;
  enough_after = refl;
  room_for_spread = refl;
  no_room_for_spread = refl;
  lacks_pages = (0, refl, two);
  lacks_size = (0, _, refl, (_, refl, omega arith));
  has_size =
      no_lack_after (long_slice 224 223 222) (small_sizes 99 1) (region_run (long_slice 224 223 222) 16 (taking_pages 0)) 14 refl
      (omega arith) (λ g. refl);
}
