-- The examples, by computation.
use Rattle.std.proofs.Common.{◌≡◌, ℕ, ◌<◌, ◌≤◌, ◌==◌, Bool, true, false, if◌then◌else◌, [], ◌∷◌, Some, slice_get, refl, ap, sym, ◌∙◌, arith}
use Rattle.std.proofs.lemmas.Bool.Decides.{nat_tests}
use Rattle.rgo_core_memory.specs.Examples.{MemoryExamples, first_alone}
use Rattle.rgo_core_memory.specs.Opening.{first_record}
use Rattle.rgo_core_memory.specs.Records.{Fill, HasRecord, Rec}

apart : (a b : ℕ) → a ≡ b → a < b → ⊥
apart a b e h = omega arith

pub examples : MemoryExamples
examples = record {
  clock = refl;
  made = refl;
  state = refl;
  next = refl;
  count = refl;
  head = refl;
  first = refl;
  cell = refl;
  variable = refl;
  all = refl;
  object = refl;
  wide = refl;
  none = refl;
  one = refl;
  free = refl;
  global = refl;
  no_global = λ s k. apart 0 2 (k.shows.count 1 (omega arith) ∙ k.counts.global) (omega arith);
  no_main = λ w one k. apart 0 1 (k.made ∙ one) (omega arith);
  minus_one = refl;
  truth = refl;
  nil = refl;
  pointer = refl;
  field = refl;
  no_field = refl;
  amount = refl;
  element = refl;
  control = refl;
  capacity = refl;
  buffer = refl;
  chain = (refl, (refl, refl));
  no_chain = λ c. apart 1 2 (sym c.0) (omega arith);
  short_chain = λ c. apart 0 2 (sym c.1) (omega arith);
  claimed = refl;
  claimed_other = refl;
  to_give = refl;
  last_slot = λ slot. record {
    ranged = one_page;
    for_slots = low;
    homes = λ o i object r s l. let e = s.there in cc e;
    claimed = λ g f w. absurd (no_record g w.0 w.1);
    alone = λ g h e f w v q. absurd (no_record g w.0 w.1);
    room = λ g f w. absurd (no_record g w.0 w.1);
    under = λ g o i f object r w s l e. absurd (no_record g w.0 w.1);
    amids = λ g c f object stored h m. absurd (no_record g c h);
    apart = record {
      nobody = λ g o i f object r w. absurd (no_record g w.0 w.1);
      claimed = λ g p c h w. absurd (no_record g c h);
      unowned = λ g i p c f h w. absurd (no_record g c h);
      once = λ g i m n p c d h q a. absurd (no_record g c h);
      empty = λ g o i p c object r h w. absurd (no_record g c h);
      strewn = λ g c object stored h m. absurd (no_record g c h);
    };
  };
  no_slot = λ slot k. apart 2 3 (let l = k.for_slots 0 in omega arith) (omega arith);
  all_of_it = refl;
  long_length = refl;
  first_element = refl;
  last_of_page = refl;
  last_element = refl;
  first_number = refl;
  holds_length = refl;
  holds_number = refl;
  struct_words = refl;
  channel_words = refl;
  reserves = refl;
  reserves_alone = refl;
  gives_all_up = refl;
  owns = (_, refl, (0, refl));
  owns_not = λ f w. nothing f w.0 w.1 w.2;
  drops = refl;
  keeps = refl;
  claims = refl;
  claims_not = λ c. c;
  closes = refl;
  closes_not = λ c. c;
  gives = (refl, refl);
  gives_not = λ g. apart 2 3 g.1 (omega arith);
}
  where
    one_page : (p : ℕ) → 0 < first_alone 2 p → p < 1
    one_page p = by (p == 0) refl
      where
        by : (b : Bool) → (p == 0) ≡ b → 0 < (if b then 2 else 0) → p < 1
        by true e l = grind (arith, nat_tests)
        by false e l = absurd (omega (arith, l))

    low : (p : ℕ) → first_alone 2 p ≤ 2
    low p = by (p == 0)
      where
        by : (b : Bool) → (if b then 2 else 0) ≤ 2
        by true = omega arith
        by false = omega arith

    no_record : (g : ℕ) (c : Rec) → HasRecord [] g c → ⊥
    no_record g c e = cc

    nothing : (f : Fill) (c : Rec) → HasRecord (first_record ∷ []) 0 c → (k : ℕ) × (slice_get c.fills k ≡ Some f) → ⊥
    nothing f c e has = no has.0 (ap (λ (x : Rec). slice_get x.fills has.0) (same e) ∙ has.1)
      where
        same : Some first_record ≡ Some c → first_record ≡ c
        same e = cc

        no : (k : ℕ) → slice_get [] k ≡ Some f → ⊥
        no k e = cc
