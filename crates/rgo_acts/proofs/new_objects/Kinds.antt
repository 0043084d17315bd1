-- Which object the next instruction makes: a struct, a slice or a channel. They differ in how many words precede the cells and in which
-- word is not 0; everything else about new objects is proved once.
use Rattle.std.proofs.Common.{◌≡◌, ◌⊎◌, ◌+◌, ◌-◌, ◌/◌, ◌<◌, ◌≤◌, ◌∙◌, ◌^◌, ◌==◌, ℕ, Bool, true, false, suc, List, [], ◌∷◌, Option, Some, None, ap, sym, subst, refl, inl, inr, arith, if◌then◌else◌, length, slice_get}
use Rattle.std.proofs.Math.Nat.{lt-div-mul-add, mul-le-mul_right}
use Rattle.std.proofs.lemmas.Bool.{cases_lt}
use Rattle.std.proofs.lemmas.Option.{same_Some}
use Rattle.std.specs.Option.{option_map}
use Rattle.rgo_core.specs.Rule.Views.{number_of}
use Rattle.rgo_core_facts.specs.MemoryObjects.{HasWords, MakingRegion, NewObject, OfChannel, OfSlice, OfStruct, all_struct_words, channel_words, data_pages_of}
use Rattle.rgo_core_facts.proofs.DataPages.{less, not_less}
use Rattle.rgo_core_facts.proofs.NewWords.{has_region, makes_channel, makes_slice, makes_struct}
use Rattle.rgo_core_facts.proofs.TooLarge.{too_large}
use Rattle.rgo_core.specs.Frames.shown.WordFrames.{frame_word}
use Rattle.rgo_core.specs.Core.{Setup, layout}
use Rattle.rgo_core.specs.moves.NewObjects.{slot_number}
use Rattle.rgo_core.specs.Next.{IsAtOp}
use Rattle.rgo_core.specs.Records.{Record}
use Rattle.rgo_core_steps.specs.Ends.{HasBadSize, Meets}
use Rattle.rgo_sound.specs.Code.Code as code
use Rattle.rgo_sound.specs.Memory.declared.traps.Trap.TheVariants.{BadSize}
use Rattle.rgo_sound.specs.RegionMachine.Objects.{makes_object, most_data_pages}
use Rattle.rgo_sound.specs.RegionMachine.declared.limits.Limit.TheVariants.{ObjectSize}
use Rattle.rgo_sound.specs.RegionMachine.declared.regions.Region.{Region}
use Rattle.rgo_sound.specs.RegionMachine.declared.regions.Region.TheVariants.{Global as GlobalRegion, Numbered}
use Rattle.rgo_sound.specs.Tac.Code as tac
use Rattle.rgo_sound.specs.Tac.Ops.{operation_of}
use Rattle.rgo_sound.specs.Typed.declared.actions.Action.{Action}
use Rattle.rgo_sound.specs.Typed.declared.actions.Action.TheVariants as action
use Rattle.rgo_sound.specs.Typed.declared.programs.Struct.{Struct}
use Rattle.rgo_holding.specs.Holds.{region_of_key}
use Rattle.rgo_holding.specs.Known.{slot_or_global}
use Rattle.rgo_holding.specs.declared.holding.Holding.{Holding}
use Rattle.rgo_holding.specs.declared.keys.Key.{Key}
use Rattle.rgo_body.specs.declared.nexts.Next.{Next}
use Rattle.rgo_acts.specs.Actors.{now}
use Rattle.rgo_acts.specs.Objects.{IsSmall, Wants, opens}
use Rattle.rgo_acts.specs.Ready.{ActorIsBefore}
use Rattle.rgo_acts.specs.Runs.{Run}
use Rattle.rgo_acts.specs.Traps.{IsAtTrap}
use Rattle.rgo_acts.specs.declared.actors.Actor.{Actor}
use Rattle.rgo_acts.proofs.before.Instructions.{IsWord, at_do, here_do, its_word, rests}
use Rattle.rgo_acts.proofs.computing.Computes.{shaped}
use Rattle.rgo_acts.proofs.Standing.{acted_none}

-- ---- keys

pub key_at : (k : Holding) (o : Option Key) (key : Key) (found : Option Region) (region : Region) → o ≡ Some key
    → option_map (region_of_key k) o ≡ option_map Some found → found ≡ Some region → region_of_key k key ≡ Some region
key_at k o key found region is tells found_is =
    same_Some (region_of_key k key) (Some region)
    (ap (option_map (region_of_key k)) (sym is) ∙ tells ∙ ap (option_map Some) found_is)

pub no_key : (k : Holding) (o : Option Key) (found : Option Region) (region : Region) → o ≡ None
    → option_map (region_of_key k) o ≡ option_map Some found → found ≡ Some region → ⊥
no_key k o found region is tells found_is =
    let no : None ≡ Some (Some region) = ap (option_map (region_of_key k)) (sym is) ∙ tells ∙ ap (option_map Some) found_is in cc

pub slot_same : (T : Setup) (region : Region) → slot_number (layout T) region ≡ slot_or_global T.sizes.regions region
slot_same T GlobalRegion = refl
slot_same T (Numbered p) = refl

-- ---- data pages

-- an object that fits a page has none
pub none_apart : (n words before : ℕ) → words ≤ n → data_pages_of n words before ≡ 0
none_apart n words before fits =
    ap (λ (b : Bool). if b then (words - before - 1) / n + 1 else 0) (not_less n words fits)

-- the data pages of one that does not
pub some_apart : (n words before : ℕ) → n < words → data_pages_of n words before ≡ (words - before - 1) / n + 1
some_apart n words before more = ap (λ (b : Bool). if b then (words - before - 1) / n + 1 else 0) (less n words more)

-- a channel that is not too large has few cells, where pages are small
module _ (n page_words words : ℕ) (many : words ≡ channel_words n) (small : page_words ≤ 16777215)
    (few : data_pages_of page_words words 2 ≤ most_data_pages page_words) where
  in_pages : page_words < words → (0 < page_words) ⊎ (page_words ≤ 0) → n < 1073741820
  in_pages more (inl some) =
      let pages : (words - 2 - 1) / page_words + 1 ≤ 64 =
      let k = subst (λ k. k ≤ most_data_pages page_words) (some_apart page_words words 2 more) few in omega (arith, k) in
      let mul = mul-le-mul_right page_words pages in
      let rest = lt-div-mul-add {a = words - 2 - 1} {b = page_words} some in
      omega (arith, mul, rest, many, small)
  in_pages more (inr none) =
      let k = subst (λ k. k ≤ most_data_pages page_words) (some_apart page_words words 2 more) few in omega (arith, k, none)

  in_channel : (page_words < words) ⊎ (words ≤ page_words) → n < 1073741820
  in_channel (inl more) = in_pages more (cases_lt 0 page_words)
  in_channel (inr fits) = omega (arith, fits, many, small)

  few_in_channel : n < 1073741820
  few_in_channel = in_channel (cases_lt page_words words)

-- ---- words

zero_both : (b : Bool) → ◌≡◌ {A = ℕ} 0 (if b then 0 else 0)
zero_both true = refl
zero_both false = refl

pub some_words : (o : Option Struct) → 0 < all_struct_words o
some_words None = omega arith
some_words (Some made) = omega arith

-- the same object, by equal numbers of words and equal first values
same_object : (T : Setup) (c : Record) (slot other words count before : ℕ) (first start : ℕ → ℕ) → slot ≡ other → words ≡ count
    → ((i : ℕ) → first i ≡ start i) → NewObject T c slot words before first → NewObject T c other count before start
same_object T c slot other words count before first start same many starts new =
    subst (λ n. NewObject T c n count before start) same (record {
      object = new.object;
      next = new.next;
      many = new.many ∙ many;
      split = λ more. new.split (omega (arith, more, many)) ∙ many;
      opens = λ i low. new.opens i (omega (arith, low, many)) ∙ starts i;
    })

module _ (r : Run) (a : Actor) (next : Next) (before : ActorIsBefore r a next) (to : ℕ) (act : Action) (from : List ℕ)
    (e : operation_of next.op ≡ tac.Do (Some to) act from) (makes : makes_object act ≡ true) where
  abbrev T : Setup
  T = r.setup

  abbrev c : Record
  c = now T a

  abbrev removes : List ℕ
  removes = (here_do r a next before (Some to) act from e).0

  abbrev pub at : IsAtOp T.code c (code.Do (Some to) act from removes)
  at = at_do r a next before (Some to) act from e

  its : (d : ℕ) × (Some to ≡ Some d) × MakingRegion T c at d
  its = has_region T (number_of a.seat.me) c before.stands.possible (Some to) act from removes at makes

  making : MakingRegion T c at to
  making = subst (MakingRegion T c at) (sym (same_Some to its.0 its.1)) its.2

  -- what it wants, by its words
  wants : (words lead place value : ℕ) → 0 < words → lead ≤ 2
      → (IsSmall T words lead → NewObject T c (slot_number (layout T) making.region) words lead (opens place value))
      → HasWords T.code at.w act from words lead → Wants T (number_of a.seat.me) c next.function to words lead place value
  wants words lead place value some few fits has = record {
    region = making.region;
    in_class = making.in_class;
    low = let low = making.low in let same = slot_same T making.region in omega (arith, low, same);
    some = some;
    few = few;
    fits = λ fit. subst (λ n. NewObject T c n words lead (opens place value)) (slot_same T making.region) (fits fit);
    large = λ more. Meets ObjectSize
        (λ x. too_large T (number_of a.seat.me) c x (Some to) act from removes at words lead has more) refl;
  }

no_elements : (ns : List ℕ) → length ns ≡ 0 → ns ≡ []
no_elements [] e = refl
no_elements (n ∷ ns) e = absurd (omega (arith, e))

module _ (r : Run) (a : Actor) (next : Next) (before : ActorIsBefore r a next) (to : ℕ) where
  -- an action that makes a struct reads nothing
  pub no_operands : (n : ℕ) (from : List ℕ) → operation_of next.op ≡ tac.Do (Some to) (action.New n) from
      → operation_of next.op ≡ tac.Do (Some to) (action.New n) []
  no_operands n from e =
      subst (λ vs. operation_of next.op ≡ tac.Do (Some to) (action.New n) vs)
      (no_elements from (shaped r a next before (action.New n) from (Some to, e)).operands) e

  pub wants_struct : (n words : ℕ) (e : operation_of next.op ≡ tac.Do (Some to) (action.New n) [])
      → words ≡ all_struct_words (slice_get r.setup.code.structs n)
      → Wants r.setup (number_of a.seat.me) (now r.setup a) next.function to words 0 0 0
  wants_struct n words e many =
      let x = at r a next before to (action.New n) [] e refl in
      let m = making r a next before to (action.New n) [] e refl in
      let made = makes_struct r.setup (number_of a.seat.me) (now r.setup a) before.stands.possible (Some to) n []
      (removes r a next before to (action.New n) [] e refl) x m.region m.makes in
      let some = some_words (slice_get r.setup.code.structs n) in
      wants r a next before to (action.New n) [] e refl words 0 0 0 (omega (arith, some, many)) (omega arith)
      (λ fit. same_object r.setup (now r.setup a) _ _ _ words 0 _ (opens 0 0) refl (sym many) (λ i. zero_both (i == 0)) made)
      (OfStruct n refl many refl)

  module _ (size n : ℕ) (word : IsWord a.body size n) where
    pub wants_slice : (e : operation_of next.op ≡ tac.Do (Some to) action.Slice (size ∷ [])) → n < 2 ^ 63
        → Wants r.setup (number_of a.seat.me) (now r.setup a) next.function to (n + 1) 1 0 n
    wants_slice e low =
        let x = at r a next before to action.Slice (size ∷ []) e refl in
        let m = making r a next before to action.Slice (size ∷ []) e refl in
        let is : n ≡ frame_word x.w size = its_word r a next before size n word in
        let small : frame_word x.w size < 2 ^ 63 = subst (λ k. k < 2 ^ 63) is low in
        let many : suc (frame_word x.w size) ≡ n + 1 = omega (arith, is) in
        let made = makes_slice r.setup (now r.setup a) (Some to) size (removes r a next before to action.Slice (size ∷ []) e refl) x
        m.region m.makes small in
        wants r a next before to action.Slice (size ∷ []) e refl (n + 1) 1 0 n (omega arith) (omega arith)
        (λ fit. same_object r.setup (now r.setup a) _ _ _ (n + 1) 1 _ (opens 0 n) refl many
        (λ i. ap (λ k. opens 0 k i) (sym is)) made)
        (OfSlice size refl refl small (sym many) refl)

    pub wants_channel : (words : ℕ) (e : operation_of next.op ≡ tac.Do (Some to) action.Chan (size ∷ [])) → n < 2 ^ 63
        → r.setup.sizes.page_words ≤ 16777215 → words ≡ channel_words n
        → Wants r.setup (number_of a.seat.me) (now r.setup a) next.function to words 2 1 n
    wants_channel words e low least many =
        let x = at r a next before to action.Chan (size ∷ []) e refl in
        let m = making r a next before to action.Chan (size ∷ []) e refl in
        let is : n ≡ frame_word x.w size = its_word r a next before size n word in
        wants r a next before to action.Chan (size ∷ []) e refl words 2 1 n (omega (arith, many)) (omega arith)
        (λ fit.
        let small : frame_word x.w size < 1073741820 =
        subst (λ k. k < 1073741820) is (few_in_channel n r.setup.sizes.page_words words many least fit) in
        same_object r.setup (now r.setup a) _ _ _ words 2 _ (opens 1 n) refl (ap channel_words (sym is) ∙ sym many)
        (λ i. ap (λ k. opens 1 k i) (sym is))
        (makes_channel r.setup (now r.setup a) (Some to) size (removes r a next before to action.Chan (size ∷ []) e refl) x
        m.region m.makes small))
        (OfChannel size refl refl (subst (λ k. k < 2 ^ 63) is low) (many ∙ ap channel_words is) refl)

    -- a negative size
    pub slice_traps : operation_of next.op ≡ tac.Do (Some to) action.Slice (size ∷ []) → 2 ^ 63 ≤ n → IsAtTrap r a a BadSize
    slice_traps e high = (
      acted_none r a a before.stands refl refl before.stands.shows,
      HasBadSize action.Slice to size (here_do r a next before (Some to) action.Slice (size ∷ []) e).0
          (at_do r a next before (Some to) action.Slice (size ∷ []) e) (inl refl) (rests r a next before)
          (subst (λ k. 2 ^ 63 ≤ k) (its_word r a next before size n word) high) refl,
    )

    pub channel_traps : operation_of next.op ≡ tac.Do (Some to) action.Chan (size ∷ []) → 2 ^ 63 ≤ n → IsAtTrap r a a BadSize
    channel_traps e high = (
      acted_none r a a before.stands refl refl before.stands.shows,
      HasBadSize action.Chan to size (here_do r a next before (Some to) action.Chan (size ∷ []) e).0
          (at_do r a next before (Some to) action.Chan (size ∷ []) e) (inr refl) (rests r a next before)
          (subst (λ k. 2 ^ 63 ≤ k) (its_word r a next before size n word) high) refl,
    )
