-- The first words are the image of the first state. Every word is 0 but two, and 0 means free everywhere, so each part is nearly empty.
-- Package variables need that the zero of each type is the word 0.
use Rattle.std.proofs.Common.{◌≡◌, ℕ, zero, suc, ◌<◌, List, [], ◌∷◌, length, replicate, set, slice_index, Some, slice_get, refl, ap, sym, subst, ◌∙◌, inl, ⊎_elim, arith}
use Rattle.std.proofs.lemmas.Option.{same_Some}
use Rattle.rgo_sound.specs.Memory.Memory.{Object}
use Rattle.rgo_sound.specs.Memory.Values.{zero_of, zero_in}
use Rattle.rgo_sound.specs.RegionMachine.Objects.{fill_of}
use Rattle.rgo_sound.specs.RegionMachine.Regions.{RegionInfo}
use Rattle.rgo_sound.specs.RegionMachine.declared.regions.Region.{Region}
use Rattle.rgo_sound.specs.RegionMachine.declared.regions.Region.TheVariants.{Numbered}
use Rattle.rgo_sound.specs.Typed.declared.programs.Variable.{Variable}
use Rattle.rgo_sound.specs.Typed.declared.types.Base.{Base}
use Rattle.rgo_sound.specs.Typed.declared.types.Base.TheVariants as base
use Rattle.rgo_sound.specs.Typed.declared.types.Layer.{Layer}
use Rattle.rgo_core_memory.specs.declared.layout.TableSizes.{TableSizes}
use Rattle.rgo_core_memory.specs.Words.{Words, ListHasWords, put_at, all_words, clock_at, made_at, state_at, next_at, count_at, head_at, cell_at, variable_at}
use Rattle.rgo_core_memory.specs.Encoding.{encode}
use Rattle.rgo_core_memory.specs.Records.{Fill, Rest, Amid, Idle, Got, Hung, Calm, Past, Gave, Rec, HasRecord, Owns, Claims, ClosesSlot, ReturnsChain}
use Rattle.rgo_core_memory.specs.Ground.{Held, IsLiveObject}
use Rattle.rgo_core_memory.specs.Pages.{Free, Chained, Claimed, occurrences}
use Rattle.rgo_core_memory.specs.Parts.{Vacant, Living, Closing}
use Rattle.rgo_core_memory.specs.Opening.{first_record, Opens}
use Rattle.rgo_core_memory.proofs.pages.Paging.{none_at}
use Rattle.rgo_core_memory.proofs.Puts.{put_here, put_else}
use Rattle.rgo_core_memory.proofs.Rows.{below}
use Rattle.rgo_core_memory.proofs.image.Steadies.{map_back}
use Rattle.rgo_core_memory.proofs.Writes.{writes_count, writes_made}
use Rattle.rgo_core_memory.specs.Records.{Across}
use Rattle.rgo_core_memory.specs.Records.{Within}

pub zeros : (n i : ℕ) → slice_index (replicate n 0) i ≡ 0
zeros zero i = refl
zeros (suc n) zero = refl
zeros (suc n) (suc i) = zeros n i

pub many : (n : ℕ) → length {A = ℕ} (replicate n 0) ≡ n
many zero = refl
many (suc n) = ap suc (many n)

abbrev nothing : Words
nothing = record { clock = 0; made = 0; state = λ p. 0; next = λ p. 0; count = λ r. 0; head = λ r. 0; variable = λ n. 0; cell = λ p o. 0 }

shows_nothing : (z : TableSizes) → ListHasWords z (replicate (all_words z) 0) nothing
shows_nothing z = record {
  wide = many (all_words z);
  clock = zeros (all_words z) clock_at;
  made = zeros (all_words z) made_at;
  state = λ p l. zeros (all_words z) (state_at z p);
  next = λ p l. zeros (all_words z) (next_at z p);
  count = λ r l. zeros (all_words z) (count_at z r);
  head = λ r l. zeros (all_words z) (head_at z r);
  cell = λ p o l m. zeros (all_words z) (cell_at z p o);
  variable = λ n l. zeros (all_words z) (variable_at z n);
}

abbrev blank : Words
blank = record nothing { made = 1 }

zero_code : (a : ℕ → ℕ) (layers : List Layer) (b : Base) → encode a (zero_in layers b) ≡ 0
zero_code a [] base.Int = refl
zero_code a [] base.Bool = refl
zero_code a [] (base.Pointer n) = refl
zero_code a (l ∷ ls) b = refl

only : (g : ℕ) (c : Rec) → HasRecord (first_record ∷ []) g c → first_record ≡ c
only zero c e = same_Some first_record c e
only (suc g) c e = cc

nobody_owns : (g : ℕ) (f : Fill) → Owns (first_record ∷ []) g f → ⊥
nobody_owns g f w = go w.2.0 (ap (λ (l : List Fill). slice_get l w.2.0) (ap (λ (c : Rec). c.fills) (only g w.0 w.1)) ∙ w.2.1)
  where
    go : (i : ℕ) → slice_get [] i ≡ Some f → ⊥
    go i e = cc

none_stands : (owners : List Region) (regions : List RegionInfo) (o : ℕ) (object : Object) (r : Region) → IsLiveObject [] owners regions o object r → ⊥
none_stands owners regions o object r s = go o s.there
  where
    go : (i : ℕ) → slice_get [] i ≡ Some object → ⊥
    go i e = cc

nothing_filled : (h : Held) (g : ℕ) → slice_get (record { stakes = []; fills = []; reserved = 0 } ∷ []) g ≡ Some h
    → ◌≡◌ {A = Held} (record { stakes = []; fills = []; reserved = 0 }) h
nothing_filled h zero e = same_Some (record { stakes = []; fills = []; reserved = 0 }) h e
nothing_filled h (suc g) e = cc

none_filled : (h : Held) (g n : ℕ) (r : Region) → slice_get (record { stakes = []; fills = []; reserved = 0 } ∷ []) g ≡ Some h → fill_of h.fills r ≡ Some n → ⊥
none_filled h g n r e f = let q : fill_of [] r ≡ Some n = subst (λ (y : Held). fill_of y.fills r ≡ Some n) (sym (nothing_filled h g e)) f in cc q

none_reserved : (g p : ℕ) (c : Rec) → slice_get (first_record ∷ []) g ≡ Some c → Within p c.reserved.pages → ⊥
none_reserved g p c h w = go (subst (λ (y : Rec). Within p y.reserved.pages) (sym (only g c h)) w)
  where
    go : Within p [] → ⊥
    go v = let n = v.0 in let q : slice_get [] n ≡ Some p = v.1 in cc q

none_made : (k : ℕ) (info : RegionInfo) → slice_get [] k ≡ Some info → ⊥
none_made k info e = cc

pub opens : Opens
opens code z enough =
    record {
      w = record blank { count = put_at blank.count z.slots 2 };
      shows = writes_count z (set (replicate (all_words z) 0) made_at 1) blank (writes_made z (replicate (all_words z) 0) nothing
          (shows_nothing z) 1) z.slots 2 (omega arith);
      lies = record {
        inside = λ o i object r s l. absurd (none_stands [] [] o object r s);
        shows = λ o i object r v s e. absurd (none_stands [] [] o object r s);
        apart = λ o p i j object other r q s t l m a b. absurd (none_stands [] [] o object r s);
        row = λ o i object r s w l. absurd (none_stands [] [] o object r s);
        spread = λ o object r s w. absurd (none_stands [] [] o object r s);
        variables = λ n v e.
            let b = map_back (λ (v : Variable). zero_of v.ty) code.variables n v e in
            let l = below code.variables n b.0 b.1 in
            (omega arith, sym (zero_code _ b.0.ty.layers b.0.ty.base) ∙ ap (encode _) b.2);
        made = λ o k e. cc;
      };
      own = record {
        ranged = λ p l. absurd (omega arith);
        for_slots = λ p. omega arith;
        homes = λ o i object r s l. absurd (none_stands [] [] o object r s);
        claimed = λ g f w. absurd (nobody_owns g f w);
        alone = λ g h e f w v q. absurd (nobody_owns g e w);
        room = λ g f w. absurd (nobody_owns g f w);
        under = λ g o i f object r w s l e. absurd (nobody_owns g f w);
        amids = λ g c f object stored h m. let y : Rest ≡ Amid f object stored = ap (λ (c : Rec). c.make) (only g c h) ∙ m in absurd (cc y);
        apart = record {
          nobody = λ g o i f object r w. absurd (nobody_owns g f w);
          claimed = λ g p c h w. absurd (none_reserved g p c h w);
          unowned = λ g i p c f h w. absurd (none_reserved g p c h w);
          once = λ g i m n p c d h q a. absurd (none_reserved g p c h (m, a));
          empty = λ g o i p c object r h w. absurd (none_reserved g p c h w);
          strewn = λ g c object stored h m.
              let y : Rest ≡ Across object stored = ap (λ (c : Rec). c.make) (only g c h) ∙ m in absurd (cc y);
        };
      };
      filled = record {
        fills = λ g f w. absurd (nobody_owns g f w);
        owned = λ g n h r e u f. absurd (none_filled h g n r e f);
        single = λ g e f w v q. absurd (nobody_owns g e w);
        claims = λ g s c h q. absurd (subst (λ (y : Rec). Claims y.claim s) (sym (only g c h)) q);
        reserved = λ g c h q. absurd (let n = ap (λ (y : Rec). length y.reserved.pages) (only g c h) in omega (arith, n, q));
        recorded = λ g h e q. absurd (let n = ap (λ (y : Held). y.reserved) (nothing_filled h g e) in omega (arith, n, q));
        made = λ g k n h e f. absurd (none_filled h g n (Numbered k) e f);
      };
      counts = record {
        global = put_here blank.count z.slots 2 z.slots refl;
        vacant = λ s l e. (put_else blank.count z.slots 2 s (λ q. omega arith), refl);
        living = λ s k l e. let y : Vacant ≡ Living k = e in absurd (cc y);
        closing = λ s g l e. let y : Vacant ≡ Closing g = e in absurd (cc y);
        lives = λ k info e l. absurd (none_made k info e);
        closes = λ g s c h q. absurd (subst (λ (y : Rec). ClosesSlot y.give s) (sym (only g c h)) q);
      };
      pages = record {
        is_free = λ p e. refl;
        is_chained = λ p r e. let y : Free ≡ Chained r = e in absurd (cc y);
        is_claimed = λ p g e. let y : Free ≡ Claimed g = e in absurd (cc y);
        on = λ r p l. absurd (omega arith);
        once = λ r p. omega arith;
        chains = λ r. refl;
        links = λ p r e. let y : Free ≡ Chained r = e in absurd (cc y);
        tops = λ r. inl refl;
        gots = λ g p r c h q. let y : Idle ≡ Got p r = ap (λ (c : Rec). c.claim) (only g c h) ∙ q in absurd (cc y);
        hungs = λ g p r o c h q. let y : Idle ≡ Hung p r o = ap (λ (c : Rec). c.claim) (only g c h) ∙ q in absurd (cc y);
        cursors = λ g r n c h q. absurd (subst (λ (y : Rec). ReturnsChain y.give r n) (sym (only g c h)) q);
        pasts = λ g r p q c h m. let y : Calm ≡ Past r (suc p) q = ap (λ (c : Rec). c.give) (only g c h) ∙ m in absurd (cc y);
        gaves = λ g r c h m. let y : Calm ≡ Gave r = ap (λ (c : Rec). c.give) (only g c h) ∙ m in absurd (cc y);
      };
      paged = record {
        live = λ k info e l. absurd (none_made k info e);
        global = sym (none_at (λ p. 0) z.pages z.slots (λ p l e. omega arith));
      };
      taken = record {
        pages = λ p f. absurd (⊎_elim (λ l. omega arith) (λ u. let y : 0 < occurrences p [] = subst (λ (y : Rec). 0 < occurrences p y.tried_pages) (sym
            (only u.0 u.1 u.2)) u.3 in omega (arith, y)) f);
        slots = λ s l f. absurd (⊎_elim (λ q. let y = put_else blank.count z.slots 2 s (λ e. omega arith) in omega (arith, q, y))
            (λ u. let y : 0 < occurrences s [] = subst (λ (y : Rec). 0 < occurrences s y.tried_slots) (sym (only u.0 u.1 u.2)) u.3 in omega (arith, y)) f);
      };
    }
