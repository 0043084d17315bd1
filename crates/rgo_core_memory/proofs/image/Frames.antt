-- What each part keeps if others change. Fewer live objects, or other cells in words of no object, leave a part that only speaks of
-- live objects.
use Rattle.std.proofs.Common.{◌≡◌, ℕ, zero, suc, ◌+◌, ◌<◌, ◌≤◌, List, length, max, Some, refl, subst, sym, ◌∙◌, arith}
use Rattle.rgo_sound.specs.Memory.declared.values.Value.{Value}
use Rattle.rgo_sound.specs.Memory.Memory.{Object, StructObject, SliceObject, Channel}
use Rattle.rgo_sound.specs.RegionMachine.Objects.{object_words}
use Rattle.rgo_sound.specs.RegionMachine.Regions.{RegionInfo}
use Rattle.rgo_sound.specs.RegionMachine.declared.regions.Region.{Region}
use Rattle.rgo_core_memory.specs.declared.layout.TableSizes.{TableSizes}
use Rattle.rgo_core_memory.specs.Encoding.{Spot, content}
use Rattle.rgo_core_memory.specs.Ground.{IsLiveObject}
use Rattle.rgo_core_memory.specs.Records.{Fill, HasRecord, Rec, Owns, Within}
use Rattle.rgo_core_memory.specs.Spread.{spread_spot}
use Rattle.rgo_core_memory.specs.Parts.{Lies, Own}
use Rattle.rgo_core_memory.proofs.Rows.{below}
use Rattle.rgo_core_memory.proofs.objects.Spreads.{same_spread, same_table, spread_within}
use Rattle.rgo_sound.proofs.steps.HeapGrows.{SameSize}

-- an object has a word for what it holds
at_least : (i n : ℕ) → i < n → i < max 1 n
at_least i n h = omega arith

pub content_below : (object : Object) (i : ℕ) (v : Value) → content object i ≡ Some v → i < object_words object
content_below (StructObject cells) i v e = at_least i (length cells) (below cells i v e)
content_below (SliceObject cells) zero v e = omega arith
content_below (SliceObject cells) (suc i) v e = let h = below cells i v e in omega arith
content_below (Channel capacity queue closed) zero v e = cc
content_below (Channel capacity queue closed) (suc zero) v e = omega arith
content_below (Channel capacity queue closed) (suc (suc i)) v e = cc

-- each live object was live before, with the same size
abbrev pub Alike : (heap more : List Object) (owners others : List Region) (regions infos : List RegionInfo) → Type 0
Alike heap more owners others regions infos = (o : ℕ) (object : Object) (r : Region) → IsLiveObject more others infos o object r
    → (was : Object) × IsLiveObject heap owners regions o was r × SameSize was object

module _ (z : TableSizes) (states : ℕ → ℕ) (cell : ℕ → ℕ → ℕ) (recs : List Rec) (heap : List Object) (owners : List Region)
    (regions : List RegionInfo) (slot : ℕ → ℕ) (spot : ℕ → ℕ → Spot) (k : Own z states cell recs heap owners regions slot spot) where
  -- other cells, other objects, regions that go
  pub own_frame : (cells : ℕ → ℕ → ℕ) (more : List Object) (others : List Region) (infos : List RegionInfo)
      → Alike heap more owners others regions infos
      → ((g i : ℕ) (f : Fill) → Owns recs g f → f.fill + i < z.page_words → cells f.page (f.fill + i) ≡ cell f.page (f.fill + i))
      → ((g p i : ℕ) (c : Rec) → HasRecord recs g c → Within p c.reserved.pages → cells p i ≡ cell p i)
      → Own z states cells recs more others infos slot spot
  own_frame cells more others infos alike same kept = record {
    ranged = k.ranged;
    for_slots = k.for_slots;
    homes = λ o i object r s l. let q = alike o object r s in k.homes o i q.0 r q.1 (subst (λ (n : ℕ). i < n)
        (same_table z.page_words q.0 object q.2) l);
    claimed = k.claimed;
    alone = k.alone;
    room = k.room;
    under = λ g o i f object r w s l e. let q = alike o object r s in k.under g o i f q.0 r w q.1 (subst (λ (n : ℕ). i < n)
        (same_table z.page_words q.0 object q.2) l) e;
    amids = λ g c f object stored h m. let t = k.amids g c f object stored h m in (
      t.0,
      record {
        fits = t.1.fits;
        plain = t.1.plain;
        laid = λ i l y. let fits = t.1.fits in same g i f (c, h, t.0) (omega arith) ∙ t.1.laid i l y;
      },
    );
    apart = record {
      nobody = λ g o i f object r w s sp l.
          let q = alike o object r s in
          k.apart.nobody g o i f q.0 r w q.1 (sym (same_spread z.page_words q.0 object q.2) ∙ sp)
          (subst (λ (n : ℕ). i < n) (same_table z.page_words q.0 object q.2) l);
      claimed = k.apart.claimed;
      unowned = k.apart.unowned;
      once = k.apart.once;
      empty = λ g o i p c object r h w s l.
          let q = alike o object r s in
          k.apart.empty g o i p c q.0 r h w q.1 (subst (λ (n : ℕ). i < n) (same_table z.page_words q.0 object q.2) l);
      strewn = λ g c object stored h m.
          let t = k.apart.strewn g c object stored h m in
          record {
            spread = t.spread;
            small = t.small;
            many = t.many;
            plain = t.plain;
            laid = λ i l y.
                kept g (spread_spot z.page_words object c.reserved.pages i).page
                (spread_spot z.page_words object c.reserved.pages i).offset c h
                (spread_within z.page_words object c.reserved.pages i t.spread t.many l)
                ∙ t.laid i l y;
          };
    };
  }

-- the same objects, or fewer
pub lies_fewer : (z : TableSizes) (variable : ℕ → ℕ) (cell : ℕ → ℕ → ℕ) (values : List Value) (heap : List Object) (owners : List Region)
    (regions infos : List RegionInfo) (spot : ℕ → ℕ → Spot) (start : ℕ → Spot)
    → Lies z variable cell values heap owners regions spot start
    → ((o : ℕ) (object : Object) (r : Region) → IsLiveObject heap owners infos o object r → IsLiveObject heap owners regions o object r)
    → length regions ≤ length infos → Lies z variable cell values heap owners infos spot start
lies_fewer z variable cell values heap owners regions infos spot start k fewer more = record {
  inside = λ o i object r s l. k.inside o i object r (fewer o object r s) l;
  shows = λ o i object r v s c. k.shows o i object r v (fewer o object r s) c;
  apart = λ o p i j object other r q s t. k.apart o p i j object other r q (fewer o object r s) (fewer p other q t);
  row = λ o i object r s w l. k.row o i object r (fewer o object r s) w l;
  spread = λ o object r s w. k.spread o object r (fewer o object r s) w;
  variables = k.variables;
  made = λ o j e. let l = k.made o j e in omega arith;
}

pub stay_alike : (heap : List Object) (owners : List Region) (regions infos : List RegionInfo)
    → ((o : ℕ) (object : Object) (r : Region) → IsLiveObject heap owners infos o object r → IsLiveObject heap owners regions o object r)
    → Alike heap heap owners owners regions infos
stay_alike heap owners regions infos fewer o object r s = (object, fewer o object r s, (refl, refl))
