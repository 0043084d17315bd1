-- Seats that are split and joined, the first seat, and the last. Each adds a load of word 0 to the history, with nothing in the
-- run. `joins_as` proves all joins at once: it is enough that the list that stays covers both (`Covers`).
use Rattle.std.proofs.Common.{◌≡◌, ℕ, zero, suc, ◌≤◌, List, [], ◌∷◌, ◌++◌, set, slice_index, take, refl, ap, sym, subst, ◌∙◌, ⊎_elim, arith}
use mathlib.Core.Option.{some, some-injective, some-ne-none}
use mathlib.Core.List.{IsPrefix}
use lib.ListN.{get_elem?}
use Rattle.atomic_table.specs.Table as table
use Rattle.atomic_table.proofs.Lists.{set_else, set_again}
use Rattle.rgo_core_rule.specs.Histories.{glance, accesses_by, replay}
use Rattle.rgo_core_rule.specs.Lists.{flattened}
use Rattle.rgo_core_rule.specs.Rule.{Account, Closing}
use Rattle.rgo_core_rule.specs.Views.{TableState, HasRow, longer, joined, informed, rows_for, rows_but, view}
use Rattle.rgo_core_rule.specs.declared.accesses.Access.{Access}
use Rattle.rgo_core_rule.specs.declared.accesses.Kind.TheVariants.{Split, Join}
use Rattle.rgo_core_rule.specs.declared.accesses.View.{View}
use Rattle.rgo_core_rule.proofs.Awareness.{aware_longer, aware_set, aware_snoc}
use Rattle.rgo_core_rule.proofs.Histories.{longer_left, longer_right, longer_prefix, seen_more}
use Rattle.rgo_core_rule.proofs.Lift.{Holds, account_glance}
use Rattle.rgo_core_rule.proofs.Owning.{only_one, owned_empty, owned_split, owner_split, owned_joined, owner_joined}
use Rattle.rgo_core_rule.proofs.Rows.{none, in_rows_of, in_rows_but, in_both}

module _ {E R : Type 0} (accesses : R → ℕ) (Explains : List ℕ → List R → List E → Type 0) (opening : List ℕ) where
  abbrev Keeps : TableState R → Type 0
  Keeps = Holds accesses Explains opening

  -- the record of goroutine g goes to a new seat
  pub splits : (id : ℕ) (v : View R) (g : ℕ) (c : R) → HasRow v.records g c
      → table.Splits Keeps id v (view (rows_but g v.records) v.seen) (view (rows_for g v.records) v.seen)
  splits id v g c has s kept at =
      let a = glance Split (slice_index s.words 0) in
      let left : View R = view (rows_but g v.records) v.seen in
      let right : View R = view (rows_for g v.records) v.seen in
      let prefix = seen_more v.seen kept.history a (kept.aware.seen id v at) in
      let longer = aware_longer accesses s.views kept.history a kept.aware in
      record {
        recs = kept.recs;
        history = kept.history ++ a ∷ [];
        account = account_glance accesses Explains opening s.words kept.recs kept.history kept.account Split;
        owner = owner_split s.views kept.recs kept.owner kept.owned id v at g c has v.seen;
        owned = owned_split s.views kept.recs kept.owner kept.owned id v at g c has v.seen;
        aware = aware_snoc accesses (set s.views id left) (kept.history ++ a ∷ []) right
            (aware_set accesses s.views (kept.history ++ a ∷ []) id left longer prefix (λ h x own. kept.aware.own id v h x at
            (in_rows_but g v.records h x own).1))
            prefix (λ h x own. kept.aware.own id v h x at (in_rows_of g v.records h x own).1);
      }

  -- a new seat has no record, and has seen the same
  pub splits_empty : (id : ℕ) (v : View R) → table.Splits Keeps id v v (view [] v.seen)
  splits_empty id v s kept at =
      let a = glance Split (slice_index s.words 0) in
      rw (set_again s.views id v at) (record {
        recs = kept.recs;
        history = kept.history ++ a ∷ [];
        account = account_glance accesses Explains opening s.words kept.recs kept.history kept.account Split;
        owner = kept.owner;
        owned = owned_empty s.views kept.recs kept.owner kept.owned v.seen;
        aware = aware_snoc accesses s.views (kept.history ++ a ∷ []) (view [] v.seen) (aware_longer accesses s.views kept.history a kept.aware)
            (seen_more v.seen kept.history a (kept.aware.seen id v at)) (λ h x own. absurd (none h x own));
      })

  -- what a view may have seen after a join: a beginning of the history with all accesses of any goroutine that either view had
  abbrev Covers : List Access → List Access → List Access → Type 0
  Covers xs ys zs = (history : List Access) → IsPrefix xs history → IsPrefix ys history
      → IsPrefix zs history × ((g : ℕ) → accesses_by g xs ≡ accesses_by g history → accesses_by g zs ≡ accesses_by g history)
      × ((g : ℕ) → accesses_by g ys ≡ accesses_by g history → accesses_by g zs ≡ accesses_by g history)

  joins_as : (id : ℕ) (v : View R) (other : ℕ) (w : View R) (zs : List Access) → Covers v.seen w.seen zs
      → table.Joins Keeps id v other w (view (v.records ++ w.records) zs) (view [] [])
  joins_as id v other w zs covers s kept at ne at' =
      let a = glance Join (slice_index s.words 0) in
      let both : View R = view (v.records ++ w.records) zs in
      let was : get_elem? s.views other ≡ some w = sym (set_else s.views id other both ne) ∙ at' in
      let facts = covers kept.history (kept.aware.seen id v at) (kept.aware.seen other w was) in
      let history = kept.history ++ a ∷ [] in
      let seen = seen_more zs kept.history a facts.0 in
      record {
        recs = kept.recs;
        history = history;
        account = account_glance accesses Explains opening s.words kept.recs kept.history kept.account Join;
        owner = owner_joined s.views kept.recs kept.owner kept.owned id v at other w ne was zs [];
        owned = owned_joined s.views kept.recs kept.owner kept.owned id v at other w ne was zs [];
        aware = aware_set accesses (set s.views id both) history other (view [] [])
            (aware_set accesses s.views history id both (aware_longer accesses s.views kept.history a kept.aware) seen
            (λ h x has. ⊎_elim
            (λ t. let c = kept.account.counted h x (kept.owned.here id v h x at t).1 in let o = kept.aware.own id v h x at t in c
            ∙ sym (facts.1 h (sym o ∙ c)))
            (λ t. let c = kept.account.counted h x (kept.owned.here other w h x was t).1 in let o = kept.aware.own other w h x was t in c
            ∙ sym (facts.2 h (sym o ∙ c)))
            (in_both v.records w.records h x has)))
            (history, refl) (λ h x has. absurd (none h x has));
      }

  pub joins : (id : ℕ) (v : View R) (other : ℕ) (w : View R) → table.Joins Keeps id v other w (joined v w) (view [] [])
  joins id v other w = joins_as id v other w (longer v.seen w.seen)
      (λ h p q. (longer_prefix v.seen w.seen h p q, λ g e. longer_left g v.seen w.seen h p q e, λ g e. longer_right g v.seen w.seen h p q e))

  pub joins_informed : (id : ℕ) (v : View R) (other : ℕ) (w : View R) → table.Joins Keeps id v other w (informed v w) (view [] [])
  joins_informed id v other w = joins_as id v other w (longer w.seen v.seen)
      (λ h p q. (longer_prefix w.seen v.seen h q p, λ g e. longer_right g w.seen v.seen h q p e, λ g e. longer_left g w.seen v.seen h q p e))

  -- a new table
  pub opens : (first : R) → accesses first ≡ 0 → Explains opening (first ∷ []) []
      → Keeps (table.opening {S = Unit {0}} opening [] (view ((0, first) ∷ []) []))
  opens first new start = record {
    recs = first ∷ [];
    history = [];
    account = record {
      gains = [];
      paired = refl;
      explains = start;
      moments = at_start;
      replayed = refl;
      sound = tt;
      counted = λ g c e. sym (ap accesses (only g c e).1) ∙ new;
      makers = λ i a g e is. absurd (some-ne-none a (sym e));
      glances = λ i a e is. absurd (some-ne-none a (sym e));
    };
    owner = λ g. 0;
    owned = record {
      here = λ id v g c e has. let t = the_view id v e in (sym t.0, its_record g c (subst (λ (y : View R). HasRow y.records g c) (sym t.1) has));
      there = λ g c e. let t = only g c e in (first_view, refl, (0, ap (λ (z : ℕ × R). some z) (λ i. (sym t.0 i, t.1 i))));
    };
    aware = record {
      seen = λ id v e. subst (λ (y : View R). IsPrefix y.seen []) (the_view id v e).1 ([], refl);
      own = λ id v g c e has. let t = the_view id v e in let o = only_one 0 first g c (subst (λ (y : View R). HasRow y.records g c) (sym t.1) has) in
          subst (λ (y : View R). accesses c ≡ accesses_by g y.seen) t.1 (ap accesses o.1 ∙ new);
    };
  }
    where
      first_view : View R
      first_view = view ((0, first) ∷ []) []

      at_start : (k : ℕ) → k ≤ 0 → (recs : List R) × Explains (replay opening (take k [])) recs (flattened (take k []))
      at_start zero h = (first ∷ [], start)
      at_start (suc k) h = absurd (omega arith)

      the_view : (id : ℕ) (v : View R) → get_elem? (first_view ∷ []) id ≡ some v → (id ≡ 0) × (first_view ≡ v)
      the_view zero v e = (refl, some-injective first_view v e)
      the_view (suc id) v e = absurd (some-ne-none v (sym e))

      only : (g : ℕ) (c : R) → get_elem? (first ∷ []) g ≡ some c → (g ≡ 0) × (first ≡ c)
      only zero c e = (refl, some-injective first c e)
      only (suc g) c e = absurd (some-ne-none c (sym e))

      its_record : (g : ℕ) (c : R) → HasRow ((0, first) ∷ []) g c → get_elem? (first ∷ []) g ≡ some c
      its_record g c has = let o = only_one 0 first g c has in rw (o.0, o.1) refl

  -- a table that is closed with a seat
  pub closes : (id : ℕ) (v : View R) (words : List ℕ) (xs : List (Unit {0})) → table.Final (table.Seen Keeps id v) words xs
      → Closing accesses Explains opening words v
  closes id v words xs f = let k = f.1.0 in record {
    recs = k.recs;
    history = k.history;
    account = subst (λ (l : List ℕ). Account accesses Explains opening l k.recs k.history) f.2 k.account;
    seen = k.aware.seen id v f.1.1;
    here = λ g c has. ((k.owned.here id v g c f.1.1 has).1, k.aware.own id v g c f.1.1 has);
  }
