-- How events are carried to callers, until none is left. The log is gone through by number while it grows; what is carried so far is what
-- the events before that number ask for (`Underway`).
use Rattle.std.proofs.Common.{◌≡◌, ◌⊎◌, inl, inr, ⊎_elim, ℕ, ◌<◌, ◌≤◌, ◌+◌, List, [], ◌∷◌, ◌++◌, Some, Vec, length, take, get_or, slice_get, refl, sym, ap, ◌∙◌, subst, arith, length-append}
use Rattle.std.specs.Global.{Global}
use Rattle.std.specs.List.{Contains}
use Rattle.std.proofs.lemmas.Bool.{cases_lt}
use Rattle.std.proofs.lemmas.List.{take_more, get_or-map}
use Rattle.std.proofs.lemmas.List.Elements.{Contains-append_left, Contains-push, Contains-push_cases}
use Rattle.std.proofs.lemmas.Option.{same_Some, get_or_from_slice_get, slice_get-get_or, slice_get_past, slice_get_within}
use Rattle.rgo_classes.specs.Same.{AreSame}
use Rattle.rgo_summaries.specs.declared.nodes.Nodes.{Nodes}
use Rattle.rgo_summaries.specs.declared.progress.Event.{Event}
use Rattle.rgo_summaries.specs.declared.progress.Progress.{Progress}
use Rattle.rgo_summaries.specs.declared.progress.Site.{Site}
use Rattle.rgo_summaries.specs.Progress.{AddsJoins, JoinedOrToJoin, Carries, HasRoom, Hears, Inside, IsProgress, IsSpread, Logged, SameIn, Two, seen_all, size_in, width_at, width_in}
use Rattle.rgo_summaries.specs.Spreading.{Spreads, first, carried, itself, turned, chained}
use Rattle.rgo_summaries.specs.Views.{call_sites_of}
use Rattle.rgo_summaries.proofs.Adding.{OneIn, adds_more, one_in}
use Rattle.rgo_summaries.proofs.Chains.{IsEquivalence, least}
use Rattle.rgo_summaries.proofs.Outer.{get_left}

-- ---- callers hear of one event, one after another

module _ (p q r : Progress) (sites : List Site) (s : Site) (e : Event) (one : AddsJoins p q (Hears sites e))
    (other : AddsJoins q r (Two s.caller (s.base + e.one) (s.base + e.other))) where
  abbrev Longer : ℕ → ℕ → ℕ → Type 0
  Longer = Hears (sites ++ s ∷ []) e

  at_site : (f x y : ℕ) (h : Longer f x y) → s ≡ record { caller = f; base = h.base }
      → Two s.caller (s.base + e.one) (s.base + e.other) f x y
  at_site f x y h is = (
    ap (λ (t : Site). t.caller) (sym is),
    h.one ∙ ap (λ (t : Site). t.base + e.one) (sym is),
    h.other ∙ ap (λ (t : Site). t.base + e.other) (sym is),
  )

  splits : (f x y : ℕ) → Longer f x y → Hears sites e f x y ⊎ Two s.caller (s.base + e.one) (s.base + e.other) f x y
  splits f x y h = ⊎_elim
      (λ c. inl (record { base = h.base; called = c; one = h.one; other = h.other }))
      (λ is. inr (at_site f x y h is))
      (Contains-push_cases sites s (record { caller = f; base = h.base }) h.called)

  kept_left : (f x y : ℕ) → Hears sites e f x y → Longer f x y
  kept_left f x y h = record {
    base = h.base;
    called = Contains-append_left sites (s ∷ []) (record { caller = f; base = h.base }) h.called;
    one = h.one;
    other = h.other;
  }

  kept_right : (f x y : ℕ) → Two s.caller (s.base + e.one) (s.base + e.other) f x y → Longer f x y
  kept_right f x y t = record {
    base = s.base;
    called = subst (λ k. Contains (sites ++ s ∷ []) (record { caller = k; base = s.base })) (sym t.0)
        (Contains-push sites s);
    one = t.1;
    other = t.2;
  }

  pub hears_more : AddsJoins p r Longer
  hears_more =
      adds_more p q r (Hears sites e)
      (Two s.caller (s.base + e.one) (s.base + e.other)) Longer one other splits kept_left
      kept_right

-- the sites up to one, and this one
pub hears_step : (p q r : Progress) (sites : List Site) (i : ℕ) (d : Site) (e : Event) → i < length sites
    → AddsJoins p q (Hears (take i sites) e)
    → AddsJoins q r (Two (get_or sites i d).caller ((get_or sites i d).base + e.one) ((get_or sites i d).base + e.other))
    → AddsJoins p r (Hears (take (i + 1) sites) e)
hears_step p q r sites i d e l one other =
    subst (λ (s : List Site). AddsJoins p r (Hears s e)) (sym (take_more sites i d l))
    (hears_more p q r (take i sites) (get_or sites i d) e one other)

-- ---- events of the log

pub logged_at : (xs : List Event) (k : ℕ) (e : Event) → slice_get xs k ≡ Some e → Contains xs e
logged_at xs k e h = (k, slice_get_within xs k e h, get_or_from_slice_get xs k e e h)

pub event_function : (p : Progress) (k : ℕ) (e : Event) → IsProgress p → slice_get p.log.items k ≡ Some e
    → e.function < length p.nodes.items
event_function p k e is h = ⊎_elim
    (λ l. l)
    (λ l.
    let none = ap width_at (slice_get_past p.nodes.items e.function l) in
    absurd (omega (arith, (is.events e (logged_at p.log.items k e h)).0, none)))
    (cases_lt e.function (length p.nodes.items))

-- a caller has the two nodes
abbrev pub HasBoth : List Nodes → Event → Site → Type 0
HasBoth nodes e s = (s.base + e.one < size_in nodes s.caller) × (s.base + e.other < size_in nodes s.caller)

pub event_room : (p : Progress) (k width : ℕ) (e : Event) (sites : List Site) → IsProgress p
    → slice_get p.log.items k ≡ Some e
    → width_in p.nodes.items e.function ≡ width → HasRoom p.nodes.items width sites
    → (s : Site) → Contains sites s → HasBoth p.nodes.items e s
event_room p k width e sites is h w room s c =
    let i = is.events e (logged_at p.log.items k e h) in
    let r = room s c in
    (omega (arith, i.0, w, r.1), omega (arith, i.1, w, r.1))

-- ---- one event after another

-- what is left is in the log from `next` on
pub record Underway (sites : List (Vec Site Global)) (start now : Progress) (next : ℕ) : Type 0 where
  pub is : IsProgress now
  pub come : next ≤ length now.log.items
  pub len : length now.nodes.items ≡ length start.nodes.items
  pub sizes : (f : ℕ) → size_in now.nodes.items f ≡ size_in start.nodes.items f
  pub widths : (f : ℕ) → width_in now.nodes.items f ≡ width_in start.nodes.items f
  pub kept : (f x y : ℕ) → SameIn start.nodes.items f x y → SameIn now.nodes.items f x y
  pub sound : (f x y : ℕ) → SameIn now.nodes.items f x y
      → Spreads (SameIn start.nodes.items) (Inside start.nodes.items) (Carries sites) f x y
  pub heard : (k : ℕ) (e : Event) → k < next → slice_get now.log.items k ≡ Some e
      → (f x y : ℕ) → Hears (call_sites_of sites e.function) e f x y → SameIn now.nodes.items f x y
  pub counted : length now.log.items + seen_all now.nodes.items ≤ length start.log.items + seen_all start.nodes.items

pub underway : (sites : List (Vec Site Global)) (p : Progress) → IsProgress p → Underway sites p p 0
underway sites p is = record {
  is = is;
  come = omega arith;
  len = refl;
  sizes = λ f. refl;
  widths = λ f. refl;
  kept = λ f x y s. s;
  sound = λ f x y s. first s;
  heard = λ k e l. absurd (omega (arith, l));
  counted = omega arith;
}

module _ (sites : List (Vec Site Global)) (start now new : Progress) (next : ℕ) (e : Event)
    (u : Underway sites start now next) (event : slice_get now.log.items next ≡ Some e) (is : IsProgress new)
    (adds : AddsJoins now new (Hears (call_sites_of sites e.function) e)) where
  abbrev Follows : ℕ → ℕ → ℕ → Type 0
  Follows = Spreads (SameIn start.nodes.items) (Inside start.nodes.items) (Carries sites)

  follows_equal : (f : ℕ) → IsEquivalence (Follows f)
  follows_equal f = record {
    reflexive = λ x. itself f x;
    symmetric = λ x y h. turned h;
    transitive = λ x y z h g. chained h g;
  }

  is_event : Inside now.nodes.items e.function e.one × Inside now.nodes.items e.function e.other
      × SameIn now.nodes.items e.function e.one e.other
  is_event = u.is.events e (logged_at now.log.items next e event)

  hears_follow : (f x y : ℕ) → Hears (call_sites_of sites e.function) e f x y → Follows f x y
  hears_follow f x y h =
      let c : Carries sites e.function f h.base = h.called in
      let along : Follows f (h.base + e.one) (h.base + e.other) =
      carried c (omega (arith, is_event.0, u.widths e.function)) (omega (arith, is_event.1, u.widths e.function))
      (u.sound e.function e.one e.other is_event.2)
      in
      subst (λ k. Follows f k y) (sym h.one) (subst (λ k. Follows f (h.base + e.one) k) (sym h.other) along)

  follows : (f x y : ℕ) → SameIn new.nodes.items f x y → Follows f x y
  follows f x y s =
      least (JoinedOrToJoin now.nodes.items (Hears (call_sites_of sites e.function) e) f) (Follows f) (follows_equal f)
      (λ a b h. ⊎_elim (λ t. u.sound f a b t) (λ t. hears_follow f a b t) h) x y (adds.only f x y s)

  log_before : (k : ℕ) → k < length now.log.items → slice_get new.log.items k ≡ slice_get now.log.items k
  log_before k l = ap (λ (xs : List Event). slice_get xs k) adds.logs.1 ∙ get_left now.log.items adds.logs.0 k l

  heard_before : (k : ℕ) (d : Event) → k < next → slice_get new.log.items k ≡ Some d
      → (f x y : ℕ) → Hears (call_sites_of sites d.function) d f x y → SameIn new.nodes.items f x y
  heard_before k d l h f x y t =
      adds.kept f x y (u.heard k d l (sym (log_before k (omega (arith, l, u.come))) ∙ h) f x y t)

  heard_now : (k : ℕ) (d : Event) → k ≡ next → slice_get new.log.items k ≡ Some d
      → (f x y : ℕ) → Hears (call_sites_of sites d.function) d f x y → SameIn new.nodes.items f x y
  heard_now k d at h f x y t =
      let within = slice_get_within now.log.items next e event in
      let same : d ≡ e = same_Some d e (sym h ∙ ap (slice_get new.log.items) at ∙ log_before next within ∙ event) in
      adds.met f x y (subst (λ (c : Event). Hears (call_sites_of sites c.function) c f x y) same t)

  long : length now.log.items ≤ length new.log.items
  long = omega (arith, ap (λ (xs : List Event). length xs) adds.logs.1, length-append now.log.items adds.logs.0)

  pub further : Underway sites start new (next + 1)
  further = record {
    is = is;
    come = omega (arith, slice_get_within now.log.items next e event, long);
    len = adds.len ∙ u.len;
    sizes = λ f. adds.sizes f ∙ u.sizes f;
    widths = λ f. adds.widths f ∙ u.widths f;
    kept = λ f x y s. adds.kept f x y (u.kept f x y s);
    sound = follows;
    heard = λ k d l h.
        ⊎_elim (λ b. heard_before k d b h) (λ b. heard_now k d (omega (arith, l, b)) h) (cases_lt k next);
    counted = omega (arith, u.counted, adds.counted);
  }

-- ---- all events are carried

module _ (sites : List (Vec Site Global)) (start now : Progress) (next : ℕ) (u : Underway sites start now next)
    (all : length now.log.items ≤ next) where
  abbrev Carried : (f base x y : ℕ) → Type 0
  Carried f base x y = OneIn now.nodes.items f (base + x) (base + y)

  carried_equal : (f base : ℕ) → IsEquivalence (Carried f base)
  carried_equal f base = record {
    reflexive = λ x. (one_in now.nodes.items f).reflexive (base + x);
    symmetric = λ x y h. (one_in now.nodes.items f).symmetric (base + x) (base + y) h;
    transitive = λ x y z h g. (one_in now.nodes.items f).transitive (base + x) (base + y) (base + z) h g;
  }

  event_carried : (g f base x y : ℕ) → Carries sites g f base → Logged now.log.items g x y → Carried f base x y
  event_carried g f base x y c h =
      let e : Event = record { function = g; one = x; other = y } in
      let at : slice_get now.log.items h.0 ≡ Some e = slice_get-get_or now.log.items h.0 e h.1 ∙ ap Some h.2 in
      inr (u.heard h.0 e (omega (arith, h.1, all)) at f (base + x) (base + y)
      (record { base = base; called = c; one = refl; other = refl }))

  log_carried : (g f base x y : ℕ) → Carries sites g f base → AreSame (Logged now.log.items g) x y → Carried f base x y
  log_carried g f base x y c s =
      least (Logged now.log.items g) (Carried f base) (carried_equal f base)
      (λ a b h. event_carried g f base a b c h) x y s

  block_carried : (g f base x y : ℕ) → Carries sites g f base → Inside start.nodes.items g x
      → Inside start.nodes.items g y
      → OneIn now.nodes.items g x y → Carried f base x y
  block_carried g f base x y c hx hy h = ⊎_elim
      (λ e. inl (ap (λ k. base + k) e))
      (λ s. log_carried g f base x y c
      (u.is.logged g x y (omega (arith, hx, u.widths g)) (omega (arith, hy, u.widths g)) s))
      h

  whole : {f x y : ℕ} → Spreads (SameIn start.nodes.items) (Inside start.nodes.items) (Carries sites) f x y
      → OneIn now.nodes.items f x y
  whole {f} {x} {y} (first h) = inr (u.kept f x y h)
  whole (carried {g} {f} {base} {x} {y} c hx hy s) = block_carried g f base x y c hx hy (whole s)
  whole (itself f x) = inl refl
  whole (turned {f} {x} {y} s) = (one_in now.nodes.items f).symmetric x y (whole s)
  whole (chained {f} {x} {y} {z} s t) = (one_in now.nodes.items f).transitive x y z (whole s) (whole t)

  pub is_spread : IsSpread start.nodes.items now.nodes.items sites
  is_spread = record {
    len = u.len;
    are = u.is.are;
    sizes = u.sizes;
    widths = u.widths;
    sound = u.sound;
    whole = λ f x y s. whole s;
  }

-- ---- rows of sites

pub sites_row : (sites : List (Vec Site Global)) (g : ℕ) (d : Vec Site Global) → g < length sites
    → call_sites_of sites g ≡ (get_or sites g d).items
sites_row sites g d l = get_or-map (λ (r : Vec Site Global). r.items) sites g d [] l

pub sites_here : (sites : List (Vec Site Global)) (g : ℕ) (row : Vec Site Global) (now : List Site) → g < length sites
    → row ≡ get_or sites g row → now ≡ row.items → call_sites_of sites g ≡ now
sites_here sites g row now l is v = sites_row sites g row l ∙ ap (λ (r : Vec Site Global). r.items) (sym is) ∙ sym v

-- nodes keep their numbers
pub room_kept : (sites : List (Vec Site Global)) (start now : Progress) (next g : ℕ) (row : List Site)
    → Underway sites start now next → call_sites_of sites g ≡ row
    → HasRoom start.nodes.items (width_in start.nodes.items g) (call_sites_of sites g)
    → HasRoom now.nodes.items (width_in now.nodes.items g) row
room_kept sites start now next g row u e room s c =
    let r = room s (subst (λ (l : List Site). Contains l s) (sym e) c) in
    (omega (arith, r.0, u.len), omega (arith, r.1, u.widths g, u.sizes s.caller))
