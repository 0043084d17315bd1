-- A join in one function, with the log of what its callers are to hear of. The hard case is a join of two classes that callers see: the
-- event links one node of each, and the log already links these to the rest of their classes.
use Rattle.std.proofs.Common.{◌≡◌, ◌≢◌, ◌⊎◌, inl, inr, ⊎_elim, ℕ, zero, suc, ◌<◌, ◌≤◌, ◌+◌, List, [], ◌∷◌, ◌++◌, Option, Some, None, length, set, get_or, slice_get, refl, sym, ap, ◌∙◌, subst, arith, length-append}
use Rattle.std.specs.Prelude.{sum_by}
use Rattle.std.specs.List.{Contains}
use Rattle.std.proofs.lemmas.Bool.{cases_lt}
use Rattle.std.proofs.lemmas.Option.{same_Some, none-some, slice_get_past, slice_get_read, slice_get_within, get_or_from_slice_get}
use Rattle.std.proofs.lemmas.List.{length-set}
use Rattle.std.proofs.lemmas.List.Elements.{Contains-append_left, Contains-append_cases, Contains-push, Contains-push_cases}
use Rattle.std.proofs.lemmas.List.Sums.{sum_by-set}
use Rattle.rgo_classes.specs.Same.{AreSame}
use Rattle.rgo_classes.proofs.Chains as chain
use Rattle.rgo_classes.proofs.Moving.{eq_cases, no_member}
use Rattle.rgo_summaries.specs.declared.nodes.Nodes.{Nodes}
use Rattle.rgo_summaries.specs.declared.progress.Event.{Event}
use Rattle.rgo_summaries.specs.declared.progress.Progress.{Progress}
use Rattle.rgo_summaries.specs.Joining.{AreNews, Crosses, IsNodes, JoinsNodes, AreJoinedNodes, seen_count, some_count}
use Rattle.rgo_summaries.specs.Progress.{AddsJoins, JoinedOrToJoin, Inside, IsProgress, Logged, SameIn, Two, events_of, same_at, seen_all, size_at, size_in, width_at, width_in}

-- ---- lists in which one item is set

pub get_set_here : {X : Type 0} (xs : List X) (i : ℕ) (x y : X) → slice_get xs i ≡ Some y
    → slice_get (set xs i x) i ≡ Some x
get_set_here [] i x y e = absurd (none-some y e)
get_set_here (z ∷ xs) zero x y e = refl
get_set_here (z ∷ xs) (suc i) x y e = get_set_here xs i x y e

pub get_set_other : {X : Type 0} (xs : List X) (i j : ℕ) (x : X) → j ≢ i → slice_get (set xs i x) j ≡ slice_get xs j
get_set_other [] i j x n = refl
get_set_other (z ∷ xs) zero zero x n = absurd (n refl)
get_set_other (z ∷ xs) zero (suc j) x n = refl
get_set_other (z ∷ xs) (suc i) zero x n = refl
get_set_other (z ∷ xs) (suc i) (suc j) x n = get_set_other xs i j x (λ e. n (ap suc e))

-- what holds of one number, and of each other
pub by_number : (f : ℕ) (P : ℕ → Type 0) → P f → ((g : ℕ) → g ≢ f → P g) → (g : ℕ) → P g
by_number f P p q g = ⊎_elim (λ e. subst P (sym e) p) (λ e. q g e) (eq_cases g f)

pub same_symmetric : (n : Nodes) (x y : ℕ) → AreJoinedNodes n x y → AreJoinedNodes n y x
same_symmetric n x y s = (s.1, s.0, sym s.2)

pub same_transitive : (n : Nodes) (x y z : ℕ) → AreJoinedNodes n x y → AreJoinedNodes n y z → AreJoinedNodes n x z
same_transitive n x y z s t = (s.0, t.1, s.2 ∙ t.2)

-- ---- one function's nodes are joined

module _ (old new : Progress) (f : ℕ) (n m : Nodes) (a b : ℕ) (news : Option (ℕ × ℕ)) (o : IsProgress old)
    (was : slice_get old.nodes.items f ≡ Some n) (nodes : new.nodes.items ≡ set old.nodes.items f m)
    (log : new.log.items ≡ old.log.items ++ events_of f news) (is : IsNodes m) (j : JoinsNodes n m a b news) where
  here : slice_get new.nodes.items f ≡ Some m
  here = ap (λ (l : List Nodes). slice_get l f) nodes ∙ get_set_here old.nodes.items f m n was

  there : (g : ℕ) → g ≢ f → slice_get new.nodes.items g ≡ slice_get old.nodes.items g
  there g e = ap (λ (l : List Nodes). slice_get l g) nodes ∙ get_set_other old.nodes.items f g m e

  same_old : (x y : ℕ) → AreJoinedNodes n x y → SameIn old.nodes.items f x y
  same_old x y s = subst (λ k. same_at k x y) (sym was) s

  same_new : (x y : ℕ) → AreJoinedNodes m x y → SameIn new.nodes.items f x y
  same_new x y s = subst (λ k. same_at k x y) (sym here) s

  new_same : (x y : ℕ) → SameIn new.nodes.items f x y → AreJoinedNodes m x y
  new_same x y s = subst (λ k. same_at k x y) here s

  old_same : (x y : ℕ) → SameIn old.nodes.items f x y → AreJoinedNodes n x y
  old_same x y s = subst (λ k. same_at k x y) was s

  sizes : (g : ℕ) → size_in new.nodes.items g ≡ size_in old.nodes.items g
  sizes = by_number f (λ g. size_in new.nodes.items g ≡ size_in old.nodes.items g)
      (ap size_at here ∙ j.size ∙ ap size_at (sym was)) (λ g e. ap size_at (there g e))

  widths : (g : ℕ) → width_in new.nodes.items g ≡ width_in old.nodes.items g
  widths = by_number f (λ g. width_in new.nodes.items g ≡ width_in old.nodes.items g)
      (ap width_at here ∙ j.width ∙ ap width_at (sym was)) (λ g e. ap width_at (there g e))

  width_is : width_in old.nodes.items f ≡ n.width
  width_is = ap width_at was

  kept : (g x y : ℕ) → SameIn old.nodes.items g x y → SameIn new.nodes.items g x y
  kept = by_number f (λ g. (x y : ℕ) → SameIn old.nodes.items g x y → SameIn new.nodes.items g x y)
      (λ x y s. same_new x y (j.kept x y (old_same x y s)))
      (λ g e x y s. subst (λ k. same_at k x y) (sym (there g e)) s)

  -- ---- the log

  still_logged : (g x y : ℕ) → Logged old.log.items g x y → Logged new.log.items g x y
  still_logged g x y h =
      let e : Event = record { function = g; one = x; other = y } in
      subst (λ (l : List Event). Contains l e) (sym log) (Contains-append_left old.log.items (events_of f news) e h)

  -- what the log led to, it leads to
  leads : (g x y : ℕ) → AreSame (Logged old.log.items g) x y → AreSame (Logged new.log.items g) x y
  leads g x y s =
      chain.along (Logged old.log.items g) (Logged new.log.items g)
      (λ p q h. chain.contains (Logged new.log.items g) p q (still_logged g p q h)) x y s

  abbrev Leads : ℕ → ℕ → Type 0
  Leads x y = AreSame (Logged new.log.items f) x y

  led : (x y : ℕ) → x < n.width → y < n.width → AreJoinedNodes n x y → Leads x y
  led x y wx wy s =
      leads f x y (o.logged f x y (omega (arith, wx, width_is)) (omega (arith, wy, width_is)) (same_old x y s))

  module _ (p : ℕ × ℕ) (some : news ≡ Some p) where
    event_in : Contains new.log.items (record { function = f; one = p.0; other = p.1 })
    event_in =
        let e : Event = record { function = f; one = p.0; other = p.1 } in
        subst (λ (l : List Event). Contains l e) (sym (log ∙ ap (λ k. old.log.items ++ events_of f k) some))
        (Contains-push old.log.items e)

    across : Leads p.0 p.1
    across = chain.contains (Logged new.log.items f) p.0 p.1 event_in

    -- from one side to the other
    cross : (u v x y : ℕ) → x < n.width → y < n.width → u < n.width → v < n.width → Leads u v → AreJoinedNodes n x u
        → AreJoinedNodes n v y → Leads x y
    cross u v x y wx wy wu wv l s t =
        chain.transitive (Logged new.log.items f) x u y (led x u wx wu s)
        (chain.transitive (Logged new.log.items f) u v y l (led v y wv wy t))

    back : Leads p.1 p.0
    back = chain.symmetric (Logged new.log.items f) p.0 p.1 across

    abbrev HeardSome : Type 0
    HeardSome = (p.0 < n.width) × (p.1 < n.width) × (Crosses n a b p.0 p.1 ⊎ Crosses n b a p.0 p.1)

    -- x is in one class with the first, y with the second
    cross_one : (h : HeardSome) (x y : ℕ) → x < n.width → y < n.width → AreJoinedNodes n x a → AreJoinedNodes n b y → Leads x y
    cross_one h x y wx wy s t = ⊎_elim
        (λ c. cross p.0 p.1 x y wx wy h.0 h.1 across
        (same_transitive n x a p.0 s (same_symmetric n p.0 a c.0))
        (same_transitive n p.1 b y (same_symmetric n b p.1 c.1) t))
        (λ c. cross p.1 p.0 x y wx wy h.1 h.0 back
        (same_transitive n x a p.1 s c.1)
        (same_transitive n p.0 b y c.0 t))
        h.2

    cross_other : (h : HeardSome) (x y : ℕ) → x < n.width → y < n.width → AreJoinedNodes n x b → AreJoinedNodes n a y → Leads x y
    cross_other h x y wx wy s t = ⊎_elim
        (λ c. cross p.1 p.0 x y wx wy h.1 h.0 back
        (same_transitive n x b p.1 s c.1)
        (same_transitive n p.0 a y c.0 t))
        (λ c. cross p.0 p.1 x y wx wy h.0 h.1 across
        (same_transitive n x b p.0 s (same_symmetric n p.0 b c.0))
        (same_transitive n p.1 a y (same_symmetric n a p.1 c.1) t))
        h.2

    logged_some : HeardSome → (x y : ℕ) → x < n.width → y < n.width → AreJoinedNodes m x y → Leads x y
    logged_some h x y wx wy s = ⊎_elim
        (λ k. led x y wx wy k)
        (λ t. ⊎_elim (λ c. cross_one h x y wx wy c.0 c.1) (λ c. cross_other h x y wx wy c.0 c.1) t)
        (j.only x y s)

    event_same : HeardSome → AreJoinedNodes m p.0 p.1
    event_same h = ⊎_elim
        (λ c. same_transitive m p.0 a p.1 (j.kept p.0 a c.0) (same_transitive m a b p.1 j.met (j.kept b p.1 c.1)))
        (λ c. same_transitive m p.0 b p.1 (j.kept p.0 b c.0)
        (same_transitive m b a p.1 (same_symmetric m a b j.met) (j.kept a p.1 c.1)))
        h.2

  logged_here : (k : Option (ℕ × ℕ)) → news ≡ k → AreNews n m a b k → (x y : ℕ) → x < n.width → y < n.width → AreJoinedNodes m x y
      → Leads x y
  logged_here None e h x y wx wy s = led x y wx wy (h x y wx wy s)
  logged_here (Some p) e h x y wx wy s = logged_some p e h x y wx wy s

  abbrev LoggedIn : ℕ → Type 0
  LoggedIn g = (x y : ℕ) → Inside new.nodes.items g x → Inside new.nodes.items g y → SameIn new.nodes.items g x y
      → AreSame (Logged new.log.items g) x y

  logged : (g : ℕ) → LoggedIn g
  logged = by_number f LoggedIn
      (λ x y ix iy s.
      logged_here news refl j.heard x y (omega (arith, ix, widths f, width_is))
      (omega (arith, iy, widths f, width_is))
      (new_same x y s))
      (λ g e x y ix iy s.
      leads g x y
      (o.logged g x y (omega (arith, ix, widths g)) (omega (arith, iy, widths g))
      (subst (λ k. same_at k x y) (there g e) s)))

  abbrev IsEvent : Event → Type 0
  IsEvent e = Inside new.nodes.items e.function e.one × Inside new.nodes.items e.function e.other
      × SameIn new.nodes.items e.function e.one e.other

  old_event : (e : Event) → Contains old.log.items e → IsEvent e
  old_event e h =
      let was_event = o.events e h in (
        omega (arith, was_event.0, widths e.function),
        omega (arith, was_event.1, widths e.function),
        kept e.function e.one e.other was_event.2,
      )

  new_event : (k : Option (ℕ × ℕ)) → news ≡ k → AreNews n m a b k → (e : Event) → Contains (events_of f k) e → IsEvent e
  new_event None i h e c = absurd (no_member e c)
  new_event (Some p) i h e c =
      let this : Event = record { function = f; one = p.0; other = p.1 } in
      let same : this ≡ e = ⊎_elim (λ d. absurd (no_member e d)) (λ d. d) (Contains-push_cases [] this e c) in
      subst IsEvent same (
        omega (arith, h.0, widths f, width_is),
        omega (arith, h.1, widths f, width_is),
        same_new p.0 p.1 (event_same p i h),
      )

  pub progress_is : IsProgress new
  progress_is = record {
    are =
        by_number f (λ g. (k : Nodes) → slice_get new.nodes.items g ≡ Some k → IsNodes k)
        (λ k e. subst IsNodes (same_Some m k (sym here ∙ e)) is)
        (λ g e k h. o.are g k (sym (there g e) ∙ h));
    logged = logged;
    events = λ e h. ⊎_elim
        (λ c. old_event e c)
        (λ c. new_event news refl j.heard e c)
        (Contains-append_cases old.log.items (events_of f news) e (subst (λ (l : List Event). Contains l e) log h));
  }

  -- ---- and no more is joined than follows

  abbrev Together : ℕ → ℕ → ℕ → Type 0
  Together g x y = AreSame (JoinedOrToJoin old.nodes.items (Two f a b) g) x y

  only_here : (x y : ℕ) → AreJoinedNodes m x y → Together f x y
  only_here x y s = ⊎_elim (λ h. known x y h) (λ t. ⊎_elim (λ c. crossed x y c.0 c.1)
      (λ c. crossed_back x y c.0 c.1) t) (j.only x y s)
    where
      known : (x y : ℕ) → AreJoinedNodes n x y → Together f x y
      known x y h = chain.contains (JoinedOrToJoin old.nodes.items (Two f a b) f) x y (inl (same_old x y h))

      these : Together f a b
      these = chain.contains (JoinedOrToJoin old.nodes.items (Two f a b) f) a b (inr (refl, refl, refl))

      crossed : (x y : ℕ) → AreJoinedNodes n x a → AreJoinedNodes n b y → Together f x y
      crossed x y p q =
          chain.transitive (JoinedOrToJoin old.nodes.items (Two f a b) f) x a y (known x a p)
          (chain.transitive (JoinedOrToJoin old.nodes.items (Two f a b) f) a b y these (known b y q))

      crossed_back : (x y : ℕ) → AreJoinedNodes n x b → AreJoinedNodes n a y → Together f x y
      crossed_back x y p q =
          chain.transitive (JoinedOrToJoin old.nodes.items (Two f a b) f) x b y (known x b p)
          (chain.transitive (JoinedOrToJoin old.nodes.items (Two f a b) f) b a y
          (chain.symmetric (JoinedOrToJoin old.nodes.items (Two f a b) f) a b these) (known a y q))

  news_len : (k : Option (ℕ × ℕ)) → length (events_of f k) ≡ some_count k
  news_len None = refl
  news_len (Some p) = refl

  counted : length new.log.items + seen_all new.nodes.items ≤ length old.log.items + seen_all old.nodes.items
  counted =
      let within = slice_get_within old.nodes.items f n was in
      let sum = sum_by-set seen_count old.nodes.items f m n within in
      let at = ap seen_count (get_or_from_slice_get old.nodes.items f n n was) in
      let now = ap (λ (l : List Nodes). sum_by seen_count l) nodes in
      let long = ap (λ (l : List Event). length l) log ∙ length-append old.log.items (events_of f news) in
      omega (arith, sum, at, now, long, news_len news, j.counted)

  pub progress_adds : AddsJoins old new (Two f a b)
  progress_adds = record {
    len = ap (λ (l : List Nodes). length l) nodes ∙ length-set old.nodes.items f m;
    sizes = sizes;
    widths = widths;
    kept = kept;
    met = λ g x y t.
        subst (λ k. SameIn new.nodes.items k x y) (sym t.0)
        (subst (λ k. SameIn new.nodes.items f k y) (sym t.1)
        (subst (λ k. SameIn new.nodes.items f a k) (sym t.2) (same_new a b j.met)));
    only =
        by_number f (λ g. (x y : ℕ) → SameIn new.nodes.items g x y → Together g x y)
        (λ x y s. only_here x y (new_same x y s))
        (λ g e x y s.
        chain.contains (JoinedOrToJoin old.nodes.items (Two f a b) g) x y (inl (subst (λ k. same_at k x y) (there g e) s)));
    logs = (events_of f news, log);
    counted = counted;
  }

-- a function that has nodes is one
pub has_nodes : (nodes : List Nodes) (f x : ℕ) → x < size_in nodes f → f < length nodes
has_nodes nodes f x l = ⊎_elim
    (λ h. h)
    (λ h. let none = ap size_at (slice_get_past nodes f h) in absurd (omega (arith, l, none)))
    (cases_lt f (length nodes))

pub nodes_read : (nodes : List Nodes) (f x : ℕ) (n : Nodes) → x < size_in nodes f → n ≡ get_or nodes f n
    → slice_get nodes f ≡ Some n
nodes_read nodes f x n l e = slice_get_read nodes (length nodes) f n refl (has_nodes nodes f x l) e
