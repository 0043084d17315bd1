-- Functions begin, instruction after instruction.
use Rattle.std.proofs.Common.{◌≡◌, ◌≢◌, inl, inr, ⊎_elim, ℕ, ◌<◌, ◌+◌, List, [], ◌∷◌, Some, None, Vec, length, slice_get, refl, sym, ap, ◌∙◌, subst, arith, length-append}
use Rattle.std.specs.Global.{Global}
use Rattle.std.specs.List.{Contains}
use Rattle.std.proofs.lemmas.Option.{none-some, same_Some, slice_get_within}
use Rattle.rgo_tac.specs.Code.{TacFn, Tac}
use Rattle.rgo_classes.specs.Same.{AreSame}
use Rattle.rgo_classes.proofs.Chains as chain
use Rattle.rgo_classes.proofs.Moving.{no_member}
use Rattle.rgo_summaries.specs.declared.nodes.Nodes.{Nodes}
use Rattle.rgo_summaries.specs.declared.progress.Event.{Event}
use Rattle.rgo_summaries.specs.declared.progress.Progress.{Progress}
use Rattle.rgo_summaries.specs.declared.progress.Site.{Site}
use Rattle.rgo_summaries.specs.Beginning.{AddsFn, AddsSites, AreBegun, BeginsAt, BeginsCall, BeginsFn, BeginsHere, HasBegun, IsSite, Of, OwnHere, PassedBelow, PassedFor, PassedHere, StepsIn, Unchanged, site}
use Rattle.rgo_summaries.specs.Calls.{CallParts, call_and_callee_at}
use Rattle.rgo_summaries.specs.Kinds.{call_kinds, kinds_of, kinds_to, width_of}
use Rattle.rgo_summaries.specs.Nodes.{JoinsAtFirst, NodeKind}
use Rattle.rgo_summaries.specs.Progress.{AddsJoins, JoinedOrToJoin, GrowsIn, IsProgress, SameIn, same_at, size_at, size_in, width_at, width_in}
use Rattle.rgo_summaries.specs.Views.{call_sites_of}
use Rattle.rgo_summaries.proofs.Adding.{OneIn, one_in}
use Rattle.rgo_summaries.proofs.Chains.{least}
use Rattle.rgo_summaries.proofs.Growing.{last_is, unchanged_before}
use Rattle.rgo_summaries.proofs.Kinding.{begins, call_len, kinds_first, kinds_next, no_own_in_call, outer_width}
use Rattle.rgo_summaries.proofs.Outer.{below_or_last}

-- ---- nodes are added to a function, and joined

pub grows_none : (p : Progress) (n : ℕ) → GrowsIn p p n 0
grows_none p n = record {
  len = refl;
  size = omega arith;
  sizes = λ g e. refl;
  widths = λ g. refl;
  kept = λ g x y s. s;
  only = λ g x y s. inr s;
}

module _ (p q r : Progress) (n count : ℕ) (These : ℕ → ℕ → Type 0) (grows : GrowsIn p q n count)
    (adds : AddsJoins q r (Of n These)) where
  other_only : (g : ℕ) → g ≢ n → (x y : ℕ) → SameIn r.nodes.items g x y → OneIn p.nodes.items g x y
  other_only g e x y s =
      least (JoinedOrToJoin q.nodes.items (Of n These) g) (OneIn p.nodes.items g) (one_in p.nodes.items g)
      (λ a b h. ⊎_elim (λ t. grows.only g a b t) (λ t. absurd (e t.0)) h) x y (adds.only g x y s)

  joined : (x y : ℕ) → JoinedOrToJoin q.nodes.items (Of n These) n x y → AreSame (JoinedOrToJoin p.nodes.items (Of n These) n) x y
  joined x y h = ⊎_elim
      (λ s. ⊎_elim
      (λ e. chain.reflexive (JoinedOrToJoin p.nodes.items (Of n These) n) x y e)
      (λ t. chain.contains (JoinedOrToJoin p.nodes.items (Of n These) n) x y (inl t))
      (grows.only n x y s))
      (λ t. chain.contains (JoinedOrToJoin p.nodes.items (Of n These) n) x y (inr t))
      h

  pub steps : StepsIn p.nodes.items r.nodes.items n count These
  steps = record {
    len = adds.len ∙ grows.len;
    size = adds.sizes n ∙ grows.size;
    width = adds.widths n ∙ grows.widths n;
    others = λ g e. record {
      size = adds.sizes g ∙ grows.sizes g e;
      width = adds.widths g ∙ grows.widths g;
      kept = λ x y s. adds.kept g x y (grows.kept g x y s);
      only = other_only g e;
    };
    kept = λ x y s. adds.kept n x y (grows.kept n x y s);
    met = λ x y h. adds.met n x y (refl, h);
    only = λ x y s.
        chain.along (JoinedOrToJoin q.nodes.items (Of n These) n) (JoinedOrToJoin p.nodes.items (Of n These) n) joined x y
        (adds.only n x y s);
  }

-- the same step by another name
pub steps_as : (old new : List Nodes) (n k m : ℕ) (These Those : ℕ → ℕ → Type 0) → k ≡ m
    → ((x y : ℕ) → These x y → Those x y) → ((x y : ℕ) → Those x y → These x y)
    → StepsIn old new n k These → StepsIn old new n m Those
steps_as old new n k m These Those e to from s = record {
  len = s.len;
  size = omega (arith, s.size, e);
  width = s.width;
  others = s.others;
  kept = s.kept;
  met = λ x y h. s.met x y (from x y h);
  only = λ x y h.
      chain.along (JoinedOrToJoin old (Of n These) n) (JoinedOrToJoin old (Of n Those) n)
      (λ a b t. chain.contains (JoinedOrToJoin old (Of n Those) n) a b
      (⊎_elim (λ d. inl d) (λ (d : Of n These n a b). inr (d.0, to a b d.1)) t)) x y (s.only x y h);
}

-- ---- one instruction

module _ (code : Tac) (n : ℕ) (f : TacFn) (at : ℕ) (old new : List Nodes) (sites sites' : List (Vec Site Global))
    (known : slice_get code.functions n ≡ Some f) (size : size_in old n ≡ length (kinds_to code f at)) where
  -- a call
  module _ (call : CallParts) (callee : TacFn) (here : call_and_callee_at code f at ≡ Some (call, callee))
      (b : BeginsCall n f call callee old new sites sites') where
    abbrev Below : ℕ → ℕ → Type 0
    Below = PassedBelow f call callee (size_in old n) (width_of callee)

    below_here : (x y : ℕ) → Below x y → BeginsHere code f at x y
    below_here x y h = inr (record {
      call = call;
      callee = callee;
      number = h.0;
      here = here;
      passes = subst (λ k. PassedFor f call callee k h.0 x y) size h.2;
    })

    abbrev SameCall : CallParts → TacFn → Type 0
    SameCall call' callee' = ◌≡◌ {A = CallParts × TacFn} (call', callee') (call, callee)

    same_call : (call' : CallParts) (callee' : TacFn) → call_and_callee_at code f at ≡ Some (call', callee')
        → SameCall call' callee'
    same_call call' callee' e = same_Some (call', callee') (call, callee) (sym e ∙ here)

    passed_below : (x y : ℕ) → PassedHere code f at x y → Below x y
    passed_below x y h =
        let same : SameCall h.call h.callee = same_call h.call h.callee h.here in
        let p : PassedFor f call callee (length (kinds_to code f at)) h.number x y =
        subst (λ (c : CallParts × TacFn). PassedFor f c.0 c.1 (length (kinds_to code f at)) h.number x y) same h.passes
        in (
          h.number,
          outer_width callee h.number p.outer,
          subst (λ k. PassedFor f call callee k h.number x y) (sym size) p,
        )

    here_below : (x y : ℕ) → BeginsHere code f at x y → Below x y
    here_below x y h = ⊎_elim
        (λ o. absurd (none-some (o.one, o.other) (sym (no_own_in_call code f at call callee here) ∙ o.joined)))
        (λ p. passed_below x y p)
        h

    is_site : (g : ℕ) (s : Site) → g ≡ call.function → s ≡ record { caller = n; base = size_in old n } → IsSite code g s
    is_site g s e q = record {
      f = f;
      caller = ap (λ (t : Site). slice_get code.functions t.caller) q ∙ known;
      at = at;
      call = call;
      callee = callee;
      here = here;
      calls = sym e;
      base = ap (λ (t : Site). t.base) q ∙ size;
    }

    call_sites : AddsSites code sites sites'
    call_sites = record {
      len = b.lists.len;
      kept = b.lists.kept;
      only = λ g s c. ⊎_elim (λ d. inl d) (λ d. inr (is_site g s d.0 d.1)) (b.lists.only g s c);
    }

    call_listed : (call' : CallParts) (callee' : TacFn) → call_and_callee_at code f at ≡ Some (call', callee')
        → Contains (call_sites_of sites' call'.function) (site code f n at)
    call_listed call' callee' e =
        let same = ap (λ (c : CallParts × TacFn). c.0.function) (same_call call' callee' e) in
        subst (λ g. Contains (call_sites_of sites' g) (site code f n at)) (sym same)
        (subst (λ k. Contains (call_sites_of sites' call.function) (record { caller = n; base = k })) size b.lists.here)

    pub call_begins : BeginsAt code n f at old new sites sites'
    call_begins = record {
      step =
          steps_as old new n (width_of callee) (length (call_kinds at (call_and_callee_at code f at))) Below
          (BeginsHere code f at)
          (sym (call_len code f at call callee here)) below_here here_below b.step;
      sites_added = call_sites;
      called = call_listed;
    }

  -- another instruction
  pub own_begins_at : call_and_callee_at code f at ≡ None → StepsIn old new n 0 (OwnHere f at) → sites' ≡ sites
      → BeginsAt code n f at old new sites sites'
  own_begins_at none s same = record {
    step =
        steps_as old new n 0 (length (call_kinds at (call_and_callee_at code f at))) (OwnHere f at) (BeginsHere code f at)
        (ap (λ o. length (call_kinds at o)) (sym none)) (λ x y h. inl h)
        (λ x y h. ⊎_elim (λ o. o) (λ p. absurd (none-some (p.call, p.callee) (sym none ∙ p.here))) h) s;
    sites_added = record {
      len = ap (λ (l : List (Vec Site Global)). length l) same;
      kept = λ g t c. subst (λ (l : List (Vec Site Global)). Contains (call_sites_of l g) t) (sym same) c;
      only = λ g t c. inl (subst (λ (l : List (Vec Site Global)). Contains (call_sites_of l g) t) same c);
    };
    called = λ call callee e. absurd (none-some (call, callee) (sym none ∙ e));
  }

-- ---- one function

unchanged_more : (a b c : List Nodes) (g : ℕ) → Unchanged a b g → Unchanged b c g → Unchanged a c g
unchanged_more a b c g u v = record {
  size = v.size ∙ u.size;
  width = v.width ∙ u.width;
  kept = λ x y s. v.kept x y (u.kept x y s);
  only = λ x y s. ⊎_elim (λ e. inl e) (λ t. u.only x y t) (v.only x y s);
}

added_more : (code : Tac) (a b c : List (Vec Site Global)) → AddsSites code a b → AddsSites code b c
    → AddsSites code a c
added_more code a b c u v = record {
  len = v.len ∙ u.len;
  kept = λ g s h. v.kept g s (u.kept g s h);
  only = λ g s h. ⊎_elim (λ t. u.only g s t) (λ t. inr t) (v.only g s h);
}

added_none : (code : Tac) (a : List (Vec Site Global)) → AddsSites code a a
added_none code a = record { len = refl; kept = λ g s h. h; only = λ g s h. inl h }

pub fn_begins : (code : Tac) (n : ℕ) (f : TacFn) (old new : Progress) (sites : List (Vec Site Global))
    → length old.nodes.items ≡ n
    → AddsFn f old new → BeginsFn code n f old.nodes.items new.nodes.items sites sites 0
fn_begins code n f old new sites len a =
    let last = ap (slice_get new.nodes.items) (sym len) ∙ last_is old new a.own a.nodes in
    record {
      len = ap (λ (l : List Nodes). length l) a.nodes ∙ length-append old.nodes.items (a.own ∷ [])
          ∙ ap (λ k. k + 1) len;
      others = λ g e. unchanged_before old new n a.own a.nodes len g e;
      sites_added = added_none code sites;
      begun = record {
        size = ap size_at last ∙ a.are_own.size ∙ sym (kinds_first code f);
        width = ap width_at last ∙ a.are_own.width;
        sound = λ x y s.
            chain.reflexive (JoinsAtFirst code f (slice_get (kinds_of code f))) x y
            (a.are_own.alone x y (subst (λ k. same_at k x y) last s));
        met = λ at x y l h. absurd (omega (arith, l));
        called = λ at call callee l h. absurd (omega (arith, l));
      };
    }

module _ (code : Tac) (n : ℕ) (f : TacFn) (at : ℕ) (old mid new : List Nodes)
    (sites sites1 sites2 : List (Vec Site Global))
    (b : BeginsFn code n f old mid sites sites1 at) (s : BeginsAt code n f at mid new sites1 sites2) where
  sound_here : (x y : ℕ) → JoinedOrToJoin mid (Of n (BeginsHere code f at)) n x y
      → AreSame (JoinsAtFirst code f (slice_get (kinds_of code f))) x y
  sound_here x y h = ⊎_elim
      (λ t. b.begun.sound x y t)
      (λ (t : Of n (BeginsHere code f at) n x y). chain.contains (JoinsAtFirst code f (slice_get (kinds_of code f))) x y
      (begins code f at x y t.1))
      h

  pub fn_further : BeginsFn code n f old new sites sites2 (at + 1)
  fn_further = record {
    len = s.step.len ∙ b.len;
    others = λ g e. unchanged_more old mid new g (b.others g e) (s.step.others g e);
    sites_added = added_more code sites sites1 sites2 b.sites_added s.sites_added;
    begun = record {
      size =
          omega (
            arith,
            s.step.size,
            b.begun.size,
            ap (λ (k : List NodeKind). length k) (kinds_next code f at),
            length-append (kinds_to code f at) (call_kinds at (call_and_callee_at code f at)),
          );
      width = s.step.width ∙ b.begun.width;
      sound = λ x y h.
          chain.along (JoinedOrToJoin mid (Of n (BeginsHere code f at)) n)
          (JoinsAtFirst code f (slice_get (kinds_of code f))) sound_here x y
          (s.step.only x y h);
      met = λ k x y l h. ⊎_elim
          (λ t. s.step.kept x y (b.begun.met k x y t h))
          (λ e. s.step.met x y (subst (λ i. BeginsHere code f i x y) e h))
          (below_or_last at k l);
      called = λ k call callee l h. ⊎_elim
          (λ t. s.sites_added.kept call.function (site code f n k) (b.begun.called k call callee t h))
          (λ e.
          subst (λ i. Contains (call_sites_of sites2 call.function) (site code f n i)) (sym e)
          (s.called call callee (subst (λ i. call_and_callee_at code f i ≡ Some (call, callee)) e h)))
          (below_or_last at k l);
    };
  }

-- ---- all functions

pub empty_progress : (p : Progress) → p.nodes.items ≡ [] → p.log.items ≡ [] → IsProgress p
empty_progress p nodes log = record {
  are = λ f n e. absurd (none-some n (sym (ap (λ (l : List Nodes). slice_get l f) nodes) ∙ e));
  logged = λ f x y ix. absurd (omega (arith, ix, ap (λ (l : List Nodes). width_in l f) nodes));
  events = λ e c. absurd (no_member e (subst (λ (l : List Event). Contains l e) log c));
}

begun_kept : (code : Tac) (m : ℕ) (f : TacFn) (old new : List Nodes) (sites sites' : List (Vec Site Global)) (to : ℕ)
    → Unchanged old new m → AddsSites code sites sites' → HasBegun code m f old sites to
    → HasBegun code m f new sites' to
begun_kept code m f old new sites sites' to u a b = record {
  size = u.size ∙ b.size;
  width = u.width ∙ b.width;
  sound = λ x y s. ⊎_elim
      (λ e. chain.reflexive (JoinsAtFirst code f (slice_get (kinds_of code f))) x y e)
      (λ t. b.sound x y t)
      (u.only x y s);
  met = λ at x y l h. u.kept x y (b.met at x y l h);
  called = λ at call callee l h. a.kept call.function (site code f m at) (b.called at call callee l h);
}

-- those before n
pub record BegunBefore (code : Tac) (nodes : List Nodes) (sites : List (Vec Site Global)) (n : ℕ) : Type 0 where
  pub len : length nodes ≡ n
  pub sites_len : length sites ≡ length code.functions
  pub begun : (m : ℕ) (f : TacFn) → m < n → slice_get code.functions m ≡ Some f
      → HasBegun code m f nodes sites (length f.body)
  pub are_sites : (g : ℕ) (s : Site) → Contains (call_sites_of sites g) s → IsSite code g s

pub begun_first : (code : Tac) (nodes : List Nodes) (sites : List (Vec Site Global)) → length nodes ≡ 0
    → length sites ≡ length code.functions
    → ((g : ℕ) (s : Site) → Contains (call_sites_of sites g) s → ⊥) → BegunBefore code nodes sites 0
begun_first code nodes sites e len none = record {
  len = e;
  sites_len = len;
  begun = λ m f l. absurd (omega (arith, l));
  are_sites = λ g s c. absurd (none g s c);
}

module _ (code : Tac) (n : ℕ) (f : TacFn) (old new : List Nodes) (sites sites' : List (Vec Site Global))
    (known : slice_get code.functions n ≡ Some f) (b : BegunBefore code old sites n)
    (one : BeginsFn code n f old new sites sites' (length f.body)) where
  before_fn : (m : ℕ) (g : TacFn) → m < n → slice_get code.functions m ≡ Some g
      → HasBegun code m g new sites' (length g.body)
  before_fn m g l k =
      let apart : m ≢ n = λ e. omega (arith, l, e) in
      begun_kept code m g old new sites sites' (length g.body) (one.others m apart) one.sites_added (b.begun m g l k)

  this_fn : (m : ℕ) (g : TacFn) → m ≡ n → slice_get code.functions m ≡ Some g
      → HasBegun code m g new sites' (length g.body)
  this_fn m g e k =
      let same : f ≡ g = same_Some f g (sym known ∙ ap (slice_get code.functions) (sym e) ∙ k) in
      subst (λ i. HasBegun code i g new sites' (length g.body)) (sym e)
      (subst (λ (h : TacFn). HasBegun code n h new sites' (length h.body)) same one.begun)

  pub begun_more : BegunBefore code new sites' (n + 1)
  begun_more = record {
    len = one.len;
    sites_len = one.sites_added.len ∙ b.sites_len;
    begun = λ m g l k. ⊎_elim (λ t. before_fn m g t k) (λ e. this_fn m g e k) (below_or_last n m l);
    are_sites = λ g s c. ⊎_elim (λ t. b.are_sites g s t) (λ t. t) (one.sites_added.only g s c);
  }

pub begun_all : (code : Tac) (nodes : List Nodes) (sites : List (Vec Site Global)) (n : ℕ) → n ≡ length code.functions
    → BegunBefore code nodes sites n → AreBegun code nodes sites
begun_all code nodes sites n e b = record {
  len = b.len ∙ e;
  sites_len = b.sites_len;
  begun = λ m f k. b.begun m f (omega (arith, slice_get_within code.functions m f k, e)) k;
  are_sites = b.are_sites;
}
