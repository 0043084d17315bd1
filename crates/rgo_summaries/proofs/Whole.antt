-- What was begun and spread, and was named, is the least family: the parts of the other files, put together for all functions.
use Rattle.std.proofs.Common.{◌≡◌, inl, inr, ⊎_elim, ◌↔◌, ℕ, ◌<◌, ◌≤◌, ◌+◌, List, Option, Some, None, Vec, length, slice_get, refl, sym, ap, ◌∙◌, subst, arith}
use Rattle.std.specs.Global.{Global}
use Rattle.std.proofs.lemmas.Option.{slice_get_within}
use Rattle.rgo_tac.specs.declared.regions.Member.{Member}
use Rattle.rgo_tac.specs.Code.{Instr, TacFn, Tac}
use Rattle.rgo_tac.specs.Joins.{joins}
use Rattle.rgo_classes.specs.declared.classes.Summary.{Summary}
use Rattle.rgo_classes.specs.Classes.{AreNamed, outer_members}
use Rattle.rgo_classes.specs.Labels.{label_of, member_index}
use Rattle.rgo_classes.specs.Naming.{AreLike}
use Rattle.rgo_classes.specs.Same.{AreSame}
use Rattle.rgo_summaries.specs.declared.nodes.Nodes.{Nodes}
use Rattle.rgo_summaries.specs.declared.progress.Site.{Site}
use Rattle.rgo_summaries.specs.Beginning.{AreBegun, HasBegun, IsSite, own_in}
use Rattle.rgo_summaries.specs.Calls.{CallParts, call_and_callee_at, member}
use Rattle.rgo_summaries.specs.Families.{IsLeastFamily, outer_classes}
use Rattle.rgo_summaries.specs.Joining.{label_at, size_of}
use Rattle.rgo_summaries.specs.Kinds.{kinds_of, kinds_to, width_of}
use Rattle.rgo_summaries.specs.Names.{SummaryNames}
use Rattle.rgo_summaries.specs.Nodes.{JoinsAtFirst, Callee, IsOuter, NodeKind, Own}
use Rattle.rgo_summaries.specs.Progress.{Carries, HasRoom, Inside, IsSpread, SameIn, same_at, size_at, size_in, width_at, width_in}
use Rattle.rgo_summaries.specs.Spreading.{Spreads, itself}
use Rattle.rgo_summaries.specs.Views.{call_sites_of}
use Rattle.rgo_summaries.proofs.Adding.{OneIn, one_in}
use Rattle.rgo_summaries.proofs.Carried.{Block}
use Rattle.rgo_summaries.proofs.Chains.{IsEquivalence}
use Rattle.rgo_summaries.proofs.Kinding.{call_room, call_within, kinds_call, kinds_first, kinds_longer, kinds_own, outer_width}
use Rattle.rgo_summaries.proofs.Least.{HasBlock, Solved, is_least, number_member}
use Rattle.rgo_summaries.proofs.Naming.{ByNumber, names_along, numbers_named}
use Rattle.rgo_summaries.proofs.Outer.{some_get}
use Rattle.rgo_summaries.proofs.Standing.{call_here}

-- what the nodes of a function represent
abbrev pub kind_at : Tac → Option TacFn → ℕ → Option NodeKind
kind_at code None x = None
kind_at code (Some f) x = slice_get (kinds_of code f) x

module _ (code : Tac) (begun : List Nodes) (sites : List (Vec Site Global)) (b : AreBegun code begun sites) where
  abbrev kinds : ℕ → ℕ → Option NodeKind
  kinds n = kind_at code (slice_get code.functions n)

  kind_known : (n x : ℕ) (f : TacFn) (k : NodeKind) → slice_get code.functions n ≡ Some f
      → slice_get (kinds_of code f) x ≡ Some k
      → kinds n x ≡ Some k
  kind_known n x f k e h = ap (λ o. kind_at code o x) e ∙ h

  -- ---- where a function is called

  site_callee : (g : ℕ) (s : Site) (i : IsSite code g s) → slice_get code.functions g ≡ Some i.callee
  site_callee g s i =
      ap (slice_get code.functions) (sym i.calls) ∙ (call_here code i.f i.at i.call i.callee i.here).known

  site_width : (g : ℕ) (s : Site) (i : IsSite code g s) → width_in begun g ≡ width_of i.callee
  site_width g s i = (b.begun g i.callee (site_callee g s i)).width

  pub room : (g : ℕ) → HasRoom begun (width_in begun g) (call_sites_of sites g)
  room g s c =
      let i = b.are_sites g s c in
      let size = (b.begun s.caller i.f i.caller).size in (
        omega (arith, slice_get_within code.functions s.caller i.f i.caller, b.len),
        omega (arith, size, site_width g s i, i.base, call_room code i.f i.at i.call i.callee i.here),
      )

  blocks : (g n base : ℕ) → Carries sites g n base → Block code kinds (Inside begun) g n base
  blocks g n base c =
      let s : Site = record { caller = n; base = base } in
      let i = b.are_sites g s c in
      record {
        f = i.f;
        caller = i.caller;
        at = i.at;
        call = i.call;
        callee = i.callee;
        here = i.here;
        calls = i.calls;
        nodes = λ k inside.
            kind_known n (base + k) i.f (Callee i.at k) i.caller
            (ap (λ (l : ℕ). slice_get (kinds_of code i.f) (l + k)) i.base
            ∙ kinds_call code i.f i.at i.call i.callee i.here (length i.f.body) k
            (call_within code i.f i.at i.call i.callee i.here) (omega (arith, inside, site_width g s i)));
      }

  -- ---- functions

  module _ (n : ℕ) (f : TacFn) (k : slice_get code.functions n ≡ Some f) where
    has : HasBegun code n f begun sites (length f.body)
    has = b.begun n f k

    outer_inside : (i : ℕ) → IsOuter f i → Inside begun n i
    outer_inside i o = omega (arith, outer_width f i o, has.width)

    pub own_size : length f.variables + 2 ≤ size_in begun n
    own_size = omega (arith, has.size, kinds_first code f, kinds_longer code f 0 (length f.body) (omega arith))

    inside_own : (i : ℕ) → Inside begun n i → kinds n i ≡ Some (Own (member i))
    inside_own i l =
        kind_known n i f (Own (member i)) k (kinds_own code f (length f.body) i (omega (arith, l, has.width)))

    begins : (x y : ℕ) → SameIn begun n x y → AreSame (JoinsAtFirst code f (kinds n)) x y
    begins x y s = subst (λ o. AreSame (JoinsAtFirst code f (kind_at code o)) x y) (sym k) (has.sound x y s)

    joined_own : (at : ℕ) (instr : Instr) (p q : Member) → slice_get f.body at ≡ Some instr
        → joins f instr.op ≡ Some (p, q)
        → SameIn begun n (member_index p) (member_index q)
    joined_own at instr p q here e =
        has.met at (member_index p) (member_index q) (slice_get_within f.body at instr here)
        (inl (record { one = p; other = q; joined = ap (own_in f) here ∙ e; x_is = refl; y_is = refl }))

    has_block : (at : ℕ) (callee : TacFn) (call : CallParts) → call_and_callee_at code f at ≡ Some (call, callee)
        → HasBlock (SameIn begun) (Carries sites) n f call callee
    has_block at callee call here = record {
      base = length (kinds_to code f at);
      carries = has.called at call callee (call_within code f at call callee here) here;
      passes = λ i a o p like.
          has.met at (length (kinds_to code f at) + i) (member_index a) (call_within code f at call callee here)
          (inr (record {
            call = call;
            callee = callee;
            number = i;
            here = here;
            passes = record { actual = a; outer = o; passes = p; pointer_like = like; x_is = refl; y_is = refl };
          }));
    }

  -- ---- all functions

  module _ (final : List Nodes) (spread : IsSpread begun final sites) where
    now_sound : (n x y : ℕ) → OneIn final n x y → Spreads (SameIn begun) (Inside begun) (Carries sites) n x y
    now_sound n x y h = ⊎_elim
        (λ e. subst (Spreads (SameIn begun) (Inside begun) (Carries sites) n x) e (itself n x))
        (λ s. spread.sound n x y s)
        h

    solved : Solved code kinds (SameIn begun) (Inside begun) (Carries sites) (OneIn final)
    solved = record {
      outer = λ n i f k o. outer_inside n f k i o;
      inner = λ n i f k l. inside_own n f k i l;
      begun = λ n x y f k s. begins n f k x y s;
      blocks = blocks;
      own = λ n at f instr p q k here e. joined_own n f k at instr p q here e;
      called = λ n at f callee call k here. has_block n f k at callee call here;
      equal = λ n. one_in final n;
      sound = now_sound;
      whole = λ n x y s. spread.whole n x y s;
    }

    final_len : length final ≡ length code.functions
    final_len = spread.len ∙ b.len

    module _ (n : ℕ) (f : TacFn) (m : Nodes) (k : slice_get code.functions n ≡ Some f)
        (at : slice_get final n ≡ Some m) where
      pub final_size : length f.variables + 2 ≤ size_of m
      final_size = omega (arith, own_size n f k, spread.sizes n, ap size_at at)

      outer_below : (i : ℕ) → IsOuter f i → i < size_of m
      outer_below i o =
          omega (arith, outer_inside n f k i o, spread.widths n, ap width_at at, (spread.are n m at).width)

      abbrev Like : ℕ → ℕ → Type 0
      Like = ByNumber (AreLike m.labels.items)

      label_is : (i : ℕ) → label_of m.labels.items (member i) ≡ label_at m i
      label_is i = ap (label_at m) (number_member i)

      like_now : (i j : ℕ) → IsOuter f i → IsOuter f j → Like i j ↔ OneIn final n i j
      like_now i j oi oj = (
        λ e. inr (subst (λ o. same_at o i j) (sym at)
            (outer_below i oi, outer_below j oj, sym (label_is i) ∙ e ∙ label_is j)),
        λ h. ⊎_elim
            (λ e. ap (λ x. label_of m.labels.items (member x)) e)
            (λ s. let t = subst (λ o. same_at o i j) at s in label_is i ∙ t.2 ∙ sym (label_is j))
            h,
      )

      like_equal : IsEquivalence (AreLike m.labels.items)
      like_equal = record { reflexive = λ p. refl; symmetric = λ p q e. sym e; transitive = λ p q r e g. e ∙ g }

      names : (s : Summary) → AreNamed (AreLike m.labels.items) f (outer_members f) (outer_classes s)
          → SummaryNames (OneIn final n) f s
      names s a =
          names_along Like (OneIn final n) f s like_now (numbers_named (AreLike m.labels.items) like_equal f s a)

    module _ (all : List Summary) (len : length all ≡ length code.functions)
        (named : (n : ℕ) (f : TacFn) (m : Nodes) (s : Summary) → slice_get code.functions n ≡ Some f
        → slice_get final n ≡ Some m
        → slice_get all n ≡ Some s → AreNamed (AreLike m.labels.items) f (outer_members f) (outer_classes s)) where
      named_now : (n : ℕ) (f : TacFn) (s : Summary) → slice_get code.functions n ≡ Some f → slice_get all n ≡ Some s
          → SummaryNames (OneIn final n) f s
      named_now n f s k e =
          let m = some_get final n (omega (arith, slice_get_within code.functions n f k, final_len)) in
          names n f m.0 k m.1 s (named n f m.0 s k m.1 e)

      pub least_family : IsLeastFamily code all
      least_family =
          is_least code kinds (SameIn begun) (Inside begun) (Carries sites) (OneIn final) solved all len named_now
