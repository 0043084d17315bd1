-- Summaries that name what spreads to callers are the least family. They are a family, since what spreads is closed under calls; and every
-- family joins as much, by induction on what spreads (`Carried`).
use Rattle.std.proofs.Common.{◌≡◌, ⊎_elim, ℕ, zero, suc, ◌+◌, List, length, Option, Some, None, slice_get, refl, subst, arith}
use Rattle.std.proofs.lemmas.Option.{slice_get_within}
use Rattle.rgo_tac.specs.declared.regions.Member.{Member}
use Rattle.rgo_tac.specs.Code.{Instr, TacFn, Tac}
use Rattle.rgo_tac.specs.Joins.{joins, op_joins}
use Rattle.rgo_classes.specs.declared.classes.Summary.{Summary}
use Rattle.rgo_classes.specs.Joins.{IsPointerLike, Joins, CallJoins}
use Rattle.rgo_classes.specs.Classes.{InOneClass}
use Rattle.rgo_classes.specs.Same.{AreSame}
use Rattle.rgo_summaries.specs.Calls.{CallParts, call_and_callee_at, member, passed_member}
use Rattle.rgo_classes.specs.Labels.{member_index}
use Rattle.rgo_summaries.specs.Families.{IsFamily, IsLeastFamily, JoinsNoMore}
use Rattle.rgo_summaries.specs.Names.{SummaryNames}
use Rattle.rgo_summaries.specs.Nodes.{NodeKind, Own, IsOuter, JoinsAtFirst}
use Rattle.rgo_summaries.specs.Spreading.{Spreads, first, carried, turned, chained}
use Rattle.rgo_summaries.proofs.Carried.{AreEquivalences, Block, MeansIn, Speak, means_joins, spread_joins}
use Rattle.rgo_classes.proofs.Chains as chain
use Rattle.rgo_summaries.proofs.Chains.{least}
use Rattle.rgo_summaries.proofs.Naming.{InOne, describes_of, names_along, names_of, no_more, related, together}
use Rattle.rgo_summaries.proofs.Outer.{some_get}
use Rattle.rgo_summaries.proofs.Standing.{ByCall, call_found, either_joins, joined_pointer_like, stands}

pub number_member : (i : ℕ) → member_index (member i) ≡ i
number_member zero = refl
number_member (suc zero) = refl
number_member (suc (suc v)) = omega arith

module _ (First : ℕ → ℕ → ℕ → Type 0) (Carries : ℕ → ℕ → ℕ → Type 0) where
  -- a call has nodes, which are joined to what is passed
  pub record HasBlock (n : ℕ) (f : TacFn) (call : CallParts) (callee : TacFn) : Type 0 where
    pub base : ℕ
    pub carries : Carries call.function n base
    pub passes : (i : ℕ) (a : Member) → IsOuter callee i → passed_member call i ≡ Some a → IsPointerLike f a
        → First n (base + i) (member_index a)

module _ (code : Tac) (kinds : ℕ → ℕ → Option NodeKind) (First : ℕ → ℕ → ℕ → Type 0) (Inside : ℕ → ℕ → Type 0)
    (Carries : ℕ → ℕ → ℕ → Type 0) (Now : ℕ → ℕ → ℕ → Type 0) where
  abbrev IsFn : ℕ → TacFn → Type 0
  IsFn n f = slice_get code.functions n ≡ Some f

  -- The nodes of all functions, joined as far as joins spread.
  pub record Solved : Type 0 where
    pub outer : (n i : ℕ) (f : TacFn) → slice_get code.functions n ≡ Some f → IsOuter f i → Inside n i
    pub inner : (n i : ℕ) (f : TacFn) → slice_get code.functions n ≡ Some f → Inside n i
        → kinds n i ≡ Some (Own (member i))
    pub begun : (n x y : ℕ) (f : TacFn) → slice_get code.functions n ≡ Some f → First n x y
        → AreSame (JoinsAtFirst code f (kinds n)) x y
    pub blocks : (g n base : ℕ) → Carries g n base → Block code kinds Inside g n base
    pub own : (n at : ℕ) (f : TacFn) (instr : Instr) (a b : Member) → slice_get code.functions n ≡ Some f
        → slice_get f.body at ≡ Some instr → joins f instr.op ≡ Some (a, b) → First n (member_index a) (member_index b)
    pub called : (n at : ℕ) (f callee : TacFn) (call : CallParts) → slice_get code.functions n ≡ Some f
        → call_and_callee_at code f at ≡ Some (call, callee) → HasBlock First Carries n f call callee
    pub equal : AreEquivalences Now
    pub sound : (n x y : ℕ) → Now n x y → Spreads First Inside Carries n x y
    pub whole : (n x y : ℕ) → Spreads First Inside Carries n x y → Now n x y

  module _ (solved : Solved) where
    -- ---- it is a family

    module _ (family : List Summary) (len : length family ≡ length code.functions)
        (named : (n : ℕ) (f : TacFn) (s : Summary) → slice_get code.functions n ≡ Some f → slice_get family n ≡ Some s
        → SummaryNames (Now n) f s) where
      summary_of : (n : ℕ) (f : TacFn) → IsFn n f → (s : Summary) × (slice_get family n ≡ Some s)
      summary_of n f k = some_get family n (omega (arith, slice_get_within code.functions n f k, len))

      function_of : (n : ℕ) (s : Summary) → slice_get family n ≡ Some s → (f : TacFn) × IsFn n f
      function_of n s k = some_get code.functions n (omega (arith, slice_get_within family n s k, len))

      speak : Speak code family Now
      speak n g i j k oi oj h =
          let s = summary_of n g k in
          (s.0, s.1, together (Now n) g s.0 (named n g s.0 k s.1) i j oi oj h)

      contained : (n i j : ℕ) (f : TacFn) → IsFn n f → IsOuter f i → IsOuter f j → Now n i j → InOne family f i j
      contained n i j f k oi oj h =
          spread_joins code family Now solved.equal speak kinds First Inside Carries solved.begun solved.blocks
          (λ g x y hx hy s m. solved.whole g x y s)
          n i j f (member i) (member j) k (solved.inner n i f k (solved.outer n i f k oi))
          (solved.inner n j f k (solved.outer n j f k oj)) (solved.sound n i j h)

      call_summary : (o : Option Summary) (call : CallParts) (a b : Member) → CallJoins o call.to call.from a b
          → (s : Summary) × (o ≡ Some s) × CallJoins (Some s) call.to call.from a b
      call_summary None call a b h = absurd h
      call_summary (Some s) call a b h = (s, refl, h)

      module _ (n : ℕ) (f : TacFn) (k : IsFn n f) where
        by_block : (call : CallParts) (callee : TacFn) (i j : ℕ) (a b : Member) → HasBlock First Carries n f call callee
            → IsFn call.function callee → IsOuter callee i → IsOuter callee j → Now call.function i j
            → passed_member call i ≡ Some a → passed_member call j ≡ Some b → IsPointerLike f a → IsPointerLike f b
            → Spreads First Inside Carries n (member_index a) (member_index b)
        by_block call callee i j a b block known oi oj h p q pa pb =
            chained (turned (first (block.passes i a oi p pa)))
            (chained
            (carried block.carries (solved.outer call.function i callee known oi)
            (solved.outer call.function j callee known oj)
            (solved.sound call.function i j h))
            (first (block.passes j b oj q pb)))

        by_call : (a b : Member) (j : Joins family f a b) → ByCall family j.instr.op a b
            → Now n (member_index a) (member_index b)
        by_call a b j h =
            let s = call_summary (slice_get family h.0.function) h.0 a b h.2 in
            let g = function_of h.0.function s.0 s.1 in
            let x = stands s.0 h.0 s.2.0 a s.2.2 in
            let y = stands s.0 h.0 s.2.0 b s.2.3 in
            let r =
            related (Now h.0.function) g.0 s.0 (named h.0.function g.0 s.0 g.1 s.1) x.0 y.0 s.2.0 s.2.1 x.1 y.1
            in
            let here = call_found code f j.at h.0 g.0 (record {
              instr = j.instr;
              here = j.here;
              calls = h.1;
              known = g.1;
            }) in
            solved.whole n (member_index a) (member_index b)
            (by_block h.0 g.0 x.0 y.0 a b
            (solved.called n j.at f g.0 h.0 k here) g.1 r.0 r.1 r.2 x.2 y.2 j.first j.second)

        by_itself : (a b : Member) (j : Joins family f a b) → op_joins j.instr.op ≡ Some (a, b)
            → Now n (member_index a) (member_index b)
        by_itself a b j e =
            solved.whole n (member_index a) (member_index b)
            (first (solved.own n j.at f j.instr a b k j.here (joined_pointer_like f j.instr.op a b e j.first j.second)))

        contains : (a b : Member) → Joins family f a b → Now n (member_index a) (member_index b)
        contains a b j = ⊎_elim (λ h. by_call a b j h) (λ e. by_itself a b j e)
            (either_joins family j.instr.op a b j.joined)

        contains_chains : (a b : Member) → InOneClass family f a b → Now n (member_index a) (member_index b)
        contains_chains a b s =
            least (Joins family f) (λ a b. Now n (member_index a) (member_index b))
            (record {
              reflexive = λ a. (solved.equal n).reflexive (member_index a);
              symmetric = λ a b h. (solved.equal n).symmetric (member_index a) (member_index b) h;
              transitive = λ a b c h g. (solved.equal n).transitive (member_index a) (member_index b) (member_index c) h g;
            })
            contains a b s

        back : (i j : ℕ) → InOne family f i j → Now n i j
        back i j h =
            subst (λ x. Now n x j) (number_member i)
            (subst (λ y. Now n (member_index (member i)) y) (number_member j) (contains_chains (member i) (member j) h))

      is_family : IsFamily code family
      is_family = record {
        len = len;
        own = λ n f s k e.
            describes_of family f s
            (names_along (Now n) (InOne family f) f s
            (λ i j oi oj. (λ h. contained n i j f k oi oj h, λ h. back n f k i j h))
            (named n f s k e));
      }

      -- ---- every family joins as much

      module _ (other : List Summary) (closed : IsFamily code other) where
        abbrev InOther : ℕ → ℕ → ℕ → Type 0
        InOther n i j = (f : TacFn) → IsFn n f → InOne other f i j

        equal_other : AreEquivalences InOther
        equal_other n = record {
          reflexive = λ i f k. chain.reflexive (Joins other f) (member i) (member i) refl;
          symmetric = λ i j h f k. chain.symmetric (Joins other f) (member i) (member j) (h f k);
          transitive = λ i j l h g f k. chain.transitive (Joins other f) (member i) (member j) (member l) (h f k)
              (g f k);
        }

        speak_other : Speak code other InOther
        speak_other n g i j k oi oj h =
            let t = some_get other n (omega (arith, slice_get_within code.functions n g k, closed.len)) in (
              t.0,
              t.1,
              together (InOne other g) g t.0 (names_of other g t.0 (closed.own n g t.0 k t.1)) i j oi oj (h g k),
            )

        known_other : (g x y : ℕ) → Inside g x → Inside g y
            → MeansIn code other InOther equal_other speak_other kinds First Inside Carries g x y
            → InOther g x y
        known_other g x y hx hy m f k =
            means_joins code other InOther equal_other speak_other kinds First Inside Carries g x y f (member x)
            (member y) k
            (solved.inner g x f k hx) (solved.inner g y f k hy) m

        in_other : (n i j : ℕ) (f : TacFn) → IsFn n f → IsOuter f i → IsOuter f j → Now n i j → InOne other f i j
        in_other n i j f k oi oj h =
            spread_joins code other InOther equal_other speak_other kinds First Inside Carries solved.begun
            solved.blocks
            (λ g x y hx hy s m. known_other g x y hx hy m)
            n i j f (member i) (member j) k (solved.inner n i f k (solved.outer n i f k oi))
            (solved.inner n j f k (solved.outer n j f k oj)) (solved.sound n i j h)

        joins_no_more : (n : ℕ) (s t : Summary) → slice_get family n ≡ Some s → slice_get other n ≡ Some t
            → JoinsNoMore s t
        joins_no_more n s t e g =
            let f = function_of n s e in
            no_more (Now n) (InOne other f.0) f.0 s t (named n f.0 s f.1 e)
            (names_of other f.0 t (closed.own n f.0 t f.1 g))
            (λ i j oi oj h. in_other n i j f.0 f.1 oi oj h)

      pub is_least : IsLeastFamily code family
      is_least = record { closed = is_family; least = joins_no_more }
