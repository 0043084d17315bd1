-- A goroutine that begins shows the record with which it begins. `main` is looked up by its name; a child gets the words and regions that
-- the record of its parent has at the start.
use Rattle.std.proofs.Common.{◌≡◌, ◌<◌, ◌+◌, ◌++◌, arith, IfOk, Result, Ok, Err, if◌then◌else◌, bytes_eq, codes, drop, ℕ, zero, suc, Bool, true, false, List, [], ◌∷◌, Option, Some, None, refl, sym, ap, ◌∙◌, subst, length, map, slice_get}
use Rattle.std.proofs.lemmas.List.{drop_more}
use Rattle.std.proofs.lemmas.Option.{get_or_from_slice_get, same_Some, slice_get_within}
use Rattle.rgo_sound.specs.Code.Checked.{IsChecked}
use Rattle.rgo_sound.specs.Code.Code.{Code, CodeFn, CodeOp, Go}
use Rattle.rgo_core.specs.Core.{Setup}
use Rattle.rgo_core.specs.Laws.{child_of}
use Rattle.rgo_core.specs.Next.{IsAtOp}
use Rattle.rgo_core.specs.runs.Opening.{first_of, main_words}
use Rattle.rgo_core.specs.Records.{Record}
use Rattle.rgo_core.specs.Channels.Records.{at_rest}
use Rattle.rgo_core.specs.Frames.shown.WordFrames.{bare_all, word_called, words_of}
use Rattle.rgo_core_steps.proofs.record_steps.After.{child_is}
use Rattle.rgo_core_steps.specs.After.{child}
use Rattle.rgo_holding.specs.Holds.{IsHoldingOf}
use Rattle.rgo_holding.specs.Passing.{AreRegionsPassed, ChildHoldingBegins}
use Rattle.rgo_holding.specs.declared.holding.Holding.{Holding}
use Rattle.rgo_sound.specs.RegionMachine.Machine.{main_holder}
use Rattle.rgo_sound.specs.RegionMachine.Owed.{entry_removes, formals_of, code_function, next_duties, passed_regions, function_result_class}
use Rattle.rgo_sound.specs.RegionMachine.Regions.{Bindings, class_region}
use Rattle.rgo_sound.specs.RegionMachine.States.{NoOffer, Remove, top_names}
use Rattle.rgo_sound.specs.RegionMachine.declared.regions.Region.{Region}
use Rattle.rgo_sound.specs.RegionMachine.declared.regions.Region.TheVariants.{Global as GlobalRegion, Numbered}
use Rattle.rgo_sound.proofs.steps.Each.{main_of}
use Rattle.rgo_sound.specs.Stakes.{is_in}
use Rattle.rgo_stack.specs.Stacks.{Belongs, Stack, frames_of_stack}
use Rattle.rgo_sound.specs.Tac.declared.regions.Class.{Class}
use Rattle.rgo_body.specs.Bodies.{IsFresh, BodyIsReady, frames_of_body}
use Rattle.rgo_body.specs.Programs.{CompactProgram}
use Rattle.rgo_body.specs.Reserves.{PageReserve}
use Rattle.rgo_body.specs.Shows.{BodyShows, SideShows}
use Rattle.rgo_body.specs.declared.bodies.Body.{Body}
use Rattle.rgo_body.specs.declared.bodies.Side.{Side}
use Rattle.rgo_body.specs.declared.bodies.Side.TheVariants as side
use Rattle.rgo_body.specs.declared.nexts.Next.{Next}
use Rattle.rgo_body.proofs.Showing.{at, none_owed, owes_first, owes_next}

-- ---- the next instruction of a body that owes nothing

module _ (T : Setup) (p : CompactProgram) (b : Body) (c : Record) (next : Next) (s : BodyShows T p b c) (ready : BodyIsReady p b next)
    (rests : b.side ≡ side.AtRest) where
  pub no_offer : c.frame.holder.offer ≡ NoOffer
  no_offer = (subst (λ (k : Side). SideShows k c.side c.frame.holder.offer) rests s.side).1

  -- the record is at this instruction
  pub is_at : (op : CodeOp) → (at T p b c next s ready.is_next).instr.op ≡ op → IsAtOp T.code c op
  is_at op is =
      let x = at T p b c next s ready.is_next in
      record {
        w = x.w;
        ws = x.ws;
        frames = x.are;
        fn = next.function;
        in_fn = x.in_fn;
        instr = x.instr;
        cur = x.cur;
        is = is;
        none = none_owed T p b c next s ready;
        free = no_offer;
      }

-- ---- the regions that a start passes

pub are_passed : (pending : List ℕ) (names : Bindings) (passes : List Class)
    → ((i : ℕ) (class : Class) (p : ℕ) → slice_get passes i ≡ Some class → class_region names class ≡ Some (Numbered p)
    → is_in p pending ≡ true)
    → AreRegionsPassed pending (passed_regions names passes)
are_passed pending names [] shared = tt
are_passed pending names (k ∷ ks) shared =
    by_region (class_region names k) refl (are_passed pending names ks (λ i class p e. shared (suc i) class p e))
  where
    by_region : (o : Option Region) → class_region names k ≡ o → AreRegionsPassed pending (passed_regions names ks)
        → AreRegionsPassed pending (o ∷ passed_regions names ks)
    by_region None e l = l
    by_region (Some GlobalRegion) e l = l
    by_region (Some (Numbered p)) e l = (shared 0 k p refl e, l)

-- ---- the function `main`

pub main_here : (fns : List CodeFn) (n : ℕ) (fn : CodeFn) → slice_get fns n ≡ Some fn
    → main_words (drop n fns) n
    ≡ (if bytes_eq fn.name (codes "main") then word_called fn n [] ∷ [] else main_words (drop (n + 1) fns) (n + 1))
main_here fns n fn e =
    let after : suc n ≡ n + 1 = omega arith in
    ap (λ l. main_words l n) (drop_more fns n fn (slice_get_within fns n fn e)
    ∙ ap (λ x. x ∷ drop (n + 1) fns) (get_or_from_slice_get fns n fn fn e))
    ∙ ap (λ k. if bytes_eq fn.name (codes "main") then word_called fn n [] ∷ [] else main_words (drop (n + 1) fns) k) after

pub none_at : {A : Type 0} (xs : List A) (n : ℕ) → slice_get xs n ≡ None → n < length xs → ⊥
none_at [] n e l = omega (arith, l)
none_at (x ∷ xs) zero e l = cc
none_at (x ∷ xs) (suc n) e l = none_at xs n e (omega (arith, l))

-- checked code has a function `main`
some_main : (fns : List CodeFn) (m n : ℕ) (f : CodeFn) → slice_get fns m ≡ Some f → f.name ≡ codes "main" → main_words fns n ≡ [] → ⊥
some_main [] m n f e named none = cc
some_main (g ∷ fns) zero n f e named none =
    never (subst (λ (b : Bool). (if b then word_called g n [] ∷ [] else main_words fns (suc n)) ≡ [])
    (ap (λ (x : CodeFn). bytes_eq x.name (codes "main")) (same_Some g f e) ∙ ap (λ k. bytes_eq k (codes "main")) named) none)
  where
    never : word_called g n [] ∷ [] ≡ [] → ⊥
    never e = cc
some_main (g ∷ fns) (suc m) n f e named none =
    by_test (bytes_eq g.name (codes "main")) (some_main fns m (suc n) f e named) none
  where
    by_test : (b : Bool) → (main_words fns (suc n) ≡ [] → ⊥)
        → (if b then word_called g n [] ∷ [] else main_words fns (suc n)) ≡ [] → ⊥
    by_test true none e = cc
    by_test false none e = none e

pub has_main : (code : Code) → IsChecked code → main_words code.functions 0 ≡ [] → ⊥
has_main code checked none =
    let m = main_of code checked in some_main code.functions m.number 0 m.main m.declared m.named none

-- ---- results

pub if_ok : {A E : Type 0} {P Q : A → Type 0} (r : Result A E) → IfOk r P → ((a : A) → P a → Q a) → IfOk r Q
if_ok (Ok a) p f = f a p
if_ok (Err e) p f = tt

-- ---- bodies

module _ (T : Setup) (p : CompactProgram) (b : Body) (stack : Stack) (holding : Holding) (code : T.code ≡ p.code)
    (belongs : Belongs p.compact stack) where
  -- `main`
  pub first_shows : (n : ℕ) (fn : CodeFn) (slots : ℕ) → IsFresh stack holding [] 1 b → T.sizes.regions ≡ slots
      → main_words p.code.functions 0 ≡ word_called fn n [] ∷ [] → frames_of_stack stack ≡ word_called fn n [] ∷ []
      → IsHoldingOf slots holding (main_holder T.code (bare_all (main_words T.code.functions 0))) []
      → BodyShows T p b (first_of T.code)
  first_shows n fn slots fresh many main frames holds = record {
    code = code;
    belongs = subst (Belongs p.compact) (sym fresh.stack_is) belongs;
    frames = words;
    holds = subst (λ k. IsHoldingOf T.sizes.regions k (main_holder T.code (bare_all (main_words T.code.functions 0))) []) (sym fresh.holding_is)
        (subst (λ z. IsHoldingOf z holding (main_holder T.code (bare_all (main_words T.code.functions 0))) []) (sym many) holds);
    owes = ap (λ fs. next_duties T.code (bare_all fs)) words ∙ ap (λ k. next_duties k (bare_all (frames_of_body b))) code
        ∙ sym (owes_next p.code b fresh.queue fresh.expanded);
    side = subst (λ (k : Side). SideShows k at_rest NoOffer) (sym fresh.side) (refl, refl);
    calm = record { make = refl; claim = refl; give = refl; none = refl };
    share = sym fresh.counts;
    prints = sym fresh.prints;
    reserved = sym (ap (λ (r : PageReserve). r.pages) fresh.reserved);
    refused = sym fresh.refused;
  }
    where
      words : main_words T.code.functions 0 ≡ frames_of_body b
      words = ap (λ (k : Code). main_words k.functions 0) code ∙ main ∙ sym frames ∙ sym (ap frames_of_stack fresh.stack_is)

  -- a goroutine that was started
  pub child_shows : (c : Record) (f : ℕ) (callee : CodeFn) (from : List ℕ) (passes : List Class) (removes : List ℕ)
      (a : IsAtOp T.code c (Go f from passes removes)) → code_function T.code f ≡ Some callee
      → IsFresh stack holding (entry_removes (code_function p.code f)) 0 b
      → frames_of_stack stack ≡ word_called callee f (words_of a.w from) ∷ []
      → ChildHoldingBegins T.sizes.regions holding c.frame.holder.pending (formals_of (code_function T.code f))
      (passed_regions (top_names c.frame.holder.environments) passes)
      → BodyShows T p b (child T.code c)
  child_shows c f callee from passes removes a is fresh frames begins =
      subst (BodyShows T p b) (sym (child_is T a callee is)) (record {
        code = code;
        belongs = subst (Belongs p.compact) (sym fresh.stack_is) belongs;
        frames = words;
        holds = subst (λ k. IsHoldingOf T.sizes.regions k (child_of T c a f callee from).frame.holder []) (sym fresh.holding_is)
            (begins (function_result_class (code_function T.code f)));
        owes = ap (λ fs. map Remove (entry_removes (code_function T.code f)) ++ next_duties T.code (bare_all fs)) words
            ∙ ap (λ k. map Remove (entry_removes (code_function k f)) ++ next_duties k (bare_all (frames_of_body b))) code
            ∙ sym (owes_first p.code b (map Remove (entry_removes (code_function p.code f))) fresh.queue fresh.expanded);
        side = subst (λ (k : Side). SideShows k at_rest NoOffer) (sym fresh.side) (refl, refl);
        calm = record { make = refl; claim = refl; give = refl; none = refl };
        share = sym fresh.counts;
        prints = sym fresh.prints;
        reserved = sym (ap (λ (r : PageReserve). r.pages) fresh.reserved);
        refused = sym fresh.refused;
      })
    where
      words : word_called callee f (words_of a.w from) ∷ [] ≡ frames_of_body b
      words = sym frames ∙ sym (ap frames_of_stack fresh.stack_is)
