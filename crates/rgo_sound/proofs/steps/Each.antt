-- Pages, offers, acknowledgements, ends and the start keep what holds of a state; and so does each step. These few change neither
-- stakes nor names, so one lemma is enough for all of them (`same_stakes`); the other steps have files of their own.
use Rattle.std.proofs.Common.{◌≡◌, ℕ, zero, suc, ◌+◌, ◌<◌, Bool, true, false, List, [], ◌∷◌, ◌++◌, map, length, Option}
use Rattle.std.proofs.Common.{Some, None, refl, sym, ap, ◌∙◌, subst, nat_eq, if◌then◌else◌, arith, true≢false}
use Rattle.std.proofs.Common.{slice_get, slice_set, option_map, option_and_then, Contains}
use Rattle.std.proofs.lemmas.Option.{slice_get_within, same_Some, slice_get-map}
use Rattle.std.specs.Prelude.{bytes_eq, codes}
use Rattle.std.proofs.lemmas.Slice.Eq.{bytes_eq-Decides}
use Rattle.rgo_sound.proofs.Places.{contains_here, contains_nil, ascending_distinct, get_some}
use Rattle.rgo_sound.proofs.Tests.{split, eq_of}
use Rattle.rgo_sound.proofs.plain.Steps.{Yields, yields, yields_none, yields_if, yields_then, yields_at, yields_from}
use Rattle.rgo_sound.proofs.duties.Attends.{fine_with, total_set, with_info_same, with_info_other, length_with_info, duties_go}
use Rattle.rgo_sound.proofs.names.Pending.{shares_next}
use Rattle.rgo_sound.proofs.calls.Enters.{IsParameter, enters}
use Rattle.rgo_sound.proofs.duties.Instructs.{fine_plain, fine_move}
use Rattle.rgo_sound.proofs.steps.OneStep.{OneDone, one_done, meet_done, IsSimple}
use Rattle.rgo_sound.proofs.calls.States.{first_instr, fine_call}
use Rattle.rgo_sound.proofs.calls.Returns.{fine_return}
use Rattle.rgo_sound.proofs.offers.Meets.{fine_meet}
use Rattle.rgo_sound.proofs.calls.Starts.{fine_start_of}
use Rattle.rgo_sound.proofs.names.Ruled.{ruled}
use Rattle.rgo_code.specs.Checked.{IsChecked}
use Rattle.rgo_code.specs.Code.{Branch, Call, Code, CodeFn, CodeInstr, CodeOp, Do, Go, Jump, Print, Return, Slot}
use Rattle.rgo_code.specs.Erasure.{erased, erased_fn}
use Rattle.rgo_code.specs.Exists.{HasMain}
use Rattle.rgo_code.specs.NameRules.{Ascends, EntryRemovesDead}
use Rattle.rgo_code.specs.Names.{parameter_classes, result_class, slot_class}
use Rattle.rgo_machine.specs.declared.picks.Pick.TheVariants.{Meet, One}
use Rattle.rgo_region_machine.specs.Duties.{attend, attended, may_go}
use Rattle.rgo_region_machine.specs.Machine.{Acknowledge, Attend, Event, Finish, Instruct, MakeOffer, TakePage}
use Rattle.rgo_region_machine.specs.Machine.{finished, main_holder, page_for, page_taken, region_start, region_step}
use Rattle.rgo_region_machine.specs.Machine.{take_page, takes_page, page_before}
use Rattle.rgo_region_machine.specs.Objects.{with_page}
use Rattle.rgo_region_machine.specs.Offers.{acknowledge, make_offer, offer_for, offered}
use Rattle.rgo_region_machine.specs.Owed.{current, current_in, duties_before}
use Rattle.rgo_region_machine.specs.Regions.{RegionInfo, one_page_more, with_info}
use Rattle.rgo_region_machine.specs.States.{Duty, Holder, NoOffer, Offer, RegionState, Remove, Standing, Taken}
use Rattle.rgo_region_machine.specs.States.{frames_of}
use Rattle.rgo_region_machine.specs.declared.limits.Limit.{Limit}
use Rattle.rgo_region_machine.specs.declared.regions.Region.{Region}
use Rattle.rgo_region_machine.specs.declared.regions.Region.TheVariants.{Global as GlobalRegion, Numbered}
use Rattle.rgo_memory.specs.Memory.{Object}
use Rattle.rgo_sound.specs.Invariant.{Fine, GoodHolder, IsFree, IsReady, Settled}
use Rattle.rgo_sound.specs.Stakes.{holders_of, is_in, one_when, pending_of, times_in, total}
use Rattle.rgo_tac.specs.Code.{TacFn}
use Rattle.rgo_tac.specs.Frames.{TacFrame, new_tac_frame}
use Rattle.rgo_tac.specs.Tac.{tac_main_frames, tac_start}
use Rattle.rgo_tac.specs.declared.regions.Class.TheVariants.{Name, NoClass}
use Rattle.rgo_code.specs.declared.rules.Line.TheVariants as line
use Rattle.rgo_code.specs.declared.rules.Rule.TheVariants as rule

module _ (code : Code) (page_words : ℕ) (s : RegionState) (fine : Fine code s) where
  -- another offer, or another fill
  same_stakes : (g : ℕ) (h k : Holder) (t : RegionState) → slice_get s.holders g ≡ Some h → t.regions ≡ s.regions
      → t.holders ≡ slice_set s.holders g k → t.plain ≡ s.plain → k.stakes ≡ h.stakes → k.pending ≡ h.pending
      → GoodHolder code (frames_of s.plain g) k → Fine code t
  same_stakes g h k t e rs hs ps ks kp good = fine_plain code s t g h k fine e rs hs ks kp
      (ap (λ p. length p.goroutines) ps) (λ j n. ap (λ p. frames_of p j) ps)
      (subst (λ p. GoodHolder code (frames_of p g) k) (sym ps) good)

  same_good : (g : ℕ) (h : Holder) (fills : List (Region × ℕ)) (reserved : ℕ) (offer : Offer) → slice_get s.holders g
      ≡ Some h → GoodHolder code (frames_of s.plain g) (record h { fills = fills; reserved = reserved; offer = offer })
  same_good g h fills reserved offer e = let x = fine.each g h e in
      record { core = x.core; fit = x.fit; base_once = x.base_once; shares = x.shares }

  fine_page : (page_words g : ℕ) (h : Holder) (r : Region) (object : Object) → slice_get s.holders g ≡ Some h
      → Fine code (page_taken s g (with_page page_words h r object) r)
  fine_page page_words g h GlobalRegion object e = same_stakes g h _
      (page_taken s g (with_page page_words h GlobalRegion object) GlobalRegion) e refl refl refl refl refl
      (same_good g h _ _ h.offer e)
  fine_page page_words g h (Numbered r) object e =
      fine_with code s g h (with_page page_words h (Numbered r) object) (with_info s.regions r one_page_more)
      fine e (omega (arith, long)) (same_good g h _ _ h.offer e)
      (λ q i. let x = fine.made g h q e i in omega (arith, x, long))
      (λ q i. let x = fine.pended g h q e i in omega (arith, x, long)) counts
    where
      long : length (with_info s.regions r one_page_more) ≡ length s.regions
      long = length_with_info s.regions r one_page_more

      old : (q : ℕ) (info : RegionInfo) → slice_get (with_info s.regions r one_page_more) q ≡ Some info → info.stakes
          ≡ holders_of s q + pending_of s q
      old q info i = split (nat_eq r q) (λ t. here t (get_some s.regions q
          (let x = slice_get_within (with_info s.regions r one_page_more) q info i in omega (arith, x, long))))
          (λ n. fine.counted q info (sym (with_info_other s.regions r q one_page_more n) ∙ i))
        where
          here : nat_eq r q ≡ true → (o : RegionInfo) × (slice_get s.regions q ≡ Some o) → info.stakes
              ≡ holders_of s q + pending_of s q
          here t (o, p) =
              let v : Some info ≡ Some (one_page_more o) = sym i
              ∙ subst (λ x. slice_get (with_info s.regions r one_page_more) x
              ≡ option_map one_page_more (slice_get s.regions x)) (eq_of r q t)
              (with_info_same s.regions r one_page_more) ∙ ap (option_map one_page_more) p in
              ap (λ (x : RegionInfo). x.stakes) (same_Some info (one_page_more o) v) ∙ fine.counted q o p

      counts : (q : ℕ) (info : RegionInfo) → slice_get (with_info s.regions r one_page_more) q ≡ Some info → info.stakes
          ≡ total (λ (x : Holder). one_when (is_in q x.stakes))
          (slice_set s.holders g (with_page page_words h (Numbered r) object)) + total
          (λ (x : Holder). times_in q x.pending) (slice_set s.holders g
          (with_page page_words h (Numbered r) object))
      counts q info i =
          let a = total_set (λ (x : Holder). one_when (is_in q x.stakes)) s.holders g h
          (with_page page_words h (Numbered r) object) e in
          let b = total_set (λ (x : Holder). times_in q x.pending) s.holders g h
          (with_page page_words h (Numbered r) object) e in
          let c = old q info i in
          omega (arith, a, b, c)

  fine_take : (g : ℕ) (h : Holder) (frames : List TacFrame) → slice_get s.holders g ≡ Some h
      → Yields (Fine code) (take_page code page_words s g h frames)
  fine_take g h [] e = yields_none
  fine_take g h (frame ∷ callers) e = yields_then (page_for code page_words s g h frame) _
      (λ i. yields_then (takes_page code page_words s g h) _ (λ r. yields_then (page_before page_words s g h r) _
      (λ x. yields_if _ _ _ (yields _ (fine_page page_words g h r x e)) yields_none)))

  fine_offer : (g : ℕ) (h : Holder) (offer : Offer) → slice_get s.holders g ≡ Some h
      → Yields (Fine code) (Some (attended s g (record h { offer = offer })))
  fine_offer g h offer e = yields _ (same_stakes g h (record h { offer = offer })
      (attended s g (record h { offer = offer })) e refl refl refl refl refl (same_good g h h.fills h.reserved offer e))

  fine_make : (g : ℕ) (h : Holder) (frames : List TacFrame) → slice_get s.holders g ≡ Some h
      → Yields (Fine code) (make_offer code s g h frames)
  fine_make g h [] e = yields_none
  fine_make g h (frame ∷ callers) e = yields_if _ _ _ (yields_then (offer_for s g h frame) _
      (λ i. yields_then (offered s g h) _ (λ o. yields_if _ _ _ yields_none (fine_offer g h (Standing o) e))))
      yields_none

  fine_acknowledge : (g : ℕ) (h : Holder) (o : Offer) → slice_get s.holders g ≡ Some h
      → Yields (Fine code) (acknowledge s g h o)
  fine_acknowledge g h NoOffer e = yields_none
  fine_acknowledge g h (Standing o) e = yields_none
  fine_acknowledge g h (Taken o) e = yields_if _ _ _ (fine_offer g h NoOffer e) yields_none

  fine_finish : (limit : Limit) → Fine code (finished s limit)
  fine_finish limit = record {
    as_many = fine.as_many;
    each = fine.each;
    counted = fine.counted;
    made =
        fine.made;
    pended = fine.pended;
  }

  fine_attend : (g : ℕ) → Yields (Fine code) (region_step code page_words s (Attend g))
  fine_attend g = yields_at (slice_get s.holders g) (λ (h : Holder). attend s g h h.duties)
      (λ h e. by h e h.duties refl)
    where
      by : (h : Holder) → slice_get s.holders g ≡ Some h → (ds : List Duty) → h.duties ≡ ds
          → Yields (Fine code) (attend s g h h.duties)
      by h e [] q = subst (λ x. Yields (Fine code) (attend s g h x)) (sym q) yields_none
      by h e (d ∷ ds) q = split (may_go h.offer) (λ t. does t)
          (λ n. subst (λ x. Yields (Fine code) (attend s g h x)) (sym q) (none n))
        where
          none : may_go h.offer ≡ false → Yields (Fine code) (attend s g h (d ∷ ds))
          none n = stuck (may_go h.offer) _ n
            where
              stuck : (b : Bool) (o : Option RegionState) → b ≡ false → Yields (Fine code) (if b then o else None)
              stuck true o n = absurd (true≢false n)
              stuck false o n = yields_none

          does : may_go h.offer ≡ true → Yields (Fine code) (attend s g h h.duties)
          does t =
              let x = duties_go code page_words s g h fine e (λ z. some_none (sym q ∙ z)) t in
              let y : attend s g h h.duties ≡ Some x.0 = sym (ap
              (option_and_then (λ (k : Holder). attend s g k k.duties)) e) ∙ x.1 in
              subst (λ o. Yields (Fine code) o) (sym y) (yields x.0 x.2)
            where
              some_none : d ∷ ds ≡ [] → ⊥
              some_none z = cc

  fine_one : (t : RegionState) (g : ℕ) (x : OneDone code page_words s g t) → IsChecked code → Ascends code → Fine code t
  fine_one t g x checked written = by x.instr.op refl
    where
      simple : (op : CodeOp) → x.instr.op ≡ op → IsSimple op → Fine code t
      simple op is h = fine_move code page_words s t g x fine (ruled code checked written) (subst IsSimple (sym is) h)

      by : (op : CodeOp) → x.instr.op ≡ op → Fine code t
      by (Do to action from removes) is = simple (Do to action from removes) is tt
      by (Print pieces from removes) is = simple (Print pieces from removes) is tt
      by (Jump j removes) is = simple (Jump j removes) is tt
      by (Branch v j removes k others) is = simple (Branch v j removes k others) is tt
      by (Call to n from passes protects removes) is = fine_call code page_words s t g x to n from passes protects
          removes checked written fine is
      by (Return value) is = fine_return code page_words s t g x value checked written fine is
      by (Go n from passes removes) is = fine_start_of code page_words s t g x n from passes removes checked written
          fine is

  -- each step keeps what holds of a state
  pub fine_step : (event : Event) → IsChecked code → Ascends code
      → Yields (Fine code) (region_step code page_words s event)
  fine_step (Instruct (One g)) checked written = yields_from _ (one_done code page_words s g)
      (λ t x. fine_one t g x checked written)
  fine_step (Instruct (Meet r u)) checked written = yields_from _ (meet_done code page_words s r u)
      (λ t x. fine_meet code s t r u fine (ruled code checked written) x)
  fine_step (Attend g) checked written = fine_attend g
  fine_step (TakePage g) checked written = yields_at (slice_get s.holders g)
      (λ h. take_page code page_words s g h (frames_of s.plain g)) (λ h e. fine_take g h (frames_of s.plain g) e)
  fine_step (MakeOffer g) checked written = yields_at (slice_get s.holders g)
      (λ h. make_offer code s g h (frames_of s.plain g)) (λ h e. fine_make g h (frames_of s.plain g) e)
  fine_step (Acknowledge g) checked written = yields_at (slice_get s.holders g)
      (λ (h : Holder). acknowledge s g h h.offer) (λ h e. fine_acknowledge g h h.offer e)
  fine_step (Finish limit) checked written = yields _ (fine_finish limit)

-- ---- the start

-- the first function named `main` begins
first_main : (fs : List TacFn) (m n : ℕ) (f : TacFn) → slice_get fs m ≡ Some f → bytes_eq f.name (codes "main") ≡ true
    → ((k : ℕ) (g : TacFn) → k < m → slice_get fs k ≡ Some g → bytes_eq g.name (codes "main") ≡ false)
    → tac_main_frames fs n ≡ new_tac_frame f (n + m) [] ∷ []
first_main [] m n f e t b = cc
first_main (g ∷ fs) zero n f e t b =
    ap (λ x. if x then new_tac_frame g n [] ∷ [] else tac_main_frames fs (suc n))
    (ap (λ (x : TacFn). bytes_eq x.name (codes "main")) (same_Some g f e) ∙ t)
    ∙ ap (λ (x : TacFn). new_tac_frame x n [] ∷ []) (same_Some g f e)
    ∙ ap (λ k. new_tac_frame f k [] ∷ []) (add_zero n)
  where
    add_zero : (n : ℕ) → n ≡ n + 0
    add_zero n = omega arith
first_main (g ∷ fs) (suc m) n f e t b =
    ap (λ x. if x then new_tac_frame g n [] ∷ [] else tac_main_frames fs (suc n)) (b 0 g (omega arith) refl)
    ∙ first_main fs m (suc n) f e t (λ k h l q. b (suc k) h (omega (arith, l)) q)
    ∙ ap (λ k. new_tac_frame f k [] ∷ []) (moved n m)
  where
    moved : (n m : ℕ) → suc n + m ≡ n + suc m
    moved n m = omega arith

-- the `main` with which checked code starts
pub record Main (code : Code) : Type 0 where
  pub number : ℕ
  pub main : CodeFn
  pub declared : slice_get code.functions number ≡ Some main
  pub named : main.name ≡ codes "main"
  pub no_params : main.params ≡ 0
  pub no_result : main.result ≡ None
  -- it is the first of that name
  pub begins : tac_main_frames (erased code).functions 0 ≡ new_tac_frame (erased_fn main) number [] ∷ []

-- the function main of checked code
pub main_of : (code : Code) → IsChecked code → Main code
main_of code checked =
    record {
      number = has.number;
      main = there.0;
      declared = there.1;
      named = named;
      no_params = sym (ap (λ (f : TacFn). f.params) there.2) ∙ has.no_params;
      no_result = without_type there.0.result (sym (ap (λ (f : TacFn). f.result_type) there.2) ∙ has.no_result);
      begins = first_main (erased code).functions has.number 0 has.main has.declared
          ((bytes_eq-Decides has.main.name (codes "main")).1 has.named) before
          ∙ ap (λ f. new_tac_frame f (0 + has.number) [] ∷ []) there.2
          ∙ ap (λ n. new_tac_frame (erased_fn there.0) n [] ∷ []) (zero_add has.number);
    }
  where
    has : HasMain (erased code)
    has = checked rule.Exists line.AfterLast

    zero_add : (n : ℕ) → 0 + n ≡ n
    zero_add n = omega arith

    there : (f : CodeFn) × (slice_get code.functions has.number ≡ Some f) × (has.main ≡ erased_fn f)
    there = unmapped (slice_get code.functions has.number) refl
        (sym (slice_get-map erased_fn code.functions has.number) ∙ has.declared)
      where
        unmapped : (o : Option CodeFn) → slice_get code.functions has.number ≡ o
            → option_map erased_fn (slice_get code.functions has.number) ≡ Some has.main → (f : CodeFn)
            × (slice_get code.functions has.number ≡ Some f) × (has.main ≡ erased_fn f)
        unmapped None q e = let x : option_map erased_fn None ≡ Some has.main = ap (option_map erased_fn) (sym q) ∙ e in
            cc
        unmapped (Some f) q e = (f, q, same_Some has.main (erased_fn f) (sym e ∙ ap (option_map erased_fn) q))

    named : there.0.name ≡ codes "main"
    named = sym (ap (λ (f : TacFn). f.name) there.2) ∙ has.named

    without_type : (o : Option Slot) → option_map (λ (s : Slot). s.ty) o ≡ None → o ≡ None
    without_type None e = refl
    without_type (Some s) e = cc

    names_at : (k : ℕ) (f : TacFn) → slice_get (erased code).functions k ≡ Some f
        → slice_get (map (λ (f : TacFn). f.name) (erased code).functions) k ≡ Some f.name
    names_at k f q = slice_get-map (λ (f : TacFn). f.name) (erased code).functions k
        ∙ ap (option_map (λ (f : TacFn). f.name)) q

    before : (k : ℕ) (f : TacFn) → k < has.number → slice_get (erased code).functions k ≡ Some f
        → bytes_eq f.name (codes "main") ≡ false
    before k f l q =
        split (bytes_eq f.name (codes "main"))
        (λ t. absurd ((checked rule.Exists (line.Function has.number) there.0 there.1).is_new k (codes "main") l
        (names_at has.number has.main has.declared ∙ ap Some has.named)
        (names_at k f q ∙ ap Some ((bytes_eq-Decides f.name (codes "main")).0 t))))
        (λ n. n)

no_elements : (ks : List ℕ) → ((k : ℕ) → Contains ks k → ⊥) → ks ≡ []
no_elements [] n = refl
no_elements (k ∷ ks) n = absurd (n k (contains_here k ks))

-- it holds at the start
pub fine_start : (code : Code) → IsChecked code → Ascends code → Fine code (region_start code)
fine_start code checked written =
    record {
      as_many = refl;
      each = each;
      counted = λ r info q. cc;
      made = λ g h r q i. unstaked g h r q i;
      pended = λ g h r q i. unpended g h r q i;
    }
  where
    start : Main code
    start = main_of code checked

    no_result : NoClass ≡ result_class start.main
    no_result = ap slot_class (sym start.no_result)

    first : (i : CodeInstr) × (slice_get start.main.body 0 ≡ Some i)
    first = first_instr start.main.body (checked rule.Exists (line.End start.number) start.main start.declared)

    no_parameter : (k : ℕ) → IsParameter start.main k → ⊥
    no_parameter k (i, l, c) = let x = start.no_params in omega (arith, l, x)

    enters_rightly : EntryRemovesDead start.main
    enters_rightly = checked rule.Removals (line.Entry start.number) start.main start.declared

    no_entry : start.main.entry ≡ []
    no_entry = no_elements start.main.entry (λ k c. contains_nil (Name k)
        (subst (λ n. Contains (parameter_classes n start.main.variables) (Name k)) start.no_params
        ((enters_rightly k).0 c).1))

    ready : IsReady (IsFree start.main 0) (Settled start.main 0 first.0) (duties_before (Some first.0)) [] []
    ready =
        subst (λ x. IsReady (IsFree start.main 0) (Settled start.main 0 first.0)
        (map Remove x ++ duties_before (Some first.0)) [] []) no_entry
        (enters code start.main first.0 [] ((ruled code checked written).kept start.number 0 start.main first.0
        start.declared first.1) enters_rightly (checked rule.Entry (line.Entry start.number) start.main
        start.declared) (ascending_distinct start.main.entry (written start.number start.main start.declared).entry)
        (λ k p. absurd (no_parameter k p)) (λ k r. absurd (clash k r)) (λ k o n. refl))
      where
        clash : (k : ℕ) → result_class start.main ≡ Name k → ⊥
        clash k r = let x : NoClass ≡ Name k = no_result ∙ r in cc

    good : GoodHolder code (new_tac_frame (erased_fn start.main) start.number [] ∷ [])
        (main_holder code (new_tac_frame (erased_fn start.main) start.number [] ∷ []))
    good =
        record {
          core = record {
            unique = (tt, tt);
            staked = ((λ k r b. cc), (λ r i. absurd (true≢false (sym i))), tt);
            based =
                λ r i. absurd (true≢false (sym i));
            once = λ r i. absurd (true≢false (sym i));
            lent =
                ((λ k r l b u. cc), tt);
          };
          fit = (
            record {
              fn = start.main;
              is_fn = start.declared;
              instr = first.0;
              is_instr = first.1;
              lends =
                  no_result;
              ready = subst (λ x. IsReady (IsFree start.main 0) (Settled start.main 0 first.0)
                  (duties_before x) [] []) (sym cur) ready;
            },
            tt,
          );
          base_once = tt;
          shares = shares_next code (new_tac_frame (erased_fn start.main) start.number [] ∷ []) [] tt [];
        }
      where
        cur : current code (new_tac_frame (erased_fn start.main) start.number []) ≡ Some first.0
        cur = ap (λ o. current_in o 0) start.declared ∙ first.1

    start_good : GoodHolder code (frames_of (tac_start (erased code)) 0)
        (main_holder code (frames_of (tac_start (erased code)) 0))
    start_good = subst (λ x. GoodHolder code x (main_holder code x)) (sym start.begins) good

    each : (g : ℕ) (h : Holder) → slice_get (region_start code).holders g ≡ Some h
        → GoodHolder code (frames_of (tac_start (erased code)) g) h
    each zero h q = subst (λ x. GoodHolder code (frames_of (tac_start (erased code)) 0) x) (same_Some _ h q) start_good
    each (suc g) h q = cc

    unstaked : (g : ℕ) (h : Holder) (r : ℕ) → slice_get (region_start code).holders g ≡ Some h → is_in r h.stakes ≡ true
        → r < 0
    unstaked zero h r q i = absurd (true≢false (sym (ap (λ (x : Holder). is_in r x.stakes) (same_Some _ h q) ∙ i)))
    unstaked (suc g) h r q i = cc

    unpended : (g : ℕ) (h : Holder) (r : ℕ) → slice_get (region_start code).holders g ≡ Some h
        → 0 < times_in r h.pending → r < 0
    unpended zero h r q i = let x : 0 ≡ times_in r h.pending =
        ap (λ (x : Holder). times_in r x.pending) (same_Some _ h q) in absurd (omega (arith, x, i))
    unpended (suc g) h r q i = cc
