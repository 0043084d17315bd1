-- Which accesses make a record return a chain: all accesses in turn. Each leaves that field alone, but for a leave that found the last
-- stake.
use Rattle.std.specs.Option.{option_map, option_map_or}
use Rattle.std.proofs.Common.{◌≡◌, ◌≢◌, ◌⊎◌, ◌==◌, ℕ, Bool, true, false, List, [], ◌∷◌, Option, Some, None, if◌then◌else◌, unwrap_or, inl, inr, ⊎_elim, refl, ap}
use Rattle.rgo_sound.specs.Code.Code.{Branch, Call, Code, CodeFn, CodeOp, Do, Go, Jump, Print, Return}
use Rattle.rgo_sound.specs.Memory.Memory.{Object}
use Rattle.rgo_sound.specs.RegionMachine.Objects.{object_words as words_in}
use Rattle.rgo_sound.specs.RegionMachine.Owed.{code_function}
use Rattle.rgo_sound.specs.RegionMachine.States.{Create, Duty, EndBase, Ended, Holder, Mark, Protect, Remove, Share, Stopped, Unprotect}
use Rattle.rgo_core.specs.Frames.goroutines.Opening.{no_record}
use Rattle.rgo_core.specs.Frames.goroutines.Children.{child_records}
use Rattle.rgo_core.specs.Frames.Records.{FramesRec as FrameRec}
use Rattle.rgo_core.specs.Frames.shown.WordFrames.{WordFrame, word_called, words_of}
use Rattle.rgo_core.specs.Memory.Records.{Calm, Fill, Owes, Rec as MemoryRec}
use Rattle.rgo_core.specs.Memory.Spread.{table_words}
use Rattle.rgo_core.specs.Core.{Setup}
use Rattle.rgo_core.specs.Laws.{first_in}
use Rattle.rgo_core.specs.Records.{Record, begins_with}
use Rattle.rgo_core.specs.moves.Regions.{with_holder}
use Rattle.rgo_core_steps.specs.After.{Position, child_at, child_by, moving, position}
use Rattle.rgo_core_steps.specs.Counts.{Leaving, created_in_slot, created_with, sharing, tried_slot}
use Rattle.rgo_core_steps.specs.Ends.{ending}
use Rattle.rgo_core_steps.specs.Making.{covers, filling, filling_apart, next_is_spread, object_to_make, next_page, stored_in, with_new_word, with_new_word_apart}
use Rattle.rgo_core_steps.specs.Pages.{claims_or_reserves, tried_page}
use Rattle.rgo_core_steps.proofs.record_steps.SettledLaws.{settled_kept}
use Rattle.rgo_core.specs.moves.Claims.{claims, reserves}
use Rattle.rgo_pages.specs.Laws.{GiveLaw, GivesTheSame}

either_record : (b : Bool) (c d e : Record) → GivesTheSame c d → GivesTheSame c e → GivesTheSame c (if b then d else e)
either_record true c d e x y = x
either_record false c d e x y = y

moved : (code : Code) (c : Record) (after : Position → Record) → ((p : Position) → GivesTheSame c (after p)) → GivesTheSame c (moving code c after)
moved code c after each = by (position code c)
  where
    by : (o : Option Position) → GivesTheSame c (option_map_or after o c)
    by None = refl
    by (Some p) = each p

creates : (c : Record) (slot : ℕ) (ds : List Duty) → GivesTheSame c (created_with c slot ds)
creates c slot [] = refl
creates c slot (Create name ∷ ds) = refl
creates c slot (Share name ∷ ds) = refl
creates c slot (Protect name ∷ ds) = refl
creates c slot (Unprotect name ∷ ds) = refl
creates c slot (Remove name ∷ ds) = refl
creates c slot (EndBase r ∷ ds) = refl

shares : (c : Record) (o : Option (ℕ × Holder)) → GivesTheSame c (option_map_or (λ (t : ℕ × Holder). with_holder c t.1) o c)
shares c None = refl
shares c (Some t) = refl

leaves : (c d : Record) (slot n : ℕ) → Leaving c slot n d
    → ((n ≡ 2) × (d.memory.give ≡ Owes slot)) ⊎ ((n ≢ 2) × GivesTheSame c d)
leaves c d slot n l = ⊎_elim
    (λ t. inr (t.0, ap (λ (e : Record). e.memory.give) t.1))
    (λ t. inl (t.0, ap (λ (e : Record). e.memory.give) t.3))
    l.2

fills : (T : Setup) (c : Record) (i : ℕ) → GivesTheSame c (filling T c i)
fills T c i = by (object_to_make T c)
  where
    new : (object : Object) (f : Fill) → GivesTheSame c (with_new_word T c f object i)
    new object f = either_record (covers (words_in object) (i ∷ stored_in c.memory.make)) c _ _ (moved T.code c _ (λ p. refl)) refl

    on : (object : Object) (o : Option Fill) → GivesTheSame c (option_map_or (λ (f : Fill). with_new_word T c f object i) o c)
    on object None = refl
    on object (Some f) = new object f

    by : (o : Option Object)
        → GivesTheSame c (option_map_or (λ (object : Object). option_map_or (λ (f : Fill). with_new_word T c f object i) (next_page T c) c) o c)
    by None = refl
    by (Some object) = on object (next_page T c)

fills_apart : (T : Setup) (c : Record) (i : ℕ) → GivesTheSame c (filling_apart T c i)
fills_apart T c i = by (object_to_make T c)
  where
    by : (o : Option Object) → GivesTheSame c (option_map_or (λ (object : Object). with_new_word_apart T c object i) o c)
    by None = refl
    by (Some object) =
        either_record (covers (table_words T.sizes.page_words object) (i ∷ stored_in c.memory.make)) c _ _ (moved T.code c _ (λ p. refl)) refl

ends : (code : Code) (c : Record) (n : ℕ) (mark : Mark) → GivesTheSame c (ending code c n mark)
ends code c n (Ended end) = refl
ends code c n (Stopped why) = refl

-- ---- a goroutine that starts

born : (frame : CodeFn → FrameRec) (o : Option CodeFn)
    → (unwrap_or (option_map (λ (callee : CodeFn). begins_with (frame callee)) o) (begins_with no_record)).memory.give ≡ Calm
born frame None = refl
born frame (Some callee) = refl

children : (code : Code) (c : Record) (w : WordFrame) (op : CodeOp) → (unwrap_or (child_by code c w op) (begins_with no_record)).memory.give ≡ Calm
children code c w (Go f from passes removes) =
    born (λ callee. first_in (child_records code c.frame.holder (Go f from passes removes) (word_called callee f (words_of w from) ∷ [])))
    (code_function code f)
children code c w (Do to action from removes) = refl
children code c w (Call to n from passes protects removes) = refl
children code c w (Print pieces from removes) = refl
children code c w (Jump target removes) = refl
children code c w (Branch test target removes other otherwise) = refl
children code c w (Return value) = refl

first : (code : Code) (c : Record) (o : Option Position) → (option_map_or (child_at code c) o (begins_with no_record)).memory.give ≡ Calm
first code c None = refl
first code c (Some p) = children code c p.w p.instr.op

pub give_law : GiveLaw
give_law = record {
  leave = leaves;
  create = λ c slot n. either_record (n == 0) c (created_in_slot c slot) (tried_slot c slot) (creates c slot c.frame.holder.duties) refl;
  share = λ c. shares c (sharing c);
  claim = λ T c page slot n. either_record (n == 0) c (claims_or_reserves T c page slot) (tried_page c page)
      (either_record (next_is_spread T c) c (reserves c page slot) (claims c page slot) refl refl) refl;
  hook = λ c claim. refl;
  look = λ c. refl;
  act = λ code c word. moved code c _ (λ p. refl);
  measure = λ c address elements. refl;
  locate = λ c address cell page. refl;
  fill = fills;
  fill_apart = fills_apart;
  print = λ code c n. moved code c _ (λ p. refl);
  start = λ code c n. moved code c _ (λ p. refl);
  refuse = λ c. refl;
  end = ends;
  channel = λ c side. refl;
  commit = λ code c word. moved code c _ (λ p. refl);
  offer = λ c at. refl;
  acknowledge = λ code c. moved code c _ (λ p. refl);
  local = λ T g q c. ap (λ (m : MemoryRec). m.give) (settled_kept T g q c).memory;
  child = λ code c. first code c (position code c);
}
