-- The machine over lists of tokens: each stack that it reaches can be emptied by some text, and where it stops, it stops whatever
-- follows. These are the two halves of a first bad token: some program begins with the tokens before it, and none with it. The lemma
-- that carries the first is `finish_run`, by `step_fine`: every step keeps the condition on stacks that the table was checked for.
use Rattle.std.proofs.Common.{◌≡◌, Bool, true, false, ◌&&◌, cond, not, List, [], ◌∷◌, ◌++◌, Option, Some, None, refl, ◌∙◌, ap, append_assoc, inl, inr, ◌⊎◌, nat_eq}
use Rattle.std.proofs.lemmas.Bool.{eqb-true}
use Rattle.rgo_lexer.specs.{declared.terminals.Terminal.{Terminal}, Lexemes.{Leaf, Lexeme, tok, class, subclass, is_same_terminal}}
use Rattle.rgo_grammar.proofs.machine.Table.{Sym, Row, row, nullable, word, opens, closer, find, next, entered, step, closes_first, leads, fine, all_entries, and_then, after, all_nullable, entries_fine, skips, settled, both, join}

unfoldable pub closes : List Sym → Bool
closes [] = true
closes (x ∷ s) = nullable x && closes s

pub data Run : Type 0 where
  Accepted : Run
  Stopped : List Lexeme → Run

abbrev pub advance : (List Sym → Run) → Run → Option (List Sym) → Run
advance go stop (Some s) = go s
advance go stop None = stop

-- a list of tokens from a stack: all are taken, or those before the first one that the machine does
-- not take
unfoldable pub run : List Lexeme → List Sym → Run
run [] s = cond (closes s) Accepted (Stopped [])
run (t ∷ l) s = advance (run l) (Stopped (t ∷ l)) (step s t.terminal)

abbrev pub nowhere : Leaf
nowhere = record { at = 0; word = [] }

unfoldable pub toks : List Terminal → List Lexeme
toks [] = []
toks (k ∷ ks) = tok k nowhere ∷ toks ks

-- a text that empties a stack
unfoldable pub finish : List Sym → List Lexeme
finish [] = []
finish (x ∷ s) = toks (word x) ++ finish s

classes_same : (a b : Bool) → cond a b false ≡ true → a ≡ true
classes_same true b e = refl
classes_same false b e = cc

pub same_class : (j k : Terminal) → is_same_terminal j k ≡ true → class j ≡ class k
same_class j k e =
    eqb-true (class j) (class k)
    (classes_same (nat_eq (class j) (class k)) (nat_eq (subclass j) (subclass k)) e)

closer_same : (j k : Terminal) → is_same_terminal j k ≡ true → closer k ≡ closer j
closer_same j k e = rw (same_class j k e) refl

found_at : (p : Terminal → List Sym → Bool) (k j : Terminal) (b : List Sym) (r : Row) (a : List Sym)
    (v : Bool) → is_same_terminal j k ≡ v → p j b ≡ true
    → (find k r ≡ Some a → (i : Terminal) × (is_same_terminal i k ≡ true) × (p i a ≡ true))
    → cond v (Some b) (find k r) ≡ Some a → (i : Terminal) × (is_same_terminal i k ≡ true) × (p i a ≡ true)
found_at p k j b r a true d h ih e = let f : b ≡ a = cc in (j, d, rw (← f) h)
found_at p k j b r a false d h ih e = ih e

all_found : (p : Terminal → List Sym → Bool) (k : Terminal) (r : Row) (a : List Sym)
    → all_entries p r ≡ true → find k r ≡ Some a
    → (i : Terminal) × (is_same_terminal i k ≡ true) × (p i a ≡ true)
all_found p k [] a h e = cc
all_found p k ((j, b) ∷ r) a h e =
    let hs = both h in
    found_at p k j b r a (is_same_terminal j k) refl hs.0 (λ d. all_found p k r a hs.1 d) e

leads_append : (b s : List Sym) (o : Bool) → leads b o ≡ true → cond o (leads s true) true ≡ true
    → leads (b ++ s) true ≡ true
unfolding leads
leads_append [] s true h e = e
leads_append [] s false h e = cc
leads_append (y ∷ b) s o h e =
    elim (nullable y) as
    (λ v. cond v (leads b o) (closes_first (word y)) ≡ true
    → cond v (leads (b ++ s) true) (closes_first (word y)) ≡ true)
    [ true ↦ λ d. leads_append b s o d e | false ↦ λ d. d ] h

opens_append : (v : Bool) (b s : List Sym) (o : Bool) → cond v (leads b o) true ≡ true
    → cond o (leads s true) true ≡ true → cond v (leads (b ++ s) true) true ≡ true
opens_append true b s o h e = leads_append b s o h e
opens_append false b s o h e = refl

fine_append : (a s : List Sym) (o : Bool) → fine a o ≡ true → cond o (leads s true) true ≡ true
    → fine s true ≡ true → fine (a ++ s) true ≡ true
unfolding fine
fine_append [] s o h e f = f
fine_append (y ∷ b) s o h e f =
    let hs = both h in
    join (cond (opens y) (leads (b ++ s) true) true) (fine (b ++ s) true)
    (opens_append (opens y) b s o hs.0 e) (fine_append b s o hs.1 e f)

step_fine_by : (x : Sym) (s : List Sym) (k : Terminal) (r : List Sym) (n : Option (List Sym))
    → next x k ≡ n → fine (x ∷ s) true ≡ true → (step s k ≡ Some r → fine r true ≡ true)
    → entered n s (cond (nullable x) (step s k) None) ≡ Some r → fine r true ≡ true
unfolding fine
step_fine_by x s k r (Some a) ne f ih e =
    let fs = both f in
    let found = all_found (λ k a. fine a (opens x)) k (row x) a (entries_fine x) ne in
    let g = fine_append a s (opens x) found.2 fs.0 fs.1 in
    let er : a ++ s ≡ r = cc in
    rw (← er) g
step_fine_by x s k r None ne f ih e =
    elim (nullable x) as (λ v. cond v (step s k) None ≡ Some r → fine r true ≡ true)
    [ true ↦ ih | false ↦ λ d. cc ] e

step_fine : (s : List Sym) (k : Terminal) (r : List Sym) → fine s true ≡ true
    → step s k ≡ Some r → fine r true ≡ true
unfolding step fine
step_fine [] k r f e = cc
step_fine (x ∷ s) k r f e =
    let fs = both f in
    step_fine_by x s k r (next x k) refl f (λ d. step_fine s k r fs.1 d) e

-- nothing is left, or what is left begins with a closer
abbrev pub Closed : List Lexeme → Type 0
Closed [] = Unit {0}
Closed (t ∷ l) = closer t.terminal ≡ true

next_none_by : (x : Sym) (k : Terminal) (n : Option (List Sym)) → nullable x ≡ true
    → closer k ≡ true → next x k ≡ n → n ≡ None
next_none_by x k None h c e = refl
next_none_by x k (Some a) h c e =
    let found = all_found (λ k a. not (closer k)) k (row x) a (skips x h).passes_closers e in
    let d : not (closer k) ≡ true = rw (closer_same found.0 k found.1) found.2 in
    let d' = rw c at d in
    cc

next_none : (x : Sym) (k : Terminal) → nullable x ≡ true → closer k ≡ true → next x k ≡ None
next_none x k h c = next_none_by x k (next x k) h c refl

-- what may be left out is left out before a closer
pop : (x : Sym) (s : List Sym) (l : List Lexeme) → nullable x ≡ true → Closed l
    → run l (x ∷ s) ≡ run l s
unfolding run closes step
pop x s [] h c = rw h refl
pop x s (t ∷ l) h c = rw (next_none x t.terminal h c, h) refl

pops : (a s : List Sym) (l : List Lexeme) → all_nullable a ≡ true → Closed l
    → run l (a ++ s) ≡ run l s
unfolding all_nullable
pops [] s l h c = refl
pops (x ∷ a) s l h c =
    let hs = both h in
    pop x (a ++ s) l hs.0 c ∙ pops a s l hs.1 c

step_append_by : (a s b : List Sym) (x : Sym) (k : Terminal) (n : Option (List Sym))
    → (step a k ≡ Some b → step (a ++ s) k ≡ Some (b ++ s))
    → entered n a (cond (nullable x) (step a k) None) ≡ Some b
    → entered n (a ++ s) (cond (nullable x) (step (a ++ s) k) None) ≡ Some (b ++ s)
step_append_by a s b x k (Some c) ih e = let f : c ++ a ≡ b = cc in rw (← f, append_assoc) refl
step_append_by a s b x k None ih e =
    elim (nullable x) as
    (λ v. cond v (step a k) None ≡ Some b → cond v (step (a ++ s) k) None ≡ Some (b ++ s))
    [ true ↦ ih | false ↦ λ d. cc ] e

step_append : (a s b : List Sym) (k : Terminal) → step a k ≡ Some b
    → step (a ++ s) k ≡ Some (b ++ s)
unfolding step
step_append [] s b k e = cc
step_append (x ∷ a) s b k e = step_append_by a s b x k (next x k) (step_append a s b k) e

after_run_by : (k : Terminal) (ks : List Terminal) (a s b : List Sym) (l : List Lexeme)
    (o : Option (List Sym)) → step a k ≡ o
    → ((c : List Sym) → after ks c ≡ Some b → run (toks ks ++ l) (c ++ s) ≡ run l (b ++ s))
    → and_then o (after ks) ≡ Some b → run (toks (k ∷ ks) ++ l) (a ++ s) ≡ run l (b ++ s)
unfolding run toks
after_run_by k ks a s b l (Some c) st ih e = rw (step_append a s c k st) (ih c e)
after_run_by k ks a s b l None st ih e = cc

after_run : (ks : List Terminal) (a s b : List Sym) (l : List Lexeme) → after ks a ≡ Some b
    → run (toks ks ++ l) (a ++ s) ≡ run l (b ++ s)
unfolding after toks
after_run [] a s b l e = let f : a ≡ b = cc in rw f refl
after_run (k ∷ ks) a s b l e =
    after_run_by k ks a s b l (step a k) refl (λ c d. after_run ks c s b l d) e

first_word : (ks : List Terminal) (l : List Lexeme) → closes_first ks ≡ true → Closed (toks ks ++ l)
unfolding toks
first_word [] l h = cc
first_word (k ∷ ks) l h = h

first_in : (x : Sym) (s : List Sym) (v : Bool) → nullable x ≡ v
    → cond v (leads s true) (closes_first (word x)) ≡ true
    → (leads s true ≡ true → Closed (finish s)) → Closed (toks (word x) ++ finish s)
unfolding toks
first_in x s true n h ih = rw (skips x n).no_word (ih h)
first_in x s false n h ih = first_word (word x) (finish s) h

closed_finish : (s : List Sym) → leads s true ≡ true → Closed (finish s)
unfolding leads finish toks
closed_finish [] h = tt
closed_finish (x ∷ s) h = first_in x s (nullable x) refl h (closed_finish s)

ended : run [] [] ≡ Accepted
unfolding run closes
ended = refl

unless : (v : Bool) (s : List Sym) → v ≡ true
    → cond v (leads s true) true ≡ true → leads s true ≡ true
unless true s e h = h
unless false s e h = cc

settle_by : (a s : List Sym) (o : Bool) → cond o (leads s true) true ≡ true → all_nullable a ≡ true
    → (a ≡ []) ⊎ (o ≡ true) → run (finish s) (a ++ s) ≡ run (finish s) s
settle_by a s o l n (inl e) = rw e refl
settle_by a s o l n (inr e) = pops a s (finish s) n (closed_finish s (unless o s e l))

finish_by : (x : Sym) (s : List Sym) (v : Bool) → nullable x ≡ v
    → cond (opens x) (leads s true) true ≡ true → run (finish s) s ≡ Accepted
    → run (toks (word x) ++ finish s) (x ∷ s) ≡ Accepted
unfolding toks
finish_by x s true n o h =
    rw (skips x n).no_word
    (pop x s (finish s) n (closed_finish s (unless (opens x) s (skips x n).is_open o)) ∙ h)
finish_by x s false n o h =
    let w = settled x n in
    after_run (word x) (x ∷ []) s w.stack (finish s) w.reached ∙ settle_by w.stack s (opens x) o
    w.may_end w.is_open ∙ h

-- such a stack can be emptied
pub finish_run : (s : List Sym) → fine s true ≡ true → run (finish s) s ≡ Accepted
unfolding fine finish
finish_run [] f = ended
finish_run (x ∷ s) f =
    let fs = both f in
    finish_by x s (nullable x) refl fs.0 (finish_run s fs.1)

-- a list at which the machine stops: the stack that the tokens before it lead to
pub record Reached (l : List Lexeme) (s : List Sym) (r : List Lexeme) : Type 0 where
  pub before : List Lexeme
  pub stack : List Sym
  pub cut : l ≡ before ++ r
  pub leads_here : (w : List Lexeme) → run (before ++ w) s ≡ run w stack
  pub is_fine : fine stack true ≡ true
  pub stuck : (t : Lexeme) (r' w : List Lexeme) → r ≡ t ∷ r' → run (t ∷ w) stack ≡ Stopped (t ∷ w)

at_end : (s : List Sym) (r : List Lexeme) (v : Bool) → closes s ≡ v → fine s true ≡ true
    → cond v Accepted (Stopped []) ≡ Stopped r → Reached [] s r
unfolding run
at_end s r true c f e = cc
at_end s r false c f e =
    let f' : [] ≡ r = cc in
    record {
      before = [];
      stack = s;
      cut = f';
      leads_here = λ w. refl;
      is_fine = f;
      stuck = λ t r' w g. cc;
    }

stopped_by : (t : Lexeme) (l : List Lexeme) (s : List Sym) (r : List Lexeme) (n : Option (List Sym))
    → step s t.terminal ≡ n → fine s true ≡ true
    → ((q : List Sym) → fine q true ≡ true → run l q ≡ Stopped r → Reached l q r)
    → advance (run l) (Stopped (t ∷ l)) n ≡ Stopped r → Reached (t ∷ l) s r
unfolding run
stopped_by t l s r (Some q) st f ih e =
    let at = ih q (step_fine s t.terminal q f st) e in
    record {
      before = t ∷ at.before;
      stack = at.stack;
      cut = ap (λ m. t ∷ m) at.cut;
      leads_here = λ w. rw st (at.leads_here w);
      is_fine = at.is_fine;
      stuck = at.stuck;
    }
stopped_by t l s r None st f ih e =
    let f' : t ∷ l ≡ r = cc in
    record {
      before = [];
      stack = s;
      cut = f';
      leads_here = λ w. refl;
      is_fine = f;
      stuck = λ t' r' w g. let h : t' ≡ t = cc in rw (h, st) refl;
    }

pub stopped : (l : List Lexeme) (s : List Sym) (r : List Lexeme) → fine s true ≡ true
    → run l s ≡ Stopped r → Reached l s r
unfolding run
stopped [] s r f e = at_end s r (closes s) refl f e
stopped (t ∷ l) s r f e =
    stopped_by t l s r (step s t.terminal) refl f (λ q g d. stopped l q r g d) e
