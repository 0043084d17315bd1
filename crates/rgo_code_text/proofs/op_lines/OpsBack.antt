-- Operations are read back from their words, and nothing else is read.
use Rattle.std.proofs.Common.{◌≡◌, ℕ, ◌+◌, ◌-◌, ◌<◌, ◌==◌, Bool, true, false, ◌||◌, List, [], ◌∷◌, ◌++◌, map, length, take, drop, Option, Some, None, if◌then◌else◌, refl, sym, ap, subst, ◌∙◌, arith, length-append, codes, decimal}
use Rattle.std.specs.List.{position_or_len}
use Rattle.std.specs.Option.{option_map}
use Rattle.std.specs.Str.{bytes_eq}
use Rattle.std.proofs.lemmas.Bool.Decides.{Decides-eqb}
use Rattle.std.proofs.lemmas.List.{take_all, take_at, take_more, drop_at, get_or_at, take-append-drop}
use Rattle.std.proofs.lemmas.List.Elements.{All-head, All-tail}
use Rattle.rgo_tac.specs.Code as tac
use Rattle.rgo_code.specs.Code.{CodeOp, Do, Call, Go, Print, Jump, Branch, Return}
use Rattle.rgo_code.specs.Views.{code_op}
use Rattle.rgo_code_text.specs.Actions.{NamedAction, read_action}
use Rattle.rgo_code_words.specs.Cuts.{nth_word}
use Rattle.rgo_code_text.specs.Items.{only_name, AwaitsNumber, OpIsNamed}
use Rattle.rgo_code_text.specs.Ops.{NamedOp, NamedOpFits, Callee, callee_at, read_callee, removing, read_removes, last_of, read_action_op, read_call, read_go, read_jump, read_branch, branch_of, with_ways, read_return, of_length, read_op}
use Rattle.rgo_code_words.specs.Readers.{on_some, bytes_inside, read_number, read_variable, read_value, read_lettered, read_within, read_regions, read_passes}
use Rattle.rgo_code_printing.specs.Text.{op_words, action_words, value_word}
use Rattle.rgo_code_printing.specs.Words.{name_at, variable_word, comma_separated, callee_word, passes_word, protects_word, removes_word}
use Rattle.rgo_code_text.specs.Written.{OpHasText}
use Rattle.rgo_code_words.specs.Worded.{is_name, AreSmall, AreRegions}
use Rattle.rgo_code_text.proofs.op_lines.ActionsBack.{action_back}
use Rattle.rgo_code_text.proofs.op_lines.ActionsIs.{action_is}
use Rattle.rgo_code_words.proofs.Cutting.{two_of, three_of, four_of, six_of}
use Rattle.rgo_code_words.proofs.Lacks.{Lacks, lacks_from, name_from}
use Rattle.rgo_code_words.proofs.ListWords.{inside_back, inside_is}
use Rattle.rgo_code_words.proofs.Numerals.{number_back, number_sound}
use Rattle.rgo_code_words.proofs.Options.{some_same, not_none, under, after_some, mapped, by_word}
use Rattle.rgo_code_text.proofs.op_lines.OpWords.{is_keyword, IsPrint, Worded, action_worded}
use Rattle.rgo_code_words.proofs.WordsBack.{value_back, value_is, lettered_is, numbers_back, numbers_is, regions_back, regions_is, passes_back, passes_is}

-- ---- callees

abbrev is_open : ℕ → Bool
is_open b = b == 40

to_open : (name rest : List ℕ) → Lacks 40 name → position_or_len is_open (name ++ 40 ∷ rest) ≡ length name
to_open [] rest l = refl
to_open (b ∷ name) rest l =
    let tail = to_open name rest (All-tail (λ b. (b == 40) ≡ false) b name l) in
    rw (All-head (λ b. (b == 40) ≡ false) b name l) (ap (λ n. 1 + n) tail ∙ omega arith)

callee_back : (name from : List ℕ) → is_name name ≡ true → AreSmall from
    → read_callee (callee_word name from) ≡ Some (record { name = name; from = from })
callee_back name from e s =
    let list = comma_separated (map variable_word from) in
    let rest = 40 ∷ (list ++ 41 ∷ []) in
    let word = callee_word name from in
    let front : take (length name) word ≡ name = take_at name rest (length name) refl in
    let back : drop (length name) word ≡ rest = drop_at name rest (length name) refl in
    let parts : read_within (read_lettered 118) (bytes_inside (codes "(") 41 (drop (length name) word)) ≡ Some from =
    ap (λ t. read_within (read_lettered 118) (bytes_inside (codes "(") 41 t)) back
    ∙ ap (read_within (read_lettered 118)) (inside_back (codes "(") list 41) ∙ numbers_back 118 from (omega arith) s in
    ap (λ n. callee_at n word) (to_open name (list ++ 41 ∷ []) (lacks_from 48 40 name (omega arith) (name_from name e)))
    ∙ ap (λ t. if is_name t then option_map (λ from. record { name = t; from = from })
    (read_within (read_lettered 118) (bytes_inside (codes "(") 41 (drop (length name) word))) else None) front
    ∙ ap (λ b. if b then option_map (λ from. record { name = name; from = from })
    (read_within (read_lettered 118) (bytes_inside (codes "(") 41 (drop (length name) word))) else None) e
    ∙ ap (option_map (λ from. record { name = name; from = from })) parts

record CalleeIs (word : List ℕ) (c : Callee) : Type 0 where
  pub word_is : word ≡ callee_word c.name c.from
  pub name : is_name c.name ≡ true
  pub small : AreSmall c.from

record IsList (o : Option (List ℕ)) (from : List ℕ) : Type 0 where
  pub list : List ℕ
  pub was : o ≡ Some list
  pub is : list ≡ comma_separated (map variable_word from)
  pub small : AreSmall from

list_in : (o : Option (List ℕ)) (from : List ℕ) → read_within (read_lettered 118) o ≡ Some from → IsList o from
list_in None from e = absurd (not_none from e)
list_in (Some list) from e =
    let n = numbers_is 118 list from (omega arith) e in
    record { list = list; was = refl; is = n.0; small = n.1 }

callee_is : (word : List ℕ) (c : Callee) → read_callee word ≡ Some c → CalleeIs word c
callee_is word c e =
    let n = position_or_len is_open word in
    let u = under (is_name (take n word)) _ c e in
    let m = mapped (λ from. record { name = take n word; from = from })
    (read_within (read_lettered 118) (bytes_inside (codes "(") 41 (drop n word))) c u.is in
    let l = list_in (bytes_inside (codes "(") 41 (drop n word)) m.value m.was in
    subst (CalleeIs word) m.is (record {
      word_is = sym (take-append-drop n word)
          ∙ ap (λ t. take n word ++ t) (inside_is (codes "(") (drop n word) l.list 41 l.was ∙ ap (λ t. 40 ∷ (t ++ 41 ∷ [])) l.is);
      name = u.holds;
      small = l.small;
    })

-- ---- an action and its removals

record Plain (word : List ℕ) : Type 0 where
  pub call : bytes_eq word (codes "call") ≡ false
  pub go : bytes_eq word (codes "go") ≡ false
  pub jump : bytes_eq word (codes "jump") ≡ false
  pub branch : bytes_eq word (codes "branch") ≡ false
  pub return : bytes_eq word (codes "return") ≡ false

none_of : (a b : Bool) → (a || b) ≡ false → (a ≡ false) × (b ≡ false)
none_of true b e = (e, none b e)
  where
    none : (b : Bool) → true ≡ false → b ≡ false
    none true e = e
    none false e = refl
none_of false b e = (refl, e)

plain : (word : List ℕ) → is_keyword word ≡ false → Plain word
plain word k =
    let a = none_of (bytes_eq word (codes "print")) _ k in
    let b = none_of (bytes_eq word (codes "call")) _ a.1 in
    let c = none_of (bytes_eq word (codes "go")) _ b.1 in
    let d = none_of (bytes_eq word (codes "jump")) _ c.1 in
    let e = none_of (bytes_eq word (codes "branch")) _ d.1 in
    record { call = b.0; go = c.0; jump = d.0; branch = e.0; return = e.1 }

acting_back : (words : List (List ℕ)) (removes : List ℕ) (a : NamedAction) → Worded words → read_action words ≡ Some a
    → AreRegions removes
    → read_op (words ++ removes_word removes ∷ []) ≡ Some (record { op = code_op a.op (removing removes); name = a.name })
acting_back [] removes a w e r = absurd (omega (arith, w.some))
acting_back (word ∷ words) removes a w e r =
    let p = plain word w.plain in
    let all = (word ∷ words) ++ removes_word removes ∷ [] in
    let len : length (word ∷ words) ≡ length all - 1 =
    omega (arith, length-append (word ∷ words) (removes_word removes ∷ [])) in
    let front : take (length all - 1) all ≡ word ∷ words =
    take_at (word ∷ words) (removes_word removes ∷ []) (length all - 1) len in
    let last : last_of all ≡ removes_word removes = get_or_at (word ∷ words) (removes_word removes) [] [] (length all - 1) len in
    rw (p.call, p.go, p.jump, p.branch, p.return)
    (ap (λ ws. on_some (read_action ws) (λ a. on_some (read_removes (last_of all)) (λ removes.
    Some (record { op = code_op a.op (removing removes); name = a.name })))) front
    ∙ ap (λ o. on_some o (λ a. on_some (read_removes (last_of all)) (λ removes.
    Some (record { op = code_op a.op (removing removes); name = a.name })))) e
    ∙ ap (λ w. on_some (read_removes w) (λ removes. Some (record { op = code_op a.op (removing removes); name = a.name }))) last
    ∙ ap (λ o. on_some o (λ removes. Some (record { op = code_op a.op (removing removes); name = a.name })))
    (regions_back 45 removes r))

-- ---- operations are read back

known : (n : ℕ) (name from : List ℕ) → AwaitsNumber n name → AreSmall from
    → read_callee (callee_word (name_at (name ∷ []) n) from) ≡ Some (record { name = name; from = from })
known n name from i s =
    subst (λ m. read_callee (callee_word (name_at (name ∷ []) m) from) ≡ Some (record { name = name; from = from })) (sym i.0)
    (callee_back name from i.1 s)

pub op_back : (op : CodeOp) (name : List ℕ) → OpHasText op → OpIsNamed op name → ¬ (IsPrint op)
    → read_op (op_words (only_name name) op) ≡ Some (record { op = op; name = name })
op_back (Do to action from removes) name f i p =
    acting_back (action_words (only_name name) action to from) removes (record { op = tac.Do to action from; name = name })
    (action_worded action to from name f.0 f.1 f.2 f.3 i)
    (action_back action to from name f.0 f.1 f.2 f.3 i) f.4
op_back (Call to n from passes protects removes) name f i p =
    rw (value_back to f.0, known n name from i f.1, passes_back passes f.2, regions_back 80 protects f.3, regions_back 45 removes f.4)
    (ap (λ m. Some (record { op = Call to m from passes protects removes; name = name })) (sym i.0))
op_back (Go n from passes removes) name f i p =
    rw (known n name from i f.0, passes_back passes f.1, regions_back 45 removes f.2)
    (ap (λ m. Some (record { op = Go m from passes removes; name = name })) (sym i.0))
op_back (Print pieces from removes) name f i p = absurd (p tt)
op_back (Jump target removes) name f i p =
    rw (number_back target f.0, regions_back 45 removes f.1)
    (ap (λ w. Some (record { op = Jump target removes; name = w })) (sym i))
op_back (Branch test target removes other otherwise) name f i p =
    rw (number_back test f.0, number_back target f.1, number_back other f.3, regions_back 45 removes f.2, regions_back 45 otherwise f.4)
    (ap (λ w. Some (record { op = Branch test target removes other otherwise; name = w })) (sym i))
op_back (Return value) name f i p =
    rw (value_back value f) (ap (λ w. Some (record { op = Return value; name = w })) (sym i))

-- ---- what is read

pub record OpIs (words : List (List ℕ)) (o : NamedOp) : Type 0 where
  pub words_are : words ≡ op_words (only_name o.name) o.op
  pub fits : NamedOpFits o

made : (words : List (List ℕ)) (o : NamedOp) (op : CodeOp) (name : List ℕ) → Some (record { op = op; name = name }) ≡ Some o
    → words ≡ op_words (only_name name) op → OpHasText op → OpIsNamed op name → OpIs words o
made words o op name e w f i =
    subst (OpIs words) (some_same (record { op = op; name = name }) o e) (record { words_are = w; fits = (f, i) })

last_parts : (words : List (List ℕ)) → 0 < length words → words ≡ take (length words - 1) words ++ last_of words ∷ []
last_parts [] l = absurd (omega (arith, l))
last_parts (w ∷ words) l =
    let all = w ∷ words in
    let next : length all - 1 + 1 ≡ length all = omega (arith, l) in
    sym (take_all (length all) all (omega arith)) ∙ ap (λ n. take n all) (sym next)
    ∙ take_more all (length all - 1) [] (omega (arith, l))

acting_is : (words : List (List ℕ)) (o : NamedOp) → 0 < length words → read_action_op words ≡ Some o → OpIs words o
acting_is words o l e =
    let a = after_some (read_action (take (length words - 1) words)) _ o e in
    let r = after_some (read_removes (last_of words)) _ o a.is in
    let i = action_is (take (length words - 1) words) a.value a.was in
    let n = regions_is 45 (last_of words) r.value r.was in
    made words o (Do i.to i.action i.from r.value) a.value.name
    (ap (λ op. Some (record { op = code_op op (removing r.value); name = a.value.name })) (sym i.op_is) ∙ r.is)
    (last_parts words l ∙ ap (λ ws. ws ++ last_of words ∷ []) i.words_are
    ∙ ap (λ w. action_words (only_name a.value.name) i.action i.to i.from ++ w ∷ []) n.0)
    (i.instruction, i.fits, i.value, i.small, n.1) i.named

of_length_was : (n : ℕ) (words : List (List ℕ)) (op : Option NamedOp) (o : NamedOp) → of_length n words op ≡ Some o
    → (length words ≡ n) × (op ≡ Some o)
of_length_was n words op o e =
    let u = under (length words == n) op o e in ((Decides-eqb (length words) n).0 u.holds, u.is)

calling_is : (words : List (List ℕ)) (o : NamedOp) → nth_word words 0 ≡ codes "call" → of_length 6 words (read_call words) ≡ Some o
    → OpIs words o
calling_is words o w e =
    let l = of_length_was 6 words (read_call words) o e in
    let v = after_some (read_value (nth_word words 1)) _ o l.1 in
    let c = after_some (read_callee (nth_word words 2)) _ o v.is in
    let p = after_some (read_passes (nth_word words 3)) _ o c.is in
    let q = after_some (read_regions 80 (nth_word words 4)) _ o p.is in
    let r = after_some (read_removes (nth_word words 5)) _ o q.is in
    let vi = value_is (nth_word words 1) v.value v.was in
    let ci = callee_is (nth_word words 2) c.value c.was in
    let pi = passes_is (nth_word words 3) p.value p.was in
    let qi = regions_is 80 (nth_word words 4) q.value q.was in
    let ri = regions_is 45 (nth_word words 5) r.value r.was in
    made words o (Call v.value 0 c.value.from p.value q.value r.value) c.value.name r.is
    (six_of words l.0
    ∙ ap (λ w. w ∷ nth_word words 1 ∷ nth_word words 2 ∷ nth_word words 3 ∷ nth_word words 4 ∷ nth_word words 5 ∷ []) w
    ∙ ap (λ w. codes "call" ∷ w ∷ nth_word words 2 ∷ nth_word words 3 ∷ nth_word words 4 ∷ nth_word words 5 ∷ []) vi.0
    ∙ ap (λ w. codes "call" ∷ value_word v.value ∷ w ∷ nth_word words 3 ∷ nth_word words 4 ∷ nth_word words 5 ∷ []) ci.word_is
    ∙ ap (λ w. codes "call" ∷ value_word v.value ∷ callee_word c.value.name c.value.from ∷ w ∷ nth_word words 4
    ∷ nth_word words 5 ∷ []) pi.0
    ∙ ap (λ w. codes "call" ∷ value_word v.value ∷ callee_word c.value.name c.value.from ∷ passes_word p.value ∷ w
    ∷ nth_word words 5 ∷ []) qi.0
    ∙ ap (λ w. codes "call" ∷ value_word v.value ∷ callee_word c.value.name c.value.from ∷ passes_word p.value
    ∷ protects_word q.value ∷ w ∷ []) ri.0)
    (vi.1, ci.small, pi.1, qi.1, ri.1) (refl, ci.name)

starting_is : (words : List (List ℕ)) (o : NamedOp) → nth_word words 0 ≡ codes "go" → of_length 4 words (read_go words) ≡ Some o
    → OpIs words o
starting_is words o w e =
    let l = of_length_was 4 words (read_go words) o e in
    let c = after_some (read_callee (nth_word words 1)) _ o l.1 in
    let p = after_some (read_passes (nth_word words 2)) _ o c.is in
    let r = after_some (read_removes (nth_word words 3)) _ o p.is in
    let ci = callee_is (nth_word words 1) c.value c.was in
    let pi = passes_is (nth_word words 2) p.value p.was in
    let ri = regions_is 45 (nth_word words 3) r.value r.was in
    made words o (Go 0 c.value.from p.value r.value) c.value.name r.is
    (four_of words l.0 ∙ ap (λ w. w ∷ nth_word words 1 ∷ nth_word words 2 ∷ nth_word words 3 ∷ []) w
    ∙ ap (λ w. codes "go" ∷ w ∷ nth_word words 2 ∷ nth_word words 3 ∷ []) ci.word_is
    ∙ ap (λ w. codes "go" ∷ callee_word c.value.name c.value.from ∷ w ∷ nth_word words 3 ∷ []) pi.0
    ∙ ap (λ w. codes "go" ∷ callee_word c.value.name c.value.from ∷ passes_word p.value ∷ w ∷ []) ri.0)
    (ci.small, pi.1, ri.1) (refl, ci.name)

jumping_is : (words : List (List ℕ)) (o : NamedOp) → nth_word words 0 ≡ codes "jump" → of_length 3 words (read_jump words) ≡ Some o
    → OpIs words o
jumping_is words o w e =
    let l = of_length_was 3 words (read_jump words) o e in
    let t = after_some (read_number (nth_word words 1)) _ o l.1 in
    let r = after_some (read_removes (nth_word words 2)) _ o t.is in
    let ti = number_sound (nth_word words 1) t.value t.was in
    let ri = regions_is 45 (nth_word words 2) r.value r.was in
    made words o (Jump t.value r.value) [] r.is
    (three_of words l.0 ∙ ap (λ w. w ∷ nth_word words 1 ∷ nth_word words 2 ∷ []) w
    ∙ ap (λ w. codes "jump" ∷ w ∷ nth_word words 2 ∷ []) ti.0 ∙ ap (λ w. codes "jump" ∷ decimal t.value ∷ w ∷ []) ri.0)
    (ti.1, ri.1) refl

branching_is : (words : List (List ℕ)) (o : NamedOp) → nth_word words 0 ≡ codes "branch"
    → of_length 6 words (read_branch words) ≡ Some o → OpIs words o
branching_is words o w e =
    let l = of_length_was 6 words (read_branch words) o e in
    let b = after_some (branch_of words) _ o l.1 in
    let r = after_some (read_removes (nth_word words 3)) _ o b.is in
    let s = after_some (read_removes (nth_word words 5)) _ o r.is in
    let v = after_some (read_variable (nth_word words 1)) _ b.value b.was in
    let t = after_some (read_number (nth_word words 2)) _ b.value v.is in
    let n = after_some (read_number (nth_word words 4)) _ b.value t.is in
    let vi = lettered_is 118 (nth_word words 1) v.value v.was in
    let ti = number_sound (nth_word words 2) t.value t.was in
    let ni = number_sound (nth_word words 4) n.value n.was in
    let ri = regions_is 45 (nth_word words 3) r.value r.was in
    let si = regions_is 45 (nth_word words 5) s.value s.was in
    made words o (Branch v.value t.value r.value n.value s.value) []
    (ap (λ op. with_ways op r.value s.value) (some_same (tac.Branch v.value t.value n.value) b.value n.is) ∙ s.is)
    (six_of words l.0
    ∙ ap (λ w. w ∷ nth_word words 1 ∷ nth_word words 2 ∷ nth_word words 3 ∷ nth_word words 4 ∷ nth_word words 5 ∷ []) w
    ∙ ap (λ w. codes "branch" ∷ w ∷ nth_word words 2 ∷ nth_word words 3 ∷ nth_word words 4 ∷ nth_word words 5 ∷ []) vi.0
    ∙ ap (λ w. codes "branch" ∷ variable_word v.value ∷ w ∷ nth_word words 3 ∷ nth_word words 4 ∷ nth_word words 5 ∷ []) ti.0
    ∙ ap (λ w. codes "branch" ∷ variable_word v.value ∷ decimal t.value ∷ w ∷ nth_word words 4 ∷ nth_word words 5 ∷ []) ri.0
    ∙ ap (λ w. codes "branch" ∷ variable_word v.value ∷ decimal t.value ∷ removes_word r.value ∷ w ∷ nth_word words 5 ∷ []) ni.0
    ∙ ap (λ w. codes "branch" ∷ variable_word v.value ∷ decimal t.value ∷ removes_word r.value ∷ decimal n.value ∷ w ∷ []) si.0)
    (vi.1, ti.1, ri.1, ni.1, si.1) refl

returning_is : (words : List (List ℕ)) (o : NamedOp) → nth_word words 0 ≡ codes "return"
    → of_length 2 words (read_return words) ≡ Some o → OpIs words o
returning_is words o w e =
    let l = of_length_was 2 words (read_return words) o e in
    let v = after_some (read_value (nth_word words 1)) _ o l.1 in
    let vi = value_is (nth_word words 1) v.value v.was in
    made words o (Return v.value) [] v.is
    (two_of words l.0 ∙ ap (λ w. w ∷ nth_word words 1 ∷ []) w ∙ ap (λ w. codes "return" ∷ w ∷ []) vi.0) vi.1 refl

pub op_is : (words : List (List ℕ)) (o : NamedOp) → 0 < length words → read_op words ≡ Some o → OpIs words o
op_is words o l e =
    by_word (nth_word words 0) (codes "call") _ _ o (OpIs words o) e (λ w q. calling_is words o w q) (λ e.
    by_word (nth_word words 0) (codes "go") _ _ o (OpIs words o) e (λ w q. starting_is words o w q) (λ e.
    by_word (nth_word words 0) (codes "jump") _ _ o (OpIs words o) e (λ w q. jumping_is words o w q) (λ e.
    by_word (nth_word words 0) (codes "branch") _ _ o (OpIs words o) e (λ w q. branching_is words o w q) (λ e.
    by_word (nth_word words 0) (codes "return") _ _ o (OpIs words o) e (λ w q. returning_is words o w q)
    (λ q. acting_is words o l q)))))
